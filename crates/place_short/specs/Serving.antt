-- Serves the contracts of functions inside the library: it adds nothing to what the other files say, and a reader may skip it.
-- Assumes nothing.
use Rattle.std.specs.Prelude.{List, ℕ}
use Rattle.ir_records.specs.Result.{Result, err, ok, and_then}
use Rattle.ir_records.specs.Record.{type_inner, struct_members}
use Rattle.ir_records.specs.Table.{flat}
use Rattle.ir_rows.specs.Rows.{with_part}
use Rattle.proc_type_alignment.specs.declared.TypeLayout.{TypeLayout}
use Rattle.proc_type_layout.specs.TypeLayout.{layout_of}
use Rattle.valid_types.specs.ValidateType.{flags_of}
use Rattle.place_short_layout.specs.ShortRows.{short_width, three_words, short_layouts}
use Rattle.place_short_flags.specs.ShortFlags.{short_sizes, short_flags}
use Rattle.place_short.specs.Short.{three_at}

-- the three words of type i, or its refusal, from the words of the types before it
abbrev pub layout_from : (ts ms words : List ℕ) → ℕ → Result TypeLayout
layout_from ts ms words i = layout_of (short_layouts words) i (type_inner ts i) (struct_members ts ms i)

unfoldable pub three_from : (c : ℕ) (ts ms words : List ℕ) → ℕ → Result (List ℕ)
three_from c ts ms words i =
    and_then (layout_from ts ms words i)
    (λ l. and_then (flags_of c (type_inner ts) (short_sizes words) (short_flags words) (type_inner ts i) (struct_members ts ms i)) (λ flags. ok (three_words l.size l.alignment flags)))

-- from those of the types before it, as they are on acceptance
abbrev pub three_result : (c : ℕ) (ts ms : List ℕ) → ℕ → Result (List ℕ)
three_result c ts ms i = three_from c ts ms (flat (three_at c ts ms) i) i

-- the same with the layout alone, and no flags
unfoldable pub laid_from : (ts ms words : List ℕ) → ℕ → Result (List ℕ)
laid_from ts ms words i = and_then (layout_from ts ms words i) (λ l. ok (three_words l.size l.alignment 0))

-- written from `at` on where there is no refusal
abbrev pub written_after : Result (List ℕ) → (at : ℕ) → List ℕ → List ℕ
written_after (ok three) at words = with_part short_width words at three
written_after (err number member detail) at words = words
