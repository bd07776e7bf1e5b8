-- Serves the contracts of functions inside the library: it adds nothing to what the other files say, and a reader may skip it.
-- Assumes nothing.
use Rattle.std.specs.Prelude as std
use Rattle.ir_records.specs.Refusal.{judged, number_of}
use Rattle.ir_records.specs.declared.TypeRefusal.{TypeRefusal}
use Rattle.ir_records.specs.declared.Words.{Words}
use Rattle.valid_types.specs.declared.PlainRow.{PlainRow}
use Rattle.std.specs.Prelude.{List, ◌≡◌, ℕ, eqb}
use Rattle.ir_records.specs.Result.{Result, err, ok, pick, require, and_then}
use Rattle.proc_type_alignment.specs.declared.TypeLayout.{TypeLayout}
use Rattle.valid_flags.specs.Flags.{array_flags, runtime_array_flags, is_sized_data}
use Rattle.valid_type_info.specs.declared.Row.{Row}
use Rattle.valid_type_info.specs.Verdict.{min_storage, ok_verdict, array_verdict}
use Rattle.ir_rows.specs.Serving.{with_row}
use Rattle.valid_type_info.specs.TypeInfo.{words_of, rows_in}
use Rattle.ir_records.specs.Record.{type_inner, struct_members, inner_of}
use Rattle.ir_records.specs.declared.TypeInner.{TypeInner}
use Rattle.proc_type_alignment.specs.Serving.{layouts_in}
use Rattle.proc_type_layout.specs.Serving.{words_layout, record_layout}
use Rattle.valid_types.specs.ValidateType.{judge}

-- the row of a type that is neither array nor struct, with one alignment in both verdicts
abbrev pub plain_row : TypeLayout → (alignment immediates flags : ℕ) → Row
plain_row layout alignment immediates flags =
    record {
      size = layout.size;
      alignment = layout.alignment;
      flags = flags;
      uniform = ok_verdict alignment;
      storage = ok_verdict alignment;
      immediates = immediates;
    }

abbrev pub plain_result : std.Result PlainRow TypeRefusal → Result Row
plain_result (std.Ok p) = ok (plain_row p.layout p.verdict p.immediates p.flags)
plain_result (std.Err r) = err (number_of r.fault) r.member r.detail

-- the row of an array over a base, with the flags that its form leaves
abbrev pub array_row : (least i stride : ℕ) → (base : Row) → TypeLayout → (flags : ℕ) → Row
array_row least i stride base layout flags =
    record {
      size = layout.size;
      alignment = layout.alignment;
      flags = flags;
      uniform = array_verdict least i stride base.alignment base.uniform;
      storage = array_verdict min_storage i stride base.alignment base.storage;
      immediates = base.immediates;
    }

-- by the array's form: 0 for one of a count, else a runtime array
abbrev pub array_of : (least form i stride : ℕ) → (base : Row) → TypeLayout → Result Row
array_of least form i stride base layout =
    require (is_sized_data base.flags) 15 0 0 (ok (array_row least i stride base layout (pick (eqb form 0) (array_flags base.flags) (runtime_array_flags base.flags))))

-- the code's answer and what it makes of the lent words, by one type's judgement, whose row is to be written from `at` on
abbrev pub Settled : std.Result (Unit {0}) TypeRefusal → (at : ℕ) (before after : List ℕ) → Result Row → Type 0
Settled r at before after (ok row) = (judged r ≡ ok tt) × (after ≡ with_row before at (words_of row))
Settled r at before after (err number member detail) = (judged r ≡ err number member detail) × (after ≡ before)

-- ---- 01, 'The refusal' and 'The result row': numbers 2 to 7 of one type and then its row, both from the rows of the types before it.
-- of a record with these words, in an arena of n types and m member rows; `words` are the rows of the types before it
abbrev pub words_row : (least c m n : ℕ) (inner : ℕ → TypeInner) (words : List ℕ) (i kind a b d e f : ℕ) (members : List ℕ) → Result Row
words_row least c m n inner words i kind a b d e f members =
    and_then (words_layout m n (layouts_in words) i kind a b d e f members)
    (λ l. judge least c inner (rows_in words) i l (inner_of kind a b d e f) members)

-- what judging a record of this kind with the words w gave, after types with these rows, in an arena of n types that say `inner`; and in any arena
abbrev pub RowIn : std.Result PlainRow TypeRefusal → (c n : ℕ) (inner : ℕ → TypeInner) (words : List ℕ) (kind : ℕ) → Words → Type 0
RowIn result c n inner words kind w =
    (least m i : ℕ) (members : List ℕ) → plain_result result ≡ words_row least c m n inner words i kind w.a w.b w.c w.d w.e members

abbrev pub RowTold : std.Result PlainRow TypeRefusal → (c kind : ℕ) → Words → Type 0
RowTold result c kind w = (n : ℕ) (inner : ℕ → TypeInner) (words : List ℕ) → RowIn result c n inner words kind w

-- the same of record i
unfoldable pub record_row : (least c : ℕ) (ts ms words : List ℕ) → ℕ → Result Row
record_row least c ts ms words i =
    and_then (record_layout ts ms (layouts_in words) i)
    (λ l. judge least c (type_inner ts) (rows_in words) i l (type_inner ts i) (struct_members ts ms i))
