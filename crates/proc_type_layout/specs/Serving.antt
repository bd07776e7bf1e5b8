-- Serves the contracts of functions inside the library: it adds nothing to what the other files say, and a reader may skip it.
-- Assumes nothing.
use Rattle.std.specs.Prelude.{List, ℕ}
use Rattle.ir_records.specs.Result.{Result, require}
use Rattle.ir_records.specs.Record.{member_count, type_count, type_word, inner_of, struct_members}
use Rattle.ir_records.specs.Fields.{fields_ok, base_within, sources_located}
use Rattle.proc_type_alignment.specs.declared.TypeLayout.{TypeLayout}
use Rattle.proc_type_layout.specs.TypeLayout.{layout_of}

-- ---- numbers 2 to 7 in one: of a record with these words, in an arena of n types and m member rows
abbrev pub words_layout : (m n : ℕ) (layouts : ℕ → TypeLayout) (i kind a b c d e : ℕ) (members : List ℕ) → Result TypeLayout
words_layout m n layouts i kind a b c d e members =
    require (fields_ok m kind a b c d e) 2 0 0
    (require (base_within n kind a) 3 0 0
    (layout_of layouts i (inner_of kind a b c d e) members))

-- the same of record i
unfoldable pub record_layout : (ts ms : List ℕ) (layouts : ℕ → TypeLayout) → ℕ → Result TypeLayout
record_layout ts ms layouts i =
    require (sources_located (struct_members ts ms i)) 2 0 0
    (words_layout (member_count ms) (type_count ts) layouts i (type_word ts i 0) (type_word ts i 1) (type_word ts i 2) (type_word ts i 3) (type_word ts i 4) (type_word ts i 5)
    (struct_members ts ms i))
