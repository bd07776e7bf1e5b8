-- Serves the contracts of functions inside the library: it adds nothing to what the other files say, and a reader may skip it.
-- Assumes nothing.
use Rattle.std.specs.Prelude.{ℕ, List}
use Rattle.ir_records.specs.Fields.{row_words}
use Rattle.ir_rows.specs.Rows.{with_part}

-- the words with those of one row replaced
abbrev pub with_row : List ℕ → (at : ℕ) → (row : List ℕ) → List ℕ
with_row = with_part row_words
