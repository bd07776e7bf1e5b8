-- 01, 'The refusal': what a call over an arena leaves in the rows that it is lent, by its answer: fourteen words for each type.
-- Assumes nothing.
use Rattle.std.specs.Prelude.{Bool, List, ◌++◌, ℕ, ◌*◌, drop}
use Rattle.ir_records.specs.Result.{pick}
use Rattle.ir_records.specs.Fields.{row_words}
use Rattle.ir_records.specs.Outcome.{Outcome}
use Rattle.ir_records.specs.Outcome.{Accepted, Refused}
use Rattle.ir_rows.specs.Rows.{cleared}

-- acceptance fills those words of n types with their rows, every refusal but number 1 zeroes them; both leave the rest
abbrev pub rows_after : Outcome → (rows : List ℕ) (n : ℕ) → List ℕ → List ℕ
rows_after Accepted rows n words = rows ++ drop (n * row_words) words
rows_after (Refused number ty member detail) rows n words = cleared words (n * row_words)

-- number 1 touches nothing; `fits`: its tests are passed
abbrev pub lent_after : (fits : Bool) → Outcome → (rows : List ℕ) (n : ℕ) → List ℕ → List ℕ
lent_after fits outcome rows n words = pick fits (rows_after outcome rows n words) words
