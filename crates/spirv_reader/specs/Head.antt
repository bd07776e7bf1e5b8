-- What stands at a position of a list of words: a word, or nothing at the end of the words.
-- Assumes nothing.
use Rattle.std.specs.Prelude.{List, Option, Some, None, ℕ, ltb, length, get_or}
use Rattle.ir_records.specs.Result.{pick}

abbrev pub head_at : (ws : List ℕ) (at : ℕ) → Option ℕ
head_at ws at = pick (ltb at (length ws)) (Some (get_or ws at 0)) None
