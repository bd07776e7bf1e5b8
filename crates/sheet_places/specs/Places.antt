-- The layout sheet: a module cut before an instruction, and whether what is left is refused.
-- Assumes nothing.
use Rattle.std.specs.Prelude.{ℕ, zero, suc, Bool, true, false, List, length, take, ◌+◌, ◌==◌, nat_lt}
use Rattle.ir_records.specs.Result.{pick}
use Rattle.spirv_words.specs.Module.{header_words, word_count}
use Rattle.spirv_read.specs.Section.{Section, Read, Refused}

-- the instruction after the one at `at`: further by its word count, and where that is 0 the end of the words
abbrev pub after_instruction : (ws : List ℕ) (at : ℕ) → ℕ
after_instruction ws at = pick (word_count ws at == 0) (length ws) (at + word_count ws at)

-- so many instructions after the one at `at`; past the words where there are fewer
unfoldable pub place_from : (ws : List ℕ) (left at : ℕ) → ℕ
place_from ws zero at = at
place_from ws (suc left) at = pick (nat_lt at (length ws)) (place_from ws left (after_instruction ws at)) at

-- where the instruction with number k stands
abbrev pub place_of : (ws : List ℕ) (k : ℕ) → ℕ
place_of ws k = place_from ws k header_words

-- the words before it
abbrev pub words_before : (ws : List ℕ) (k : ℕ) → List ℕ
words_before ws k = take (place_of ws k) ws

-- the answer of the reader is a refusal
abbrev pub is_refusal : Section → Bool
is_refusal (Read types members) = false
is_refusal (Refused number) = true
