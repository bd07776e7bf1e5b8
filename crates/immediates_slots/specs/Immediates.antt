-- 01, 'The slot word': what the call for the slots of a type answers, by the arena check (valid_arena: Arena) and the walk (immediates_walk: Walk).
-- Assumes nothing.
use Rattle.std.specs.Prelude.{List, ℕ, ltb}
use Rattle.ir_records.specs.Result.{pick}
use Rattle.ir_records.specs.Record.{decoded, type_count}
use Rattle.ir_records.specs.Outcome.{Outcome}
use Rattle.ir_records.specs.Outcome as outcome
use Rattle.valid_arena.specs.Arena.{arena_answer}
use Rattle.immediates_ranges.specs.Answer.{SlotsAnswer}
use Rattle.immediates_ranges.specs.Answer as answer
use Rattle.immediates_ranges.specs.Slots.{part_answer}
use Rattle.immediates_walk.specs.Walk.{slots_at}

-- the call: the arena's refusal is passed on; 26 for a type outside the arena; then 25. Both carry zeros only
abbrev pub type_answer : (ts ms : List ℕ) (ty offset : ℕ) → Outcome → SlotsAnswer
type_answer ts ms ty offset outcome.Accepted =
    pick (ltb ty (type_count ts)) (part_answer (slots_at (decoded ts ms) ty offset)) (answer.Refused 26 0 0 0)
type_answer ts ms ty offset (outcome.Refused number t member detail) = answer.Refused number t member detail

-- the arena is judged first
unfoldable pub slots_answer : (c : ℕ) (ts ms rows : List ℕ) (ty offset : ℕ) → SlotsAnswer
slots_answer c ts ms rows ty offset = type_answer ts ms ty offset (arena_answer c ts ms rows)
