-- Serves the contracts of functions inside the library: it adds nothing to what the other files say, and a reader may skip it.
-- Assumes nothing.
use Rattle.std.specs.Prelude.{List, ℕ, ltb}
use Rattle.ir_records.specs.Result.{pick}
use Rattle.ir_records.specs.Record.{type_count}
use Rattle.ir_records.specs.Outcome.{Outcome, Accepted, Refused}
use Rattle.ir_records.specs.Table.{also}
use Rattle.valid_arena.specs.Arena.{arena_answer}

-- the arena's refusal, then 26 for a type outside the arena
abbrev pub type_outcome : (c : ℕ) (ts ms rows : List ℕ) (ty : ℕ) → Outcome
type_outcome c ts ms rows ty = also (arena_answer c ts ms rows) (pick (ltb ty (type_count ts)) Accepted (Refused 26 0 0 0))
