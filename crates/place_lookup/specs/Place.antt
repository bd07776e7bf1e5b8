-- 01, 'The place': the call. The arena's refusal is passed on; no place is 26, which carries zeros only.
-- Assumes nothing.
use Rattle.std.specs.Prelude.{List, ℕ}
use Rattle.ir_records.specs.Outcome.{Outcome}
use Rattle.ir_records.specs.Outcome as outcome
use Rattle.valid_arena.specs.Arena.{arena_answer}
use Rattle.place_descent.specs.Place.{Place}
use Rattle.place_descent.specs.Place.{At, NoPlace}
use Rattle.place_descent.specs.Place.{place_of}
use Rattle.place_lookup.specs.Answer.{PlaceAnswer}
use Rattle.place_lookup.specs.Answer as answer

abbrev pub place_answer : Place → PlaceAnswer
place_answer (At byte leaf) = answer.Found byte leaf
place_answer NoPlace = answer.Refused 26 0 0 0

abbrev pub start_answer : (ts ms : List ℕ) (start : ℕ) (steps : List ℕ) → Outcome → PlaceAnswer
start_answer ts ms start steps outcome.Accepted = place_answer (place_of ts ms start steps)
start_answer ts ms start steps (outcome.Refused number ty member detail) = answer.Refused number ty member detail

unfoldable pub lookup_answer : (c : ℕ) (ts ms rows : List ℕ) (start : ℕ) (steps : List ℕ) → PlaceAnswer
lookup_answer c ts ms rows start steps = start_answer ts ms start steps (arena_answer c ts ms rows)
