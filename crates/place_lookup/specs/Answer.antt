-- 01, 'The place': what the call answers: the byte place of a leaf and its type, or a refusal.
-- Assumes nothing.
use Rattle.std.specs.Prelude.{ℕ, Result, Ok, Err}
use Rattle.ir_records.specs.Refusal.{number_of}
use Rattle.ir_records.specs.declared.Refusal.{Refusal}
use Rattle.place_descent.specs.declared.Place.{Place}

pub data PlaceAnswer : Type 0 where
  Found : (byte leaf : ℕ) → PlaceAnswer
  Refused : (number ty member detail : ℕ) → PlaceAnswer

-- what the code's answers say
abbrev pub place_answer_of : Result Place Refusal → PlaceAnswer
place_answer_of (Ok p) = Found p.byte p.leaf
place_answer_of (Err r) = Refused (number_of r.fault) r.ty r.member r.detail
