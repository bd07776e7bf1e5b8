-- 02, E11: what the call answers: the struct's type number, its span and the order, whose places order_numbers' Order tells; or a refusal.
-- Assumes nothing.
use Rattle.std.specs.Prelude.{ℕ, Result, Ok, Err}
use Rattle.ir_records.specs.Refusal.{number_of}
use Rattle.ir_records.specs.declared.Refusal.{Refusal}
use Rattle.order_call.specs.declared.OrderedStruct.{OrderedStruct}

pub data OrderAnswer : Type 0 where
  Found : (ty span order : ℕ) → OrderAnswer
  Refused : (number ty member detail : ℕ) → OrderAnswer

-- what the code's answers say
abbrev pub order_answer_of : Result OrderedStruct Refusal → OrderAnswer
order_answer_of (Ok o) = Found o.ty o.span o.order.number
order_answer_of (Err r) = Refused (number_of r.fault) r.ty r.member r.detail
