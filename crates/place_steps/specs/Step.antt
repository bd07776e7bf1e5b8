-- 01, 'The place', with E6 of 02: what one step does: the next type and the bytes added; or the bytes to a column, where the steps end.
-- Assumes nothing.
use Rattle.std.specs.Prelude.{ℕ, Option, Some, None}
use Rattle.place_steps.specs.declared.Step as code
use Rattle.place_steps.specs.declared.Step.TheVariants as variant

pub data Step : Type 0 where
  To : (ty bytes : ℕ) → Step
  Column : (bytes : ℕ) → Step
  NoStep : Step

-- what the code's answers say
abbrev pub step_made : code.Step → Step
step_made (variant.To ty bytes) = To ty bytes
step_made (variant.Column bytes) = Column bytes

abbrev pub step_found : Option code.Step → Step
step_found (Some s) = step_made s
step_found None = NoStep
