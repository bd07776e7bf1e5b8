-- Serves the contracts of functions inside the library: it adds nothing to what the other files say, and a reader may skip it.
-- Assumes nothing.
use Rattle.std.specs.Prelude.{◌≡◌, List, ℕ, Result, MatchResult}
use Rattle.ir_records.specs.declared.Refusal.{Refusal}
use Rattle.program_output.specs.declared.Output.{Output}
use Rattle.program_output.specs.Bytes.{Adds}
use Rattle.program_answers.specs.Answered.{line_for}

-- the bytes are put; or they are the line of the refusal, which the caller puts
abbrev pub Told : Result (Unit {0}) Refusal → Output → List ℕ → Output → Type 0
Told result was bytes is = MatchResult result (λ _. Adds was bytes is) (λ refusal. (line_for refusal ≡ bytes) × (is ≡ was))
