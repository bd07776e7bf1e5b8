-- Serves the contracts of functions inside the library: it adds nothing to what the other files say, and a reader may skip it.
-- Assumes nothing.
use Rattle.std.specs.Prelude.{◌≡◌, ℕ, ◌+◌, ◌^◌, ◌≤◌, ◌<◌}
use Rattle.ir_records.specs.Record.{Decoded}
use Rattle.ir_records.specs.Serving.{InnerBounds}
use Rattle.place_steps.specs.Step.{To, Column}
use Rattle.place_descent.specs.Place.{step_in}

-- ---- what the code asks of the n types of an arena, so that no byte place passes 64 bits
-- most t: the bytes that steps from type t add at most, in all. A step leads to a type of the arena, and what it adds and the most from
-- there are within the most from here; so is what a step to a column adds. The fields are within the bounds that number 2 leaves
pub record Descends (types : ℕ → Decoded) (n : ℕ) : Type 0 where
  pub most : ℕ → ℕ
  pub fits : (t : ℕ) → t < n → most t < 2 ^ 64
  pub step : (t s ty bytes : ℕ) → t < n → step_in types t s ≡ To ty bytes → (ty < n) × (bytes + most ty ≤ most t)
  pub column : (t s bytes : ℕ) → t < n → step_in types t s ≡ Column bytes → bytes ≤ most t
  pub bounds : (t : ℕ) → t < n → InnerBounds (types t).inner
