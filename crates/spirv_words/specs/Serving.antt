-- Serves the contracts of functions inside the library: it adds nothing to what the other files say, and a reader may skip it.
-- Assumes nothing.
use Rattle.std.specs.Prelude.{◌≡◌, Bool, ℕ, ◌<◌, ◌^◌}

-- what a closure answers of a place is a test of it
abbrev pub Tells : (post : ℕ → Bool → Type 0) (test : ℕ → Bool) → Type 0
Tells post test = (p : ℕ) (r : Bool) → p < 2 ^ 64 → post p r → r ≡ test p
