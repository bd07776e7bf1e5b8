-- Serves the contracts of functions inside the library: it adds nothing to what the other files say, and a reader may skip it.
-- How many words are held: none fewer than before, and no more than there is room for.
-- Assumes nothing.
use Rattle.std.specs.Prelude.{ℕ, ◌≤◌, Result, Ok, Err}
use Rattle.from_spirv.specs.declared.InputError.{InputError}
use Rattle.from_spirv.specs.declared.Held.{Held}

abbrev pub HeldWithin : (least most : ℕ) → Result ℕ InputError → Type 0
HeldWithin least most (Ok n) = (least ≤ n) × (n ≤ most)
HeldWithin least most (Err error) = Unit {0}

abbrev pub count_of : Result Held InputError → Result ℕ InputError
count_of (Ok h) = Ok h.count
count_of (Err e) = Err e
