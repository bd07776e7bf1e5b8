-- Parts that are kept: one for each type and each remainder of an offset by 4. No term of 01 or 02; it is how the code remembers them: Unwalked where
-- nothing is kept, else what was found.
-- Assumes nothing.
use Rattle.std.specs.Prelude.{◌≡◌, List, [], ℕ, ◌<◌, get_or, Option, Some, None}
use Rattle.immediates_part.specs.Part.{Part, part_found}
use Rattle.immediates_part.specs.declared.Part as code
use Rattle.immediates_kept.specs.declared.Kept.{Kept}
use Rattle.immediates_kept.specs.declared.Kept.TheVariants.{Unwalked, Past, Within}

-- the part that is kept: None where nothing is
abbrev pub part_kept : Kept → Option (Option code.Part)
part_kept Unwalked = None
part_kept Past = Some None
part_kept (Within part) = Some (Some part)

-- how a part is kept
abbrev pub kept_of : Option code.Part → Kept
kept_of (Some part) = Within part
kept_of None = Past

-- every part that is kept is the one that f gives
abbrev pub Keeps : (f : ℕ → ℕ → Part) (kept : List (List Kept)) → Type 0
Keeps f kept = (ty low : ℕ) (part : Option code.Part) → low < 4 → part_kept (get_or (get_or kept ty []) low Unwalked) ≡ Some part → part_found part ≡ f ty low
