-- Serves the contracts of functions inside the library: it adds nothing to what the other files say, and a reader may skip it.
-- Assumes nothing.
use Rattle.std.specs.Prelude.{List, ℕ, ◌+◌, ◌*◌, get_or}
use Rattle.proc_plain_types.specs.PlainTypes.{PlainAnswer}
use Rattle.proc_plain_types.specs.PlainTypes.{Found}

-- ---- what the code has: the entry of a table that goes shape by shape, through the widths in their places
unfoldable pub entry_in : (numbers : List ℕ) (shape place : ℕ) → PlainAnswer
entry_in numbers shape place =
    Found
    (get_or numbers ((shape * 4 + place) * 3) 0)
    (get_or numbers ((shape * 4 + place) * 3 + 1) 0)
    (get_or numbers ((shape * 4 + place) * 3 + 2) 0)
