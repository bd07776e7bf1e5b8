-- 01, 'The place', with E6 of 02: steps (member numbers, element numbers, column numbers) lead from a DATA type to a leaf. Fed the type
-- and member records, the start and the steps, never a row.
-- Assumes nothing.
use Rattle.std.specs.Prelude.{Bool, List, [], ◌∷◌, ℕ, ◌+◌, ltb, Option, Some, None}
use Rattle.ir_records.specs.Result.{pick}
use Rattle.ir_records.specs.Record.{type_count, Decoded, decoded}
use Rattle.place_steps.specs.Steps.{is_leaf, step_of}
use Rattle.place_steps.specs.Step.{Step}
use Rattle.place_steps.specs.Step.{To, Column, NoStep}
use Rattle.place_descent.specs.declared.Place as code

-- the byte place of a leaf and its type; of a column, the matrix's type
pub data Place : Type 0 where
  At : (byte leaf : ℕ) → Place
  NoPlace : Place

-- what the code's answers say
abbrev pub found_place : Option code.Place → Place
found_place (Some p) = At p.byte p.leaf
found_place None = NoPlace

-- a column is reached: there the steps must end. The answered type is the matrix's
abbrev pub ended : (byte ty : ℕ) → (rest : List ℕ) → Place
ended byte ty [] = At byte ty
ended byte ty (s ∷ steps) = NoPlace

abbrev pub follow : Step → (column : ℕ → Place) (rest : ℕ → ℕ → Place) → Place
follow (To ty bytes) column rest = rest ty bytes
follow (Column bytes) column rest = column bytes
follow NoStep column rest = NoPlace

-- a type and a byte place are held; at a leaf the steps must end
abbrev pub walk : (step : ℕ → ℕ → Step) (leaf : ℕ → Bool) → (ty byte : ℕ) → List ℕ → Place
walk step leaf ty byte [] = pick (leaf ty) (At byte ty) NoPlace
walk step leaf ty byte (s ∷ steps) =
    follow (step ty s) (λ bytes. ended (byte + bytes) ty steps) (λ next bytes. walk step leaf next (byte + bytes) steps)

-- in an arena of decoded records
abbrev pub step_in : (types : ℕ → Decoded) → ℕ → ℕ → Step
step_in types ty s = step_of (types ty).inner (types ty).members s

abbrev pub leaf_in : (types : ℕ → Decoded) → ℕ → Bool
leaf_in types ty = is_leaf (types ty).inner

abbrev pub place_in : (types : ℕ → Decoded) → (ty byte : ℕ) → List ℕ → Place
place_in types = walk (step_in types) (leaf_in types)

-- at first the start and 0. Another start, or steps too few, too many or out of range, is no place
unfoldable pub place_of : (ts ms : List ℕ) → (start : ℕ) → (steps : List ℕ) → Place
place_of ts ms start steps = pick (ltb start (type_count ts)) (place_in (decoded ts ms) start 0 steps) NoPlace
