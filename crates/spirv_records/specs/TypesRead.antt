-- Where the types of a module are read, and the width of a scalar.
-- Assumes nothing.
use Rattle.std.specs.Prelude.{◌≡◌, true, ◌⊎◌, List, [], ◌∷◌, ℕ, ◌/◌, eqb, length}
use Rattle.ir_records.specs.Result.{pick}
use Rattle.spirv_words.specs.Module.{opcode, word, is_read, type_bool, before}

-- one of the list
abbrev pub Among : ℕ → List ℕ → Type 0
Among p [] = ⊥
Among p (q ∷ ps) = (p ≡ q) ⊎ Among p ps

-- an instruction that is read as a type stands at p, before word `end`
pub record ReadBefore (ws : List ℕ) (end p : ℕ) : Type 0 where
  pub among : Among p (before ws end)
  pub reads : is_read (opcode ws p) ≡ true

-- anywhere in the module
abbrev pub TypeReadAt : (ws : List ℕ) (p : ℕ) → Type 0
TypeReadAt ws p = ReadBefore ws (length ws) p

-- the width in bytes of the scalar at p, a Bool's being one
abbrev pub scalar_width : (ws : List ℕ) (p : ℕ) → ℕ
scalar_width ws p = pick (eqb (opcode ws p) type_bool) 1 (word ws p 2 / 8)
