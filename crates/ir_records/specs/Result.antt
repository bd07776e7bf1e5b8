-- What the judgement of one type or one member gives: a value, or a refusal with its number, the member's position and the detail.
-- Assumes nothing.
use Rattle.std.specs.Prelude.{Bool, true, false, ℕ}

pub data Result {ℓ} (A : Type ℓ) : Type ℓ where
  err : (number member detail : ℕ) → Result A
  ok : A → Result A

-- the first value where the test holds, else the second
abbrev pub pick {ℓ} : {A : Type ℓ} → Bool → A → A → A
pick true a b = a
pick false a b = b

-- the rest, where the test holds; else the refusal
abbrev pub require {ℓ} : {A : Type ℓ} → Bool → (number member detail : ℕ) → Result A → Result A
require true n m d rest = rest
require false n m d rest = err n m d

-- the rest, fed with the value; a refusal stays
abbrev pub and_then {ℓ κ} : {A : Type ℓ} {B : Type κ} → Result A → (A → Result B) → Result B
and_then (err n m d) rest = err n m d
and_then (ok a) rest = rest a

-- the value, or z in a refusal's place
abbrev pub value_or {ℓ} : {A : Type ℓ} → A → Result A → A
value_or z (err n m d) = z
value_or z (ok a) = a
