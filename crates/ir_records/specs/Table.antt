-- What is made type by type, in ascending order: a table of values, each from those before it, and the first refusal.
-- Assumes nothing.
use Rattle.std.specs.Prelude.{List, [], ◌++◌, ℕ, zero, suc, eqb}
use Rattle.ir_records.specs.Result.{Result, err, ok, pick, value_or}
use Rattle.ir_records.specs.Outcome.{Outcome}
use Rattle.ir_records.specs.Outcome.{Accepted, Refused}

-- the value of k once i values are made, each by `step` from those before it; `empty` from i on
abbrev pub table {ℓ} : {A : Type ℓ} → A → ((ℕ → A) → ℕ → Result A) → ℕ → ℕ → A
table empty step zero k = empty
table empty step (suc i) k = pick (eqb k i) (value_or empty (step (table empty step i) i)) (table empty step i k)

-- the result for i, from the values before it
unfoldable pub result_at {ℓ} : {A : Type ℓ} → A → ((ℕ → A) → ℕ → Result A) → ℕ → Result A
result_at empty step i = step (table empty step i) i

-- its value
unfoldable pub value_at {ℓ} : {A : Type ℓ} → A → ((ℕ → A) → ℕ → Result A) → ℕ → A
value_at empty step i = value_or empty (step (table empty step i) i)

-- one type's result as the arena's
abbrev pub outcome_at {ℓ} : {A : Type ℓ} → ℕ → Result A → Outcome
outcome_at i (err number member detail) = Refused number i member detail
outcome_at i (ok a) = Accepted

-- the second, where the first accepts
abbrev pub also : Outcome → Outcome → Outcome
also Accepted o = o
also (Refused number ty member detail) o = Refused number ty member detail

-- the first refusal among n types
abbrev pub first_refusal {ℓ} : {A : Type ℓ} → (ℕ → Result A) → ℕ → Outcome
first_refusal f zero = Accepted
first_refusal f (suc i) = also (first_refusal f i) (outcome_at i (f i))

-- the rows of n types, one after the other
abbrev pub flat : (ℕ → List ℕ) → ℕ → List ℕ
flat row zero = []
flat row (suc i) = flat row i ++ row i
