-- Laws of `Result`: what a value says of the tests and parts on the way to it. Laws of tests.
-- Assumes nothing.
use mathlib.Core.Path.{◌≡◌, refl}
use mathlib.Core.Bool.{Bool, true, false, ◌&&◌, ◌||◌}
use mathlib.Core.Logic.{◌⊎◌, inl, inr}
use Prim.Native.Nat.{ℕ, ◌≤◌}
use native.Mathlib.Omega.{arith}
use native.Mathlib.Decide.{dec_le}
use borrow.Author.Tests.{le-leb, lt-leb}
use lib.Dec.{T, leb}
use Rattle.ir_records.specs.Result.{Result, err, ok, pick, require, and_then}

-- whichever of two is picked, where both are alike to f
pub pick_alike {ℓ κ} : {A : Type ℓ} {B : Type κ} (f : A → B) (v : B) (t : Bool) (x y : A) → f x ≡ v → f y ≡ v → f (pick t x y) ≡ v
pick_alike f v true x y p q = p
pick_alike f v false x y p q = q

-- the same, where the first is alike if the test holds
pub pick_when {ℓ κ} : {A : Type ℓ} {B : Type κ} (f : A → B) (v : B) (t : Bool) (x y : A) → (t ≡ true → f x ≡ v) → f y ≡ v → f (pick t x y) ≡ v
pick_when f v true x y p q = p refl
pick_when f v false x y p q = q

pub required {ℓ} : {A : Type ℓ} (b : Bool) (n m d : ℕ) (o : Result A) (a : A) → require b n m d o ≡ ok a → T b × (o ≡ ok a)
required true n m d o a e = (tt, e)
required false n m d o a e = let z : ◌≡◌ {A = ℕ} 0 1 = cc in absurd (omega arith)

pub require_pass {ℓ} : {A : Type ℓ} (b : Bool) (n m d : ℕ) (o : Result A) → T b → require b n m d o ≡ o
require_pass true n m d o t = refl
require_pass false n m d o t = absurd t

pub and_then_ok {ℓ κ} : {A : Type ℓ} {B : Type κ} (o : Result A) (f : A → Result B) (b : B)
    → and_then o f ≡ ok b → (a : A) × (o ≡ ok a) × (f a ≡ ok b)
and_then_ok (err n m d) f b e = let z : ◌≡◌ {A = ℕ} 0 1 = cc in absurd (omega arith)
and_then_ok (ok a) f b e = (a, refl, e)

pub ok_inj {ℓ} : {A : Type ℓ} {a b : A} → ok a ≡ ok b → a ≡ b
ok_inj {a} {b} e = cc

-- a test in front of a refusal that is its own
pub refused_twice {ℓ} : {A : Type ℓ} (n m d : ℕ) (b : Bool) → require {A = A} b n m d (err n m d) ≡ err n m d
refused_twice n m d true = refl
refused_twice n m d false = refl

-- a test twice
pub require_twice {ℓ} : {A : Type ℓ} (b : Bool) (n m d : ℕ) (o : Result A) → require b n m d (require b n m d o) ≡ require b n m d o
require_twice true n m d o = refl
require_twice false n m d o = refl

-- a test in front of both is one in front of the first
pub require_then {ℓ κ} : {A : Type ℓ} {B : Type κ} (b : Bool) (n m d : ℕ) (o : Result A) (f : A → Result B)
    → require b n m d (and_then o f) ≡ and_then (require b n m d o) f
require_then true n m d o f = refl
require_then false n m d o f = refl

-- a test alone that let through
pub passed : (t : Bool) (n m d : ℕ) → ok tt ≡ require {A = Unit {0}} t n m d (ok tt) → t ≡ true
passed true n m d e = refl
passed false n m d e = let z : ◌≡◌ {A = ℕ} 0 1 = cc in absurd (omega arith)

-- one that refused does so in front of anything
pub refused_first {κ} : {B : Type κ} (t : Bool) (n m d x y z : ℕ) (o : Result B) → err x y z ≡ require {A = Unit {0}} t n m d (ok tt) → err x y z ≡ require t n m d o
refused_first true n m d x y z o e = let f : ◌≡◌ {A = ℕ} 0 1 = cc in absurd (omega arith)
refused_first {B = B} false n m d x y z o e = alike e
  where
    alike : ◌≡◌ {A = Result (Unit {0})} (err x y z) (err n m d) → ◌≡◌ {A = Result B} (err x y z) (err n m d)
    alike e = cc

-- ---- tests
pub true_T : {b : Bool} → b ≡ true → T b
true_T e = rw e tt

pub T_true : (b : Bool) → T b → b ≡ true
T_true true t = refl
T_true false t = absurd t

pub and_left : (a b : Bool) → T (a && b) → T a
and_left true b t = tt
and_left false b t = t

pub and_right : (a b : Bool) → T (a && b) → T b
and_right true b t = t
and_right false b t = absurd t

pub or_cases : (a b : Bool) → T (a || b) → T a ⊎ T b
or_cases true b t = inl tt
or_cases false b t = inr t

-- two orders that say the same are the same test
pub same_test : (a b m n : ℕ) → (a ≤ b → m ≤ n) → (m ≤ n → a ≤ b) → leb a b ≡ leb m n
same_test a b m n f g = go (dec_le a b)
  where
    go : Dec (a ≤ b) → leb a b ≡ leb m n
    go (yes h) = let l = f h in rw (le-leb a b h, le-leb m n l)
    go (no h) = let l : m ≤ n → ⊥ = λ k. h (g k) in rw (lt-leb a b (omega arith), lt-leb m n (omega arith))
