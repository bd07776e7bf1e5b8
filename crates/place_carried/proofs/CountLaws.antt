-- Laws of counting.
-- Assumes nothing.
use mathlib.Core.Path.{◌≡◌, refl, sym}
use mathlib.Core.Bool.{Bool, true, false, not, ◌||◌, or-true, and-eq-true_iff, not-eq-not}
use mathlib.Core.Logic.{◌⊎◌, inl, inr, ⊎_elim}
use Prim.Native.Nat.{ℕ, zero, suc, ◌+◌, ◌-◌, ◌*◌, ◌≤◌, ◌<◌}
use native.Mathlib.Nat.{add-suc, add-zero, zero-mul, suc-mul, not-suc-le-zero, le_of_suc-le-suc, eq-or-lt_of_le}
use native.Mathlib.Omega.{arith}
use lib.Dec.{leb, ltb}
use borrow.Author.Tests.{lt-ltb, le-leb, lt-leb, leb-true}
use Rattle.ir_records.specs.Result.{pick}
use Rattle.place_carried.specs.Count.{count, some, sum}
use Rattle.place_carried.specs.Carried.{part_has}

-- ---- tests
pub either_true : (a b : Bool) → (a || b) ≡ true → (a ≡ true) ⊎ (b ≡ true)
either_true true b e = inl refl
either_true false b e = inr e

-- ---- one that passes
pub some_at : (p : ℕ → Bool) (n : ℕ) → some p n ≡ true → (j : ℕ) × (j < n) × (p j ≡ true)
unfolding some
some_at p zero e = let z : ◌≡◌ {A = ℕ} 0 1 = cc in absurd (omega arith)
some_at p (suc n) e =
    ⊎_elim (λ q. let s = some_at p n q in (s.0, omega (arith, s.1), s.2)) (λ q. (n, omega arith, q)) (either_true (some p n) (p n) e)

pub some_of : (p : ℕ → Bool) (n j : ℕ) → j < n → p j ≡ true → some p n ≡ true
unfolding some
some_of p zero j h e = absurd (not-suc-le-zero h)
some_of p (suc n) j h e =
    ⊎_elim (λ (q : j ≡ n). rw (rw q at e) (or-true (some p n))) (λ (q : j < n). rw (some_of p n j q e) refl) (eq-or-lt_of_le (le_of_suc-le-suc h))

-- ---- how many pass
pub count_alike : (p q : ℕ → Bool) (n : ℕ) → ((k : ℕ) → k < n → p k ≡ q k) → count p n ≡ count q n
unfolding count
count_alike p q zero h = refl
count_alike p q (suc n) h = rw (count_alike p q n (λ k l. h k (omega arith)), h n (omega arith))

pub count_none : (p : ℕ → Bool) (n : ℕ) → ((k : ℕ) → k < n → p k ≡ false) → count p n ≡ 0
unfolding count
count_none p zero h = refl
count_none p (suc n) h = rw (count_none p n (λ k l. h k (omega arith)), h n (omega arith))

-- all below n
pub count_below : (size n : ℕ) → n ≤ size → count (λ k. ltb k size) n ≡ n
unfolding count
count_below size zero h = refl
count_below size (suc n) h = rw (count_below size n (omega arith), lt-ltb n size (omega arith)) (omega arith)

-- a test and its contrary
pub count_not : (p : ℕ → Bool) (n : ℕ) → count p n + count (λ k. not (p k)) n ≡ n
unfolding count
count_not p zero = refl
count_not p (suc n) = go (p n) (count_not p n)
  where
    go : (b : Bool) → count p n + count (λ k. not (p k)) n ≡ n → (count p n + pick b 1 0) + (count (λ k. not (p k)) n + pick (not b) 1 0) ≡ suc n
    go true less = omega arith
    go false less = omega arith

count_add : (p : ℕ → Bool) (m n : ℕ) → count p (m + n) ≡ count p m + count (λ k. p (m + k)) n
unfolding count
count_add p m zero = rw (add-zero m) (omega arith)
count_add p m (suc n) = rw (add-suc m n) (omega (arith, count_add p m n))

-- none past s
pub count_past : (p : ℕ → Bool) (s n : ℕ) → s ≤ n → ((k : ℕ) → s ≤ k → p k ≡ false) → count p n ≡ count p s
count_past p s n h none =
    let parts : n ≡ s + (n - s) = omega arith in
    rw parts (omega (arith, count_add p s (n - s), count_none (λ k. p (s + k)) (n - s) (λ k l. none (s + k) (omega arith))))

-- never both
count_or : (p q : ℕ → Bool) (n : ℕ) → ((k : ℕ) → k < n → p k ≡ true → q k ≡ false) → count (λ k. p k || q k) n ≡ count p n + count q n
unfolding count
count_or p q zero h = refl
count_or p q (suc n) h = go (p n) (q n) (h n (omega arith)) (count_or p q n (λ k l. h k (omega arith)))
  where
    go : (a b : Bool) → (a ≡ true → b ≡ false) → count (λ k. p k || q k) n ≡ count p n + count q n
        → count (λ k. p k || q k) n + pick (a || b) 1 0 ≡ (count p n + pick a 1 0) + (count q n + pick b 1 0)
    go true b none less = rw (none refl) (omega arith)
    go false b none less = omega arith

-- a part of s bytes that starts at o
count_part : (q : ℕ → Bool) (o s n : ℕ) → o + s ≤ n → ((k : ℕ) → s ≤ k → q k ≡ false) → count (part_has o q) n ≡ count q s
count_part q o s n h none =
    let parts : n ≡ o + (n - o) = omega arith in
    let before = count_none (part_has o q) o (λ k l. rw (lt-leb o k l)) in
    let inside = count_alike (λ k. part_has o q (o + k)) q (n - o)
    (λ k l. let less : o + k - o ≡ k = omega arith in rw (le-leb o (o + k) (omega arith), less)) in
    rw parts (omega (arith, count_add (part_has o q) o (n - o), before, inside, count_past q s (n - o) (omega arith) none))

-- a byte of a part lies between its start and its end
pub part_inside : (o s : ℕ) (q : ℕ → Bool) → ((k : ℕ) → q k ≡ true → k < s) → (k : ℕ) → part_has o q k ≡ true → (o ≤ k) × (k < o + s)
part_inside o s q inside k e =
    let p = (and-eq-true_iff (leb o k) (q (k - o))).0 e in
    let low = leb-true o k p.0 in
    let less = inside (k - o) p.1 in
    (low, omega arith)

-- parts one after the other within n bytes: the bytes of all are as many as those of each
pub record Parts (start size : ℕ → ℕ) (has : ℕ → ℕ → Bool) (parts n : ℕ) : Type 0 where
  pub inside : (j : ℕ) → j < parts → (k : ℕ) → has j k ≡ true → k < size j
  pub within : (j : ℕ) → j < parts → start j + size j ≤ n
  pub apart : (i j : ℕ) → i < j → j < parts → start i + size i ≤ start j

fewer : (start size : ℕ → ℕ) (has : ℕ → ℕ → Bool) (m n : ℕ) → Parts start size has (suc m) n → Parts start size has m n
fewer start size has m n p =
    record { inside = λ j l. p.inside j (omega arith); within = λ j l. p.within j (omega arith); apart = λ i j q l. p.apart i j q (omega arith) }

pub count_parts : (start size : ℕ → ℕ) (has : ℕ → ℕ → Bool) (parts n : ℕ) → Parts start size has parts n
    → count (λ k. some (λ j. part_has (start j) (has j) k) parts) n ≡ sum (λ j. count (has j) (size j)) parts
unfolding some sum
count_parts start size has zero n p = count_none (λ k. false) n (λ k l. refl)
count_parts start size has (suc m) n p =
    let before : ℕ → Bool = λ k. some (λ j. part_has (start j) (has j) k) m in
    let last : ℕ → Bool = part_has (start m) (has m) in
    let both = count_or before last n (λ k l e. (not-eq-not {b = false}).0 (λ g.
    let s = some_at (λ j. part_has (start j) (has j) k) m e in
    let early = part_inside (start s.0) (size s.0) (has s.0) (p.inside s.0 (omega (arith, s.1))) k s.2 in
    let late = part_inside (start m) (size m) (has m) (p.inside m (omega arith)) k g in
    omega (arith, p.apart s.0 m s.1 (omega arith), early.1, late.0))) in
    let one = count_part (has m) (start m) (size m) n (p.within m (omega arith))
    (λ k l. (not-eq-not {b = false}).0 (λ e. omega (arith, p.inside m (omega arith) k e))) in
    omega (arith, both, one, count_parts start size has m n (fewer start size has m n p))

-- the sum of like values
pub sum_alike : (f g : ℕ → ℕ) (n : ℕ) → ((j : ℕ) → j < n → f j ≡ g j) → sum f n ≡ sum g n
unfolding sum
sum_alike f g zero h = refl
sum_alike f g (suc n) h = rw (sum_alike f g n (λ j l. h j (omega arith)), h n (omega arith))

pub sum_same : (v n : ℕ) → sum (λ j. v) n ≡ n * v
unfolding sum
sum_same v zero = sym (zero-mul v)
sum_same v (suc n) = rw (sum_same v n, suc-mul n v) refl
