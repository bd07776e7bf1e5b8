-- The computed test `in_leaf` holds of exactly the bytes of leaves that steps of first elements lead to.
-- Assumes nothing.
use mathlib.Core.Path.{◌≡◌, refl, sym, ap, ◌∙◌, subst}
use mathlib.Core.Bool.{Bool, true, false, and-eq-true_iff}
use mathlib.Core.List.{List, [], ◌∷◌}
use Prim.Native.Nat.{ℕ, zero, suc, ◌+◌, ◌-◌, ◌*◌, ◌≤◌, ◌<◌}
use native.Mathlib.Nat.{not-suc-le-zero, zero-mul}
use native.Mathlib.Decide.{ℕ_discrete}
use native.Mathlib.Omega.{arith}
use lib.Dec.{T, leb, ltb}
use borrow.Author.Tests.{lt-ltb, le-leb, leb-true, ltb-true}
use Rattle.ir_records.specs.Result.{pick}
use Rattle.ir_records.specs.Record.{Decoded, member_type, member_offset}
use Rattle.ir_records.specs.Table.{table, value_at}
use Rattle.ir_records.specs.declared.Leaf.{Leaf}
use Rattle.ir_records.specs.declared.Leaf.TheVariants.{Scalar, Vector, Matrix, CooperativeMatrix, Atomic, RayQuery}
use Rattle.ir_records.specs.declared.TypeInner.{TypeInner}
use Rattle.ir_records.specs.declared.TypeInner.TheVariants.{Plain, Array, RuntimeArray, Struct, Other}
use Rattle.ir_records.proofs.ResultLaws.{T_true}
use Rattle.ir_records.proofs.TableLaws.{table_value}
use Rattle.proc_type_methods.specs.TypeMethods.{leaf_size, leaf_column_step}
use Rattle.valid_type_info.specs.declared.UniformRule.{UniformRule}
use Rattle.valid_type_info.specs.Verdict.{least_for}
use Rattle.valid_arena.specs.Arena.{row}
use Rattle.valid_arena.proofs.AcceptedLaws.{AcceptedTypes, plain-row, array_row, runtime_array_row, member_earlier}
use Rattle.place_steps.specs.Step.{To, Column}
use Rattle.place_steps.specs.Columns.{is_whole, column_count, leaf_length}
use Rattle.place_steps.specs.Steps.{is_leaf, step_of}
use Rattle.place_descent.specs.Place.{step_in, leaf_in}
use Rattle.place_descent.proofs.WalkLaws.{Way, whole, column, onward, after_start, plain_step, array_step, runtime_array_step, struct_step, other_step, column-step}
use Rattle.place_lookup.proofs.DescentLaws.{descent}
use Rattle.place_term3.specs.Term3.{length_in, first_element, FirstElements}
use Rattle.place_carried.specs.Count.{some}
use Rattle.place_carried.specs.Carried.{part_has, leaf_has, in_leaf_of, no_leaf, in_leaf_step, in_leaf}
use Rattle.place_carried.proofs.CountLaws.{some_at, some_of}
use Rattle.place_carried.proofs.StepsTo.{to_element, to_first, to_member, to_column}

-- a leaf is data that is neither array, struct nor matrix
whole_plain : (this : TypeInner) → T (is_leaf this) → (leaf : Leaf) × (this ≡ Plain leaf) × (is_whole leaf ≡ true)
whole_plain (Plain leaf) t = (leaf, refl, T_true (is_whole leaf) t)
whole_plain (Array base count stride) t = absurd t
whole_plain (RuntimeArray base stride) t = absurd t
whole_plain (Struct count span) t = absurd t
whole_plain (Other o) t = absurd t

-- what has columns is no leaf
not_whole : (leaf : Leaf) (s : ℕ) → s < column_count leaf → is_whole leaf ≡ false
not_whole (Scalar k w) s h = absurd (omega arith)
not_whole (Vector n k w) s h = absurd (omega arith)
not_whole (Matrix cs rs k w) s h = refl
not_whole (CooperativeMatrix cs rs k w o) s h = absurd (omega arith)
not_whole (Atomic k w) s h = absurd (omega arith)
not_whole (RayQuery v) s h = absurd (omega arith)

-- a byte of a part, from its start
part-has : (o k : ℕ) (q : ℕ → Bool) → o ≤ k → q (k - o) ≡ true → part_has o q k ≡ true
part-has o k q h e = rw (le-leb o k h, e) refl

module _ (rule : UniformRule) (c : ℕ) (types : ℕ → Decoded) (n : ℕ) (acc : AcceptedTypes c types n) where
  abbrev WayOf : (t p : ℕ) → List ℕ → (byte leaf : ℕ) → Type 0
  WayOf = Way (step_in types) (leaf_in types)

  -- how long a leaf of a type is
  abbrev pub length_of : ℕ → ℕ
  length_of leaf = length_in (types leaf).inner (row (least_for rule) c types leaf).size

  plain_length : (t : ℕ) → t < n → (leaf : Leaf) → (types t).inner ≡ Plain leaf → length_of t ≡ leaf_length leaf (leaf_size leaf)
  plain_length t l leaf e = ap (λ (x : TypeInner). length_in x (row (least_for rule) c types t).size) e ∙ ap (leaf_length leaf) (plain-row (least_for rule) c types n acc t l leaf e).size

  -- ---- the test, from those of the types before it
  abbrev pub before : ℕ → ℕ → ℕ → Bool
  before t = table no_leaf (in_leaf_step types) t

  pub in_leaf_is : (t : ℕ) (this : TypeInner) → (types t).inner ≡ this → (k : ℕ) → in_leaf types t k ≡ in_leaf_of (before t) this (types t).members k
  unfolding value_at
  in_leaf_is t this e k = ap (λ (x : TypeInner). in_leaf_of (before t) x (types t).members k) e

  pub before_is : (t u k : ℕ) → u < t → before t u k ≡ in_leaf types u k
  before_is t u k h = ap (λ (f : ℕ → Bool). f k) (table_value no_leaf (in_leaf_step types) t u h)

  -- ---- a byte for which the test holds lies in a leaf
  -- byte x lies in a leaf that steps lead to from type t at byte place p
  pub record Held (t p x : ℕ) : Type 0 where
    pub steps : List ℕ
    pub byte : ℕ
    pub leaf : ℕ
    pub way : WayOf t p steps byte leaf
    pub firsts : FirstElements types t steps
    pub from : byte ≤ x
    pub below : x < byte + length_of leaf

  held_on : (t s ty bytes p x x' : ℕ) → step_in types t s ≡ To ty bytes → first_element (types t).inner s → x' ≡ x → Held ty (p + bytes) x' → Held t p x
  held_on t s ty bytes p x x' o f e h =
      record {
        steps = s ∷ h.steps;
        byte = h.byte;
        leaf = h.leaf;
        way = onward s ty bytes o h.way;
        firsts = (f, rw o h.firsts);
        from = omega (arith, h.from);
        below = omega (arith, h.below);
      }

  held_leaf : (t : ℕ) → t < n → (leaf : Leaf) → (types t).inner ≡ Plain leaf → (p k : ℕ) → leaf_has leaf k ≡ true → Held t p (p + k)
  held_leaf t l leaf e p k h = go (is_whole leaf) refl h
    where
      go : (b : Bool) → is_whole leaf ≡ b
          → pick b (ltb k (leaf_length leaf (leaf_size leaf))) (some (λ s. part_has (s * leaf_column_step leaf) (λ r. ltb r (leaf_length leaf (leaf_size leaf))) k) (column_count leaf)) ≡ true
          → Held t p (p + k)
      go true w h =
          record {
            steps = [];
            byte = p;
            leaf = t;
            way = whole (subst (λ (x : TypeInner). T (is_leaf x)) (sym e) (rw w tt));
            firsts = tt;
            from = omega arith;
            below = omega (arith, plain_length t l leaf e, ltb-true k (leaf_length leaf (leaf_size leaf)) h);
          }
      go false w h =
          let s = some_at (λ (s : ℕ). part_has (s * leaf_column_step leaf) (λ r. ltb r (leaf_length leaf (leaf_size leaf))) k) (column_count leaf) h in
          let q = (and-eq-true_iff (leb (s.0 * leaf_column_step leaf) k) (ltb (k - s.0 * leaf_column_step leaf) (leaf_length leaf (leaf_size leaf)))).0 s.2 in
          let low = leb-true (s.0 * leaf_column_step leaf) k q.0 in
          let high = ltb-true (k - s.0 * leaf_column_step leaf) (leaf_length leaf (leaf_size leaf)) q.1 in
          let o : step_in types t s.0 ≡ Column (s.0 * leaf_column_step leaf) =
          ap (λ (x : TypeInner). step_of x (types t).members s.0) e ∙ to_column leaf (types t).members s.0 s.1 in
          record {
            steps = s.0 ∷ [];
            byte = p + s.0 * leaf_column_step leaf;
            leaf = t;
            way = column s.0 (s.0 * leaf_column_step leaf) o;
            firsts = (subst (λ (x : TypeInner). first_element x s.0) (sym e) tt, rw o tt);
            from = omega arith;
            below = omega (arith, plain_length t l leaf e);
          }

  -- of the types before t
  abbrev HeldBefore : ℕ → Type 0
  HeldBefore t = (u : ℕ) → u < t → (p k : ℕ) → in_leaf types u k ≡ true → Held u p (p + k)

  -- of a part of t that a step leads to
  held_part : (t s ty bytes p k : ℕ) → HeldBefore t → ty < t → step_in types t s ≡ To ty bytes → first_element (types t).inner s
      → part_has bytes (before t ty) k ≡ true → Held t p (p + k)
  held_part t s ty bytes p k ih l o f h =
      let q = (and-eq-true_iff (leb bytes k) (before t ty (k - bytes))).0 h in
      let low = leb-true bytes k q.0 in
      held_on t s ty bytes p (p + k) (p + bytes + (k - bytes)) o f (omega arith)
      (ih ty l (p + bytes) (k - bytes) (sym (before_is t ty (k - bytes) l) ∙ q.1))

  held_of : (t : ℕ) → t < n → (this : TypeInner) → (types t).inner ≡ this → HeldBefore t → (p k : ℕ)
      → in_leaf_of (before t) this (types t).members k ≡ true → Held t p (p + k)
  unfolding in_leaf_of
  held_of t l (Plain leaf) e ih p k h = held_leaf t l leaf e p k h
  held_of t l (Array base count stride) e ih p k h =
      let s = some_at (λ (i : ℕ). part_has (i * stride) (before t base) k) count h in
      let o = ap (λ (x : TypeInner). step_of x (types t).members s.0) e ∙ to_element base count stride (types t).members s.0 s.1 in
      held_part t s.0 base (s.0 * stride) p k ih (array_row (least_for rule) c types n acc t l base count stride e).0 o (subst (λ (x : TypeInner). first_element x s.0) (sym e) tt) s.2
  held_of t l (RuntimeArray base stride) e ih p k h =
      let o = ap (λ (x : TypeInner). step_of x (types t).members 0) e ∙ to_first base stride (types t).members in
      let b = (runtime_array_row (least_for rule) c types n acc t l base stride e).0 in
      held_on t 0 base (0 * stride) p (p + k) (p + 0 * stride + k) o (subst (λ (x : TypeInner). first_element x 0) (sym e) refl) (omega (arith, zero-mul stride))
      (ih base b (p + 0 * stride) k (sym (before_is t base k b) ∙ h))
  held_of t l (Struct count span) e ih p k h =
      let members = (types t).members in
      let s = some_at (λ (j : ℕ). part_has (member_offset members j) (before t (member_type members j)) k) count h in
      let o = ap (λ (x : TypeInner). step_of x members s.0) e ∙ to_member count span members s.0 s.1 in
      held_part t s.0 (member_type members s.0) (member_offset members s.0) p k ih (member_earlier (least_for rule) c types n acc t l count span e s.0 s.1) o
      (subst (λ (x : TypeInner). first_element x s.0) (sym e) tt) s.2
  held_of t l (Other x) e ih p k h = let z : ◌≡◌ {A = ℕ} 0 1 = cc in absurd (omega arith)

  held_below : (m : ℕ) → m ≤ n → HeldBefore m
  held_below zero l u h p k e = absurd (not-suc-le-zero h)
  held_below (suc m) l u h p k e = go (λ v q r j f. held_below m (omega arith) v q r j f) (ℕ_discrete u m)
    where
      go : HeldBefore m → Dec (u ≡ m) → Held u p (p + k)
      go ih (no q) = ih u (omega arith) p k e
      go ih (yes q) =
          subst (λ (v : ℕ). Held v p (p + k)) (sym q)
          (held_of m l (types m).inner refl ih p k (sym (in_leaf_is m (types m).inner refl k) ∙ subst (λ (v : ℕ). in_leaf types v k ≡ true) q e))

  pub held : (t : ℕ) → t < n → (p k : ℕ) → in_leaf types t k ≡ true → Held t p (p + k)
  held t l p k e = held_below n (omega arith) t l p k e

  -- ---- the test holds for every byte of such a leaf
  has_part : (t ty bytes p x : ℕ) → ty < t → p + bytes ≤ x → in_leaf types ty (x - (p + bytes)) ≡ true → part_has bytes (before t ty) (x - p) ≡ true
  has_part t ty bytes p x l h e =
      let less : x - p - bytes ≡ x - (p + bytes) = omega arith in
      part-has bytes (x - p) (before t ty) (omega arith) (ap (before t ty) less ∙ before_is t ty (x - (p + bytes)) l ∙ e)

  has_on : (t : ℕ) → t < n → (this : TypeInner) → (types t).inner ≡ this → (s ty bytes p x : ℕ) → step_of this (types t).members s ≡ To ty bytes → first_element this s
      → ty < t → p + bytes ≤ x → in_leaf types ty (x - (p + bytes)) ≡ true → in_leaf_of (before t) this (types t).members (x - p) ≡ true
  unfolding in_leaf_of
  has_on t l (Plain leaf) e s ty bytes p x o f b h i = plain_step leaf (types t).members s ty bytes o
  has_on t l (Array base count stride) e s ty bytes p x o f b h i =
      let g = array_step base count stride (types t).members s ty bytes o in
      some_of (λ (j : ℕ). part_has (j * stride) (before t base) (x - p)) count s g.0 (rw (g.1, g.2) (has_part t ty bytes p x b h i))
  has_on t l (RuntimeArray base stride) e s ty bytes p x o f b h i =
      let g = runtime_array_step base stride (types t).members s ty bytes o in
      let none : bytes ≡ 0 = sym g.2 ∙ ap (λ (r : ℕ). r * stride) f ∙ zero-mul stride in
      let same : x - p ≡ x - (p + bytes) = omega arith in
      rw (g.1, same) (before_is t ty (x - (p + bytes)) b ∙ i)
  has_on t l (Struct count span) e s ty bytes p x o f b h i =
      let g = struct_step count span (types t).members s ty bytes o in
      some_of (λ (j : ℕ). part_has (member_offset (types t).members j) (before t (member_type (types t).members j)) (x - p)) count s g.0
      (rw (g.1, g.2) (has_part t ty bytes p x b h i))
  has_on t l (Other v) e s ty bytes p x o f b h i = other_step v (types t).members s ty bytes o

  has_whole : (t : ℕ) → t < n → T (leaf_in types t) → (k : ℕ) → k < length_of t → in_leaf types t k ≡ true
  unfolding in_leaf_of
  has_whole t l w k h =
      let g = whole_plain (types t).inner w in
      let m = plain_length t l g.0 g.1 in
      in_leaf_is t (Plain g.0) g.1 k ∙ rw (g.2, lt-ltb k (leaf_length g.0 (leaf_size g.0)) (omega arith)) refl

  has_column : (t : ℕ) → t < n → (s bytes : ℕ) → step_in types t s ≡ Column bytes → (k : ℕ) → bytes ≤ k → k < bytes + length_of t → in_leaf types t k ≡ true
  unfolding in_leaf_of
  has_column t l s bytes o k low high =
      let g = column-step (types t).inner (types t).members s bytes o in
      let m = plain_length t l g.0 g.1 in
      let start : s * leaf_column_step g.0 ≡ bytes = g.3 in
      in_leaf_is t (Plain g.0) g.1 k
      ∙ rw (not_whole g.0 s g.2)
      (some_of (λ (j : ℕ). part_has (j * leaf_column_step g.0) (λ r. ltb r (leaf_length g.0 (leaf_size g.0))) k) (column_count g.0) s g.2
      (part-has (s * leaf_column_step g.0) k (λ r. ltb r (leaf_length g.0 (leaf_size g.0))) (omega arith)
      (lt-ltb (k - s * leaf_column_step g.0) (leaf_length g.0 (leaf_size g.0)) (omega arith))))

  pub has : {steps : List ℕ} {t p byte leaf : ℕ} → WayOf t p steps byte leaf → t < n → FirstElements types t steps
      → (x : ℕ) → byte ≤ x → x < byte + length_of leaf → in_leaf types t (x - p) ≡ true
  has {t = t} {p = p} (whole e) l f x low high = has_whole t l e (x - p) (omega arith)
  has {t = t} {p = p} (column s bytes o) l f x low high = has_column t l s bytes o (x - p) (omega arith) (omega arith)
  has {t = t} {p = p} (onward s ty bytes o w) l f x low high =
      let b = (descent (least_for rule) c types n acc t l s ty bytes o).earlier in
      let a = after_start (step_in types) (leaf_in types) w in
      let i = has w (omega arith) (rw o at f.1) x low high in
      in_leaf_is t (types t).inner refl (x - p) ∙ has_on t l (types t).inner refl s ty bytes p x o f.0 b (omega arith) i
