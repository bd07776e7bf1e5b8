-- A type is narrow exactly where not each array that it reaches has a stride of at least its element's size.
-- Assumes nothing.
use mathlib.Core.Path.{◌≡◌, refl, sym, ap, ◌∙◌, subst}
use mathlib.Core.Bool.{Bool, true, false, ◌||◌, not-eq-not, true≢false}
use mathlib.Core.Logic.{⊎_elim}
use Prim.Native.Nat.{ℕ, zero, suc, ◌≤◌, ◌<◌}
use native.Mathlib.Nat.{not-suc-le-zero}
use native.Mathlib.Decide.{ℕ_discrete}
use native.Mathlib.Omega.{arith}
use lib.Dec.{ltb}
use borrow.Author.Tests.{ltb-true, ltb-false}
use Rattle.std.proofs.lemmas.Bool.{or_parts}
use Rattle.ir_records.specs.Record.{Decoded, member_type}
use Rattle.ir_records.specs.Table.{table, value_at}
use Rattle.ir_records.specs.declared.TypeInner.{TypeInner}
use Rattle.ir_records.specs.declared.TypeInner.TheVariants.{Plain, Array, RuntimeArray, Struct, Other}
use Rattle.ir_records.proofs.TableLaws.{table_value}
use Rattle.proc_type_methods.specs.TypeMethods.{size_of}
use Rattle.valid_type_info.specs.declared.UniformRule.{UniformRule}
use Rattle.valid_type_info.specs.Verdict.{least_for}
use Rattle.valid_arena.specs.Arena.{row}
use Rattle.valid_arena.proofs.AcceptedLaws.{AcceptedTypes, array_row, runtime_array_row, member_earlier}
use Rattle.place_term3.specs.Term3.{Reached, itself, element, runtime_element, member, stride_covers, StridesCover}
use Rattle.place_carried.specs.Count.{some}
use Rattle.place_carried.specs.Carried.{narrow_of, narrow_step, narrow}
use Rattle.place_carried.proofs.CountLaws.{either_true, some_at, some_of}
use Rattle.place_carried.proofs.SumLaws.{size-of}

module _ (types : ℕ → Decoded) where
  -- from the types before it
  abbrev narrow_before : ℕ → ℕ → Bool
  narrow_before t = table false (narrow_step types) t

  narrow-before : (t u : ℕ) → u < t → narrow_before t u ≡ narrow types u
  narrow-before t u h = table_value false (narrow_step types) t u h

  pub narrow_is : (t : ℕ) (this : TypeInner) → (types t).inner ≡ this
      → narrow types t ≡ narrow_of (λ k. size_of (types k).inner) (narrow_before t) this (types t).members
  unfolding value_at
  narrow_is t this e = ap (λ (x : TypeInner). narrow_of (λ k. size_of (types k).inner) (narrow_before t) x (types t).members) e

  -- by what the record says
  pub narrow_array : (t base count stride : ℕ) → (types t).inner ≡ Array base count stride → base < t
      → narrow types t ≡ (ltb stride (size_of (types base).inner) || narrow types base)
  unfolding narrow_of
  narrow_array t base count stride e h =
      narrow_is t (Array base count stride) e ∙ ap (λ (b : Bool). ltb stride (size_of (types base).inner) || b) (narrow-before t base h)

  pub narrow_runtime_array : (t base stride : ℕ) → (types t).inner ≡ RuntimeArray base stride → base < t
      → narrow types t ≡ (ltb stride (size_of (types base).inner) || narrow types base)
  unfolding narrow_of
  narrow_runtime_array t base stride e h =
      narrow_is t (RuntimeArray base stride) e ∙ ap (λ (b : Bool). ltb stride (size_of (types base).inner) || b) (narrow-before t base h)

  some_alike : (p q : ℕ → Bool) (n : ℕ) → ((j : ℕ) → j < n → p j ≡ q j) → some p n ≡ some q n
  unfolding some
  some_alike p q zero h = refl
  some_alike p q (suc n) h = rw (some_alike p q n (λ j l. h j (omega arith)), h n (omega arith))

  pub narrow-struct : (t members span : ℕ) → (types t).inner ≡ Struct members span → ((j : ℕ) → j < members → member_type (types t).members j < t)
      → narrow types t ≡ some (λ j. narrow types (member_type (types t).members j)) members
  unfolding narrow_of
  narrow-struct t members span e h =
      narrow_is t (Struct members span) e ∙ some_alike _ _ members (λ j l. narrow-before t (member_type (types t).members j) (h j l))

module _ (rule : UniformRule) (c : ℕ) (types : ℕ → Decoded) (n : ℕ) (acc : AcceptedTypes c types n) where
  -- the type's own stride, and what it leads to
  own_stride : (t : ℕ) → t < n → (this : TypeInner) → (types t).inner ≡ this → narrow types t ≡ false → stride_covers (row (least_for rule) c types) this
  own_stride t l (Plain leaf) e f = tt
  own_stride t l (Array base count stride) e f =
      let b = (array_row (least_for rule) c types n acc t l base count stride e).0 in
      let g = or_parts (ltb stride (size_of (types base).inner)) (narrow types base) (sym (narrow_array types t base count stride e b) ∙ f) in
      omega (arith, ltb-false stride (size_of (types base).inner) g.0, size-of rule c types n acc base (omega arith) (types base).inner refl)
  own_stride t l (RuntimeArray base stride) e f =
      let b = (runtime_array_row (least_for rule) c types n acc t l base stride e).0 in
      let g = or_parts (ltb stride (size_of (types base).inner)) (narrow types base) (sym (narrow_runtime_array types t base stride e b) ∙ f) in
      omega (arith, ltb-false stride (size_of (types base).inner) g.0, size-of rule c types n acc base (omega arith) (types base).inner refl)
  own_stride t l (Struct count span) e f = tt
  own_stride t l (Other o) e f = tt

  not_narrow : {t a : ℕ} → Reached types t a → t < n → narrow types t ≡ false → stride_covers (row (least_for rule) c types) (types a).inner
  not_narrow {t = t} itself l f = own_stride t l (types t).inner refl f
  not_narrow {t = t} (element {base = base} {count = count} {stride = stride} e r) l f =
      let b = (array_row (least_for rule) c types n acc t l base count stride e).0 in
      not_narrow r (omega arith) (or_parts (ltb stride (size_of (types base).inner)) (narrow types base) (sym (narrow_array types t base count stride e b) ∙ f)).1
  not_narrow {t = t} (runtime_element {base = base} {stride = stride} e r) l f =
      let b = (runtime_array_row (least_for rule) c types n acc t l base stride e).0 in
      not_narrow r (omega arith) (or_parts (ltb stride (size_of (types base).inner)) (narrow types base) (sym (narrow_runtime_array types t base stride e b) ∙ f)).1
  not_narrow {t = t} (member {count = count} {span = span} j e lj r) l f =
      let b = member_earlier (least_for rule) c types n acc t l count span e in
      not_narrow r (omega (arith, b j lj)) ((not-eq-not {b = false}).0 (λ q.
      true≢false (sym (some_of (λ (i : ℕ). narrow types (member_type (types t).members i)) count j lj q) ∙ sym (narrow-struct types t count span e b) ∙ f)))

  -- where a type is not narrow, each array that it reaches has a stride of at least its element's size
  pub strides_wide : (t : ℕ) → t < n → narrow types t ≡ false → StridesCover (row (least_for rule) c types) types t
  strides_wide t l f a r = not_narrow r l f

  -- ---- where it is, one has not
  record TooNarrow (t : ℕ) : Type 0 where
    array : ℕ
    reached : Reached types t array
    uncovered : ¬ stride_covers (row (least_for rule) c types) (types array).inner

  below_size : (base stride : ℕ) → base < n → ltb stride (size_of (types base).inner) ≡ true → ¬ ((row (least_for rule) c types base).size ≤ stride)
  below_size base stride l e h = omega (arith, ltb-true stride (size_of (types base).inner) e, size-of rule c types n acc base l (types base).inner refl)

  abbrev NarrowBelow : ℕ → Type 0
  NarrowBelow t = (u : ℕ) → u < t → narrow types u ≡ true → TooNarrow u

  narrow-of : (t : ℕ) → t < n → (this : TypeInner) → (types t).inner ≡ this → NarrowBelow t → narrow types t ≡ true → TooNarrow t
  unfolding narrow_of
  narrow-of t l (Plain leaf) e ih q = absurd (true≢false (sym q ∙ narrow_is types t (Plain leaf) e))
  narrow-of t l (Array base count stride) e ih q =
      let b = (array_row (least_for rule) c types n acc t l base count stride e).0 in
      ⊎_elim
      (λ h. record { array = t; reached = itself; uncovered = λ w. below_size base stride (omega arith) h (subst (stride_covers (row (least_for rule) c types)) e w) })
      (λ h. let f = ih base b h in record { array = f.array; reached = element e f.reached; uncovered = f.uncovered })
      (either_true (ltb stride (size_of (types base).inner)) (narrow types base) (sym (narrow_array types t base count stride e b) ∙ q))
  narrow-of t l (RuntimeArray base stride) e ih q =
      let b = (runtime_array_row (least_for rule) c types n acc t l base stride e).0 in
      ⊎_elim
      (λ h. record { array = t; reached = itself; uncovered = λ w. below_size base stride (omega arith) h (subst (stride_covers (row (least_for rule) c types)) e w) })
      (λ h. let f = ih base b h in record { array = f.array; reached = runtime_element e f.reached; uncovered = f.uncovered })
      (either_true (ltb stride (size_of (types base).inner)) (narrow types base) (sym (narrow_runtime_array types t base stride e b) ∙ q))
  narrow-of t l (Struct count span) e ih q =
      let b = member_earlier (least_for rule) c types n acc t l count span e in
      let s = some_at (λ (j : ℕ). narrow types (member_type (types t).members j)) count (sym (narrow-struct types t count span e b) ∙ q) in
      let f = ih (member_type (types t).members s.0) (b s.0 s.1) s.2 in
      record { array = f.array; reached = member s.0 e s.1 f.reached; uncovered = f.uncovered }
  narrow-of t l (Other o) e ih q = absurd (true≢false (sym q ∙ narrow_is types t (Other o) e))

  narrow_below : (m : ℕ) → m ≤ n → NarrowBelow m
  narrow_below zero l u h q = absurd (not-suc-le-zero h)
  narrow_below (suc m) l u h q = go (λ v r f. narrow_below m (omega arith) v r f) (ℕ_discrete u m)
    where
      go : NarrowBelow m → Dec (u ≡ m) → TooNarrow u
      go ih (no x) = ih u (omega arith) q
      go ih (yes x) =
          subst TooNarrow (sym x) (narrow-of m l (types m).inner refl ih (subst (λ (v : ℕ). narrow types v ≡ true) x q))

  pub strides_narrow : (t : ℕ) → t < n → narrow types t ≡ true → ¬ StridesCover (row (least_for rule) c types) types t
  strides_narrow t l q w = let f = narrow_below n (omega arith) t l q in f.uncovered (w f.array f.reached)
