-- The uniform verdicts of accepted types by the minimum alignment of storage.
-- Assumes nothing.
use mathlib.Core.Path.{◌≡◌, refl, sym, ◌∙◌, ap, subst}
use mathlib.Core.Bool.{Bool, true, false, false≢true}
use mathlib.Core.Logic.{⊎_elim}
use Prim.Native.Nat.{ℕ, zero, suc, ◌≤◌, ◌<◌}
use native.Mathlib.Nat.{not-suc-le-zero, le_refl}
use native.Mathlib.Decide.{ℕ_discrete}
use native.Mathlib.Omega.{arith}
use lib.Dec.{T}
use Rattle.ir_records.specs.Result.{pick}
use Rattle.ir_records.specs.Record.{Decoded, member_type}
use Rattle.ir_records.specs.declared.TypeInner.{TypeInner}
use Rattle.ir_records.specs.declared.TypeInner.TheVariants.{Plain, Array, RuntimeArray, Struct, Other}
use Rattle.ir_records.proofs.ResultLaws.{T_true}
use Rattle.proc_alignment.specs.Alignment.{is_aligned}
use Rattle.proc_layouter.specs.Layouter.{layout}
use Rattle.valid_flags.specs.Flags.{bit, sized_bit}
use Rattle.valid_flags.proofs.BitLaws.{bit-and, bit_and_both}
use Rattle.valid_type_flags.specs.TypeFlags.{is_struct}
use Rattle.valid_type_info.specs.declared.Verdict.{Verdict}
use Rattle.valid_type_info.specs.declared.Row.{Row}
use Rattle.valid_type_info.specs.Verdict.{min_storage, struct_span, array_verdict, span_verdict, unless_ok, unsized_member}
use Rattle.valid_member_bounds.specs.MemberBounds.{is_array}
use Rattle.valid_member_rules.specs.MemberRules.{uniform_after, storage_after}
use Rattle.valid_member_rules.proofs.NewerLaws.{sized_newer, unsized_newer}
use Rattle.valid_arena.specs.Arena.{row}
use Rattle.valid_arena.specs.UniformRules.{RuntimeMember}
use Rattle.valid_arena.proofs.DependLaws.{inner_in}
use Rattle.valid_arena.proofs.AcceptedLaws.{AcceptedTypes, ArrayRow, base_sized, plain-row, array_row, runtime_array_row, struct_row, struct_member, member_earlier, member_sized, other_verdicts}

-- a test that does not hold is false
not_true : (b : Bool) → ¬ T b → b ≡ false
not_true true f = absurd (f tt)
not_true false f = refl

-- what is no struct
no_struct : (this : TypeInner) → is_struct this ≡ false → {count span : ℕ} → this ≡ Struct count span → ⊥
no_struct this e q = false≢true (sym e ∙ ap is_struct q)

-- the span rule and an error that stands in the place of Ok, in either order
span_unless : (i span alignment : ℕ) (v w : Verdict) → span_verdict i span alignment (unless_ok v w) ≡ unless_ok (span_verdict i span alignment v) w
unfolding span_verdict
span_unless i span alignment v w = go (is_aligned alignment span)
  where
    go : (b : Bool) → pick b (unless_ok v w) (struct_span i span alignment) ≡ unless_ok (pick b v (struct_span i span alignment)) w
    go true = refl
    go false = refl

module _ (c : ℕ) (types : ℕ → Decoded) (n : ℕ) (acc : AcceptedTypes c types n) where
  -- the rows by the minimum alignment of storage
  abbrev rows : ℕ → Row
  rows = row min_storage c types

  abbrev Sized : ℕ → Type 0
  Sized t = T (bit (rows t).flags sized_bit)

  -- the uniform verdict is the storage verdict
  abbrev Same : ℕ → Type 0
  Same t = (rows t).uniform ≡ (rows t).storage

  -- no struct, or a SIZED one
  abbrev NoTail : ℕ → Type 0
  NoTail t = (count span : ℕ) → (types t).inner ≡ Struct count span → Sized t

  same_array : (t bytes stride mask : ℕ) (base r : Row) → ArrayRow min_storage t bytes stride mask base r → base.uniform ≡ base.storage → r.uniform ≡ r.storage
  same_array t bytes stride mask base r a e = a.uniform ∙ ap (array_verdict min_storage t stride base.alignment) e ∙ sym a.storage

  -- a struct whose members are SIZED
  same_struct : (t : ℕ) → t < n → (count span : ℕ) → (types t).inner ≡ Struct count span → ((j : ℕ) → j < count → Sized (member_type (types t).members j))
      → ((k : ℕ) → k < t → NoTail k → Same k) → Same t
  same_struct t h count span e sized earlier =
      let s = struct_row min_storage c types n acc t h count span e in
      s.uniform
      ∙ ap (span_verdict t span (layout types t).alignment)
      (sized_newer (inner_in types) rows t (types t).members count
      (λ j l. earlier (member_type (types t).members j) (member_earlier min_storage c types n acc t h count span e j l) (λ _ _ _. sized j l))
      (λ j l. T_true _ (sized j l)))
      ∙ sym s.storage

  -- by what the record says, where it is so of the earlier types
  same_step : (t : ℕ) → t < n → (this : TypeInner) → (types t).inner ≡ this → ((k : ℕ) → k < t → NoTail k → Same k) → NoTail t → Same t
  same_step t h (Plain leaf) e earlier whole = let p = plain-row min_storage c types n acc t h leaf e in p.uniform ∙ sym p.storage
  same_step t h (Array base count stride) e earlier whole =
      let a = array_row min_storage c types n acc t h base count stride e in
      same_array t _ stride 247 (rows base) (rows t) a.1 (earlier base a.0 (λ _ _ _. base_sized a.1))
  same_step t h (RuntimeArray base stride) e earlier whole =
      let a = runtime_array_row min_storage c types n acc t h base stride e in
      same_array t stride stride 149 (rows base) (rows t) a.1 (earlier base a.0 (λ _ _ _. base_sized a.1))
  same_step t h (Struct count span) e earlier whole =
      let s = struct_row min_storage c types n acc t h count span e in
      same_struct t h count span e (λ j l. (struct_member min_storage c types n acc t h count span e j l).flag sized_bit (rw (s.flags sized_bit refl) at (whole count span e))) earlier
  same_step t h (Other o) e earlier whole = let v = other_verdicts min_storage c types n acc t h o e in v.0 ∙ sym v.1

  same_below : (m : ℕ) → m ≤ n → (t : ℕ) → t < m → NoTail t → Same t
  same_below zero l t h = absurd (not-suc-le-zero h)
  same_below (suc m) l t h = go (same_below m (omega arith)) (ℕ_discrete t m)
    where
      go : ((k : ℕ) → k < m → NoTail k → Same k) → Dec (t ≡ m) → NoTail t → Same t
      go ih (yes q) = rw q (same_step m l (types m).inner refl ih)
      go ih (no q) = ih t (omega arith)

  same : (t : ℕ) → t < n → NoTail t → Same t
  same = same_below n (le_refl n)

  -- ---- members
  -- an array that is no runtime array is SIZED
  array_sized : (t : ℕ) → t < n → (this : TypeInner) → (types t).inner ≡ this → T (is_array this) → ((base stride : ℕ) → this ≡ RuntimeArray base stride → ⊥) → Sized t
  array_sized t h (Plain leaf) e a none = absurd a
  array_sized t h (Array base count stride) e a none =
      let r = array_row min_storage c types n acc t h base count stride e in
      subst (λ (f : ℕ). T (bit f sized_bit)) (sym r.1.flags) (bit_and_both (rows base).flags 247 sized_bit (base_sized r.1) tt)
  array_sized t h (RuntimeArray base stride) e a none = absurd (none base stride refl)
  array_sized t h (Struct count span) e a none = absurd a
  array_sized t h (Other o) e a none = absurd a

  -- a runtime array is not
  runtime_unsized : (t : ℕ) → t < n → (base stride : ℕ) → (types t).inner ≡ RuntimeArray base stride → ¬ Sized t
  runtime_unsized t h base stride e sized =
      let r = runtime_array_row min_storage c types n acc t h base stride e in
      (bit-and (rows base).flags 149 sized_bit (subst (λ (f : ℕ). T (bit f sized_bit)) r.1.flags sized)).1

  -- ---- the verdicts
  -- of a type that is no struct with a runtime-sized member
  pub newer_same : (t : ℕ) → t < n → ((j : ℕ) → ¬ RuntimeMember types t j) → Same t
  newer_same t h none = go (types t).inner refl
    where
      go : (this : TypeInner) → (types t).inner ≡ this → Same t
      go (Plain leaf) e = same t h (λ count span q. absurd (no_struct (Plain leaf) refl (sym e ∙ q)))
      go (Array base count stride) e = same t h (λ _ span q. absurd (no_struct (Array base count stride) refl (sym e ∙ q)))
      go (RuntimeArray base stride) e = same t h (λ count span q. absurd (no_struct (RuntimeArray base stride) refl (sym e ∙ q)))
      go (Struct count span) e =
          same_struct t h count span e
          (λ j l.
          let u = member_type (types t).members j in
          ⊎_elim (λ sized. sized)
          (λ tail. array_sized u (omega (arith, member_earlier min_storage c types n acc t h count span e j l)) (types u).inner refl tail.0
          (λ base stride q. none j (record { count = count; span = span; is_struct = e; below = l; base = base; stride = stride; runtime = q })))
          (member_sized min_storage c types n acc t h count span e j l))
          (λ k l. same k (omega arith))
      go (Other o) e = same t h (λ count span q. absurd (no_struct (Other o) refl (sym e ∙ q)))

  -- of a struct with one: it is the last member, and those before it are SIZED
  pub newer_runtime : (t : ℕ) → t < n → (j : ℕ) → RuntimeMember types t j → (rows t).uniform ≡ unless_ok (rows t).storage (unsized_member t j)
  newer_runtime t h j r =
      let members = (types t).members in
      let s = struct_row min_storage c types n acc t h r.count r.span r.is_struct in
      let earlier : (m : ℕ) → m < r.count → member_type members m < t = member_earlier min_storage c types n acc t h r.count r.span r.is_struct in
      let alone : ¬ Sized (member_type members j) = runtime_unsized (member_type members j) (omega (arith, earlier j r.below)) r.base r.stride r.runtime in
      let last : suc j ≡ r.count =
      ⊎_elim (λ sized. absurd (alone sized)) (λ tail. tail.1) (member_sized min_storage c types n acc t h r.count r.span r.is_struct j r.below) in
      let before : (m : ℕ) → m < j → Sized (member_type members m) =
      λ m l. ⊎_elim (λ sized. sized) (λ tail. absurd (omega (arith, tail.1, last))) (member_sized min_storage c types n acc t h r.count r.span r.is_struct m (omega (arith, last))) in
      s.uniform
      ∙ ap (λ (k : ℕ). span_verdict t r.span (layout types t).alignment (uniform_after min_storage (inner_in types) rows t members k)) (sym last)
      ∙ ap (span_verdict t r.span (layout types t).alignment)
      (unsized_newer (inner_in types) rows t members j (own before earlier) (λ m l. T_true _ (before m l)) (not_true _ alone))
      ∙ span_unless t r.span (layout types t).alignment (storage_after rows t members (suc j)) (unsized_member t j)
      ∙ ap (λ (k : ℕ). unless_ok (span_verdict t r.span (layout types t).alignment (storage_after rows t members k)) (unsized_member t j)) last
      ∙ ap (λ (v : Verdict). unless_ok v (unsized_member t j)) (sym s.storage)
    where
      own : ((m : ℕ) → m < j → Sized (member_type (types t).members m)) → ((m : ℕ) → m < r.count → member_type (types t).members m < t)
          → (m : ℕ) → m < suc j → Same (member_type (types t).members m)
      own before earlier m l = go (ℕ_discrete m j)
        where
          go : Dec (m ≡ j) → Same (member_type (types t).members m)
          go (yes q) = rw q (same (member_type (types t).members j) (omega (arith, earlier j r.below)) (λ count span e. absurd (no_struct (RuntimeArray r.base r.stride) refl (sym r.runtime ∙ e))))
          go (no q) = same (member_type (types t).members m) (omega (arith, earlier m (omega (arith, r.below)))) (λ _ _ _. before m (omega arith))

  -- ---- which types have a runtime-sized member
  -- no SIZED type
  pub sized_none : (t : ℕ) → t < n → Sized t → (j : ℕ) → ¬ RuntimeMember types t j
  sized_none t h sized j r =
      let s = struct_row min_storage c types n acc t h r.count r.span r.is_struct in
      let m = struct_member min_storage c types n acc t h r.count r.span r.is_struct j r.below in
      let earlier = member_earlier min_storage c types n acc t h r.count r.span r.is_struct j r.below in
      runtime_unsized (member_type (types t).members j) (omega (arith, earlier)) r.base r.stride r.runtime (m.flag sized_bit (rw (s.flags sized_bit refl) at sized))

  -- no member's type: it is SIZED, or an array
  pub member_none : (t : ℕ) → t < n → (count span : ℕ) → (types t).inner ≡ Struct count span → (j : ℕ) → j < count
      → (k : ℕ) → ¬ RuntimeMember types (member_type (types t).members j) k
  member_none t h count span e j l k r =
      let u = member_type (types t).members j in
      ⊎_elim (λ sized. sized_none u (omega (arith, member_earlier min_storage c types n acc t h count span e j l)) sized k r)
      (λ tail. subst (λ (x : TypeInner). T (is_array x)) r.is_struct tail.0)
      (member_sized min_storage c types n acc t h count span e j l)

  -- no base of an array
  pub array_none : (t : ℕ) → t < n → (base count stride : ℕ) → (types t).inner ≡ Array base count stride → (k : ℕ) → ¬ RuntimeMember types base k
  array_none t h base count stride e =
      let a = array_row min_storage c types n acc t h base count stride e in
      sized_none base (omega (arith, a.0)) (base_sized a.1)

  -- nor of a runtime array
  pub runtime_array_none : (t : ℕ) → t < n → (base stride : ℕ) → (types t).inner ≡ RuntimeArray base stride → (k : ℕ) → ¬ RuntimeMember types base k
  runtime_array_none t h base stride e =
      let a = runtime_array_row min_storage c types n acc t h base stride e in
      sized_none base (omega (arith, a.0)) (base_sized a.1)
