-- By the newer uniform rule an accepted arena judges a placement for uniform as WGSL's uniform_buffer_standard_layout does: where record t is a WGSL type,
-- placed whatever way, and HOST_SHAREABLE is set, the uniform verdict is Ok exactly where the storage constraints hold and no member is runtime-sized.
-- Assumes nothing.
use mathlib.Core.Path.{◌≡◌, refl, sym, ◌∙◌, ap, subst}
use mathlib.Core.Bool.{Bool, true, false}
use mathlib.Core.Logic.{◌↔◌}
use mathlib.Core.List.{List}
use Prim.Native.Nat.{ℕ, suc, ◌<◌}
use native.Mathlib.Omega.{arith}
use lib.Dec.{T}
use Rattle.ir_records.specs.Result.{pick}
use Rattle.ir_records.specs.Record.{Decoded, decoded, type_count, member_type}
use Rattle.ir_records.specs.Outcome.{Accepted}
use Rattle.ir_records.specs.declared.TypeInner.TheVariants.{RuntimeArray}
use Rattle.proc_layouter.proofs.LayoutAccepted.{array_layout, runtime_array_layout}
use Rattle.valid_flags.specs.Flags.{bit, host_shareable_bit}
use Rattle.valid_type_info.specs.declared.Verdict.{Verdict}
use Rattle.valid_type_info.specs.declared.UniformRule.TheVariants.{Newer}
use Rattle.valid_type_info.specs.Verdict.{least_for, min_storage, is_ok, alignment_in, unless_ok, unsized_member}
use Rattle.valid_arena.specs.Arena.{row, arena}
use Rattle.valid_arena.specs.UniformRules.{RuntimeMember}
use Rattle.valid_arena.proofs.AcceptedLaws.{AcceptedTypes, member_earlier}
use Rattle.valid_arena.proofs.ArenaLaws.{accepted_types}
use Rattle.valid_arena.proofs.NewerLaws.{newer_same, newer_runtime, member_none, array_none, runtime_array_none}
use Rattle.w3c_agreement.specs.Placed.{storage, Placed, plain, array, runtime_array, struct, PlacedMembers, last, member, last_member, member_total, type_of_member, FixedSize, required_align_of, IsPlaced, IsMember}
use Rattle.w3c_agreement.specs.StandardLayout.{NoneRuntime, AllNoneRuntime, StandardLayout}
use Rattle.w3c_agreement.proofs.PlacedLaws.{member_is}
use Rattle.w3c_agreement.proofs.PlacedAgreement.{storage_placed}

-- a verdict with an error in the place of Ok is not Ok
unless_off : (v : Verdict) (i j : ℕ) → T (is_ok (unless_ok v (unsized_member i j))) → ⊥
unless_off v i j = go (is_ok v) refl
  where
    go : (b : Bool) → is_ok v ≡ b → T (is_ok (pick b (unsized_member i j) v)) → ⊥
    go true e t = t
    go false e t = rw e at t

-- ---- records
-- a placed type that is no runtime-sized array has no such record
not_runtime : (type : Placed) (types : ℕ → Decoded) (t base stride : ℕ) → IsPlaced type types t → FixedSize type → (types t).inner ≡ RuntimeArray base stride → ⊥
unfolding IsPlaced
not_runtime (plain p) types t base stride is fixed e = let z : ◌≡◌ {A = ℕ} 0 1 = cc in omega arith
not_runtime (array element count own) types t base stride is fixed e = let v = is.1 in let z : ◌≡◌ {A = ℕ} 0 1 = cc in omega arith
not_runtime (runtime_array element own) types t base stride is fixed e = fixed
not_runtime (struct members span) types t base stride is fixed e = let v = is.0 in let z : ◌≡◌ {A = ℕ} 0 1 = cc in omega arith

-- one that has no such record is none
fixed_size : (type : Placed) (types : ℕ → Decoded) (t : ℕ) → IsPlaced type types t → ((base stride : ℕ) → (types t).inner ≡ RuntimeArray base stride → ⊥) → FixedSize type
unfolding IsPlaced
fixed_size (plain p) types t is none = tt
fixed_size (array element count stride) types t is none = tt
fixed_size (runtime_array element stride) types t is none = none is.0 stride is.1
fixed_size (struct members span) types t is none = tt

-- no struct's member is a runtime array where no member of the placed type is runtime-sized
runtime_none : (type : Placed) (types : ℕ → Decoded) (t : ℕ) → IsPlaced type types t → NoneRuntime type → (j : ℕ) → ¬ RuntimeMember types t j
unfolding IsPlaced NoneRuntime
runtime_none (plain p) types t is none j r = let e = r.is_struct in let z : ◌≡◌ {A = ℕ} 0 1 = cc in omega arith
runtime_none (array element count stride) types t is none j r = let v = is.1 in let e = r.is_struct in let z : ◌≡◌ {A = ℕ} 0 1 = cc in omega arith
runtime_none (runtime_array element stride) types t is none j r = let v = is.1 in let e = r.is_struct in let z : ◌≡◌ {A = ℕ} 0 1 = cc in omega arith
runtime_none (struct members span) types t is none j r =
    let v = is.0 in
    let e = r.is_struct in
    let same : member_total members ≡ r.count = cc in
    let l : j < member_total members = omega (arith, same, r.below) in
    not_runtime (type_of_member members j) types (member_type (types t).members j) r.base r.stride
    (member_is members types j (member_type (types t).members j) (is.2 j l)) (none.0 j l) r.runtime

-- ---- the other way round, in an accepted arena: what a type contains has no runtime-sized member
module _ (c : ℕ) (types : ℕ → Decoded) (n : ℕ) (acc : AcceptedTypes c types n) where
  mutual
    unfolding IsPlaced NoneRuntime last_member

    none_runtime : (type : Placed) (t : ℕ) → t < n → IsPlaced type types t → ((j : ℕ) → ¬ RuntimeMember types t j) → NoneRuntime type
    none_runtime (plain p) t h is none = tt
    none_runtime (array element count stride) t h is none =
        none_runtime element is.0 (omega (arith, (array_layout types n acc.layouts t h is.0 count stride is.1).1)) is.2
        (array_none c types n acc t h is.0 count stride is.1)
    none_runtime (runtime_array element stride) t h is none =
        none_runtime element is.0 (omega (arith, (runtime_array_layout types n acc.layouts t h is.0 stride is.1).1)) is.2
        (runtime_array_none c types n acc t h is.0 stride is.1)
    none_runtime (struct members span) t h is none = (
      λ i l. fixed_size (type_of_member members i) types (member_type (types t).members i) (member_is members types i (member_type (types t).members i) (is.2 i l))
          (λ base stride e. none i (record { count = member_total members; span = span; is_struct = is.0; below = l; base = base; stride = stride; runtime = e })),
      all_none_runtime members (member_type (types t).members)
          (λ i l. (
            omega (arith, member_earlier min_storage c types n acc t h (member_total members) span is.0 i l),
            is.2 i l,
            member_none c types n acc t h (member_total members) span is.0 i l,
          )),
    )

    -- of the members, whose records f says
    all_none_runtime : (members : PlacedMembers) (f : ℕ → ℕ)
        → ((i : ℕ) → i < member_total members → (f i < n) × IsMember members types i (f i) × ((k : ℕ) → ¬ RuntimeMember types (f i) k)) → AllNoneRuntime members
    all_none_runtime (last type offset) f each = let this = each 0 (omega arith) in none_runtime type (f 0) this.0 this.1 this.2
    all_none_runtime (member type offset rest) f each =
        let this = each 0 (omega arith) in
        (none_runtime type (f 0) this.0 this.1 this.2, all_none_runtime rest (λ i. f (suc i)) (λ i l. each (suc i) (omega arith)))

-- ---- the theorem: in an accepted arena record t is a placed WGSL type with HOST_SHAREABLE
module _ (c : ℕ) (ts ms : List ℕ) (accepted : arena c ts ms ≡ Accepted) (type : Placed) (t : ℕ) (h : t < type_count ts) (is : IsPlaced type (decoded ts ms) t)
    (set : T (bit (row (least_for Newer) c (decoded ts ms) t).flags host_shareable_bit)) where
  abbrev verdict : Verdict
  verdict = (row (least_for Newer) c (decoded ts ms) t).uniform

  acc : AcceptedTypes c (decoded ts ms) (type_count ts)
  acc = accepted_types c ts ms accepted

  -- a uniform verdict that is Ok: no member of struct t is a runtime array
  ok_none : T (is_ok verdict) → (j : ℕ) → ¬ RuntimeMember (decoded ts ms) t j
  ok_none ok j r =
      unless_off (row (least_for Newer) c (decoded ts ms) t).storage t j
      (subst (λ (v : Verdict). T (is_ok v)) (newer_runtime c (decoded ts ms) (type_count ts) acc t h j r) ok)

  same : ((j : ℕ) → ¬ RuntimeMember (decoded ts ms) t j) → verdict ≡ (row (least_for Newer) c (decoded ts ms) t).storage
  same = newer_same c (decoded ts ms) (type_count ts) acc t h

  -- so it is the storage verdict
  ok_storage : T (is_ok verdict) → T (is_ok (row (least_for Newer) c (decoded ts ms) t).storage)
  ok_storage ok = subst (λ (v : Verdict). T (is_ok v)) (same (ok_none ok)) ok

  -- the uniform verdict is Ok exactly where the storage constraints hold of the placement and no member is runtime-sized; its alignment is then RequiredAlignOf
  -- for storage
  pub uniform_newer_placed : (StandardLayout type ↔ T (is_ok verdict)) × (T (is_ok verdict) → alignment_in verdict ≡ required_align_of type storage)
  uniform_newer_placed =
      let s = storage_placed c ts ms accepted type t h is Newer set in (
        (
          λ p. subst (λ (v : Verdict). T (is_ok v)) (sym (same (runtime_none type (decoded ts ms) t is p.1))) (s.0.0 p.0),
          λ ok. (s.0.1 (ok_storage ok), none_runtime c (decoded ts ms) (type_count ts) acc type t h is (ok_none ok)),
        ),
        λ ok. ap (λ (v : Verdict). alignment_in v) (same (ok_none ok)) ∙ s.1 (ok_storage ok),
      )
