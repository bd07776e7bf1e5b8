-- Laws of verdicts: what a verdict that is Ok was made of. The alignment in a verdict that is Ok stays a power of two.
-- Assumes nothing.
use mathlib.Core.Path.{◌≡◌, refl, sym, ◌∙◌, ap, subst}
use mathlib.Core.Bool.{Bool, true, false, ◌||◌}
use mathlib.Core.List.{List}
use Prim.Native.Nat.{ℕ, zero, suc, ◌-◌, ◌<◌, ◌∣◌, max}
use native.Mathlib.Nat.{le_refl}
use lib.Dec.{T, leb}
use Rattle.ir_records.specs.Result.{pick}
use Rattle.ir_records.specs.Record.{member_type, member_offset}
use Rattle.ir_records.specs.declared.TypeInner.{TypeInner}
use Rattle.proc_alignment.specs.Alignment.{Power, is_aligned, round_up}
use Rattle.proc_alignment.proofs.PowerLaws.{aligned_divides, power_max}
use Rattle.valid_type_info.specs.declared.Verdict.{Verdict}
use Rattle.std.specs.Prelude.{Option}
use Rattle.valid_type_info.specs.declared.PreviousStruct.{PreviousStruct}
use Rattle.std.specs.Prelude.{None, Some}
use Rattle.valid_type_info.specs.Verdict.{ok_verdict, non_host_shareable, unsized_member, is_ok, alignment_in, unless_ok, stride_verdict, array_verdict, share_verdict, offset_verdict, member_verdict, struct_at, previous_of, distance_verdict, unsized_verdict, span_verdict}

-- the alignment is a power of two, where the verdict is Ok
abbrev pub OkPower : Verdict → Type 0
OkPower v = T (is_ok v) → Power (alignment_in v)

-- a verdict that is Ok with a power of two
pub ok_power : (a : ℕ) → Power a → OkPower (ok_verdict a)
ok_power a p t = p

-- ---- what an Ok verdict was made of
-- an error that was met stays, so the verdict before was Ok and this one is the new one
pub unless-ok : (v w : Verdict) → T (is_ok (unless_ok v w)) → T (is_ok v) × (unless_ok v w ≡ w)
unless-ok v w t = go (is_ok v) refl t
  where
    go : (b : Bool) → is_ok v ≡ b → T (is_ok (pick b w v)) → T b × (pick b w v ≡ w)
    go true e t = (tt, refl)
    go false e t = absurd (rw e at t)

-- a verdict that is Ok where the test holds: it does hold
pick_ok : (b : Bool) (v w : Verdict) → (T (is_ok w) → ⊥) → T (is_ok (pick b v w)) → T b × (pick b v w ≡ v)
pick_ok true v w n t = (tt, refl)
pick_ok false v w n t = absurd (n t)

-- an array: the element's verdict is Ok, and the stride is a multiple of the largest of three alignments
pub record ArrayOk (least stride alignment : ℕ) (base v : Verdict) : Type 0 where
  pub base_ok : T (is_ok base)
  pub largest : alignment_in v ≡ max (max (alignment_in base) alignment) least
  pub divides : alignment_in v ∣ stride

-- an array's verdict that is Ok says that
pub array_ok : (least i stride alignment : ℕ) (base : Verdict)
    → T (is_ok (array_verdict least i stride alignment base)) → ArrayOk least stride alignment base (array_verdict least i stride alignment base)
unfolding array_verdict
array_ok least i stride alignment base t =
    let a = max (max (alignment_in base) alignment) least in
    let u = unless-ok base (stride_verdict i stride a) t in
    let s = pick_ok (is_aligned a stride) (ok_verdict a) _ (λ (n : ⊥). n) (subst (λ (v : Verdict). T (is_ok v)) u.1 t) in
    let e : alignment_in (unless_ok base (stride_verdict i stride a)) ≡ a = ap (λ (v : Verdict). alignment_in v) (u.1 ∙ s.1) in
    record { base_ok = u.0; largest = e; divides = subst (λ (x : ℕ). x ∣ stride) (sym e) (aligned_divides a stride s.0) }

-- a member: the verdicts of the struct so far and of the member are Ok, and the offset is a multiple of the member's alignment
pub record MemberOk (offset : ℕ) (so_far member v : Verdict) : Type 0 where
  pub so_far_ok : T (is_ok so_far)
  pub member_ok : T (is_ok member)
  pub largest : alignment_in v ≡ max (alignment_in so_far) (alignment_in member)
  pub divides : alignment_in member ∣ offset

-- a verdict after a member that is Ok says that
pub member-ok : (i j offset : ℕ) (so_far member : Verdict)
    → T (is_ok (member_verdict i j offset so_far member)) → MemberOk offset so_far member (member_verdict i j offset so_far member)
unfolding member_verdict
member-ok i j offset so_far member t =
    let o = offset_verdict i j offset (alignment_in so_far) (alignment_in member) in
    let u = unless-ok so_far (unless_ok member o) t in
    let t₁ = subst (λ (v : Verdict). T (is_ok v)) u.1 t in
    let w = unless-ok member o t₁ in
    let s = pick_ok (is_aligned (alignment_in member) offset) (ok_verdict (max (alignment_in so_far) (alignment_in member))) _ (λ (n : ⊥). n) (subst (λ (v : Verdict). T (is_ok v)) w.1 t₁) in
    record {
      so_far_ok = u.0;
      member_ok = w.0;
      largest = ap (λ (v : Verdict). alignment_in v) (u.1 ∙ w.1 ∙ s.1);
      divides = aligned_divides (alignment_in member) offset s.0;
    }

-- the other rules leave a verdict that comes out Ok as it was: the rule on members that are not host-shareable
pub share_ok : (shareable : Bool) (t : ℕ) (v : Verdict) → T (is_ok (share_verdict shareable t v)) → share_verdict shareable t v ≡ v
unfolding share_verdict
share_ok true t v h = refl
share_ok false t v h = let u = unless-ok v (non_host_shareable t) h in absurd (subst (λ (w : Verdict). T (is_ok w)) u.1 h)

-- the distance rule
pub distance-ok : (least i j offset : ℕ) (previous : Option PreviousStruct) (v : Verdict)
    → T (is_ok (distance_verdict least i j offset previous v)) → distance_verdict least i j offset previous v ≡ v
unfolding distance_verdict
distance-ok least i j offset None v t = refl
distance-ok least i j offset (Some before) v t = (pick_ok (leb least 1 || leb (round_up least before.span) (offset - before.offset)) v _ (λ (n : ⊥). n) t).1

-- the rule on unsized members; the member is SIZED
pub unsized_ok : (sized : Bool) (i j : ℕ) (v : Verdict) → T (is_ok (unsized_verdict sized i j v)) → T sized × (unsized_verdict sized i j v ≡ v)
unfolding unsized_verdict
unsized_ok true i j v h = (tt, refl)
unsized_ok false i j v h = let u = unless-ok v (unsized_member i j) h in absurd (subst (λ (w : Verdict). T (is_ok w)) u.1 h)

-- the span rule
pub span_ok : (i span alignment : ℕ) (v : Verdict) → T (is_ok (span_verdict i span alignment v)) → span_verdict i span alignment v ≡ v
unfolding span_verdict
span_ok i span alignment v t = (pick_ok (is_aligned alignment span) v _ (λ (n : ⊥). n) t).1

-- ---- powers of two
-- the alignment in an array's verdict
pub array_power : (least i stride alignment : ℕ) (base : Verdict) → Power least → Power alignment → OkPower base → OkPower (array_verdict least i stride alignment base)
array_power least i stride alignment base pl pa pb t =
    let k = array_ok least i stride alignment base t in
    rw k.largest (power_max (max (alignment_in base) alignment) least (power_max (alignment_in base) alignment (pb k.base_ok) pa) pl)

-- the alignment in a verdict after a member
pub member_power : (i j offset : ℕ) (so_far member : Verdict) → OkPower so_far → OkPower member → OkPower (member_verdict i j offset so_far member)
member_power i j offset so_far member ps pm t =
    let k = member-ok i j offset so_far member t in
    rw k.largest (power_max (alignment_in so_far) (alignment_in member) (ps k.so_far_ok) (pm k.member_ok))

-- a rule that leaves an Ok verdict as it was keeps the power of two
pub same_power : (v w : Verdict) → (T (is_ok w) → w ≡ v) → OkPower v → OkPower w
same_power v w same p t = let e = same t in subst (λ (x : Verdict). OkPower x) (sym e) p t

-- ---- the struct right before a member
-- two readings of the records that agree on the members before it give the same
pub previous_inner : (inner inner' : ℕ → TypeInner) (members : List ℕ) (j : ℕ)
    → ((m : ℕ) → m < j → inner (member_type members m) ≡ inner' (member_type members m)) → previous_of inner members j ≡ previous_of inner' members j
unfolding previous_of
previous_inner inner inner' members zero same = refl
previous_inner inner inner' members (suc j) same = ap (λ (x : TypeInner). struct_at x (member_offset members j)) (same j (le_refl (suc j)))
