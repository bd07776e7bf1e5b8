-- What the rules that make verdicts say of a verdict: where it is Ok, and with what alignment.
-- Assumes nothing.
use mathlib.Core.Path.{◌≡◌, refl, ◌∙◌}
use mathlib.Core.Bool.{Bool, true, false}
use mathlib.Core.Logic.{◌↔◌}
use Prim.Native.Nat.{ℕ, ◌+◌, ◌-◌, ◌%◌, ◌≤◌, ◌∣◌, max}
use native.Mathlib.Nat.{mod-eq-zero_of_dvd}
use lib.Dec.{T, leb, leb→le}
use borrow.Author.Tests.{eq-eqb, le-leb}
use Rattle.ir_records.specs.Result.{pick}
use Rattle.ir_records.proofs.ResultLaws.{true_T, T_true}
use Rattle.proc_alignment.specs.Alignment.{is_aligned, round_up}
use Rattle.proc_alignment.proofs.PowerLaws.{aligned_divides}
use Rattle.valid_type_info.specs.declared.Verdict.{Verdict}
use Rattle.std.specs.Prelude.{Option}
use Rattle.valid_type_info.specs.declared.PreviousStruct.{PreviousStruct}
use Rattle.std.specs.Prelude.{None, Some}
use Rattle.valid_type_info.specs.Verdict.{min_uniform, ok_verdict, array_stride, struct_span, member_offset_off, member_offset_after_struct, unsized_member, is_ok, alignment_in, unless_ok, stride_verdict, array_verdict, share_verdict, offset_verdict, member_verdict, distance_verdict, unsized_verdict, span_verdict}

-- v is Ok exactly where P holds, and its alignment is then a
pub record Judged (P : Type 0) (a : ℕ) (v : Verdict) : Type 0 where
  pub passes : P → T (is_ok v)
  pub holds : T (is_ok v) → P
  pub align : T (is_ok v) → alignment_in v ≡ a

-- the same of a statement that says the same, and of an equal alignment
pub judged_same : (P Q : Type 0) (a b : ℕ) (v : Verdict) → P ↔ Q → a ≡ b → Judged P a v → Judged Q b v
judged_same P Q a b v same e j = record { passes = λ q. j.passes (same.1 q); holds = λ t. same.0 (j.holds t); align = λ t. j.align t ∙ e }

-- ---- the rest after a verdict
-- the rest stands after a verdict that is Ok
unless_pass : (v w : Verdict) → T (is_ok v) → unless_ok v w ≡ w
unless_pass v w t = rw (T_true (is_ok v) t)

-- where the outcome is Ok, the verdict before it was
unless-ok : (v w : Verdict) → T (is_ok (unless_ok v w)) → T (is_ok v)
unless-ok v w = go (is_ok v) refl
  where
    go : (b : Bool) → is_ok v ≡ b → T (is_ok (pick b w v)) → T (is_ok v)
    go true e t = true_T e
    go false e t = t

-- both are Ok where the outcome is
judged_rest : (P Q : Type 0) (a b : ℕ) (v w : Verdict) → Judged P a v → (T (is_ok v) → Judged Q b w) → Judged (P × Q) b (unless_ok v w)
judged_rest P Q a b v w j k =
    record {
      passes = λ pq. let t = j.passes pq.0 in rw (unless_pass v w t) ((k t).passes pq.1);
      holds = λ t. let u = unless-ok v w t in (j.holds u, (k u).holds (rw (unless_pass v w u) at t));
      align = λ t. let u = unless-ok v w t in rw (unless_pass v w u) ((k u).align (rw (unless_pass v w u) at t));
    }

-- ---- tests
-- a verdict that is Ok where a test holds, else some error
judged_test : (b : Bool) (a : ℕ) (e : Verdict) → is_ok e ≡ false → Judged (T b) a (pick b (ok_verdict a) e)
judged_test true a e off = record { passes = λ t. tt; holds = λ t. tt; align = λ t. refl }
judged_test false a e off = record { passes = λ t. absurd t; holds = λ t. rw off at t; align = λ t. let f : ⊥ = rw off at t in absurd f }

-- a verdict that stays where a test holds, else some error
judged_guard : (b : Bool) (P : Type 0) (a : ℕ) (v e : Verdict) → is_ok e ≡ false → Judged P a v → Judged (P × T b) a (pick b v e)
judged_guard true P a v e off j = record { passes = λ p. j.passes p.0; holds = λ t. (j.holds t, tt); align = j.align }
judged_guard false P a v e off j =
    record {
      passes = λ p. absurd p.1;
      holds = λ t. let f : ⊥ = rw off at t in absurd f;
      align = λ t. let f : ⊥ = rw off at t in absurd f;
    }

-- the test of an alignment holds exactly of its multiples
pub aligned_iff : (a n : ℕ) → T (is_aligned a n) ↔ (a ∣ n)
aligned_iff a n = (aligned_divides a n, λ d. true_T (eq-eqb (n % a) 0 (mod-eq-zero_of_dvd a d)))

-- ---- the rules
-- a stride by the alignment it is judged by
judged_stride : (i stride a : ℕ) → Judged (a ∣ stride) a (stride_verdict i stride a)
judged_stride i stride a =
    judged_same (T (is_aligned a stride)) (a ∣ stride) a a (stride_verdict i stride a) (aligned_iff a stride) refl
    (judged_test (is_aligned a stride) a (array_stride i stride a) refl)

-- an array, from the verdict of its element
pub judged_array : (P : Type 0) (least i stride alignment b : ℕ) (v : Verdict) → Judged P b v
    → Judged (P × (max (max b alignment) least ∣ stride)) (max (max b alignment) least) (array_verdict least i stride alignment v)
unfolding array_verdict
judged_array P least i stride alignment b v j =
    judged_rest P (max (max b alignment) least ∣ stride) b (max (max b alignment) least) v (stride_verdict i stride (max (max (alignment_in v) alignment) least)) j
    (λ t. rw (j.align t) (judged_stride i stride (max (max b alignment) least)))

-- a member's type that is host-shareable leaves the verdict
pub judged_share : (P : Type 0) (a t : ℕ) (shareable : Bool) (v : Verdict) → T shareable → Judged P a v → Judged P a (share_verdict shareable t v)
unfolding share_verdict
judged_share P a t true v s j = j
judged_share P a t false v s j = absurd s

-- an offset by the alignment it is judged by
judged_offset : (i j offset a b : ℕ) → Judged (b ∣ offset) (max a b) (offset_verdict i j offset a b)
judged_offset i j offset a b =
    judged_same (T (is_aligned b offset)) (b ∣ offset) (max a b) (max a b) (offset_verdict i j offset a b) (aligned_iff b offset) refl
    (judged_test (is_aligned b offset) (max a b) (member_offset_off i j offset b) refl)

-- a member, from the struct's verdict so far and the verdict of the member's type
pub judged_member : (P Q : Type 0) (i j offset a b : ℕ) (v w : Verdict) → Judged P a v → Judged Q b w
    → Judged (P × (Q × (b ∣ offset))) (max a b) (member_verdict i j offset v w)
unfolding member_verdict
judged_member P Q i j offset a b v w x y =
    judged_rest P (Q × (b ∣ offset)) a (max a b) v (unless_ok w (offset_verdict i j offset (alignment_in v) (alignment_in w))) x
    (λ t. judged_rest Q (b ∣ offset) b (max a b) w (offset_verdict i j offset (alignment_in v) (alignment_in w)) y
    (λ u. rw (x.align t, y.align u) (judged_offset i j offset a b)))

-- what the distance rule asks
abbrev pub DistanceKept : (offset : ℕ) → Option PreviousStruct → Type 0
DistanceKept offset None = Unit {0}
DistanceKept offset (Some before) = round_up min_uniform before.span ≤ offset - before.offset

-- the test of an order holds exactly where the order does
order_iff : (m n : ℕ) → T (leb m n) ↔ (m ≤ n)
order_iff m n = (leb→le m n, λ h. true_T (le-leb m n h))

-- the distance rule of the older uniform rule
pub judged_distance : (P : Type 0) (i j offset a : ℕ) (previous : Option PreviousStruct) (v : Verdict) → Judged P a v
    → Judged (P × DistanceKept offset previous) a (distance_verdict min_uniform i j offset previous v)
unfolding distance_verdict
judged_distance P i j offset a None v x = record { passes = λ p. x.passes p.0; holds = λ t. (x.holds t, tt); align = x.align }
judged_distance P i j offset a (Some before) v x =
    let span = before.span in
    let at = before.offset in
    let same = order_iff (round_up min_uniform span) (offset - at) in
    judged_same (P × T (leb (round_up min_uniform span) (offset - at))) (P × (round_up min_uniform span ≤ offset - at)) a a
    (distance_verdict min_uniform i j offset (Some before) v) (λ p. (p.0, same.0 p.1), λ p. (p.0, same.1 p.1)) refl
    (judged_guard (leb (round_up min_uniform span) (offset - at)) P a v (member_offset_after_struct i j offset (at + round_up min_uniform span)) refl x)

-- a member that is not sized
pub judged_unsized : (P : Type 0) (i j a : ℕ) (sized : Bool) (v : Verdict) → Judged P a v → Judged (P × T sized) a (unsized_verdict sized i j v)
unfolding unsized_verdict
judged_unsized P i j a true v x = record { passes = λ p. x.passes p.0; holds = λ t. (x.holds t, tt); align = x.align }
judged_unsized P i j a false v x =
    judged_rest P ⊥ a a v (unsized_member i j) x (λ t. record { passes = λ f. absurd f; holds = λ f. f; align = λ f. absurd f })

-- the span rule leaves the verdict exactly where the span is a multiple of the alignment
pub judged_span : (P : Type 0) (i span alignment a : ℕ) (v : Verdict) → Judged P a v → Judged (P × (alignment ∣ span)) a (span_verdict i span alignment v)
unfolding span_verdict
judged_span P i span alignment a v x =
    let same = aligned_iff alignment span in
    judged_same (P × T (is_aligned alignment span)) (P × (alignment ∣ span)) a a (span_verdict i span alignment v)
    (λ p. (p.0, same.0 p.1), λ p. (p.0, same.1 p.1)) refl
    (judged_guard (is_aligned alignment span) P a v (struct_span i span alignment) refl x)
