-- A member that breaks no rule: what each test gives, and what each rule then makes of the state so far.
-- Assumes nothing.
use mathlib.Core.Path.{◌≡◌, refl}
use mathlib.Core.Bool.{Bool, true, false, ◌&&◌}
use Prim.Native.Nat.{ℕ, ◌+◌, ◌-◌, ◌≤◌, max}
use native.Mathlib.Omega.{arith}
use lib.Bits.{bit_and}
use lib.Dec.{eqb, eqb→eq}
use borrow.Author.Tests.{le-leb}
use Rattle.ir_records.specs.Result.{ok}
use Rattle.ir_records.specs.declared.TypeInner.{TypeInner}
use Rattle.ir_records.proofs.ResultLaws.{true_T, T_true, and_left, and_right}
use Rattle.proc_alignment.specs.Alignment.{most, is_mask, is_aligned, round_up}
use Rattle.proc_alignment.proofs.RoundLaws.{sum_within}
use Rattle.valid_flags.specs.Flags.{bit, data_bit, sized_bit, host_shareable_bit, creation_resolved_bit}
use Rattle.valid_type_info.specs.declared.Verdict.{Verdict}
use Rattle.valid_type_info.specs.declared.Row.{Row}
use Rattle.std.specs.Prelude.{Option, None, Some}
use Rattle.valid_type_info.specs.declared.PreviousStruct.{PreviousStruct}
use Rattle.valid_type_info.specs.declared.UniformRule.{UniformRule}
use Rattle.valid_type_info.specs.Verdict.{min_uniform, least_for, ok_verdict, is_ok, alignment_in, distance_ok, distance_verdict, share_verdict, member_verdict, unsized_verdict}
use Rattle.valid_type_info.proofs.DistanceLaws.{distance_enough}
use Rattle.valid_member_bounds.specs.MemberBounds.{member_bounds}
use Rattle.valid_member_rules.specs.MemberRules.{member_uniform, member_storage}
use Rattle.valid_member_rules.specs.Serving.{is_plain}
use Rattle.valid_members_plain.specs.declared.PlainState.{PlainState}
use Rattle.valid_members_plain.specs.Serving.{least_of, keeps_verdicts, keeps_storage, keeps, alignment_after, uniform_so_far, HasFailed, plain_bounds}

-- ---- the least offset
pub record Apart (end offset i j : ℕ) (before : Option PreviousStruct) : Type 0 where
  pub clear : end ≤ offset
  pub within : distance_ok before offset ≡ true
  pub verdict : (rule : UniformRule) (v : Verdict) → distance_verdict (least_for rule) i j offset before v ≡ v

-- an offset from the least one on overlaps nothing and keeps the distance
pub apart : (end offset i j : ℕ) (before : Option PreviousStruct) → least_of end before ≤ offset → offset ≤ most → Apart end offset i j before
unfolding distance_ok distance_verdict
apart end offset i j None h l = record { clear = h; within = refl; verdict = λ rule v. refl }
apart end offset i j (Some before) h l =
    let span = before.span in
    let at = before.offset in
    let both = below end (at + round_up min_uniform span) offset h in
    let enough : round_up min_uniform span ≤ offset - at = omega (arith, both.1) in
    record {
      clear = both.0;
      within = rw (le-leb at offset (omega (arith, both.1)), sum_within span (omega (arith, both.1, l)), le-leb (round_up min_uniform span) (offset - at) enough) refl;
      verdict = λ rule v. distance_enough rule i j offset span at v (le-leb (round_up min_uniform span) (offset - at) enough);
    }
  where
    below : (m n k : ℕ) → max m n ≤ k → (m ≤ k) × (n ≤ k)
    below m n k h = omega arith

-- ---- the verdicts
pub record Kept (r : Row) (offset : ℕ) : Type 0 where
  pub uniform_ok : is_ok r.uniform ≡ true
  pub storage_ok : is_ok r.storage ≡ true
  pub immediates : r.immediates ≡ 0
  pub uniform : is_aligned (alignment_in r.uniform) offset ≡ true
  pub storage : is_aligned (alignment_in r.storage) offset ≡ true

kept : (r : Row) (offset : ℕ) → keeps_verdicts r offset ≡ true → Kept r offset
kept r offset e =
    let ou = is_ok r.uniform in
    let os = is_ok r.storage in
    let z = eqb r.immediates 0 in
    let mu = is_mask (alignment_in r.uniform) in
    let au = is_aligned (alignment_in r.uniform) offset in
    let ms = is_mask (alignment_in r.storage) in
    let sa = is_aligned (alignment_in r.storage) offset in
    let all = true_T e in
    let two = and_left ((ou && os && z) && (mu && au)) (ms && sa) all in
    let codes = and_left (ou && os && z) (mu && au) two in
    let oks = and_left (ou && os) z codes in
    record {
      uniform_ok = T_true ou (and_left ou os oks);
      storage_ok = T_true os (and_right ou os oks);
      immediates = eqb→eq r.immediates 0 (and_right (ou && os) z codes);
      uniform = T_true au (and_right mu au (and_right (ou && os && z) (mu && au) two));
      storage = T_true sa (and_right ms sa (and_right ((ou && os && z) && (mu && au)) (ms && sa) all));
    }

-- the storage verdict alone
pub record StorageKept (r : Row) (offset : ℕ) : Type 0 where
  pub storage_ok : is_ok r.storage ≡ true
  pub immediates : r.immediates ≡ 0
  pub storage : is_aligned (alignment_in r.storage) offset ≡ true

storage_only : (r : Row) (offset : ℕ) → keeps_storage r offset ≡ true → StorageKept r offset
storage_only r offset e =
    let os = is_ok r.storage in
    let z = eqb r.immediates 0 in
    let ms = is_mask (alignment_in r.storage) in
    let sa = is_aligned (alignment_in r.storage) offset in
    let all = true_T e in
    let codes = and_left (os && z) (ms && sa) all in
    record {
      storage_ok = T_true os (and_left os z codes);
      immediates = eqb→eq r.immediates 0 (and_right os z codes);
      storage = T_true sa (and_right ms sa (and_right (os && z) (ms && sa) all));
    }

-- what either loop keeps of the storage verdict
pub storage_kept : (uniform : Option ℕ) (r : Row) (offset : ℕ) → keeps uniform r offset ≡ true → StorageKept r offset
storage_kept (Some alignment) r offset e = let k = kept r offset e in record { storage_ok = k.storage_ok; immediates = k.immediates; storage = k.storage }
storage_kept None r offset e = storage_only r offset e

-- ---- each rule
module _ (this : TypeInner) (r : Row) (i count span j t offset : ℕ) (before : Option PreviousStruct) (s : PlainState) (plain : is_plain r.flags ≡ true) where
  is-data : bit r.flags data_bit ≡ true
  is-data =
      let d = bit r.flags data_bit in
      let z = bit r.flags sized_bit in
      let h = bit r.flags host_shareable_bit in
      let c = bit r.flags creation_resolved_bit in
      T_true d (and_left d z (and_left (d && z) h (and_left (d && z && h) c (true_T plain))))

  is-sized : bit r.flags sized_bit ≡ true
  is-sized =
      let d = bit r.flags data_bit in
      let z = bit r.flags sized_bit in
      let h = bit r.flags host_shareable_bit in
      let c = bit r.flags creation_resolved_bit in
      T_true z (and_right d z (and_left (d && z) h (and_left (d && z && h) c (true_T plain))))

  is_shareable : bit r.flags host_shareable_bit ≡ true
  is_shareable =
      let d = bit r.flags data_bit in
      let z = bit r.flags sized_bit in
      let h = bit r.flags host_shareable_bit in
      let c = bit r.flags creation_resolved_bit in
      T_true h (and_right (d && z) h (and_left (d && z && h) c (true_T plain)))

  is_resolved : bit r.flags creation_resolved_bit ≡ true
  is_resolved =
      let d = bit r.flags data_bit in
      let z = bit r.flags sized_bit in
      let h = bit r.flags host_shareable_bit in
      let c = bit r.flags creation_resolved_bit in
      T_true c (and_right (d && z && h) c (true_T plain))

  pub bounds-step : Apart s.end offset i j before → offset + r.size ≤ span → span ≤ most
      → member_bounds count span before this offset j r.size r.flags (plain_bounds s) ≡ ok (record { end = offset + r.size; flags = bit_and s.flags r.flags })
  unfolding member_bounds
  bounds-step a within fits =
      rw (is-data, is-sized, is_resolved, le-leb s.end offset a.clear, le-leb (offset + r.size) most (omega arith), le-leb (offset + r.size) span within, a.within) refl

  pub uniform_step : (rule : UniformRule) (alignment : ℕ) → Apart s.end offset i j before → Kept r offset
      → member_uniform (least_for rule) i j t offset before r (ok_verdict alignment) ≡ ok_verdict (max alignment (alignment_in r.uniform))
  unfolding share_verdict member_verdict unsized_verdict
  uniform_step rule alignment a k = rw (is-sized, is_shareable, a.verdict rule, k.uniform_ok, k.uniform) refl

  -- a uniform verdict that has failed stays
  pub uniform_stays : (rule : UniformRule) (u : Verdict) → is_ok u ≡ false → Apart s.end offset i j before
      → member_uniform (least_for rule) i j t offset before r u ≡ u
  unfolding share_verdict member_verdict unsized_verdict
  uniform_stays rule u failed a = rw (is-sized, is_shareable, a.verdict rule, failed) refl

  pub storage_step : is_ok r.storage ≡ true → is_aligned (alignment_in r.storage) offset ≡ true
      → member_storage i j t offset r (ok_verdict s.storage) ≡ ok_verdict (max s.storage (alignment_in r.storage))
  unfolding share_verdict member_verdict
  storage_step fine aligned = rw (is_shareable, fine, aligned) refl

  pub uniform_by : (uniform : Option ℕ) (rule : UniformRule) (u : Verdict) → HasFailed uniform u → Apart s.end offset i j before → keeps uniform r offset ≡ true
      → member_uniform (least_for rule) i j t offset before r (uniform_so_far uniform u) ≡ uniform_so_far (alignment_after uniform (alignment_in r.uniform)) u
  uniform_by (Some alignment) rule u failed a e = uniform_step rule alignment a (kept r offset e)
  uniform_by None rule u failed a e = uniform_stays rule u failed a

-- a uniform verdict that has failed stays so
pub still_failed : (uniform : Option ℕ) (own : ℕ) (u : Verdict) → HasFailed uniform u → HasFailed (alignment_after uniform own) u
still_failed (Some alignment) own u failed = tt
still_failed None own u failed = failed
