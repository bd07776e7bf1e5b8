-- Laws of a struct's members: what an accepted struct says of each.
-- Assumes nothing.
use mathlib.Core.Path.{◌≡◌, sym, ap, subst, ◌∙◌}
use mathlib.Core.Bool.{Bool, true, false, ◌&&◌, ◌||◌}
use mathlib.Core.Logic.{◌⊎◌, inl, inr}
use mathlib.Core.List.{List}
use Prim.Native.Nat.{ℕ, zero, suc, ◌+◌, ◌≤◌, ◌<◌}
use native.Mathlib.Nat.{not-suc-le-zero}
use native.Mathlib.Decide.{ℕ_discrete}
use native.Mathlib.Omega.{arith}
use lib.Bits.{bit_and}
use lib.Dec.{T, eqb, leb, leb→le, eqb→eq}
use Rattle.ir_records.specs.Result.{Result, ok, pick, require}
use Rattle.ir_records.specs.Record.{member_type, member_offset}
use Rattle.ir_records.specs.declared.TypeInner.{TypeInner}
use Rattle.ir_records.proofs.ResultLaws.{required, and_then_ok, ok_inj, and_left, and_right, or_cases, T_true}
use Rattle.proc_alignment.specs.Alignment.{most}
use Rattle.valid_flags.specs.Flags.{bit, data_bit, sized_bit, host_shareable_bit, creation_resolved_bit, not_host_shareable}
use Rattle.valid_flags.proofs.BitLaws.{bit-and, bit_and_both}
use Rattle.std.specs.Prelude.{Option, Some, None, SomeIff}
use Rattle.std.specs.Prelude.{Ok}
use Rattle.std.specs.Option.{ok_or}
use Rattle.valid_type_info.specs.declared.PreviousStruct.{PreviousStruct}
use Rattle.valid_type_info.specs.Verdict.{previous_of, distance_ok}
use Rattle.valid_member_bounds.specs.declared.Bounds.{Bounds}
use Rattle.valid_member_bounds.specs.MemberBounds.{is_array, is_member_data, is_apart, is_member_sized, member_flags, bounds_by, member_bounds, bounds_after}

-- ---- one member
-- what an accepted member says; size and flags are those of its type
pub record MemberTaken (count span : ℕ) (previous : Option PreviousStruct) (inner : TypeInner) (offset j size flags : ℕ) (so_far next : Bounds) : Type 0 where
  pub is_data : T (bit flags data_bit)
  pub resolved : T (bit flags creation_resolved_bit)
  pub ordered : T (leb so_far.end offset || eqb offset 0)
  pub fits : offset + size ≤ most
  pub within : offset + size ≤ span
  pub distance : T (distance_ok previous offset)
  pub sized_or_tail : T (bit flags sized_bit || is_array inner && eqb (suc j) count)
  pub is : next ≡ record { end = offset + size; flags = member_flags so_far.end offset (bit_and so_far.flags flags) }

-- a member that is accepted passes the six tests
pub member_taken : (count span : ℕ) (previous : Option PreviousStruct) (inner : TypeInner) (offset j size flags : ℕ) (so_far next : Bounds)
    → member_bounds count span previous inner offset j size flags so_far ≡ ok next → MemberTaken count span previous inner offset j size flags so_far next
unfolding member_bounds
member_taken count span previous inner offset j size flags so_far next e =
    let a = required (bit flags data_bit && bit flags creation_resolved_bit) 17 j 0 _ next e in
    let b = required (leb so_far.end offset || eqb offset 0) 18 j 0 _ next a.1 in
    let c = required (leb (offset + size) most) 21 j 0 _ next b.1 in
    let d = required (leb (offset + size) span) 19 j 0 _ next c.1 in
    let f = required (distance_ok previous offset) 21 j 0 _ next d.1 in
    let g = required (bit flags sized_bit || is_array inner && eqb (suc j) count) 20 j 0 _ next f.1 in
    record {
      is_data = and_left (bit flags data_bit) (bit flags creation_resolved_bit) a.0;
      resolved = and_right (bit flags data_bit) (bit flags creation_resolved_bit) a.0;
      ordered = b.0;
      fits = leb→le (offset + size) most c.0;
      within = leb→le (offset + size) span d.0;
      distance = f.0;
      sized_or_tail = g.0;
      is = sym (ok_inj g.1);
    }

-- a flag that is left after a member was there before, and is one of the member's type
flag_left : (ordered : Bool) (x y k : ℕ) → T (bit (pick ordered (bit_and x y) (not_host_shareable (bit_and x y))) k) → T (bit x k) × T (bit y k)
flag_left true x y k t = bit-and x y k t
flag_left false x y k t = bit-and x y k (bit-and (bit_and x y) 239 k t).0

-- HOST_SHAREABLE is left only where the member starts at the running end or past it
host_ordered : (ordered : Bool) (x y : ℕ) → T (bit (pick ordered (bit_and x y) (not_host_shareable (bit_and x y))) host_shareable_bit) → T ordered
host_ordered true x y t = tt
host_ordered false x y t = (bit-and (bit_and x y) 239 host_shareable_bit t).1

-- DATA stays
data_stays : (ordered : Bool) (x y : ℕ) → T (bit x data_bit) → T (bit y data_bit) → T (bit (pick ordered (bit_and x y) (not_host_shareable (bit_and x y))) data_bit)
data_stays true x y t u = bit_and_both x y data_bit t u
data_stays false x y t u = bit_and_both (bit_and x y) 239 data_bit (bit_and_both x y data_bit t u) tt

-- a member that is taken has a distance that can be told
pub bounds-within : (count span : ℕ) (within array : Bool) (offset j size flags : ℕ) (so_far b : Bounds)
    → bounds_by count span within array offset j size flags so_far ≡ ok b → within ≡ true
bounds-within count span within array offset j size flags so_far b e =
    let fine : Result Bounds = ok (record { end = offset + size; flags = member_flags so_far.end offset (bit_and so_far.flags flags) }) in
    let sized = require (is_member_sized flags array j count) 20 j 0 fine in
    let distant = require within 21 j 0 sized in
    let inside = require (leb (offset + size) span) 19 j 0 distant in
    let summed = require (leb (offset + size) most) 21 j 0 inside in
    let apart = require (is_apart so_far.end offset) 18 j 0 summed in
    let e1 = (required (is_member_data flags) 17 j 0 apart b e).1 in
    let e2 = (required (is_apart so_far.end offset) 18 j 0 summed b e1).1 in
    let e3 = (required (leb (offset + size) most) 21 j 0 inside b e2).1 in
    let e4 = (required (leb (offset + size) span) 19 j 0 distant b e3).1 in
    T_true within (required within 21 j 0 sized b e4).0

-- ---- all members
-- what an accepted struct says of its member m; b is what the members up to some later one leave
pub record MemberIn (inner : ℕ → TypeInner) (sizes flags : ℕ → ℕ) (count span : ℕ) (members : List ℕ) (m : ℕ) (b : Bounds) : Type 0 where
  pub is_data : T (bit (flags (member_type members m)) data_bit)
  pub resolved : T (bit (flags (member_type members m)) creation_resolved_bit)
  pub fits : member_offset members m + sizes (member_type members m) ≤ most
  pub within : member_offset members m + sizes (member_type members m) ≤ span
  pub sized_or_tail : T (bit (flags (member_type members m)) sized_bit) ⊎ (T (is_array (inner (member_type members m))) × (suc m ≡ count))
  pub flag : (k : ℕ) → T (bit b.flags k) → T (bit (flags (member_type members m)) k)
  pub ended : T (bit b.flags host_shareable_bit) → member_offset members m + sizes (member_type members m) ≤ b.end
  pub apart : T (bit b.flags host_shareable_bit) → (k : ℕ) → k < m
      → member_offset members k + sizes (member_type members k) ≤ member_offset members m

module _ (inner : ℕ → TypeInner) (sizes flags : ℕ → ℕ) (count span : ℕ) (members : List ℕ) where
  -- member j accepted after `so_far`, leaving `next`
  abbrev Taken : ℕ → Bounds → Bounds → Type 0
  Taken j so_far next =
      MemberTaken count span (previous_of inner members j) (inner (member_type members j)) (member_offset members j) j (sizes (member_type members j)) (flags (member_type members j)) so_far next

  -- the last member, and what the members before it leave
  pub last_taken : (j : ℕ) (b : Bounds) → bounds_after inner sizes flags count span members (suc j) ≡ ok b
      → (so_far : Bounds) × (bounds_after inner sizes flags count span members j ≡ ok so_far) × Taken j so_far b
  unfolding bounds_after
  last_taken j b e =
      let a = and_then_ok (bounds_after inner sizes flags count span members j) _ b e in (
        a.0,
        a.1,
        member_taken count span (previous_of inner members j) (inner (member_type members j)) (member_offset members j) j (sizes (member_type members j)) (flags (member_type members j)) a.0 b a.2,
      )

  -- a flag left after member j was there before, and is one of the member's type
  taken_flag : (j k : ℕ) (so_far next : Bounds) → Taken j so_far next → T (bit next.flags k)
      → T (bit so_far.flags k) × T (bit (flags (member_type members j)) k)
  taken_flag j k so_far next t h =
      flag_left (leb so_far.end (member_offset members j)) so_far.flags (flags (member_type members j)) k (rw t.is at h)

  -- where HOST_SHAREABLE is left, member j starts at the running end or past it
  taken_host : (j : ℕ) (so_far next : Bounds) → Taken j so_far next → T (bit next.flags host_shareable_bit) → so_far.end ≤ member_offset members j
  taken_host j so_far next t h =
      leb→le so_far.end (member_offset members j)
      (host_ordered (leb so_far.end (member_offset members j)) so_far.flags (flags (member_type members j)) (rw t.is at h))

  -- the running end is the end of member j
  taken_end : (j : ℕ) (so_far next : Bounds) → Taken j so_far next → next.end ≡ member_offset members j + sizes (member_type members j)
  taken_end j so_far next t = ap (λ (x : Bounds). x.end) t.is

  -- what is known of an earlier member stays known
  earlier_member : (j m : ℕ) (so_far next : Bounds) → Taken j so_far next → MemberIn inner sizes flags count span members m so_far
      → MemberIn inner sizes flags count span members m next
  earlier_member j m so_far next t f =
      record {
        is_data = f.is_data;
        resolved = f.resolved;
        fits = f.fits;
        within = f.within;
        sized_or_tail = f.sized_or_tail;
        flag = λ k h. f.flag k (taken_flag j k so_far next t h).0;
        ended = λ h.
            let e = f.ended (taken_flag j host_shareable_bit so_far next t h).0 in
            let o = taken_host j so_far next t h in
            omega (arith, taken_end j so_far next t);
        apart = λ h. f.apart (taken_flag j host_shareable_bit so_far next t h).0;
      }

  -- what is known of the last member
  last-member : (j : ℕ) (so_far next : Bounds) → Taken j so_far next
      → ((m : ℕ) → m < j → MemberIn inner sizes flags count span members m so_far) → MemberIn inner sizes flags count span members j next
  last-member j so_far next t f =
      record {
        is_data = t.is_data;
        resolved = t.resolved;
        fits = t.fits;
        within = t.within;
        sized_or_tail = sized-or-tail (or_cases (bit (flags (member_type members j)) sized_bit) (is_array (inner (member_type members j)) && eqb (suc j) count) t.sized_or_tail);
        flag = λ k h. (taken_flag j k so_far next t h).1;
        ended = λ h. omega (arith, taken_end j so_far next t);
        apart = λ h m l.
            let e = (f m l).ended (taken_flag j host_shareable_bit so_far next t h).0 in
            let o = taken_host j so_far next t h in
            omega arith;
      }
    where
      sized-or-tail : T (bit (flags (member_type members j)) sized_bit) ⊎ T (is_array (inner (member_type members j)) && eqb (suc j) count)
          → T (bit (flags (member_type members j)) sized_bit) ⊎ (T (is_array (inner (member_type members j))) × (suc j ≡ count))
      sized-or-tail (inl a) = inl a
      sized-or-tail (inr a) =
          inr (
            and_left (is_array (inner (member_type members j))) (eqb (suc j) count) a,
            eqb→eq (suc j) count (and_right (is_array (inner (member_type members j))) (eqb (suc j) count) a),
          )

  -- each of the first j members, where they are accepted
  pub members-in : (j : ℕ) (b : Bounds) → bounds_after inner sizes flags count span members j ≡ ok b
      → (m : ℕ) → m < j → MemberIn inner sizes flags count span members m b
  members-in zero b e m h = absurd (not-suc-le-zero h)
  members-in (suc j) b e m h =
      let a = last_taken j b e in
      go a.0 a.2 (members-in j a.0 a.1) (ℕ_discrete m j)
    where
      go : (so_far : Bounds) → Taken j so_far b → ((k : ℕ) → k < j → MemberIn inner sizes flags count span members k so_far) → Dec (m ≡ j)
          → MemberIn inner sizes flags count span members m b
      go so_far t f (yes q) = rw q (last-member j so_far b t f)
      go so_far t f (no q) = earlier_member j m so_far b t (f m (omega arith))

  -- an accepted struct is DATA
  pub members_data : (j : ℕ) (b : Bounds) → bounds_after inner sizes flags count span members j ≡ ok b → T (bit b.flags data_bit)
  unfolding bounds_after
  members_data zero b e = subst (λ (x : Bounds). T (bit x.flags data_bit)) (ok_inj e) tt
  members_data (suc j) b e =
      let a = last_taken j b e in
      rw a.2.is
      (data_stays (leb a.0.end (member_offset members j)) a.0.flags (flags (member_type members j)) (members_data j a.0 a.1) a.2.is_data)

-- what a sum says that is asked for
pub summed : {E : Type 0} (r : Option ℕ) (e : E) (P : Type 0) (v n : ℕ) → SomeIff r P v → ok_or r e ≡ Ok n → P × (n ≡ v)
summed (Some x) e P v n h same = let at : x ≡ n = cc in (h.0, sym at ∙ h.1)
summed None e P v n h same = cc
