-- What an accepted struct says of its members: their flags, the running end, and which of them are sized.
-- Assumes nothing.
use mathlib.Core.Path.{◌≡◌, refl, sym, ap}
use mathlib.Core.Bool.{Bool, true, false, ◌&&◌, ◌||◌}
use mathlib.Core.List.{List}
use Prim.Native.Nat.{ℕ, zero, suc, ◌+◌, ◌≤◌, ◌<◌}
use native.Mathlib.Nat.{not-suc-le-zero}
use native.Mathlib.Decide.{ℕ_discrete}
use native.Mathlib.Omega.{arith}
use lib.Bits.{bit_and}
use lib.Dec.{T, eqb, leb, leb→le}
use borrow.Author.Tests.{le-leb}
use Rattle.ir_records.specs.Result.{ok, pick}
use Rattle.ir_records.specs.Record.{member_type, member_offset}
use Rattle.ir_records.specs.declared.TypeInner.{TypeInner}
use Rattle.ir_records.proofs.ResultLaws.{required, and_then_ok, ok_inj, true_T, and_left}
use Rattle.proc_alignment.specs.Alignment.{most}
use Rattle.valid_flags.specs.Flags.{bit, data_bit, sized_bit, host_shareable_bit, creation_resolved_bit, not_host_shareable}
use Rattle.valid_flags.proofs.BitLaws.{bit-and, bit_and_both}
use Rattle.valid_type_info.specs.declared.Row.{Row}
use Rattle.valid_type_info.specs.TypeInfo.{row_sizes, row_flags}
use Rattle.valid_type_info.specs.Verdict.{distance_ok}
use Rattle.valid_member_bounds.specs.declared.Bounds.{Bounds}
use Rattle.valid_type_info.specs.Verdict.{previous_of}
use Rattle.valid_member_bounds.specs.MemberBounds.{is_array, member_flags, member_bounds, bounds_after}

-- ---- one member
-- a flag that is still set after a member was set before it, and in the member's type
kept : (end offset x y : ℕ) → T (bit (member_flags end offset (bit_and x y)) host_shareable_bit) → T (bit x host_shareable_bit) × T (bit y host_shareable_bit)
kept end offset x y = go (leb end offset)
  where
    go : (b : Bool) → T (bit (pick b (bit_and x y) (not_host_shareable (bit_and x y))) host_shareable_bit) → T (bit x host_shareable_bit) × T (bit y host_shareable_bit)
    go true t = bit-and x y host_shareable_bit t
    go false t = bit-and x y host_shareable_bit (bit-and (bit_and x y) 239 host_shareable_bit t).0

-- and the member starts at the running end or later
kept_apart : (end offset flags : ℕ) → T (bit (member_flags end offset flags) host_shareable_bit) → end ≤ offset
kept_apart end offset flags = go (leb end offset) refl
  where
    go : (b : Bool) → leb end offset ≡ b → T (bit (pick b flags (not_host_shareable flags)) host_shareable_bit) → end ≤ offset
    go true e t = leb→le end offset (true_T e)
    go false e t = absurd (bit-and flags 239 host_shareable_bit t).1

-- and it stays set after a member that starts at the running end or later, where both have it
stays : (end offset x y : ℕ) → end ≤ offset → T (bit x host_shareable_bit) → T (bit y host_shareable_bit)
    → T (bit (member_flags end offset (bit_and x y)) host_shareable_bit)
stays end offset x y h t u = rw (le-leb end offset h) (bit_and_both x y host_shareable_bit t u)

-- sized, or an array at the end
abbrev pub SizedOrLast : (sized array final : Bool) → Type 0
SizedOrLast sized array final = T (sized || array && final)

-- the running end before member j
abbrev pub end_before : (rows : ℕ → Row) (members : List ℕ) → ℕ → ℕ
end_before rows members zero = 0
end_before rows members (suc j) = member_offset members j + (rows (member_type members j)).size

-- the members of a struct of `count` members
module _ (inner : ℕ → TypeInner) (rows : ℕ → Row) (count span : ℕ) (members : List ℕ) where
  -- the row of the type of member j
  abbrev row_of_member : ℕ → Row
  row_of_member j = rows (member_type members j)

  -- what is after j + 1 members, from what is after j
  record After (j : ℕ) (b : Bounds) : Type 0 where
    before : Bounds
    is_before : bounds_after inner (row_sizes rows) (row_flags rows) count span members j ≡ ok before
    sized : SizedOrLast (bit (row_of_member j).flags sized_bit) (is_array (inner (member_type members j))) (eqb (suc j) count)
    is-data : T (bit (row_of_member j).flags data_bit)
    within : member_offset members j + (row_of_member j).size ≤ span
    is_end : b.end ≡ member_offset members j + (row_of_member j).size
    is_flags : b.flags ≡ member_flags before.end (member_offset members j) (bit_and before.flags (row_of_member j).flags)

  -- an accepted member says this
  after : (j : ℕ) (b : Bounds) → bounds_after inner (row_sizes rows) (row_flags rows) count span members (suc j) ≡ ok b → After j b
  unfolding bounds_after member_bounds
  after j b e =
      let previous = previous_of inner members j in
      let this = inner (member_type members j) in
      let offset = member_offset members j in
      let r = row_of_member j in
      let s = and_then_ok (bounds_after inner (row_sizes rows) (row_flags rows) count span members j) (member_bounds count span previous this offset j r.size r.flags) b e in
      let data-given = required (bit r.flags data_bit && bit r.flags creation_resolved_bit) 17 j 0 _ b s.2 in
      let no-overlap = required (leb s.0.end offset || eqb offset 0) 18 j 0 _ b data-given.1 in
      let small = required (leb (offset + r.size) most) 21 j 0 _ b no-overlap.1 in
      let within = required (leb (offset + r.size) span) 19 j 0 _ b small.1 in
      let distance = required (distance_ok previous offset) 21 j 0 _ b within.1 in
      let sized = required (bit r.flags sized_bit || is_array this && eqb (suc j) count) 20 j 0 _ b distance.1 in
      let is = ok_inj sized.1 in
      record {
        before = s.0;
        is_before = s.1;
        sized = sized.0;
        is-data = and_left (bit r.flags data_bit) (bit r.flags creation_resolved_bit) data-given.0;
        within = leb→le (offset + r.size) span within.0;
        is_end = sym (ap (λ (x : Bounds). x.end) is);
        is_flags = sym (ap (λ (x : Bounds). x.flags) is);
      }

  -- ---- all members
  -- the running end is that of the member before
  end_is : (j : ℕ) (b : Bounds) → bounds_after inner (row_sizes rows) (row_flags rows) count span members j ≡ ok b → b.end ≡ end_before rows members j
  unfolding bounds_after
  end_is zero b e = sym (ap (λ (x : Bounds). x.end) (ok_inj e))
  end_is (suc j) b e = (after j b e).is_end

  -- each of the first j members is sized, or an array at the end
  pub sized_each : (j : ℕ) (b : Bounds) → bounds_after inner (row_sizes rows) (row_flags rows) count span members j ≡ ok b → (i : ℕ) → i < j
      → SizedOrLast (bit (row_of_member i).flags sized_bit) (is_array (inner (member_type members i))) (eqb (suc i) count)
  sized_each zero b e i h = absurd (not-suc-le-zero h)
  sized_each (suc j) b e i h = let a = after j b e in go (sized_each j a.before a.is_before) a.sized (ℕ_discrete i j)
    where
      go : ((k : ℕ) → k < j → SizedOrLast (bit (row_of_member k).flags sized_bit) (is_array (inner (member_type members k))) (eqb (suc k) count))
          → SizedOrLast (bit (row_of_member j).flags sized_bit) (is_array (inner (member_type members j))) (eqb (suc j) count)
          → Dec (i ≡ j) → SizedOrLast (bit (row_of_member i).flags sized_bit) (is_array (inner (member_type members i))) (eqb (suc i) count)
      go ih this (yes q) = rw q this
      go ih this (no q) = ih i (omega arith)

  -- each of the first j members is data
  pub data_each : (j : ℕ) (b : Bounds) → bounds_after inner (row_sizes rows) (row_flags rows) count span members j ≡ ok b → (i : ℕ) → i < j → T (bit (row_of_member i).flags data_bit)
  data_each zero b e i h = absurd (not-suc-le-zero h)
  data_each (suc j) b e i h = let a = after j b e in go (data_each j a.before a.is_before) a.is-data (ℕ_discrete i j)
    where
      go : ((k : ℕ) → k < j → T (bit (row_of_member k).flags data_bit)) → T (bit (row_of_member j).flags data_bit) → Dec (i ≡ j) → T (bit (row_of_member i).flags data_bit)
      go ih this (yes q) = rw q this
      go ih this (no q) = ih i (omega arith)

  -- each of the first j members ends within the span
  pub within_each : (j : ℕ) (b : Bounds) → bounds_after inner (row_sizes rows) (row_flags rows) count span members j ≡ ok b → (i : ℕ) → i < j
      → member_offset members i + (row_of_member i).size ≤ span
  within_each zero b e i h = absurd (not-suc-le-zero h)
  within_each (suc j) b e i h = let a = after j b e in go (within_each j a.before a.is_before) a.within (ℕ_discrete i j)
    where
      go : ((k : ℕ) → k < j → member_offset members k + (row_of_member k).size ≤ span) → member_offset members j + (row_of_member j).size ≤ span
          → Dec (i ≡ j) → member_offset members i + (row_of_member i).size ≤ span
      go ih this (yes q) = rw q this
      go ih this (no q) = ih i (omega arith)

  -- where HOST_SHAREABLE is set after j members, it is set in the type of each
  pub shareable_each : (j : ℕ) (b : Bounds) → bounds_after inner (row_sizes rows) (row_flags rows) count span members j ≡ ok b → T (bit b.flags host_shareable_bit)
      → (i : ℕ) → i < j → T (bit (row_of_member i).flags host_shareable_bit)
  shareable_each zero b e t i h = absurd (not-suc-le-zero h)
  shareable_each (suc j) b e t i h =
      let a = after j b e in
      let k = kept a.before.end (member_offset members j) a.before.flags (row_of_member j).flags (rw a.is_flags at t) in
      go (shareable_each j a.before a.is_before k.0) k.1 (ℕ_discrete i j)
    where
      go : ((k : ℕ) → k < j → T (bit (row_of_member k).flags host_shareable_bit)) → T (bit (row_of_member j).flags host_shareable_bit)
          → Dec (i ≡ j) → T (bit (row_of_member i).flags host_shareable_bit)
      go ih this (yes q) = rw q this
      go ih this (no q) = ih i (omega arith)

  -- and each starts at the running end or later
  pub apart_each : (j : ℕ) (b : Bounds) → bounds_after inner (row_sizes rows) (row_flags rows) count span members j ≡ ok b → T (bit b.flags host_shareable_bit)
      → (i : ℕ) → i < j → end_before rows members i ≤ member_offset members i
  apart_each zero b e t i h = absurd (not-suc-le-zero h)
  apart_each (suc j) b e t i h =
      let a = after j b e in
      let set = rw a.is_flags at t in
      let k = kept a.before.end (member_offset members j) a.before.flags (row_of_member j).flags set in
      let this = kept_apart a.before.end (member_offset members j) (bit_and a.before.flags (row_of_member j).flags) set in
      go (apart_each j a.before a.is_before k.0) (rw (end_is j a.before a.is_before) at this) (ℕ_discrete i j)
    where
      go : ((k : ℕ) → k < j → end_before rows members k ≤ member_offset members k) → end_before rows members j ≤ member_offset members j
          → Dec (i ≡ j) → end_before rows members i ≤ member_offset members i
      go ih this (yes q) = rw q this
      go ih this (no q) = ih i (omega arith)

  -- and it is set after j members where it is set in the type of each and no member starts before the running end
  pub shareable_all : (j : ℕ) (b : Bounds) → bounds_after inner (row_sizes rows) (row_flags rows) count span members j ≡ ok b
      → ((i : ℕ) → i < j → (end_before rows members i ≤ member_offset members i) × T (bit (row_of_member i).flags host_shareable_bit)) → T (bit b.flags host_shareable_bit)
  unfolding bounds_after
  shareable_all zero b e each = rw (sym (ok_inj e)) tt
  shareable_all (suc j) b e each =
      let a = after j b e in
      let this = each j (omega arith) in
      let ended = end_is j a.before a.is_before in
      rw a.is_flags
      (stays a.before.end (member_offset members j) a.before.flags (row_of_member j).flags (omega arith)
      (shareable_all j a.before a.is_before (λ i h. each i (omega arith))) this.1)
