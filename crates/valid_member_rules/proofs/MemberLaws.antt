-- Laws of a struct's members: what a verdict that is Ok says of each.
-- Assumes nothing.
use mathlib.Core.Path.{◌≡◌, refl, ◌∙◌, ap, subst}
use mathlib.Core.List.{List}
use Prim.Native.Nat.{ℕ, zero, suc, ◌≤◌, ◌<◌, ◌∣◌, max}
use native.Mathlib.Nat.{not-suc-le-zero}
use native.Mathlib.Decide.{ℕ_discrete}
use native.Mathlib.Omega.{arith}
use lib.Dec.{T}
use Rattle.ir_records.specs.Record.{member_type, member_offset}
use Rattle.ir_records.specs.declared.TypeInner.{TypeInner}
use Rattle.proc_alignment.specs.Alignment.{Power}
use Rattle.valid_flags.specs.Flags.{bit, sized_bit, host_shareable_bit}
use Rattle.valid_type_info.specs.declared.Verdict.{Verdict}
use Rattle.valid_type_info.specs.declared.Row.{Row}
use Rattle.valid_type_info.specs.Verdict.{is_ok, alignment_in, share_verdict, member_verdict, previous_of, distance_verdict, unsized_verdict}
use Rattle.valid_type_info.proofs.VerdictLaws.{OkPower, ok_power, MemberOk, member-ok, share_ok, distance-ok, unsized_ok, member_power, same_power}
use Rattle.valid_member_rules.specs.MemberRules.{uniform_after, storage_after}

-- what a verdict that is Ok says of member m: `of` takes the uniform or the storage verdict from a row, a is the struct's alignment
pub record OkMember (of : Row → Verdict) (rows : ℕ → Row) (members : List ℕ) (m a : ℕ) : Type 0 where
  pub ok : T (is_ok (of (rows (member_type members m))))
  pub divides : alignment_in (of (rows (member_type members m))) ∣ member_offset members m
  pub below : alignment_in (of (rows (member_type members m))) ≤ a

-- known of the members before, and of the last one: known of all
ok_members : (of : Row → Verdict) (rows : ℕ → Row) (i : ℕ) (members : List ℕ) (j : ℕ) (so_far v : Verdict)
    → MemberOk (member_offset members j) so_far (of (rows (member_type members j))) v
    → ((m : ℕ) → m < j → OkMember of rows members m (alignment_in so_far)) → (m : ℕ) → m < suc j → OkMember of rows members m (alignment_in v)
ok_members of rows i members j so_far v k before m h = go (ℕ_discrete m j)
  where
    go : Dec (m ≡ j) → OkMember of rows members m (alignment_in v)
    go (yes q) = rw q (record { ok = k.member_ok; divides = k.divides; below = omega (arith, k.largest) })
    go (no q) = let f = before m (omega arith) in record { ok = f.ok; divides = f.divides; below = omega (arith, k.largest, f.below) }

module _ (rows : ℕ → Row) (i : ℕ) (members : List ℕ) where
  -- the last member's part in a storage verdict
  storage_last : (j : ℕ) → T (is_ok (storage_after rows i members (suc j)))
      → T (is_ok (storage_after rows i members j))
      × MemberOk (member_offset members j) (storage_after rows i members j) (rows (member_type members j)).storage (storage_after rows i members (suc j))
  unfolding storage_after
  storage_last j t =
      let b = bit (rows (member_type members j)).flags host_shareable_bit in
      let s = share_verdict b (member_type members j) (storage_after rows i members j) in
      let k = member-ok i j (member_offset members j) s (rows (member_type members j)).storage t in
      let e = share_ok b (member_type members j) (storage_after rows i members j) k.so_far_ok in (
        subst (λ (v : Verdict). T (is_ok v)) e k.so_far_ok,
        record {
          so_far_ok = subst (λ (v : Verdict). T (is_ok v)) e k.so_far_ok;
          member_ok = k.member_ok;
          largest = k.largest ∙ ap (λ (v : Verdict). max (alignment_in v) (alignment_in (rows (member_type members j)).storage)) e;
          divides = k.divides;
        },
      )

  -- a storage verdict that is Ok: each member's is Ok, and its alignment divides its offset and is no larger
  pub storage_members : (j : ℕ) → T (is_ok (storage_after rows i members j))
      → (m : ℕ) → m < j → OkMember (λ (r : Row). r.storage) rows members m (alignment_in (storage_after rows i members j))
  storage_members zero t m h = absurd (not-suc-le-zero h)
  storage_members (suc j) t m h =
      let k = storage_last j t in
      ok_members (λ (r : Row). r.storage) rows i members j (storage_after rows i members j) (storage_after rows i members (suc j)) k.1
      (storage_members j k.0) m h

  -- powers of two make a power of two
  pub storage_power_after : (j : ℕ) → ((m : ℕ) → m < j → OkPower (rows (member_type members m)).storage) → OkPower (storage_after rows i members j)
  unfolding storage_after
  storage_power_after zero p = ok_power 1 (record { exponent = 0; is = refl })
  storage_power_after (suc j) p =
      let b = bit (rows (member_type members j)).flags host_shareable_bit in
      let v = storage_after rows i members j in
      member_power i j (member_offset members j) (share_verdict b (member_type members j) v) (rows (member_type members j)).storage
      (same_power v (share_verdict b (member_type members j) v) (share_ok b (member_type members j) v) (storage_power_after j (λ m h. p m (omega arith))))
      (p j (omega arith))

module _ (least : ℕ) (inner : ℕ → TypeInner) (rows : ℕ → Row) (i : ℕ) (members : List ℕ) where
  -- the last member's part in a uniform verdict, with the member's type SIZED
  uniform_last : (j : ℕ) → T (is_ok (uniform_after least inner rows i members (suc j)))
      → T (is_ok (uniform_after least inner rows i members j))
      × T (bit (rows (member_type members j)).flags sized_bit)
      × MemberOk (member_offset members j) (uniform_after least inner rows i members j) (rows (member_type members j)).uniform (uniform_after least inner rows i members (suc j))
  unfolding uniform_after
  uniform_last j t =
      let b = bit (rows (member_type members j)).flags host_shareable_bit in
      let z = bit (rows (member_type members j)).flags sized_bit in
      let v = uniform_after least inner rows i members j in
      let s = share_verdict b (member_type members j) v in
      let m = member_verdict i j (member_offset members j) s (rows (member_type members j)).uniform in
      let d = distance_verdict least i j (member_offset members j) (previous_of inner members j) m in
      let u = unsized_ok z i j d t in
      let t₁ = subst (λ (w : Verdict). T (is_ok w)) u.1 t in
      let f = distance-ok least i j (member_offset members j) (previous_of inner members j) m t₁ in
      let t₂ = subst (λ (w : Verdict). T (is_ok w)) f t₁ in
      let k = member-ok i j (member_offset members j) s (rows (member_type members j)).uniform t₂ in
      let e = share_ok b (member_type members j) v k.so_far_ok in (
        subst (λ (w : Verdict). T (is_ok w)) e k.so_far_ok,
        u.0,
        record {
          so_far_ok = subst (λ (w : Verdict). T (is_ok w)) e k.so_far_ok;
          member_ok = k.member_ok;
          largest =
              ap (λ (w : Verdict). alignment_in w) (u.1 ∙ f) ∙ k.largest
              ∙ ap (λ (w : Verdict). max (alignment_in w) (alignment_in (rows (member_type members j)).uniform)) e;
          divides = k.divides;
        },
      )

  -- a uniform verdict that is Ok: each member's is Ok, and its alignment divides its offset and is no larger
  pub uniform_members : (j : ℕ) → T (is_ok (uniform_after least inner rows i members j))
      → (m : ℕ) → m < j → OkMember (λ (r : Row). r.uniform) rows members m (alignment_in (uniform_after least inner rows i members j))
  uniform_members zero t m h = absurd (not-suc-le-zero h)
  uniform_members (suc j) t m h =
      let k = uniform_last j t in
      ok_members (λ (r : Row). r.uniform) rows i members j (uniform_after least inner rows i members j) (uniform_after least inner rows i members (suc j)) k.2
      (uniform_members j k.0) m h

  -- powers of two make a power of two
  pub uniform_power_after : Power least → (j : ℕ) → ((m : ℕ) → m < j → OkPower (rows (member_type members m)).uniform) → OkPower (uniform_after least inner rows i members j)
  unfolding uniform_after
  uniform_power_after pl zero p = ok_power least pl
  uniform_power_after pl (suc j) p =
      let b = bit (rows (member_type members j)).flags host_shareable_bit in
      let z = bit (rows (member_type members j)).flags sized_bit in
      let v = uniform_after least inner rows i members j in
      let s = share_verdict b (member_type members j) v in
      let m = member_verdict i j (member_offset members j) s (rows (member_type members j)).uniform in
      let d = distance_verdict least i j (member_offset members j) (previous_of inner members j) m in
      same_power d (unsized_verdict z i j d) (λ t. (unsized_ok z i j d t).1)
      (same_power m d (distance-ok least i j (member_offset members j) (previous_of inner members j) m)
      (member_power i j (member_offset members j) s (rows (member_type members j)).uniform
      (same_power v s (share_ok b (member_type members j) v) (uniform_power_after pl j (λ m h. p m (omega arith))))
      (p j (omega arith))))
