-- Laws of blend sources: members without one are judged as before; what is accepted with them is accepted without; the rule after the
-- last member leaves every flag but IO_SHAREABLE.
-- Assumes nothing.
use Rattle.std.proofs.Common.{Option, Some, None}
use Rattle.std.specs.Option.{is_some}
use Rattle.std.specs.List.{list_any, range_with_len}
use mathlib.Core.Path.{◌≡◌, refl, sym, ◌∙◌, ap}
use mathlib.Core.Bool.{Bool, true, false, not, ◌||◌}
use mathlib.Core.Logic.{◌⊎◌, inl, inr}
use mathlib.Core.List.{List}
use Prim.Native.Nat.{ℕ, zero, suc, ◌+◌, ◌/◌, ◌%◌, ◌^◌, ◌-◌, ◌≤◌, ◌<◌}
use native.Mathlib.Nat.{not-suc-le-zero, le_refl}
use native.Mathlib.Decide.{ℕ_discrete, le_ind}
use native.Mathlib.Numerals.{add-one}
use native.Mathlib.Omega.{arith}
use lib.Bits.{bit_or, or_shr, or_step}
use lib.Dec.{T, eqb, leb}
use borrow.Author.Tests.{eq-eqb, ne_eqb}
use Rattle.ir_records.specs.Result.{Result, err, ok, pick, require, and_then}
use Rattle.ir_records.specs.Record.{member_type, member_offset, member_source, Sourceless}
use Rattle.ir_records.specs.declared.TypeInner.{TypeInner}
use Rattle.ir_records.proofs.RecordLaws.{any_last}
use Rattle.ir_records.proofs.ResultLaws.{required, require_twice, and_then_ok, ok_inj, T_true}
use Rattle.valid_flags.specs.Flags.{bit, io_shareable_bit, io_shareable_flag}
use Rattle.proc_alignment.specs.Alignment.{most}
use Rattle.std.specs.Prelude.{Option}
use Rattle.valid_type_info.specs.declared.PreviousStruct.{PreviousStruct}
use Rattle.valid_type_info.specs.Verdict.{previous_of, distance_ok}
use Rattle.valid_member_bounds.specs.declared.Bounds.{Bounds}
use Rattle.valid_member_bounds.specs.MemberBounds.{is_array, is_member_data, is_apart, is_member_sized, member_bounds, bounds_after}
use Rattle.valid_blend.specs.Blend.{is_other, source_at, source_rules, source_result, sources_after, blended_after, other_location, same_type, pair_of, pair_result, struct_blend}
use Rattle.valid_blend.specs.Serving.{sources_before, blended_flags, plus_one}

-- each of the first j members passes the rules of its blend source
abbrev pub Pass : (dual : Bool) (members : List ℕ) → ℕ → Type 0
Pass dual members j = (m : ℕ) → m < j → source_result dual members m ≡ ok tt

fewer : (dual : Bool) (members : List ℕ) (j : ℕ) → Pass dual members (suc j) → Pass dual members j
fewer dual members j p m h = p m (omega arith)

module _ (dual : Bool) (inner : ℕ → TypeInner) (sizes flags : ℕ → ℕ) (count span : ℕ) (members : List ℕ) where
  -- ---- accepted with the rules of blend sources: accepted without, and each source passes
  pub blended_ok : (j : ℕ) (b : Bounds) → blended_after dual inner sizes flags count span members j ≡ ok b
      → (bounds_after inner sizes flags count span members j ≡ ok b) × Pass dual members j
  unfolding blended_after bounds_after
  blended_ok zero b e = (e, λ m h. absurd (not-suc-le-zero h))
  blended_ok (suc j) b e =
      let a = and_then_ok (blended_after dual inner sizes flags count span members j) _ b e in
      let r = required (is_member_data (flags (member_type members j))) 17 j 0 _ b a.2 in
      let s = and_then_ok (source_result dual members j) _ b r.1 in
      let ih = blended_ok j a.0 a.1 in
      (rw ih.0 s.2, λ m h. go ih.1 s.1 m h (ℕ_discrete m j))
    where
      go : Pass dual members j → source_result dual members j ≡ ok tt → (m : ℕ) → m < suc j → Dec (m ≡ j) → source_result dual members m ≡ ok tt
      go p q m h (yes x) = rw x q
      go p q m h (no x) = p m (omega arith)

  pub ok_blended : (j : ℕ) (b : Bounds) → bounds_after inner sizes flags count span members j ≡ ok b → Pass dual members j
      → blended_after dual inner sizes flags count span members j ≡ ok b
  unfolding blended_after bounds_after member_bounds
  ok_blended zero b e p = e
  ok_blended (suc j) b e p =
      let a = and_then_ok (bounds_after inner sizes flags count span members j) _ b e in
      let t = required (is_member_data (flags (member_type members j))) 17 j 0 _ b a.2 in
      rw (ok_blended j a.0 a.1 (fewer dual members j p), T_true (is_member_data (flags (member_type members j))) t.0, p j (le_refl (suc j))) t.1

  -- ---- members without a blend source are judged as before
  no_source_result : (j : ℕ) → member_source members j ≡ 0 → source_result dual members j ≡ ok tt
  unfolding source_result
  no_source_result j e = rw e refl

  pub no_source : (n : ℕ) → ((m : ℕ) → m < n → member_source members m ≡ 0) → (j : ℕ) → j ≤ n
      → blended_after dual inner sizes flags count span members j ≡ bounds_after inner sizes flags count span members j
  unfolding blended_after bounds_after member_bounds
  no_source n none zero h = refl
  no_source n none (suc j) h =
      rw (no_source n none j (omega arith), no_source_result j (none j h)) (go (bounds_after inner sizes flags count span members j))
    where
      step : Bounds → Result Bounds
      step = member_bounds count span (previous_of inner members j) (inner (member_type members j)) (member_offset members j) j (sizes (member_type members j)) (flags (member_type members j))

      go : (o : Result Bounds) → and_then o (λ b. require (is_member_data (flags (member_type members j))) 17 j 0 (step b)) ≡ and_then o step
      go (err x y z) = refl
      go (ok b) = require_twice (is_member_data (flags (member_type members j))) 17 j 0 _

-- ---- the blend sources of members one after the other
module _ (dual : Bool) (members : List ℕ) (j : ℕ) (so_far : sources_after dual members j ≡ ok tt) where
  pub source_passes : source_result dual members j ≡ ok tt → sources_after dual members (j + 1) ≡ ok tt
  unfolding sources_after
  source_passes e = rw (add-one j, so_far) e

  -- a refusal stays
  pub source_stops : {number member detail : ℕ} → source_result dual members j ≡ err number member detail → (n : ℕ) → j < n → sources_after dual members n ≡ err number member detail
  unfolding sources_after
  source_stops {number} {member} {detail} e n h =
      le_ind (λ (m : ℕ). sources_after dual members m ≡ err number member detail) (rw so_far e) (λ m k p. rw p refl) n h

pub before_within : (number member : ℕ) → sources_before number member ≤ suc member
before_within number member = go (eqb number 17)
  where
    go : (t : Bool) → pick t member (suc member) ≤ suc member
    go true = omega arith
    go false = le_refl (suc member)

-- where no member has one
pub no_sources : (dual : Bool) (members : List ℕ) (n : ℕ) → Sourceless members n → sources_after dual members n ≡ ok tt
unfolding sources_after source_result
no_sources dual members zero none = refl
no_sources dual members (suc n) none = rw (no_sources dual members n (λ j h. none j (omega (arith, h))), none n (omega arith)) refl

-- ---- the rules of bounds and those of blend sources, apart: neither reads what the other leaves
-- a refused member: its number, which is 17 exactly where it is no data
record MemberRefused (is_data : Bool) (j number member detail : ℕ) : Type 0 where
  at : member ≡ j
  none : detail ≡ 0
  first : eqb number 17 ≡ not is_data

refused_by : (is_data apart sum inside within sized : Bool) (j number member detail : ℕ) (b : Bounds)
    → require is_data 17 j 0 (require apart 18 j 0 (require sum 21 j 0 (require inside 19 j 0 (require within 21 j 0 (require sized 20 j 0 (ok b)))))) ≡ err number member detail
    → MemberRefused is_data j number member detail
refused_by false apart sum inside within sized j number member detail b e = let t : (17 ≡ number) × (j ≡ member) × (0 ≡ detail) = (cc, cc, cc) in record { at = sym t.1; none = sym t.2; first = rw (← t.0) refl }
refused_by true false sum inside within sized j number member detail b e = let t : (18 ≡ number) × (j ≡ member) × (0 ≡ detail) = (cc, cc, cc) in record { at = sym t.1; none = sym t.2; first = rw (← t.0) refl }
refused_by true true false inside within sized j number member detail b e = let t : (21 ≡ number) × (j ≡ member) × (0 ≡ detail) = (cc, cc, cc) in record { at = sym t.1; none = sym t.2; first = rw (← t.0) refl }
refused_by true true true false within sized j number member detail b e = let t : (19 ≡ number) × (j ≡ member) × (0 ≡ detail) = (cc, cc, cc) in record { at = sym t.1; none = sym t.2; first = rw (← t.0) refl }
refused_by true true true true false sized j number member detail b e = let t : (21 ≡ number) × (j ≡ member) × (0 ≡ detail) = (cc, cc, cc) in record { at = sym t.1; none = sym t.2; first = rw (← t.0) refl }
refused_by true true true true true false j number member detail b e = let t : (20 ≡ number) × (j ≡ member) × (0 ≡ detail) = (cc, cc, cc) in record { at = sym t.1; none = sym t.2; first = rw (← t.0) refl }
refused_by true true true true true true j number member detail b e = let z : ◌≡◌ {A = ℕ} 0 1 = cc in absurd (omega arith)

member_refused : (count span : ℕ) (previous : Option PreviousStruct) (this : TypeInner) (offset j size flags : ℕ) (b : Bounds) (number member detail : ℕ)
    → member_bounds count span previous this offset j size flags b ≡ err number member detail → MemberRefused (is_member_data flags) j number member detail
unfolding member_bounds
member_refused count span previous this offset j size flags b number member detail e =
    refused_by (is_member_data flags) (is_apart b.end offset) (leb (offset + size) most) (leb (offset + size) span) (distance_ok previous offset) (is_member_sized flags (is_array this) j count)
    j number member detail _ e

taken_data : (count span : ℕ) (previous : Option PreviousStruct) (this : TypeInner) (offset j size flags : ℕ) (b after : Bounds)
    → member_bounds count span previous this offset j size flags b ≡ ok after → is_member_data flags ≡ true
unfolding member_bounds
taken_data count span previous this offset j size flags b after e = T_true (is_member_data flags) (required (is_member_data flags) 17 j 0 _ after e).0

no_data_first : (count span : ℕ) (previous : Option PreviousStruct) (this : TypeInner) (offset j size flags : ℕ) (b : Bounds) → is_member_data flags ≡ false
    → member_bounds count span previous this offset j size flags b ≡ err 17 j 0
unfolding member_bounds
no_data_first count span previous this offset j size flags b e = rw e refl

module _ (dual : Bool) (inner : ℕ → TypeInner) (sizes flags : ℕ → ℕ) (count span : ℕ) (members : List ℕ) where
  abbrev sources : ℕ → Result (Unit {0})
  sources = sources_after dual members

  abbrev bounds : ℕ → Result Bounds
  bounds = bounds_after inner sizes flags count span members

  abbrev blended : ℕ → Result Bounds
  blended = blended_after dual inner sizes flags count span members

  abbrev step : ℕ → Bounds → Result Bounds
  step j = member_bounds count span (previous_of inner members j) (inner (member_type members j)) (member_offset members j) j (sizes (member_type members j)) (flags (member_type members j))

  abbrev is_data : ℕ → Bool
  is_data j = is_member_data (flags (member_type members j))

  -- members that are accepted: what is left are their blend sources
  pub blended_taken : (n : ℕ) (b : Bounds) → bounds n ≡ ok b → blended n ≡ and_then (sources n) (λ _. ok b)
  unfolding blended_after bounds_after sources_after
  blended_taken zero b e = e
  blended_taken (suc n) b e =
      let a = and_then_ok (bounds n) (step n) b e in
      let t = taken_data count span (previous_of inner members n) (inner (member_type members n)) (member_offset members n) n (sizes (member_type members n)) (flags (member_type members n)) a.0 b a.2 in
      rw (blended_taken n a.0 a.1, t) (go (sources n) (source_result dual members n) a.0 (step n) a.2)
    where
      go : (s o : Result (Unit {0})) (before : Bounds) (f : Bounds → Result Bounds) → f before ≡ ok b
          → and_then (and_then s (λ _. ok before)) (λ x. and_then o (λ _. f x)) ≡ and_then (and_then s (λ _. o)) (λ _. ok b)
      go (err x y z) o before f q = refl
      go (ok u) (err x y z) before f q = refl
      go (ok u) (ok v) before f q = q

  -- a member that is refused: the blend sources before it come first, and its own unless the number is 17
  pub blended_refused : (n number member detail : ℕ) → bounds n ≡ err number member detail
      → (member < n) × (detail ≡ 0) × (blended n ≡ and_then (sources (sources_before number member)) (λ _. err number member detail))
  unfolding blended_after bounds_after sources_after
  blended_refused zero number member detail e = let z : ◌≡◌ {A = ℕ} 0 1 = cc in absurd (omega arith)
  blended_refused (suc n) number member detail e = go (bounds n) refl e (blended_refused n)
    where
      stays : (s : Result (Unit {0})) (f : Bounds → Result Bounds) → and_then (and_then s (λ _. err number member detail)) f ≡ and_then s (λ _. err number member detail)
      stays (err x y z) f = refl
      stays (ok u) f = refl

      go : (o : Result Bounds) → bounds n ≡ o → and_then o (step n) ≡ err number member detail
          → ((number member detail : ℕ) → bounds n ≡ err number member detail
          → (member < n) × (detail ≡ 0) × (blended n ≡ and_then (sources (sources_before number member)) (λ _. err number member detail)))
          → (member < suc n) × (detail ≡ 0) × (blended (suc n) ≡ and_then (sources (sources_before number member)) (λ _. err number member detail))
      go (err x y z) p q ih =
          let h = ih number member detail (p ∙ q) in
          (omega (arith, h.0), h.1, rw h.2 (stays (sources (sources_before number member)) _))
      go (ok b) p q ih =
          let r = member_refused count span (previous_of inner members n) (inner (member_type members n)) (member_offset members n) n (sizes (member_type members n)) (flags (member_type members n)) b number member detail q in
          (omega (arith, r.at), r.none, rw (blended_taken n b p) (last (is_data n) refl r.first r.at))
        where
          -- the member is no data: 17, before its blend source
          no-data : (s : Result (Unit {0})) → ◌≡◌ {A = Result Bounds} (err 17 n 0) (err number member detail)
              → and_then {B = Bounds} (and_then {B = Bounds} s (λ _. ok b)) (λ x. err 17 n 0) ≡ and_then s (λ _. err number member detail)
          no-data (err x y z) f = refl
          no-data (ok u) f = f

          after_source : (s o : Result (Unit {0}))
              → and_then (and_then s (λ _. ok b)) (λ x. and_then o (λ _. step n x)) ≡ and_then (and_then s (λ _. o)) (λ _. err number member detail)
          after_source (err x y z) o = refl
          after_source (ok u) (err x y z) = refl
          after_source (ok u) (ok v) = q

          last : (t : Bool) → is_data n ≡ t → eqb number 17 ≡ not t → member ≡ n
              → and_then (and_then (sources n) (λ _. ok b)) (λ x. require (is_data n) 17 n 0 (and_then (source_result dual members n) (λ _. step n x)))
              ≡ and_then (sources (sources_before number member)) (λ _. err number member detail)
          last false d f at =
              rw (d, f)
              (no-data (sources n) (sym (no_data_first count span (previous_of inner members n) (inner (member_type members n)) (member_offset members n) n (sizes (member_type members n)) (flags (member_type members n)) b d) ∙ q)
              ∙ ap (λ (k : ℕ). and_then {B = Bounds} (sources k) (λ _. err number member detail)) (sym at))
          last true d f at =
              rw (d, f)
              (after_source (sources n) (source_result dual members n) ∙ ap (λ (k : ℕ). and_then {B = Bounds} (sources (suc k)) (λ _. err number member detail)) (sym at))

  -- ---- the flags of the struct, by what the rules of bounds leave
  abbrev pub flags_after : Result ℕ
  flags_after = and_then (blended count) (λ b. struct_blend inner flags members count b.flags)

  pub flags_taken : (b : Bounds) → bounds count ≡ ok b → flags_after ≡ blended_flags dual inner flags members count b.flags
  flags_taken b e = rw (blended_taken count b e) (go (sources count))
    where
      go : (s : Result (Unit {0})) → and_then (and_then {B = Bounds} s (λ _. ok b)) (λ x. struct_blend inner flags members count x.flags) ≡ and_then s (λ _. struct_blend inner flags members count b.flags)
      go (err x y z) = refl
      go (ok u) = refl

  pub flags_refused : (number member detail : ℕ) → bounds count ≡ err number member detail
      → flags_after ≡ and_then (sources (sources_before number member)) (λ _. err number member detail)
  flags_refused number member detail e = rw (blended_refused count number member detail e).2 (go (sources (sources_before number member)))
    where
      go : (s : Result (Unit {0})) → and_then (and_then {B = Bounds} s (λ _. err number member detail)) (λ x. struct_blend inner flags members count x.flags) ≡ and_then s (λ _. err number member detail)
      go (err x y z) = refl
      go (ok u) = refl

-- ---- the capability added
pub source_more : (dual dual' : Bool) → (T dual → T dual') → (members : List ℕ) (m : ℕ) → source_result dual members m ≡ ok tt → source_result dual' members m ≡ ok tt
unfolding source_result
source_more true true f members m e = e
source_more true false f members m e = absurd (f tt)
source_more false dual' f members m e = go (source_rules dual' members m) (eqb (member_source members m) 0) e
  where
    go : (o : Result (Unit {0})) (t : Bool) → pick t (ok tt) (source_rules false members m) ≡ ok tt → pick t (ok tt) o ≡ ok tt
    go o true q = refl
    go o false q = let z : ◌≡◌ {A = ℕ} 0 1 = cc in absurd (omega arith)

-- ---- the members that are sources
pub source_within : (members : List ℕ) (word j : ℕ) → source_at members word j ≤ j
unfolding source_at
source_within members word zero = le_refl 0
source_within members word (suc j) = go (source_within members word j) (eqb (member_source members j) word)
  where
    go : source_at members word j ≤ j → (t : Bool) → pick t (suc j) (source_at members word j) ≤ suc j
    go h true = le_refl (suc j)
    go h false = omega (arith, h)

no_source_at : (members : List ℕ) (word : ℕ) → eqb 0 word ≡ false → (j : ℕ) → ((m : ℕ) → m < j → member_source members m ≡ 0) → source_at members word j ≡ 0
unfolding source_at
no_source_at members word h zero none = refl
no_source_at members word h (suc j) none = rw (none j (le_refl (suc j)), h) (no_source_at members word h j (λ m l. none m (omega arith)))

-- without a source the flags stay
pub no_blend : (inner : ℕ → TypeInner) (flags : ℕ → ℕ) (members : List ℕ) (count left : ℕ) → ((m : ℕ) → m < count → member_source members m ≡ 0)
    → struct_blend inner flags members count left ≡ ok left
unfolding struct_blend
no_blend inner flags members count left none = rw (no_source_at members 1 refl count none, no_source_at members 2 refl count none) refl

-- ---- it reads the flags and the records of the members' types alone
pub blend_read : (inner : ℕ → TypeInner) (flags flags' : ℕ → ℕ) (members : List ℕ) (n left : ℕ)
    → ((j : ℕ) → j < n → flags (member_type members j) ≡ flags' (member_type members j))
    → struct_blend inner flags members n left ≡ struct_blend inner flags' members n left
unfolding struct_blend
blend_read inner flags flags' members n left same = go (source_at members 1 n) (source_at members 2 n) (source_within members 1 n)
  where
    go : (a b : ℕ) → a ≤ n → pair_result inner flags members (other_location members n) left a b ≡ pair_result inner flags' members (other_location members n) left a b
    go zero zero h = refl
    go zero (suc b) h = refl
    go (suc a) zero h = refl
    go (suc a) (suc b) h = rw (same a h) refl

pub blend_inner : (inner inner' : ℕ → TypeInner) (flags : ℕ → ℕ) (members : List ℕ) (n left : ℕ)
    → ((j : ℕ) → j < n → inner (member_type members j) ≡ inner' (member_type members j))
    → struct_blend inner flags members n left ≡ struct_blend inner' flags members n left
unfolding struct_blend
blend_inner inner inner' flags members n left same = go (source_at members 1 n) (source_at members 2 n) (source_within members 1 n) (source_within members 2 n)
  where
    go : (a b : ℕ) → a ≤ n → b ≤ n → pair_result inner flags members (other_location members n) left a b ≡ pair_result inner' flags members (other_location members n) left a b
    go zero zero h l = refl
    go zero (suc b) h l = refl
    go (suc a) zero h l = refl
    go (suc a) (suc b) h l = rw (same a h, same b l) refl

-- ---- flags: as they were, or with IO_SHAREABLE
-- two sources that pass make the struct IO_SHAREABLE
pub pair_flags : (inner : ℕ → TypeInner) (flags : ℕ → ℕ) (members : List ℕ) (other : Bool) (left a b f : ℕ) → pair_of inner flags members other left a b ≡ ok f
    → f ≡ bit_or left io_shareable_flag
pair_flags inner flags members other left a b f q =
    let x = required (not other) 34 0 3 _ f q in
    let y = required (same_type (inner (member_type members a)) (inner (member_type members b))) 34 0 4 _ f x.1 in
    let w = required (bit (flags (member_type members a)) io_shareable_bit) 34 0 5 _ f y.1 in
    sym (ok_inj w.1)

pub blend_flags : (inner : ℕ → TypeInner) (flags : ℕ → ℕ) (members : List ℕ) (count left f : ℕ) → struct_blend inner flags members count left ≡ ok f
    → (f ≡ left) ⊎ (f ≡ bit_or left io_shareable_flag)
unfolding struct_blend
blend_flags inner flags members count left f e = go (source_at members 1 count) (source_at members 2 count) e
  where
    go : (a b : ℕ) → pair_result inner flags members (other_location members count) left a b ≡ ok f → (f ≡ left) ⊎ (f ≡ bit_or left io_shareable_flag)
    go zero zero q = inl (sym (ok_inj q))
    go zero (suc b) q = let z : ◌≡◌ {A = ℕ} 0 1 = cc in absurd (omega arith)
    go (suc a) zero q = let z : ◌≡◌ {A = ℕ} 0 1 = cc in absurd (omega arith)
    go (suc a) (suc b) q = inr (pair_flags inner flags members (other_location members count) left a b f q)

-- a bit that the second word lacks is the first word's
bit_or_clear : (x y k : ℕ) → y / 2 ^ k % 2 ≡ 0 → bit (bit_or x y) k ≡ bit x k
bit_or_clear x y k e =
    let a = x / 2 ^ k in
    let b = y / 2 ^ k in
    let g = or_step a b in
    let low : bit_or a b % 2 ≡ a % 2 = omega arith in
    ap (λ (z : ℕ). eqb (z % 2) 1) (or_shr x y k) ∙ ap (λ (z : ℕ). eqb z 1) low

-- every flag but IO_SHAREABLE stays
pub blend_bit : (inner : ℕ → TypeInner) (flags : ℕ → ℕ) (members : List ℕ) (count left f : ℕ) → struct_blend inner flags members count left ≡ ok f
    → (k : ℕ) → io_shareable_flag / 2 ^ k % 2 ≡ 0 → bit f k ≡ bit left k
blend_bit inner flags members count left f e k h = go (blend_flags inner flags members count left f e)
  where
    go : (f ≡ left) ⊎ (f ≡ bit_or left io_shareable_flag) → bit f k ≡ bit left k
    go (inl q) = ap (λ (x : ℕ). bit x k) q
    go (inr q) = ap (λ (x : ℕ). bit x k) q ∙ bit_or_clear left io_shareable_flag k h

-- ---- what the loops of the code find
one_less : (j : ℕ) → 0 < j → j ≡ suc (j - 1)
one_less j h = omega arith

module _ (members : List ℕ) (word : ℕ) where
  found : (k : ℕ) → member_source members k ≡ word → source_at members word (suc k) ≡ suc k
  unfolding source_at
  found k e = simp (eq-eqb (member_source members k) word e)

  passed : (k : ℕ) → (member_source members k ≡ word → ⊥) → source_at members word (suc k) ≡ source_at members word k
  unfolding source_at
  passed k e = simp (ne_eqb (member_source members k) word e)

  pub source_found : (j : ℕ) → 0 < j → member_source members (j - 1) ≡ word → source_at members word j ≡ j
  source_found j h e = ap (source_at members word) (one_less j h) ∙ found (j - 1) e ∙ sym (one_less j h)

  pub source_before : (j : ℕ) → 0 < j → (member_source members (j - 1) ≡ word → ⊥) → source_at members word j ≡ source_at members word (j - 1)
  source_before j h e = ap (source_at members word) (one_less j h) ∙ passed (j - 1) e

  pub source_none : (j : ℕ) → j ≤ 0 → source_at members word j ≡ 0
  unfolding source_at
  source_none zero h = refl
  source_none (suc j) h = absurd (not-suc-le-zero h)

-- the library's search among the first n members
pub any_other : (members : List ℕ) (n : ℕ) → list_any (is_other members) (range_with_len 0 n) ≡ other_location members n
unfolding other_location
any_other members zero = refl
any_other members (suc n) =
    let z : 0 + n ≡ n = omega arith in
    any_last (is_other members) 0 n ∙ ap (λ (i : ℕ). list_any (is_other members) (range_with_len 0 n) || is_other members i) z
    ∙ ap (λ (b : Bool). b || is_other members n) (any_other members n) ∙ turned (other_location members n) (is_other members n)
  where
    turned : (a b : Bool) → (a || b) ≡ pick b true a
    turned true true = refl
    turned true false = refl
    turned false true = refl
    turned false false = refl

-- whether a member has this blend source, as `source_at` tells it
pub source_met : (found : Option ℕ) → is_some found ≡ true → eqb (plus_one found) 0 ≡ false
source_met (Some j) e = ne_eqb (suc j) 0 (λ h. omega arith)
source_met None e = cc

pub source_unmet : (found : Option ℕ) → is_some found ≡ false → eqb (plus_one found) 0 ≡ true
source_unmet (Some j) e = cc
source_unmet None e = refl

-- after the last member, by the members that have the sources
pub blend_by : (inner : ℕ → TypeInner) (flags : ℕ → ℕ) (members : List ℕ) (count left : ℕ) (first second : Option ℕ)
    → plus_one first ≡ source_at members 1 count → plus_one second ≡ source_at members 2 count
    → struct_blend inner flags members count left ≡ pair_result inner flags members (other_location members count) left (plus_one first) (plus_one second)
unfolding struct_blend
blend_by inner flags members count left first second p q = rw (← p, ← q) refl
