-- Laws of a struct's members: one member more, a refusal that stays.
-- Assumes nothing.
use mathlib.Core.Path.{◌≡◌, refl, sym, ◌∙◌, ap}
use mathlib.Core.Bool.{Bool, true, false, not, ◌&&◌}
use mathlib.Core.List.{List}
use Prim.Native.Nat.{ℕ, suc, ◌+◌, ◌≤◌}
use native.Mathlib.Omega.{arith}
use native.Mathlib.Decide.{le_ind}
use lib.Bits.{bit_and}
use borrow.Author.Tests.{le-leb}
use Rattle.ir_records.specs.Result.{Result, err, ok, pick, and_then}
use Rattle.ir_records.specs.Record.{member_type, member_offset}
use Rattle.ir_records.specs.declared.TypeInner.{TypeInner}
use Rattle.proc_alignment.specs.Alignment.{most}
use Rattle.valid_type_info.specs.declared.Row.{Row}
use Rattle.valid_type_info.specs.TypeInfo.{row_sizes, row_flags}
use Rattle.valid_type_info.specs.declared.Verdict.{Verdict}
use Rattle.std.specs.Prelude.{Option, Some, None}
use Rattle.valid_type_info.specs.declared.PreviousStruct.{PreviousStruct}
use Rattle.valid_type_info.specs.Verdict.{distance_ok}
use Rattle.valid_member_bounds.specs.declared.Bounds.{Bounds}
use Rattle.valid_members.specs.declared.State.{State}
use Rattle.ir_records.proofs.ResultLaws.{true_T, T_true, and_left, and_right}
use Rattle.valid_flags.specs.Flags.{bit, data_bit, sized_bit, creation_resolved_bit, is_sized_data}
use Rattle.valid_type_info.specs.Verdict.{struct_at, previous_of, is_ok, ok_verdict}
use Rattle.valid_member_bounds.specs.MemberBounds.{is_array, member_bounds, bounds_after}
use Rattle.valid_member_rules.specs.MemberRules.{uniform_after, storage_after, immediates_after, member_uniform, member_storage, member_immediates}
use Rattle.valid_members_plain.specs.declared.PlainState.{PlainState}
use Rattle.valid_members_plain.specs.Serving.{least_of, uniform_so_far, HasFailed, plain_bounds, PlainAfter}
use Rattle.std.specs.Prelude as std
use Rattle.ir_records.specs.Refusal.{judged}
use Rattle.ir_records.specs.declared.TypeRefusal.{TypeRefusal}
use Rattle.valid_members.specs.Serving.{state_after, member_step, alignment_of, UniformFits, Told}

module _ (least : ℕ) (inner : ℕ → TypeInner) (rows : ℕ → Row) (i count span : ℕ) (part : List ℕ) where
  -- one member more
  pub state_step : (j : ℕ) (s : State) → state_after least inner rows i count span part j ≡ ok s
      → state_after least inner rows i count span part (suc j)
      ≡ member_step least i count span j (member_type part j) (member_offset part j) (is_array (inner (member_type part j))) (struct_at (inner (member_type part j)) (member_offset part j)) (rows (member_type part j)) s
  unfolding state_after member_step member_bounds bounds_after uniform_after storage_after immediates_after previous_of
  state_step j s e = go (bounds_after inner (row_sizes rows) (row_flags rows) count span part j) refl e
    where
      taken : ℕ → Bounds → State
      taken k b =
          record {
            bounds = b;
            uniform = uniform_after least inner rows i part k;
            storage = storage_after rows i part k;
            immediates = immediates_after rows part k;
            previous = previous_of inner part k;
          }

      go : (o : Result Bounds) → bounds_after inner (row_sizes rows) (row_flags rows) count span part j ≡ o → and_then o (λ b. ok (taken j b)) ≡ ok s
          → state_after least inner rows i count span part (suc j)
          ≡ member_step least i count span j (member_type part j) (member_offset part j) (is_array (inner (member_type part j))) (struct_at (inner (member_type part j)) (member_offset part j)) (rows (member_type part j)) s
      go (err n m d) p q = let z : ◌≡◌ {A = ℕ} 0 1 = cc in absurd (omega arith)
      go (ok b) p q = let t : ◌≡◌ {A = State} (taken j b) s = cc in rw (p, ← t) refl

  -- a refusal stays
  pub state_refused : (j : ℕ) {number member detail : ℕ} → state_after least inner rows i count span part j ≡ err number member detail
      → (n : ℕ) → j ≤ n → state_after least inner rows i count span part n ≡ err number member detail
  unfolding state_after bounds_after
  state_refused j {number} {member} {detail} e n h =
      le_ind (λ (m : ℕ). state_after least inner rows i count span part m ≡ err number member detail) e (λ m k p. go m (bounds_after inner (row_sizes rows) (row_flags rows) count span part m) refl p) n h
    where
      go : (m : ℕ) (o : Result Bounds) → bounds_after inner (row_sizes rows) (row_flags rows) count span part m ≡ o → state_after least inner rows i count span part m ≡ err number member detail
          → state_after least inner rows i count span part (suc m) ≡ err number member detail
      go m (err a b c) p q = rw p (rw p at q)
      go m (ok b) p q = let q' = rw p at q in let z : ◌≡◌ {A = ℕ} 0 1 = cc in absurd (omega arith)

-- the step of a member in order whose distance can be told: all tests hold
pub ordered-step : (least i count span j t offset : ℕ) (array : Bool) (next : Option PreviousStruct) (r : Row) (s : State)
    → is_sized_data r.flags ≡ true → s.bounds.end ≤ offset → offset + r.size ≤ span → span ≤ most → distance_ok s.previous offset ≡ true
    → member_step least i count span j t offset array next r s
    ≡ ok (record {
      bounds = record { end = offset + r.size; flags = bit_and s.bounds.flags r.flags };
      uniform = member_uniform least i j t offset s.previous r s.uniform;
      storage = member_storage i j t offset r s.storage;
      immediates = member_immediates r.immediates s.immediates;
      previous = next;
    })
unfolding member_step
ordered-step least i count span j t offset array next r s in_order apart within fits distant =
    let holds = bit r.flags data_bit in
    let sized = bit r.flags sized_bit in
    let resolved = bit r.flags creation_resolved_bit in
    let all = true_T in_order in
    let two = and_left (holds && sized) resolved all in
    let is-data : holds ≡ true = T_true holds (and_left holds sized two) in
    let is-sized : sized ≡ true = T_true sized (and_right holds sized two) in
    let is_resolved : resolved ≡ true = T_true resolved (and_right (holds && sized) resolved all) in
    rw (is-data, is-sized, is_resolved, le-leb s.bounds.end offset apart, le-leb (offset + r.size) most (omega arith), le-leb (offset + r.size) span within, distant) refl

-- ---- the state part by part
module _ (least : ℕ) (inner : ℕ → TypeInner) (rows : ℕ → Row) (i count span : ℕ) (part : List ℕ) (j : ℕ) where
  pub record Parts (s : State) : Type 0 where
    pub bounds : bounds_after inner (row_sizes rows) (row_flags rows) count span part j ≡ ok s.bounds
    pub uniform : uniform_after least inner rows i part j ≡ s.uniform
    pub storage : storage_after rows i part j ≡ s.storage
    pub immediates : immediates_after rows part j ≡ s.immediates

  made : Bounds → State
  made b =
      record {
        bounds = b;
        uniform = uniform_after least inner rows i part j;
        storage = storage_after rows i part j;
        immediates = immediates_after rows part j;
        previous = previous_of inner part j;
      }

  pub state_parts : (s : State) → state_after least inner rows i count span part j ≡ ok s → Parts s
  unfolding state_after made
  state_parts s e = go (bounds_after inner (row_sizes rows) (row_flags rows) count span part j) refl e
    where
      go : (o : Result Bounds) → bounds_after inner (row_sizes rows) (row_flags rows) count span part j ≡ o → and_then o (λ b. ok (made b)) ≡ ok s → Parts s
      go (err n m d) p q = let z : ◌≡◌ {A = ℕ} 0 1 = cc in absurd (omega arith)
      go (ok b) p q =
          let t : ◌≡◌ {A = State} (made b) s = cc in
          record {
            bounds = p ∙ ap (λ (x : State). ok x.bounds) t;
            uniform = ap (λ (x : State). x.uniform) t;
            storage = ap (λ (x : State). x.storage) t;
            immediates = ap (λ (x : State). x.immediates) t;
          }

  pub state_error : {n m d : ℕ} → state_after least inner rows i count span part j ≡ err n m d → bounds_after inner (row_sizes rows) (row_flags rows) count span part j ≡ err n m d
  unfolding state_after made
  state_error {n} {m} {d} e = go (bounds_after inner (row_sizes rows) (row_flags rows) count span part j) refl e
    where
      go : (o : Result Bounds) → bounds_after inner (row_sizes rows) (row_flags rows) count span part j ≡ o → and_then o (λ b. ok (made b)) ≡ err n m d
          → bounds_after inner (row_sizes rows) (row_flags rows) count span part j ≡ err n m d
      go (err x y w) p q = p ∙ (let t : (x ≡ n) × (y ≡ m) × (w ≡ d) = (cc, cc, cc) in rw (t.0, t.1, t.2) refl)
      go (ok b) p q = let z : ◌≡◌ {A = ℕ} 0 1 = cc in absurd (omega arith)

  -- to the loops of plain_members and back
  pub plain_before : (s : State) (u : Verdict) → state_after least inner rows i count span part j ≡ ok s → s.uniform ≡ u → s.storage ≡ ok_verdict s.storage.ty
      → PlainAfter least inner rows i count span part j u s.immediates
      (record { end = s.bounds.end; flags = s.bounds.flags; uniform = alignment_of s.uniform; storage = s.storage.ty; least = least_of s.bounds.end (previous_of inner part j) })
  plain_before s u e uniform storage =
      let p = state_parts s e in
      (p.bounds, p.uniform ∙ uniform, p.storage ∙ storage, p.immediates, refl)

  pub plain_state : (s : PlainState) (u : Verdict) (immediates : ℕ) → PlainAfter least inner rows i count span part j u immediates s
      → state_after least inner rows i count span part j
      ≡ ok (record {
        bounds = plain_bounds s;
        uniform = u;
        storage = ok_verdict s.storage;
        immediates = immediates;
        previous = previous_of inner part j;
      })
  unfolding state_after
  plain_state s u immediates p = rw (p.0, p.1, p.2, p.3) refl

-- the state after all members, or the refusal, tells its parts
pub told : (least : ℕ) (inner : ℕ → TypeInner) (rows : ℕ → Row) (i count span : ℕ) (part : List ℕ) (m : std.Result State TypeRefusal)
    → judged m ≡ state_after least inner rows i count span part count → Told least inner rows i count span part m
told least inner rows i count span part (std.Ok s) e =
    let p = state_parts least inner rows i count span part count s (sym e) in
    (p.bounds, p.uniform, p.storage, p.immediates)
told least inner rows i count span part (std.Err r) e = state_error least inner rows i count span part count (sym e)

-- a uniform verdict that is Ok with its alignment alone, and one that has failed
pub fits_clean : (u : Verdict) → u ≡ ok_verdict u.ty → UniformFits u
fits_clean u e = go (is_ok u) (ap is_ok e)
  where
    go : (t : Bool) → t ≡ true → (uniform_so_far (pick t (Some u.ty) None) u ≡ u) × HasFailed (pick t (Some u.ty) None) u
    go true f = (sym e, tt)
    go false f = let z : ◌≡◌ {A = ℕ} 0 1 = cc in absurd (omega arith)

pub fits_failed : (u : Verdict) → is_ok u ≡ false → UniformFits u
fits_failed u f = rw f (refl, f)

-- a test that its denial answers
pub denied : (b : Bool) → not b ≡ true → b ≡ false
denied true e = cc
denied false e = refl
