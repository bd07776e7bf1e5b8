-- The members of a struct, with the type numbers renamed: acceptance and flags, verdicts, the immediates word.
-- Assumes nothing.
use mathlib.Core.Path.{◌≡◌, refl, ◌∙◌, ap}
use mathlib.Core.Bool.{Bool}
use mathlib.Core.List.{List}
use Prim.Native.Nat.{ℕ, zero, suc, ◌≤◌, ◌<◌}
use native.Mathlib.Omega.{arith}
use Rattle.ir_records.specs.Result.{and_then}
use Rattle.ir_records.specs.Record.{member_type, member_offset}
use Rattle.ir_records.specs.declared.TypeInner.{TypeInner}
use Rattle.valid_flags.specs.Flags.{bit, sized_bit, host_shareable_bit}
use Rattle.valid_type_info.specs.declared.Row.{Row}
use Rattle.valid_type_info.specs.TypeInfo.{row_sizes, row_flags}
use Rattle.valid_type_info.specs.declared.Verdict.{Verdict}
use Rattle.std.specs.Prelude.{Option}
use Rattle.valid_type_info.specs.declared.PreviousStruct.{PreviousStruct}
use Rattle.valid_type_info.specs.Verdict.{previous_of, distance_ok, share_verdict, member_verdict, distance_verdict, unsized_verdict}
use Rattle.valid_member_bounds.specs.MemberBounds.{bounds_by, member_bounds, bounds_after}
use Rattle.valid_member_rules.specs.MemberRules.{uniform_after, storage_after, immediates_after}
use Rattle.valid_renaming.specs.Renaming.{renamed_inner, renamed_verdict, renamed_row}
use Rattle.valid_renaming.proofs.InnerRenamed.{is_array_renamed, struct_at_renamed}
use Rattle.valid_renaming.proofs.VerdictRenamed.{share_renamed, member_renamed, distance_renamed, unsized_renamed}

-- one member: whether it is accepted, and with which flags
bounds-step-renamed : (f : ℕ → ℕ) (this : TypeInner) (count span : ℕ) (previous : Option PreviousStruct) (offset j size flags : ℕ)
    → member_bounds count span previous (renamed_inner f this) offset j size flags ≡ member_bounds count span previous this offset j size flags
unfolding member_bounds
bounds-step-renamed f this count span previous offset j size flags =
    ap (λ (array : Bool). bounds_by count span (distance_ok previous offset) array offset j size flags) (is_array_renamed f this)

-- one struct in two arenas
module _ (f : ℕ → ℕ) (inner inner' : ℕ → TypeInner) (rows rows' : ℕ → Row) (members members' : List ℕ) (n : ℕ)
    (types : (j : ℕ) → j < n → member_type members' j ≡ f (member_type members j))
    (offsets : (j : ℕ) → j < n → member_offset members' j ≡ member_offset members j)
    (inners : (j : ℕ) → j < n → inner' (f (member_type members j)) ≡ renamed_inner f (inner (member_type members j)))
    (known : (j : ℕ) → j < n → rows' (f (member_type members j)) ≡ renamed_row f (rows (member_type members j))) where
  previous_renamed : (j : ℕ) → j ≤ n → previous_of inner' members' j ≡ previous_of inner members j
  unfolding previous_of
  previous_renamed zero h = refl
  previous_renamed (suc j) h = rw (types j h, offsets j h, inners j h) (struct_at_renamed f (inner (member_type members j)) (member_offset members j))

  pub bounds-renamed : (count span j : ℕ) → j ≤ n → bounds_after inner' (row_sizes rows') (row_flags rows') count span members' j ≡ bounds_after inner (row_sizes rows) (row_flags rows) count span members j
  unfolding bounds_after
  bounds-renamed count span zero h = refl
  bounds-renamed count span (suc j) h =
      let size : row_sizes rows' (f (member_type members j)) ≡ row_sizes rows (member_type members j) = ap (λ (r : Row). r.size) (known j h) in
      let flags : row_flags rows' (f (member_type members j)) ≡ row_flags rows (member_type members j) = ap (λ (r : Row). r.flags) (known j h) in
      rw (bounds-renamed count span j (omega arith), previous_renamed j (omega arith), types j h, offsets j h, inners j h, size, flags)
      (ap (and_then (bounds_after inner (row_sizes rows) (row_flags rows) count span members j))
      (bounds-step-renamed f (inner (member_type members j)) count span (previous_of inner members j) (member_offset members j) j (row_sizes rows (member_type members j)) (row_flags rows (member_type members j))))

  pub immediates_renamed : (j : ℕ) → j ≤ n → immediates_after rows' members' j ≡ immediates_after rows members j
  unfolding immediates_after
  immediates_renamed zero h = refl
  immediates_renamed (suc j) h = rw (immediates_renamed j (omega arith), types j h, known j h) refl

  pub storage_renamed : (i j : ℕ) → j ≤ n → storage_after rows' (f i) members' j ≡ renamed_verdict f (storage_after rows i members j)
  unfolding storage_after
  storage_renamed i zero h = refl
  storage_renamed i (suc j) h =
      let t = member_type members j in
      let b = bit (rows t).flags host_shareable_bit in
      let v = storage_after rows i members j in
      rw (storage_renamed i j (omega arith), types j h, offsets j h, known j h)
      (ap (λ (w : Verdict). member_verdict (f i) j (member_offset members j) w (renamed_verdict f (rows t).storage)) (share_renamed f b t v)
      ∙ member_renamed f i j (member_offset members j) (share_verdict b t v) (rows t).storage)

  pub uniform_renamed : (least i j : ℕ) → j ≤ n → uniform_after least inner' rows' (f i) members' j ≡ renamed_verdict f (uniform_after least inner rows i members j)
  unfolding uniform_after
  uniform_renamed least i zero h = refl
  uniform_renamed least i (suc j) h =
      let t = member_type members j in
      let o = member_offset members j in
      let b = bit (rows t).flags host_shareable_bit in
      let z = bit (rows t).flags sized_bit in
      let p = previous_of inner members j in
      let v = uniform_after least inner rows i members j in
      let s = share_verdict b t v in
      let m = member_verdict i j o s (rows t).uniform in
      let d = distance_verdict least i j o p m in
      rw (uniform_renamed least i j (omega arith), previous_renamed j (omega arith), types j h, offsets j h, known j h)
      (ap (λ (w : Verdict). unsized_verdict z (f i) j (distance_verdict least (f i) j o p (member_verdict (f i) j o w (renamed_verdict f (rows t).uniform)))) (share_renamed f b t v)
      ∙ ap (λ (w : Verdict). unsized_verdict z (f i) j (distance_verdict least (f i) j o p w)) (member_renamed f i j o s (rows t).uniform)
      ∙ ap (unsized_verdict z (f i) j) (distance_renamed f least i j o p m)
      ∙ unsized_renamed f z i j d)
