-- Each rule that makes a verdict, with the type numbers renamed.
-- Assumes nothing.
use mathlib.Core.Path.{◌≡◌, refl}
use mathlib.Core.Bool.{Bool, true, false, ◌||◌}
use Prim.Native.Nat.{ℕ, ◌-◌, max}
use lib.Dec.{leb}
use Rattle.ir_records.specs.Result.{pick}
use Rattle.proc_alignment.specs.Alignment.{is_aligned, round_up}
use Rattle.valid_type_info.specs.declared.Verdict.{Verdict}
use Rattle.std.specs.Prelude.{Option}
use Rattle.valid_type_info.specs.declared.PreviousStruct.{PreviousStruct}
use Rattle.std.specs.Prelude.{None, Some}
use Rattle.valid_type_info.specs.Verdict.{min_storage, is_ok, alignment_in, ok_verdict, unless_ok, stride_verdict, array_verdict, share_verdict, offset_verdict, member_verdict, distance_verdict, unsized_verdict, span_verdict, array_stride, member_offset_off, member_offset_after_struct, unsized_member, struct_span, non_host_shareable}
use Rattle.valid_renaming.specs.Renaming.{renamed_verdict}

module _ (f : ℕ → ℕ) where
  -- a choice
  pick_renamed : (b : Bool) (v w : Verdict) → pick b (renamed_verdict f v) (renamed_verdict f w) ≡ renamed_verdict f (pick b v w)
  pick_renamed true v w = refl
  pick_renamed false v w = refl

  -- the alignment of a verdict that is Ok stays
  alignment_renamed : (v : Verdict) → is_ok v ≡ true → alignment_in (renamed_verdict f v) ≡ alignment_in v
  alignment_renamed v e = rw e refl

  -- an error stays, else the other
  unless_renamed : (v w w' : Verdict) → (is_ok v ≡ true → w' ≡ renamed_verdict f w) → unless_ok (renamed_verdict f v) w' ≡ renamed_verdict f (unless_ok v w)
  unless_renamed v w w' h = go (is_ok v) refl
    where
      go : (b : Bool) → is_ok v ≡ b → pick b w' (renamed_verdict f v) ≡ renamed_verdict f (pick b w v)
      go true e = h e
      go false e = refl

  pub array_renamed : (least i stride alignment : ℕ) (v : Verdict)
      → array_verdict least (f i) stride alignment (renamed_verdict f v) ≡ renamed_verdict f (array_verdict least i stride alignment v)
  unfolding array_verdict
  array_renamed least i stride alignment v =
      unless_renamed v (stride_verdict i stride (max (max (alignment_in v) alignment) least)) _
      (λ e. rw (alignment_renamed v e)
      (pick_renamed (is_aligned (max (max (alignment_in v) alignment) least) stride) (ok_verdict (max (max (alignment_in v) alignment) least)) (array_stride i stride (max (max (alignment_in v) alignment) least))))

  pub share_renamed : (shareable : Bool) (t : ℕ) (v : Verdict) → share_verdict shareable (f t) (renamed_verdict f v) ≡ renamed_verdict f (share_verdict shareable t v)
  unfolding share_verdict
  share_renamed true t v = refl
  share_renamed false t v = unless_renamed v (non_host_shareable t) (non_host_shareable (f t)) (λ e. refl)

  pub member_renamed : (i j offset : ℕ) (v m : Verdict)
      → member_verdict (f i) j offset (renamed_verdict f v) (renamed_verdict f m) ≡ renamed_verdict f (member_verdict i j offset v m)
  unfolding member_verdict
  member_renamed i j offset v m =
      unless_renamed v (unless_ok m (offset_verdict i j offset (alignment_in v) (alignment_in m))) _
      (λ e. unless_renamed m (offset_verdict i j offset (alignment_in v) (alignment_in m)) _
      (λ g. rw (alignment_renamed v e, alignment_renamed m g)
      (pick_renamed (is_aligned (alignment_in m) offset) (ok_verdict (max (alignment_in v) (alignment_in m))) (member_offset_off i j offset (alignment_in m)))))

  pub distance_renamed : (least i j offset : ℕ) (previous : Option PreviousStruct) (v : Verdict)
      → distance_verdict least (f i) j offset previous (renamed_verdict f v) ≡ renamed_verdict f (distance_verdict least i j offset previous v)
  unfolding distance_verdict
  distance_renamed least i j offset None v = refl
  distance_renamed least i j offset (Some before) v = pick_renamed (leb least min_storage || leb (round_up least before.span) (offset - before.offset)) v (member_offset_after_struct i j offset _)

  pub unsized_renamed : (sized : Bool) (i j : ℕ) (v : Verdict) → unsized_verdict sized (f i) j (renamed_verdict f v) ≡ renamed_verdict f (unsized_verdict sized i j v)
  unfolding unsized_verdict
  unsized_renamed true i j v = refl
  unsized_renamed false i j v = unless_renamed v (unsized_member i j) (unsized_member (f i) j) (λ e. refl)

  pub span_renamed : (i span alignment : ℕ) (v : Verdict) → span_verdict (f i) span alignment (renamed_verdict f v) ≡ renamed_verdict f (span_verdict i span alignment v)
  unfolding span_verdict
  span_renamed i span alignment v = pick_renamed (is_aligned alignment span) v (struct_span i span alignment)
