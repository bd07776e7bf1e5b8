-- The layout and the row of a type of an accepted arena, with the type numbers renamed.
-- Assumes nothing.
use mathlib.Core.Path.{◌≡◌, refl, sym, ◌∙◌, ap}
use mathlib.Core.List.{List}
use Prim.Native.Nat.{ℕ, zero, suc, ◌*◌, ◌≤◌, ◌<◌}
use native.Mathlib.Nat.{le_refl}
use native.Mathlib.Omega.{arith}
use lib.Bits.{bit_and}
use Rattle.ir_records.specs.Result.{ok}
use Rattle.ir_records.specs.Record.{Decoded, member_type, member_offset}
use Rattle.ir_records.specs.Table.{table}
use Rattle.ir_records.specs.declared.NonData.{NonData}
use Rattle.ir_records.specs.declared.NonData.TheVariants.{Pointer, ValuePointer, Image, Sampler, AccelerationStructure, BindingArray}
use Rattle.ir_records.specs.declared.TypeInner.{TypeInner}
use Rattle.ir_records.specs.declared.TypeInner.TheVariants.{Plain, Array, RuntimeArray, Struct, Other}
use Rattle.ir_records.proofs.ResultLaws.{ok_inj}
use Rattle.proc_type_methods.specs.TypeMethods.{try_size, non_data_size}
use Rattle.proc_type_alignment.specs.declared.TypeLayout.{TypeLayout}
use Rattle.proc_type_alignment.specs.TypeAlignment.{members_alignment, alignment_of}
use Rattle.proc_type_layout.specs.TypeLayout.{layout_of}
use Rattle.proc_layouter.specs.Layouter.{no_layout, layout_step, layout}
use Rattle.proc_layouter.proofs.LayoutAccepted.{accepted_step, plain_layout, array_layout, runtime_array_layout, struct_layout, member_layout}
use Rattle.valid_type_flags.specs.TypeFlags.{pointer_to, binding_array_of}
use Rattle.valid_type_info.specs.declared.Row.{Row}
use Rattle.valid_type_info.specs.TypeInfo.{row_sizes, row_flags}
use Rattle.valid_type_info.specs.Verdict.{min_storage, array_verdict, span_verdict}
use Rattle.valid_member_rules.specs.MemberRules.{uniform_after, storage_after}
use Rattle.valid_types.specs.ValidateType.{non_data_flags, flags_of, immediates_of, row_of}
use Rattle.valid_arena.specs.Arena.{row}
use Rattle.valid_arena.proofs.DependLaws.{inner_in, rows_before}
use Rattle.valid_arena.proofs.AcceptedLaws.{AcceptedTypes, ArrayRow, row_parts, row_size, row_alignment, plain-row, array_row, runtime_array_row, member_earlier, struct_row, other_verdicts, pointer_row, binding_array_row}
use Rattle.valid_renaming.specs.Renaming.{itself, element, runtime_element, member, pointed, bound, renamed_non_data, renamed_inner, renamed_verdict, renamed_row}
use Rattle.valid_renaming.proofs.ReachLaws.{Closed, by_earlier}
use Rattle.valid_renaming.proofs.InnerRenamed.{size_renamed, base_renamed}
use Rattle.valid_renaming.proofs.VerdictRenamed.{array_renamed, span_renamed}
use Rattle.valid_renaming.proofs.BlendRenamed.{blend_renamed}
use Rattle.valid_renaming.proofs.MembersRenamed.{bounds-renamed, immediates_renamed, storage_renamed, uniform_renamed}

-- what is no data: its layout and its immediates word
module _ (least c : ℕ) (types : ℕ → Decoded) (n : ℕ) (acc : AcceptedTypes c types n) (t : ℕ) (h : t < n) (o : NonData) (e : (types t).inner ≡ Other o) where
  other_layout : layout types t ≡ record { size = non_data_size o; alignment = 1 }
  unfolding layout_of try_size alignment_of
  other_layout = sym (ok_inj (rw e at (accepted_step types n acc.layouts t h)))

  other_immediates : (row least c types t).immediates ≡ 0
  unfolding row_of immediates_of
  other_immediates = ap (λ (x : Row). x.immediates) (row_parts least c types n acc t h (Other o) e).is

module _ (f : ℕ → ℕ) (least c : ℕ) (types types' : ℕ → Decoded) (n n' : ℕ) (acc : AcceptedTypes c types n) (acc' : AcceptedTypes c types' n') where
  abbrev pub Same : ℕ → Type 0
  Same t = (layout types' (f t) ≡ layout types t) × (row least c types' (f t) ≡ renamed_row f (row least c types t))

  -- rows and layouts are the same, part by part
  made : (t : ℕ) → t < n → f t < n' → layout types' (f t) ≡ layout types t
      → (row least c types' (f t)).flags ≡ (row least c types t).flags
      → (row least c types' (f t)).uniform ≡ renamed_verdict f (row least c types t).uniform
      → (row least c types' (f t)).storage ≡ renamed_verdict f (row least c types t).storage
      → (row least c types' (f t)).immediates ≡ (row least c types t).immediates → Same t
  made t h h' l a u s m =
      let size = row_size least c types' n' acc' (f t) h' ∙ ap (λ (x : TypeLayout). x.size) l ∙ sym (row_size least c types n acc t h) in
      let alignment = row_alignment least c types' n' acc' (f t) h' ∙ ap (λ (x : TypeLayout). x.alignment) l ∙ sym (row_alignment least c types n acc t h) in
      (l, λ x. record { size = size x; alignment = alignment x; flags = a x; uniform = u x; storage = s x; immediates = m x })

  -- an array, of either form
  of_array : (t : ℕ) → t < n → f t < n' → (bytes stride mask base : ℕ) → ArrayRow least t bytes stride mask (row least c types base) (row least c types t)
      → ArrayRow least (f t) bytes stride mask (row least c types' (f base)) (row least c types' (f t))
      → layout types' (f t) ≡ layout types t → row least c types' (f base) ≡ renamed_row f (row least c types base) → Same t
  of_array t h h' bytes stride mask base a b l e =
      let r = row least c types base in
      made t h h' l
      (b.flags ∙ ap (λ (x : Row). bit_and x.flags mask) e ∙ sym a.flags)
      (b.uniform ∙ ap (λ (x : Row). array_verdict least (f t) stride x.alignment x.uniform) e
      ∙ array_renamed f least t stride r.alignment r.uniform ∙ ap (renamed_verdict f) (sym a.uniform))
      (b.storage ∙ ap (λ (x : Row). array_verdict min_storage (f t) stride x.alignment x.storage) e
      ∙ array_renamed f min_storage t stride r.alignment r.storage ∙ ap (renamed_verdict f) (sym a.storage))
      (b.immediates ∙ ap (λ (x : Row). x.immediates) e ∙ sym a.immediates)

  -- the alignment of the first j members
  alignments : (t : ℕ) (members members' : List ℕ) (count : ℕ)
      → ((j : ℕ) → j < count → member_type members' j ≡ f (member_type members j))
      → ((j : ℕ) → j < count → layout types' (f (member_type members j)) ≡ layout types (member_type members j))
      → (j : ℕ) → j ≤ count → (a b : ℕ)
      → members_alignment (table no_layout (layout_step types) t) t members j ≡ ok a
      → members_alignment (table no_layout (layout_step types') (f t)) (f t) members' j ≡ ok b → b ≡ a
  unfolding members_alignment
  alignments t members members' count ty same zero h a b p q = sym (ok_inj q) ∙ ok_inj p
  alignments t members members' count ty same (suc j) h a b p q =
      let x = member_layout types t members j a p in
      let y = member_layout types' (f t) members' j b q in
      let e = alignments t members members' count ty same j (omega arith) x.0 y.0 x.1 y.1 in
      y.3 ∙ rw (e, ty j h, same j h) (sym x.3)

  -- the flags of what is no data and has no base
  own_flags : (t : ℕ) → t < n → Closed f types types' n' t → (o : NonData) → (types t).inner ≡ Other o → (types' (f t)).inner ≡ Other (renamed_non_data f o)
      → flags_of c (inner_in types') (row_sizes (rows_before least c types' (f t))) (row_flags (rows_before least c types' (f t))) (Other (renamed_non_data f o)) (types' (f t)).members
      ≡ flags_of c (inner_in types) (row_sizes (rows_before least c types t)) (row_flags (rows_before least c types t)) (Other o) (types t).members
      → (row least c types' (f t)).flags ≡ (row least c types t).flags
  own_flags t h closed o e e' same =
      ok_inj
      (sym (row_parts least c types' n' acc' (f t) (closed t itself).0 (Other (renamed_non_data f o)) e').flags
      ∙ same
      ∙ (row_parts least c types n acc t h (Other o) e).flags)

  -- the flags of what is no data
  other_flags : (t : ℕ) → t < n → Closed f types types' n' t → ((k : ℕ) → k < t → Closed f types types' n' k → Same k) → (o : NonData)
      → (types t).inner ≡ Other o → (types' (f t)).inner ≡ Other (renamed_non_data f o) → (row least c types' (f t)).flags ≡ (row least c types t).flags
  unfolding flags_of non_data_flags
  other_flags t h closed ih (Pointer base space) e e' =
      let a = pointer_row least c types n acc t h base space e in
      let b = pointer_row least c types' n' acc' (f t) (closed t itself).0 (f base) space e' in
      let s = ih base a.0 (λ k r. closed k (pointed e r)) in
      ok_inj (sym b.1 ∙ ap (λ (r : Row). pointer_to r.flags space) s.1 ∙ a.1)
  other_flags t h closed ih (ValuePointer kind width space) e e' = own_flags t h closed (ValuePointer kind width space) e e' refl
  other_flags t h closed ih (Image dim arrayed class) e e' = own_flags t h closed (Image dim arrayed class) e e' refl
  other_flags t h closed ih Sampler e e' = own_flags t h closed Sampler e e' refl
  other_flags t h closed ih (AccelerationStructure v) e e' = own_flags t h closed (AccelerationStructure v) e e' refl
  other_flags t h closed ih (BindingArray base form count) e e' =
      let a = binding_array_row least c types n acc t h base form count e in
      let b = binding_array_row least c types' n' acc' (f t) (closed t itself).0 (f base) form count e' in
      let s = ih base a.0 (λ k r. closed k (bound e r)) in
      ok_inj
      (sym b.1
      ∙ ap (λ (i : TypeInner). binding_array_of i (row least c types' (f base)).flags form) (closed base (bound e itself)).1.inner
      ∙ base_renamed f (types base).inner (row least c types' (f base)).flags form
      ∙ ap (λ (r : Row). binding_array_of (types base).inner r.flags form) s.1
      ∙ a.1)

  step : (t : ℕ) → t < n → Closed f types types' n' t → ((k : ℕ) → k < t → Closed f types types' n' k → Same k) → (this : TypeInner) → (types t).inner ≡ this → Same t
  step t h closed ih (Plain leaf) e =
      let own = closed t itself in
      let e' : (types' (f t)).inner ≡ Plain leaf = own.1.inner ∙ ap (renamed_inner f) e in
      let a = plain-row least c types n acc t h leaf e in
      let b = plain-row least c types' n' acc' (f t) own.0 leaf e' in
      let x = plain_layout types n acc.layouts t h leaf e in
      let y = plain_layout types' n' acc'.layouts (f t) own.0 leaf e' in
      made t h own.0 (λ i. record { size = (y.0 ∙ sym x.0) i; alignment = (y.1 ∙ sym x.1) i })
      (ok_inj (sym b.flags ∙ a.flags))
      (b.uniform ∙ rw a.uniform refl)
      (b.storage ∙ rw a.storage refl)
      (b.immediates ∙ sym a.immediates)
  step t h closed ih (Array base count stride) e =
      let own = closed t itself in
      let e' : (types' (f t)).inner ≡ Array (f base) count stride = own.1.inner ∙ ap (renamed_inner f) e in
      let a = array_row least c types n acc t h base count stride e in
      let b = array_row least c types' n' acc' (f t) own.0 (f base) count stride e' in
      let s = ih base a.0 (λ k r. closed k (element e r)) in
      let x = array_layout types n acc.layouts t h base count stride e in
      let y = array_layout types' n' acc'.layouts (f t) own.0 (f base) count stride e' in
      let l : layout types' (f t) ≡ layout types t =
      λ i. record { size = (y.0 ∙ sym x.0) i; alignment = (y.2 ∙ ap (λ (z : TypeLayout). z.alignment) s.0 ∙ sym x.2) i } in
      of_array t h own.0 (count * stride) stride 247 base a.1 b.1 l s.1
  step t h closed ih (RuntimeArray base stride) e =
      let own = closed t itself in
      let e' : (types' (f t)).inner ≡ RuntimeArray (f base) stride = own.1.inner ∙ ap (renamed_inner f) e in
      let a = runtime_array_row least c types n acc t h base stride e in
      let b = runtime_array_row least c types' n' acc' (f t) own.0 (f base) stride e' in
      let s = ih base a.0 (λ k r. closed k (runtime_element e r)) in
      let x = runtime_array_layout types n acc.layouts t h base stride e in
      let y = runtime_array_layout types' n' acc'.layouts (f t) own.0 (f base) stride e' in
      let l : layout types' (f t) ≡ layout types t =
      λ i. record { size = (y.0 ∙ sym x.0) i; alignment = (y.2 ∙ ap (λ (z : TypeLayout). z.alignment) s.0 ∙ sym x.2) i } in
      of_array t h own.0 stride stride 149 base a.1 b.1 l s.1
  step t h closed ih (Struct count span) e =
      let own = closed t itself in
      let e' : (types' (f t)).inner ≡ Struct count span = own.1.inner ∙ ap (renamed_inner f) e in
      let ms = (types t).members in
      let ms' = (types' (f t)).members in
      let a = struct_row least c types n acc t h count span e in
      let b = struct_row least c types' n' acc' (f t) own.0 count span e' in
      let ty : (j : ℕ) → j < count → member_type ms' j ≡ f (member_type ms j) = λ j l. (own.1.members count span j e l).type in
      let off : (j : ℕ) → j < count → member_offset ms' j ≡ member_offset ms j = λ j l. (own.1.members count span j e l).offset in
      let s : (j : ℕ) → j < count → Same (member_type ms j) =
      λ j l. ih (member_type ms j) (member_earlier least c types n acc t h count span e j l) (λ k r. closed k (member j e l r)) in
      let is : (j : ℕ) → j < count → (types' (f (member_type ms j))).inner ≡ renamed_inner f (types (member_type ms j)).inner =
      λ j l. (closed (member_type ms j) (member j e l itself)).1.inner in
      let known : (j : ℕ) → j < count → row least c types' (f (member_type ms j)) ≡ renamed_row f (row least c types (member_type ms j)) = λ j l. (s j l).1 in
      let x = struct_layout types n acc.layouts t h count span e in
      let y = struct_layout types' n' acc'.layouts (f t) own.0 count span e' in
      let al = alignments t ms ms' count ty (λ j l. (s j l).0) count (le_refl count) (layout types t).alignment (layout types' (f t)).alignment x.1 y.1 in
      let l : layout types' (f t) ≡ layout types t = λ i. record { size = (y.0 ∙ sym x.0) i; alignment = al i } in
      let bounds = bounds-renamed f (inner_in types) (inner_in types') (row least c types) (row least c types') ms ms' count ty off is known count span count (le_refl count) in
      let after : b.after ≡ a.after = ok_inj (sym b.accepted ∙ bounds ∙ a.accepted) in
      let u = uniform_renamed f (inner_in types) (inner_in types') (row least c types) (row least c types') ms ms' count ty off is known least t count (le_refl count) in
      let v = storage_renamed f (inner_in types) (inner_in types') (row least c types) (row least c types') ms ms' count ty off is known t count (le_refl count) in
      let m = immediates_renamed f (inner_in types) (inner_in types') (row least c types) (row least c types') ms ms' count ty off is known count (le_refl count) in
      made t h own.0 l
      (blend_renamed ms ms' count (λ j l. (own.1.members count span j e l).source) (inner_in types) (inner_in types') (row_flags (row least c types)) (row_flags (row least c types'))
      a.after.flags (row least c types t).flags (row least c types' (f t)).flags a.blend
      (rw after at b.blend))
      (b.uniform ∙ ap (λ (z : ℕ). span_verdict (f t) span z (uniform_after least (inner_in types') (row least c types') (f t) ms' count)) al ∙ ap (span_verdict (f t) span (layout types t).alignment) u
      ∙ span_renamed f t span (layout types t).alignment (uniform_after least (inner_in types) (row least c types) t ms count) ∙ ap (renamed_verdict f) (sym a.uniform))
      (b.storage ∙ ap (λ (z : ℕ). span_verdict (f t) span z (storage_after (row least c types') (f t) ms' count)) al ∙ ap (span_verdict (f t) span (layout types t).alignment) v
      ∙ span_renamed f t span (layout types t).alignment (storage_after (row least c types) t ms count) ∙ ap (renamed_verdict f) (sym a.storage))
      (b.immediates ∙ m ∙ sym a.immediates)
  step t h closed ih (Other o) e =
      let own = closed t itself in
      let e' : (types' (f t)).inner ≡ Other (renamed_non_data f o) = own.1.inner ∙ ap (renamed_inner f) e in
      let va = other_verdicts least c types n acc t h o e in
      let vb = other_verdicts least c types' n' acc' (f t) own.0 (renamed_non_data f o) e' in
      let l = other_layout least c types' n' acc' (f t) own.0 (renamed_non_data f o) e' ∙ rw (size_renamed f o) refl ∙ sym (other_layout least c types n acc t h o e) in
      made t h own.0 l
      (other_flags t h closed ih o e e')
      (vb.0 ∙ rw va.0 refl)
      (vb.1 ∙ rw va.1 refl)
      (other_immediates least c types' n' acc' (f t) own.0 (renamed_non_data f o) e' ∙ sym (other_immediates least c types n acc t h o e))

  -- each, by the types before it
  pub same : (t : ℕ) → t < n → Closed f types types' n' t → Same t
  same =
      by_earlier (λ (t : ℕ). Closed f types types' n' t → Same t) n
      (λ t h ih closed. step t h closed ih (types t).inner refl)
