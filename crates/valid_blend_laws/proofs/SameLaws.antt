-- 02, E9: layouts, slots and places do not read the new words of member records, and neither do the rules without blend sources.
-- Assumes nothing.
use mathlib.Core.Path.{◌≡◌, refl, ap, ◌∙◌, fun_ext}
use mathlib.Core.List.{List}
use Prim.Native.Nat.{ℕ, zero, suc}
use Rattle.ir_records.specs.Result.{Result, ok, and_then}
use Rattle.ir_records.specs.Record.{decoded, type_inner, struct_members}
use Rattle.ir_records.specs.Table.{result_at, value_at}
use Rattle.ir_records.specs.declared.TypeInner.{TypeInner}
use Rattle.ir_records.specs.declared.TypeInner.TheVariants.{Plain, Array, RuntimeArray, Struct, Other}
use Rattle.proc_type_alignment.specs.declared.TypeLayout.{TypeLayout}
use Rattle.proc_type_alignment.specs.TypeAlignment.{members_alignment, alignment_of}
use Rattle.proc_type_layout.specs.TypeLayout.{layout_of}
use Rattle.proc_layouter.specs.Layouter.{no_layout, layout_step, layout_at, layout}
use Rattle.valid_type_info.specs.declared.Row.{Row}
use Rattle.valid_type_info.specs.TypeInfo.{row_sizes, row_flags}
use Rattle.valid_type_info.specs.Verdict.{min_uniform, previous_of}
use Rattle.valid_member_bounds.specs.MemberBounds.{bounds_after}
use Rattle.valid_member_rules.specs.MemberRules.{uniform_after, storage_after, immediates_after}
use Rattle.valid_types.specs.ValidateType.{flags_of, uniform_of, storage_of, immediates_of, row_of}
use Rattle.immediates_ranges.specs.Slots.{Slots}
use Rattle.immediates_walk.specs.Walk.{members_slots, slots_of, no_slots, slots_at}
use Rattle.place_steps.specs.Step.{Step}
use Rattle.place_steps.specs.Steps.{step_of}
use Rattle.place_descent.specs.Place.{walk, leaf_in, place_of}
use Rattle.valid_blend_laws.specs.SameRows.{SameRows}
use Rattle.valid_blend_laws.specs.Former.{former_flags, former_step}
use Rattle.valid_blend_laws.proofs.ReadLaws.{SameFields, same_fields}

-- ---- one struct
module _ (part part' : List ℕ) (same : SameFields part part') where
  previous_same : (inner : ℕ → TypeInner) (j : ℕ) → previous_of inner part j ≡ previous_of inner part' j
  unfolding previous_of
  previous_same inner zero = refl
  previous_same inner (suc j) = rw (same.types j, same.offsets j) refl

  alignment_same : (layouts : ℕ → TypeLayout) (i j : ℕ) → members_alignment layouts i part j ≡ members_alignment layouts i part' j
  unfolding members_alignment
  alignment_same layouts i zero = refl
  alignment_same layouts i (suc j) = rw (alignment_same layouts i j, same.types j) refl

  bounds-same : (inner : ℕ → TypeInner) (sizes flags : ℕ → ℕ) (count span j : ℕ) → bounds_after inner sizes flags count span part j ≡ bounds_after inner sizes flags count span part' j
  unfolding bounds_after
  bounds-same inner sizes flags count span zero = refl
  bounds-same inner sizes flags count span (suc j) =
      rw (bounds-same inner sizes flags count span j, previous_same inner j, same.types j, same.offsets j) refl

  uniform_same : (least : ℕ) (inner : ℕ → TypeInner) (rows : ℕ → Row) (i j : ℕ) → uniform_after least inner rows i part j ≡ uniform_after least inner rows i part' j
  unfolding uniform_after
  uniform_same least inner rows i zero = refl
  uniform_same least inner rows i (suc j) = rw (uniform_same least inner rows i j, previous_same inner j, same.types j, same.offsets j) refl

  storage_same : (rows : ℕ → Row) (i j : ℕ) → storage_after rows i part j ≡ storage_after rows i part' j
  unfolding storage_after
  storage_same rows i zero = refl
  storage_same rows i (suc j) = rw (storage_same rows i j, same.types j, same.offsets j) refl

  immediates_same : (rows : ℕ → Row) (j : ℕ) → immediates_after rows part j ≡ immediates_after rows part' j
  unfolding immediates_after
  immediates_same rows zero = refl
  immediates_same rows (suc j) = rw (immediates_same rows j, same.types j) refl

  members_slots_same : (earlier : ℕ → ℕ → Slots) (offset j : ℕ) → members_slots earlier part offset j ≡ members_slots earlier part' offset j
  unfolding members_slots
  members_slots_same earlier offset zero = refl
  members_slots_same earlier offset (suc j) = rw (members_slots_same earlier offset j, same.types j, same.offsets j) refl

  -- ---- by what the record says
  layout_of_same : (layouts : ℕ → TypeLayout) (i : ℕ) (inner : TypeInner) → layout_of layouts i inner part ≡ layout_of layouts i inner part'
  unfolding layout_of alignment_of
  layout_of_same layouts i (Plain leaf) = refl
  layout_of_same layouts i (Array base count stride) = refl
  layout_of_same layouts i (RuntimeArray base stride) = refl
  layout_of_same layouts i (Struct count span) = rw (alignment_same layouts i count) refl
  layout_of_same layouts i (Other o) = refl

  former_flags_same : (c : ℕ) (inner : ℕ → TypeInner) (sizes flags : ℕ → ℕ) (this : TypeInner) → former_flags c inner sizes flags this part ≡ former_flags c inner sizes flags this part'
  unfolding flags_of
  former_flags_same c inner sizes flags (Plain leaf) = refl
  former_flags_same c inner sizes flags (Array base count stride) = refl
  former_flags_same c inner sizes flags (RuntimeArray base stride) = refl
  former_flags_same c inner sizes flags (Struct count span) = rw (bounds-same inner sizes flags count span count) refl
  former_flags_same c inner sizes flags (Other o) = refl

  row_of_same : (inner : ℕ → TypeInner) (rows : ℕ → Row) (i : ℕ) (l : TypeLayout) (this : TypeInner) (flags : ℕ)
      → row_of min_uniform inner rows i l this part flags ≡ row_of min_uniform inner rows i l this part' flags
  unfolding row_of uniform_of storage_of immediates_of
  row_of_same inner rows i l (Plain leaf) flags = refl
  row_of_same inner rows i l (Array base count stride) flags = refl
  row_of_same inner rows i l (RuntimeArray base stride) flags = refl
  row_of_same inner rows i l (Struct count span) flags = rw (uniform_same min_uniform inner rows i count, storage_same rows i count, immediates_same rows count) refl
  row_of_same inner rows i l (Other o) flags = refl

  slots_of_same : (earlier : ℕ → ℕ → Slots) (this : TypeInner) (offset : ℕ) → slots_of earlier this part offset ≡ slots_of earlier this part' offset
  unfolding slots_of
  slots_of_same earlier (Plain leaf) offset = refl
  slots_of_same earlier (Array base count stride) offset = refl
  slots_of_same earlier (RuntimeArray base stride) offset = refl
  slots_of_same earlier (Struct count span) offset = members_slots_same earlier offset count
  slots_of_same earlier (Other o) offset = refl

  step_of_same : (this : TypeInner) (step : ℕ) → step_of this part step ≡ step_of this part' step
  unfolding step_of
  step_of_same (Plain leaf) step = refl
  step_of_same (Array base count stride) step = refl
  step_of_same (RuntimeArray base stride) step = refl
  step_of_same (Struct count span) step = rw (same.types step, same.offsets step) refl
  step_of_same (Other o) step = refl

-- ---- an arena
module _ (ts ms ms' : List ℕ) (same : SameRows ms ms') where
  fields : (i : ℕ) → SameFields (struct_members ts ms i) (struct_members ts ms' i)
  fields = same_fields ts ms ms' same

  steps_same : layout_step (decoded ts ms) ≡ layout_step (decoded ts ms')
  steps_same = fun_ext (λ g. fun_ext (λ i. layout_of_same (struct_members ts ms i) (struct_members ts ms' i) (fields i) g i (type_inner ts i)))

  pub layouts_same : layout_at (decoded ts ms) ≡ layout_at (decoded ts ms')
  layouts_same = ap (λ (f : (ℕ → TypeLayout) → ℕ → Result TypeLayout). result_at no_layout f) steps_same

  layout_same : layout (decoded ts ms) ≡ layout (decoded ts ms')
  layout_same = ap (λ (f : (ℕ → TypeLayout) → ℕ → Result TypeLayout). value_at no_layout f) steps_same

  pub former_step_same : (c : ℕ) → former_step c (decoded ts ms) ≡ former_step c (decoded ts ms')
  former_step_same c = fun_ext (λ rows. fun_ext (λ i. step rows i))
    where
      inner : ℕ → TypeInner
      inner = λ k. type_inner ts k

      step : (rows : ℕ → Row) (i : ℕ) → former_step c (decoded ts ms) rows i ≡ former_step c (decoded ts ms') rows i
      step rows i =
          ap (λ (o : Result ℕ). and_then o (λ flags. ok (row_of min_uniform (λ k. type_inner ts k) rows i (layout (decoded ts ms) i) (type_inner ts i) (struct_members ts ms i) flags)))
          (former_flags_same (struct_members ts ms i) (struct_members ts ms' i) (fields i) c (λ k. type_inner ts k) (row_sizes rows) (row_flags rows) (type_inner ts i))
          ∙ ap (λ (f : ℕ → Row). and_then (former_flags c (λ k. type_inner ts k) (row_sizes rows) (row_flags rows) (type_inner ts i) (struct_members ts ms' i)) (λ flags. ok (f flags)))
          (fun_ext (λ flags.
          ap (λ (l : ℕ → TypeLayout). row_of min_uniform (λ k. type_inner ts k) rows i (l i) (type_inner ts i) (struct_members ts ms i) flags) layout_same
          ∙ row_of_same (struct_members ts ms i) (struct_members ts ms' i) (fields i) (λ k. type_inner ts k) rows i (layout (decoded ts ms') i) (type_inner ts i) flags))

  -- ---- slots and places
  pub slots_same : slots_at (decoded ts ms) ≡ slots_at (decoded ts ms')
  slots_same =
      ap (λ (f : (ℕ → ℕ → Slots) → ℕ → Result (ℕ → Slots)). value_at no_slots f)
      (fun_ext (λ earlier. fun_ext (λ i. ap (λ (g : ℕ → Slots). ok g) (fun_ext (λ offset. slots_of_same (struct_members ts ms i) (struct_members ts ms' i) (fields i) earlier (type_inner ts i) offset)))))

  pub places_same : (start : ℕ) (steps : List ℕ) → place_of ts ms start steps ≡ place_of ts ms' start steps
  unfolding place_of
  places_same start steps =
      rw (ap (λ (f : ℕ → ℕ → Step). walk f (leaf_in (decoded ts ms)) start 0 steps) (fun_ext (λ t. fun_ext (λ s. step_of_same (struct_members ts ms t) (struct_members ts ms' t) (fields t) (type_inner ts t) s)))) refl
