-- What one word of a record, its kind, tells of a step towards a byte.
-- Assumes nothing.
use mathlib.Core.Path.{◌≡◌, refl, sym, ◌∙◌, ap}
use mathlib.Core.Bool.{Bool, true, false}
use Prim.Native.Nat.{ℕ, ◌*◌}
use lib.Dec.{eqb, ltb}
use borrow.Author.Tests.{eqb-true}
use Rattle.std.specs.Prelude.{Option, Some}
use Rattle.std.proofs.lemmas.Bool.{false≢true}
use Rattle.ir_records.specs.Record.{type_word, type_inner, inner_of, matrix_kind, array_kind, struct_kind}
use Rattle.ir_records.specs.declared.TypeInner.TheVariants.{Array, RuntimeArray}
use Rattle.ir_records.proofs.ResultLaws.{pick_alike, pick_when}
use Rattle.ir_rows.specs.Rows.{row_word}
use Rattle.proc_type_methods.specs.TypeMethods.{column_step}
use Rattle.sheet_types.specs.Types.{inner_step as columns_of}
use Rattle.sheet_names.specs.declared.Sheet.{Sheet}
use Rattle.sheet_bytes.specs.Leaf.{Step, ends, in_members, element_step, in_columns, inner_step, step_of}

module _ (sheet : Sheet) (i at : ℕ) where
  -- a step by a kind, the other words of the record being as they are
  abbrev step_by : (kind : ℕ) → Step
  step_by kind =
      let ts = sheet.types.now in
      inner_step sheet i at (inner_of kind (type_word ts i 1) (type_word ts i 2) (type_word ts i 3) (type_word ts i 4) (type_word ts i 5))

  pub struct_step : eqb (type_word (sheet.types.now) i 0) struct_kind ≡ true → step_of sheet i at ≡ in_members sheet i at
  unfolding type_inner inner_of
  struct_step t = ap step_by (eqb-true (type_word (sheet.types.now) i 0) struct_kind t)

  -- with a count or without one
  pub array_step : eqb (type_word (sheet.types.now) i 0) array_kind ≡ true
      → step_of sheet i at ≡ element_step (type_word (sheet.types.now) i 1) (type_word (sheet.types.now) i 4) at
  unfolding type_inner inner_of
  array_step t =
      let ts = sheet.types.now in
      let base = type_word ts i 1 in
      let stride = type_word ts i 4 in
      ap step_by (eqb-true (type_word ts i 0) array_kind t)
      ∙ pick_alike (inner_step sheet i at) (element_step base stride at) (eqb (type_word ts i 2) 0) (Array base (type_word ts i 3) stride) (RuntimeArray base stride) refl refl

  pub matrix_step : (held : Bool) → eqb (type_word (sheet.types.now) i 0) matrix_kind ≡ true
      → held ≡ in_columns (columns_of (type_inner (sheet.types.now) i)) (type_word (sheet.types.now) i 2 * type_word (sheet.types.now) i 4) at
      → step_of sheet i at ≡ ends held
  unfolding type_inner inner_of
  matrix_step held t e =
      let ts = sheet.types.now in
      let rows = type_word ts i 2 in
      let width = type_word ts i 4 in
      let is = eqb-true (type_word ts i 0) matrix_kind t in
      let columns = ap (λ (kind : ℕ). columns_of (inner_of kind (type_word ts i 1) rows (type_word ts i 3) width (type_word ts i 5))) is in
      ap step_by is ∙ sym (ap ends (e ∙ ap (λ (o : Option ℕ). in_columns o (rows * width) at) columns))

  -- every other record ends the way
  pub leaf_step : eqb (type_word (sheet.types.now) i 0) struct_kind ≡ false → eqb (type_word (sheet.types.now) i 0) array_kind ≡ false
      → eqb (type_word (sheet.types.now) i 0) matrix_kind ≡ false → step_of sheet i at ≡ ends (ltb at (row_word (sheet.rows.now) i 0))
  unfolding type_inner inner_of
  leaf_step struct array matrix =
      let k = type_word (sheet.types.now) i 0 in
      let skip = pick_alike (inner_step sheet i at) (ends (ltb at (row_word (sheet.rows.now) i 0))) in
      let when = pick_when (inner_step sheet i at) (ends (ltb at (row_word (sheet.rows.now) i 0))) in
      skip (eqb k 0) _ _ refl
      (skip (eqb k 1) _ _ refl
      (when (eqb k 2) _ _ (λ t. absurd (false≢true (sym matrix ∙ t)))
      (skip (eqb k 3) _ _ refl
      (skip (eqb k 4) _ _ refl
      (skip (eqb k 5) _ _ refl
      (skip (eqb k 6) _ _ refl
      (when (eqb k 7) _ _ (λ t. absurd (false≢true (sym array ∙ t)))
      (when (eqb k 8) _ _ (λ t. absurd (false≢true (sym struct ∙ t)))
      (skip (eqb k 9) _ _ refl
      (skip (eqb k 10) _ _ refl
      (skip (eqb k 11) _ _ refl
      (skip (eqb k 12) _ _ refl refl))))))))))))
