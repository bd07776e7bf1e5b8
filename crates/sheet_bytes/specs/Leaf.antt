-- The layout sheet: whether a leaf of a type holds a byte of it, found by steps from the type to the part of it in which the byte lies.
-- Assumes nothing.
use Rattle.std.specs.Prelude.{◌≡◌, Bool, false, List, ℕ, zero, suc, ◌-◌, ◌*◌, ◌%◌, eqb, ltb, Option, None, Some}
use Rattle.std.specs.ControlFlow.{MatchControlFlow}
use Rattle.std.specs.declared.ops.ControlFlow.{ControlFlow}
use Rattle.ir_records.specs.Result.{pick}
use Rattle.ir_records.specs.Record.{type_word, type_inner, struct_members, member_type, member_offset}
use Rattle.ir_records.specs.declared.Leaf.{Leaf}
use Rattle.ir_records.specs.declared.Leaf.TheVariants as leaf
use Rattle.ir_records.specs.declared.TypeInner.{TypeInner}
use Rattle.ir_records.specs.declared.TypeInner.TheVariants as inner
use Rattle.ir_rows.specs.Rows.{row_word}
use Rattle.proc_type_methods.specs.TypeMethods.{column_step}
use Rattle.sheet_names.specs.declared.Sheet.{Sheet}
use Rattle.sheet_bytes.specs.declared.Byte.{Byte}
use Rattle.sheet_bytes.specs.Holder.{holder_of}

-- a step towards a byte ends where a leaf holds the byte or none does, or goes on to a byte of another type
pub data Step : Type 0 where
  ends : (held : Bool) → Step
  goes_on : (i at : ℕ) → Step

-- a byte of a struct as one of the member that holds it; between members no leaf holds one
abbrev pub member_step : (part : List ℕ) (at : ℕ) → (holder : Option ℕ) → Step
member_step part at None = ends false
member_step part at (Some j) = goes_on (member_type part j) (at - member_offset part j)

-- the byte of struct i as one of its members
abbrev pub in_members : Sheet → (i at : ℕ) → Step
in_members sheet i at =
    let part = struct_members (sheet.types.now) (sheet.members.now) i in
    member_step part at (holder_of part (sheet.rows.now) (type_word (sheet.types.now) i 2) at)

-- a byte of an array as one of an element; elements at no distance hold none
abbrev pub element_step : (base stride at : ℕ) → Step
element_step base stride at = pick (eqb stride 0) (ends false) (goes_on base (at % stride))

-- columns that lie so far apart hold so many bytes each; no columns hold none
abbrev pub in_columns : (step : Option ℕ) (length at : ℕ) → Bool
in_columns None length at = false
in_columns (Some step) length at = pick (eqb step 0) false (ltb (at % step) length)

-- a matrix holds what lies in its columns, and another leaf its size
abbrev pub leaf_holds : Leaf → (size at : ℕ) → Bool
leaf_holds (leaf.Scalar kind width) size at = ltb at size
leaf_holds (leaf.Vector n kind width) size at = ltb at size
leaf_holds (leaf.Matrix columns rows kind width) size at = in_columns (Some (column_step rows width)) (rows * width) at
leaf_holds (leaf.CooperativeMatrix columns rows kind width role) size at = ltb at size
leaf_holds (leaf.Atomic kind width) size at = ltb at size
leaf_holds (leaf.RayQuery vertex_return) size at = ltb at size

abbrev pub inner_step : Sheet → (i at : ℕ) → TypeInner → Step
inner_step sheet i at (inner.Plain leaf) = ends (leaf_holds leaf (row_word (sheet.rows.now) i 0) at)
inner_step sheet i at (inner.Array base count stride) = element_step base stride at
inner_step sheet i at (inner.RuntimeArray base stride) = element_step base stride at
inner_step sheet i at (inner.Struct count span) = in_members sheet i at
inner_step sheet i at (inner.Other o) = ends (ltb at (row_word (sheet.rows.now) i 0))

-- one step towards byte `at` of type i
abbrev pub step_of : Sheet → (i at : ℕ) → Step
step_of sheet i at = inner_step sheet i at (type_inner (sheet.types.now) i)

-- what is found after a step, by what is found of the bytes that it may go on to
abbrev pub found_after : (later : ℕ → ℕ → Bool) → Step → Bool
found_after later (ends held) = held
found_after later (goes_on i at) = later i at

-- whether at most so many steps lead to a leaf of type i that holds its byte `at`
unfoldable pub held_within : Sheet → (steps i at : ℕ) → Bool
held_within sheet zero i at = false
held_within sheet (suc steps) i at = found_after (held_within sheet steps) (step_of sheet i at)

-- a type stands in later ones alone, so a way has fewer steps than there are types, which are at most 1024
abbrev pub in_leaf : Sheet → (i at : ℕ) → Bool
in_leaf sheet i at = held_within sheet 1024 i at

-- a function answers with this step, in the same sheet
abbrev pub StepIs : Sheet → Step → ControlFlow Bool Byte → Type 0
StepIs sheet step answer = MatchControlFlow answer (λ byte. (byte.of.sheet ≡ sheet) × (step ≡ goes_on byte.of.i byte.at)) (λ held. step ≡ ends held)
