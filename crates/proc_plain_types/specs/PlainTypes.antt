-- 02, E14: plain types from a table. 13 shapes at widths 1, 2, 4 and 8, three numbers each: size, alignment and column step.
-- Assumes nothing.
use Rattle.std.specs.Prelude.{Bool, ◌&&◌, ◌||◌, ℕ, ◌+◌, ◌-◌, ◌*◌, ◌/◌, ◌%◌, eqb, leb, Result, Ok, Err}
use Rattle.ir_records.specs.Result.{pick}
use Rattle.ir_records.specs.declared.Leaf.{Leaf}
use Rattle.ir_records.specs.declared.Leaf.TheVariants.{Scalar, Vector, Matrix}
use Rattle.proc_type_methods.specs.TypeMethods.{leaf_size, leaf_column_step}
use Rattle.proc_type_alignment.specs.TypeAlignment.{leaf_width, leaf_factor}
use Rattle.ir_records.specs.Refusal.{number_of}
use Rattle.ir_records.specs.declared.Refusal.{Refusal}
use Rattle.proc_plain_types.specs.declared.PlainLayout.{PlainLayout}

pub data PlainAnswer : Type 0 where
  Found : (size alignment step : ℕ) → PlainAnswer
  Refused : (number ty member detail : ℕ) → PlainAnswer

-- ---- shapes are numbered from 0: the scalar, three vectors and nine matrices by columns, then rows
abbrev pub most_shape : ℕ
most_shape = 12

-- of a matrix
abbrev pub columns_of : (shape : ℕ) → ℕ
columns_of shape = (shape - 4) / 3 + 2

abbrev pub rows_of : (shape : ℕ) → ℕ
rows_of shape = (shape - 4) % 3 + 2

abbrev pub leaf_with : (shape kind width : ℕ) → Leaf
leaf_with shape kind width =
    pick (eqb shape 0) (Scalar kind width)
    (pick (leb shape 3) (Vector (shape + 1) kind width)
    (Matrix (columns_of shape) (rows_of shape) kind width))

-- ---- the call
abbrev pub plain_width : ℕ → Bool
plain_width width = eqb width 1 || eqb width 2 || eqb width 4 || eqb width 8

-- the three numbers, worked out
abbrev pub worked_out : Leaf → PlainAnswer
worked_out leaf = Found (leaf_size leaf) (leaf_factor leaf * leaf_width leaf) (leaf_column_step leaf)

-- another shape or width is 2. The scalar kind, here 2 for Float, is in none of the three numbers (PlainLaws `plain_layout`)
unfoldable pub plain_answer : (shape width : ℕ) → PlainAnswer
plain_answer shape width = pick (leb shape most_shape && plain_width width) (worked_out (leaf_with shape 2 width)) (Refused 2 0 0 0)

-- ---- what the code's answers say
abbrev pub plain_in : PlainLayout → PlainAnswer
plain_in p = Found p.size p.alignment p.step

abbrev pub plain_answer_of : Result PlainLayout Refusal → PlainAnswer
plain_answer_of (Ok p) = plain_in p
plain_answer_of (Err r) = Refused (number_of r.fault) r.ty r.member r.detail
