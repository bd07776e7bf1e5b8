-- `sheet_bytes::Byte::step` meets its contract, by the kind of the record. Assumes nothing.
use mathlib.Core.Path.{sym, ◌∙◌, subst}
use Rattle.sheet_bytes.specs.Leaf.{StepIs}
use Rattle.sheet_bytes.proofs.StepLaws.{struct_step, array_step, matrix_step, leaf_step}
use Rattle.sheet_bytes.proofs.Byte.step.Goals as goal

pub returns-then-is_struct : goal.returns-then-is_struct
returns-then-is_struct c =
    let b = c.args.self in
    let law = struct_step b.of.sheet b.of.i b.at (sym c.is_struct.ensures ∙ c.if-is_struct.true) in
    subst (λ s. StepIs b.of.sheet s c.in_struct.result) (sym law) c.in_struct.ensures

pub returns-then-is_array : goal.returns-then-is_array
returns-then-is_array c =
    let b = c.args.self in
    let law = array_step b.of.sheet b.of.i b.at (sym c.is_array.ensures ∙ c.if-is_array.true) in
    subst (λ s. StepIs b.of.sheet s c.in_array.result) (sym law) (rw (c.word.ensures, c.stride.ensures) at c.in_array.ensures)

pub returns-then-is_of_kind : goal.returns-then-is_of_kind
returns-then-is_of_kind c =
    let b = c.args.self in
    matrix_step b.of.sheet b.of.i b.at c.is_in_column.result (sym c.is_of_kind.ensures ∙ c.if-is_of_kind.true)
    (rw (c.word-then-is_of_kind.ensures, c.word-then-is_of_kind-2.ensures) at c.is_in_column.ensures)

pub returns : goal.returns
returns c =
    let b = c.args.self in
    rw (c.from.ensures, c.size.ensures)
    (leaf_step b.of.sheet b.of.i b.at (sym c.is_struct.ensures ∙ c.if-is_struct.false) (sym c.is_array.ensures ∙ c.if-is_array.false)
    (sym c.is_of_kind.ensures ∙ c.if-is_of_kind.false))
