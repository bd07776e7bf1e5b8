-- `sheet_dimensions::Within::of_matrix` meets its contract: one dimension after the other. Assumes nothing.
use mathlib.Core.Path.{sym, ◌∙◌}
use Rattle.std.specs.Prelude.{Some}
use Rattle.sheet_dimensions.specs.Shapes.{matrix_extents}
use Rattle.sheet_dimensions.proofs.ShapeLaws.{grows_twice}
use Rattle.sheet_dimensions.proofs.Within.of_matrix.Goals as goal

pub returns : goal.returns
returns c =
    let a = c.args in
    let column = sym c.column_step.ensures ∙ c.in_ok-column.was in
    let columns = sym c.of_step.ensures ∙ c.in_ok-columns.was in
    let scalars = sym c.divided.ensures ∙ c.in_ok-divided.was in
    let more = matrix_extents a.self.step a.columns c.in_ok-column.column a.width in
    let n = c.in_ok-columns.columns in
    let m = c.in_ok-divided.field-0 in
    let first = c.in_ok-with.field-0 in
    rw column (grows_twice a.self first (Some n) (Some m) more c.with-2.result c.in_ok-with.ensures c.with-2.ensures (rw (columns, scalars)))
