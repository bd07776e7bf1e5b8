-- `sheet_rust::put_dimensioned` meets its contract: the starts, what is inside, and the ends. Assumes nothing.
use Rattle.sheet_dimensions.specs.Extents.{in_use, inside_of}
use Rattle.sheet_output.proofs.WritesLaws.{writes_both}
use Rattle.sheet_rust.specs.Text.{inside_text}
use Rattle.sheet_rust.proofs.TextLaws.{array_ends}
use Rattle.sheet_rust.proofs.put_dimensioned.Goals as goal

pub returns : goal.returns
returns g c sheet of =
    let k = g.W.Write.contents in
    let d = c.args.dimensions in
    let starts = rw c.as_slice.ensures at c.put_starts.ensures in
    let ends = rw c.as_slice-2.ensures at c.put_ends.ensures in
    let inside = inside_text sheet (inside_of d.base) in
    rw (array_ends (in_use d.extents) inside) (writes_both k (writes_both k starts (c.put_base.ensures sheet of)) ends)
