-- `sheet_dimensions::of_type` meets its contract: an array less each turn, up to what is no array. Assumes nothing.
use Rattle.std.proofs.Common.{arith, sym, ◌∙◌, ap}
use Rattle.sheet_dimensions.specs.Extents.{in_use}
use Rattle.sheet_dimensions.proofs.ShapeLaws.{onto_none, shape_base, shape_none, shape_uneven, shape_array}
use Rattle.sheet_dimensions.proofs.of_type.Goals as goal

pub loop-init : goal.loop-init
loop-init c =
    let n = c.new-within.ensures in
    record {
      sheet = ap (λ t. t.sheet) n.t;
      counts = n.none;
      room = n.room;
      same = rw (n.step, n.t, n.none) (onto_none _);
    }

pub of_element-requires : goal.of_element-requires
of_element-requires c = record { room = omega arith }

pub returns-in_err-within-in-Some : goal.returns-in_err-within-in-Some
returns-in_err-within-in-Some c =
    let l = c.loop in
    let types = c.args.t.sheet.types.now in
    let rows = c.args.t.sheet.rows.now in
    let e = rw l.invariant.sheet at c.in-Some.ensures in
    let n = rw l.invariant.sheet at c.in_err-within-in-Some.ensures in
    let none = sym (shape_uneven types rows 32 l.counter (in_use l.within.extents) l.within.step l.within.t.i c.loop-test.true e.0 n) ∙ l.invariant.same in
    rw c.from_residual.ensures (sym none)

pub of_base-requires : goal.of_base-requires
of_base-requires c = record { room = omega arith }

pub returns-in-None : goal.returns-in-None
returns-in-None c =
    let l = c.loop in
    let types = c.args.t.sheet.types.now in
    let rows = c.args.t.sheet.rows.now in
    let e = rw l.invariant.sheet at c.in-None.ensures in
    let base = sym (shape_base types rows 32 l.counter (in_use l.within.extents) l.within.step l.within.t.i c.loop-test.true e) ∙ l.invariant.same in
    rw base at (rw l.invariant.sheet at c.of_base.ensures)

pub loop-preserved : goal.loop-preserved
loop-preserved c =
    let l = c.loop in
    let types = c.args.t.sheet.types.now in
    let rows = c.args.t.sheet.rows.now in
    let e = rw l.invariant.sheet at c.in-Some.ensures in
    let n = rw l.invariant.sheet at c.in_ok-within-in-Some.ensures in
    let same = shape_array types rows 32 l.counter (in_use l.within.extents) l.within.step l.within.t.i n.0 c.loop-test.true e.0 n.1 ∙ l.invariant.same in
    record {
      sheet = ap (λ t. t.sheet) n.2.t ∙ e.1;
      counts = omega (arith, n.2.one, n.2.extents.counts, l.invariant.counts);
      room = n.2.extents.room ∙ l.invariant.room;
      same = rw (n.2.extents.shows, n.2.step, n.2.t, e.2) same;
    }

pub returns : goal.returns
returns c =
    let l = c.loop in
    let types = c.args.t.sheet.types.now in
    let rows = c.args.t.sheet.rows.now in
    sym (sym (shape_none types rows 32 l.counter (in_use l.within.extents) l.within.step l.within.t.i c.loop-test.false) ∙ l.invariant.same)
