-- `sheet_types::inside` meets its contract. The invariant: what is inside the arrays that are left is inside all. Assumes nothing.
use Rattle.std.proofs.Common.{sym, ◌∙◌, rules}
use Rattle.sheet_types.proofs.TypeLaws.{arrays_step, arrays_stop, arrays_done}
use Rattle.sheet_types.proofs.inside.Goals as goal

pub returns-in-None-clause-i : goal.returns-in-None-clause-i
returns-in-None-clause-i c =
    let l = c.loop in
    let a = c.args in
    let e = rw l.invariant.sheet at c.in-None.ensures in
    sym (arrays_stop a.of.sheet.types.now a.depth l.counter l.t.i c.loop-test.true e) ∙ l.invariant.same

pub loop-preserved : goal.loop-preserved
loop-preserved c =
    let l = c.loop in
    let a = c.args in
    let e = rw l.invariant.sheet at c.in-Some.ensures in
    record {
      within = search rules;
      sheet = e.1;
      same = rw e.2 (sym (arrays_step a.of.sheet.types.now a.depth l.counter l.t.i c.loop-test.true e.0) ∙ l.invariant.same);
    }

pub returns-clause-i : goal.returns-clause-i
returns-clause-i c =
    let l = c.loop in
    let a = c.args in
    sym (arrays_done a.of.sheet.types.now a.depth l.counter l.t.i c.loop-test.false) ∙ l.invariant.same
