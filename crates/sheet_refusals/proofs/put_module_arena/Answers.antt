-- `sheet_refusals::put_module_arena` meets its contract: one after the other. Assumes nothing.
use Rattle.sheet_output.proofs.WritesLaws.{writes_then}
use Rattle.sheet_refusals.specs.Named.{named_member}
use Rattle.sheet_refusals.specs.Text.{in_module}
use Rattle.sheet_refusals.proofs.put_module_arena.Goals as goal

pub returns-in-Some : goal.returns-in-Some
returns-in-Some g c =
    let a = c.args in
    let e = c.in-Some.ensures in
    let says = rw e.1 at c.put_in_module.ensures in
    rw e.0
    (writes_then g.W.Write.contents (λ m. in_module m a.sheet a.words.now a.place c.in-Some.t.i (named_member a.refusal)) c.put_arena_number.ensures says)
