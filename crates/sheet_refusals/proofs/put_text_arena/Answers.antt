-- `sheet_refusals::put_text_arena` meets its contract: one after the other. Assumes nothing.
use Rattle.std.proofs.Common.{subst}
use Rattle.sheet_output.specs.Written.{Writes}
use Rattle.sheet_output.proofs.WritesLaws.{writes_then}
use Rattle.sheet_refusals.specs.Named.{named_member}
use Rattle.sheet_refusals.specs.Text.{in_text}
use Rattle.sheet_refusals.proofs.put_text_arena.Goals as goal

pub returns-in-Some : goal.returns-in-Some
returns-in-Some g c =
    let k = g.W.Write.contents in
    let a = c.args in
    let e = c.in-Some.ensures in
    let i = c.in-Some.t.i in
    let was = c.put_arena_number.new.out in
    let j = named_member a.refusal in
    let says = subst (λ s. Writes k was (in_text was.markup s i j) c.put_in_text.new.out) e.1 c.put_in_text.ensures in
    rw e.0 (writes_then k (λ m. in_text m a.sheet i j) c.put_arena_number.ensures says)
