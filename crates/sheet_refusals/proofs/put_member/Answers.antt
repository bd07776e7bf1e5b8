-- `sheet_refusals::put_member` meets its contract: one after the other. Assumes nothing.
use Rattle.sheet_output.proofs.WritesLaws.{writes_then}
use Rattle.sheet_types.specs.Text.{numbered_member}
use Rattle.sheet_refusals.proofs.put_member.Goals as goal

pub returns : goal.returns
returns g c =
    let member = c.args.member in
    writes_then g.W.Write.contents (λ m. numbered_member m member.of.sheet member.of.i member.j) c.put_text.ensures c.put_numbered_member.ensures
