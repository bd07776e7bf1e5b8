-- `place_report::Before::members_bytes` meets its contract. The invariant: the members so far are not narrow, and carry the total. Assumes nothing.
use mathlib.Core.Path.{sym, ◌∙◌}
use Rattle.place_report.specs.Serving.{entry_in}
use Rattle.place_report.proofs.MemberBytes.{adding_narrow}
use Rattle.place_report.proofs.Before.members_bytes.Goals as goal

pub returns-in_err-bytes : goal.returns-in_err-bytes
returns-in_err-bytes c =
    let a = c.args in
    let l = c.loop-j in
    c.from_residual.ensures ∙ adding_narrow (entry_in a.self.report.now) a.part.now a.count l.j l.total l.invariant c.loop-j-test.true
    (rw c.member_type.ensures at (sym c.entry.ensures ∙ c.in_err-bytes.was))
