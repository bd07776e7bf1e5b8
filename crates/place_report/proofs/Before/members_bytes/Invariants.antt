-- `place_report::Before::members_bytes` meets its contract. The invariant: the members so far are not narrow, and carry the total. Assumes nothing.
use Rattle.place_report.specs.Serving.{entry_in}
use Rattle.place_report.proofs.MemberBytes.{Adding}
use Rattle.place_report.proofs.Before.members_bytes.Given as goal

abbrev pub invariant-loop-j : goal.invariant-loop-j
invariant-loop-j l = Adding (entry_in l.self.report.now) l.part l.count l.j l.total
