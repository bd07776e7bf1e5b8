-- `program_answers::put_report` meets its contract: one after the other. Assumes nothing.
use Rattle.std.proofs.Common.{rules, ◌≡◌}
use Rattle.program_output.proofs.PutLaws.{puts_both}
use Rattle.program_commands.specs.Commands.{part_of}
use Rattle.program_answers.proofs.AnsweredLaws.{same_lines}
use Rattle.program_answers.proofs.put_report.Goals as goal

pub returns : goal.returns
unfolding part_of
returns c =
    let first : c.unwrap_or.result.now ≡ part_of c.args.report.now 0 c.args.end = search rules in
    puts_both c.put_two.ensures (same_lines first c.put_report_lines.ensures)
