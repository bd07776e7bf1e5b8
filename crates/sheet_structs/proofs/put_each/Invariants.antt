-- `sheet_structs::put_each` meets its contract. The invariant: the texts of the members so far are written. Assumes nothing.
use Rattle.ir_records.specs.Record.{struct_members, member_type, member_offset}
use Rattle.program_output.specs.Bytes.{joined}
use Rattle.sheet_lines.specs.Lines.{MemberText, PutsMember}
use Rattle.sheet_output.specs.declared.Markup.{Markup}
use Rattle.sheet_output.specs.Written.{Writes}
use Rattle.sheet_structs.proofs.put_each.Given as goal

abbrev pub invariant-loop-j : goal.invariant-loop-j
invariant-loop-j g l =
    let part = struct_members l.t.sheet.types.now l.t.sheet.members.now l.t.i in
    (member : Markup → MemberText)
    → PutsMember g.W.Write.contents g.M.Fn l.put l.t.sheet l.t.i member
    → Writes g.W.Write.contents l.initial.out (joined (λ j. member (l.initial.out.markup) j (member_type part j) (member_offset part j)) l.j) l.out
