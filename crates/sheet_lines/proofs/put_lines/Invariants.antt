-- `sheet_lines::put_lines` meets its contract. The invariant: the lines of the members so far are written, and the furthest of them ends there.
-- Assumes nothing.
use mathlib.Core.Path.{◌≡◌}
use Rattle.ir_records.specs.Record.{struct_members}
use Rattle.sheet_output.specs.declared.Markup.{Markup}
use Rattle.sheet_output.specs.Written.{Writes}
use Rattle.sheet_lines.specs.Lines.{GapText, MemberText, PutsGap, PutsMember, furthest_end, member_lines}
use Rattle.sheet_lines.proofs.put_lines.Given as goal

abbrev pub invariant-loop-j : goal.invariant-loop-j
invariant-loop-j g l =
    let part = struct_members l.t.sheet.types.now l.t.sheet.members.now l.t.i in
    let rows = l.t.sheet.rows.now in
    record {
      end : l.before ≡ furthest_end part rows l.j;
      lines :
          (gap : Markup → GapText) (member : Markup → MemberText)
          → PutsGap g.W.Write.contents g.G.Fn l.put_gap gap
          → PutsMember g.W.Write.contents g.M.Fn l.put_member l.t.sheet l.t.i member
          → Writes g.W.Write.contents l.initial.out (member_lines (gap (l.initial.out.markup)) (member (l.initial.out.markup)) part rows l.j) l.out;
    }
