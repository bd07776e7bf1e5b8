-- `sheet_lines::put_lines` meets its contract: each line after those before it, and then the last gap. Assumes nothing.
use mathlib.Core.Path.{◌≡◌, refl, ap}
use Prim.Native.Nat.{◌≤◌}
use Rattle.std.specs.Prelude.{MatchOption}
use Rattle.std.proofs.Common.{rules, arith}
use Rattle.ir_records.specs.Record.{struct_members}
use Rattle.sheet_output.specs.Written.{Writes}
use Rattle.sheet_output.proofs.WritesLaws.{writes_none, writes_then}
use Rattle.sheet_lines.specs.Lines.{gap_before, furthest_end, member_lines, last_gap}
use Rattle.sheet_lines.proofs.LineLaws.{LiesBetween, gap_there, gap_none, last_there, last_none, end_more, lines_more}
use Rattle.sheet_lines.proofs.put_lines.Goals as goal
use Rattle.sheet_lines.proofs.put_lines.Goals.{in-Some, in_default}

pub loop-j-init : goal.loop-j-init
unfolding member_lines furthest_end
loop-j-init g c = record { end = refl; lines = λ gap member gaps members. writes_none g.W.Write.contents _ }

pub loop-j-preserved : goal.loop-j-preserved
loop-j-preserved g c =
    let k = g.W.Write.contents in
    let s = c.args.t.sheet in
    let part = struct_members s.types.now s.members.now c.args.t.i in
    let l = c.loop-j in
    let member = c.member-member.result in
    let e = c.member-member.ensures in
    let start = c.from.result in
    record {
      end = rw (c.max-before.ensures, c.end_of.ensures, e.of, e.ty, e.offset, l.invariant.end, end_more part s.rows.now l.j);
      lines = λ gap_text member_text gaps members.
          let lines = l.invariant.lines gap_text member_text gaps members in
          let between : Writes k l.out (gap_before (gap_text (l.out.markup)) l.before start) c.match-between.out = elim c.match-between.branch [
            | in-Some w ↦ rw (w.out-is, gap_there (gap_text (l.out.markup)) l.before start w.in-Some.unused w.in-Some.ensures) (gaps _ _ _ w.put_gap.ensures)
            | in_default w ↦ rw (w.out-is, gap_none (gap_text (l.out.markup)) l.before start w.in_default.ensures) (writes_none k _)
          ] in
          let line = members _ _ member (ap (λ t. t.sheet) e.of) (ap (λ t. t.i) e.of) c.put_member.ensures in
          let more = writes_then k (λ m. gap_before (gap_text m) l.before start) lines between in
          let all = writes_then k (λ m. member_text m member.j member.ty member.offset) more line in
          rw (lines_more part s.rows.now l.j (gap_text (c.args.out.now.markup)) (member_text (c.args.out.now.markup)))
          (rw (l.invariant.end, c.from.ensures, e.j, e.ty, e.offset) at all);
    }

pub returns-in-Some-and_then : goal.returns-in-Some-and_then
returns-in-Some-and_then g c = λ gap_text member_text gaps members.
    let k = g.W.Write.contents in
    let l = c.loop-j in
    let unused = c.in-Some-and_then.unused in
    let there : MatchOption c.args.end ⊥ (LiesBetween unused l.before) = search rules in
    let gap : Writes k l.out (last_gap (gap_text (l.out.markup)) l.before c.args.end) c.put_gap-in-Some-and_then.new.arg2 =
    rw (last_there (gap_text (l.out.markup)) l.before c.args.end unused there) (gaps _ _ unused c.put_gap-in-Some-and_then.ensures) in
    let all = writes_then k (λ m. last_gap (gap_text m) l.before c.args.end) (l.invariant.lines gap_text member_text gaps members) gap in
    let n : l.j ≡ c.count-j-end.result = omega (arith, c.loop-j-test.false, l.auto.j-end) in
    rw (l.invariant.end, n, c.count-j-end.ensures) at all

pub returns : goal.returns
returns g c = λ gap_text member_text gaps members.
    let k = g.W.Write.contents in
    let l = c.loop-j in
    let none : MatchOption c.args.end (Unit {0}) (λ end. end ≤ l.before) = search rules in
    let gap : Writes k l.out (last_gap (gap_text (l.out.markup)) l.before c.args.end) l.out =
    rw (last_none (gap_text (l.out.markup)) l.before c.args.end none) (writes_none k l.out) in
    let all = writes_then k (λ m. last_gap (gap_text m) l.before c.args.end) (l.invariant.lines gap_text member_text gaps members) gap in
    let n : l.j ≡ c.count-j-end.result = omega (arith, c.loop-j-test.false, l.auto.j-end) in
    rw (l.invariant.end, n, c.count-j-end.ensures) at all
