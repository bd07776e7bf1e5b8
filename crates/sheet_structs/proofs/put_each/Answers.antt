-- `sheet_structs::put_each` meets its contract: each text after those before it. Assumes nothing.
use mathlib.Core.Path.{◌≡◌, ap}
use Rattle.std.proofs.Common.{arith}
use Rattle.ir_records.specs.Record.{struct_members, member_type, member_offset}
use Rattle.program_output.specs.Bytes.{joined}
use Rattle.sheet_output.proofs.WritesLaws.{writes_none, writes_then}
use Rattle.sheet_verdicts.proofs.SlotLaws.{joined_more}
use Rattle.sheet_structs.proofs.put_each.Goals as goal

pub loop-j-init : goal.loop-j-init
unfolding joined
loop-j-init g c = λ member members. writes_none g.W.Write.contents _

pub loop-j-preserved : goal.loop-j-preserved
loop-j-preserved g c = λ member members.
    let k = g.W.Write.contents in
    let s = c.args.t.sheet in
    let part = struct_members s.types.now s.members.now c.args.t.i in
    let l = c.loop-j in
    let e = c.member.ensures in
    let m = c.member.result in
    let line = members _ _ m (ap (λ t. t.sheet) e.of) (ap (λ t. t.i) e.of) c.put.ensures in
    let all = writes_then k (λ x. member x m.j m.ty m.offset) (l.invariant member members) line in
    rw (joined_more (λ j. member (c.args.out.now.markup) j (member_type part j) (member_offset part j)) l.j) (rw (e.j, e.ty, e.offset) at all)

pub returns : goal.returns
returns g c = λ member members.
    let l = c.loop-j in
    let n : l.j ≡ c.count-j-end.result = omega (arith, c.loop-j-test.false, l.auto.j-end) in
    rw (n, c.count-j-end.ensures) at (l.invariant member members)
