use native.Mathlib.Omega.{arith}
use Rattle.ir_records.specs.Record.{type_inner}
use Rattle.valid_type_info.specs.TypeInfo.{rows_in}
use Rattle.valid_type_info.specs.Verdict.{least_for, ok_verdict}
use Rattle.valid_members_plain.specs.Serving.{uniform_so_far}
use Rattle.valid_members.proofs.StateLaws.{plain_state, told}
use Rattle.valid_structs.proofs.StartLaws.{plain_start}
use Rattle.valid_structs.proofs.members_of.Goals as goal

pub plain_members-reached-requires : goal.plain_members-reached-requires
plain_members-reached-requires c = omega arith

pub returns-then-reached-s : goal.returns-then-reached-s
returns-then-reached-s c =
    let s = c.args.s.now in
    let start = plain_start (least_for c.args.rule) (type_inner s.types.now) (rows_in s.before.rows.now) s.before.i s.part.count s.span s.part.words.now in
    let after = rw c.if-reached-s.true at (c.plain_members-reached.ensures.plain_after c.args.rule (ok_verdict 0) 0 (rw c.start.ensures tt) (rw c.start.ensures start)) in
    rw (c.uniform_so_far-uniform.ensures, c.ok_verdict-none.ensures, c.ok_verdict.ensures) (after.0, after.1, after.2, after.3)

pub members_of-requires : goal.members_of-requires
members_of-requires c =
    let s = c.args.s.now in
    let inner = type_inner s.types.now in
    let rows = rows_in s.before.rows.now in
    let p = c.plain_members-reached in
    let after = p.ensures.plain_after c.args.rule (ok_verdict 0) 0 (rw c.start.ensures tt) (rw c.start.ensures (plain_start (least_for c.args.rule) inner rows s.before.i s.part.count s.span s.part.words.now)) in
    let state = plain_state (least_for c.args.rule) inner rows s.before.i s.part.count s.span s.part.words.now p.result.taken p.result.state (uniform_so_far p.result.state.uniform (ok_verdict 0)) 0 after in
    record { taken_le_count = p.ensures.taken_le_count; taken_value = rw (c.carried-state.ensures, c.uniform_so_far-uniform.ensures, c.ok_verdict-none.ensures) state }

pub returns : goal.returns
returns c =
    let s = c.args.s.now in
    told (least_for c.args.rule) (type_inner s.types.now) (rows_in s.before.rows.now) s.before.i s.part.count s.span s.part.words.now c.members_of.result c.members_of.ensures
