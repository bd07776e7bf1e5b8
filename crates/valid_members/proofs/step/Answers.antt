use mathlib.Core.Path.{sym, ◌∙◌}
use native.Mathlib.Numerals.{add-one}
use Rattle.ir_records.specs.Record.{type_inner}
use Rattle.valid_type_info.specs.TypeInfo.{rows_in}
use Rattle.valid_type_info.specs.Verdict.{least_for}
use Rattle.valid_members.proofs.StateLaws.{state_step}
use Rattle.valid_members.proofs.step.Goals as goal

pub member-requires : goal.member-requires
member-requires c = rw (← c.type_of.ensures) at (c.args.s.now.members_earlier c.args.at.taken c.requires.in_part)

pub returns : goal.returns
returns c =
    let a = c.args in
    let one = rw (c.type_of.ensures, c.offset_of.ensures) at c.member.ensures in
    rw add-one (one ∙ sym (state_step (least_for a.rule) (type_inner a.s.now.types.now) (rows_in a.s.now.before.rows.now) a.s.now.before.i a.s.now.part.count a.s.now.span a.s.now.part.words.now a.at.taken a.at.state c.requires.so_far))
