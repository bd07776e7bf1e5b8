use Rattle.std.proofs.Common.{rules, Err, ◌≡◌, ap}
use Rattle.ir_records.specs.Refusal.{outcome_of}
use Rattle.ir_records.proofs.RefusalLaws.{judged_at_type}
use Rattle.place_short.proofs.RefusedLaws.{stopped, unwritten}
use mathlib.Core.Path.{refl, sym, ◌∙◌}
use native.Mathlib.Omega.{arith}
use Rattle.ir_records.specs.Fields.{record_at}
use Rattle.ir_records.proofs.TableLaws.{all_ok}
use Rattle.ir_records.proofs.RecordLaws.{record_bounds}
use Rattle.place_short.specs.Serving.{three_from}
use Rattle.place_short.proofs.RecordParts.{struct_part}
use Rattle.place_short.proofs.judge_at.Goals as goal

pub layout_of-judged-requires : goal.layout_of-judged-requires
layout_of-judged-requires c = let a = c.args in rw c.type_inner-inner.ensures (record_bounds a.arena.types.now a.arena.members.now a.i (all_ok (record_at a.arena.types.now a.arena.members.now) a.arena.n a.arena.in_order a.i c.requires.of_these).1)

pub flags_of-flagged-requires : goal.flags_of-flagged-requires
flags_of-flagged-requires c =
    let a = c.args in
    λ count span e. rw c.struct_members-part.ensures (struct_part a.arena.types.now a.arena.members.now a.i (omega (arith, a.arena.whole, c.requires.of_these)) (all_ok (record_at a.arena.types.now a.arena.members.now) a.arena.n a.arena.in_order a.i c.requires.of_these).1 count span (sym c.type_inner-inner.ensures ∙ e))

pub returns : goal.returns
unfolding three_from
returns c =
    let a = c.args in
    let made = judged_at_type c.layout_of-judged.result a.i c.in_ok-layout.layout (sym c.at_type.ensures ∙ c.in_ok-layout.was) in
    let laid = sym (rw (made, c.type_inner-inner.ensures, c.struct_members-part.ensures) at c.layout_of-judged.ensures) in
    let given = judged_at_type c.flags_of-flagged.result a.i c.in_ok-flags.flags (sym c.at_type-2.ensures ∙ c.in_ok-flags.was) in
    let flagged = sym (rw (given, c.type_inner-inner.ensures, c.struct_members-part.ensures) at c.flags_of-flagged.ensures) in
    record { value = rw (laid, flagged) refl; words_after = rw (laid, flagged) c.put_three.ensures }

pub returns-in_err-flags : goal.returns-in_err-flags
unfolding three_from
returns-in_err-flags c =
    let a = c.args in
    let made = judged_at_type c.layout_of-judged.result a.i c.in_ok-layout.layout (sym c.at_type.ensures ∙ c.in_ok-layout.was) in
    let laid = sym (rw (made, c.type_inner-inner.ensures, c.struct_members-part.ensures) at c.layout_of-judged.ensures) in
    let same : c.from_residual-in_err-flags.result ≡ Err c.in_err-flags.field-0.0 = search rules in
    let met = sym c.at_type-2.ensures ∙ c.in_err-flags.was in
    let flagged = rw (c.type_inner-inner.ensures, c.struct_members-part.ensures) at c.flags_of-flagged.ensures in
    record {
      value = ap outcome_of same ∙ rw (laid, ← flagged) (stopped c.flags_of-flagged.result a.i c.in_err-flags.field-0.0 _ met);
      words_after = rw (laid, ← flagged) (sym (unwritten c.flags_of-flagged.result a.i c.in_err-flags.field-0.0 _ met _ _));
    }

pub returns-in_err-layout : goal.returns-in_err-layout
unfolding three_from
returns-in_err-layout c =
    let r = c.layout_of-judged.result in
    let same : c.from_residual.result ≡ Err c.in_err-layout.field-0.0 = search rules in
    let met = sym c.at_type.ensures ∙ c.in_err-layout.was in
    let laid = rw (c.type_inner-inner.ensures, c.struct_members-part.ensures) at c.layout_of-judged.ensures in
    record {
      value = ap outcome_of same ∙ rw (← laid) (stopped r c.args.i c.in_err-layout.field-0.0 _ met);
      words_after = rw (← laid) (sym (unwritten r c.args.i c.in_err-layout.field-0.0 _ met _ _));
    }
