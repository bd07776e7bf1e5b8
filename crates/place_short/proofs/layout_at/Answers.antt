use Rattle.std.proofs.Common.{rules, Err, ◌≡◌, ap}
use Rattle.ir_records.specs.Refusal.{outcome_of}
use Rattle.ir_records.proofs.RefusalLaws.{judged_at_type}
use Rattle.place_short.proofs.RefusedLaws.{stopped, unwritten}
use mathlib.Core.Path.{refl, sym, ◌∙◌}
use Rattle.ir_records.specs.Fields.{record_at}
use Rattle.ir_records.proofs.TableLaws.{all_ok}
use Rattle.ir_records.proofs.RecordLaws.{record_bounds}
use Rattle.place_short.specs.Serving.{laid_from}
use Rattle.place_short.proofs.layout_at.Goals as goal

pub layout_of-judged-requires : goal.layout_of-judged-requires
layout_of-judged-requires c = let a = c.args in rw c.type_inner-inner.ensures (record_bounds a.arena.types.now a.arena.members.now a.i (all_ok (record_at a.arena.types.now a.arena.members.now) a.arena.n a.arena.in_order a.i c.requires.of_these).1)

pub returns : goal.returns
unfolding laid_from
returns c =
    let r = c.layout_of-judged.result in
    let made = judged_at_type r c.args.i c.in_ok-layout.layout (sym c.at_type.ensures ∙ c.in_ok-layout.was) in
    let laid = sym (rw (made, c.type_inner-inner.ensures, c.struct_members-part.ensures) at c.layout_of-judged.ensures) in
    record { value = rw laid refl; words_after = rw laid c.put_three.ensures }

pub returns-in_err-layout : goal.returns-in_err-layout
unfolding laid_from
returns-in_err-layout c =
    let r = c.layout_of-judged.result in
    let same : c.from_residual.result ≡ Err c.in_err-layout.field-0.0 = search rules in
    let met = sym c.at_type.ensures ∙ c.in_err-layout.was in
    let laid = rw (c.type_inner-inner.ensures, c.struct_members-part.ensures) at c.layout_of-judged.ensures in
    record {
      value = ap outcome_of same ∙ rw (← laid) (stopped r c.args.i c.in_err-layout.field-0.0 _ met);
      words_after = rw (← laid) (sym (unwritten r c.args.i c.in_err-layout.field-0.0 _ met _ _));
    }
