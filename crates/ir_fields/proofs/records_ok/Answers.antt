use Rattle.std.proofs.Common.{rules, Err, ◌≡◌, ◌∙◌, sym, ap, add-one}
use Rattle.ir_records.specs.Fields.{record_at}
use Rattle.ir_records.specs.Table.{outcome_at, first_refusal}
use Rattle.ir_records.specs.Outcome.{Accepted}
use Rattle.ir_records.specs.Refusal.{outcome_of}
use Rattle.ir_records.proofs.RefusalLaws.{outcome_at_type, first_refused}
use Rattle.ir_fields.proofs.records_ok.Goals as goal

pub returns-in_err-at_type : goal.returns-in_err-at_type
returns-in_err-at_type c =
    let f = record_at c.args.types.now c.args.members.now in
    let first : outcome_of {A = Unit {0}} (Err c.in_err-at_type.field-0.0) ≡ first_refusal f c.args.n =
    first_refused f c.args.n c.loop-i.i c.loop-i.invariant c.loop-i-test.true c.record_at.result c.record_at.ensures c.in_err-at_type.field-0.0 (sym c.at_type.ensures ∙ c.in_err-at_type.was) in
    let same : c.from_residual.result ≡ Err c.in_err-at_type.field-0.0 = search rules in
    ap outcome_of same ∙ first

pub loop-i-preserved : goal.loop-i-preserved
loop-i-preserved c =
    let f = record_at c.args.types.now c.args.members.now in
    let i = c.loop-i.i in
    let accepted : outcome_at i (f i) ≡ Accepted =
    sym (outcome_at_type c.record_at.result i ∙ ap (outcome_at i) c.record_at.ensures) ∙ ap outcome_of (sym c.at_type.ensures ∙ c.in_ok-at_type.was) in
    rw (add-one, c.loop-i.invariant) accepted
