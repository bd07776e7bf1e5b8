-- `doors::choose` meets its contract: an accepted step writes the pass. Assumes nothing.
use Rattle.std.proofs.Common.{◌≡◌, ◌∙◌, refl, sym, rules}
use borrow.Author.Tests.{le-leb, lt-leb}
use Rattle.std.specs.Prelude.{Err}
use Rattle.ir_records.specs.Refusal.{refusal}
use Rattle.ir_records.specs.declared.Fault.TheVariants.{TableLength}
use Rattle.immediates_pass.specs.Pass.{Choose}
use Rattle.valid_rule_word.specs.RuleWord.{capabilities_by}
use Rattle.valid_rule_word.proofs.WordLaws.{known_rule, known_capabilities}
use Rattle.doors_words.specs.Words.{pass_rows}
use Rattle.doors.proofs.OtherRuleProof.{other_rule}
use Rattle.doors.proofs.StepLaws.{accepted, refused, short, choice_refused}
use Rattle.doors.proofs.choose.Goals as goal

pub returns-in_err-before : goal.returns-in_err-before
unfolding pass_rows
returns-in_err-before c =
    let a = c.args in
    let r = c.in_err-before.field-0.0 in
    let same : c.from_residual.result ≡ Err r = search rules in
    let no = rw c.in_err-before.was at c.pass_of.ensures in
    let told = short a.pass.now (Choose (capabilities_by a.rule a.capabilities) a.types.now a.members.now a.rows.now a.ty) no.0 in
    rw (same, no.1) record { value = told.0; rows_after = rw (lt-leb 3 _ no.0) refl; pass_after = told.1 }

pub returns-in_err-by : goal.returns-in_err-by
unfolding pass_rows
returns-in_err-by c =
    let a = c.args in
    let r = c.in_err-by.field-0.0 in
    let same : c.from_residual-in_err-by.result ≡ Err r = search rules in
    let p = rw c.in_ok-before.was at c.pass_of.ensures in
    let by = capabilities_by a.rule a.capabilities in
    let w = other_rule a.rule a.capabilities c.in_err-by.ensures.1 a.types.now a.members.now a.rows.now in
    let told = refused a.pass.now (Choose by a.types.now a.members.now a.rows.now a.ty) c.in_ok-before.before p.0 p.1 (refusal TableLength 0 0 0) (choice_refused c.in_ok-before.before by a.types.now a.members.now a.rows.now a.ty (w.choose a.ty)) in
    rw (same, c.in_err-by.ensures.0) record { value = told.0; rows_after = rw (le-leb 3 _ p.0) (sym w.left); pass_after = told.1 }

pub returns-in_err-after : goal.returns-in_err-after
unfolding pass_rows
returns-in_err-after c =
    let a = c.args in
    let r = c.in_err-after.field-0.0 in
    let same : c.from_residual-in_err-after.result ≡ Err r = search rules in
    let p = rw c.in_ok-before.was at c.pass_of.ensures in
    let rule = known_rule c.in_ok-by.by a.rule c.in_ok-by.ensures in
    let known = known_capabilities c.in_ok-by.by a.rule a.capabilities c.in_ok-by.ensures in
    let done = rw (← rule, ← known) at c.choose.ensures in
    let told = refused a.pass.now _ c.in_ok-before.before p.0 p.1 r (rw c.in_err-after.was at done.value) in
    rw same record { value = told.0; rows_after = rw (le-leb 3 _ p.0) done.rows_after; pass_after = told.1 }

pub returns : goal.returns
unfolding pass_rows
returns c =
    let a = c.args in
    let p = rw c.in_ok-before.was at c.pass_of.ensures in
    let rule = known_rule c.in_ok-by.by a.rule c.in_ok-by.ensures in
    let known = known_capabilities c.in_ok-by.by a.rule a.capabilities c.in_ok-by.ensures in
    let done = rw (← rule, ← known) at c.choose.ensures in
    let told = accepted a.pass.now _ c.in_ok-before.before p.0 p.1 c.in_ok-after.after (rw c.in_ok-after.was at done.value) in
    record { value = told.0; rows_after = rw (le-leb 3 _ p.0) done.rows_after; pass_after = c.put_pass.ensures ∙ told.1 }
