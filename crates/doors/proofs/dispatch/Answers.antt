-- `doors::dispatch` meets its contract: the slots that are missing are told where a dispatch is tried. Assumes nothing.
use Rattle.std.proofs.Common.{◌≡◌, ◌∙◌, ap, rules}
use Rattle.std.specs.Prelude.{Err}
use Rattle.immediates_pass.specs.Pass.{Tried, Dispatch}
use Rattle.doors_words.specs.Words.{with_one}
use Rattle.doors.proofs.StepLaws.{short, dispatched_words, one_again}
use Rattle.doors.proofs.dispatch.Goals as goal

pub returns-in_err-before : goal.returns-in_err-before
returns-in_err-before c =
    let a = c.args in
    let r = c.in_err-before.field-0.0 in
    let same : c.from_residual.result ≡ Err r = search rules in
    let no = rw c.in_err-before.was at c.pass_of.ensures in
    let told = short a.pass.now Dispatch no.0 in
    rw (same, no.1) record { value = told.0; missing_after = rw told.2 at c.put_one.ensures }

pub returns : goal.returns
returns c =
    let a = c.args in
    let p = rw c.in_ok-before.was at c.pass_of.ensures in
    let told = dispatched_words a.pass.now c.in_ok-before.before c.dispatch.result p.0 p.1 c.dispatch.ensures in
    let is = rw c.in-Err.is at told in
    let put = rw (c.put_one.ensures, one_again a.missing.now 0 c.in-Err.reason.missing) at c.put_one-2.ensures in
    record { value = rw c.from.ensures (ap (λ (t : Tried). t.outcome) is); missing_after = put ∙ ap (λ (t : Tried). with_one a.missing.now t.missing) is }

pub returns-in_default : goal.returns-in_default
returns-in_default c =
    let a = c.args in
    let p = rw c.in_ok-before.was at c.pass_of.ensures in
    let told = dispatched_words a.pass.now c.in_ok-before.before c.dispatch.result p.0 p.1 c.dispatch.ensures in
    let is = rw c.in_default.is at told in
    record { value = ap (λ (t : Tried). t.outcome) is; missing_after = c.put_one.ensures ∙ ap (λ (t : Tried). with_one a.missing.now t.missing) is }
