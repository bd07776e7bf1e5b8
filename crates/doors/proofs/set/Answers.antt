-- `doors::set` meets its contract: an accepted step writes the pass. Assumes nothing.
use Rattle.std.proofs.Common.{◌≡◌, ◌∙◌, rules}
use Rattle.std.specs.Prelude.{Err}
use Rattle.immediates_pass.specs.Pass.{SetRange}
use Rattle.doors.proofs.StepLaws.{accepted, refused, short}
use Rattle.doors.proofs.set.Goals as goal

pub returns-in_err-before : goal.returns-in_err-before
returns-in_err-before c =
    let a = c.args in
    let r = c.in_err-before.field-0.0 in
    let same : c.from_residual.result ≡ Err r = search rules in
    let no = rw c.in_err-before.was at c.pass_of.ensures in
    let told = short a.pass.now (SetRange a.offset a.size) no.0 in
    rw (same, no.1) record { value = told.0; pass_after = told.1 }

pub returns-in_err-after : goal.returns-in_err-after
returns-in_err-after c =
    let a = c.args in
    let r = c.in_err-after.field-0.0 in
    let same : c.from_residual-in_err-after.result ≡ Err r = search rules in
    let p = rw c.in_ok-before.was at c.pass_of.ensures in
    let told = refused a.pass.now (SetRange a.offset a.size) c.in_ok-before.before p.0 p.1 r (rw c.in_err-after.was at c.set_range.ensures) in
    rw same record { value = told.0; pass_after = told.1 }

pub returns : goal.returns
returns c =
    let a = c.args in
    let p = rw c.in_ok-before.was at c.pass_of.ensures in
    let told = accepted a.pass.now (SetRange a.offset a.size) c.in_ok-before.before p.0 p.1 c.in_ok-after.after (rw c.in_ok-after.was at c.set_range.ensures) in
    record { value = told.0; pass_after = c.put_pass.ensures ∙ told.1 }
