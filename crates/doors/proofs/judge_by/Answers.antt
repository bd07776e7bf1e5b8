-- `doors::judge_by` meets its contract: a word of no rule is number 1. Assumes nothing.
use Rattle.std.proofs.Common.{◌≡◌, sym, rules}
use Rattle.std.specs.Prelude.{Err}
use Rattle.valid_rule_word.proofs.WordLaws.{known_rule, known_capabilities}
use Rattle.doors.proofs.OtherRuleProof.{other_rule}
use Rattle.doors.proofs.judge_by.Goals as goal

pub returns : goal.returns
returns c =
    let a = c.args in
    let rule = known_rule c.in_ok-by.by a.rule c.in_ok-by.ensures in
    let known = known_capabilities c.in_ok-by.by a.rule a.capabilities c.in_ok-by.ensures in
    rw (rule, known) c.judge.ensures

pub returns-in_err-by : goal.returns-in_err-by
returns-in_err-by c =
    let a = c.args in
    let r = c.in_err-by.field-0.0 in
    let same : c.from_residual.result ≡ Err r = search rules in
    let w = other_rule a.rule a.capabilities c.in_err-by.ensures.1 a.types.now a.members.now a.rows.now in
    rw (same, c.in_err-by.ensures.0) record { value = sym (w.answer); rows_after = sym (w.left) }
