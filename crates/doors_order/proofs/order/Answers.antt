-- `doors_order::order` meets its contract: a word of no rule is number 1. Assumes nothing.
use Rattle.std.proofs.Common.{◌≡◌, refl, rules}
use Rattle.std.specs.Prelude.{Err}
use Rattle.valid_rule_word.specs.RuleWord.{rule_of}
use Rattle.valid_rule_word.proofs.WordLaws.{known_rule, known_capabilities}
use Rattle.doors_order.proofs.OrderLaws.{order_unknown}
use Rattle.doors_order.proofs.order.Goals as goal

pub returns : goal.returns
returns c =
    let a = c.args in
    let rule = known_rule c.in_ok-by.by a.rule c.in_ok-by.ensures in
    let known = known_capabilities c.in_ok-by.by a.rule a.capabilities c.in_ok-by.ensures in
    rw (rule, known) c.order.ensures

pub returns-in_err-by : goal.returns-in_err-by
returns-in_err-by c =
    let a = c.args in
    let r = c.in_err-by.field-0.0 in
    let same : c.from_residual.result ≡ Err r = search rules in
    let other = c.in_err-by.ensures.1 in
    rw (same, c.in_err-by.ensures.0, order_unknown a.rule a.capabilities other (rule_of a.rule) a.types.now a.n a.members.now a.m a.rows.now a.wanted.now a.span)
    record { places = tt; value = refl; types_after = refl; members_after = refl; rows_after = refl }
