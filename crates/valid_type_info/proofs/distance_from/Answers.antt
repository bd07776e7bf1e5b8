-- `valid_type_info::distance_from` meets its contract: each answer follows from the tests on the way, in the order of the definition. Assumes nothing.
use Rattle.std.proofs.Common.{◌+◌, ◌<◌, ◌≤◌}
use mathlib.Core.Path.{refl, sym}
use native.Mathlib.Omega.{arith}
use borrow.Author.Tests.{le-leb, lt-leb}
use Rattle.proc_alignment.proofs.RoundLaws.{sum_within, sum_over}
use Rattle.valid_type_info.specs.Verdict.{distance_ok}
use Rattle.valid_type_info.proofs.DistanceLaws.{distance_enough, distance_short, converted, not_converted}
use Rattle.valid_type_info.proofs.distance_from.Goals as goal

pub returns-in_err-diff-clause-within : goal.returns-in_err-diff-clause-within
unfolding distance_ok
returns-in_err-diff-clause-within c =
    let before : c.args.offset < c.args.previous.offset = omega (arith, c.in_err-diff.ensures) in
    rw (lt-leb _ _ before, c.from_residual.ensures) refl

pub returns-in_err-min-clause-within : goal.returns-in_err-min-clause-within
unfolding distance_ok
returns-in_err-min-clause-within c =
    let over = not_converted _ _ _ c.try_from.ensures c.in_err-min.ensures.value in
    let wide : 4294967295 < c.round_up.result = omega (arith, over) in
    rw (le-leb _ _ c.in_ok-diff.ensures.0, sum_over _ (rw c.round_up.ensures at wide), c.from_residual-in_err-min.ensures) refl

pub returns-then-min-diff-clause-within : goal.returns-then-min-diff-clause-within
unfolding distance_ok
returns-then-min-diff-clause-within c =
    let kept = converted _ _ _ _ c.try_from.ensures c.in_ok-min.ensures.value in
    let narrow : c.round_up.result ≤ 4294967295 = omega (arith, kept.0) in
    let enough = le-leb _ _ (rw (kept.1, c.round_up.ensures, c.in_ok-diff.ensures.1) at c.if-min-diff.true) in
    rw (le-leb _ _ c.in_ok-diff.ensures.0, sum_within _ (rw c.round_up.ensures at narrow), enough) refl

pub returns-then-min-diff-clause-verdict : goal.returns-then-min-diff-clause-verdict
returns-then-min-diff-clause-verdict c =
    let kept = converted _ _ _ _ c.try_from.ensures c.in_ok-min.ensures.value in
    let enough = le-leb _ _ (rw (kept.1, c.round_up.ensures, c.in_ok-diff.ensures.1) at c.if-min-diff.true) in
    λ rule i j v e. sym (distance_enough rule i j _ _ _ v enough)

pub returns-in_err-expected-clause-within : goal.returns-in_err-expected-clause-within
unfolding distance_ok
returns-in_err-expected-clause-within c =
    let kept = converted _ _ _ _ c.try_from.ensures c.in_ok-min.ensures.value in
    let narrow : c.round_up.result ≤ 4294967295 = omega (arith, kept.0) in
    let short = lt-leb _ _ (rw (kept.1, c.round_up.ensures, c.in_ok-diff.ensures.1) at c.if-min-diff.false) in
    let over : 4294967295 < c.args.previous.offset + c.in_ok-min.min = omega (arith, c.in_err-expected.ensures) in
    rw (le-leb _ _ c.in_ok-diff.ensures.0, sum_within _ (rw c.round_up.ensures at narrow), short, lt-leb _ 4294967295 (rw (kept.1, c.round_up.ensures) at over), c.from_residual-in_err-expected.ensures) refl

pub returns-clause-within : goal.returns-clause-within
unfolding distance_ok
returns-clause-within c =
    let kept = converted _ _ _ _ c.try_from.ensures c.in_ok-min.ensures.value in
    let narrow : c.round_up.result ≤ 4294967295 = omega (arith, kept.0) in
    let short = lt-leb _ _ (rw (kept.1, c.round_up.ensures, c.in_ok-diff.ensures.1) at c.if-min-diff.false) in
    let fits : c.args.previous.offset + c.in_ok-min.min ≤ 4294967295 = omega (arith, c.in_ok-expected.ensures.0) in
    rw (le-leb _ _ c.in_ok-diff.ensures.0, sum_within _ (rw c.round_up.ensures at narrow), short, le-leb _ 4294967295 (rw (kept.1, c.round_up.ensures) at fits)) refl

pub returns-clause-verdict : goal.returns-clause-verdict
returns-clause-verdict c =
    let kept = converted _ _ _ _ c.try_from.ensures c.in_ok-min.ensures.value in
    let short = lt-leb _ _ (rw (kept.1, c.round_up.ensures, c.in_ok-diff.ensures.1) at c.if-min-diff.false) in
    λ rule i j v e. rw (c.in_ok-expected.ensures.1, kept.1, c.round_up.ensures) (distance_short rule i j _ _ _ v short)
