use Rattle.std.proofs.Common.{rules, Err, ◌≡◌}
use mathlib.Core.Path.{refl, sym, ◌∙◌}
use borrow.Author.Tests.{ne_eqb}
use Rattle.ir_records.specs.Record.{member_source}
use Rattle.ir_records.proofs.ResultLaws.{passed, refused_first}
use Rattle.valid_flags.specs.Flags.{bit}
use Rattle.valid_width.specs.Width.{dual_source_blending}
use Rattle.valid_blend.proofs.BlendLaws.{source_met, source_unmet}
use Rattle.valid_blend.specs.Blend.{source_result}
use Rattle.valid_blend.proofs.source_of.Goals as goal

pub returns-then-word-eq0 : goal.returns-then-word-eq0
unfolding source_result
returns-then-word-eq0 c = rw (sym c.member_source-word.ensures ∙ c.if-word-eq0.true) refl

pub returns-in_err-require_type_capability : goal.returns-in_err-require_type_capability
unfolding source_result
returns-in_err-require_type_capability c =
    let a = c.args in
    let some = ne_eqb (member_source a.part.now a.j) 0 (λ e. c.if-word-eq0.false (c.member_source-word.ensures ∙ e)) in
    let refused : c.from_residual.result ≡ Err c.in_err-require_type_capability.field-0.0 = search rules in
    rw (some, refused) (refused_first _ 8 0 dual_source_blending _ _ _ _ (rw c.in_err-require_type_capability.was at c.require_type_capability.ensures))

pub returns-then-not-location-word : goal.returns-then-not-location-word
unfolding source_result
returns-then-not-location-word c =
    let a = c.args in
    let dual = passed (bit a.capabilities dual_source_blending) 8 0 dual_source_blending (rw c.in_ok-require_type_capability.was at c.require_type_capability.ensures) in
    let some = ne_eqb (member_source a.part.now a.j) 0 (λ e. c.if-word-eq0.false (c.member_source-word.ensures ∙ e)) in
    let good = rw (c.member_location-location.ensures, c.member_source-word.ensures) at (c.if-not-location-word.true) in
    rw (some, dual, good, c.into.ensures) refl

pub returns-then-is_some : goal.returns-then-is_some
unfolding source_result
returns-then-is_some c =
    let a = c.args in
    let dual = passed (bit a.capabilities dual_source_blending) 8 0 dual_source_blending (rw c.in_ok-require_type_capability.was at c.require_type_capability.ensures) in
    let some = ne_eqb (member_source a.part.now a.j) 0 (λ e. c.if-word-eq0.false (c.member_source-word.ensures ∙ e)) in
    let good = rw (c.member_location-location.ensures, c.member_source-word.ensures) at (c.if-not-location-word.false) in
    let there = rw c.member_source-word.ensures at c.source_at.ensures in
    let met = rw there at (source_met c.source_at.result (sym c.is_some.ensures ∙ c.if-is_some.true)) in
    rw (some, dual, good, met, c.into-then-is_some.ensures) refl

pub returns : goal.returns
unfolding source_result
returns c =
    let a = c.args in
    let dual = passed (bit a.capabilities dual_source_blending) 8 0 dual_source_blending (rw c.in_ok-require_type_capability.was at c.require_type_capability.ensures) in
    let some = ne_eqb (member_source a.part.now a.j) 0 (λ e. c.if-word-eq0.false (c.member_source-word.ensures ∙ e)) in
    let good = rw (c.member_location-location.ensures, c.member_source-word.ensures) at (c.if-not-location-word.false) in
    let there = rw c.member_source-word.ensures at c.source_at.ensures in
    let none = rw there at (source_unmet c.source_at.result (sym c.is_some.ensures ∙ c.if-is_some.false)) in
    rw (some, dual, good, none) refl
