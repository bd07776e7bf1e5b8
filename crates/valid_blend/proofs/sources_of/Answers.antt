-- `valid_blend::sources_of` meets its contract. The invariant: the blend sources of the first j members pass.
-- Assumes nothing.
use Rattle.std.proofs.Common.{rules, Err, ◌≡◌}
use mathlib.Core.Path.{refl, sym, ◌∙◌, ap}
use native.Mathlib.Nat.{le_antisymm}
use Rattle.valid_flags.specs.Flags.{bit}
use Rattle.valid_width.specs.Width.{dual_source_blending}
use Rattle.valid_blend.specs.Blend.{sources_after}
use Rattle.ir_records.specs.Refusal.{judged}
use Rattle.valid_blend.proofs.BlendLaws.{source_passes, source_stops}
use Rattle.valid_blend.proofs.sources_of.Goals as goal

pub loop-j-init : goal.loop-j-init
unfolding sources_after
loop-j-init c = refl

pub loop-j-preserved : goal.loop-j-preserved
loop-j-preserved c =
    let l = c.loop-j in
    let a = c.args in
    source_passes (bit a.capabilities dual_source_blending) a.part.now l.j l.invariant (sym c.source_of.ensures ∙ ap judged c.in_ok-source_of.was)

pub returns-in_err-source_of : goal.returns-in_err-source_of
returns-in_err-source_of c =
    let l = c.loop-j in
    let a = c.args in
    let same : c.from_residual.result ≡ Err c.in_err-source_of.field-0.0 = search rules in
    ap judged same ∙ sym (source_stops (bit a.capabilities dual_source_blending) a.part.now l.j l.invariant (sym c.source_of.ensures ∙ ap judged c.in_err-source_of.was) a.n c.loop-j-test.true)

pub returns : goal.returns
returns c = let l = c.loop-j in rw (le_antisymm l.auto.j-end c.loop-j-test.false) at (sym l.invariant)
