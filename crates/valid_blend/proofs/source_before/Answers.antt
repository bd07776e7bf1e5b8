use mathlib.Core.Path.{sym}
use native.Mathlib.Omega.{arith}
use Rattle.ir_records.specs.Refusal.{number_of}
use Rattle.valid_flags.specs.Flags.{bit}
use Rattle.valid_width.specs.Width.{dual_source_blending}
use Rattle.valid_blend.specs.Serving.{sources_before}
use Rattle.valid_blend.proofs.BlendLaws.{before_within, no_sources}
use Rattle.valid_blend.proofs.source_before.Goals as goal

pub returns-then-not-sourced : goal.returns-then-not-sourced
returns-then-not-sourced c =
    let a = c.args in
    let p = c.requires in
    let number = number_of a.refusal.fault in
    sym (no_sources (bit a.capabilities dual_source_blending) a.part.now (sources_before number a.refusal.member)
    (λ j h. p.sourceless (c.if-not-sourced.true) j (omega (arith, h, p.member_words_in_bounds, before_within number a.refusal.member))))
