use mathlib.Core.Path.{sym}
use native.Mathlib.Omega.{arith}
use Rattle.ir_records.specs.Record.{type_inner, Sourceless}
use Rattle.valid_flags.specs.Flags.{bit}
use Rattle.valid_width.specs.Width.{dual_source_blending}
use Rattle.valid_blend.proofs.BlendLaws.{no_sources, no_blend}
use Rattle.valid_blend.proofs.blended_flags.Goals as goal

pub returns-then-not-sourced : goal.returns-then-not-sourced
returns-then-not-sourced g c =
    let a = c.args in
    let p = c.requires in
    let none : Sourceless a.part.words.now a.part.count = λ j h. p.sourceless (c.if-not-sourced.true) j (omega (arith, h, c.args.part.counted)) in
    λ before gives.
    rw (no_sources (bit a.capabilities dual_source_blending) a.part.words.now a.part.count none)
    (sym (no_blend (type_inner a.types.now) before a.part.words.now a.part.count a.flags none))
