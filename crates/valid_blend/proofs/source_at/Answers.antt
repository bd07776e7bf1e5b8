use mathlib.Core.Path.{◌≡◌, sym, ◌∙◌}
use Prim.Native.Nat.{suc, ◌-◌}
use native.Mathlib.Omega.{arith}
use Rattle.valid_blend.proofs.BlendLaws.{source_found, source_before, source_none}
use Rattle.valid_blend.proofs.source_at.Goals as goal

pub returns-then-member_source-word : goal.returns-then-member_source-word
returns-then-member_source-word c =
    let l = c.loop-j in
    let a = c.args in
    let here : suc (l.j - 1) ≡ l.j = omega arith in
    here ∙ sym (l.invariant ∙ source_found a.part.now a.word l.j c.loop-j-test.true (sym c.member_source.ensures ∙ c.if-member_source-word.true))

pub loop-j-preserved : goal.loop-j-preserved
loop-j-preserved c =
    let l = c.loop-j in
    let a = c.args in
    l.invariant ∙ source_before a.part.now a.word l.j c.loop-j-test.true (λ e. c.if-member_source-word.false (c.member_source.ensures ∙ e))

pub returns : goal.returns
returns c =
    let l = c.loop-j in
    let a = c.args in
    sym (l.invariant ∙ source_none a.part.now a.word l.j c.loop-j-test.false)
