-- `sheet_bytes::in_leaf` meets its contract: the steps find what the definition finds. Assumes nothing.
use mathlib.Core.Path.{sym, ◌∙◌, ap, subst}
use Prim.Native.Nat.{◌-◌}
use Rattle.std.proofs.Common.{rules}
use Rattle.sheet_bytes.specs.Leaf.{step_of, held_within, StepIs}
use Rattle.sheet_bytes.proofs.LeafLaws.{match_by, turns_left, found_last}
use Rattle.sheet_bytes.proofs.in_leaf.Goals as goal

pub returns : goal.returns
returns c =
    let ran = c.try_fold.ensures.ran in
    let rest = ran.4.0.end - ran.4.0.start in
    let b = ran.3 in
    let left = turns_left _ (λ p x q k. search rules) ran.0 _ ran.4.0 _ _ ran.4.1 ran.5 in
    let last = found_last ran.4.0 _ ran.1 b c.try_fold.result ran.4.2 (match_by _ _ _ ran.1 (λ x w.
    let step : StepIs b.of.sheet (step_of b.of.sheet b.of.i b.at) w.0 = search rules in
    (w.2.0, w.5, subst (λ v. StepIs b.of.sheet (step_of b.of.sheet b.of.i b.at) v) w.4 step)) ran.6) in
    rw (c.unwrap_or.ensures, c.break_value.ensures.value) (last ∙ ap (λ s. held_within s rest b.of.i b.at) left.sheet ∙ sym left.found)
