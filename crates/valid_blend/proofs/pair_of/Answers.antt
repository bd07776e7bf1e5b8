use mathlib.Core.Path.{refl, sym, ◌∙◌}
use Rattle.valid_blend.proofs.pair_of.Goals as goal

pub returns-then-other_location : goal.returns-then-other_location
returns-then-other_location c = λ before own. rw (sym c.other_location.ensures ∙ c.if-other_location.true, c.into.ensures) refl

pub returns : goal.returns
returns c =
    let other = sym c.other_location.ensures ∙ c.if-other_location.false in
    let same = rw (c.member_type-t.ensures, c.member_type-s.ensures) at (sym c.same_type.ensures ∙ c.if-not-same_type.false) in
    let shareable = sym c.is_io_shareable.ensures ∙ c.if-not-is_io_shareable.false in
    λ before own. rw (other, same, own, shareable) refl
