use Rattle.immediates_ranges.specs.Slots.{slots_answer_of}
use Rattle.doors_words.proofs.ToldLaws.{slots_or}
use Rattle.doors_words.proofs.StoreLaws.{one_mask, other_masks}
use Rattle.doors_words.proofs.put_masks.Goals as goal

pub returns-then-mask-eq1 : goal.returns-then-mask-eq1
returns-then-mask-eq1 c =
    let a = c.args in
    let told = slots_or a.found _ _ (λ p. p) c.unwrap_or_default-slots.ensures in
    rw told.0 (one_mask a.mask.now (slots_answer_of a.found) c.if-mask-eq1.true)

pub returns-else-mask-eq1 : goal.returns-else-mask-eq1
returns-else-mask-eq1 c =
    let a = c.args in
    let told = slots_or a.found _ _ (λ p. p) c.unwrap_or_default-slots.ensures in
    rw (c.put_front.ensures, told.0, told.1) (other_masks a.mask.now (slots_answer_of a.found) c.if-mask-eq1.false)
