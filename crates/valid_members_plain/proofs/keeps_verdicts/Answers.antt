use mathlib.Core.Path.{refl}
use Rattle.valid_type_info.specs.TypeInfo.{rows_in}
use Rattle.valid_members_plain.proofs.keeps_verdicts.Goals as goal

pub returns-then-word : goal.returns-then-word
unfolding rows_in
returns-then-word c =
    let test = rw (c.word-3.ensures, c.word-2.ensures, c.word.ensures) at c.if-word.true in
    rw (test, c.is_masked-then-word.ensures, c.word-then-word-2.ensures, c.is_masked.ensures, c.word-then-word.ensures) refl

pub returns : goal.returns
unfolding rows_in
returns c =
    let test = rw (c.word-3.ensures, c.word-2.ensures, c.word.ensures) at c.if-word.false in
    rw test refl
