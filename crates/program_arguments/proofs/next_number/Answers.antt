-- `program_arguments::next_number` meets its contract: the next word, and the number that it is. Assumes nothing.
use Rattle.std.proofs.Common.{◌≡◌, ◌∙◌, sym, rules}
use Rattle.std.specs.Prelude.{Err}
use Rattle.program_arguments.proofs.ArgumentLaws.{number_next, number_none}
use Rattle.program_arguments.proofs.next_number.Goals as goal

pub returns-in_err-value : goal.returns-in_err-value
returns-in_err-value c =
    let w = rw c.in-Some.is at c.next_word.ensures in
    let r = c.in_err-value.field-0.0 in
    let same : c.from_residual.result ≡ Err r = search rules in
    rw same (λ d left. rw w.2 (number_none _ _ c.args.place d left r (sym (rw c.bytes.ensures at c.number_at.ensures) ∙ c.in_err-value.was)))

pub returns : goal.returns
returns c =
    let w = rw c.in-Some.is at c.next_word.ensures in
    (w.1, λ d left k. rw w.2 (number_next _ _ c.args.place d left c.in_ok-value.value k (sym (rw c.bytes.ensures at c.number_at.ensures) ∙ c.in_ok-value.was)))
