-- `program_words::stray_in` meets its contract: the first byte that is one. Assumes nothing.
use Rattle.std.proofs.Common.{◌≡◌, ◌∙◌, true, false, rules}
use Rattle.std.specs.Option.{is_some}
use Rattle.std.proofs.lemmas.Iterator.{first_from_Range}
use Rattle.program_words.specs.Stray.{stray_at}
use Rattle.program_words.proofs.StrayLaws.{Found, none_found, first_found}
use Rattle.program_words.proofs.stray_in.Goals as goal

pub stray_at-requires : goal.stray_at-requires
stray_at-requires c =
    let s = c.args.line.now in
    let found : Found s c.find.result = first_from_Range _ _ _ c.find.result (λ k. is_some (stray_at s k) ≡ true) (λ k. is_some (stray_at s k) ≡ false) c.find.ensures.ran (λ x q k. search rules) (λ x q k. search rules) in
    (rw c.in_ok-at.was at found).1

pub returns : goal.returns
returns c =
    let s = c.args.line.now in
    let found : Found s c.find.result = first_from_Range _ _ _ c.find.result (λ k. is_some (stray_at s k) ≡ true) (λ k. is_some (stray_at s k) ≡ false) c.find.ensures.ran (λ x q k. search rules) (λ x q k. search rules) in
    c.stray_at.ensures ∙ first_found s c.in_ok-at.at (rw c.in_ok-at.was at found)

pub returns-in_err-at : goal.returns-in_err-at
returns-in_err-at c =
    let s = c.args.line.now in
    let found : Found s c.find.result = first_from_Range _ _ _ c.find.result (λ k. is_some (stray_at s k) ≡ true) (λ k. is_some (stray_at s k) ≡ false) c.find.ensures.ran (λ x q k. search rules) (λ x q k. search rules) in
    c.from_residual.ensures ∙ none_found s (rw c.in_err-at.was at found)
