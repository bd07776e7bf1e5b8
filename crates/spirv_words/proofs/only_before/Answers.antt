-- `spirv_words::only_before` meets its contract. Assumes nothing.
use mathlib.Core.Path.{sym}
use Rattle.spirv_words.proofs.SearchLaws.{only_missing, only_one}
use Rattle.spirv_words.proofs.only_before.Goals as goal

pub returns-in_err-place : goal.returns-in_err-place
returns-in_err-place g c = λ test tells.
    let a = c.args in
    rw (c.from_residual.ensures, only_missing a.words.now a.at test (c.in_err-place.ensures test tells))

pub returns-then-is_some : goal.returns-then-is_some
returns-then-is_some g c = λ test tells.
    let a = c.args in
    rw (only_one a.words.now a.at test c.in_ok-place.place (c.in_ok-place.ensures test tells), sym c.word_count.ensures.0, sym (c.first_between-2.ensures test tells), sym c.is_some.ensures, c.if-is_some.true)

pub returns : goal.returns
returns g c = λ test tells.
    let a = c.args in
    rw (only_one a.words.now a.at test c.in_ok-place.place (c.in_ok-place.ensures test tells), sym c.word_count.ensures.0, sym (c.first_between-2.ensures test tells), sym c.is_some.ensures, c.if-is_some.false)
