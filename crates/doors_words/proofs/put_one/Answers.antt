use mathlib.Core.Path.{sym}
use native.Mathlib.Omega.{arith}
use borrow.Author.Tests.{ltb-false}
use Rattle.doors_words.proofs.StoreLaws.{no_word, one_store}
use Rattle.doors_words.proofs.put_one.Goals as goal

pub returns-in-Some : goal.returns-in-Some
returns-in-Some c = let a = c.args in one_store a.words.now a.a (omega (arith, c.in-Some.ensures.item.3.0))

pub returns-in_default : goal.returns-in_default
returns-in_default c = let a = c.args in no_word a.words.now a.a (omega (arith, ltb-false 0 _ (sym (rw c.in_default.is at c.first_mut.ensures.item.0))))
