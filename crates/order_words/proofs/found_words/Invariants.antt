use mathlib.Core.Path.{◌≡◌}
use Rattle.order_words.proofs.WordLaws.{words_with}
use Rattle.order_words.proofs.found_words.Given as goal

abbrev pub invariant-loop-j : goal.invariant-loop-j
invariant-loop-j l = l.words ≡ words_with l.found.order.n l.found.order.number l.found.ty l.found.span l.j
