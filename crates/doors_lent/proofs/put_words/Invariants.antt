-- `doors_lent::put_words` meets its contract. The invariant: the numbers that the words so far are. Assumes nothing.
use mathlib.Core.List.{List}
use Prim.Native.Nat.{ℕ}
use lib.ListN.{take}
use Rattle.std.specs.List.{AllZip}
use Rattle.std.specs.Io.KnownBytes.{Appends}
use Rattle.doors_lent.specs.Printed.{numbers_text}
use Rattle.doors_lent.proofs.put_words.Given as goal

abbrev pub invariant-loop-word : goal.invariant-loop-word
invariant-loop-word g l =
    (ns : List ℕ)
    × AllZip g.T.Into.converts (take l.word-index l.words) ns
    × Appends (g.W.Write.contents l.initial.to) (g.W.Write.contents l.to) (numbers_text ns)
