-- `program_words::capped` meets its contract. The invariant: n followed by what is left gives the whole, cut down. Assumes nothing.
use mathlib.Core.Path.{◌≡◌}
use Prim.Native.Nat.{◌≤◌, min}
use lib.ListN.{drop}
use Rattle.program_words.specs.Number.{decimal}
use Rattle.program_words.proofs.capped.Given as goal

abbrev pub invariant-loop-b : goal.invariant-loop-b
invariant-loop-b l = (l.n ≤ 4294967296) × (min (decimal l.n (drop l.b-index l.word)) 4294967296 ≡ min (decimal 0 l.word) 4294967296)
