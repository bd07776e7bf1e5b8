-- `sheet_rust::put_ends` meets its contract. The invariant: the ends of the arrays so far are written. Assumes nothing.
use Rattle.std.specs.Prelude.{map}
use Rattle.sheet_output.specs.Written.{Writes}
use Rattle.sheet_rust.specs.Text.{closes_text}
use Rattle.sheet_rust.proofs.put_ends.Given as goal

abbrev pub invariant-loop-n : goal.invariant-loop-n
invariant-loop-n g l = Writes (g.W.Write.contents) l.initial.out (closes_text (map (λ n. n.now) l.yielded)) l.out
