-- `sheet_verdicts::put_run` meets its contract: its last slot after the first, where that is another one. Assumes nothing.
use Rattle.std.specs.Prelude.{◌++◌}
use borrow.Author.Tests.{ne_eqb, eq-eqb}
use Rattle.program_output.specs.Bytes.{ascii, decimal}
use Rattle.sheet_output.specs.Written.{Writes}
use Rattle.sheet_output.proofs.WritesLaws.{writes_both, writes_bare}
use Rattle.sheet_verdicts.proofs.put_run.Goals as goal

pub returns-then-k-last : goal.returns-then-k-last
returns-then-k-last g c =
    let k = g.W.Write.contents in
    let a = c.args in
    let b = c.run_last-last.result in
    let first : Writes k a.out.now (ascii " " ++ decimal a.k) c.put_with.new.self = writes_bare k (rw c.from.ensures at c.put_with.ensures) in
    let last : Writes k c.put_with.new.self (ascii "-" ++ decimal b) c.put_with-then-k-last.new.self =
    writes_bare k (rw c.from-then-k-last.ensures at c.put_with-then-k-last.ensures) in
    rw (← c.run_last-last.ensures, ne_eqb a.k b c.if-k-last.true) (writes_both k first last)

pub returns-else-k-last : goal.returns-else-k-last
returns-else-k-last g c =
    rw (← c.run_last-last.ensures, eq-eqb c.args.k c.run_last-last.result c.if-k-last.false) (rw c.from.ensures at c.put_with.ensures)
