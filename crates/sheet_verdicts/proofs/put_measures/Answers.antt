-- `sheet_verdicts::put_measures` meets its contract: one after the other. Assumes nothing.
use mathlib.Core.Path.{sym, ◌∙◌}
use Rattle.std.specs.Prelude.{[], ◌++◌}
use Rattle.ir_records.specs.Result.{pick}
use Rattle.ir_rows.specs.Rows.{row_word}
use Rattle.valid_flags.specs.Flags.{bit, sized_bit}
use Rattle.program_output.specs.Bytes.{ascii, decimal}
use Rattle.sheet_output.specs.Written.{Writes}
use Rattle.sheet_output.proofs.WritesLaws.{writes_none, writes_both, writes_bare}
use Rattle.sheet_verdicts.proofs.put_measures.Goals as goal
use Rattle.sheet_verdicts.proofs.put_measures.Goals.{then-not-is_sized, else-not-is_sized}

pub returns : goal.returns
returns g c =
    let k = g.W.Write.contents in
    let row = row_word c.args.t.sheet.rows.now c.args.t.i in
    let size : Writes k c.args.out.now (ascii "size " ++ decimal (row 0)) c.put_with.new.self =
    writes_bare k (rw (c.from.ensures, c.size.ensures) at c.put_with.ensures) in
    let alignment : Writes k c.if-not-is_sized.out (ascii ", alignment " ++ decimal (row 1)) c.put_with-2.new.self =
    writes_bare k (rw (c.from-2.ensures, c.alignment.ensures) at c.put_with-2.ensures) in
    let sized = bit (row 2) sized_bit in
    let element : Writes k c.put_with.new.self (pick sized [] (ascii " with one element")) c.if-not-is_sized.out = elim c.if-not-is_sized.branch [
      | then-not-is_sized w ↦ rw (w.out-is, sym c.is_sized.ensures ∙ w.if-not-is_sized.true) w.put_text.ensures
      | else-not-is_sized w ↦ rw (w.out-is, sym c.is_sized.ensures ∙ w.if-not-is_sized.false) (writes_none k _)
    ] in
    writes_both k (writes_both k size element) alignment
