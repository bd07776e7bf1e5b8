use Rattle.std.proofs.Common.{rules}
use mathlib.Core.Path.{refl}
use native.Mathlib.Omega.{arith}
use lib.ListN.{length}
use Rattle.ir_records.proofs.RefusalLaws.{refused_lengths}
use Rattle.ir_records.proofs.RecordLaws.{tables_fitting}
use Rattle.proc_layouter.specs.Layouter.{layout_answer, layout_words}
use Rattle.proc_layouter.proofs.layout.Goals as goal

pub overflow_cast-n : goal.overflow_cast-n
overflow_cast-n c = let a = c.args in let f = tables_fitting (length a.types.now) (length a.members.now) (length a.rows.now) c.in_ok-tables_fit.ensures in omega arith

pub layout_tables-requires : goal.layout_tables-requires
layout_tables-requires c = let a = c.args in let f = tables_fitting (length a.types.now) (length a.members.now) (length a.rows.now) c.in_ok-tables_fit.ensures in record { n_in_bounds = rw c.type_count-n.ensures f.rows; n_value = c.type_count-n.ensures }

pub returns-in_err-tables_fit : goal.returns-in_err-tables_fit
unfolding layout_answer layout_words
returns-in_err-tables_fit c =
    let unfit = c.in_err-tables_fit.ensures in
    record { value = rw (unfit.1) (refused_lengths _ _ (search rules) unfit.0); rows_after = rw (unfit.1) refl }

pub returns : goal.returns
unfolding layout_answer layout_words
returns c =
    let fits = c.in_ok-tables_fit.ensures in
    let answer = c.layout_tables.ensures.value in
    record { value = rw fits answer; rows_after = rw fits (rw (← answer) (rw c.type_count-n.ensures at c.layout_tables.ensures.rows_after)) }
