use Rattle.std.proofs.Common.{rules}
use mathlib.Core.Path.{refl}
use native.Mathlib.Omega.{arith}
use lib.ListN.{length}
use Rattle.ir_records.proofs.RecordLaws.{tables_fitting}
use Rattle.ir_records.proofs.RefusalLaws.{refused_lengths}
use Rattle.valid_arena.specs.Arena.{arena_answer, arena_words}
use Rattle.valid_arena.proofs.judge.Goals as goal

pub overflow_cast-n : goal.overflow_cast-n
overflow_cast-n c =
    let a = c.args in
    let f = tables_fitting (length a.types.now) (length a.members.now) (length a.rows.now) c.in_ok-tables_fit.ensures in
    omega arith

pub judge_tables-requires : goal.judge_tables-requires
judge_tables-requires c = record { n_value = c.type_count-n.ensures; rows_value = c.in_ok-tables_fit.ensures }

pub returns-in_err-capabilities_known : goal.returns-in_err-capabilities_known
unfolding arena_answer arena_words
returns-in_err-capabilities_known c =
    let unknown = c.in_err-capabilities_known.ensures in
    record { value = rw (unknown.1) (refused_lengths _ _ (search rules) unknown.0); rows_after = rw (unknown.1) refl }

pub returns-in_err-tables_fit : goal.returns-in_err-tables_fit
unfolding arena_answer arena_words
returns-in_err-tables_fit c =
    let known = c.in_ok-capabilities_known.ensures in
    let unfit = c.in_err-tables_fit.ensures in
    record { value = rw (known, unfit.1) (refused_lengths _ _ (search rules) unfit.0); rows_after = rw (known, unfit.1) refl }

pub returns : goal.returns
unfolding arena_answer arena_words
returns c =
    let known = c.in_ok-capabilities_known.ensures in
    let fits = c.in_ok-tables_fit.ensures in
    let answer = c.judge_tables.ensures.value in
    record { value = rw (known, fits) answer; rows_after = rw (known, fits) (rw (← answer) (rw c.type_count-n.ensures at c.judge_tables.ensures.rows_after)) }
