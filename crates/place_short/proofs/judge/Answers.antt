use Rattle.std.proofs.Common.{rules}
use mathlib.Core.Path.{refl}
use native.Mathlib.Omega.{arith}
use lib.ListN.{length}
use Rattle.ir_records.proofs.RecordLaws.{tables_fitting}
use Rattle.ir_records.proofs.RefusalLaws.{refused_lengths}
use Rattle.place_short.specs.Short.{short_answer, short_words}
use Rattle.place_short.proofs.OutcomeLaws.{fits_parts}
use Rattle.place_short.proofs.judge.Goals as goal

pub overflow_cast-n : goal.overflow_cast-n
overflow_cast-n c =
    let a = c.args in
    let p = fits_parts a.capabilities (length a.types.now) (length a.members.now) (length a.scratch.now) c.in_ok-lengths_fit.ensures in
    let f = tables_fitting (length a.types.now) (length a.members.now) _ p.tables in
    omega (arith, f.types, c.type_count-n.ensures)

pub judge_tables-requires : goal.judge_tables-requires
judge_tables-requires c =
    let a = c.args in
    let p = fits_parts a.capabilities (length a.types.now) (length a.members.now) (length a.scratch.now) c.in_ok-lengths_fit.ensures in
    record { n_value = c.type_count-n.ensures; n_in_bounds = rw c.type_count-n.ensures p.room }

pub returns : goal.returns
unfolding short_answer short_words
returns c =
    let fits = c.in_ok-lengths_fit.ensures in
    let judged = rw c.type_count-n.ensures at c.judge_tables.ensures in
    let answer = judged.value in
    record { value = rw fits answer; scratch_after = rw fits (rw (← answer) judged.words_after) }

pub returns-in_err-lengths_fit : goal.returns-in_err-lengths_fit
unfolding short_answer short_words
returns-in_err-lengths_fit c =
    let unfit = c.in_err-lengths_fit.ensures in
    record { value = rw (unfit.1) (refused_lengths _ _ (search rules) unfit.0); scratch_after = rw (unfit.1) refl }
