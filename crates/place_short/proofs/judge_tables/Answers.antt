use Rattle.ir_records.specs.Refusal.{outcome_of}
use Rattle.ir_records.proofs.RefusalLaws.{no_refusal, some_refusal}
use mathlib.Core.Path.{sym, ◌∙◌}
use native.Mathlib.Omega.{arith}
use Rattle.place_short.proofs.RefusedLaws.{refused_records, zero_scratch}
use Rattle.place_short.proofs.judge_tables.Goals as goal

pub invariant_of-arena-clause-in_order : goal.invariant_of-arena-clause-in_order
invariant_of-arena-clause-in_order c = sym c.records_ok-found.ensures ∙ no_refusal c.records_ok-found.result (sym c.is_err.ensures.value ∙ c.if-is_err.false)

pub clear-requires : goal.clear-requires
clear-requires c = omega (arith, c.requires.n_in_bounds)

pub returns : goal.returns
returns c = c.judge_records.ensures

pub returns-then-is_err : goal.returns-then-is_err
returns-then-is_err c =
    let a = c.args in
    let found = c.records_ok-found in
    let e = some_refusal found.result (sym c.is_err.ensures.value ∙ c.if-is_err.true) in
    let told = rw c.requires.n_value at found.ensures in
    record { value = refused_records a.capabilities a.types.now a.members.now (outcome_of found.result) e told; words_after = rw (zero_scratch (outcome_of found.result) e a.capabilities a.types.now a.members.now a.n a.words.now) c.clear.ensures }
