-- `place_runs::places` meets its contract: number 1 by the tables, then by the queries, then by the answers; else the answers are those of the lookups. Assumes nothing.
use mathlib.Core.Path.{sym, ap, ◌∙◌}
use native.Mathlib.Omega.{arith}
use Prim.Native.Nat.{◌/◌}
use lib.ListN.{length}
use borrow.Author.Tests.{leb-true, leb-false}
use Rattle.std.proofs.Common.{rules, Err, ◌≡◌}
use Rattle.std.specs.Result.{result_ok}
use Rattle.ir_records.specs.Refusal.{outcome_of}
use Rattle.ir_records.proofs.RefusalLaws.{refused_lengths}
use Rattle.place_runs.proofs.PlacesLaws.{refusal_own, whole_runs, cut_runs, unfit_tables, cut_queries, few_answers, all_fit}
use Rattle.place_runs.proofs.places.Goals as goal

pub returns-in_err-lengths_fit : goal.returns-in_err-lengths_fit
returns-in_err-lengths_fit c =
    let a = c.args in
    let told = c.in_err-lengths_fit.ensures in
    let u = unfit_tables a.capabilities a.types.now a.members.now a.scratch.now a.queries.now a.answers.now told.1 in
    record { value = refused_lengths _ _ (search rules) told.0 ∙ u.0; scratch_after = u.1.0; answers_after = u.1.1 }

pub returns-in_err-require_lengths : goal.returns-in_err-require_lengths
returns-in_err-require_lengths c =
    let a = c.args in
    let told = c.in_err-require_lengths.ensures in
    let w = whole_runs a.queries.now _ (sym (c.ok_or.ensures.ok_part ∙ ap result_ok c.in_ok-n.was) ∙ c.runs_of.ensures) in
    let few = leb-false c.in_ok-n.n (length a.answers.now / 2) told.1 in
    let u = few_answers a.capabilities a.types.now a.members.now a.scratch.now a.queries.now a.answers.now w.0 (omega (arith, few, w.1)) in
    record { value = refused_lengths _ _ (search rules) told.0 ∙ u.0; scratch_after = u.1.0; answers_after = u.1.1 }

pub places_in-requires : goal.places_in-requires
places_in-requires c =
    let a = c.args in
    let w = whole_runs a.queries.now _ (sym (c.ok_or.ensures.ok_part ∙ ap result_ok c.in_ok-n.was) ∙ c.runs_of.ensures) in
    record { fits = c.in_ok-lengths_fit.ensures; whole = w.0; pairs = rw w.1 (search rules) }

pub returns : goal.returns
returns c =
    let a = c.args in
    let w = whole_runs a.queries.now _ (sym (c.ok_or.ensures.ok_part ∙ ap result_ok c.in_ok-n.was) ∙ c.runs_of.ensures) in
    let enough = leb-true c.in_ok-n.n (length a.answers.now / 2) c.in_ok-require_lengths.ensures in
    let u = all_fit a.capabilities a.types.now a.members.now a.scratch.now a.queries.now a.answers.now c.in_ok-lengths_fit.ensures w.0 (omega (arith, enough, w.1)) in
    let p = c.places_in.ensures in
    record { value = p.value ∙ u.0; scratch_after = p.scratch_after ∙ u.1.0; answers_after = rw (p.answers_after, w.1) u.1.1 }

pub returns-in_err-n : goal.returns-in_err-n
returns-in_err-n c =
    let a = c.args in
    let same : c.from_residual-in_err-n.result ≡ Err c.in_err-n.field-0.0 = search rules in
    let u = cut_queries a.capabilities a.types.now a.members.now a.scratch.now a.queries.now a.answers.now (cut_runs a.queries.now (sym (c.ok_or.ensures.ok_part ∙ ap result_ok c.in_err-n.was) ∙ c.runs_of.ensures)) in
    let told = refusal_own c.runs_of.result c.of.result c.in_err-n.field-0.0 (sym c.ok_or.ensures.value ∙ c.in_err-n.was) in
    record { value = ap outcome_of same ∙ rw (told, c.of.ensures) u.0; scratch_after = u.1.0; answers_after = u.1.1 }
