-- `place_runs::runs_of` meets its contract. The invariant: n runs end at `at`, and those from there on are left to count. Assumes nothing.
use borrow.Author.Rules.{rules}
use mathlib.Core.Path.{refl, sym, ◌∙◌}
use native.Mathlib.Nat.{le_antisymm}
use native.Mathlib.Omega.{arith}
use Rattle.place_runs.specs.Runs.{run_at}
use Rattle.place_runs.proofs.RunLaws.{run_next, first_run, one_more, all_runs, cut_run}
use Rattle.place_runs.proofs.runs_of.Goals as goal

pub loop-at-init : goal.loop-at-init
unfolding run_at
loop-at-init c = (search rules, search rules, refl, first_run c.args.queries.now)

pub returns-in_err-run : goal.returns-in_err-run
returns-in_err-run c =
    let l = c.loop-at in
    let q = c.args.queries.now in
    let cut = rw c.in_err-run.was at c.run_from.ensures in
    c.from_residual.ensures ∙ cut_run q l.n l.invariant.3 (omega (arith, l.invariant.1, l.invariant.2)) (omega (arith, l.invariant.2, c.loop-at-test.true)) (rw l.invariant.2 at cut)

pub loop-at-preserved : goal.loop-at-preserved
loop-at-preserved c =
    let l = c.loop-at in
    let q = c.args.queries.now in
    let run = rw c.in_ok-run.was at c.run_from.ensures in (
      run.within,
      omega (arith, l.invariant.1, run.end),
      run.end ∙ rw (run_next q l.n, ← l.invariant.2) refl,
      one_more q l.n l.invariant.3 (omega (arith, l.invariant.1, l.invariant.2)) (omega (arith, l.invariant.2, c.loop-at-test.true)),
    )

pub returns : goal.returns
returns c =
    let l = c.loop-at in
    let q = c.args.queries.now in
    all_runs q l.n l.invariant.3 (sym l.invariant.2 ∙ le_antisymm l.invariant.0 c.loop-at-test.false)
