-- `place_runs::fill` meets its contract. The invariant: `at` is where run j begins, and the answers of the runs before it stand in place. Assumes nothing.
use mathlib.Core.Path.{◌≡◌, refl, sym, ◌∙◌}
use Prim.Native.Nat.{◌≤◌, ◌<◌, ◌+◌, ◌*◌}
use native.Mathlib.Omega.{arith}
use lib.ListN.{length}
use lib.Seq.{take_all}
use Rattle.std.proofs.Common.{rules}
use Rattle.place_descent.specs.Place.{found_place}
use Rattle.place_runs.specs.Runs.{run_at, run_count}
use Rattle.place_runs.proofs.RunLaws.{run_next, run_room, whole_run, found_run}
use Rattle.place_runs.proofs.PlacesLaws.{pair_written, runs_end}
use Rattle.place_runs.proofs.fill.Goals as goal

pub loop-j-init : goal.loop-j-init
unfolding run_at
loop-j-init c = (refl, refl, refl)

pub put_place-requires : goal.put_place-requires
put_place-requires c = omega (arith, c.loop-j-test.true, c.requires.pairs, c.loop-j.invariant.2)

pub run_from-requires : goal.run_from-requires
run_from-requires c =
    let q = c.args.queries.now in
    let inside : c.loop-j.j < run_count q = omega (arith, c.loop-j-test.true, c.requires.pairs) in
    let room = run_room q c.loop-j.j (run_count q) c.loop-j.at c.loop-j.invariant.0 inside (runs_end q c.requires.whole) in
    omega (arith, room)

pub unwrap-run-requires : goal.unwrap-run-requires
unwrap-run-requires c =
    let q = c.args.queries.now in
    let inside : c.loop-j.j < run_count q = omega (arith, c.loop-j-test.true, c.requires.pairs) in
    whole_run q c.loop-j.at c.run_from.result c.run_from.ensures (run_room q c.loop-j.j (run_count q) c.loop-j.at c.loop-j.invariant.0 inside (runs_end q c.requires.whole))

pub loop-j-preserved : goal.loop-j-preserved
loop-j-preserved c =
    let a = c.args in
    let l = c.loop-j in
    let q = a.queries.now in
    let run = found_run q l.at c.run_from.result c.unwrap-run.result c.run_from.ensures (search rules) in
    let is = rw (run.steps, run.start, l.invariant.0) at c.place_of-place.ensures in
    let room : l.j * 2 + 2 ≤ length l.answers = omega (arith, c.loop-j-test.true, c.requires.pairs, l.invariant.2) in (
      run.end ∙ rw (run_next q l.j, ← l.invariant.0) refl,
      pair_written a.types.now a.members.now q l.j l.answers _ (found_place c.place_of-place.result) l.invariant.1 c.put_place.ensures is room,
      c.put_place.auto.answers ∙ l.invariant.2,
    )

pub returns : goal.returns
returns c =
    let l = c.loop-j in
    let q = c.args.queries.now in
    let end : l.j ≡ run_count q = omega (arith, l.auto.j-end, c.loop-j-test.false, c.requires.pairs) in
    let long : length l.answers ≡ run_count q * 2 = l.invariant.2 ∙ c.requires.pairs in
    rw (← rw end at l.invariant.1) (sym (take_all (run_count q * 2) l.answers (omega (arith, long))))
