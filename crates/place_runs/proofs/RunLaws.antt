-- Laws of runs: where the next begins, and how many there are.
-- Assumes nothing.
use mathlib.Core.Path.{◌≡◌, refl, sym, ◌∙◌}
use mathlib.Core.List.{List}
use Prim.Native.Nat.{ℕ, zero, suc, ◌+◌, ◌-◌, ◌≤◌, ◌<◌}
use native.Mathlib.Decide.{le_ind}
use native.Mathlib.Numerals.{add-one}
use native.Mathlib.Omega.{arith}
use lib.ListN.{length}
use borrow.Author.Tests.{lt-ltb, le-ltb, eq-eqb, ne_eqb}
use Rattle.std.proofs.Common.{Option, Some, None, MatchOption, IsSome, rules}
use Rattle.place_runs.specs.declared.Run.{Run}
use Rattle.place_runs.specs.Runs.{run_end, run_at, count_from, run_count, runs_whole}
use Rattle.place_runs.specs.Serving.{IsRun, runs_of}

module _ (q : List ℕ) where
  pub run_next : (n : ℕ) → run_at q (n + 1) ≡ run_end q (run_at q n)
  unfolding run_at
  run_next n = rw (add-one n) refl

  -- a run ends before the later ones end
  pub run_within : (j n : ℕ) → j < n → run_end q (run_at q j) ≤ run_at q n
  unfolding run_at
  run_within j n h =
      le_ind (λ (m : ℕ). run_end q (run_at q j) ≤ run_at q m) (omega arith) (λ m k p. omega (arith, p)) n h

  -- the run that begins at `at`, one of n that end where the words end
  pub run_room : (j n at : ℕ) → at ≡ run_at q j → j < n → run_at q n ≡ length q → run_end q at ≤ length q
  run_room j n at e h end = rw (e, ← end) (run_within j n h)

  -- a run that stands whole is found
  pub whole_run : (at : ℕ) (found : Option Run) → MatchOption found (length q < run_end q at) (λ r. IsRun q at r) → run_end q at ≤ length q → IsSome found
  whole_run at (Some r) e h = search rules
  whole_run at None e h = absurd (omega (arith, e, h))

  pub found_run : (at : ℕ) (found : Option Run) (r : Run) → MatchOption found (length q < run_end q at) (λ r. IsRun q at r) → found ≡ Some r → IsRun q at r
  found_run at found r e is = rw is at e

  count_more : (n : ℕ) → n < length q → run_at q n < length q → count_from q (length q - n) n ≡ count_from q (length q - (n + 1)) (n + 1)
  unfolding count_from
  count_more n h l =
      let one : length q - n ≡ suc (length q - (n + 1)) = omega arith in
      rw (one, lt-ltb (run_at q n) (length q) l, add-one n) refl

  count_done : (left n : ℕ) → length q ≤ run_at q n → count_from q left n ≡ n
  unfolding count_from
  count_done zero n h = refl
  count_done (suc left) n h = rw (le-ltb (run_at q n) (length q) h) refl

  -- ---- after n whole runs
  pub first_run : count_from q (length q - 0) 0 ≡ run_count q
  unfolding run_count
  first_run = let whole : length q - 0 ≡ length q = omega arith in rw whole refl

  module _ (n : ℕ) (so_far : count_from q (length q - n) n ≡ run_count q) where
    pub one_more : n ≤ run_at q n → run_at q n < length q → count_from q (length q - (n + 1)) (n + 1) ≡ run_count q
    one_more h l = sym (count_more n (omega (arith, h, l)) l) ∙ so_far

    pub all_runs : run_at q n ≡ length q → Some n ≡ runs_of q
    unfolding runs_whole
    all_runs e =
        let count : run_count q ≡ n = sym so_far ∙ count_done (length q - n) n (omega (arith, e)) in
        rw (count, eq-eqb (run_at q n) (length q) e) refl

    pub cut_run : n ≤ run_at q n → run_at q n < length q → length q < run_end q (run_at q n) → None ≡ runs_of q
    unfolding runs_whole
    cut_run h l g =
        let next : length q ≤ run_at q (n + 1) = rw (run_next n) (omega (arith, g)) in
        let count : run_count q ≡ n + 1 = sym (one_more h l) ∙ count_done (length q - (n + 1)) (n + 1) next in
        rw (count, run_next n, ne_eqb (run_end q (run_at q n)) (length q) (λ e. omega (arith, g, e))) refl
