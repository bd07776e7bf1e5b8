-- Laws of many places in one call: each answer is the lookup's; number 1 by the lengths of the tables, of the queries and of the answers.
-- Assumes nothing.
use Rattle.std.specs.Prelude as std
use Rattle.std.specs.Result.{is_ok}
use Rattle.std.specs.Option.{ok_or}
use Rattle.ir_records.specs.Refusal.{outcome_of}
use Rattle.ir_records.specs.declared.Refusal.{Refusal}
use mathlib.Core.Path.{◌≡◌, refl, sym, ap, fun_ext, ◌∙◌}
use Rattle.std.proofs.lemmas.List.{replicate-append-replicate}
use mathlib.Core.Bool.{Bool, true, false, ◌&&◌}
use mathlib.Core.List.{List, [], ◌∷◌, ◌++◌}
use Prim.Native.Nat.{ℕ, zero, suc, ◌+◌, ◌*◌, ◌≤◌, ◌<◌}
use native.Mathlib.Omega.{arith}
use lib.ListN.{length, get_or, take, drop, replicate, get_or-append}
use borrow.Author.Tests.{le-leb, lt-leb, eqb-true}
use Rattle.ir_records.specs.Result.{pick}
use Rattle.ir_records.specs.Record.{type_count, decoded}
use Rattle.ir_records.specs.Table.{flat}
use Rattle.ir_records.specs.Outcome.{Outcome}
use Rattle.ir_records.specs.Outcome.{Accepted, Refused}
use Rattle.ir_records.specs.Fields.{row_words}
use Rattle.ir_records.proofs.TableLaws.{flat_length, flat_word}
use Rattle.ir_rows.specs.Rows.{with_part}
use Rattle.ir_rows.proofs.RowLaws.{flat_more}
use Rattle.place_descent.specs.Place.{Place}
use Rattle.place_descent.specs.Place.{At, NoPlace}
use Rattle.place_descent.specs.Place.{place_of}
use Rattle.place_descent.specs.Serving.{Descends}
use Rattle.place_lookup.specs.Answer.{PlaceAnswer}
use Rattle.place_lookup.specs.Answer as answer
use Rattle.place_lookup.specs.Place.{place_answer, start_answer, lookup_answer}
use Rattle.place_lookup.proofs.LookupLaws.{arena_descends}
use Rattle.place_short.specs.Short.{short_fits, short_answer, short_lookup, short_words}
use Rattle.place_short_layout.specs.ShortRows.{short_width}
use Rattle.place_short.proofs.OutcomeLaws.{short_accepted}
use Rattle.place_short.proofs.SamePlacesProof.{same_places}
use Rattle.std.proofs.Common.{Some, None}
use Rattle.place_runs.specs.Runs.{run_start, run_steps, run_at, run_count, runs_whole}
use Rattle.place_runs.specs.Serving.{runs_of}
use Rattle.place_runs.specs.Places.{pair_width, none_word, answer_pair, answer_at, queries_fit, places_answer, places_scratch, places_words}
use Rattle.place_runs.specs.Serving.{place_pair, pair_at}
use Rattle.ir_records.proofs.RefusalLaws.{IsRefused}

-- ---- the two words of an answer
pub pair_wide : (p : Place) → length (place_pair p) ≡ pair_width
pair_wide (At byte leaf) = refl
pair_wide NoPlace = refl

pair_answer : (p : Place) → place_pair p ≡ answer_pair (place_answer p)
pair_answer (At byte leaf) = refl
pair_answer NoPlace = refl

-- one more answer, written behind those before it
module _ (ts ms q : List ℕ) (j : ℕ) (answers answers' : List ℕ) (p : Place)
    (so_far : take (j * pair_width) answers ≡ flat (pair_at ts ms q) j) (after : answers' ≡ with_part pair_width answers (j * pair_width) (place_pair p))
    (is : p ≡ place_of ts ms (run_start q j) (run_steps q j)) (room : j * pair_width + pair_width ≤ length answers) where
  written : answers' ≡ with_part pair_width answers (j * pair_width) (pair_at ts ms q j)
  written = after ∙ ap (λ (x : Place). with_part pair_width answers (j * pair_width) (place_pair x)) is

  pub pair_written : take ((j + 1) * pair_width) answers' ≡ flat (pair_at ts ms q) (j + 1)
  pair_written = rw written (flat_more pair_width answers (pair_at ts ms q) j so_far (pair_wide (place_of ts ms (run_start q j) (run_steps q j))) room)

module _ (c : ℕ) (ts ms scratch q : List ℕ) where
  -- what the code makes of run j is the lookup's answer
  pub pairs_answers : short_answer c ts ms scratch ≡ Accepted → pair_at ts ms q ≡ answer_at c ts ms scratch q
  unfolding short_lookup
  pairs_answers e = fun_ext (λ j. rw e (pair_answer (place_of ts ms (run_start q j) (run_steps q j))))

  -- in a refused arena each is none
  pub pairs_refused : IsRefused (short_answer c ts ms scratch) → (n : ℕ) → replicate (n * pair_width) none_word ≡ flat (answer_at c ts ms scratch q) n
  unfolding short_lookup
  pairs_refused h zero = refl
  pairs_refused h (suc n) =
      let more : suc n * pair_width ≡ n * pair_width + 2 = omega arith in
      ap (λ (k : ℕ). replicate k none_word) more ∙ sym (replicate-append-replicate (n * pair_width) 2 none_word) ∙ rw (pairs_refused h n, none_at (short_answer c ts ms scratch) h (run_start q n) (run_steps q n)) refl
    where
      none_at : (o : Outcome) → IsRefused o → (start : ℕ) (steps : List ℕ) → answer_pair (start_answer ts ms start steps o) ≡ none_word ∷ none_word ∷ []
      none_at Accepted k start steps = absurd k
      none_at (Refused number ty member detail) k start steps = refl

  -- an accepted arena descends
  pub descends_where : short_answer c ts ms scratch ≡ Accepted → Descends (decoded ts ms) (type_count ts)
  descends_where e = arena_descends c ts ms (short_accepted c ts ms scratch e)

-- ---- the runs that the code finds
pub whole_runs : (q : List ℕ) (n : ℕ) → Some n ≡ runs_of q → (runs_whole q ≡ true) × (n ≡ run_count q)
whole_runs q n e = go (runs_whole q) refl e
  where
    go : (b : Bool) → runs_whole q ≡ b → Some n ≡ pick b (Some (run_count q)) None → (runs_whole q ≡ true) × (n ≡ run_count q)
    go true p s = (p, cc)
    go false p s = let z : ◌≡◌ {A = ℕ} 0 1 = cc in absurd (omega arith)

pub cut_runs : (q : List ℕ) → None ≡ runs_of q → runs_whole q ≡ false
cut_runs q e = go (runs_whole q) refl e
  where
    go : (b : Bool) → runs_whole q ≡ b → None ≡ pick b (Some (run_count q)) None → runs_whole q ≡ false
    go true p s = let z : ◌≡◌ {A = ℕ} 0 1 = cc in absurd (omega arith)
    go false p s = p

pub runs_end : (q : List ℕ) → runs_whole q ≡ true → run_at q (run_count q) ≡ length q
unfolding runs_whole
runs_end q e = eqb-true (run_at q (run_count q)) (length q) e

-- ---- the call
module _ (c : ℕ) (ts ms scratch q answers : List ℕ) where
  -- number 1: what a call answers that touches nothing
  abbrev pub Untouched : Type 0
  Untouched =
      (Refused 1 0 0 0 ≡ places_answer c ts ms scratch q answers)
      × ((scratch ≡ places_scratch c ts ms scratch q answers) × (answers ≡ places_words c ts ms scratch q answers))

  pub unfit_tables : short_fits c ts ms scratch ≡ false → Untouched
  unfolding places_answer places_scratch places_words short_answer short_words
  unfit_tables e = rw e (go (queries_fit q answers))
    where
      go : (b : Bool)
          → (Refused 1 0 0 0 ≡ pick b (Refused 1 0 0 0) (Refused 1 0 0 0))
          × ((scratch ≡ pick b scratch scratch) × (answers ≡ pick (b && false) (flat (answer_at c ts ms scratch q) (run_count q) ++ drop (run_count q * pair_width) answers) answers))
      go true = (refl, (refl, refl))
      go false = (refl, (refl, refl))

  pub unfit_queries : queries_fit q answers ≡ false → Untouched
  unfolding places_answer places_scratch places_words
  unfit_queries e = rw e (refl, (refl, refl))

  pub cut_queries : runs_whole q ≡ false → Untouched
  cut_queries e = unfit_queries (rw e refl)

  pub few_answers : runs_whole q ≡ true → length answers < run_count q * pair_width → Untouched
  few_answers e h = unfit_queries (rw (e, lt-leb (run_count q * pair_width) (length answers) h) refl)

  pub all_fit : short_fits c ts ms scratch ≡ true → runs_whole q ≡ true → run_count q * pair_width ≤ length answers
      → (short_answer c ts ms scratch ≡ places_answer c ts ms scratch q answers)
      × ((short_words c ts ms scratch ≡ places_scratch c ts ms scratch q answers)
      × (flat (answer_at c ts ms scratch q) (run_count q) ++ drop (run_count q * pair_width) answers ≡ places_words c ts ms scratch q answers))
  unfolding places_answer places_scratch places_words
  all_fit fits whole room =
      let ready : queries_fit q answers ≡ true = rw (whole, le-leb (run_count q * pair_width) (length answers) room) refl in
      (rw ready refl, (rw ready refl, rw (ready, fits) refl))

  -- ---- the two words of run j are what the place lookup answers, with whatever rows lent that are long enough
  answer_wide : (x : PlaceAnswer) → length (answer_pair x) ≡ pair_width
  answer_wide (answer.Found byte leaf) = refl
  answer_wide (answer.Refused number ty member detail) = refl

  pub each_answer : (rows : List ℕ) (j k : ℕ) → short_fits c ts ms scratch ≡ true → queries_fit q answers ≡ true → type_count ts * short_width ≤ length scratch → type_count ts * row_words ≤ length rows
      → j < run_count q → k < pair_width
      → get_or (places_words c ts ms scratch q answers) (j * pair_width + k) 0 ≡ get_or (answer_pair (lookup_answer c ts ms rows (run_start q j) (run_steps q j))) k 0
  unfolding places_words
  each_answer rows j k fits ready long enough h l =
      let wide : (i : ℕ) → length (answer_at c ts ms scratch q i) ≡ pair_width = λ i. answer_wide (short_lookup c ts ms scratch (run_start q i) (run_steps q i)) in
      let all = flat_length (answer_at c ts ms scratch q) pair_width wide (run_count q) in
      rw (ready, fits)
      (get_or-append (flat (answer_at c ts ms scratch q) (run_count q)) (drop (run_count q * pair_width) answers) 0 (j * pair_width + k) (omega (arith, all))
      ∙ flat_word (answer_at c ts ms scratch q) pair_width wide (run_count q) j k h l
      ∙ ap (λ (x : PlaceAnswer). get_or (answer_pair x) k 0) (same_places.answer c ts ms scratch rows (run_start q j) (run_steps q j) long enough))

-- what is no error is accepted
pub ok_accepted : {A : Type 0} (r : std.Result A Refusal) → is_ok r ≡ true → outcome_of r ≡ Accepted
ok_accepted (std.Ok a) e = refl
ok_accepted (std.Err f) e = cc

pub else_refused : {A : Type 0} (r : std.Result A Refusal) → is_ok r ≡ false → IsRefused (outcome_of r)
else_refused (std.Ok a) e = cc
else_refused (std.Err f) e = tt

-- the refusal of what is not there is the one that was given
pub refusal_own : {A : Type 0} (found : std.Option A) (given own : Refusal) → ok_or found given ≡ std.Err own → own ≡ given
refusal_own (std.Some a) given own e = let z : ◌≡◌ {A = ℕ} 0 1 = cc in absurd (omega arith)
refusal_own std.None given own e = cc
