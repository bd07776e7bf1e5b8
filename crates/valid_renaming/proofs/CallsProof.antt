-- E13 said of the calls, proved: the rows that `check` leaves are the definition's, and the slots and places of an accepted arena are answered.
-- Assumes nothing.
use mathlib.Core.Path.{◌≡◌, refl, sym, ◌∙◌, ap}
use mathlib.Core.List.{List}
use Prim.Native.Nat.{ℕ, ◌<◌}
use borrow.Author.Tests.{lt-ltb}
use Rattle.ir_records.specs.Record.{decoded, type_count}
use Rattle.ir_records.specs.Outcome.{Accepted}
use Rattle.valid_arena.specs.Arena.{arena_answer}
use Rattle.valid_arena.proofs.WordLaws.{row_left}
use Rattle.immediates_ranges.specs.Slots.{part_answer}
use Rattle.immediates_walk.specs.Walk.{slots_at}
use Rattle.immediates_slots.specs.Immediates.{slots_answer}
use Rattle.place_descent.specs.Place.{Place}
use Rattle.place_descent.specs.Place.{At, NoPlace}
use Rattle.place_descent.specs.Place.{place_of}
use Rattle.place_lookup.specs.Place.{place_answer, lookup_answer}
use Rattle.place_lookup.proofs.LookupLaws.{answer_accepted}
use Rattle.valid_renaming.specs.Renaming.{itself, renamed_row, renamed_place}
use Rattle.valid_renaming.specs.Calls.{renamed_found, CallsRenaming}
use Rattle.valid_renaming.proofs.RenamingProof.{renaming}

-- the answer for a place, renamed
answer_renamed : (f : ℕ → ℕ) (p : Place) → place_answer (renamed_place f p) ≡ renamed_found f (place_answer p)
answer_renamed f (At byte leaf) = refl
answer_renamed f NoPlace = refl

module _ (c : ℕ) (ts ms rows : List ℕ) (accepted : arena_answer c ts ms rows ≡ Accepted) where
  -- the slots of a type of an accepted arena are answered
  slots_answered : (t : ℕ) → t < type_count ts → (offset : ℕ) → slots_answer c ts ms rows t offset ≡ part_answer (slots_at (decoded ts ms) t offset)
  unfolding slots_answer
  slots_answered t h offset = rw (accepted, lt-ltb t (type_count ts) h) refl

  -- and so are its places
  place_answered : (t : ℕ) (steps : List ℕ) → lookup_answer c ts ms rows t steps ≡ place_answer (place_of ts ms t steps)
  unfolding lookup_answer
  place_answered t steps = rw accepted refl

pub calls_renaming : CallsRenaming
calls_renaming f rule c c' ts ms lent ts' ms' lent' t a a' r =
    let same = renaming f rule c c' ts ms ts' ms' t (answer_accepted c ts ms lent a) (answer_accepted c' ts' ms' lent' a') r in
    let h' = r.within' t itself in
    record {
      rows = row_left rule c' ts' ms' lent' a' (f t) h' ∙ same.rows ∙ ap (renamed_row f) (sym (row_left rule c ts ms lent a t r.within));
      slots = λ offset.
          slots_answered c' ts' ms' lent' a' (f t) h' offset ∙ ap part_answer (same.slots offset) ∙ sym (slots_answered c ts ms lent a t r.within offset);
      places = λ steps.
          place_answered c' ts' ms' lent' a' (f t) steps
          ∙ ap place_answer (same.places steps)
          ∙ answer_renamed f (place_of ts ms t steps)
          ∙ ap (renamed_found f) (sym (place_answered c ts ms lent a t steps));
    }
