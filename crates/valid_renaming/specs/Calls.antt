-- E13 said of the calls: of the rows that `check` leaves, and of what `immediate_slots` and `lookup` answer, with whatever rows lent.
-- Assumes nothing.
use Rattle.std.specs.Prelude.{◌≡◌, List, ℕ}
use Rattle.ir_records.specs.Outcome.{Accepted}
use Rattle.valid_type_info.specs.declared.UniformRule.{UniformRule}
use Rattle.valid_type_info.specs.TypeInfo.{rows_in}
use Rattle.valid_arena.specs.Arena.{arena_answer, arena_words}
use Rattle.immediates_slots.specs.Immediates.{slots_answer}
use Rattle.place_lookup.specs.Answer.{PlaceAnswer}
use Rattle.place_lookup.specs.Answer.{Found, Refused}
use Rattle.place_lookup.specs.Place.{lookup_answer}
use Rattle.valid_renaming.specs.Renaming.{ReachedAgree, renamed_row}

-- the leaf's type renamed; 26 carries zeros only
abbrev pub renamed_found : (ℕ → ℕ) → PlaceAnswer → PlaceAnswer
renamed_found f (Found byte leaf) = Found byte (f leaf)
renamed_found f (Refused number ty member detail) = Refused number ty member detail

-- of type t of the one arena and of type f t of the other
pub record CallsAgree (f : ℕ → ℕ) (rule : UniformRule) (c c' : ℕ) (ts ms lent ts' ms' lent' : List ℕ) (t : ℕ) : Type 0 where
  pub rows : rows_in (arena_words rule c' ts' ms' lent') (f t) ≡ renamed_row f (rows_in (arena_words rule c ts ms lent) t)
  pub slots : (offset : ℕ) → slots_answer c' ts' ms' lent' (f t) offset ≡ slots_answer c ts ms lent t offset
  pub places : (steps : List ℕ) → lookup_answer c' ts' ms' lent' (f t) steps ≡ renamed_found f (lookup_answer c ts ms lent t steps)

-- where `check` accepts both arenas
abbrev pub CallsRenaming : Type 0
CallsRenaming =
    (f : ℕ → ℕ) (rule : UniformRule) (c c' : ℕ) (ts ms lent ts' ms' lent' : List ℕ) (t : ℕ)
    → arena_answer c ts ms lent ≡ Accepted → arena_answer c' ts' ms' lent' ≡ Accepted
    → ReachedAgree f ts ms ts' ms' t → CallsAgree f rule c c' ts ms lent ts' ms' lent' t
