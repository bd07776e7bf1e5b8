-- 02, E10: the same answer and refusal for the same tables, capabilities, type and steps; a shorter scratch is 1. What the scratch holds is what the
-- rows of the place lookup have first, by either uniform rule.
-- Assumes nothing.
use Rattle.std.specs.Prelude.{◌≡◌, true, List, ℕ, ◌*◌, ◌≤◌, ◌<◌, length}
use Rattle.ir_records.specs.Record.{type_count}
use Rattle.ir_records.specs.Fields.{row_words}
use Rattle.ir_rows.specs.Rows.{row_word}
use Rattle.valid_type_info.specs.declared.UniformRule.{UniformRule}
use Rattle.valid_arena.specs.Arena.{arena_words, arena_fits}
use Rattle.place_lookup.specs.Answer.{Refused}
use Rattle.place_lookup.specs.Place.{lookup_answer}
use Rattle.place_short_layout.specs.ShortRows.{short_width, short_word}
use Rattle.place_short.specs.Short.{short_lookup, short_words}

pub record SamePlaces : Type 0 where
  -- with rows as long as the place lookup asks for
  pub answer : (c : ℕ) (ts ms scratch rows : List ℕ) (start : ℕ) (steps : List ℕ)
      → type_count ts * short_width ≤ length scratch → type_count ts * row_words ≤ length rows
      → short_lookup c ts ms scratch start steps ≡ lookup_answer c ts ms rows start steps
  pub shorter : (c : ℕ) (ts ms scratch : List ℕ) (start : ℕ) (steps : List ℕ) → length scratch < type_count ts * short_width
      → (short_lookup c ts ms scratch start steps ≡ Refused 1 0 0 0) × (short_words c ts ms scratch ≡ scratch)
  -- word j of type t, accepted or refused; number 1, which touches nothing, aside
  pub words : (rule : UniformRule) (c : ℕ) (ts ms scratch rows : List ℕ) (t j : ℕ) → t < type_count ts → j < short_width
      → type_count ts * short_width ≤ length scratch → arena_fits c ts ms rows ≡ true
      → short_word (short_words c ts ms scratch) t j ≡ row_word (arena_words rule c ts ms rows) t j
