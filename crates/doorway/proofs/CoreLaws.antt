-- The word core refuses more than 16,384 member words with number 1, and leaves the rows as they were.
-- Assumes nothing.
use mathlib.Core.Path.{◌≡◌, refl}
use mathlib.Core.Bool.{false, and-false}
use mathlib.Core.List.{List}
use Prim.Native.Nat.{ℕ, ◌<◌}
use lib.Dec.{leb}
use lib.ListN.{length}
use borrow.Author.Tests.{lt-leb}
use Rattle.ir_records.specs.Fields.{tables_fit}
use Rattle.ir_records.specs.Outcome as outcome
use Rattle.valid_type_info.specs.declared.UniformRule.{UniformRule}
use Rattle.valid_arena.specs.Arena.{arena_fits, arena_answer, arena_words}
use Rattle.place_lookup.specs.Place.{lookup_answer}
use Rattle.place_lookup.specs.Answer as place
use Rattle.immediates_ranges.specs.Answer as slots
use Rattle.immediates_slots.specs.Immediates.{slots_answer}
use Rattle.valid_rule_word.specs.RuleWord.{capabilities_by}
use Rattle.valid_rule_word.proofs.WordLaws.{unknown}

module _ (c : ℕ) (ts rows ms : List ℕ) (long : 16384 < length ms) where
  unfits : arena_fits c ts ms rows ≡ false
  unfolding tables_fit
  unfits =
      let many : leb (length ms) 16384 ≡ false = lt-leb (length ms) 16384 long in
      simp (many, and-false)

  pub answer_refuses : arena_answer c ts ms rows ≡ outcome.Refused 1 0 0 0
  unfolding arena_answer
  answer_refuses = simp unfits

  pub words_refuses : (rule : UniformRule) → arena_words rule c ts ms rows ≡ rows
  unfolding arena_words
  words_refuses rule = simp unfits

  pub lookup_refuses : (start : ℕ) (steps : List ℕ) → lookup_answer c ts ms rows start steps ≡ place.Refused 1 0 0 0
  unfolding lookup_answer
  lookup_refuses start steps = simp answer_refuses

  pub slots_refuses : (ty offset : ℕ) → slots_answer c ts ms rows ty offset ≡ slots.Refused 1 0 0 0
  unfolding slots_answer
  slots_refuses ty offset = simp answer_refuses

-- the same by a word of no rule
module _ (word c : ℕ) (other : 1 < word) (ts rows ms : List ℕ) where
  pub answer_unknown : arena_answer (capabilities_by word c) ts ms rows ≡ outcome.Refused 1 0 0 0
  unfolding arena_answer
  answer_unknown = rw (unknown word c other) refl

  pub words_unknown : (rule : UniformRule) → arena_words rule (capabilities_by word c) ts ms rows ≡ rows
  unfolding arena_words
  words_unknown rule = rw (unknown word c other) refl

  pub lookup_unknown : (start : ℕ) (steps : List ℕ) → lookup_answer (capabilities_by word c) ts ms rows start steps ≡ place.Refused 1 0 0 0
  unfolding arena_answer lookup_answer
  lookup_unknown start steps = rw (unknown word c other) refl

  pub slots_unknown : (ty offset : ℕ) → slots_answer (capabilities_by word c) ts ms rows ty offset ≡ slots.Refused 1 0 0 0
  unfolding arena_answer slots_answer
  slots_unknown ty offset = rw (unknown word c other) refl
