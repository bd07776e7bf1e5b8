-- 02, E8: the word of the uniform rule. 0 and 1 leave the capability word as it is; another word is number 1 in each call, and touches no lent row and no report.
-- Assumes nothing.
use Rattle.std.specs.Prelude.{◌≡◌, List, ℕ, ◌≤◌, ◌<◌}
use Rattle.ir_records.specs.Outcome.{Refused}
use Rattle.immediates_ranges.specs.Answer as slotsAnswers
use Rattle.valid_arena.specs.Arena.{arena_answer, arena_words}
use Rattle.immediates_slots.specs.Immediates.{slots_answer}
use Rattle.immediates_pass.specs.Pass.{choose_answer}
use Rattle.place_lookup.specs.Answer as placeAnswers
use Rattle.place_lookup.specs.Place.{lookup_answer}
use Rattle.place_report.specs.Answer as reportAnswers
use Rattle.place_report.specs.Report.{report_answer, report_rows, report_words}
use Rattle.valid_rule_word.specs.RuleWord.{rule_of, capabilities_by}

-- of another word
pub record OtherRule (word c : ℕ) (ts ms rows : List ℕ) : Type 0 where
  pub answer : arena_answer (capabilities_by word c) ts ms rows ≡ Refused 1 0 0 0
  pub left : arena_words (rule_of word) (capabilities_by word c) ts ms rows ≡ rows
  pub slots : (ty offset : ℕ) → slots_answer (capabilities_by word c) ts ms rows ty offset ≡ slotsAnswers.Refused 1 0 0 0
  pub choose : (ty : ℕ) → choose_answer (capabilities_by word c) ts ms rows ty ≡ slotsAnswers.Refused 1 0 0 0
  pub place : (start : ℕ) (steps : List ℕ) → lookup_answer (capabilities_by word c) ts ms rows start steps ≡ placeAnswers.Refused 1 0 0 0
  pub report : (lent : List ℕ)
      → (report_answer (capabilities_by word c) ts ms rows lent ≡ reportAnswers.Refused 1 0 0 0)
      × (report_rows (rule_of word) (capabilities_by word c) ts ms rows lent ≡ rows)
      × (report_words (capabilities_by word c) ts ms rows lent ≡ lent)

pub record RuleWord : Type 0 where
  pub known : (word c : ℕ) → word ≤ 1 → capabilities_by word c ≡ c
  pub other : (word c : ℕ) → 1 < word → (ts ms rows : List ℕ) → OtherRule word c ts ms rows
