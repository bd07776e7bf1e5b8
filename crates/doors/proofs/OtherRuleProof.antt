-- What is stated of the word of the uniform rule, proved.
-- Assumes nothing.
use mathlib.Core.Path.{refl}
use mathlib.Core.List.{List}
use Prim.Native.Nat.{ℕ, ◌<◌}
use borrow.Author.Tests.{le-leb}
use Rattle.valid_arena.specs.Arena.{arena_answer, arena_words}
use Rattle.immediates_slots.specs.Immediates.{slots_answer}
use Rattle.immediates_pass.specs.Pass.{choose_answer}
use Rattle.place_lookup.specs.Place.{lookup_answer}
use Rattle.place_report.specs.Report.{lengths_fit, report_answer, report_rows, report_words}
use Rattle.valid_rule_word.specs.RuleWord.{capabilities_by}
use Rattle.valid_rule_word.proofs.WordLaws.{unknown}
use Rattle.doors.specs.OtherRule.{OtherRule, RuleWord}

pub other_rule : (word c : ℕ) → 1 < word → (ts ms rows : List ℕ) → OtherRule word c ts ms rows
unfolding arena_answer arena_words slots_answer choose_answer lookup_answer lengths_fit report_answer report_rows report_words
other_rule word c h ts ms rows =
    let u = unknown word c h in
    record {
      answer = rw u refl;
      left = rw u refl;
      slots = λ ty offset. rw u refl;
      choose = λ ty. rw u refl;
      place = λ start steps. rw u refl;
      report = λ lent. (rw u refl, rw u refl, rw u refl);
    }

pub rule_word : RuleWord
unfolding capabilities_by
rule_word = record { known = λ word c h. rw (le-leb word 1 h) refl; other = other_rule }
