-- The words kept answer as all the words do: what is too long is refused alike, and leaves the rows alike.
use Rattle.std.proofs.Common.{◌≡◌, ◌∙◌, sym, rules}
use Rattle.std.specs.Prelude.{Err}
use Rattle.valid_arena.specs.Arena.{arena_words}
use Rattle.valid_rule_word.specs.RuleWord.{rule_of, capabilities_by}
use Rattle.immediates_slots.specs.Immediates.{slots_answer}
use Rattle.immediates_ranges.specs.Answer.{Refused}
use Rattle.ir_member_words.proofs.FlatLaws.{through}
use Rattle.doorway.proofs.CoreLaws.{slots_refuses, words_refuses, slots_unknown, words_unknown}
use Rattle.ir_member_words.specs.Flat.{flat}
use Rattle.valid_rule_word.proofs.WordLaws.{known_rule, known_capabilities}
use Rattle.doorway.proofs.slots_members.Goals as goal

pub returns : goal.returns
returns c =
    let a = c.args in
    let by = capabilities_by a.rule a.capabilities in
    let kept = c.used.ensures ∙ c.of-words.ensures in
    let rule = known_rule c.in_ok-by.by a.rule c.in_ok-by.ensures in
    let known = known_capabilities c.in_ok-by.by a.rule a.capabilities c.in_ok-by.ensures in
    let told = rw (← rule, ← known) at c.immediate_slots.ensures in record {
      value = told.value ∙ through (λ ms. slots_answer by a.types.now ms a.rows.now a.ty a.offset) (Refused 1 0 0 0) (λ ms long. slots_refuses by a.types.now a.rows.now ms long a.ty a.offset) a.members.now _ kept;
      rows_after = told.rows_after ∙ through (λ ms. arena_words (rule_of a.rule) by a.types.now ms a.rows.now) a.rows.now (λ ms long. words_refuses by a.types.now a.rows.now ms long (rule_of a.rule)) a.members.now _ kept;
    }

pub returns-in_err-by : goal.returns-in_err-by
returns-in_err-by c =
    let a = c.args in
    let r = c.in_err-by.field-0.0 in
    let same : c.from_residual.result ≡ Err r = search rules in
    let other = c.in_err-by.ensures.1 in
    rw (same, c.in_err-by.ensures.0) record {
      value = sym (slots_unknown a.rule a.capabilities other a.types.now a.rows.now (flat a.members.now) a.ty a.offset);
      rows_after = sym (words_unknown a.rule a.capabilities other a.types.now a.rows.now (flat a.members.now) (rule_of a.rule));
    }
