-- What the calls with an arena leave in lent words. A buffer that is not named here has words of 9 before a call.
-- Assumes nothing.
use Rattle.std.specs.Prelude.{List, [], ◌++◌, ℕ, leb, length, take, drop, replicate}
use Rattle.ir_records.specs.Result.{pick}
use Rattle.proc_layouter.specs.Layouter.{layout_words}
use Rattle.valid_rule_word.specs.RuleWord.{rule_of, capabilities_by}
use Rattle.valid_arena.specs.Arena.{arena_words}
use Rattle.immediates_ranges.specs.Slots.{range_slots, part_answer}
use Rattle.immediates_slots.specs.Immediates.{slots_answer}
use Rattle.immediates_pass.specs.Pass.{PassStep, Choose}
use Rattle.place_lookup.specs.Answer.{PlaceAnswer}
use Rattle.place_lookup.specs.Place.{lookup_answer}
use Rattle.place_report.specs.Report.{report_rows}
use Rattle.proc_plain_types.specs.PlainTypes.{plain_answer}
use Rattle.doors_words.specs.Words.{byte_of, leaf_of, part_start, part_length, with_two, with_numbers, with_masks, with_tried, tried_in}
use Rattle.doors_lent.specs.declared.Arena.{Arena}

-- so many words of 9
abbrev pub nines : ℕ → List ℕ
nines n = replicate n 9

-- the first n words; none where there are fewer
abbrev pub first_words : List ℕ → (n : ℕ) → List ℕ
first_words words n = pick (leb n (length words)) (take n words) []

-- ---- rows
-- these after a check, or after a judgement
abbrev pub rows_checked : Arena → (rows : List ℕ) → List ℕ
rows_checked a rows = arena_words (rule_of a.rule) (capabilities_by a.rule a.capabilities) a.types.now a.members.now rows

abbrev pub rows_laid_out : Arena → List ℕ
rows_laid_out a = layout_words a.types.now a.members.now (nines 44)

-- after a report into so many words
abbrev pub rows_reported : Arena → (lent : ℕ) → List ℕ
rows_reported a lent =
    report_rows (rule_of a.rule) (capabilities_by a.rule a.capabilities) a.types.now a.members.now (nines 44) (take lent (nines 7))

-- ---- words beside the rows
-- the slots of a type from an offset on
abbrev pub slot_words : Arena → (ty offset : ℕ) → List ℕ
slot_words a ty offset =
    with_masks (nines 3) (slots_answer (capabilities_by a.rule a.capabilities) a.types.now a.members.now (nines 44) ty offset)

-- the place that steps lead to
abbrev pub place_of : Arena → (start : ℕ) (steps : List ℕ) → PlaceAnswer
place_of a start steps = lookup_answer (capabilities_by a.rule a.capabilities) a.types.now a.members.now (nines 44) start steps

abbrev pub place_words : Arena → (start : ℕ) (steps : List ℕ) → List ℕ
place_words a start steps = with_two (nines 3) (byte_of (place_of a start steps)) (leaf_of (place_of a start steps))

-- the choice by a type
abbrev pub choice : Arena → (ty : ℕ) → PassStep
choice a ty = Choose (capabilities_by a.rule a.capabilities) a.types.now a.members.now (nines 44) ty

-- words after a step of the pass that the first n of them are
abbrev pub after_step : PassStep → (n : ℕ) (words : List ℕ) → List ℕ
after_step step n words = with_tried (take n words) (tried_in (take n words) step) ++ drop n words

-- the part of the member table that the rows of a struct are
abbrev pub part_words : Arena → (ty : ℕ) → List ℕ
part_words a ty = with_two (nines 3) (part_start a.types.now a.members.now ty) (part_length a.types.now a.members.now ty)

-- ---- calls without an arena
abbrev pub range_words : (offset size : ℕ) → List ℕ
range_words offset size = with_masks (nines 3) (part_answer (range_slots offset size))

abbrev pub plain_words : (shape width : ℕ) → List ℕ
plain_words shape width = with_numbers (nines 5) (plain_answer shape width)
