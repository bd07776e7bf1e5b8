-- The four words of an answer are those of the code's, whatever stands beside them.
-- Assumes nothing.
use Rattle.std.specs.Prelude as std
use Rattle.std.specs.Result.{ResultUnwrapsOrElse}
use mathlib.Core.Path.{◌≡◌, refl, ap}
use Rattle.ir_records.specs.Refusal.{outcome_of}
use Rattle.ir_records.specs.declared.Fault.{Fault}
use Rattle.ir_records.specs.declared.Records.{Records}
use Rattle.ir_records.specs.declared.Refusal.{Refusal}
use Rattle.immediates_ranges.specs.declared.Slots.{Slots}
use Rattle.immediates_ranges.specs.Slots.{slots_answer_of}
use Rattle.place_descent.specs.declared.Place.{Place}
use Rattle.place_lookup.specs.Answer.{place_answer_of}
use Rattle.place_report.specs.declared.Totals.{Totals}
use Rattle.place_report.specs.Answer.{report_answer_of}
use Rattle.proc_plain_types.specs.declared.PlainLayout.{PlainLayout}
use Rattle.proc_plain_types.specs.PlainTypes.{plain_answer_of}
use Rattle.spirv_read.specs.Section.{section_answer_of}
use Rattle.wgsl_read.specs.TextAnswer.{text_answer_of}
use Rattle.doors_words.specs.Words.{slots_outcome, place_outcome, plain_outcome, totals_outcome, section_outcome, text_outcome, types_read, members_read, text_types, text_members, touched_of, partly_of}
use Rattle.doors_words.specs.Read.{read_outcome, records_of}

pub slots_told : (r : std.Result Slots Refusal) → outcome_of r ≡ slots_outcome (slots_answer_of r)
slots_told (std.Ok s) = refl
slots_told (std.Err e) = refl

pub place_told : (r : std.Result Place Refusal) → outcome_of r ≡ place_outcome (place_answer_of r)
place_told (std.Ok p) = refl
place_told (std.Err e) = refl

pub plain_told : (r : std.Result PlainLayout Refusal) → outcome_of r ≡ plain_outcome (plain_answer_of r)
plain_told (std.Ok p) = refl
plain_told (std.Err e) = refl

pub totals_told : (r : std.Result Totals Refusal) → outcome_of r ≡ totals_outcome (report_answer_of r)
totals_told (std.Ok t) = refl
totals_told (std.Err e) = refl

pub section_told : (r : std.Result Records Fault) → read_outcome r ≡ section_outcome (section_answer_of r)
section_told (std.Ok x) = refl
section_told (std.Err e) = refl

pub text_told : (r : std.Result Records Fault) → read_outcome r ≡ text_outcome (text_answer_of r)
text_told (std.Ok x) = refl
text_told (std.Err e) = refl

pub section_counts : (r : std.Result Records Fault)
    → ((records_of r).types ≡ types_read (section_answer_of r)) × ((records_of r).members ≡ members_read (section_answer_of r))
section_counts (std.Ok x) = (refl, refl)
section_counts (std.Err e) = (refl, refl)

pub text_counts : (r : std.Result Records Fault)
    → ((records_of r).types ≡ text_types (text_answer_of r)) × ((records_of r).members ≡ text_members (text_answer_of r))
text_counts (std.Ok x) = (refl, refl)
text_counts (std.Err e) = (refl, refl)

-- ---- zeros in the place of what a refusal doesn't have
pub slots_or : (r : std.Result Slots Refusal) (P : Slots → Type 0) (s : Slots) → (P s → (s.touched ≡ 0) × (s.partly ≡ 0)) → ResultUnwrapsOrElse r P s
    → (s.touched ≡ touched_of (slots_answer_of r)) × (s.partly ≡ partly_of (slots_answer_of r))
slots_or (std.Ok t) P s zero told = (ap (λ (x : Slots). x.touched) told, ap (λ (x : Slots). x.partly) told)
slots_or (std.Err e) P s zero told = zero told
