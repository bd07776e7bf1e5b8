-- `place_lookup::lookup` meets its contract: the check answers first, and an arena that it accepts descends. Assumes nothing.
use mathlib.Core.Path.{◌≡◌, sym, ap, ◌∙◌}
use Rattle.std.proofs.Common.{rules, Err}
use Rattle.ir_records.specs.Refusal.{outcome_of}
use Rattle.place_lookup.specs.Answer.{place_answer_of}
use Rattle.place_lookup.specs.Place.{lookup_answer}
use Rattle.place_lookup.proofs.LookupLaws.{answer_accepted, arena_descends}
use Rattle.place_lookup.proofs.lookup.Goals as goal

pub place_of-requires : goal.place_of-requires
place_of-requires c = arena_descends _ _ _ (answer_accepted _ _ _ _ (sym c.check.ensures.value ∙ ap outcome_of c.in_ok-check.was))

pub returns : goal.returns
unfolding lookup_answer
returns c =
    record { value = rw (sym c.check.ensures.value ∙ ap outcome_of c.in_ok-check.was, ← c.place_of.ensures) c.place_answer.ensures; rows_after = c.check.ensures.rows_after }

pub returns-in_err-check : goal.returns-in_err-check
unfolding lookup_answer
returns-in_err-check c =
    let same : c.from_residual.result ≡ Err c.in_err-check.field-0.0 = search rules in
    record { value = rw (sym c.check.ensures.value ∙ ap outcome_of c.in_err-check.was) (ap place_answer_of same); rows_after = c.check.ensures.rows_after }
