-- `place_short::lookup` meets its contract: judging answers first, and an arena that it accepts descends. Assumes nothing.
use Rattle.std.proofs.Common.{rules, Err, ◌≡◌}
use Rattle.ir_records.specs.Refusal.{outcome_of}
use mathlib.Core.Path.{refl, sym, ap, ◌∙◌}
use Rattle.place_lookup.proofs.LookupLaws.{arena_descends}
use Rattle.place_short.specs.Short.{short_lookup}
use Rattle.place_short.proofs.OutcomeLaws.{short_accepted}
use Rattle.place_short.proofs.lookup.Goals as goal

pub place_of-requires : goal.place_of-requires
place_of-requires c = arena_descends _ _ _ (short_accepted _ _ _ _ (sym c.judge.ensures.value ∙ ap outcome_of c.in_ok-judge.was))

pub returns : goal.returns
unfolding short_lookup
returns c =
    record { value = rw (sym c.judge.ensures.value ∙ ap outcome_of c.in_ok-judge.was, ← c.place_of.ensures) c.place_answer.ensures; scratch_after = c.judge.ensures.scratch_after }

pub returns-in_err-judge : goal.returns-in_err-judge
unfolding short_lookup
returns-in_err-judge c =
    let same : c.from_residual.result ≡ Err c.in_err-judge.field-0.0 = search rules in
    record { value = rw (sym c.judge.ensures.value ∙ ap outcome_of c.in_err-judge.was) (rw same refl); scratch_after = c.judge.ensures.scratch_after }
