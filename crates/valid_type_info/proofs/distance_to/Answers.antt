use mathlib.Core.Path.{refl}
use Rattle.valid_type_info.specs.Verdict.{distance_ok, distance_verdict}
use Rattle.valid_type_info.proofs.distance_to.Goals as goal

pub returns-in-None : goal.returns-in-None
unfolding distance_ok distance_verdict
returns-in-None c = record { within = rw c.in-None.is refl; verdict = λ rule i j v e. rw c.in-None.is refl }

pub returns-in-Some : goal.returns-in-Some
returns-in-Some c = rw (c.in-Some.is, c.unwrap_or.ensures) c.distance_from.ensures
