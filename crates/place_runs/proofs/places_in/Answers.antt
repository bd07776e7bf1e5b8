-- `place_runs::places_in` meets its contract: one judging, then the answers, or none in a refused arena. Assumes nothing.
use mathlib.Core.Path.{◌≡◌, sym, ap, ◌∙◌}
use Prim.Native.Nat.{ℕ}
use lib.ListN.{length, replicate}
use Rattle.std.proofs.Common.{rules}
use Rattle.ir_records.proofs.RefusalLaws.{IsRefused}
use Rattle.ir_records.specs.Outcome.{Accepted}
use Rattle.place_short.specs.Short.{short_answer}
use Rattle.place_runs.specs.Runs.{run_count}
use Rattle.place_runs.specs.Places.{none_word}
use Rattle.place_runs.proofs.PlacesLaws.{ok_accepted, else_refused, pairs_answers, pairs_refused, descends_where}
use Rattle.place_runs.proofs.places_in.Goals as goal

pub fill-requires : goal.fill-requires
fill-requires c =
    let a = c.args in
    let p = c.requires in
    let accepted : short_answer a.capabilities a.types.now a.members.now a.scratch.now ≡ Accepted = sym c.judge-outcome.ensures.value ∙ ok_accepted c.judge-outcome.result (sym c.is_ok.ensures.value ∙ c.if-is_ok.true) in
    record { descends = descends_where a.capabilities a.types.now a.members.now a.scratch.now a.queries.now accepted; whole = p.whole; pairs = p.pairs }

pub returns-then-is_ok : goal.returns-then-is_ok
returns-then-is_ok c =
    let a = c.args in
    let accepted : short_answer a.capabilities a.types.now a.members.now a.scratch.now ≡ Accepted = sym c.judge-outcome.ensures.value ∙ ok_accepted c.judge-outcome.result (sym c.is_ok.ensures.value ∙ c.if-is_ok.true) in
    let pairs = pairs_answers a.capabilities a.types.now a.members.now a.scratch.now a.queries.now accepted in
    record { value = c.judge-outcome.ensures.value; scratch_after = c.judge-outcome.ensures.scratch_after; answers_after = rw pairs at c.fill.ensures }

pub returns-else-is_ok : goal.returns-else-is_ok
returns-else-is_ok c =
    let a = c.args in
    let refused : IsRefused (short_answer a.capabilities a.types.now a.members.now a.scratch.now) = rw c.judge-outcome.ensures.value at (else_refused c.judge-outcome.result (sym c.is_ok.ensures.value ∙ c.if-is_ok.false)) in
    let filled : c.fill-else-is_ok.new.self ≡ replicate (length a.answers.now) none_word = search rules in
    let none = filled ∙ ap (λ (k : ℕ). replicate k none_word) c.requires.pairs ∙ pairs_refused a.capabilities a.types.now a.members.now a.scratch.now a.queries.now refused (run_count a.queries.now) in
    record { value = c.judge-outcome.ensures.value; scratch_after = c.judge-outcome.ensures.scratch_after; answers_after = none }
