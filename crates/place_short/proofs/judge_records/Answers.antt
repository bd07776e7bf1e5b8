use Rattle.ir_records.specs.Refusal.{outcome_of, refused_by}
use mathlib.Core.Path.{◌≡◌, sym, ap, ◌∙◌}
use mathlib.Core.List.{List, ◌++◌}
use Prim.Native.Nat.{ℕ, ◌*◌}
use lib.ListN.{replicate, take-append-drop}
use Rattle.ir_records.specs.Record.{decoded}
use Rattle.ir_records.specs.Table.{first_refusal}
use Rattle.ir_records.specs.Outcome.{Outcome, Accepted}
use Rattle.proc_layouter.specs.Layouter.{layout_at}
use Rattle.place_short.specs.Short.{scratch_after}
use Rattle.place_short.proofs.OutcomeLaws.{arena_also, arena_passed}
use Rattle.place_short.proofs.RefusedLaws.{refused_scratch}
use Rattle.place_short.proofs.judge_records.Goals as goal

pub returns : goal.returns
returns c =
    let a = c.args in
    let j = c.judge_all in
    let e : outcome_of j.result ≡ Accepted = ap outcome_of c.in_default.is in
    let records = rw c.requires.n_value at a.arena.in_order in
    record {
      value = sym (arena_passed a.arena.capabilities a.arena.types.now a.arena.members.now records (rw c.requires.n_value at (sym j.ensures.value ∙ e)));
      words_after = rw (← j.ensures.words_after e, ← j.ensures.words_unchanged) (sym (take-append-drop (a.arena.n * 3) j.new.words));
    }

pub returns-in-Err : goal.returns-in-Err
returns-in-Err c =
    let a = c.args in
    let ts = a.arena.types.now in
    let ms = a.arena.members.now in
    let j = c.judge_all in
    let r = c.refused in
    let found = ap outcome_of c.in-Err.is in
    let records = rw c.requires.n_value at a.arena.in_order in
    let zeros = refused_scratch (first_refusal (layout_at (decoded ts ms)) a.arena.n) (refused_by c.in-Err.found) a.arena.capabilities ts ms a.arena.n a.words.now tt in
    record {
      value = rw (sym (sym j.ensures.value ∙ found), c.requires.n_value) at r.ensures.value ∙ arena_also a.arena.capabilities ts ms records;
      words_after = r.ensures.words_after ∙ ap (λ (words : List ℕ). replicate (a.arena.n * 3) 0 ++ words) j.ensures.words_unchanged ∙ sym zeros ∙ ap (λ (o : Outcome). scratch_after o a.arena.capabilities ts ms a.arena.n a.words.now) (sym r.ensures.value);
    }
