use mathlib.Core.Path.{◌≡◌, sym, ◌∙◌, ap}
use Prim.Native.Nat.{◌*◌}
use native.Mathlib.Omega.{arith}
use lib.ListN.{take-append-drop}
use Rattle.ir_records.specs.Refusal.{outcome_of, refused_by}
use Rattle.ir_records.specs.Outcome.{Accepted}
use Rattle.ir_records.proofs.RecordLaws.{tables_fitting}
use Rattle.valid_type_info.specs.Verdict.{least_for}
use Rattle.valid_arena.specs.Arena.{arena_rows}
use Rattle.valid_arena.proofs.CheckLaws.{all_passed, also_judged}
use Rattle.valid_arena.proofs.judge_tables.Goals as goal

pub judge_all-requires : goal.judge_all-requires
judge_all-requires c =
    let s = c in
    let f = tables_fitting _ _ _ s.requires.rows_value in
    record { n_in_bounds = omega (arith, f.rows, s.requires.n_value); n_in_bounds_2 = omega (arith, f.whole, s.requires.n_value) }

pub refused-requires : goal.refused-requires
refused-requires c =
    let s = c in
    record { n_value = s.requires.n_value; rows_value = rw c.judge_all.auto.rows s.requires.rows_value }

pub returns-in-Err : goal.returns-in-Err
returns-in-Err c =
    let a = c.args in let ts = a.types.now in let ms = a.members.now in
    let j = c.judge_all in
    let r = c.refused in
    let met : outcome_of j.result ≡ refused_by c.in-Err.found = ap outcome_of c.in-Err.is in
    record {
      value = rw (sym met ∙ j.ensures.value, c.requires.n_value) at r.ensures.value ∙ also_judged (least_for a.rule) a.capabilities ts ms;
      rows_after = rw (← j.ensures.rows_unchanged) r.ensures.rows_after;
    }

pub returns : goal.returns
unfolding arena_rows
returns c =
    let a = c.args in
    let j = c.judge_all in
    let e : outcome_of j.result ≡ Accepted = ap outcome_of c.in_default.is in
    record {
      value = sym (all_passed (least_for a.rule) a.capabilities a.types.now a.members.now (rw c.requires.n_value at (sym j.ensures.value ∙ e)));
      rows_after = rw (← j.ensures.rows_after e, ← j.ensures.rows_unchanged) (sym (take-append-drop (a.n * 14) j.new.rows));
    }
