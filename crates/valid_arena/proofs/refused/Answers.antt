use Rattle.ir_records.specs.Refusal.{outcome_of}
use mathlib.Core.Path.{◌≡◌, refl, sym, ap, ◌∙◌}
use mathlib.Core.List.{List, ◌++◌}
use Prim.Native.Nat.{ℕ, ◌*◌}
use native.Mathlib.Omega.{arith}
use lib.ListN.{drop, replicate}
use Rattle.ir_records.proofs.RecordLaws.{tables_fitting}
use Rattle.valid_arena.proofs.CheckLaws.{laid_out, laid_rest, layout_refused}
use Rattle.valid_arena.proofs.refused.Goals as goal

pub clear-requires : goal.clear-requires
clear-requires c =
    let s = c in
    let f = tables_fitting _ _ _ s.requires.rows_value in
    omega (arith, f.rows, s.requires.n_value, c.layout.auto.rows)

pub returns-in-Err : goal.returns-in-Err
returns-in-Err c =
    let a = c.args in
    let laid = c.layout in
    let l = layout_refused a.types.now a.members.now a.rows.now c.requires.rows_value (sym laid.ensures.value ∙ ap outcome_of c.in-Err.is) in
    record { value = rw l.0 refl; rows_after = rw c.requires.n_value (laid.ensures.rows_after ∙ l.1) }

pub returns-in-Ok : goal.returns-in-Ok
returns-in-Ok c =
    let a = c.args in
    let ts = a.types.now in let ms = a.members.now in let rows = a.rows.now in
    let laid = c.layout in
    let l = laid_out ts ms rows (sym laid.ensures.value ∙ ap outcome_of c.in-Ok.is) in
    let rest : drop (a.n * 14) laid.new.rows ≡ drop (a.n * 14) rows = rw (c.requires.n_value, laid.ensures.rows_after) (laid_rest ts ms rows l) in
    record { value = rw l.outcome refl; rows_after = c.clear.ensures ∙ ap (λ (words : List ℕ). replicate (a.n * 14) 0 ++ words) rest }
