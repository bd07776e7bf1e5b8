use mathlib.Core.Path.{◌≡◌, refl}
use Prim.Native.Nat.{ℕ}
use native.Mathlib.Omega.{arith}
use lib.ListN.{get_or-eq_default}
use Rattle.ir_rows.specs.Rows.{row_word}
use Rattle.valid_type_info.specs.TypeInfo.{rows_in}
use Rattle.valid_type_rows.proofs.row_at.Goals as goal

pub returns-then-at-rows : goal.returns-then-at-rows
unfolding rows_in
returns-then-at-rows c = rw (c.own_word-then-at-rows-3.ensures, c.verdict_at-then-at-rows.ensures, c.verdict_at.ensures, c.own_word-then-at-rows-2.ensures, c.own_word-then-at-rows.ensures, c.own_word.ensures) refl

pub returns : goal.returns
unfolding rows_in
returns c =
    let a = c.args in
    let past : (j : ℕ) → row_word a.rows.now a.k j ≡ 0 = λ j. get_or-eq_default a.rows.now 0 (omega (arith, c.if-at-rows.false, c.requires)) in
    rw (c.empty_row.ensures, past 0, past 1, past 2, past 3, past 4, past 5, past 6, past 7, past 8, past 9, past 10, past 11, past 12, past 13) refl
