-- Words that are kept, written over and put back.
-- Assumes nothing.
use mathlib.Core.Path.{◌≡◌, refl, sym, ap, ◌∙◌}
use mathlib.Core.List.{List}
use Prim.Native.Nat.{ℕ, ◌+◌, ◌≤◌}
use native.Mathlib.Omega.{arith}
use borrow.Rule.Slice.PartMut.{put_mid}
use lib.ListN.{length, take, drop, take-append-drop, length-drop}
use lib.Seq.{paste, take_all, take-add, take-take, take_at, length-take-le}
use mathlib.Core.Bool.{true}
use Rattle.std.specs.Prelude.{Result, Ok, Err}
use Rattle.std.specs.Result.{is_err}
use Rattle.std.proofs.lemmas.Slice.{put_mid-paste, take-put_mid}
use Rattle.ir_records.specs.Refusal.{outcome_of}
use Rattle.ir_records.specs.declared.Refusal.{Refusal}
use Rattle.ir_rows.specs.Rows.{with_part}
use Rattle.ir_rows.proofs.RowLaws.{take_part, drop_part}
use Rattle.order_check.specs.Tables.{if_accepted}

-- a refusal leaves what was kept
pub refused-kept : (r : Result (Unit {0}) Refusal) (written kept : List ℕ) → is_err r ≡ true → if_accepted (outcome_of r) written kept ≡ kept
refused-kept (Ok u) written kept e = cc
refused-kept (Err f) written kept e = refl

-- the first words of a buffer after words were copied there
pub front-kept : (buffer words : List ℕ) (n k : ℕ) → length words ≡ n → take n (put_mid 0 k buffer words) ≡ words
front-kept buffer words n k long = take-put_mid 0 k buffer words n (omega (arith, long)) (omega arith)

-- putting them back over a part
pub restored : (d part kept : List ℕ) (at n k : ℕ) → k ≡ n → length part ≡ n → at + n ≤ length d → kept ≡ take n (drop at d)
    → put_mid at k (with_part n d at part) kept ≡ d
restored d part kept at n k same l h e =
    let long : length kept ≡ n = rw e (length-take-le n (drop at d) (rw length-drop (omega arith))) in
    let all : take n kept ≡ take n (drop at d) = take_all n kept (omega (arith, long)) ∙ e in
    let before : take at (with_part n d at part) ≡ take at d =
    sym (take-take at (at + n) (with_part n d at part) (omega arith))
    ∙ ap (take at) (take_part n d part at l h)
    ∙ take_at (take at d) part at (length-take-le at d (omega arith)) in
    let pasted : paste (with_part n d at part) at kept n ≡ d = rw (before, drop_part n d part at l h (at + n) (omega arith), all, ← take-add at n d) (take-append-drop (at + n) d) in
    put_mid-paste at k (with_part n d at part) kept kept n refl (sym same) (sym long) ∙ pasted
