use Rattle.std.proofs.Common.{rules, Err, ◌≡◌}
use mathlib.Core.Path.{refl, sym, ◌∙◌, ap}
use Prim.Native.Nat.{◌*◌}
use native.Mathlib.Omega.{arith}
use lib.ListN.{take}
use lib.Seq.{length-take-le}
use Rattle.ir_records.specs.Refusal.{judged}
use Rattle.valid_types.proofs.TypeRowLaws.{array_row_is, refused_row}
use Rattle.valid_types.proofs.array_row.Goals as goal

pub slice_bounds-array_record-end-2 : goal.slice_bounds-array_record-end-2
slice_bounds-array_record-end-2 c = let a = c.args in sym (length-take-le (a.i * 14) a.rows.now (omega (arith, c.requires)))

pub returns : goal.returns
returns c =
    let a = c.args in
    λ k m n inner members.
    let laid = sym (c.array_record.ensures m n members) ∙ ap judged c.in_ok-layout.was in
    rw (array_row_is a.least k m n inner (take (a.i * 14) a.rows.now) a.i a.w.a a.w.b a.w.c a.w.d a.w.e members _ laid)
    c.array_over.ensures

pub returns-in_err-layout : goal.returns-in_err-layout
returns-in_err-layout c =
    let a = c.args in
    let same : c.from_residual.result ≡ Err c.in_err-layout.field-0.0 = search rules in
    λ k m n inner members.
    rw (refused_row a.least k m n inner (take (a.i * 14) a.rows.now) a.i 7 a.w.a a.w.b a.w.c a.w.d a.w.e members (sym (c.array_record.ensures m n members) ∙ ap judged c.in_err-layout.was))
    (ap judged same, refl)
