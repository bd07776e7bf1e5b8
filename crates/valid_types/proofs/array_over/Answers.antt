use mathlib.Core.Path.{refl, sym, ◌∙◌}
use Prim.Native.Nat.{◌*◌}
use native.Mathlib.Omega.{arith}
use lib.Seq.{length-take-le}
use Rattle.valid_flags.proofs.SizeLaws.{array_by_form}
use Rattle.valid_types.proofs.array_over.Goals as goal

pub slice_bounds-row_at-end-2 : goal.slice_bounds-row_at-end-2
slice_bounds-row_at-end-2 c = let a = c.args in sym (length-take-le (a.i * 14) a.rows.now (omega (arith, c.requires)))

pub row_at-element-requires : goal.row_at-element-requires
row_at-element-requires c = let a = c.args in rw (length-take-le (a.i * 14) a.rows.now (omega (arith, c.requires))) (omega arith)

pub returns-then-not-is_sized_data : goal.returns-then-not-is_sized_data
returns-then-not-is_sized_data c = rw (← c.row_at-element.ensures, sym c.is_sized_data.ensures ∙ c.if-not-is_sized_data.true) (rw c.of.ensures refl, refl)

pub returns : goal.returns
returns c =
    let w = c.args.w in
    let flags = c.row_at-element.result.flags in
    rw (← c.row_at-element.ensures, sym c.is_sized_data.ensures ∙ c.if-not-is_sized_data.false, ← array_by_form w.b w.c flags)
    (refl, rw (c.flags_over_base-flags.ensures, c.array_size.ensures, c.array_verdict-storage.ensures, c.array_verdict-uniform.ensures) at c.put.ensures)
