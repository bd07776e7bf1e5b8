use Rattle.std.proofs.Common.{refl, arith}
use native.Mathlib.Nat.{mod-zero}
use Rattle.proc_alignment.proofs.MaskLaws.{mask_remainder}
use Rattle.proc_alignment.proofs.is_aligned.Goals as goal

pub returns-then-alignment-eq0 : goal.returns-then-alignment-eq0
returns-then-alignment-eq0 c = rw (c.if-alignment-eq0.true, mod-zero) refl

pub returns-then-alignment-below-eq0 : goal.returns-then-alignment-below-eq0
returns-then-alignment-below-eq0 c = let a = c.args in rw (mask_remainder a.alignment a.n (omega arith) c.if-alignment-below-eq0.true) refl
