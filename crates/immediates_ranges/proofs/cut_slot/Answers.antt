-- `immediates_ranges::cut_slot` meets its contract: the slot of a border inside a slot is one bit. Assumes nothing.
use mathlib.Core.Path.{◌∙◌}
use native.Mathlib.Omega.{arith}
use Prim.Native.Nat.{◌/◌, ◌<◌}
use Rattle.immediates_ranges.specs.Slots.{slot_bytes}
use Rattle.immediates_ranges.proofs.PartLaws.{cut_mask, uncut_mask, one_shifted}
use Rattle.immediates_ranges.proofs.cut_slot.Goals as goal

pub returns-then-border-eq0 : goal.returns-then-border-eq0
returns-then-border-eq0 c = let a = c.args in uncut_mask a.border c.if-border-eq0.true

pub returns : goal.returns
returns c =
    let a = c.args in
    let few : a.border < slot_bytes = omega (arith, c.requires, c.if-border-eq0.false) in
    one_shifted (a.border / 4) (omega arith) ∙ cut_mask a.border few c.if-border-eq0.false
