-- `immediates_ranges::range_slots` meets its contract: the two shifts and the meet give the slots that the part covers, its borders those that it covers
-- only in part. Assumes nothing.
use mathlib.Core.Path.{◌≡◌, sym, ap, ap₂, ◌∙◌}
use native.Mathlib.Omega.{arith}
use Prim.Native.Nat.{ℕ, ◌+◌, ◌-◌, ◌/◌, ◌%◌, ◌^◌, ◌<◌, min}
use lib.Bits.{bit_or}
use borrow.Author.Tests.{ne_eqb, le-leb}
use Rattle.immediates_ranges.specs.Slots.{slot_bytes, range_slots}
use Rattle.immediates_ranges.specs.Slots.{Mask}
use Rattle.immediates_ranges.proofs.RangeLaws.{shifts, range_mask}
use Rattle.immediates_ranges.proofs.PartLaws.{partly_mask}
use Rattle.immediates_ranges.proofs.range_slots.Goals as goal

pub returns : goal.returns
unfolding range_slots
returns c =
    let a = c.args in
    let empty = c.if-size-eq0.false in
    let past = c.if-end-gt-SLOT_BYTES.false in
    let some : 0 < a.size = omega (arith, empty) in
    let lo = a.offset / 4 in
    let hi = c.div_ceil-hi.result in
    let rounded : (a.offset + a.size) / 4 + min 1 ((a.offset + a.size) % 4) ≡ (a.offset + a.size + 3) / 4 = omega arith in
    let up : hi ≡ (a.offset + a.size + 3) / 4 = c.div_ceil-hi.ensures ∙ rounded in
    let word = shifts 64 lo hi (omega (arith, up)) (omega (arith, past, up)) in
    let mask = range_mask a.offset a.size 64 some (omega (arith, past)) in
    let borders = ap₂ bit_or c.cut_slot-first.ensures c.cut_slot-last.ensures in
    let part = partly_mask a.offset a.size some in
    rw (ne_eqb a.size 0 empty, le-leb (a.offset + a.size) slot_bytes past) (ap₂ Mask (word ∙ ap (λ (h : ℕ). 2 ^ h - 2 ^ lo) up ∙ sym mask) (borders ∙ part))
