-- `sheet_names::type_places` meets its contract. The invariant: the types before those that are left have their places. Assumes nothing.
use Rattle.std.proofs.Common.{refl}
use Rattle.sheet_names.specs.Module.{type_instructions}
use Rattle.sheet_names.proofs.PlaceLaws.{placing_starts, placing_reads, placing_passes, placing_ends}
use Rattle.sheet_names.proofs.type_places.Goals as goal

pub loop-at-init : goal.loop-at-init
loop-at-init c =
    let ws = c.args.words.now in
    let i = c.instructions-at-items.ensures in
    rw (c.into_iter-at-iterator.ensures.into_iter_gives, i.words, i.at, i.end) (placing_starts ws (type_instructions ws) 1024 _ _ refl refl refl)

pub loop-at-preserved-then-is_read-i : goal.loop-at-preserved-then-is_read-i
loop-at-preserved-then-is_read-i c =
    let ws = c.args.words.now in
    let l = c.loop-at in
    let test = rw (c.is_read.ensures, c.opcode_of.ensures) at c.if-is_read-i.true in
    placing_reads ws (type_instructions ws) l.i l.places c.in-Some.at _ test (rw c.in-Some.ensures.steps at l.invariant)

pub loop-at-preserved : goal.loop-at-preserved
loop-at-preserved c =
    let ws = c.args.words.now in
    let l = c.loop-at in
    let test = rw (c.is_read.ensures, c.opcode_of.ensures) at c.if-is_read-i.false in
    placing_passes ws (type_instructions ws) l.i l.places c.in-Some.at _ test (rw c.in-Some.ensures.steps at l.invariant)

pub returns : goal.returns
returns c =
    let ws = c.args.words.now in
    let l = c.loop-at in
    placing_ends ws (type_instructions ws) l.i l.places (rw c.in-None.ensures.steps.0 at l.invariant)
