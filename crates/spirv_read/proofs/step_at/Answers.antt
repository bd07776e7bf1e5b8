-- `spirv_read::step_at` meets its contract. Assumes nothing.
use mathlib.Core.Path.{sym}
use Prim.Native.Nat.{◌*◌}
use native.Mathlib.Omega.{arith}
use lib.ListN.{take}
use Rattle.ir_records.specs.Record.{member_words}
use Rattle.spirv_read.proofs.StepLaws.{type-count, member-count, made_step}
use Rattle.spirv_read.proofs.step_at.Goals as goal

pub returns-in-Some : goal.returns-in-Some
returns-in-Some c =
    let a = c.args in
    let ws = a.place.input.words.now in
    let judged = rw c.in-Some.is at c.in_ok-judge.ensures in
    let told = judged.1 in
    let t = type-count a.space.types a.space.members ws a.place.at a.types.now a.members.now a.alignments.now c.requires.room a.held.types a.held.members c.requires.held in
    let e = c.put_all.ensures in
    rw (e.0, e.1, e.2) (made_step a.space.types a.space.members ws a.place.at a.types.now a.members.now a.alignments.now c.requires.room a.held.types a.held.members c.requires.held _ _ _ told.1 told.2 (omega (arith, told.3, t)) told.4 (sym (judged.0 (take (a.held.members * member_words) a.members.now) (member-count a.space.types a.space.members ws a.place.at a.types.now a.members.now a.alignments.now c.requires.room a.held.types a.held.members c.requires.held))) told.0)
