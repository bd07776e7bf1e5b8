-- `spirv_read::read_from` meets its contract. The invariant: the reading from `at` on, of the records that are held, is the whole reading. Assumes nothing.
use borrow.Author.Rules.{rules}
use mathlib.Core.Path.{◌≡◌, refl}
use Rattle.std.specs.Prelude.{Err}
use Rattle.spirv_read.proofs.ReadLaws.{reading_starts, reading_refused, reading_goes, ended_section, ended_types, ended_members}
use Rattle.spirv_read.proofs.read_from.Goals as goal

pub loop-at-init : goal.loop-at-init
loop-at-init c =
    let a = c.args in
    let none : c.default-held.result ≡ record { types = 0; members = 0 } = search rules in
    rw none
    (reading_starts a.space.types a.space.members a.input.words.now a.types.now a.members.now a.alignments.now c.requires)

pub returns-in_err-held : goal.returns-in_err-held
returns-in_err-held c =
    let a = c.args in
    let ws = a.input.words.now in
    let l = c.loop-at in
    let same : c.from_residual.result ≡ Err c.in_err-held.field-0.0 = search rules in
    let e = reading_refused a.space.types a.space.members ws a.types.now a.members.now a.alignments.now l.at l.types l.members l.alignments l.held.types l.held.members l.invariant c.loop-at-test.true _ c.in_err-held.ensures in
    rw (same, e) (refl, tt, tt)

pub loop-at-preserved : goal.loop-at-preserved
loop-at-preserved c =
    let a = c.args in
    let ws = a.input.words.now in
    let l = c.loop-at in
    let s = c.in_ok-held.ensures in
    let k = c.step_at.auto in
    rw c.word_count-count.ensures.0
    (reading_goes a.space.types a.space.members ws a.types.now a.members.now a.alignments.now l.at l.types l.members l.alignments l.held.types l.held.members l.invariant c.loop-at-test.true _ _ _ _ _ s k.types k.members k.alignments)

pub returns : goal.returns
returns c =
    let a = c.args in
    let ws = a.input.words.now in
    let l = c.loop-at in
    let h = c.loop-at-test.false in (
      ended_section a.space.types a.space.members ws a.types.now a.members.now a.alignments.now l.at l.types l.members l.alignments l.held.types l.held.members l.invariant h,
      ended_types a.space.types a.space.members ws a.types.now a.members.now a.alignments.now l.at l.types l.members l.alignments l.held.types l.held.members l.invariant h,
      ended_members a.space.types a.space.members ws a.types.now a.members.now a.alignments.now l.at l.types l.members l.alignments l.held.types l.held.members l.invariant h,
    )
