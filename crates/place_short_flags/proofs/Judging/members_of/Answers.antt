-- `place_short_flags::members_of` meets its contract. The invariant: bounds and previous are what the definitions have after j members, and where
-- sources is 0 none of them has a blend source. Assumes nothing.
use Rattle.std.proofs.Common.{rules, Err, ◌≡◌, ap}
use mathlib.Core.Path.{refl, sym, ◌∙◌}
use native.Mathlib.Nat.{le_antisymm}
use native.Mathlib.Omega.{arith}
use borrow.Author.Tests.{eqb-true, not-false}
use Rattle.ir_records.specs.Record.{type_inner}
use Rattle.proc_type_alignment.proofs.AlignmentLaws.{one_more_sourceless}
use Rattle.valid_type_info.specs.Verdict.{previous_of}
use Rattle.valid_member_bounds.specs.MemberBounds.{bounds_after}
use Rattle.place_short_flags.specs.ShortFlags.{short_sizes, short_flags}
use Rattle.place_short_flags.specs.Serving.{taken_result}
use Rattle.place_short_flags.proofs.MembersLaws.{previous_next, member_taken, member_refused}
use Rattle.place_short_flags.proofs.Judging.members_of.Goals as goal

pub loop-j-init : goal.loop-j-init
unfolding bounds_after previous_of
loop-j-init c = (rw c.starting_flags.ensures refl, refl, λ e j h. absurd (omega (arith, h)))

pub returns-in_err-bounds : goal.returns-in_err-bounds
returns-in_err-bounds c =
    let a = c.args in
    let l = c.loop-j in
    let same : c.from_residual.result ≡ Err c.in_err-bounds.field-0.0 = search rules in
    let refused = rw (c.in_err-bounds.was, l.invariant.1) at (sym c.member_step.ensures) in
    record {
      result_value = ap taken_result same ∙ sym (member_refused (type_inner a.self.types.now) (short_sizes a.self.words.now) (short_flags a.self.words.now) a.part.count a.span a.part.words.now l.j l.bounds l.invariant.0 _ _ _ refused a.part.count c.loop-j-test.true);
      sources_known = rw same tt;
    }

pub loop-j-preserved : goal.loop-j-preserved
loop-j-preserved c =
    let a = c.args in
    let l = c.loop-j in
    let taken = rw (c.in_ok-bounds.was, l.invariant.1) at (sym c.member_step.ensures) in (
      member_taken (type_inner a.self.types.now) (short_sizes a.self.words.now) (short_flags a.self.words.now) a.part.count a.span a.part.words.now l.j l.bounds l.invariant.0 _ taken,
      rw (c.offset_of.ensures, c.type_of.ensures) at c.struct_at-previous.ensures ∙ sym (previous_next (type_inner a.self.types.now) (short_sizes a.self.words.now) (short_flags a.self.words.now) a.part.count a.span a.part.words.now l.j),
      λ e. one_more_sourceless a.part.words.now l.j l.sources l.invariant.2 (rw c.source_of-sources.ensures at e),
    )
