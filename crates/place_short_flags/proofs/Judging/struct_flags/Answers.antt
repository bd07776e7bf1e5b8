use Rattle.std.proofs.Common.{rules, Err, ◌≡◌}
use mathlib.Core.Path.{refl, sym, ◌∙◌, ap}
use Prim.Native.Nat.{◌<◌}
use native.Mathlib.Omega.{arith}
use borrow.Author.Tests.{lt-ltb}
use Rattle.ir_records.specs.Record.{type_inner}
use Rattle.valid_flags.specs.Flags.{bit}
use Rattle.valid_width.specs.Width.{dual_source_blending}
use Rattle.ir_records.specs.Refusal.{judged}
use Rattle.valid_blend.proofs.BlendLaws.{blended_refused, flags_taken, flags_refused}
use Rattle.valid_types.specs.ValidateType.{flags_of}
use Rattle.place_short_flags.specs.ShortFlags.{short_sizes, short_flags}
use Rattle.place_short_flags.proofs.MembersLaws.{not_false_too}
use Rattle.place_short_flags.proofs.Judging.struct_flags.Goals as goal

pub returns-then-part-eq0 : goal.returns-then-part-eq0
unfolding flags_of
returns-then-part-eq0 c = rw (c.if-part-eq0.true, c.of.ensures) refl

pub source_before-requires : goal.source_before-requires
source_before-requires c =
    let a = c.args in
    let error = sym (rw c.in-Err.is at c.members_of.ensures.result_value) in
    let below = (blended_refused (bit a.self.capabilities dual_source_blending) (type_inner a.self.types.now) (short_sizes a.self.words.now) (short_flags a.self.words.now) a.part.count a.span a.part.words.now a.part.count _ _ _ error).0 in
    record { member_words_in_bounds = omega (arith, below, a.part.counted); member_bound = omega (arith, below, c.ranges); sourceless = λ e. absurd (not_false_too e) }

pub returns-in-Ok : goal.returns-in-Ok
unfolding flags_of
returns-in-Ok c =
    let a = c.args in
    let some : 0 < a.part.count = omega (arith, c.if-part-eq0.false) in
    let taken = sym (rw c.in-Ok.is at c.members_of.ensures.result_value) in
    let flags = flags_taken (bit a.self.capabilities dual_source_blending) (type_inner a.self.types.now) (short_sizes a.self.words.now) (short_flags a.self.words.now) a.part.count a.span a.part.words.now _ taken ∙ sym (c.blended_flags.ensures (short_flags a.self.words.now) (λ t r b h. search rules)) in
    rw (lt-ltb 0 a.part.count some, flags) refl

pub returns-in_ok-source_before-in-Err : goal.returns-in_ok-source_before-in-Err
unfolding flags_of
returns-in_ok-source_before-in-Err c =
    let a = c.args in
    let some : 0 < a.part.count = omega (arith, c.if-part-eq0.false) in
    let error = sym (rw c.in-Err.is at c.members_of.ensures.result_value) in
    let source = sym c.source_before.ensures ∙ ap judged c.in_ok-source_before-in-Err.was in
    let flags = flags_refused (bit a.self.capabilities dual_source_blending) (type_inner a.self.types.now) (short_sizes a.self.words.now) (short_flags a.self.words.now) a.part.count a.span a.part.words.now _ _ _ error in
    rw (lt-ltb 0 a.part.count some, flags, source) refl

pub returns-in_err-source_before-in-Err : goal.returns-in_err-source_before-in-Err
unfolding flags_of
returns-in_err-source_before-in-Err c =
    let a = c.args in
    let some : 0 < a.part.count = omega (arith, c.if-part-eq0.false) in
    let error = sym (rw c.in-Err.is at c.members_of.ensures.result_value) in
    let source = sym c.source_before.ensures ∙ ap judged c.in_err-source_before-in-Err.was in
    let same : c.from_residual.result ≡ Err c.in_err-source_before-in-Err.field-0.0 = search rules in
    let flags = flags_refused (bit a.self.capabilities dual_source_blending) (type_inner a.self.types.now) (short_sizes a.self.words.now) (short_flags a.self.words.now) a.part.count a.span a.part.words.now _ _ _ error in
    rw (lt-ltb 0 a.part.count some, flags, source) (ap judged same)
