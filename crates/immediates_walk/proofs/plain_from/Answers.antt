-- `immediates_walk::plain_from` meets its contract: the invariant is that part is the part of the members up to j. Assumes nothing.
use mathlib.Core.Path.{◌≡◌, sym, ap, ◌∙◌}
use native.Mathlib.Omega.{arith}
use Prim.Native.Nat.{ℕ, ◌+◌, ◌<◌}
use borrow.Author.Tests.{eqb-false}
use Rattle.ir_records.specs.Record.{decoded, type_word, struct_kind, struct_members}
use Rattle.proc_alignment.specs.Alignment.{most}
use Rattle.immediates_part.specs.Part.{range_part}
use Rattle.immediates_walk.proofs.PartsLaws.{part_of_plain, member_beyond, member_late, part_refused, part_more}
use Rattle.immediates_walk.proofs.plain_from.Goals as goal

pub returns-in_err-at-clause-value : goal.returns-in_err-at-clause-value
returns-in_err-at-clause-value c =
    let w = c.args.walk in
    let a = w.of in
    let own = c.requires in
    let p = rw own at c.member_type-t.ensures in
    let q = ap (λ (x : ℕ). w.offset + x) (rw own at c.member_offset.ensures) in
    let past : most < w.offset + c.member_offset.result = omega (arith, c.in_err-at.ensures) in
    rw c.from_residual.ensures
    (member_beyond (decoded a.types.now a.members.now) a.ty (struct_members a.types.now a.members.now a.ty) w.offset c.loop-j.j p q past w.count c.loop-j-test.true)

pub returns-then-walk-t-clause-value : goal.returns-then-walk-t-clause-value
returns-then-walk-t-clause-value c =
    let w = c.args.walk in
    let a = w.of in
    let own = c.requires in
    let p = rw own at c.member_type-t.ensures in
    let q = ap (λ (x : ℕ). w.offset + x) (rw own at c.member_offset.ensures) in
    member_late (decoded a.types.now a.members.now) a.ty (struct_members a.types.now a.members.now a.ty) w.offset c.loop-j.j p q c.if-walk-t.true w.count c.loop-j-test.true

pub returns-in_err-whole-clause-value : goal.returns-in_err-whole-clause-value
returns-in_err-whole-clause-value c =
    let w = c.args.walk in
    let a = w.of in
    let own = c.requires in
    let t = c.member_type-t in
    let ts = a.types.now in
    let q = c.in_ok-at.ensures.1 ∙ ap (λ (x : ℕ). w.offset + x) (rw own at c.member_offset.ensures) in
    let early : t.result < a.ty = omega (arith, c.if-walk-t.false) in
    let kind : type_word ts t.result 0 ≡ struct_kind → ⊥ = eqb-false (type_word ts t.result 0) struct_kind (sym c.is_of_kind.ensures ∙ c.if-is_of_kind.false) in
    let size = c.row_word-size.ensures ∙ a.sizes t.result (omega (arith, early)) in
    let part = c.in_err-whole.ensures ∙ ap (range_part c.in_ok-at.at) size in
    rw c.from_residual-in_err-whole.ensures
    (part_refused (decoded ts a.members.now) a.ty (struct_members ts a.members.now a.ty) w.offset c.loop-j.j (rw own at t.ensures) q early
    (part ∙ sym (part_of_plain ts a.members.now t.result c.in_ok-at.at kind)) w.count c.loop-j-test.true)

pub loop-j-preserved : goal.loop-j-preserved
loop-j-preserved c =
    let w = c.args.walk in
    let a = w.of in
    let own = c.requires in
    let t = c.member_type-t in
    let ts = a.types.now in
    let q = c.in_ok-at.ensures.1 ∙ ap (λ (x : ℕ). w.offset + x) (rw own at c.member_offset.ensures) in
    let early : t.result < a.ty = omega (arith, c.if-walk-t.false) in
    let kind : type_word ts t.result 0 ≡ struct_kind → ⊥ = eqb-false (type_word ts t.result 0) struct_kind (sym c.is_of_kind.ensures ∙ c.if-is_of_kind.false) in
    let size = c.row_word-size.ensures ∙ a.sizes t.result (omega (arith, early)) in
    let part = c.in_ok-whole.ensures ∙ ap (range_part c.in_ok-at.at) size in
    part_more (decoded ts a.members.now) a.ty (struct_members ts a.members.now a.ty) w.offset c.loop-j.j (rw own at t.ensures) q early c.loop-j.invariant
    (part ∙ sym (part_of_plain ts a.members.now t.result c.in_ok-at.at kind)) c.join-part.ensures
