use mathlib.Core.Path.{sym, ◌∙◌}
use native.Mathlib.Omega.{arith}
use Rattle.std.proofs.Common.{Some, None}
use Rattle.ir_records.specs.Record.{type_inner}
use Rattle.valid_blend.proofs.BlendLaws.{blend_by}
use Rattle.valid_blend.proofs.struct_blend.Goals as goal

pub returns-in-None-None : goal.returns-in-None-None
returns-in-None-None g c =
    let a = c.args in
    let first = rw c.in-None-None.is-0 at c.source_at-first.ensures in
    let second = rw c.in-None-None.is-1 at c.source_at-second.ensures in
    λ before gives. sym (blend_by (type_inner a.types.now) before a.part.words.now a.part.count a.flags None None first second)

pub returns-in-Some-Some : goal.returns-in-Some-Some
returns-in-Some-Some g c =
    let a = c.args in
    let w = c.in-Some-Some in
    let first = rw w.is-0 at c.source_at-first.ensures in
    let second = rw w.is-1 at c.source_at-second.ensures in
    λ before gives.
    c.pair_of.ensures before (sym (rw c.member_type-s.ensures at (gives c.member_type-s.result c.flags_of.result (omega arith) c.flags_of.ensures)))
    ∙ sym (blend_by (type_inner a.types.now) before a.part.words.now a.part.count a.flags (Some w.a) (Some w.b) first second)

pub returns-in-None-Some : goal.returns-in-None-Some
returns-in-None-Some g c =
    let a = c.args in
    let w = c.in-None-Some in
    let first = rw w.is-0 at c.source_at-first.ensures in
    let second = rw w.is-1 at c.source_at-second.ensures in
    λ before gives. rw c.into.ensures (sym (blend_by (type_inner a.types.now) before a.part.words.now a.part.count a.flags None (Some w.field-0-1) first second))

pub returns : goal.returns
returns g c =
    let a = c.args in
    let w = c.in-Some-None in
    let first = rw w.is-0 at c.source_at-first.ensures in
    let second = rw w.is-1 at c.source_at-second.ensures in
    λ before gives. rw c.into-in-Some-None.ensures (sym (blend_by (type_inner a.types.now) before a.part.words.now a.part.count a.flags (Some w.field-0-0) None first second))
