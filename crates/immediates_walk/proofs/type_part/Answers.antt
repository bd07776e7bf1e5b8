-- `immediates_walk::type_part` meets its contract. Assumes nothing.
use mathlib.Core.Path.{◌≡◌, sym, ap, ◌∙◌}
use native.Mathlib.Nat.{le_refl, le_antisymm}
use borrow.Author.Tests.{eqb-true, eqb-false}
use Rattle.ir_records.specs.Record.{type_word, struct_kind}
use Rattle.immediates_part.specs.Part.{range_part, part_found}
use Rattle.immediates_walk.proofs.PartsLaws.{part_of_plain, part_of_struct}
use Rattle.immediates_walk.proofs.type_part.Goals as goal

pub returns-then-not-is_of_kind : goal.returns-then-not-is_of_kind
returns-then-not-is_of_kind c =
    let a = c.args.own in
    let offset = c.args.offset in
    let kind : type_word a.types.now a.ty 0 ≡ struct_kind → ⊥ = eqb-false (type_word a.types.now a.ty 0) struct_kind (sym c.is_of_kind.ensures ∙ c.if-not-is_of_kind.true) in
    let size = c.row_word-size.ensures ∙ a.sizes a.ty (le_refl _) in
    c.range_part.ensures ∙ ap (range_part offset) size ∙ sym (part_of_plain a.types.now a.members.now a.ty offset kind)

pub returns-in_err-plain : goal.returns-in_err-plain
returns-in_err-plain c =
    let a = c.args.own in
    let offset = c.args.offset in
    let found = rw c.in_err-plain.was at c.plain_from.ensures.value in
    let kind = eqb-true (type_word a.types.now a.ty 0) struct_kind (sym c.is_of_kind.ensures ∙ c.if-not-is_of_kind.false) in
    ap part_found c.from_residual.ensures ∙ rw (c.start-walk.ensures.of_same, c.start-walk.ensures.offset_same, c.start-walk.ensures.count_value) at found ∙ sym (part_of_struct a.types.now a.members.now a.ty offset kind)

pub returns-then-walk-plain : goal.returns-then-walk-plain
returns-then-walk-plain c =
    let a = c.args.own in
    let offset = c.args.offset in
    let plain = c.plain_from.ensures in
    let last = le_antisymm (rw c.in_ok-plain.was at plain.from_le_taken).1 c.if-walk-plain.true in
    let found = rw c.in_ok-plain.was at plain.value in
    let kind = eqb-true (type_word a.types.now a.ty 0) struct_kind (sym c.is_of_kind.ensures ∙ c.if-not-is_of_kind.false) in
    rw (last, c.start-walk.ensures.of_same, c.start-walk.ensures.offset_same, c.start-walk.ensures.count_value) at found ∙ sym (part_of_struct a.types.now a.members.now a.ty offset kind)

pub returns : goal.returns
returns c =
    let a = c.args.own in
    let offset = c.args.offset in
    let kind = eqb-true (type_word a.types.now a.ty 0) struct_kind (sym c.is_of_kind.ensures ∙ c.if-not-is_of_kind.false) in
    rw (c.start-walk.ensures.of_same, c.start-walk.ensures.offset_same, c.start-walk.ensures.count_value) at c.nested_part.ensures ∙ sym (part_of_struct a.types.now a.members.now a.ty offset kind)
