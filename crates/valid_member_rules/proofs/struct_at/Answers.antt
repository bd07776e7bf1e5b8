use mathlib.Core.Path.{refl, sym, ◌∙◌}
use borrow.Author.Tests.{eqb-true, eqb-false}
use Rattle.ir_records.specs.Record.{type_inner, inner_of, type_word}
use Rattle.valid_member_rules.proofs.KindLaws.{no_struct_kind}
use Rattle.valid_member_rules.proofs.struct_at.Goals as goal

pub returns-then-is_of_kind : goal.returns-then-is_of_kind
unfolding type_inner inner_of
returns-then-is_of_kind c = rw (eqb-true (type_word c.args.types.now c.args.t 0) 8 (sym c.is_of_kind.ensures ∙ c.if-is_of_kind.true), c.type_word-span.ensures) refl

pub returns : goal.returns
unfolding type_inner
returns c =
    let a = c.args in
    let w = type_word a.types.now a.t in
    sym (no_struct_kind (w 0) (w 1) (w 2) (w 3) (w 4) (w 5) a.offset (eqb-false (w 0) 8 (sym c.is_of_kind.ensures ∙ c.if-is_of_kind.false)))
