use mathlib.Core.Path.{refl, ◌∙◌, ap}
use mathlib.Core.Bool.{not}
use Rattle.std.proofs.Common.{rules, arith}
use borrow.Author.Tests.{tests}
use Rattle.std.proofs.lemmas.Iterator.{YieldsList-from_range}
use Rattle.std.proofs.lemmas.Iterator.Search.{any_from_yields_List}
use Rattle.ir_records.specs.Record.{member_count}
use Rattle.ir_records.specs.Fields.{is_unlocated}
use Rattle.ir_records.proofs.RecordLaws.{any_unlocated}
use Rattle.ir_records.proofs.sources_located.Goals as goal

pub returns : goal.returns
returns c =
    let part = c.args.part.now in
    let f = is_unlocated part in
    ap not (any_from_yields_List f _ _ c.any.result c.any.ensures.ran (YieldsList-from_range 0 (member_count part) (member_count part) (rw c.member_count.ensures refl) (omega arith)) (λ x b q k. search (rules, tests)))
    ∙ any_unlocated part (member_count part)
