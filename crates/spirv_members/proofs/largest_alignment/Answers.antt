-- `spirv_members::largest_alignment` meets its contract. Assumes nothing.
use mathlib.Core.Path.{refl, ◌∙◌}
use Rattle.std.proofs.Common.{rules, arith}
use Rattle.std.proofs.lemmas.Iterator.{YieldsList-from_range}
use Rattle.std.proofs.lemmas.Iterator.Consumers.{fold_from_yields_List}
use Rattle.spirv_members.proofs.MemberLaws.{with_alignment, fold_largest}
use Rattle.spirv_members.proofs.largest_alignment.Goals as goal

pub returns : goal.returns
returns c =
    let a = c.args in
    let step = with_alignment a.place.input.words.now a.place.at a.tables.alignments.now in
    fold_from_yields_List _ step 1 c.fold.result c.fold.ensures.ran (YieldsList-from_range 0 a.n a.n refl (omega arith)) (λ d x b q k. search rules)
    ∙ fold_largest a.place.input.words.now a.place.at a.tables.alignments.now a.n
