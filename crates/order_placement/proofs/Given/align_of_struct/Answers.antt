use mathlib.Core.Path.{refl, ◌∙◌}
use Rattle.std.specs.Prelude.{max}
use Rattle.std.proofs.Common.{rules, arith}
use Rattle.std.proofs.lemmas.Iterator.{YieldsList-from_range}
use Rattle.std.proofs.lemmas.Iterator.Consumers.{fold_from_yields_List}
use Rattle.order_placement.specs.Placement.{align_of, align_of_struct}
use Rattle.order_placement.proofs.PlacementLaws.{fold_alignments}
use Rattle.order_placement.proofs.Given.align_of_struct.Goals as goal

pub returns : goal.returns
unfolding align_of_struct
returns c =
    let a = c.args in
    fold_from_yields_List _ (λ most m. max most (align_of a.self.rows.now a.self.wanted.now m)) 1 c.fold.result c.fold.ensures.ran (YieldsList-from_range 0 a.n a.n refl (omega arith)) (λ d x b q k. search rules)
    ∙ fold_alignments a.self.rows.now a.self.wanted.now a.n
