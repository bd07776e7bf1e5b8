-- `wgsl_names::same` meets its contract: words that are as long are alike from both ends just where they are the same. Assumes nothing.
use mathlib.Core.Path.{refl, ◌∙◌}
use Rattle.std.proofs.Common.{rules, arith, tests}
use Rattle.std.proofs.lemmas.Iterator.{YieldsList-from_range}
use Rattle.std.proofs.lemmas.Iterator.Search.{all_from_yields_List}
use Rattle.wgsl_names.proofs.SameLaws.{alike, half, from_both_ends, other_length}
use Rattle.wgsl_names.proofs.same.Goals as goal

pub returns-then-n-b : goal.returns-then-n-b
returns-then-n-b c =
    let a = c.args.a.now in
    let b = c.args.b.now in
    all_from_yields_List (alike a b) _ _ c.all.result c.all.ensures.ran (YieldsList-from_range 0 (half a b) (half a b) refl (omega arith)) (λ x r q k. search (rules, tests))
    ∙ from_both_ends a b (search (rules, tests))

pub returns-else-n-b : goal.returns-else-n-b
returns-else-n-b c = search (rules, tests, other_length)
