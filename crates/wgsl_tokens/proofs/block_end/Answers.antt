-- `wgsl_tokens::block_end` meets its contract. The invariant: the tokens from `at` on in one comment are those from i on in so many. Assumes nothing.
use mathlib.Core.Path.{◌∙◌}
use mathlib.Core.List.{[]}
use lib.ListN.{drop_of_length-le}
use Rattle.wgsl_tokens.specs.Tokens.{tokens}
use Rattle.wgsl_tokens.proofs.block_end.Goals as goal

pub returns : goal.returns
unfolding tokens
returns c =
    let l = c.loop-i in
    ([], l.invariant.3 ∙ rw (drop_of_length-le c.args.s.now c.loop-i-test.false))
