-- `wgsl_tokens::block_end` meets its contract. The invariant: the tokens from `at` on in one comment are those from i on in so many. Assumes nothing.
use mathlib.Core.Path.{◌≡◌}
use Prim.Native.Nat.{◌-◌, ◌≤◌}
use lib.ListN.{length, drop}
use Rattle.wgsl_tokens.specs.Tokens.{block, tokens}
use Rattle.wgsl_tokens.proofs.block_end.Given as goal

abbrev pub invariant-loop-i : goal.invariant-loop-i
invariant-loop-i l = (l.at ≤ l.i) × (1 ≤ l.depth) × (l.depth ≤ l.i) × (tokens (block 0 1) (drop l.at l.s) ≡ tokens (block 0 l.depth) (drop l.i l.s))

abbrev pub decreases-loop-i : goal.decreases-loop-i
decreases-loop-i l = length l.s - l.i
