-- `wgsl_tokens::token_start` meets its contract. The invariant: the tokens from `at` on are those from i on. Assumes nothing.
use mathlib.Core.Path.{◌≡◌}
use Prim.Native.Nat.{◌-◌}
use lib.ListN.{length}
use Rattle.wgsl_tokens.specs.Tokens.{from}
use Rattle.wgsl_tokens.proofs.token_start.Given as goal

abbrev pub invariant-loop-i : goal.invariant-loop-i
invariant-loop-i l = from l.s l.at ≡ from l.s l.i

abbrev pub decreases-loop-i : goal.decreases-loop-i
decreases-loop-i l = length l.s - l.i
