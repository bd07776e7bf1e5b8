-- `wgsl_tokens::line_end` meets its contract. The invariant: the tokens from `at` on are those from i on. Assumes nothing.
use mathlib.Core.Path.{◌≡◌}
use lib.ListN.{drop}
use Rattle.wgsl_tokens.specs.Tokens.{line, tokens}
use Rattle.wgsl_tokens.proofs.line_end.Given as goal

abbrev pub invariant-loop-i : goal.invariant-loop-i
invariant-loop-i l = tokens line (drop l.at l.s) ≡ tokens line (drop l.i l.s)
