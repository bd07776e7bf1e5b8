use mathlib.Core.Path.{◌≡◌}
use Rattle.valid_blend.specs.Blend.{source_at}
use Rattle.valid_blend.proofs.source_at.Given as goal

abbrev pub invariant-loop-j : goal.invariant-loop-j
invariant-loop-j l = source_at l.part l.word l.n ≡ source_at l.part l.word l.j
