-- `valid_blend::sources_of` meets its contract. The invariant: the blend sources of the first j members pass.
-- Assumes nothing.
use mathlib.Core.Path.{◌≡◌}
use Rattle.ir_records.specs.Result.{ok}
use Rattle.valid_flags.specs.Flags.{bit}
use Rattle.valid_width.specs.Width.{dual_source_blending}
use Rattle.valid_blend.specs.Blend.{sources_after}
use Rattle.valid_blend.proofs.sources_of.Given as goal

abbrev pub invariant-loop-j : goal.invariant-loop-j
invariant-loop-j l = sources_after (bit l.capabilities dual_source_blending) l.part l.j ≡ ok tt
