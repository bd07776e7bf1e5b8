use Rattle.wgsl_types.specs.Types.{array_of}
use Rattle.wgsl_types.proofs.array_of.Goals as goal

pub returns : goal.returns
unfolding array_of
returns c = rw (← c.count_at.ensures, c.in_ok-counted.was) (c.close_array.ensures c.args.s.now)
