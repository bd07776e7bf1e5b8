use mathlib.Core.Path.{refl}
use Rattle.proc_plain_types.specs.Serving.{entry_in}
use Rattle.proc_plain_types.proofs.entry_in.Goals as goal

pub returns : goal.returns
unfolding entry_in
returns c = refl
