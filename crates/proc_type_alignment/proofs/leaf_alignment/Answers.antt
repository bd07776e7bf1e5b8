use mathlib.Core.Path.{refl, sym, ◌∙◌}
use Rattle.proc_type_alignment.proofs.leaf_alignment.Goals as goal

pub returns-then-power_of_two : goal.returns-then-power_of_two
returns-then-power_of_two c = rw (sym c.power_of_two.ensures ∙ c.if-power_of_two.true) refl
