use mathlib.Core.Path.{◌≡◌, sym, ◌∙◌}
use Rattle.valid_width.specs.Width.{check_width}
use Rattle.valid_width.proofs.WidthLaws.{float_by_number}
use Rattle.valid_width.proofs.check_width.Goals as goal

pub returns-in-Ok-Float : goal.returns-in-Ok-Float
unfolding check_width
returns-in-Ok-Float c =
    let kind : 2 ≡ c.args.kind = rw c.in-Ok-Float.field-0-is at c.in-Ok-Float.ensures in
    rw (sym kind) (c.number_width-in-Ok-Float.ensures ∙ float_by_number c.args.capabilities c.args.width)
