-- `sheet_output::Writer::put_byte` meets its contract, once there is room. Assumes nothing.
use mathlib.Core.Path.{refl}
use Rattle.sheet_output.proofs.WritesLaws.{writes_put}
use Rattle.sheet_output.proofs.Writer.put_byte.Goals as goal

pub returns : goal.returns
returns g c = writes_put g.W.Write.contents c.make_room.ensures.written c.put_byte.ensures refl refl refl refl
