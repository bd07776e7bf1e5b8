use Rattle.wgsl_structs.specs.Serving.{declarations}
use Rattle.wgsl_read.proofs.TextLaws.{text_filled}
use Rattle.wgsl_read.proofs.fill.Goals as goal

pub returns : goal.returns
returns c = text_filled c.args.text.now (declarations _ _ c.args.types.now c.args.members.now) (declarations _ _ c.read_declarations.new.types c.read_declarations.new.members) c.room_in-room.result c.room_in-room.ensures c.read_declarations.result c.read_declarations.ensures
