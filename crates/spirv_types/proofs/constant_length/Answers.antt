-- `spirv_types::constant_length` meets its contract: the constant is of an integer type. Assumes nothing.
use Rattle.spirv_types.proofs.TypeLaws.{integer_missing}
use Rattle.spirv_types.proofs.constant_length.Goals as goal

pub returns-in_err-integer : goal.returns-in_err-integer
returns-in_err-integer c = absurd (integer_missing c.args.input.words.now c.args.at c.requires c.in_err-integer.ensures)
