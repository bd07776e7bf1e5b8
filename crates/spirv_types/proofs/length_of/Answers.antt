-- `spirv_types::length_of` meets its contract: what is named as a constant is one. Assumes nothing.
use mathlib.Core.Path.{sym}
use Rattle.spirv_ids.proofs.PlaceLaws.{constant_given}
use Rattle.spirv_types.proofs.length_of.Goals as goal

pub constant_length-requires : goal.constant_length-requires
constant_length-requires c =
    let a = c.args in
    let g = c.in-Some-ConstantAt in
    constant_given a.place.input.words.now a.place.at _ g.at (sym (rw g.field-0-is at g.ensures))
