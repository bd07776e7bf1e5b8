use Rattle.ir_records.specs.Record.{type_inner}
use Rattle.valid_member_bounds.proofs.KindLaws.{array_by_kind}
use Rattle.valid_member_bounds.proofs.is_array.Goals as goal

pub returns : goal.returns
unfolding type_inner
returns c = rw c.is_of_kind.ensures (array_by_kind _ _ _ _ _ _)
