use Rattle.ir_records.specs.Record.{type_inner}
use Rattle.valid_type_flags.proofs.KindLaws.{struct_by_kind}
use Rattle.valid_type_flags.proofs.is_struct.Goals as goal

pub returns : goal.returns
unfolding type_inner
returns c = rw c.is_of_kind.ensures (struct_by_kind _ _ _ _ _ _)
