use Rattle.valid_type_info.specs.TypeInfo.{rows_in}
use Rattle.valid_member_rules.proofs.storage_at.Goals as goal

pub returns : goal.returns
unfolding rows_in
returns c = c.joined_verdict.ensures
