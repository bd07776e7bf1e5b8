use Rattle.valid_type_info.specs.TypeInfo.{rows_in}
use Rattle.valid_member_rules.proofs.joined_verdict.Goals as goal

pub returns : goal.returns
unfolding rows_in
returns c = rw (c.share_verdict-shared.ensures, c.is_host_shareable-shareable.ensures, c.word.ensures) at c.member_verdict_at.ensures
