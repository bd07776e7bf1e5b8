use Rattle.std.proofs.Common.{arith}
use Rattle.std.proofs.lemmas.Grind.{common_steps}
use Rattle.ir_records.specs.Fields.{record_at}
use Rattle.ir_fields.proofs.record_at.Goals as goal

pub returns-then-not-sources_located : goal.returns-then-not-sources_located
unfolding record_at
returns-then-not-sources_located c = grind (arith, common_steps)

pub returns : goal.returns
unfolding record_at
returns c = grind (arith, common_steps)
