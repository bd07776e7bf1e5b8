-- The invariant: the first i records are in order.
use Rattle.std.proofs.Common.{◌≡◌}
use Rattle.ir_records.specs.Fields.{record_at}
use Rattle.ir_records.specs.Table.{first_refusal}
use Rattle.ir_records.specs.Outcome.{Accepted}
use Rattle.ir_fields.proofs.records_ok.Given as goal

abbrev pub invariant-loop-i : goal.invariant-loop-i
invariant-loop-i l = first_refusal (record_at l.types l.members) l.i ≡ Accepted
