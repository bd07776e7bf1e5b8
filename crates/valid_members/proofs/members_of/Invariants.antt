-- `valid_members::members_of` meets its contract. The invariant: state is what the definition has after j members. Assumes nothing.
use mathlib.Core.Path.{◌≡◌}
use Prim.Native.Nat.{◌≤◌, ◌-◌}
use Rattle.ir_records.specs.Result.{ok}
use Rattle.ir_records.specs.Record.{type_inner}
use Rattle.valid_type_info.specs.TypeInfo.{rows_in}
use Rattle.valid_type_info.specs.Verdict.{least_for}
use Rattle.valid_members.specs.Serving.{state_after}
use Rattle.valid_members.proofs.members_of.Given as goal

abbrev pub invariant-loop-reached : goal.invariant-loop-reached
invariant-loop-reached l = (l.reached.taken ≤ l.s.part.count) × (state_after (least_for l.rule) (type_inner l.s.types.now) (rows_in l.s.before.rows.now) l.s.before.i l.s.part.count l.s.span l.s.part.words.now l.reached.taken ≡ ok l.reached.state)

abbrev pub decreases-loop-reached : goal.decreases-loop-reached
decreases-loop-reached l = l.s.part.count - l.reached.taken
