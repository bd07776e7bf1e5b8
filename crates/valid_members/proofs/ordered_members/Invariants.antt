-- `valid_members::ordered_members` meets its contract. The invariant: state is what the definition has after j members. Assumes nothing.
use mathlib.Core.Path.{◌≡◌}
use Prim.Native.Nat.{◌≤◌}
use Rattle.ir_records.specs.Result.{ok}
use Rattle.ir_records.specs.Record.{type_inner}
use Rattle.valid_type_info.specs.TypeInfo.{rows_in}
use Rattle.valid_type_info.specs.Verdict.{least_for}
use Rattle.valid_members.specs.Serving.{state_after}
use Rattle.valid_members.proofs.ordered_members.Given as goal

abbrev pub invariant-loop-j : goal.invariant-loop-j
invariant-loop-j l =
    (l.fn.from.taken ≤ l.j)
    × (l.j ≤ l.s.part.count)
    × (state_after (least_for l.rule) (type_inner l.s.types.now) (rows_in l.s.before.rows.now) l.s.before.i l.s.part.count l.s.span l.s.part.words.now l.fn.from.taken ≡ ok l.fn.from.state
    → state_after (least_for l.rule) (type_inner l.s.types.now) (rows_in l.s.before.rows.now) l.s.before.i l.s.part.count l.s.span l.s.part.words.now l.j ≡ ok l.state)
