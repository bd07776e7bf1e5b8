-- `valid_members_plain::plain_members` meets its contract. The invariant: what the definitions have after j members is what the state has, where
-- that held at the start.
-- Assumes nothing.
use Prim.Native.Nat.{ℕ, ◌≤◌}
use Rattle.ir_records.specs.Record.{type_inner}
use Rattle.valid_type_info.specs.TypeInfo.{rows_in}
use Rattle.valid_type_info.specs.declared.UniformRule.{UniformRule}
use Rattle.valid_type_info.specs.declared.Verdict.{Verdict}
use Rattle.valid_type_info.specs.Verdict.{least_for}
use Rattle.valid_members_plain.specs.Serving.{uniform_so_far, HasFailed, PlainAfter}
use Rattle.valid_members_plain.proofs.plain_members.Given as goal

abbrev pub invariant-loop-j : goal.invariant-loop-j
invariant-loop-j l =
    (l.fn.from.taken ≤ l.j)
    × (l.j ≤ l.s.part.count)
    × ((rule : UniformRule) (u : Verdict) (immediates : ℕ) → HasFailed l.initial.state.uniform u
    → PlainAfter (least_for rule) (type_inner l.s.types.now) (rows_in l.s.before.rows.now) l.s.before.i l.s.part.count l.s.span l.s.part.words.now l.fn.from.taken (uniform_so_far l.initial.state.uniform u) immediates l.initial.state
    → HasFailed l.state.uniform u × PlainAfter (least_for rule) (type_inner l.s.types.now) (rows_in l.s.before.rows.now) l.s.before.i l.s.part.count l.s.span l.s.part.words.now l.j (uniform_so_far l.state.uniform u) immediates l.state)
