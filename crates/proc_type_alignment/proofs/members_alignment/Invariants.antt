-- `proc_type_alignment::members_alignment` meets its contract. The invariant: the first j members are earlier types, a is their largest
-- alignment, and where sources is 0 none of them has a blend source.
-- Assumes nothing.
use mathlib.Core.Path.{◌≡◌}
use Rattle.ir_records.specs.Result.{ok}
use Rattle.ir_records.specs.Record.{Sourceless}
use Rattle.proc_type_alignment.specs.TypeAlignment.{members_alignment}
use Rattle.proc_type_alignment.specs.Serving.{layouts_in}
use Rattle.proc_type_alignment.proofs.members_alignment.Given as goal

abbrev pub invariant-loop-j : goal.invariant-loop-j
invariant-loop-j l =
    (members_alignment (layouts_in l.before.rows.now) l.before.i l.part.words.now l.j ≡ ok l.a) × (l.sources ≡ 0 → Sourceless l.part.words.now l.j)
