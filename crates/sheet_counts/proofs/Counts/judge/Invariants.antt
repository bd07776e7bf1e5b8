-- `sheet_counts::Counts::judge` meets its contract. The invariant: rows and report stay, and the slots so far are counted. Assumes nothing.
use mathlib.Core.Path.{◌≡◌}
use lib.ListN.{length}
use Rattle.sheet_counts.specs.Counts.{slots_of, Counted, judged_rows}
use Rattle.sheet_counts.proofs.Counts.judge.Given as goal

abbrev pub invariant-loop-i : goal.invariant-loop-i
invariant-loop-i l = record {
  rows : l.self.rows ≡ judged_rows l.rule l.capabilities l.records l.fn.self.rows;
  report : l.self.report ≡ l.initial.self.report;
  long : length l.self.slots ≡ length l.initial.self.slots;
  counted : Counted (slots_of l.capabilities l.records l.self.rows) l.i l.self.slots l.self.slots;
}
