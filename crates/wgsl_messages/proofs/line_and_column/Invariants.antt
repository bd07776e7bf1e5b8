-- `wgsl_messages::line_and_column` meets its contract. The invariant: line and column are those of byte i. Assumes nothing.
use mathlib.Core.Path.{◌≡◌}
use Rattle.wgsl_messages.specs.Position.{line_of, column_of}
use Rattle.wgsl_messages.proofs.line_and_column.Given as goal

abbrev pub invariant-loop-i : goal.invariant-loop-i
invariant-loop-i l = (l.line ≡ line_of l.text l.i) × (l.column ≡ column_of l.text l.i)
