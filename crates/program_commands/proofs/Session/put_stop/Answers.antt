-- `program_commands::Session::put_stop` meets its contract: no bytes where the session goes on. Assumes nothing.
use mathlib.Core.Logic.{inl, inr}
use Rattle.program_output.proofs.PutLaws.{puts_none}
use Rattle.program_commands.proofs.Session.put_stop.Goals as goal

pub returns-in-Reading : goal.returns-in-Reading
returns-in-Reading c = elim c.in-Reading.is [
  | inl reading ↦ rw reading (puts_none _ _)
  | inr ended ↦ rw ended (puts_none _ _)
]
