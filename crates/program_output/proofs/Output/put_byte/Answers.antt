-- `program_output::Output::put_byte` meets its contract: a byte where there is room, and else one that is lost. Assumes nothing.
use native.Mathlib.Omega.{arith}
use Rattle.program_output.proofs.PutLaws.{puts_byte, puts_past}
use Rattle.program_output.proofs.Output.put_byte.Goals as goal

pub returns-then-at-lt1114112 : goal.returns-then-at-lt1114112
returns-then-at-lt1114112 c = let s = c.args.self.now in puts_byte s.bytes s.end c.args.b (omega arith)

pub returns-then-at-eq1114112 : goal.returns-then-at-eq1114112
returns-then-at-eq1114112 c = let s = c.args.self.now in puts_past s.bytes s.end c.args.b _ (omega arith) (omega arith)

pub returns-else-at-eq1114112 : goal.returns-else-at-eq1114112
returns-else-at-eq1114112 c = let s = c.args.self.now in puts_past s.bytes s.end c.args.b _ (omega arith) (omega arith)
