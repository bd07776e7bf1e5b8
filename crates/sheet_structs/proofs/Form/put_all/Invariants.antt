-- `sheet_structs::Form::put_all` meets its contract. The invariant: the structs so far are written. Assumes nothing.
use Rattle.std.specs.Prelude.{[]}
use Rattle.ir_records.specs.Result.{pick}
use Rattle.program_output.specs.Bytes.{joined}
use Rattle.sheet_output.specs.Written.{Writes}
use Rattle.sheet_structs.specs.Structs.{struct_text}
use Rattle.sheet_names.specs.Text.{is_struct}
use Rattle.sheet_structs.proofs.Form.put_all.Given as goal

abbrev pub invariant-loop-i : goal.invariant-loop-i
invariant-loop-i g l =
    let s = l.fn.sheet in
    Writes g.W.Write.contents l.initial.out (joined (λ i. pick (is_struct s.types.now i) (struct_text l.self (l.initial.out.markup) s i) []) l.i) l.out
