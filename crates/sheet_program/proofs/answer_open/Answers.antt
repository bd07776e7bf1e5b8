-- `sheet_program::answer_open` meets its contract: what is printed of the text is printed of the input that it is. Assumes nothing.
use mathlib.Core.Path.{◌≡◌, subst}
use mathlib.Core.List.{List}
use Prim.Native.Nat.{ℕ}
use Rattle.std.specs.Prelude.{Option, None, Some, IfSome}
use Rattle.sheet_output.specs.Written.{lent}
use Rattle.sheet_program.specs.Printed.{Printed}
use Rattle.sheet_program.proofs.answer_open.Goals as goal

-- what holds of a text holds of the bytes that it is, where they are known
of_input : (P : List ℕ → Type 0) (input : Option (List ℕ)) (text : List ℕ) → IfSome input (λ bytes. text ≡ bytes) → P text → IfSome input P
of_input P None text e p = tt
of_input P (Some bytes) text e p = subst P e p

pub returns-in-Some : goal.returns-in-Some
returns-in-Some g c =
    let a = c.answer.ensures in
    let left = g.S.Read.remaining c.args.source.now in
    let before = g.W.Write.contents c.args.to.now in
    let after = g.W.Write.contents c.answer.new.to in
    λ written. of_input (λ input. Printed c.args.asked (lent c.args.name) input before after) left c.in-Some.text.now c.in-Some.ensures.bytes (a.0, a.1, a.2 written)
