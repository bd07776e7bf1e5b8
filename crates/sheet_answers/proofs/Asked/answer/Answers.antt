-- `sheet_answers::Asked::answer` meets its contract: what is sent from an empty buffer is all that is written. Assumes nothing.
use mathlib.Core.Path.{sym, ◌∙◌, ap, subst}
use mathlib.Core.List.{List, ◌++◌}
use Prim.Native.Nat.{ℕ}
use Rattle.std.proofs.Common.{rules}
use Rattle.program_output.proofs.SendsLaws.{sends_both}
use Rattle.sheet_output.specs.Written.{lent}
use Rattle.sheet_structs.specs.Text.{start_text}
use Rattle.sheet_answers.specs.Judged.{Sent}
use Rattle.sheet_answers.specs.Answers.{SaysOf}
use Rattle.sheet_answers.proofs.FileLaws.{says_module, says_text, writer_whole}
use Rattle.sheet_answers.proofs.Asked.answer.Goals.{then-is_module, else-is_module}
use Rattle.sheet_answers.proofs.Asked.answer.Goals as goal

pub returns : goal.returns
returns g c =
    let asked = c.args.self in
    let bytes = c.args.bytes.now in
    let k = g.W.Write.contents in
    let at = c.put_start.new.out in
    let start = c.put_start.ensures in
    let new = c.new-out.ensures in
    let marks = new.markup ∙ c.markup.ensures in
    let said : (x : List ℕ) × SaysOf asked bytes x × Sent k at x (c.if-is_module.out) =
    elim c.if-is_module.branch [
      | then-is_module w ↦
          let a = w.answer_module.ensures in
          let says = says_module asked (at.markup) bytes a.0 (start.marks ∙ marks) (sym c.is_module.ensures ∙ w.if-is_module.true) a.1 in
          (a.0, says, subst (λ o. Sent k at a.0 o) (sym w.out-is) a.2)
      | else-is_module w ↦
          let a = w.answer_text.ensures in
          let says = says_text asked (at.markup) bytes a.0 (start.marks ∙ marks) (sym c.is_module.ensures ∙ w.if-is_module.false) a.1 in
          (a.0, says, subst (λ o. Sent k at a.0 o) (sym w.out-is) a.2)
    ] in
    let sent = said.2.1 in
    let sink = sym (sent.sink ∙ start.sink ∙ new.to.1) in
    let end = c.finish.ensures in (
      _,
      (said.0, said.1, ap (λ m. start_text (asked.form) m (lent (c.args.name)) ++ said.0) marks),
      writer_whole k (c.new-out.result) (c.if-is_module.out) (c.new-output.result) (c.args.to.now) _ _ _ (sends_both start.sends sent.sends) new.out.0 new.to.0
          c.new-output.ensures.none_waits c.new-output.ensures.room c.finish.result end.past end.written (search (rules, sink)),
    )
