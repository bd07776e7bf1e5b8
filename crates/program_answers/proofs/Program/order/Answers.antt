-- `program_answers::Program::order` meets its contract: the tables, the rows and the words of the struct. Assumes nothing.
use Rattle.std.proofs.Common.{ap, ◌∙◌, List, ℕ, ◌+◌, length}
use Rattle.program_output.specs.Bytes.{ascii, words_line}
use Rattle.program_commands.specs.Commands.{part_of}
use Rattle.program_answers.specs.Answered.{held}
use Rattle.program_answers.proofs.AnsweredLaws.{same_bytes, order_refused, order_found, order_told}
use Rattle.program_answers.proofs.Program.order.Goals as goal

pub returns-in_err-found-clause-after : goal.returns-in_err-found-clause-after
returns-in_err-found-clause-after c =
    let o = c.order_in.ensures in
    order_refused (held c.args.self.now) c.in_ok-rule.was c.args.span c.args.given.now c.order_in.new.arena c.order_in.new.rows
    (rw (c.types_held.ensures, c.rows_held.ensures) at o.arena_after)
    (rw (c.types_held.ensures, c.rows_held.ensures) at o.rows_after)
    c.in_err-found.field-0.0
    (rw (c.types_held.ensures, c.rows_held.ensures) at c.in_err-found.ensures.value)

pub returns-clause-after : goal.returns-clause-after
returns-clause-after c =
    let o = c.order_in.ensures in
    order_found (held c.args.self.now) c.in_ok-rule.was c.args.span c.args.given.now c.order_in.new.arena c.order_in.new.rows
    (rw (c.types_held.ensures, c.rows_held.ensures) at o.arena_after)
    (rw (c.types_held.ensures, c.rows_held.ensures) at o.rows_after)
    c.in_ok-found.found c.hold.new.self
    (rw (c.types_held.ensures, c.rows_held.ensures) at c.in_ok-found.ensures.value)
    (rw (c.types_held.ensures, c.rows_held.ensures) at c.hold.ensures)

pub returns-clause-told : goal.returns-clause-told
returns-clause-told c =
    let given = c.args.given.now in
    let value = rw (c.types_held.ensures, c.rows_held.ensures) at c.in_ok-found.ensures.value in
    same_bytes
    (ap (λ (ws : List ℕ). words_line (ascii "order") ws) c.first_words.ensures
    ∙ ap (λ (ws : List ℕ). words_line (ascii "order") (part_of ws 0 (length given + 2))) c.found_words-words.ensures
    ∙ order_told (held c.args.self.now) c.in_ok-rule.was c.args.span given c.in_ok-found.found value c.in_ok-found.ensures.places)
    c.put_words.ensures
