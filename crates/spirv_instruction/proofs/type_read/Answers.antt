-- `spirv_instruction::type_read` meets its contract. Assumes nothing.
use borrow.Author.Tests.{ltb-true, leb-true}
use mathlib.Core.Path.{sym}
use Prim.Native.Nat.{◌+◌}
use lib.Dec.{ltb}
use Rattle.std.proofs.lemmas.Bool.{and_parts}
use Rattle.spirv_instruction.proofs.BoundLaws.{typed_bounds, rows_sound}
use Rattle.spirv_instruction.proofs.InstructionLaws.{some_rows, some-rows, read_made}
use Rattle.spirv_instruction.proofs.type_read.Goals as goal

pub returns-then-count-space : goal.returns-then-count-space
returns-then-count-space c =
    let a = c.args in
    let ws = a.known.place.input.words.now in
    let p = and_parts (ltb c.type_count-count.result a.space.types) _ c.if-count-space.true in (
      (λ ms e. rw c.row_count-rows.ensures.0 (sym (read_made a.space.types a.space.members ws a.known.place.at (record { types = a.known.tables.types.now; members = ms; alignments = a.known.tables.alignments.now }) _ (sym (c.in_ok-typed.ensures ms e)) (rw (c.type_count-count.ensures, c.row_count-rows.ensures.0, sym e) at c.if-count-space.true)))),
      (
        typed_bounds ws (record { types = a.known.tables.types.now; members = some_rows a.known.rows; alignments = a.known.tables.alignments.now }) a.known.place.at a.known.tables.bounded _ (sym (c.in_ok-typed.ensures (some_rows a.known.rows) (some-rows a.known.rows))),
        rw c.type_count-count.ensures at (ltb-true c.type_count-count.result a.space.types p.0),
        leb-true (a.known.rows + c.row_count-rows.result) a.space.members p.1,
        rw c.row_count-rows.ensures.0 (rows_sound ws (record { types = a.known.tables.types.now; members = some_rows a.known.rows; alignments = a.known.tables.alignments.now }) a.known.place.at _ (sym (c.in_ok-typed.ensures (some_rows a.known.rows) (some-rows a.known.rows)))),
      ),
    )
