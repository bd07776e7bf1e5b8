use Rattle.std.proofs.Common.{rules, ◌≡◌, ◌+◌, ◌*◌, ◌≤◌, ◌<◌, length, refl, sym, ap, arith}
use borrow.Author.Tests.{le-leb, lt-ltb}
use Rattle.ir_records.specs.Record.{type_words}
use Rattle.ir_rows.proofs.RowLaws.{drop_part}
use Rattle.wgsl_grammar.specs.Grammar.{read}
use Rattle.wgsl_structs.proofs.StructLaws.{struct_is}
use Rattle.wgsl_structs.proofs.close_struct.Goals as goal

pub returns : goal.returns
returns c =
    let t = c.requires.room-types in
    let m : (c.round_up_wide-span.result ≤ 4294967295) × (c.in_ok-size.size ≡ c.round_up_wide-span.result) = search (rules, c.try_from.ensures, c.in_ok-size.ensures.cases) in
    let b = c.args.body in
    let fits : c.round_up_wide-span.result ≤ 4294967295 = omega (arith, m.0) in
    let named : c.args.state.structs < length c.args.structs.now = omega (arith, t.1, c.requires.fewer, c.requires.names, c.if-room-body.false) in
    let room : b.made.types * type_words + type_words ≤ length c.args.types.now = omega (arith, t.2, c.if-room-body.false) in (
      λ s members names rows. rw (c.put_type.ensures, c.of-w.ensures, m.1, ← c.round_up_wide-span.ensures.0, le-leb c.round_up_wide-span.result 4294967295 fits, lt-ltb b.made.types c.args.room c.if-room-body.false, c.round_up_wide-span.ensures.0)
          (ap read (sym (struct_is s c.args.structs.now names c.args.types.now members c.args.state b c.args.name named room))),
      refl,
      refl,
      omega (arith, c.if-room-body.false),
      refl,
      rw c.put_type.ensures (drop_part type_words c.args.types.now _ (b.made.types * type_words) refl room ((b.made.types + 1) * type_words) (omega arith)),
    )
