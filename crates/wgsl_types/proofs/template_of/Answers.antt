-- A type whose scalar is its inner type: its record is made, and then its own.
use Rattle.std.proofs.Common.{arith}
use Rattle.std.proofs.lemmas.Result.{err_from_is_err_and}
use Rattle.ir_records.specs.Record.{type_words}
use Rattle.wgsl_tokens.specs.Tokens.{from}
use Rattle.wgsl_tables.specs.Tables.{records_in}
use Rattle.wgsl_types.specs.Types.{scalar_type, close_template}
use Rattle.wgsl_types.proofs.TypeLaws.{read_on, inner_read}
use Rattle.wgsl_types.proofs.template_of.Goals as goal

pub returns-in_err-inner : goal.returns-in_err-inner
returns-in_err-inner c =
    let a = c.args in
    let whole = scalar_type a.room (records_in type_words a.types.now a.made) a.scalar (from a.s.now a.end.at) in
    let i = inner_read a.s.now a.room a.made a.types.now c.make_scalar.new.types whole c.make_scalar.result c.map_err.result c.map_err.ensures.cases (c.make_scalar.ensures a.s.now) in
    let t = rw c.in_err-inner.was at i in
    let p = err_from_is_err_and c.from_residual.result c.from_residual.ensures.1 in
    rw (p.1, p.2) (t (λ e made rest. close_template a.room a.template a.scalar made rest))

pub close_template-requires : goal.close_template-requires
close_template-requires c =
    let a = c.args in
    let whole = scalar_type a.room (records_in type_words a.types.now a.made) a.scalar (from a.s.now a.end.at) in
    let i = inner_read a.s.now a.room a.made a.types.now c.make_scalar.new.types whole c.make_scalar.result c.map_err.result c.map_err.ensures.cases (c.make_scalar.ensures a.s.now) in
    let t = rw c.in_ok-inner.was at i in
    (t.2, c.requires.1, omega (arith, c.requires.2, c.make_scalar.auto.types))

pub returns : goal.returns
returns c =
    let a = c.args in
    let s = a.s.now in
    let mid = c.make_scalar.new.types in
    let whole = scalar_type a.room (records_in type_words a.types.now a.made) a.scalar (from s a.end.at) in
    let i = inner_read s a.room a.made a.types.now mid whole c.make_scalar.result c.map_err.result c.map_err.ensures.cases (c.make_scalar.ensures s) in
    let t = rw c.in_ok-inner.was at i in
    let x = c.in_ok-inner.inner in
    let next = close_template a.room a.template a.scalar (records_in type_words mid x.made) (from s x.end.at) in
    rw t.0 (read_on s a.room a.made x.made a.types.now mid c.close_template.new.types next c.close_template.result t.1 t.3 c.close_template.ensures)
