-- A type is what is left of it after its name and its `<`, with a level less; an array is read on after its element.
use Rattle.std.proofs.lemmas.Result.{err_from_is_err_and}
use Rattle.std.proofs.Common.{◌-◌, refl, ◌∙◌, arith}
use Rattle.ir_records.specs.Record.{type_words}
use Rattle.wgsl_tokens.specs.Tokens.{from}
use Rattle.wgsl_tables.specs.Tables.{records_in, structs_in}
use Rattle.wgsl_types.specs.Types.{array_of, type_of}
use Rattle.wgsl_types.proofs.TypeLaws.{read_on, inner_read, type_level}
use Rattle.wgsl_types.proofs.+read_arguments_read_type.Goals as goal

pub read_arguments-returns : goal.read_arguments-returns
read_arguments-returns t c =
    let a = c.args in
    let s = a.s.now in
    let mid = c.read_type.new.types in
    let x = c.in_ok-inner.inner in
    let whole = type_of a.room a.left (structs_in s a.structs.now) (records_in type_words a.types.now a.made) (from s a.at) in
    let i = inner_read s a.room a.made a.types.now mid whole c.read_type.result c.map_err.result c.map_err.ensures.cases c.read_type.ensures in
    let e = rw c.in_ok-inner.was at i in
    rw e.0
    (read_on s a.room a.made x.made a.types.now mid c.array_of.new.types (array_of a.room x.shape (records_in type_words mid x.made) (from s x.end.at)) c.array_of.result e.1 e.3 c.array_of.ensures)

pub read_type-returns-then-left-eq0 : goal.read_type-returns-then-left-eq0
unfolding type_of
read_type-returns-then-left-eq0 t c = rw (c.into.ensures, c.of.ensures, c.if-left-eq0.true)

pub read_type-returns-in_err-scalar : goal.read_type-returns-in_err-scalar
read_type-returns-in_err-scalar t c =
    let a = c.args in
    let structs = structs_in a.s.now a.structs.now in
    let types = records_in type_words a.types.now a.made in
    let level = type_level a.room a.left structs types (from a.s.now a.at) c.if-left-eq0.false in
    let p = err_from_is_err_and c.from_residual.result c.from_residual.ensures.1 in
    rw (p.1, p.2) (level ∙ rw c.in_err-scalar.was at (c.open_type.ensures (type_of a.room (a.left - 1) structs) a.room (a.left - 1) types))

pub read_type-returns-in-Scalar : goal.read_type-returns-in-Scalar
read_type-returns-in-Scalar t c =
    let a = c.args in
    let structs = structs_in a.s.now a.structs.now in
    let types = records_in type_words a.types.now a.made in
    let level = type_level a.room a.left structs types (from a.s.now a.at) c.if-left-eq0.false in
    let rest = rw c.in-Scalar.is at (c.in_ok-scalar.ensures (type_of a.room (a.left - 1) structs) a.room (a.left - 1) types) in
    rw (level, rest) (c.make_scalar.ensures a.s.now)

pub read_type-returns-in-Struct : goal.read_type-returns-in-Struct
read_type-returns-in-Struct t c =
    let a = c.args in
    let structs = structs_in a.s.now a.structs.now in
    let types = records_in type_words a.types.now a.made in
    let level = type_level a.room a.left structs types (from a.s.now a.at) c.if-left-eq0.false in
    let rest = rw c.in-Struct.is at (c.in_ok-scalar.ensures (type_of a.room (a.left - 1) structs) a.room (a.left - 1) types) in
    (level ∙ rest, omega arith, c.requires.0, refl)

pub read_type-returns-in-Template : goal.read_type-returns-in-Template
read_type-returns-in-Template t c =
    let a = c.args in
    let structs = structs_in a.s.now a.structs.now in
    let types = records_in type_words a.types.now a.made in
    let level = type_level a.room a.left structs types (from a.s.now a.at) c.if-left-eq0.false in
    let rest = rw c.in-Template.is at (c.in_ok-scalar.ensures (type_of a.room (a.left - 1) structs) a.room (a.left - 1) types) in
    rw (level, rest) c.template_type.ensures

pub read_type-returns-in-Array : goal.read_type-returns-in-Array
read_type-returns-in-Array t c =
    let a = c.args in
    let structs = structs_in a.s.now a.structs.now in
    let types = records_in type_words a.types.now a.made in
    let level = type_level a.room a.left structs types (from a.s.now a.at) c.if-left-eq0.false in
    let rest = rw c.in-Array.is at (c.in_ok-scalar.ensures (type_of a.room (a.left - 1) structs) a.room (a.left - 1) types) in
    rw (level, rest) c.read_arguments.ensures
