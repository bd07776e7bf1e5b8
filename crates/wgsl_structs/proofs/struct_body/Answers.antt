use Rattle.std.proofs.Common.{length}
use Rattle.std.proofs.lemmas.Result.{err_from_is_err_and}
use Rattle.wgsl_tables.specs.Tables.{name_in}
use Rattle.wgsl_structs.specs.Serving.{declarations}
use Rattle.wgsl_structs.proofs.StructLaws.{body_stopped, struct_read}
use Rattle.wgsl_structs.proofs.struct_body.Goals as goal

pub returns-in_err-read : goal.returns-in_err-read
returns-in_err-read c =
    let a = c.args in
    let s = a.s.now in
    let p = err_from_is_err_and c.from_residual.result c.from_residual.ensures.1 in
    rw (p.1, p.2) (body_stopped (length s) a.room s (declarations a.structs.now a.names.now a.types.now a.members.now) a.state (name_in s a.name.start a.name.end) a.at _ c.in_err-read.ensures)

pub returns : goal.returns
returns c =
    let a = c.args in
    let m = c.in_ok-read.ensures in
    let now = c.read_members.new in
    let last = c.close_struct.new in
    struct_read a.s.now a.room a.structs.now last.structs a.names.now now.names a.types.now now.types last.types a.members.now now.members
    a.state c.in_ok-read.read.body a.name a.at c.requires m.0 m.1 m.2 c.close_struct.auto.structs c.close_struct.auto.types c.close_struct.result c.close_struct.ensures
