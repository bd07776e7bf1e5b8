-- `ir_fields::fields_ok` meets its contract, where two kinds have the fields of another, and at a number of no kind. Assumes nothing.
use Rattle.std.proofs.Common.{rules, Err}
use mathlib.Core.Path.{◌≡◌, sym}
use Rattle.ir_records.specs.Fields.{fields_ok}
use Rattle.ir_records.proofs.KindLaws.{no_kind}
use Rattle.ir_fields.proofs.fields_ok.Goals as goal

pub returns-in-Atomic : goal.returns-in-Atomic
unfolding fields_ok
returns-in-Atomic c =
    let kind : 4 ≡ c.args.w.kind = rw c.in-Atomic.is at c.in_ok-try_from.ensures in
    rw (sym kind) (c.scalar_fields-in-Atomic.ensures c.args.rows)

pub returns-in-RayQuery : goal.returns-in-RayQuery
unfolding fields_ok
returns-in-RayQuery c =
    let kind : 12 ≡ c.args.w.kind = rw c.in-RayQuery.is at c.in_ok-try_from.ensures in
    rw (sym kind) (c.acceleration_fields-in-RayQuery.ensures c.args.rows)

pub returns-in_err-try_from : goal.returns-in_err-try_from
returns-in_err-try_from c =
    let w = c.args.w in
    let same : c.from_residual.result ≡ Err c.in_err-try_from.field-0.0 = search rules in
    rw same (c.in_err-try_from.ensures.0, no_kind c.args.rows w.kind w.a w.b w.c w.d w.e c.in_err-try_from.ensures.1)
