-- `valid_types::judge_plain` meets its contract: each arm knows the kind. Assumes nothing.
use Rattle.std.proofs.Common.{rules, Err}
use mathlib.Core.Path.{◌≡◌, sym}
use Rattle.ir_records.specs.Record.{type_count, type_inner}
use Rattle.ir_records.proofs.KindLaws.{no_kind}
use Rattle.valid_types.proofs.TypeRowLaws.{no_row}
use Rattle.valid_types.proofs.judge_plain.Goals as goal

pub returns-in-Scalar : goal.returns-in-Scalar
returns-in-Scalar c =
    let a = c.args in
    let kind : 0 ≡ a.w.kind = rw c.in-Scalar.is at c.in_ok-try_from.ensures in
    rw (sym kind) (c.scalar_row.ensures (type_count a.types.now) (type_inner a.types.now) a.rows.now)

pub returns-in-Vector : goal.returns-in-Vector
returns-in-Vector c =
    let a = c.args in
    let kind : 1 ≡ a.w.kind = rw c.in-Vector.is at c.in_ok-try_from.ensures in
    rw (sym kind) (c.vector_row.ensures (type_count a.types.now) (type_inner a.types.now) a.rows.now)

pub returns-in-Matrix : goal.returns-in-Matrix
returns-in-Matrix c =
    let a = c.args in
    let kind : 2 ≡ a.w.kind = rw c.in-Matrix.is at c.in_ok-try_from.ensures in
    rw (sym kind) (c.matrix_row.ensures (type_count a.types.now) (type_inner a.types.now) a.rows.now)

pub returns-in-CooperativeMatrix : goal.returns-in-CooperativeMatrix
returns-in-CooperativeMatrix c =
    let a = c.args in
    let kind : 3 ≡ a.w.kind = rw c.in-CooperativeMatrix.is at c.in_ok-try_from.ensures in
    rw (sym kind) (c.cooperative_row.ensures (type_count a.types.now) (type_inner a.types.now) a.rows.now)

pub returns-in-Atomic : goal.returns-in-Atomic
returns-in-Atomic c =
    let a = c.args in
    let kind : 4 ≡ a.w.kind = rw c.in-Atomic.is at c.in_ok-try_from.ensures in
    rw (sym kind) (c.atomic_row.ensures (type_count a.types.now) (type_inner a.types.now) a.rows.now)

pub returns-in-ValuePointer : goal.returns-in-ValuePointer
returns-in-ValuePointer c =
    let a = c.args in
    let kind : 6 ≡ a.w.kind = rw c.in-ValuePointer.is at c.in_ok-try_from.ensures in
    rw (sym kind) (c.value_pointer_row.ensures (type_count a.types.now) (type_inner a.types.now) a.rows.now)

pub returns-in-Image : goal.returns-in-Image
returns-in-Image c =
    let a = c.args in
    let kind : 9 ≡ a.w.kind = rw c.in-Image.is at c.in_ok-try_from.ensures in
    rw (sym kind) (c.image_row.ensures (type_count a.types.now) (type_inner a.types.now) a.rows.now)

pub returns-in-Sampler : goal.returns-in-Sampler
returns-in-Sampler c =
    let a = c.args in
    let kind : 10 ≡ a.w.kind = rw c.in-Sampler.is at c.in_ok-try_from.ensures in
    rw (sym kind) (c.sampler_row.ensures c.args.capabilities (type_count a.types.now) (type_inner a.types.now) a.rows.now)

pub returns-in-AccelerationStructure : goal.returns-in-AccelerationStructure
returns-in-AccelerationStructure c =
    let a = c.args in
    let kind : 11 ≡ a.w.kind = rw c.in-AccelerationStructure.is at c.in_ok-try_from.ensures in
    rw (sym kind) (c.acceleration_row.ensures (type_count a.types.now) (type_inner a.types.now) a.rows.now)

pub returns-in-RayQuery : goal.returns-in-RayQuery
returns-in-RayQuery c =
    let a = c.args in
    let kind : 12 ≡ a.w.kind = rw c.in-RayQuery.is at c.in_ok-try_from.ensures in
    rw (sym kind) (c.ray_query_row.ensures (type_count a.types.now) (type_inner a.types.now) a.rows.now)

-- a number of no kind
pub returns-in_err-try_from : goal.returns-in_err-try_from
returns-in_err-try_from c =
    let a = c.args in
    let w = a.w in
    let same : c.from_residual.result ≡ Err c.in_err-try_from.field-0.0 = search rules in
    λ least m i members. rw (same, c.in_err-try_from.ensures.0)
    (no_row least a.capabilities m (type_count a.types.now) (type_inner a.types.now) a.rows.now i members w.kind w.a w.b w.c w.d w.e
    (no_kind m w.kind w.a w.b w.c w.d w.e c.in_err-try_from.ensures.1))
