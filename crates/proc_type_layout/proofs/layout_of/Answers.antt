-- `proc_type_layout::layout_of` meets its contract: each arm knows the kind, and the record's meaning computes. Assumes nothing.
use Rattle.std.proofs.Common.{rules, Err}
use mathlib.Core.Path.{◌≡◌, sym, ap, ◌∙◌}
use native.Mathlib.Omega.{arith}
use Rattle.ir_records.specs.Record.{member_count, type_count, inner_of, struct_members}
use Rattle.ir_records.specs.Refusal.{judged}
use Rattle.ir_records.specs.Fields.{fields_ok}
use Rattle.ir_records.proofs.KindLaws.{no_kind}
use Rattle.proc_type_methods.specs.TypeMethods.{try_size}
use Rattle.proc_type_alignment.specs.TypeAlignment.{alignment_of}
use Rattle.proc_type_alignment.specs.Serving.{layouts_in}
use Rattle.proc_type_layout.specs.TypeLayout.{layout_of}
use Rattle.proc_type_layout.proofs.TypeLayoutLaws.{by_words, struct-words, unfit_words}
use Rattle.proc_type_layout.proofs.layout_of.Goals as goal

-- a number of no kind
pub returns-in_err-try_from : goal.returns-in_err-try_from
returns-in_err-try_from c =
    let a = c.args in
    let ts = a.types.now in
    let ms = a.members.now in
    let w = c.own_record-w in
    let same : c.from_residual.result ≡ Err c.in_err-try_from.field-0.0 = search rules in
    let none = no_kind (member_count ms) w.result.kind w.result.a w.result.b w.result.c w.result.d w.result.e c.in_err-try_from.ensures.1 in
    ap judged same ∙ rw c.in_err-try_from.ensures.0 (unfit_words ts ms (layouts_in a.before.rows.now) a.before.i w.result w.ensures none)

pub returns-in-Scalar : goal.returns-in-Scalar
returns-in-Scalar c =
    let a = c.args in
    let ts = a.types.now in
    let ms = a.members.now in
    let ls = layouts_in a.before.rows.now in
    let w = c.own_record-w in
    let kind : 0 ≡ w.result.kind = rw c.in-Scalar.is at c.in_ok-try_from.ensures in
    c.scalar_layout.ensures (member_count ms) (type_count ts) a.before.i ls (struct_members ts ms a.before.i)
    ∙ by_words ts ms ls a.before.i w.result w.ensures 0 (sym kind) (λ q. omega arith) c.requires

pub returns-in-Vector : goal.returns-in-Vector
returns-in-Vector c =
    let a = c.args in
    let ts = a.types.now in
    let ms = a.members.now in
    let ls = layouts_in a.before.rows.now in
    let w = c.own_record-w in
    let kind : 1 ≡ w.result.kind = rw c.in-Vector.is at c.in_ok-try_from.ensures in
    c.vector_layout.ensures (member_count ms) (type_count ts) a.before.i ls (struct_members ts ms a.before.i)
    ∙ by_words ts ms ls a.before.i w.result w.ensures 1 (sym kind) (λ q. omega arith) c.requires

pub returns-in-Matrix : goal.returns-in-Matrix
returns-in-Matrix c =
    let a = c.args in
    let ts = a.types.now in
    let ms = a.members.now in
    let ls = layouts_in a.before.rows.now in
    let w = c.own_record-w in
    let kind : 2 ≡ w.result.kind = rw c.in-Matrix.is at c.in_ok-try_from.ensures in
    c.matrix_layout.ensures (member_count ms) (type_count ts) a.before.i ls (struct_members ts ms a.before.i)
    ∙ by_words ts ms ls a.before.i w.result w.ensures 2 (sym kind) (λ q. omega arith) c.requires

pub returns-in-CooperativeMatrix : goal.returns-in-CooperativeMatrix
returns-in-CooperativeMatrix c =
    let a = c.args in
    let ts = a.types.now in
    let ms = a.members.now in
    let ls = layouts_in a.before.rows.now in
    let w = c.own_record-w in
    let kind : 3 ≡ w.result.kind = rw c.in-CooperativeMatrix.is at c.in_ok-try_from.ensures in
    c.cooperative_layout.ensures (member_count ms) (type_count ts) a.before.i ls (struct_members ts ms a.before.i)
    ∙ by_words ts ms ls a.before.i w.result w.ensures 3 (sym kind) (λ q. omega arith) c.requires

pub returns-in-Atomic : goal.returns-in-Atomic
unfolding fields_ok inner_of layout_of try_size alignment_of
returns-in-Atomic c =
    let a = c.args in
    let ts = a.types.now in
    let ms = a.members.now in
    let ls = layouts_in a.before.rows.now in
    let w = c.own_record-w in
    let kind : 4 ≡ w.result.kind = rw c.in-Atomic.is at c.in_ok-try_from.ensures in
    c.scalar_layout-in-Atomic.ensures (member_count ms) (type_count ts) a.before.i ls (struct_members ts ms a.before.i)
    ∙ by_words ts ms ls a.before.i w.result w.ensures 4 (sym kind) (λ q. omega arith) c.requires

pub returns-in-Pointer : goal.returns-in-Pointer
returns-in-Pointer c =
    let a = c.args in
    let ts = a.types.now in
    let ms = a.members.now in
    let ls = layouts_in a.before.rows.now in
    let w = c.own_record-w in
    let kind : 5 ≡ w.result.kind = rw c.in-Pointer.is at c.in_ok-try_from.ensures in
    c.pointer_layout.ensures (member_count ms) a.before.i ls (struct_members ts ms a.before.i)
    ∙ by_words ts ms ls a.before.i w.result w.ensures 5 (sym kind) (λ q. omega arith) c.requires

pub returns-in-ValuePointer : goal.returns-in-ValuePointer
returns-in-ValuePointer c =
    let a = c.args in
    let ts = a.types.now in
    let ms = a.members.now in
    let ls = layouts_in a.before.rows.now in
    let w = c.own_record-w in
    let kind : 6 ≡ w.result.kind = rw c.in-ValuePointer.is at c.in_ok-try_from.ensures in
    c.value_pointer_layout.ensures (member_count ms) (type_count ts) a.before.i ls (struct_members ts ms a.before.i)
    ∙ by_words ts ms ls a.before.i w.result w.ensures 6 (sym kind) (λ q. omega arith) c.requires

pub returns-in-Array : goal.returns-in-Array
returns-in-Array c =
    let a = c.args in
    let ts = a.types.now in
    let ms = a.members.now in
    let ls = layouts_in a.before.rows.now in
    let w = c.own_record-w in
    let kind : 7 ≡ w.result.kind = rw c.in-Array.is at c.in_ok-try_from.ensures in
    c.array_record.ensures (member_count ms) (type_count ts) (struct_members ts ms a.before.i)
    ∙ by_words ts ms ls a.before.i w.result w.ensures 7 (sym kind) (λ q. omega arith) c.requires

pub returns-in-Struct : goal.returns-in-Struct
returns-in-Struct c =
    let a = c.args in
    let ts = a.types.now in
    let ms = a.members.now in
    let ls = layouts_in a.before.rows.now in
    let w = c.own_record-w in
    let kind : 8 ≡ w.result.kind = rw c.in-Struct.is at c.in_ok-try_from.ensures in
    c.struct_record.ensures (type_count ts)
    ∙ struct-words ts ms ls a.before.i w.result w.ensures (sym kind) c.requires

pub returns-in-Image : goal.returns-in-Image
returns-in-Image c =
    let a = c.args in
    let ts = a.types.now in
    let ms = a.members.now in
    let ls = layouts_in a.before.rows.now in
    let w = c.own_record-w in
    let kind : 9 ≡ w.result.kind = rw c.in-Image.is at c.in_ok-try_from.ensures in
    c.image_layout.ensures (member_count ms) (type_count ts) a.before.i ls (struct_members ts ms a.before.i)
    ∙ by_words ts ms ls a.before.i w.result w.ensures 9 (sym kind) (λ q. omega arith) c.requires

pub returns-in-Sampler : goal.returns-in-Sampler
returns-in-Sampler c =
    let a = c.args in
    let ts = a.types.now in
    let ms = a.members.now in
    let ls = layouts_in a.before.rows.now in
    let w = c.own_record-w in
    let kind : 10 ≡ w.result.kind = rw c.in-Sampler.is at c.in_ok-try_from.ensures in
    c.sampler_layout.ensures (member_count ms) (type_count ts) a.before.i ls (struct_members ts ms a.before.i)
    ∙ by_words ts ms ls a.before.i w.result w.ensures 10 (sym kind) (λ q. omega arith) c.requires

pub returns-in-AccelerationStructure : goal.returns-in-AccelerationStructure
returns-in-AccelerationStructure c =
    let a = c.args in
    let ts = a.types.now in
    let ms = a.members.now in
    let ls = layouts_in a.before.rows.now in
    let w = c.own_record-w in
    let kind : 11 ≡ w.result.kind = rw c.in-AccelerationStructure.is at c.in_ok-try_from.ensures in
    c.acceleration_layout.ensures (member_count ms) (type_count ts) a.before.i ls (struct_members ts ms a.before.i)
    ∙ by_words ts ms ls a.before.i w.result w.ensures 11 (sym kind) (λ q. omega arith) c.requires

pub returns-in-RayQuery : goal.returns-in-RayQuery
returns-in-RayQuery c =
    let a = c.args in
    let ts = a.types.now in
    let ms = a.members.now in
    let ls = layouts_in a.before.rows.now in
    let w = c.own_record-w in
    let kind : 12 ≡ w.result.kind = rw c.in-RayQuery.is at c.in_ok-try_from.ensures in
    c.ray_query_layout.ensures (member_count ms) (type_count ts) a.before.i ls (struct_members ts ms a.before.i)
    ∙ by_words ts ms ls a.before.i w.result w.ensures 12 (sym kind) (λ q. omega arith) c.requires

pub returns-in-BindingArray : goal.returns-in-BindingArray
returns-in-BindingArray c =
    let a = c.args in
    let ts = a.types.now in
    let ms = a.members.now in
    let ls = layouts_in a.before.rows.now in
    let w = c.own_record-w in
    let kind : 13 ≡ w.result.kind = rw c.in-BindingArray.is at c.in_ok-try_from.ensures in
    c.binding_array_layout.ensures (member_count ms) a.before.i ls (struct_members ts ms a.before.i)
    ∙ by_words ts ms ls a.before.i w.result w.ensures 13 (sym kind) (λ q. omega arith) c.requires
