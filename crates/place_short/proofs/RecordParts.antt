-- What a record in order says of the part of the member table that a struct has.
-- Assumes nothing.
use mathlib.Core.Path.{◌≡◌, ap, ◌∙◌}
use mathlib.Core.Bool.{true}
use mathlib.Core.List.{List}
use Prim.Native.Nat.{ℕ, ◌+◌, ◌*◌, ◌≤◌, ◌<◌}
use native.Mathlib.Omega.{arith}
use lib.ListN.{length, take, drop, length-drop}
use lib.Seq.{length-take-le}
use borrow.Author.Tests.{eqb-true}
use Rattle.ir_records.specs.Result.{ok, require}
use Rattle.ir_records.specs.Record.{type_count, type_word, member_words, member_count, struct_kind, type_inner, inner_of, struct_members}
use Rattle.ir_records.specs.Fields.{fields_ok, base_within, record_at}
use Rattle.ir_records.specs.declared.TypeInner.{TypeInner}
use Rattle.ir_records.specs.declared.TypeInner.TheVariants.{Plain, Array, RuntimeArray, Struct, Other}
use Rattle.ir_records.proofs.ResultLaws.{required, T_true}
use Rattle.ir_records.proofs.RecordLaws.{members-part, record_fields}
use Rattle.valid_type_flags.specs.TypeFlags.{is_struct}
use Rattle.valid_type_flags.proofs.KindLaws.{struct_by_kind}
use Rattle.proc_type_layout.proofs.TypeLayoutLaws.{members-within}

-- so many rows have four words each
part-length : (ms : List ℕ) (first count : ℕ) → first + count ≤ member_count ms → length (take (count * member_words) (drop (first * member_words) ms)) ≡ count * member_words
part-length ms first count h = length-take-le (count * member_words) (drop (first * member_words) ms) (rw (length-drop (first * member_words) ms) (omega (arith, h)))

count_in : TypeInner → ℕ
count_in (Plain leaf) = 0
count_in (Array base count stride) = 0
count_in (RuntimeArray base stride) = 0
count_in (Struct count span) = count
count_in (Other o) = 0

-- it has four words for each member
pub struct_part : (ts ms : List ℕ) (i : ℕ) → i < type_count ts → record_at ts ms i ≡ ok tt → (count span : ℕ) → type_inner ts i ≡ Struct count span
    → length (struct_members ts ms i) ≡ count * member_words
unfolding type_inner inner_of count_in
struct_part ts ms i inside fine count span e =
    let told : ◌≡◌ _ true = struct_by_kind (type_word ts i 0) (type_word ts i 1) (type_word ts i 2) (type_word ts i 3) (type_word ts i 4) (type_word ts i 5) ∙ ap is_struct e in
    let kind : type_word ts i 0 ≡ struct_kind = eqb-true (type_word ts i 0) struct_kind told in
    let same : type_word ts i 2 ≡ count = ap count_in (rw kind at e) in
    let fields =
    (required
    (fields_ok (member_count ms) (type_word ts i 0) (type_word ts i 1) (type_word ts i 2) (type_word ts i 3) (type_word ts i 4) (type_word ts i 5))
    2 0 0 (require (base_within (type_count ts) (type_word ts i 0) (type_word ts i 1)) 3 0 0 (ok tt)) tt (record_fields ts ms i fine)).0 in
    let within =
    members-within (member_count ms) (type_word ts i 1) (type_word ts i 2) (type_word ts i 3) (type_word ts i 4) (type_word ts i 5)
    (rw kind at (T_true (fields_ok (member_count ms) (type_word ts i 0) (type_word ts i 1) (type_word ts i 2) (type_word ts i 3) (type_word ts i 4) (type_word ts i 5)) fields)) in
    ap length (members-part ts ms i inside kind within) ∙ part-length ms (type_word ts i 1) (type_word ts i 2) within ∙ ap (λ (n : ℕ). n * member_words) same
