-- Records read the same where types and member rows are appended.
-- Assumes nothing.
use mathlib.Core.Path.{◌≡◌, sym, ◌∙◌, ap}
use mathlib.Core.List.{List, ◌++◌}
use Prim.Native.Nat.{ℕ, ◌+◌, ◌*◌, ◌≤◌, ◌<◌}
use native.Mathlib.Decide.{ℕ_discrete}
use native.Mathlib.Omega.{arith}
use lib.ListN.{take, drop, length-append, length-drop, get_or-append}
use lib.Seq.{take-append-le, drop-append-le}
use Rattle.ir_records.specs.Result.{ok, require}
use Rattle.ir_records.specs.Record.{struct_kind, type_words, type_count, type_word, member_words, member_count, type_inner, struct_members, decoded}
use Rattle.ir_records.specs.Fields.{fields_ok, base_within, record_at}
use Rattle.ir_records.proofs.ResultLaws.{required, T_true}
use Rattle.ir_records.proofs.RecordLaws.{record_fields, members_no_struct, members-part}
use Rattle.proc_type_layout.proofs.TypeLayoutLaws.{members-within}

-- the member table has the rows of a struct whose record is in order
struct_within : (ts ms : List ℕ) (i : ℕ) → record_at ts ms i ≡ ok tt → type_word ts i 0 ≡ struct_kind → type_word ts i 1 + type_word ts i 2 ≤ member_count ms
struct_within ts ms i in_order kind =
    let fields =
    (required
    (fields_ok (member_count ms) (type_word ts i 0) (type_word ts i 1) (type_word ts i 2) (type_word ts i 3) (type_word ts i 4) (type_word ts i 5))
    2 0 0
    (require (base_within (type_count ts) (type_word ts i 0) (type_word ts i 1)) 3 0 0 (ok tt))
    tt
    (record_fields ts ms i in_order)
    ).0 in
    members-within (member_count ms) (type_word ts i 1) (type_word ts i 2) (type_word ts i 3) (type_word ts i 4) (type_word ts i 5) (T_true _ (rw kind at fields))

module _ (ts ms ts' ms' : List ℕ) where
  -- an appended table has no fewer types, and no fewer member rows
  pub types_append : type_count ts ≤ type_count (ts ++ ts')
  types_append = rw length-append (omega arith)

  -- nor fewer member rows
  members_append : member_count ms ≤ member_count (ms ++ ms')
  members_append = rw length-append (omega arith)

  -- a word of a type record is the same
  pub word_append : (i k : ℕ) → i < type_count ts → k < type_words → type_word (ts ++ ts') i k ≡ type_word ts i k
  word_append i k h l = get_or-append ts ts' 0 (i * type_words + k) (omega arith)

  -- what a record says is the same
  pub inner_append : (i : ℕ) → i < type_count ts → type_inner ts i ≡ type_inner (ts ++ ts') i
  unfolding type_inner
  inner_append i h =
      rw (word_append i 0 h (omega arith), word_append i 1 h (omega arith), word_append i 2 h (omega arith), word_append i 3 h (omega arith), word_append i 4 h (omega arith), word_append i 5 h (omega arith))

  -- a part of the member table is the same
  part_append : (a b : ℕ) → a + b ≤ member_count ms
      → take (b * member_words) (drop (a * member_words) ms) ≡ take (b * member_words) (drop (a * member_words) (ms ++ ms'))
  part_append a b h =
      sym
      (ap (take (b * member_words)) (drop-append-le (a * member_words) ms ms' (omega arith))
      ∙ take-append-le (b * member_words) (drop (a * member_words) ms) ms' (rw length-drop (omega arith)))

  -- the member rows of a record in order are the same
  pub struct_members_append : (i : ℕ) → i < type_count ts → record_at ts ms i ≡ ok tt → struct_members ts ms i ≡ struct_members (ts ++ ts') (ms ++ ms') i
  struct_members_append i h e = go (ℕ_discrete (type_word ts i 0) struct_kind)
    where
      l : i < type_count (ts ++ ts')
      l = let a = types_append in omega arith

      go : Dec (type_word ts i 0 ≡ struct_kind) → struct_members ts ms i ≡ struct_members (ts ++ ts') (ms ++ ms') i
      go (no k) =
          members_no_struct ts ms i h k
          ∙ sym (members_no_struct (ts ++ ts') (ms ++ ms') i l (rw (word_append i 0 h (omega arith)) k))
      go (yes k) =
          let w = struct_within ts ms i e k in
          let m = members_append in
          let a = word_append i 1 h (omega arith) in
          let b = word_append i 2 h (omega arith) in
          members-part ts ms i h k w
          ∙ part_append (type_word ts i 1) (type_word ts i 2) w
          ∙ rw (← a, ← b) (sym (members-part (ts ++ ts') (ms ++ ms') i l (word_append i 0 h (omega arith) ∙ k) (omega arith)))

  -- a decoded record in order is the same
  pub decoded_append : (i : ℕ) → i < type_count ts → record_at ts ms i ≡ ok tt → decoded ts ms i ≡ decoded (ts ++ ts') (ms ++ ms') i
  decoded_append i h e = λ x. record { inner = inner_append i h x; members = struct_members_append i h e x }
