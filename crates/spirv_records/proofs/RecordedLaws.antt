-- The words of a type's record, and the member rows of a struct, in the tables that were read.
-- Assumes nothing.
use mathlib.Core.Path.{◌≡◌, refl, sym, ap, ◌∙◌}
use mathlib.Core.List.{List, [], ◌++◌}
use Prim.Native.Nat.{ℕ, ◌+◌, ◌*◌, ◌≤◌, ◌<◌}
use native.Mathlib.Omega.{arith}
use lib.ListN.{length, get_or, take, drop, length-append, get_or-append}
use lib.Seq.{get_or-append-add, take_at, drop_at}
use Rattle.ir_records.specs.declared.Words.{Words}
use Rattle.ir_records.specs.Record.{type_words, member_words, type_count, member_count, type_word, type_inner, inner_in, struct_members, struct_kind, record_of}
use Rattle.ir_records.proofs.RecordLaws.{members_no_struct, members-part}
use Rattle.spirv_words.specs.Module.{opcode, type_struct}
use Rattle.spirv_ids.specs.Ids.{type_number}
use Rattle.spirv_members.specs.Members.{member_count_at, member_rows}
use Rattle.spirv_members.proofs.AlignmentLaws.{rows_length}
use Rattle.spirv_types.specs.Types.{State}
use Rattle.spirv_instruction.specs.Instruction.{row_count, listed}
use Rattle.spirv_records.proofs.HeldLaws.{Recorded}

module _ (ws : List ℕ) (s : State) (p : ℕ) (r : Recorded ws s p) where
  abbrev n : ℕ
  n = type_number ws p

  abbrev own : List ℕ
  own = listed r.made.words ++ r.later_types

  -- word k of its own record and of those behind it
  pub own_word : (k : ℕ) → type_word s.types n k ≡ get_or own k 0
  own_word k =
      ap (λ l. get_or l (n * type_words + k) 0) r.types
      ∙ ap (λ (i : ℕ). get_or (r.was.types ++ own) (i + k) 0) (sym r.number)
      ∙ get_or-append-add r.was.types own k 0

  -- of a record before it
  pub earlier_word : (b k : ℕ) → b < n → k < type_words → type_word s.types b k ≡ type_word r.was.types b k
  earlier_word b k h l =
      ap (λ x. get_or x (b * type_words + k) 0) r.types
      ∙ get_or-append r.was.types own 0 (b * type_words + k) (omega (arith, r.number, h, l))

  pub own_inner : type_inner s.types n ≡ inner_in r.made.words
  unfolding type_inner
  own_inner = rw (own_word 0, own_word 1, own_word 2, own_word 3, own_word 4, own_word 5) refl

  types_long : length s.types ≡ n * type_words + type_words + length r.later_types
  types_long = ap length r.types ∙ length-append r.was.types own ∙ omega (arith, r.number)

  pub own_within : n < type_count s.types
  own_within = omega (arith, types_long)

  -- its words, where they are known
  module _ (kind a b c d : ℕ) (is : r.made.words ≡ record_of kind a b c d) where
    abbrev words : Words
    words = record_of kind a b c d

    pub word_is : (k : ℕ) → type_word s.types n k ≡ get_or (listed words ++ r.later_types) k 0
    word_is k = own_word k ∙ ap (λ (w : Words). get_or (listed w ++ r.later_types) k 0) is

    pub inner_is : type_inner s.types n ≡ inner_in words
    inner_is = own_inner ∙ ap inner_in is

  -- ---- member rows
  pub no_rows : (type_word s.types n 0 ≡ struct_kind → ⊥) → struct_members s.types s.members n ≡ []
  no_rows k = members_no_struct s.types s.members n own_within k

  module _ (op : opcode ws p ≡ type_struct) (span : ℕ)
      (is : r.made.words ≡ record_of struct_kind (member_count r.was.members) (member_count_at ws p) span 0) where
    abbrev first : ℕ
    first = member_count r.was.members

    abbrev count : ℕ
    count = member_count_at ws p

    row-count : row_count ws p ≡ count
    row-count = rw op refl

    members_are : s.members ≡ r.was.members ++ (member_rows ws p count ++ r.later_members)
    members_are = r.members ∙ ap (λ (k : ℕ). r.was.members ++ (member_rows ws p k ++ r.later_members)) row-count

    members_long : length s.members ≡ first * member_words + (count * member_words + length r.later_members)
    members_long =
        ap length members_are
        ∙ length-append r.was.members (member_rows ws p count ++ r.later_members)
        ∙ omega (arith, r.rows, length-append (member_rows ws p count) r.later_members, rows_length ws p count)

    pub rows_within : first + count ≤ member_count s.members
    rows_within = omega (arith, members_long)

    pub own_rows : struct_members s.types s.members n ≡ member_rows ws p count
    own_rows =
        members-part s.types s.members n own_within (word_is struct_kind first count span 0 is 0)
        (rw (word_is struct_kind first count span 0 is 1, word_is struct_kind first count span 0 is 2) rows_within)
        ∙ rw (word_is struct_kind first count span 0 is 1, word_is struct_kind first count span 0 is 2)
        (ap (λ l. take (count * member_words) (drop (first * member_words) l)) members_are
        ∙ ap (λ l. take (count * member_words) l) (drop_at r.was.members (member_rows ws p count ++ r.later_members) (first * member_words) r.rows)
        ∙ take_at (member_rows ws p count) r.later_members (count * member_words) (rows_length ws p count))
