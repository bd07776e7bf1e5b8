-- One instruction on the lent tables: skipped, a record more, or refused.
-- Assumes nothing.
use mathlib.Core.Path.{◌≡◌, refl, ap, ◌∙◌}
use mathlib.Core.Bool.{true}
use mathlib.Core.List.{List, [], ◌∷◌, ◌++◌}
use Prim.Native.Nat.{ℕ, ◌+◌, ◌*◌, ◌≤◌, ◌<◌}
use native.Mathlib.Omega.{arith}
use lib.ListN.{length, take}
use lib.Seq.{length-take-le}
use Rattle.ir_records.specs.Result.{ok}
use Rattle.ir_records.specs.declared.Words.{Words}
use Rattle.ir_records.specs.Record.{type_words, member_words, type_count, member_count, inner_in}
use Rattle.ir_records.specs.Serving.{InnerBounds}
use Rattle.ir_rows.specs.Rows.{with_part}
use Rattle.ir_rows.proofs.RowLaws.{take_part, drop_part}
use Rattle.spirv_words.specs.Module.{word_count, opcode, is_read}
use Rattle.spirv_members.specs.Members.{member_rows}
use Rattle.spirv_members.proofs.AlignmentLaws.{rows_length}
use Rattle.spirv_types.specs.Types.{State}
use Rattle.spirv_instruction.specs.Instruction.{listed, with_type, instruction}
use Rattle.spirv_read.specs.Serving.{state_in, Room, Held, Stepped}
use Rattle.spirv_read.proofs.PutLaws.{bounded_more}

module _ (t m : ℕ) (ws : List ℕ) (at : ℕ) (types members alignments : List ℕ) (room : Room t m types members alignments) (a b : ℕ) (held : Held t m ws at types a b) where
  abbrev s : State
  s = state_in types members alignments a b

  -- how many records are held
  pub types-held : length (take (a * type_words) types) ≡ a * type_words
  types-held = length-take-le (a * type_words) types (omega (arith, held.held_types, room.room_types))

  pub members_held : length (take (b * member_words) members) ≡ b * member_words
  members_held = length-take-le (b * member_words) members (omega (arith, held.held_members, room.room_members))

  pub type-count : type_count (take (a * type_words) types) ≡ a
  type-count = omega (arith, types-held)

  pub member-count : member_count (take (b * member_words) members) ≡ b
  member-count = omega (arith, members_held)

  module _ (w : Words) (al n : ℕ) (read : is_read (opcode ws at) ≡ true) (own : InnerBounds (inner_in w)) (less : a < t) (few : b + n ≤ m) where
    abbrev types' : List ℕ
    types' = with_part type_words types (a * type_words) (listed w)

    abbrev members' : List ℕ
    members' = with_part (n * member_words) members (b * member_words) (member_rows ws at n)

    abbrev alignments' : List ℕ
    alignments' = with_part 1 alignments a (al ∷ [])

    types_more : take ((a + 1) * type_words) types' ≡ take (a * type_words) types ++ listed w
    types_more =
        let end : (a + 1) * type_words ≡ a * type_words + type_words = omega arith in
        ap (λ (k : ℕ). take k types') end
        ∙ take_part type_words types (listed w) (a * type_words) refl (omega (arith, less, room.room_types))

    members_more : take ((b + n) * member_words) members' ≡ take (b * member_words) members ++ member_rows ws at n
    members_more =
        let end : (b + n) * member_words ≡ b * member_words + n * member_words = omega arith in
        ap (λ (k : ℕ). take k members') end
        ∙ take_part (n * member_words) members (member_rows ws at n) (b * member_words) (rows_length ws at n) (omega (arith, few, room.room_members))

    alignments_more : take (a + 1) alignments' ≡ take a alignments ++ (al ∷ [])
    alignments_more = take_part 1 alignments (al ∷ []) a refl (omega (arith, less, room.room_alignments))

    pub made_step : instruction t m ws at s ≡ ok (with_type s (record { words = w; alignment = al }) (member_rows ws at n)) → 0 < word_count ws at
        → Stepped t m ws at types members alignments types' members' alignments' a b (a + 1) (b + n)
    made_step e k =
        record {
          made = rw (types_more, members_more, alignments_more) e;
          rest_types = drop_part type_words types (listed w) (a * type_words) refl (omega (arith, less, room.room_types)) ((a + 1) * type_words) (omega arith);
          rest_members = drop_part (n * member_words) members (member_rows ws at n) (b * member_words) (rows_length ws at n) (omega (arith, few, room.room_members)) ((b + n) * member_words) (omega arith);
          more = k;
          few = omega (arith, less);
          few_members = few;
          counted = rw read refl;
          rising = omega arith;
          rising_members = omega arith;
          bounded = rw types_more (bounded_more (take (a * type_words) types) w a types-held held.bounded own);
        }
