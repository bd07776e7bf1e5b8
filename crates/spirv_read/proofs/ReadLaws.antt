-- The reading of all instructions, step by step on the lent tables.
-- Assumes nothing.
use mathlib.Core.Path.{◌≡◌, refl, sym, ap, ◌∙◌}
use mathlib.Core.List.{List, ◌++◌}
use Prim.Native.Nat.{ℕ, zero, suc, ◌+◌, ◌*◌, ◌≤◌, ◌<◌}
use native.Mathlib.Omega.{arith}
use lib.ListN.{length, take, drop, take-append-drop}
use lib.Seq.{length-take-le}
use borrow.Author.Tests.{lt-ltb, le-ltb}
use Rattle.ir_records.specs.Result.{Result, err, ok}
use Rattle.ir_records.specs.Record.{type_words, member_words, type_count, member_count}
use Rattle.ir_rows.proofs.RowLaws.{drop_later}
use Rattle.spirv_words.specs.Module.{header_words, word_count, starts, count}
use Rattle.spirv_ids.specs.Ids.{type_number}
use Rattle.spirv_ids.specs.Places.{Stands}
use Rattle.spirv_ids.proofs.PlaceLaws.{stands_first, stands_next, number_next}
use Rattle.spirv_types.specs.Types.{State}
use Rattle.spirv_instruction.specs.Instruction.{instruction}
use Rattle.spirv_read.specs.Section.{Read}
use Rattle.spirv_read.specs.Read.{read_from, none, section_of}
use Rattle.spirv_read.specs.Serving.{state_in, Room, Held, Stepped, FilledTypes, FilledMembers}
use Rattle.spirv_read.proofs.PutLaws.{bounded_none}

module _ (t m : ℕ) (ws : List ℕ) (types₀ members₀ alignments₀ : List ℕ) where
  abbrev pub whole : Result State
  whole = read_from t m ws (length ws) header_words none

  -- a types and b members are held at word `at`; the reading from there on is the whole one
  pub record Reading (at : ℕ) (types members alignments : List ℕ) (a b : ℕ) : Type 0 where
    pub left : ℕ
    pub enough : length ws ≤ at + left
    pub same : read_from t m ws left at (state_in types members alignments a b) ≡ whole
    pub room : Room t m types members alignments
    pub rest_types : drop (a * type_words) types ≡ drop (a * type_words) types₀
    pub rest_members : drop (b * member_words) members ≡ drop (b * member_words) members₀
    pub long_types : length types ≡ length types₀
    pub long_members : length members ≡ length members₀
    pub long_alignments : length alignments ≡ length alignments₀
    pub stands : Stands ws at
    pub held : Held t m ws at types a b

  pub reading_starts : Room t m types₀ members₀ alignments₀ → Reading header_words types₀ members₀ alignments₀ 0 0
  unfolding type_number starts count
  reading_starts r =
      record {
        left = length ws;
        enough = omega arith;
        same = refl;
        room = r;
        rest_types = refl;
        rest_members = refl;
        long_types = refl;
        long_members = refl;
        long_alignments = refl;
        stands = stands_first ws;
        held = record { held_types = omega arith; held_members = omega arith; numbered = refl; bounded = bounded_none };
      }

  module _ (at : ℕ) (types members alignments : List ℕ) (a b : ℕ) (r : Reading at types members alignments a b) where
    pub reading_refused : at < length ws → (n : ℕ) → instruction t m ws at (state_in types members alignments a b) ≡ err n 0 0 → whole ≡ err n 0 0
    unfolding read_from
    reading_refused h n e = by r.left refl
      where
        by : (l : ℕ) → r.left ≡ l → whole ≡ err n 0 0
        by zero z = absurd (omega (arith, h, r.enough, z))
        by (suc l) z = sym (rw (z, lt-ltb at (length ws) h, e) at r.same)

    pub reading_ends : length ws ≤ at → whole ≡ ok (state_in types members alignments a b)
    unfolding read_from
    reading_ends h = by r.left refl
      where
        by : (l : ℕ) → r.left ≡ l → whole ≡ ok (state_in types members alignments a b)
        by zero z = sym (rw z at r.same)
        by (suc l) z = sym (rw (z, le-ltb at (length ws) h) at r.same)

    pub reading_goes : at < length ws → (types' members' alignments' : List ℕ) (a' b' : ℕ)
        → Stepped t m ws at types members alignments types' members' alignments' a b a' b'
        → length types' ≡ length types → length members' ≡ length members → length alignments' ≡ length alignments
        → Reading (at + word_count ws at) types' members' alignments' a' b'
    unfolding read_from
    reading_goes h types' members' alignments' a' b' s lt lm la = by r.left refl
      where
        by : (l : ℕ) → r.left ≡ l → Reading (at + word_count ws at) types' members' alignments' a' b'
        by zero z = absurd (omega (arith, h, r.enough, z))
        by (suc l) z =
            record {
              left = l;
              enough = omega (arith, r.enough, z, s.more);
              same = rw (z, lt-ltb at (length ws) h, s.made) at r.same;
              room = record {
                room_types = omega (arith, r.room.room_types, lt);
                room_members = omega (arith, r.room.room_members, lm);
                room_alignments = omega (arith, r.room.room_alignments, la);
                few_types = r.room.few_types;
                few_members = r.room.few_members;
              };
              rest_types = s.rest_types ∙ drop_later types types₀ (a * type_words) (a' * type_words) r.rest_types (omega (arith, s.rising));
              rest_members = s.rest_members ∙ drop_later members members₀ (b * member_words) (b' * member_words) r.rest_members (omega (arith, s.rising_members));
              long_types = lt ∙ r.long_types;
              long_members = lm ∙ r.long_members;
              long_alignments = la ∙ r.long_alignments;
              stands = stands_next ws at r.stands s.more;
              held = record {
                held_types = s.few;
                held_members = s.few_members;
                numbered = omega (arith, number_next ws at r.stands s.more, s.counted, r.held.numbered);
                bounded = s.bounded;
              };
            }

    -- ---- what is answered and held at the end
    types_long : length (take (a * type_words) types) ≡ a * type_words
    types_long = length-take-le (a * type_words) types (omega (arith, r.held.held_types, r.room.room_types))

    members_long : length (take (b * member_words) members) ≡ b * member_words
    members_long = length-take-le (b * member_words) members (omega (arith, r.held.held_members, r.room.room_members))

    pub ended_section : length ws ≤ at → Read a b ≡ section_of whole
    ended_section h =
        let ts : type_count (take (a * type_words) types) ≡ a = omega (arith, types_long) in
        let ms : member_count (take (b * member_words) members) ≡ b = omega (arith, members_long) in
        rw (reading_ends h, ts, ms) refl

    pub ended_types : length ws ≤ at → FilledTypes whole types₀ types
    ended_types h =
        rw (reading_ends h, types_long)
        (sym (take-append-drop (a * type_words) types) ∙ ap (λ l. take (a * type_words) types ++ l) r.rest_types)

    pub ended_members : length ws ≤ at → FilledMembers whole members₀ members
    ended_members h =
        rw (reading_ends h, members_long)
        (sym (take-append-drop (b * member_words) members) ∙ ap (λ l. take (b * member_words) members ++ l) r.rest_members)
