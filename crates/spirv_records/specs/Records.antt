-- 02, E5: what the arena check can still answer of records that were read. Their tables are whole, their fields lie in their sets, each base and
-- each member's type is an earlier one, and each width is a power of two: so numbers 1, 2, 3, 5, 6 and 7 are never answered.
-- Assumes nothing.
use Rattle.std.specs.Prelude.{◌≡◌, List, [], ◌∷◌, ℕ, ◌*◌, ◌≤◌, T, length, take}
use Rattle.ir_records.specs.Record.{type_words, member_words}
use Rattle.ir_records.specs.Fields.{row_words, capabilities_known}
use Rattle.ir_records.specs.Outcome.{Outcome}
use Rattle.ir_records.specs.Outcome.{Accepted, Refused}
use Rattle.proc_layouter.specs.Layouter.{layout_answer}
use Rattle.valid_arena.specs.Arena.{arena_answer}
use Rattle.spirv_read.specs.Section.{Read}
use Rattle.spirv_read.specs.Read.{read_into, section_of, types_after, members_after}
use Rattle.spirv_records.specs.TypesRead.{Among}

-- the numbers of tables that are not in order
abbrev pub of_tables : List ℕ
of_tables = 1 ∷ 2 ∷ 3 ∷ 5 ∷ 6 ∷ 7 ∷ []

abbrev pub InOrder : Outcome → Type 0
InOrder Accepted = Unit {0}
InOrder (Refused number ty member detail) = ¬ Among number of_tables

-- laid out, or an array too large
abbrev pub LaidOut : Outcome → Type 0
LaidOut Accepted = Unit {0}
LaidOut (Refused number ty member detail) = number ≡ 4

-- the lent tables after a reading, cut to the counts that it answers
abbrev pub types_cut : (ws types members : List ℕ) (t : ℕ) → List ℕ
types_cut ws types members t = take (t * type_words) (types_after (read_into ws types members) types)

abbrev pub members_cut : (ws types members : List ℕ) (m : ℕ) → List ℕ
members_cut ws types members m = take (m * member_words) (members_after (read_into ws types members) members)

-- of any words that are read, into whatever tables; the rows long enough, the capability word any that has no bit above 13
pub record RecordsInOrder : Type 0 where
  pub layout : (ws types members : List ℕ) (t m : ℕ) → section_of (read_into ws types members) ≡ Read t m
      → (rows : List ℕ) → t * row_words ≤ length rows
      → LaidOut (layout_answer (types_cut ws types members t) (members_cut ws types members m) rows)
  pub check : (ws types members : List ℕ) (t m : ℕ) → section_of (read_into ws types members) ≡ Read t m
      → (c : ℕ) → T (capabilities_known c) → (rows : List ℕ) → t * row_words ≤ length rows
      → InOrder (arena_answer c (types_cut ws types members t) (members_cut ws types members m) rows)
