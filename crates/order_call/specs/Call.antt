-- 02, E11: the call: what it answers, and what it leaves in the lent tables and rows.
-- Assumes nothing.
use Rattle.std.specs.Prelude.{Bool, ◌&&◌, List, ℕ, ◌+◌, ◌*◌, eqb, leb, length, take}
use Rattle.ir_records.specs.Result.{pick}
use Rattle.ir_records.specs.Record.{type_words, member_words}
use Rattle.ir_records.specs.Fields.{most_types, most_members, row_words}
use Rattle.ir_records.specs.Outcome.{Outcome}
use Rattle.ir_records.specs.Outcome as outcome
use Rattle.ir_rows.specs.Rows.{with_part}
use Rattle.valid_type_info.specs.declared.UniformRule.{UniformRule}
use Rattle.valid_arena.specs.Arena.{arena_answer, arena_words}
use Rattle.std.specs.Prelude.{Option, Some, None}
use Rattle.order_numbers.specs.Order.{member_at}
use Rattle.order_placement.specs.Placement.{span_of}
use Rattle.order_search.specs.Fitting.{first_order}
use Rattle.order_types.specs.Given.{number_of, last_of}
use Rattle.order_struct.specs.Struct.{struct_record, member_rows}
use Rattle.order_check.specs.Tables.{types_with, members_with, if_accepted}
use Rattle.order_call.specs.Answer.{OrderAnswer}
use Rattle.order_call.specs.Answer as answer

-- number 1: at most seven types; a free type record, member rows and result row. The lengths are those of the lent tables and rows
unfoldable pub room : (types members rows n m k : ℕ) → Bool
room types members rows n m k =
    leb k 7 && leb (n + 1) most_types && leb ((n + 1) * type_words) types && leb (m + k) most_members && leb ((m + k) * member_words) members
    && leb ((n + 1) * row_words) rows

-- what a call leaves: its answer, both tables and the rows
pub record Left : Type 0 where
  pub answer : OrderAnswer
  pub types : List ℕ
  pub members : List ℕ
  pub rows : List ℕ

-- the refusal of the struct's check is passed on
abbrev pub struct_answer : (n span order : ℕ) → Outcome → OrderAnswer
struct_answer n span order outcome.Accepted = answer.Found n span order
struct_answer n span order (outcome.Refused number ty member detail) = answer.Refused number ty member detail

-- n types and m member rows are in use
module _ (rule : UniformRule) (c : ℕ) (types : List ℕ) (n : ℕ) (members : List ℕ) (m : ℕ) where
  -- a refusal outside the arena check carries zeros only; no refusal writes a record
  abbrev pub refused : (number : ℕ) (rows : List ℕ) → Left
  refused number rows = record { answer = answer.Refused number 0 0 0; types = types; members = members; rows = rows }

  -- a struct of k members goes through the arena check: on a refusal both tables are left as they were
  abbrev pub with_struct : (rows head words : List ℕ) (k span order : ℕ) → Left
  with_struct rows head words k span order =
      let ts = types_with types n head in
      let ms = members_with members m words in
      let o = arena_answer c ts ms rows in
      record {
        answer = struct_answer n span order o;
        types = if_accepted o (with_part type_words types (n * type_words) head) types;
        members = if_accepted o (with_part (k * member_words) members (m * member_words) words) members;
        rows = arena_words rule c ts ms rows;
      }

  -- the struct of the order that was found, with its own span
  abbrev pub with_order : (rows wanted : List ℕ) → Option ℕ → Left
  with_order rows wanted None = refused 35 rows
  with_order rows wanted (Some order) =
      let k = length wanted in
      let own = span_of rows wanted k (member_at k order) in
      with_struct rows (struct_record m k own) (member_rows rows wanted k (member_at k order)) k own order

  -- over an accepted arena and its rows: 16, then 6, 17 and 20, then 35
  unfoldable pub chosen : (rows wanted : List ℕ) (span : ℕ) → Left
  chosen rows wanted span =
      pick (eqb (length wanted) 0) (refused 16 rows)
      (pick (eqb (number_of types rows n wanted) 0)
      (with_order rows wanted (first_order rows wanted (length wanted) (last_of types rows n wanted) span))
      (refused (number_of types rows n wanted) rows))

  -- after the arena check of the records in use
  abbrev pub after_check : (rows wanted : List ℕ) (span : ℕ) → Outcome → Left
  after_check rows wanted span outcome.Accepted = chosen rows wanted span
  after_check rows wanted span (outcome.Refused number ty member detail) =
      record { answer = answer.Refused number ty member detail; types = types; members = members; rows = rows }

  -- the call
  unfoldable pub ordered : (rows wanted : List ℕ) (span : ℕ) → Left
  ordered rows wanted span =
      let ts = take (n * type_words) types in
      let ms = take (m * member_words) members in
      pick (room (length types) (length members) (length rows) n m (length wanted))
      (after_check (arena_words rule c ts ms rows) wanted span (arena_answer c ts ms rows))
      (refused 1 rows)
