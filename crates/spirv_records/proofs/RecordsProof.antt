-- The records of a module that was read are in order.
-- Assumes nothing.
use mathlib.Core.Path.{◌≡◌, refl, subst}
use mathlib.Core.Bool.{true}
use mathlib.Core.List.{List}
use Prim.Native.Nat.{ℕ, zero, suc, ◌*◌, ◌/◌, ◌%◌, ◌≤◌, ◌<◌}
use native.Mathlib.Nat.{not-suc-le-zero}
use native.Mathlib.Omega.{arith}
use lib.Dec.{T}
use lib.ListN.{length, drop}
use lib.Seq.{take_at}
use borrow.Author.Tests.{eq-eqb, le-leb}
use Rattle.ir_records.specs.Result.{Result, err, ok}
use Rattle.ir_records.specs.Record.{decoded, type_words, member_words, type_count, member_count, type_inner, struct_members}
use Rattle.ir_records.specs.Fields.{most_types, most_members, row_words, tables_fit, capabilities_known, record_at}
use Rattle.ir_records.specs.Table.{table, result_at}
use Rattle.ir_records.proofs.ResultLaws.{T_true}
use Rattle.ir_records.proofs.TableLaws.{accepted_all}
use Rattle.proc_layouter.specs.Layouter.{no_layout, layout_step, layout_at, layout_outcome, layout_answer}
use Rattle.valid_arena.specs.Arena.{common_at, judge_outcome, arena_outcome, arena_answer}
use Rattle.spirv_ids.specs.Ids.{type_number}
use Rattle.spirv_types.specs.Types.{State}
use Rattle.spirv_instruction.specs.Instruction.{types_room, members_room}
use Rattle.spirv_read.specs.Section.{Read, Refused as NotRead}
use Rattle.spirv_read.specs.Read.{read_module, read_into, section_of}
use Rattle.spirv_records.specs.Records.{InOrder, LaidOut, types_cut, members_cut, RecordsInOrder}
use Rattle.spirv_records.proofs.HeldLaws.{Held, read_held}
use Rattle.spirv_records.proofs.OrderLaws.{Sound, sound_own, Ordered, ordered_own}
use Rattle.spirv_records.proofs.NumberLaws.{Four, common_late, layout_four, laid_in_order, also_in_order, first_in_order, first_laid}

-- ---- of the records
module _ (t m : ℕ) (ws : List ℕ) (s : State) (held : Held t m ws (length ws) s) where
  abbrev n : ℕ
  n = type_number ws (length ws)

  sound_below : (k : ℕ) → k ≤ n → (i : ℕ) → i < k → Sound s.types i
  sound_below zero l i h = absurd (not-suc-le-zero h)
  sound_below (suc k) l i h =
      let p = held.each i (omega (arith, h, l)) in
      let before : (b : ℕ) → b < i → Sound s.types b = λ b q. sound_below k (omega (arith, l)) b (omega (arith, q, h)) in
      subst (λ (x : ℕ). Sound s.types x) p.2
      (sound_own ws s p.0 (held.recorded p.0 p.1) (λ b q. before b (omega (arith, q, p.2))))

  pub ordered : (i : ℕ) → i < n → Ordered s.types s.members i
  ordered i h =
      let p = held.each i h in
      subst (λ (x : ℕ). Ordered s.types s.members x) p.2
      (ordered_own ws s p.0 (held.recorded p.0 p.1) (λ b q. sound_below n (omega arith) b (omega (arith, q, p.2, h))))

  counted : type_count s.types ≡ n
  counted = omega (arith, held.number)

  laid_four : (i : ℕ) → i < n → Four (layout_at (decoded s.types s.members) i)
  unfolding result_at
  laid_four i h =
      let a = (ordered i h).aligned (table no_layout (layout_step (decoded s.types s.members)) i) in
      layout_four (table no_layout (layout_step (decoded s.types s.members)) i) i (type_inner s.types i) (struct_members s.types s.members i) a.0 a.1

  outcome_laid : LaidOut (layout_outcome s.types s.members)
  unfolding layout_outcome
  outcome_laid =
      rw (counted, accepted_all (record_at s.types s.members) n (λ i h. (tt, (ordered i h).fields)))
      (first_laid (layout_at (decoded s.types s.members)) n laid_four)

  outcome_in_order : (c : ℕ) → InOrder (arena_outcome c s.types s.members)
  unfolding arena_outcome judge_outcome
  outcome_in_order c =
      also_in_order (layout_outcome s.types s.members) (judge_outcome c s.types s.members) (laid_in_order (layout_outcome s.types s.members) outcome_laid)
      (first_in_order (common_at c (decoded s.types s.members)) (common_late c (decoded s.types s.members)) (type_count s.types))

  module _ (few : t ≤ most_types) (few_members : m ≤ most_members) (rows : List ℕ) (long : n * row_words ≤ length rows) where
    fit : tables_fit (length s.types) (length s.members) (length rows) ≡ true
    unfolding tables_fit
    fit =
        let a = length s.types in
        let b = length s.members in
        rw (
          eq-eqb (a % type_words) 0 (omega (arith, held.number)),
          le-leb a (most_types * type_words) (omega (arith, held.number, held.few, few)),
          eq-eqb (b % member_words) 0 (omega (arith, held.rows)),
          le-leb b (most_members * member_words) (omega (arith, held.rows, held.few_members, few_members)),
          le-leb (a / type_words * row_words) (length rows) (omega (arith, counted, long)),
        ) refl

    pub answer_laid : LaidOut (layout_answer s.types s.members rows)
    unfolding layout_answer
    answer_laid = rw fit outcome_laid

    pub answer_in_order : (c : ℕ) → T (capabilities_known c) → InOrder (arena_answer c s.types s.members rows)
    unfolding arena_answer
    answer_in_order c known = rw (T_true (capabilities_known c) known, fit) (outcome_in_order c)

-- ---- of the lent tables, cut to the counts
read_refused : (a b k : ℕ) → NotRead k ≡ Read a b → ⊥
read_refused a b k e = let z : ◌≡◌ {A = ℕ} 0 1 = cc in absurd (omega arith)

counts : (a b c d : ℕ) → Read a b ≡ Read c d → (a ≡ c) × (b ≡ d)
counts a b c d e = (cc, cc)

module _ (ws types members : List ℕ) (t m : ℕ) where
  abbrev a : ℕ
  a = types_room (length types)

  abbrev b : ℕ
  b = members_room (length members)

  -- the state that was read, and what the cut tables are
  record WasRead : Type 0 where
    state : State
    held : Held a b ws (length ws) state
    types_are : types_cut ws types members t ≡ state.types
    members_are : members_cut ws types members m ≡ state.members
    rows_fit : type_number ws (length ws) ≡ t

  was_read : section_of (read_into ws types members) ≡ Read t m → WasRead
  unfolding read_into
  was_read e = by (read_module a b ws) refl
    where
      by : (r : Result State) → read_module a b ws ≡ r → WasRead
      by (err k x d) f = absurd (read_refused t m k (rw f at e))
      by (ok s) f =
          let held = read_held a b ws s f in
          let c = counts (type_count s.types) (member_count s.members) t m (rw f at e) in
          record {
            state = s;
            held = held;
            types_are = rw f (take_at s.types (drop (length s.types) types) (t * type_words) (omega (arith, held.number, c.0)));
            members_are = rw f (take_at s.members (drop (length s.members) members) (m * member_words) (omega (arith, held.rows, c.1)));
            rows_fit = omega (arith, held.number, c.0);
          }

pub records_in_order : RecordsInOrder
records_in_order =
    record {
      layout = λ ws types members t m e rows long.
          let r = was_read ws types members t m e in
          rw (r.types_are, r.members_are)
          (answer_laid (types_room (length types)) (members_room (length members)) ws r.state r.held (omega arith) (omega arith) rows (omega (arith, r.rows_fit, long)));
      check = λ ws types members t m e c known rows long.
          let r = was_read ws types members t m e in
          rw (r.types_are, r.members_are)
          (answer_in_order (types_room (length types)) (members_room (length members)) ws r.state r.held (omega arith) (omega arith) rows (omega (arith, r.rows_fit, long)) c known);
    }
