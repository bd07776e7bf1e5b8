-- The records that are held at an instruction come from the types before it, one each, in word order.
-- Assumes nothing.
use mathlib.Core.Path.{◌≡◌, refl, sym, ap, ◌∙◌}
use mathlib.Core.Bool.{Bool, true, false, ◌&&◌}
use mathlib.Core.Logic.{◌⊎◌, inl, inr}
use mathlib.Core.List.{List, [], ◌∷◌, ◌++◌, append_assoc, append-nil}
use Prim.Native.Nat.{ℕ, zero, suc, ◌+◌, ◌*◌, ◌≤◌, ◌<◌}
use native.Mathlib.Omega.{arith}
use native.Mathlib.Decide.{dec_le}
use lib.Dec.{eqb, leb, ltb}
use lib.ListN.{length, length-append}
use borrow.Author.Tests.{leb-true, ltb-true, lt-ltb, le-ltb}
use Rattle.std.proofs.lemmas.Bool.{and_parts}
use Rattle.ir_records.specs.Result.{ok, pick, require}
use Rattle.ir_records.specs.Record.{type_words, member_words, type_count, member_count}
use Rattle.ir_records.proofs.ResultLaws.{required, T_true, and_then_ok, ok_inj}
use Rattle.spirv_words.specs.Module.{opcode, word, word_count, is_type, is_read, header_ok, header_words, starts, before, count}
use Rattle.spirv_words.proofs.SearchLaws.{between_next, between_end}
use Rattle.spirv_ids.specs.Ids.{giver, is_constant, type_number}
use Rattle.spirv_ids.specs.Places.{Stands}
use Rattle.spirv_ids.proofs.PlaceLaws.{stands_first, stands_next, number_next}
use Rattle.spirv_members.specs.Members.{member_rows}
use Rattle.spirv_members.proofs.AlignmentLaws.{rows_length}
use Rattle.spirv_types.specs.declared.Typed.{Typed}
use Rattle.spirv_types.specs.Types.{State, type_at}
use Rattle.spirv_instruction.specs.Instruction.{told_by, words_ok, row_count, fits, listed, with_type, type_read, other_read, instruction}
use Rattle.spirv_instruction.proofs.InstructionLaws.{count_some}
use Rattle.spirv_read.specs.Read.{read_from, none, read_module}
use Rattle.spirv_records.specs.TypesRead.{Among, ReadBefore}

-- ---- lists of instructions
pub among_left : (p : ℕ) (ps qs : List ℕ) → Among p ps → Among p (ps ++ qs)
among_left p [] qs a = absurd a
among_left p (q ∷ ps) qs (inl e) = inl e
among_left p (q ∷ ps) qs (inr a) = inr (among_left p ps qs a)

pub among_last : (p : ℕ) (ps : List ℕ) → Among p (ps ++ (p ∷ []))
among_last p [] = inl refl
among_last p (q ∷ ps) = inr (among_last p ps)

pub among_split : (p q : ℕ) (ps : List ℕ) → Among p (ps ++ (q ∷ [])) → Among p ps ⊎ (p ≡ q)
among_split p q [] (inl e) = inr e
among_split p q [] (inr a) = absurd a
among_split p q (r ∷ ps) (inl e) = inl (inl e)
among_split p q (r ∷ ps) (inr a) = more (among_split p q ps a)
  where
    more : Among p ps ⊎ (p ≡ q) → Among p (r ∷ ps) ⊎ (p ≡ q)
    more (inl b) = inl (inr b)
    more (inr e) = inr e

-- the instructions before the next one
pub before_next : (ws : List ℕ) (p : ℕ) → Stands ws p → 0 < word_count ws p → before ws (p + word_count ws p) ≡ before ws p ++ (p ∷ [])
before_next ws p st k =
    st.split (p + word_count ws p) (omega arith)
    ∙ ap (λ ps. before ws p ++ ps)
    (between_next ws (p + word_count ws p) p (omega (arith, k)) k ∙ ap (λ ps. p ∷ ps) (between_end ws (p + word_count ws p) (p + word_count ws p) (omega arith)))

-- ---- the type at p has its record: made from the state before it, with the records of later types behind it
pub record Recorded (ws : List ℕ) (s : State) (p : ℕ) : Type 0 where
  pub was : State
  pub made : Typed
  pub judged : type_at ws was p ≡ ok made
  pub stands : Stands ws p
  pub within : p ≤ length ws
  pub reads : is_read (opcode ws p) ≡ true
  pub later_types : List ℕ
  pub later_members : List ℕ
  pub types : s.types ≡ was.types ++ (listed made.words ++ later_types)
  pub members : s.members ≡ was.members ++ (member_rows ws p (row_count ws p) ++ later_members)
  pub number : length was.types ≡ type_number ws p * type_words
  pub rows : length was.members ≡ member_count was.members * member_words

pub record Held (t m : ℕ) (ws : List ℕ) (at : ℕ) (s : State) : Type 0 where
  pub stands : Stands ws at
  pub within : at ≤ length ws
  pub number : length s.types ≡ type_number ws at * type_words
  pub rows : length s.members ≡ member_count s.members * member_words
  pub few : type_number ws at ≤ t
  pub few_members : member_count s.members ≤ m
  pub recorded : (p : ℕ) → ReadBefore ws at p → Recorded ws s p
  pub each : (i : ℕ) → i < type_number ws at → (p : ℕ) × ReadBefore ws at p × (type_number ws p ≡ i)

-- what a record has stays when another is made
recorded_more : (ws : List ℕ) (s : State) (y : Typed) (rows : List ℕ) (p : ℕ) → Recorded ws s p → Recorded ws (with_type s y rows) p
recorded_more ws s y rows p r =
    let own = listed r.made.words in
    let own_rows = member_rows ws p (row_count ws p) in
    record {
      was = r.was;
      made = r.made;
      judged = r.judged;
      stands = r.stands;
      within = r.within;
      reads = r.reads;
      later_types = r.later_types ++ listed y.words;
      later_members = r.later_members ++ rows;
      types =
          ap (λ l. l ++ listed y.words) r.types
          ∙ append_assoc r.was.types (own ++ r.later_types) (listed y.words);
      members =
          ap (λ l. l ++ rows) r.members
          ∙ append_assoc r.was.members (own_rows ++ r.later_members) rows
          ∙ ap (λ l. r.was.members ++ l) (append_assoc own_rows r.later_members rows);
      number = r.number;
      rows = r.rows;
    }

module _ (t m : ℕ) (ws : List ℕ) where
  pub held_none : 5 ≤ length ws → Held t m ws header_words none
  unfolding type_number starts count
  held_none h =
      record {
        stands = stands_first ws;
        within = h;
        number = refl;
        rows = refl;
        few = omega arith;
        few_members = omega arith;
        recorded = λ p r. absurd r.among;
        each = λ i l. absurd (omega (arith, l));
      }

  module _ (at : ℕ) (s : State) (held : Held t m ws at s) (fit : words_ok ws at ≡ true) where
    some : 0 < word_count ws at
    some = count_some t m ws at fit

    next_within : at + word_count ws at ≤ length ws
    unfolding words_ok
    next_within =
        let p = and_parts (leb 1 (word_count ws at) && leb (at + word_count ws at) (length ws) && leb (told_by (opcode ws at)) (word_count ws at)) _ fit in
        let q = and_parts (leb 1 (word_count ws at) && leb (at + word_count ws at) (length ws)) _ p.0 in
        leb-true (at + word_count ws at) (length ws) (and_parts (leb 1 (word_count ws at)) _ q.0).1

    -- the types before the next instruction are those before this one, and this one if it is read
    earlier : (p : ℕ) → ReadBefore ws (at + word_count ws at) p → ReadBefore ws at p ⊎ (p ≡ at)
    earlier p r = by (among_split p at (before ws at) (rw (before_next ws at held.stands some) at r.among))
      where
        by : Among p (before ws at) ⊎ (p ≡ at) → ReadBefore ws at p ⊎ (p ≡ at)
        by (inl a) = inl (record { among = a; reads = r.reads })
        by (inr e) = inr e

    later : (p : ℕ) → ReadBefore ws at p → ReadBefore ws (at + word_count ws at) p
    later p r = record { among = rw (before_next ws at held.stands some) (among_left p (before ws at) (at ∷ []) r.among); reads = r.reads }

    -- one that makes no record
    held_skipped : is_read (opcode ws at) ≡ false → Held t m ws (at + word_count ws at) s
    held_skipped e =
        let same : type_number ws (at + word_count ws at) ≡ type_number ws at = number_next ws at held.stands some ∙ rw e (omega arith) in
        record {
          stands = stands_next ws at held.stands some;
          within = next_within;
          number = held.number ∙ ap (λ (n : ℕ). n * type_words) (sym same);
          rows = held.rows;
          few = omega (arith, same, held.few);
          few_members = held.few_members;
          recorded = λ p r. was p r (earlier p r);
          each = λ i l. let q = held.each i (omega (arith, l, same)) in (q.0, later q.0 q.1, q.2);
        }
      where
        bad : true ≡ false → ⊥
        bad z = let o : ◌≡◌ {A = ℕ} 0 1 = cc in absurd (omega arith)

        was : (p : ℕ) → ReadBefore ws (at + word_count ws at) p → ReadBefore ws at p ⊎ (p ≡ at) → Recorded ws s p
        was p r (inl a) = held.recorded p a
        was p r (inr z) = absurd (bad (sym r.reads ∙ ap (λ (q : ℕ). is_read (opcode ws q)) z ∙ e))

    -- one that makes a record
    module _ (read : is_read (opcode ws at) ≡ true) (y : Typed) (made : type_at ws s at ≡ ok y) (room : fits t m ws at s ≡ true) where
      abbrev rows : List ℕ
      rows = member_rows ws at (row_count ws at)

      one : type_number ws (at + word_count ws at) ≡ type_number ws at + 1
      one = number_next ws at held.stands some ∙ rw read refl

      own : Recorded ws (with_type s y rows) at
      own =
          record {
            was = s;
            made = y;
            judged = made;
            stands = held.stands;
            within = held.within;
            reads = read;
            later_types = [];
            later_members = [];
            types = refl;
            members = ap (λ l. s.members ++ l) (sym (append-nil rows));
            number = held.number;
            rows = held.rows;
          }

      rows_long : length (s.members ++ rows) ≡ (member_count s.members + row_count ws at) * member_words
      rows_long = length-append s.members rows ∙ omega (arith, held.rows, rows_length ws at (row_count ws at))

      held_made : Held t m ws (at + word_count ws at) (with_type s y rows)
      held_made =
          let r = and_parts (ltb (type_count s.types) t) _ room in
          let less = ltb-true (type_count s.types) t r.0 in
          let less-rows = leb-true (member_count s.members + row_count ws at) m r.1 in
          record {
            stands = stands_next ws at held.stands some;
            within = next_within;
            number = length-append s.types (listed y.words) ∙ omega (arith, held.number, one);
            rows = omega (arith, rows_long);
            few = omega (arith, one, less, held.number);
            few_members = omega (arith, rows_long, less-rows);
            recorded = λ p q. by p (earlier p q);
            each = λ i l. numbered i l (dec_le (type_number ws at) i);
          }
        where
          by : (p : ℕ) → ReadBefore ws at p ⊎ (p ≡ at) → Recorded ws (with_type s y rows) p
          by p (inl a) = recorded_more ws s y rows p (held.recorded p a)
          by p (inr z) = rw z own

          numbered : (i : ℕ) → i < type_number ws (at + word_count ws at) → Dec (type_number ws at ≤ i)
              → (p : ℕ) × ReadBefore ws (at + word_count ws at) p × (type_number ws p ≡ i)
          numbered i l (no h) = let q = held.each i (omega (arith, h)) in (q.0, later q.0 q.1, q.2)
          numbered i l (yes h) =
              (at, record { among = rw (before_next ws at held.stands some) (among_last at (before ws at)); reads = read }, omega (arith, h, l, one))

  -- ---- an instruction that is not refused
  new-id : (at id : ℕ) (s s' : State) → require (eqb (giver ws at id) 0) 30 0 0 (ok s) ≡ ok s' → s ≡ s'
  new-id at id s s' e = ok_inj (required (eqb (giver ws at id) 0) 30 0 0 (ok s) s' e).1

  other_same : (at : ℕ) (s s' : State) → other_read ws at s ≡ ok s' → s ≡ s'
  unfolding other_read
  other_same at s s' e = by (is_type (opcode ws at)) (is_constant ws at) refl refl
    where
      by : (a b : Bool) → is_type (opcode ws at) ≡ a → is_constant ws at ≡ b → s ≡ s'
      by true b p q = new-id at (word ws at 1) s s' (rw p at e)
      by false true p q = new-id at (word ws at 2) s s' (rw (p, q) at e)
      by false false p q = ok_inj (rw (p, q) at e)

  held_next : (at : ℕ) (s s' : State) → Held t m ws at s → instruction t m ws at s ≡ ok s' → Held t m ws (at + word_count ws at) s'
  unfolding instruction type_read
  held_next at s s' held e =
      let q = required (words_ok ws at) 28 0 0 (pick (is_read (opcode ws at)) (type_read t m ws at s) (other_read ws at s)) s' e in
      by (T_true (words_ok ws at) q.0) (is_read (opcode ws at)) refl q.1
    where
      by : words_ok ws at ≡ true → (b : Bool) → is_read (opcode ws at) ≡ b → pick (is_read (opcode ws at)) (type_read t m ws at s) (other_read ws at s) ≡ ok s'
          → Held t m ws (at + word_count ws at) s'
      by fit false r f = rw (sym (other_same at s s' (rw r at f))) (held_skipped at s held fit r)
      by fit true r f =
          let y = and_then_ok (type_at ws s at) (λ x. require (fits t m ws at s) 1 0 0 (ok (with_type s x (member_rows ws at (row_count ws at))))) s' (rw r at f) in
          let g = required (fits t m ws at s) 1 0 0 (ok (with_type s y.0 (member_rows ws at (row_count ws at)))) s' y.2 in
          rw (sym (ok_inj g.1)) (held_made at s held fit r y.0 y.1 (T_true (fits t m ws at s) g.0))

  moved : (at : ℕ) (s s' : State) → instruction t m ws at s ≡ ok s' → 0 < word_count ws at
  unfolding instruction
  moved at s s' e =
      count_some t m ws at
      (T_true (words_ok ws at) (required (words_ok ws at) 28 0 0 (pick (is_read (opcode ws at)) (type_read t m ws at s) (other_read ws at s)) s' e).0)

  held_from : (left at : ℕ) (s s' : State) → Held t m ws at s → length ws ≤ at + left → read_from t m ws left at s ≡ ok s' → Held t m ws (length ws) s'
  unfolding read_from
  held_from zero at s s' held l e =
      let end : at ≡ length ws = omega (arith, l, held.within) in
      rw (sym end, sym (ok_inj e)) held
  held_from (suc left) at s s' held l e = by (dec_le (suc at) (length ws)) (held_from left (at + word_count ws at))
    where
      by : Dec (suc at ≤ length ws)
          → ((s₁ s₂ : State) → Held t m ws (at + word_count ws at) s₁ → length ws ≤ at + word_count ws at + left → read_from t m ws left (at + word_count ws at) s₁ ≡ ok s₂ → Held t m ws (length ws) s₂)
          → Held t m ws (length ws) s'
      by (yes h) rest =
          let q = and_then_ok (instruction t m ws at s) (read_from t m ws left (at + word_count ws at)) s' (rw (lt-ltb at (length ws) h) at e) in
          rest q.0 s' (held_next at s q.0 held q.1) (omega (arith, l, moved at s q.0 q.1)) q.2
      by (no h) rest =
          let end : at ≡ length ws = omega (arith, h, held.within) in
          rw (sym end, sym (ok_inj (rw (le-ltb at (length ws) (omega (arith, h))) at e))) held

  -- of a module that is read
  pub read_held : (s : State) → read_module t m ws ≡ ok s → Held t m ws (length ws) s
  unfolding read_module
  read_held s e =
      let q = required (header_ok ws) 28 0 0 (read_from t m ws (length ws) header_words none) s e in
      let long = leb-true 5 (length ws) (and_parts (leb 5 (length ws)) _ (T_true (header_ok ws) q.0)).0 in
      held_from (length ws) header_words none s (held_none long) (omega arith) q.1
