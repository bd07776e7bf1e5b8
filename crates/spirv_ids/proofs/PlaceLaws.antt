-- The instructions before a place, split at one of them; how many types are read before it; where a search may begin.
-- Assumes nothing.
use mathlib.Core.Path.{◌≡◌, refl, sym, ap, subst, ◌∙◌}
use mathlib.Core.Bool.{Bool, true, false, ◌&&◌}
use mathlib.Core.List.{List, [], ◌∷◌, ◌++◌, append_assoc}
use Prim.Native.Nat.{ℕ, zero, suc, ◌+◌, ◌-◌, ◌≤◌, ◌<◌}
use native.Mathlib.Omega.{arith}
use native.Mathlib.Decide.{dec_le}
use lib.Dec.{eqb, leb, ltb}
use borrow.Author.Tests.{ltb-true, leb-true, le-leb, eqb-true, eqb-false, ne_eqb}
use Rattle.std.proofs.lemmas.Option.{none-some, same_Some}
use Rattle.std.proofs.lemmas.Bool.{and_parts, or_parts, true≢false}
use Rattle.std.specs.Prelude.{Option, None, Some}
use Rattle.ir_records.specs.Result.{pick}
use Rattle.std.specs.Option.{is_some, unwrap_or}
use Rattle.spirv_words.specs.Module.{opcode, word, word_count, is_type, is_read, type_int, constant, header_words, starts, between, before, first, find, count}
use Rattle.spirv_words.specs.Decorations.{is_integer}
use Rattle.spirv_words.proofs.SearchLaws.{between_next, between_end, search_on, search_end, found_below, found_is}
use Rattle.spirv_ids.specs.Sorts.{Unknown, OtherType, TypeRead, ConstantAt}
use Rattle.spirv_ids.specs.Ids.{integer_before, integer_found, is_constant, gives, giver, giver_found, type_number, sort_at, sort}
use Rattle.spirv_ids.specs.Places.{Stands, may_give, GivesFrom}

pub count_append : (test : ℕ → Bool) (ps qs : List ℕ) → count test (ps ++ qs) ≡ count test ps + count test qs
unfolding count
count_append test [] qs = omega arith
count_append test (p ∷ ps) qs = let r = count_append test ps qs in omega (arith, r)

module _ (ws : List ℕ) where
  pub stands_first : Stands ws header_words
  unfolding starts
  stands_first = record { start = omega arith; split = λ end h. refl }

  module _ (p : ℕ) (st : Stands ws p) where
    before_next : 0 < word_count ws p → before ws (p + word_count ws p) ≡ before ws p ++ (p ∷ [])
    before_next k =
        st.split (p + word_count ws p) (omega arith)
        ∙ ap (λ ps. before ws p ++ ps) (between_next ws (p + word_count ws p) p (omega (arith, k)) k ∙ ap (λ ps. p ∷ ps) (between_end ws (p + word_count ws p) (p + word_count ws p) (omega arith)))

    pub stands_next : 0 < word_count ws p → Stands ws (p + word_count ws p)
    stands_next k =
        record {
          start = omega (arith, st.start);
          split = λ end h.
              st.split end (omega arith)
              ∙ ap (λ ps. before ws p ++ ps) (between_next ws end p (omega (arith, k)) k)
              ∙ sym (append_assoc (before ws p) (p ∷ []) (between ws (p + word_count ws p) end))
              ∙ ap (λ ps. ps ++ between ws (p + word_count ws p) end) (sym (before_next k));
        }

    -- types read before the next instruction, and before the end of the words that are looked through
    pub number_next : 0 < word_count ws p → type_number ws (p + word_count ws p) ≡ type_number ws p + pick (is_read (opcode ws p)) 1 0
    unfolding type_number count
    number_next k =
        let test : ℕ → Bool = λ (q : ℕ). is_read (opcode ws q) in
        ap (count test) (before_next k) ∙ count_append test (before ws p) (p ∷ []) ∙ (omega arith)

    pub number_upto : (end : ℕ) → p < end → 0 < word_count ws p → type_number ws p + pick (is_read (opcode ws p)) 1 0 ≤ type_number ws end
    unfolding type_number count
    number_upto end h k =
        let test : ℕ → Bool = λ (q : ℕ). is_read (opcode ws q) in
        let e = ap (count test) (st.split end (omega arith) ∙ ap (λ ps. before ws p ++ ps) (between_next ws end p h k))
        ∙ count_append test (before ws p) (p ∷ between ws (p + word_count ws p) end) in
        omega (arith, e)

-- ---- where a search may begin
-- a type that is read is a type
pub read_type : (op : ℕ) → is_read op ≡ true → is_type op ≡ true
read_type op e = by (leb 20 op && leb op 24) refl
  where
    within : (a b : ℕ) → 19 ≤ a → b ≤ 38 → (leb a op && leb op b) ≡ true → is_type op ≡ true
    within a b low high t =
        let p = and_parts (leb a op) _ t in
        rw (le-leb 19 op (omega (arith, leb-true a op p.0, low)), le-leb op 38 (omega (arith, leb-true op b p.1, high)))

    by : (b : Bool) → (leb 20 op && leb op 24) ≡ b → is_type op ≡ true
    by true t = within 20 24 (omega arith) (omega arith) t
    by false t = within 28 30 (omega arith) (omega arith) (rw t at e)

no_type_read : (op : ℕ) → is_type op ≡ false → is_read op ≡ false
no_type_read op e = by (is_read op) refl
  where
    by : (b : Bool) → is_read op ≡ b → is_read op ≡ false
    by true t = absurd (true≢false (sym (read_type op t) ∙ e))
    by false t = t

module _ (ws : List ℕ) (id : ℕ) (q : ℕ) (e : may_give (opcode ws q) ≡ false) where
  quiet_integer : is_integer ws id q ≡ false
  quiet_integer = by (eqb (opcode ws q) type_int) refl
    where
      by : (b : Bool) → eqb (opcode ws q) type_int ≡ b → is_integer ws id q ≡ false
      by true t = absurd (true≢false (rw (eqb-true (opcode ws q) type_int t) at e))
      by false t = rw t

  quiet_gives : gives ws id q ≡ false
  unfolding gives is_constant
  quiet_gives = let p = or_parts (is_type (opcode ws q)) _ e in rw (p.0, p.1)

module _ (ws : List ℕ) (p : ℕ) (g : GivesFrom ws p) where
  pub integer-from : (at id : ℕ) → first (is_integer ws id) (between ws p at) ≡ integer_before ws at id
  unfolding integer_before
  integer-from at id = sym (g.search (is_integer ws id) (quiet_integer ws id) at)

  pub giver_from : (at id : ℕ) → first (gives ws id) (between ws p at) ≡ giver ws at id
  unfolding giver
  giver_from at id = sym (g.search (gives ws id) (quiet_gives ws id) at)

  pub gives_next : may_give (opcode ws p) ≡ false → 0 < word_count ws p → GivesFrom ws (p + word_count ws p)
  gives_next e k =
      record {
        stands = stands_next ws p g.stands k;
        search = λ test quiet end. g.search test quiet end ∙ on test (quiet p e) end (dec_le end p);
        none = number_next ws p g.stands k ∙ rw (g.none, no_type_read (opcode ws p) (or_parts (is_type (opcode ws p)) _ e).0) refl;
      }
    where
      on : (test : ℕ → Bool) → test p ≡ false → (end : ℕ) → Dec (end ≤ p) → first test (between ws p end) ≡ first test (between ws (p + word_count ws p) end)
      on test t end (yes h) = search_end ws end test p h ∙ sym (search_end ws end test (p + word_count ws p) (omega arith))
      on test t end (no h) = search_on ws end test p (omega (arith, h)) k t

pub gives_first : (ws : List ℕ) → GivesFrom ws header_words
unfolding type_number starts count
gives_first ws = record { stands = stands_first ws; search = λ test quiet end. refl; none = refl }

pub giver_below : (ws : List ℕ) (at id : ℕ) → 0 < giver ws at id → giver ws at id < at
unfolding giver
giver_below ws at id h = (found_below ws at (gives ws id) (at - header_words) header_words h).0

giver_gives : (ws : List ℕ) (at id : ℕ) → 0 < giver ws at id → gives ws id (giver ws at id) ≡ true
unfolding giver
giver_gives ws at id h = (found_below ws at (gives ws id) (at - header_words) header_words h).2

-- no type is given by an OpConstant
given_constant : (ws : List ℕ) (id q : ℕ) → gives ws id q ≡ true → eqb (opcode ws q) constant ≡ true → is_constant ws q ≡ true
unfolding gives
given_constant ws id q e c =
    let op : opcode ws q ≡ 43 = eqb-true (opcode ws q) constant c in
    (and_parts (is_constant ws q) _ (rw op at e)).0

-- the sorts differ
unknown_constant : (g : ℕ) → Unknown ≡ ConstantAt g → ⊥
unknown_constant g e = let z : ◌≡◌ {A = ℕ} 0 1 = cc in absurd (omega arith)

read_constant : (n g : ℕ) → TypeRead n ≡ ConstantAt g → ⊥
read_constant n g e = let z : ◌≡◌ {A = ℕ} 0 1 = cc in absurd (omega arith)

other_constant : (g : ℕ) → OtherType ≡ ConstantAt g → ⊥
other_constant g e = let z : ◌≡◌ {A = ℕ} 0 1 = cc in absurd (omega arith)

constant_same : (h g : ℕ) → ConstantAt h ≡ ConstantAt g → h ≡ g
constant_same h g e = cc

-- ---- an OpConstant of an integer type
pub constant_found : (ws : List ℕ) (at : ℕ) → is_some (integer_found ws at) ≡ is_constant ws at
unfolding is_constant
constant_found ws at = by (eqb (opcode ws at) constant) refl
  where
    by : (b : Bool) → eqb (opcode ws at) constant ≡ b → is_some (integer_found ws at) ≡ (eqb (opcode ws at) constant && ltb 0 (integer_before ws at (word ws at 1)))
    by true t = rw t (found_is (integer_before ws at (word ws at 1)))
    by false t = rw t refl

-- what is given as a constant is one
pub constant_given : (ws : List ℕ) (at id g : ℕ) → sort ws at id ≡ ConstantAt g → is_constant ws g ≡ true
unfolding sort sort_at
constant_given ws at id g e = none (eqb (giver ws at id) 0) refl
  where
    none : (b : Bool) → eqb (giver ws at id) 0 ≡ b → is_constant ws g ≡ true
    none true z = absurd (unknown_constant g (rw z at e))
    none false z = constants (eqb (opcode ws (giver ws at id)) constant) refl
      where
        constants : (b : Bool) → eqb (opcode ws (giver ws at id)) constant ≡ b → is_constant ws g ≡ true
        constants false c = reads (is_read (opcode ws (giver ws at id))) refl
          where
            reads : (b : Bool) → is_read (opcode ws (giver ws at id)) ≡ b → is_constant ws g ≡ true
            reads true r = absurd (read_constant _ g (rw (z, c, r) at e))
            reads false r = absurd (other_constant g (rw (z, c, r) at e))
        constants true c =
            let some : 0 < giver ws at id = omega (arith, eqb-false (giver ws at id) 0 z) in
            rw (constant_same _ g (rw (z, c) at e)) at (given_constant ws id (giver ws at id) (giver_gives ws at id some) c)

-- ---- the giver as an option
module _ (ws : List ℕ) (at id : ℕ) where
  pub giver_missing : giver ws at id ≡ 0 → None ≡ giver_found ws at id
  giver_missing e = rw e

  pub giver_here : (p n : ℕ) → 0 < p → p ≡ giver ws at id → n ≡ type_number ws p → Some (record { at = p; number = n }) ≡ giver_found ws at id
  giver_here p n h e f = rw (sym e, ne_eqb p 0 (λ z. omega (arith, h, z)), f)
