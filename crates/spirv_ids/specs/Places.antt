-- Where a search for what gives an id may begin. It says nothing of the answers; it spares the names and decorations before the types.
-- Assumes nothing.
use Rattle.std.specs.Prelude.{◌≡◌, Bool, false, ◌||◌, List, [], ◌∷◌, ◌++◌, ℕ, ◌+◌, ◌≤◌, eqb, length}
use Rattle.std.specs.Coded.{le_prop, coded_ℕ, coded_list, Coded-set}
use Rattle.ir_records.specs.Result.{pick}
use Rattle.spirv_words.specs.Module.{word_count, opcode, is_type, constant, header_words, between, before, first}
use Rattle.spirv_ids.specs.Ids.{type_number}

-- an instruction stands at p: those before any later place are those before p, and those from p on
pub record Stands (ws : List ℕ) (p : ℕ) : Type 0 where
  pub start : header_words ≤ p
  pub split : (end : ℕ) → p ≤ end → before ws end ≡ before ws p ++ between ws p end

-- an instruction of this opcode may give an id that is looked for
abbrev pub may_give : (op : ℕ) → Bool
may_give op = is_type op || eqb op constant

-- where a search may begin, the instructions ps standing from p on: at the first that may give an id, or where none follows
unfoldable pub giver_among : (ws ps : List ℕ) (p : ℕ) → ℕ
giver_among ws [] p = p
giver_among ws (q ∷ qs) p = pick (may_give (opcode ws q)) q (giver_among ws qs (q + word_count ws q))

abbrev pub first_giver : (ws : List ℕ) → ℕ
first_giver ws = giver_among ws (before ws (length ws)) header_words

-- nothing before p gives an id
pub record GivesFrom (ws : List ℕ) (p : ℕ) : Type 0 where
  pub stands : Stands ws p
  pub search : (test : ℕ → Bool) → ((q : ℕ) → may_give (opcode ws q) ≡ false → test q ≡ false) → (end : ℕ) → first test (before ws end) ≡ first test (between ws p end)
  pub none : type_number ws p ≡ 0

-- each of the two has at most one proof
pub Stands-prop : (ws : List ℕ) (p : ℕ) → IsProp (Stands ws p)
Stands-prop ws p a b =
    λ i. record { start = le_prop a.start b.start i; split = λ end h. Coded-set (coded_list coded_ℕ) _ _ (a.split end h) (b.split end h) i }

pub GivesFrom-prop : (ws : List ℕ) (p : ℕ) → IsProp (GivesFrom ws p)
GivesFrom-prop ws p a b =
    λ i. record {
      stands = Stands-prop ws p a.stands b.stands i;
      search = λ test quiet end. Coded-set coded_ℕ _ _ (a.search test quiet end) (b.search test quiet end) i;
      none = Coded-set coded_ℕ _ _ a.none b.none i;
    }
