-- A search on which what is passed is counted: the instructions that are left, and how many types are read before them.
-- Assumes nothing.
use mathlib.Core.Path.{◌≡◌, refl, sym, ap, ◌∙◌}
use mathlib.Core.Bool.{true, false}
use mathlib.Core.List.{List, [], ◌∷◌}
use Prim.Native.Nat.{ℕ, ◌+◌, ◌≤◌, ◌<◌}
use native.Mathlib.Decide.{dec_le}
use native.Mathlib.Omega.{arith}
use Rattle.std.specs.Prelude.{None, Some}
use Rattle.ir_records.specs.Result.{pick}
use Rattle.spirv_words.specs.Module.{opcode, word_count, is_read, between, first}
use Rattle.spirv_words.proofs.SearchLaws.{between_next, between_end, between_stuck}
use Rattle.spirv_ids.specs.Ids.{gives, giver, giver_found, type_number}
use Rattle.spirv_ids.specs.Places.{Stands, GivesFrom}
use Rattle.spirv_ids.proofs.PlaceLaws.{giver_from, giver_missing, giver_here, number_next, number_upto, stands_next}

module _ (ws : List ℕ) (at : ℕ) where
  -- the first of those that are left
  pub record First (p q : ℕ) (ps : List ℕ) : Type 0 where
    pub below : p < at
    pub some : 0 < word_count ws p
    pub is : q ≡ p
    pub others : ps ≡ between ws (p + word_count ws p) at

  nothing : (q : ℕ) (ps : List ℕ) → q ∷ ps ≡ [] → ⊥
  nothing q ps e = let z : ◌≡◌ {A = ℕ} 0 1 = cc in omega (arith, z)

  pub first_of : (p q : ℕ) (ps : List ℕ) → q ∷ ps ≡ between ws p at → First p q ps
  first_of p q ps e = by (dec_le at p) (dec_le (word_count ws p) 0)
    where
      by : Dec (at ≤ p) → Dec (word_count ws p ≤ 0) → First p q ps
      by (yes h) k = absurd (nothing q ps (e ∙ between_end ws at p h))
      by (no h) (yes k) = absurd (nothing q ps (e ∙ between_stuck ws at p (omega (arith, k))))
      by (no h) (no k) =
          let f = e ∙ between_next ws at p (omega (arith, h)) (omega (arith, k)) in
          record { below = omega (arith, h); some = omega (arith, k); is = cc; others = cc }

module _ (ws : List ℕ) (at id : ℕ) where
  -- the instructions that are left before `at`; n types are read before them
  pub record Counting (n : ℕ) (left : List ℕ) : Type 0 where
    pub next : ℕ
    pub rest : left ≡ between ws next at
    pub stands : Stands ws next
    pub counted : n ≡ type_number ws next
    pub search : first (gives ws id) left ≡ giver ws at id

  pub counting_starts : (from : ℕ) → GivesFrom ws from → Counting 0 (between ws from at)
  counting_starts from g = record { next = from; rest = refl; stands = g.stands; counted = sym g.none; search = giver_from ws from g at id }

  pub counting_ends : (n : ℕ) → Counting n [] → None ≡ giver_found ws at id
  unfolding first
  counting_ends n c = giver_missing ws at id (sym c.search)

  module _ (n p : ℕ) (ps : List ℕ) (c : Counting n (p ∷ ps)) where
    abbrev f : First ws at c.next p ps
    f = first_of ws at c.next p ps c.rest

    pub counting_few : n + pick (is_read (opcode ws p)) 1 0 ≤ type_number ws at
    counting_few = rw (f.is, c.counted) (number_upto ws c.next c.stands at f.below f.some)

    pub counting_here : gives ws id p ≡ true → Some (record { at = p; number = n }) ≡ giver_found ws at id
    unfolding first
    counting_here e =
        giver_here ws at id p n (omega (arith, f.is, c.stands.start)) (rw e at c.search) (c.counted ∙ ap (type_number ws) (sym f.is))

    pub counting_goes : gives ws id p ≡ false → (m : ℕ) → m ≡ n + pick (is_read (opcode ws p)) 1 0 → Counting m ps
    unfolding first
    counting_goes e m s =
        record {
          next = c.next + word_count ws c.next;
          rest = f.others;
          stands = stands_next ws c.next c.stands f.some;
          counted = s ∙ rw (f.is, c.counted) (sym (number_next ws c.next c.stands f.some));
          search = rw e at c.search;
        }
