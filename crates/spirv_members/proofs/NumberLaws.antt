-- What an id stands for: a type that is read has a number below those still to come.
-- Assumes nothing.
use mathlib.Core.Path.{◌≡◌, refl}
use mathlib.Core.Bool.{Bool, true, false, ◌&&◌}
use mathlib.Core.List.{List}
use Prim.Native.Nat.{ℕ, zero, suc, ◌+◌, ◌-◌, ◌<◌}
use native.Mathlib.Omega.{arith}
use lib.Dec.{eqb, ltb}
use borrow.Author.Tests.{ltb-true, eqb-false}
use Rattle.std.proofs.lemmas.Bool.{and_parts}
use Rattle.spirv_words.specs.Module.{opcode, word_count, is_read, constant, header_words, starts, first}
use Rattle.spirv_ids.specs.Ids.{gives, giver, type_number, sort_at, sort}
use Rattle.spirv_ids.specs.Places.{Stands}
use Rattle.spirv_ids.proofs.PlaceLaws.{stands_first, stands_next, number_upto, giver_below}
use Rattle.spirv_members.specs.Members.{is_type_read, number_of}

false_true : false ≡ true → ⊥
false_true e = let z : ◌≡◌ {A = ℕ} 0 1 = cc in absurd (omega arith)

-- an instruction stands where a search finds one
pub found_stands : (ws : List ℕ) (end : ℕ) (test : ℕ → Bool) (l p : ℕ) → Stands ws p → 0 < first test (starts ws l p end)
    → Stands ws (first test (starts ws l p end)) × (0 < word_count ws (first test (starts ws l p end)))
unfolding starts first
found_stands ws end test zero p st h = absurd (omega (arith, h))
found_stands ws end test (suc l) p st h =
    by (ltb p end && ltb 0 (word_count ws p)) refl (λ k. found_stands ws end test l (p + word_count ws p) (stands_next ws p st k))
  where
    by : (b : Bool) → (ltb p end && ltb 0 (word_count ws p)) ≡ b
        → (0 < word_count ws p → 0 < first test (starts ws l (p + word_count ws p) end)
        → Stands ws (first test (starts ws l (p + word_count ws p) end)) × (0 < word_count ws (first test (starts ws l (p + word_count ws p) end))))
        → Stands ws (first test (starts ws (suc l) p end)) × (0 < word_count ws (first test (starts ws (suc l) p end)))
    by false k rest = absurd (omega (arith, rw k at h))
    by true k rest = hit (test p) refl
      where
        some : 0 < word_count ws p
        some = ltb-true 0 (word_count ws p) (and_parts (ltb p end) _ k).1

        hit : (t : Bool) → test p ≡ t → Stands ws (first test (starts ws (suc l) p end)) × (0 < word_count ws (first test (starts ws (suc l) p end)))
        hit true t = rw (k, t) (st, some)
        hit false t = rw (k, t) (rest some (rw (k, t) at h))

module _ (ws : List ℕ) (at id : ℕ) where
  pub giver_stands : 0 < giver ws at id → Stands ws (giver ws at id) × (0 < word_count ws (giver ws at id))
  unfolding giver
  giver_stands h = found_stands ws at (gives ws id) (at - header_words) header_words (stands_first ws) h

  pub number_below : 0 < giver ws at id → is_read (opcode ws (giver ws at id)) ≡ true → type_number ws (giver ws at id) < type_number ws at
  number_below h e =
      let st = giver_stands h in
      let more = number_upto ws (giver ws at id) st.0 at (giver_below ws at id h) st.1 in
      omega (arith, rw e at more)

  -- a type read: by what it is given, and its number
  pub record Read : Type 0 where
    pub given : 0 < giver ws at id
    pub opcode_read : is_read (opcode ws (giver ws at id)) ≡ true
    pub other : (opcode ws (giver ws at id) ≡ constant → ⊥)
    pub number : number_of (sort ws at id) ≡ type_number ws (giver ws at id)

  pub type-read : is_type_read (sort ws at id) ≡ true → Read
  unfolding sort sort_at
  type-read e = none (eqb (giver ws at id) 0) refl
    where
      none : (b : Bool) → eqb (giver ws at id) 0 ≡ b → Read
      none true z = absurd (false_true (rw z at e))
      none false z = constants (eqb (opcode ws (giver ws at id)) constant) refl
        where
          constants : (b : Bool) → eqb (opcode ws (giver ws at id)) constant ≡ b → Read
          constants true c = absurd (false_true (rw (z, c) at e))
          constants false c = reads (is_read (opcode ws (giver ws at id))) refl
            where
              reads : (b : Bool) → is_read (opcode ws (giver ws at id)) ≡ b → Read
              reads false r = absurd (false_true (rw (z, c, r) at e))
              reads true r =
                  let some : giver ws at id ≡ 0 → ⊥ = eqb-false (giver ws at id) 0 z in
                  record { given = omega (arith, some); opcode_read = r; other = eqb-false (opcode ws (giver ws at id)) constant c; number = rw (z, c, r) refl }

  pub read_below : is_type_read (sort ws at id) ≡ true → number_of (sort ws at id) < type_number ws at
  read_below e = let r = type-read e in rw r.number (number_below r.given r.opcode_read)
