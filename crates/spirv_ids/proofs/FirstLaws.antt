-- Where a search for what gives an id may begin, instruction by instruction.
-- Assumes nothing.
use mathlib.Core.Path.{◌≡◌, refl, sym, subst, ◌∙◌}
use mathlib.Core.Bool.{true, false}
use mathlib.Core.List.{List, [], ◌∷◌}
use Prim.Native.Nat.{ℕ, ◌+◌, ◌<◌}
use lib.ListN.{length}
use Rattle.spirv_words.specs.Module.{word_count, opcode, header_words, between}
use Rattle.spirv_ids.specs.Places.{may_give, giver_among, first_giver, GivesFrom}
use Rattle.spirv_ids.proofs.PlaceLaws.{gives_first, gives_next}
use Rattle.spirv_ids.proofs.CountLaws.{First, first_of}

module _ (ws : List ℕ) where
  -- the instructions that are left, from `next` on; none before it may give an id
  pub record Seeking (next : ℕ) (left : List ℕ) : Type 0 where
    pub rest : left ≡ between ws next (length ws)
    pub gives : GivesFrom ws next
    pub same : giver_among ws left next ≡ first_giver ws

  pub seeking_starts : Seeking header_words (between ws header_words (length ws))
  seeking_starts = record { rest = refl; gives = gives_first ws; same = refl }

  pub seeking_ends : (next : ℕ) → Seeking next [] → GivesFrom ws next × (next ≡ first_giver ws)
  unfolding giver_among
  seeking_ends next s = (s.gives, s.same)

  module _ (next p : ℕ) (ps : List ℕ) (s : Seeking next (p ∷ ps)) where
    abbrev f : First ws (length ws) next p ps
    f = first_of ws (length ws) next p ps s.rest

    pub seeking_inside : p < length ws
    seeking_inside = rw f.is f.below

    here : GivesFrom ws p
    here = subst (GivesFrom ws) (sym f.is) s.gives

    pub seeking_here : may_give (opcode ws p) ≡ true → GivesFrom ws p × (p ≡ first_giver ws)
    unfolding giver_among
    seeking_here e = (here, rw e at s.same)

    pub seeking_goes : may_give (opcode ws p) ≡ false → Seeking (p + word_count ws p) ps
    unfolding giver_among
    seeking_goes e =
        record {
          rest = rw f.is f.others;
          gives = gives_next ws p here e (rw f.is f.some);
          same = rw e at s.same;
        }
