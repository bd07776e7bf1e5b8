-- Bytes put one after the other.
-- Assumes nothing.
use mathlib.Core.Path.{◌≡◌, refl, sym, ◌∙◌, ap}
use mathlib.Core.List.{List, [], ◌∷◌, ◌++◌, append_assoc, append-nil}
use Prim.Native.Nat.{ℕ, zero, suc, ◌+◌, ◌≤◌, ◌<◌}
use native.Mathlib.Numerals.{add-one}
use native.Mathlib.Omega.{arith}
use lib.ListN.{length, take, set, length-append, length-take, length-set}
use lib.Seq.{take_all, take-append-le, take-suc-set, length-take-le}
use Rattle.program_output.specs.Bytes.{room, after, Puts, joined}

take_cut : (n : ℕ) (s t : List ℕ) → take n (take n s ++ t) ≡ take n (s ++ t)
take_cut zero s t = refl
take_cut (suc n) [] t = refl
take_cut (suc n) (x ∷ s) t = ap (λ (r : List ℕ). x ∷ r) (take_cut n s t)

short : (out : List ℕ) (at : ℕ) → length out ≡ room → length (take at out) ≤ room
short out at full = omega (arith, length-take at out)

pub puts_none : (out : List ℕ) (at : ℕ) → Puts out at [] out at
puts_none out at =
    record {
      ends = omega arith;
      keeps = refl;
      holds = λ full. sym (ap (λ (l : List ℕ). take room l) (append-nil (take at out)) ∙ take_all room (take at out) (short out at full));
    }

pub puts_byte : (out : List ℕ) (at b : ℕ) → at < room → Puts out at (b ∷ []) (set out at b) (at + 1)
puts_byte out at b h =
    record {
      ends = omega arith;
      keeps = length-set out at b;
      holds = λ full. rw add-one (take-suc-set out at b (omega arith) ∙ sym (take_all room (take at out ++ (b ∷ [])) (omega (arith, length-append (take at out) (b ∷ []), length-take-le at out (omega arith)))));
    }

pub puts_past : (out : List ℕ) (at b end : ℕ) → room ≤ at → end ≡ after at 1 → Puts out at (b ∷ []) out end
puts_past out at b end h e =
    record {
      ends = e;
      keeps = refl;
      holds = λ full.
          take_all end out (omega arith)
          ∙ sym (ap (λ (l : List ℕ). take room (l ++ (b ∷ []))) (take_all at out (omega arith)) ∙ take-append-le room out (b ∷ []) (omega arith) ∙ take_all room out (omega arith));
    }

pub puts_both : {was mid is x y : List ℕ} {at m end : ℕ} → Puts was at x mid m → Puts mid m y is end → Puts was at (x ++ y) is end
puts_both {was} {mid} {is} {x} {y} {at} {m} {end} p q =
    record {
      ends = omega (arith, p.ends, q.ends, length-append x y);
      keeps = q.keeps ∙ p.keeps;
      holds = λ full.
          q.holds (p.keeps ∙ full)
          ∙ ap (λ (l : List ℕ). take room (l ++ y)) (p.holds full)
          ∙ take_cut room (take at was ++ x) y
          ∙ ap (λ (l : List ℕ). take room l) (append_assoc (take at was) x y);
    }

-- one more of the texts of a loop
pub puts_more : {was mid is : List ℕ} {at m end : ℕ} (f : ℕ → List ℕ) (i : ℕ) → Puts was at (joined f i) mid m → Puts mid m (f i) is end → Puts was at (joined f (i + 1)) is end
unfolding joined
puts_more f i p q = rw add-one (puts_both p q)

-- none of them yet
pub puts_start : (f : ℕ → List ℕ) (out : List ℕ) (at : ℕ) → Puts out at (joined f 0) out at
unfolding joined
puts_start f out at = puts_none out at
