-- What is sent one after the other.
-- Assumes nothing.
use mathlib.Core.Path.{◌≡◌, refl, sym, ◌∙◌, ap}
use mathlib.Core.List.{List, [], ◌∷◌, ◌++◌}
use mathlib.Core.Logic.{◌⊎◌, inl, inr}
use Prim.Native.Nat.{ℕ, ◌+◌, ◌≤◌, ◌<◌}
use native.Mathlib.Decide.{dec_le}
use native.Mathlib.Omega.{arith}
use lib.ListN.{length, take, length-append, length-take}
use lib.Seq.{take_all, length-take-le}
use Rattle.std.specs.Prelude.{Bool, true, false, Option, Some}
use Rattle.std.proofs.lemmas.Bool.{false≢true}
use Rattle.std.specs.Io.KnownBytes.{Appends}
use Rattle.std.proofs.KnownBytes.{Appends-nil, Appends-trans, Keeps-refl, append_known-grown}
use Rattle.program_output.specs.declared.Output.{Output}
use Rattle.program_output.specs.Bytes.{room, Adds}
use Rattle.program_output.specs.Written.{total, Sends}

pub sends_none : (w : Option (List ℕ)) (a : Output) → Sends w a [] w a
sends_none w a = record { past = λ h. h; keeps = refl; sends = λ full. inr (Appends-nil _) }

pub sends_both : {w v u : Option (List ℕ)} {a b c : Output} {x y : List ℕ} → Sends w a x v b → Sends v b y u c → Sends w a (x ++ y) u c
sends_both {w} {v} {u} {a} {b} {c} {x} {y} p q =
    record {
      past = λ h. q.past (p.past h);
      keeps = q.keeps ∙ p.keeps;
      sends = λ full. elim (p.sends full) [
        | inl lost ↦ inl (q.past lost)
        | inr one ↦ elim (q.sends (p.keeps ∙ full)) [
          | inl lost ↦ inl lost
          | inr two ↦ inr (Appends-trans _ _ _ _ _ one two)
        ]
      ];
    }

whole : (a b : Output) (x : List ℕ) → Adds a x b → length a.bytes ≡ room → b.end ≤ room → take (b.end) (b.bytes) ≡ take (a.end) (a.bytes) ++ x
whole a b x p full fits =
    let less : a.end ≤ length a.bytes = omega (arith, p.ends, full, fits) in
    p.holds full ∙ take_all room (take (a.end) (a.bytes) ++ x) (omega (arith, length-append (take (a.end) (a.bytes)) x, length-take-le (a.end) (a.bytes) less, p.ends, fits))

pub sends_adds : (w : Option (List ℕ)) {a b : Output} {x : List ℕ} → Adds a x b → Sends w a x w b
sends_adds w {a} {b} {x} p =
    record {
      past = λ h. omega (arith, p.ends, h);
      keeps = p.keeps;
      sends = λ full. elim (dec_le (b.end) room) [
        | yes fits ↦ inr (append_known-grown _ w _ _ _ (Keeps-refl _) (whole a b x p full fits))
        | no lost ↦ inl (omega (arith, lost))
      ];
    }

-- what was put first is all that is written, where that could be
pub written_whole : (w v : Option (List ℕ)) {a b : Output} {x : List ℕ} → Adds a x b → a.end ≡ 0 → length a.bytes ≡ room
    → (r : Bool) → (room < b.end → r ≡ false) → (r ≡ true → Appends w v (take (b.end) (b.bytes))) → r ≡ true → Appends w v x
written_whole w v {a} {b} {x} put none full r past written e =
    elim ((sends_adds (Some []) put).sends full) [
      | inl lost ↦ absurd (false≢true (sym (past lost) ∙ e))
      | inr all ↦
          let nothing : take (a.end) (a.bytes) ≡ [] = ap (λ (n : ℕ). take n (a.bytes)) none in
          rw (all, nothing) at (written e)
    ]
