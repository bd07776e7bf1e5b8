-- Bytes written one after the other.
-- Assumes nothing.
use mathlib.Core.Path.{◌≡◌, refl, sym, ◌∙◌, ap, subst}
use mathlib.Core.List.{List, [], ◌∷◌, ◌++◌, append_assoc, append-nil}
use Prim.Native.Nat.{ℕ}
use Rattle.std.specs.Prelude.{Option}
use Rattle.program_output.specs.Bytes.{Adds}
use Rattle.program_output.proofs.SendsLaws.{sends_none, sends_both, sends_adds}
use Rattle.sheet_output.specs.declared.Writer.{Writer}
use Rattle.sheet_output.specs.declared.Markup.{Markup}
use Rattle.sheet_output.specs.declared.Markup.TheVariants as markup
use Rattle.sheet_output.specs.Written.{Writes, mark_bytes, name_bytes}

module _ {W : Type 0} (k : W → Option (List ℕ)) where
  pub writes_none : (a : Writer W) → Writes k a [] a
  writes_none a = record { sends = sends_none _ _; marks = refl; buffer = refl; sink = refl }

  pub writes_both : {a b c : Writer W} {x y : List ℕ} → Writes k a x b → Writes k b y c → Writes k a (x ++ y) c
  writes_both p q =
      record {
        sends = sends_both p.sends q.sends;
        marks = q.marks ∙ p.marks;
        buffer = q.buffer ∙ p.buffer;
        sink = q.sink ∙ p.sink;
      }

  -- bytes that depend on how marks are written, which stays as it was
  pub writes_then : {a b c : Writer W} {x : List ℕ} (f : Markup → List ℕ) → Writes k a x b → Writes k b (f (b.markup)) c → Writes k a (x ++ f (a.markup)) c
  writes_then {a} {b} {c} {x} f p q = writes_both p (subst (λ m. Writes k b (f m) c) p.marks q)

  -- nothing after them
  pub writes_bare : {a b : Writer W} {x : List ℕ} → Writes k a (x ++ []) b → Writes k a x b
  writes_bare {a} {b} {x} p = subst (λ y. Writes k a y b) (append-nil x) p

  -- bytes that are put once there is room
  pub writes_put : {a b c : Writer W} {x : List ℕ} → Writes k a [] b → Adds b.out.now x c.out.now
      → c.to.now ≡ b.to.now → c.markup ≡ b.markup → c.out.ghost_name ≡ b.out.ghost_name → c.to.ghost_name ≡ b.to.ghost_name → Writes k a x c
  writes_put {a} {b} {c} {x} p q to marks buffer sink =
      record {
        sends = rw to (sends_both p.sends (sends_adds _ q));
        marks = marks ∙ p.marks;
        buffer = buffer ∙ p.buffer;
        sink = sink ∙ p.sink;
      }

pub name_more : (m : Markup) (name : List ℕ) (b : ℕ) → name_bytes m (name ++ (b ∷ [])) ≡ name_bytes m name ++ mark_bytes m b
unfolding name_bytes
name_more m [] b = append-nil (mark_bytes m b)
name_more m (x ∷ name) b = ap (λ (l : List ℕ). mark_bytes m x ++ l) (name_more m name b) ∙ sym (append_assoc (mark_bytes m x) (name_bytes m name) (mark_bytes m b))

-- marks that are written as they are leave a name as it is
pub plain_name : (name : List ℕ) → name_bytes markup.Plain name ≡ name
unfolding name_bytes
plain_name [] = refl
plain_name (b ∷ name) = ap (λ (l : List ℕ). b ∷ l) (plain_name name)
