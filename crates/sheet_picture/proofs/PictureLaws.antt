-- Runs of bytes that are drawn alike, and the row that they make up.
-- Assumes nothing.
use mathlib.Core.Path.{◌≡◌, refl, sym, ◌∙◌, ap, subst}
use mathlib.Core.Bool.{Bool, true, false}
use mathlib.Core.List.{List, [], ◌∷◌, ◌++◌, append_assoc, append-nil}
use mathlib.Core.Logic.{◌⊎◌, inl, inr}
use Prim.Native.Nat.{ℕ, zero, suc, ◌+◌, ◌-◌, ◌*◌, ◌<◌, ◌≤◌}
use native.Mathlib.Nat.{eq-or-lt_of_le}
use native.Mathlib.Numerals.{add-one}
use native.Mathlib.Omega.{arith}
use borrow.Author.Tests.{eq-eqb, ne_eqb, eqb-true}
use Rattle.std.specs.Prelude.{not, eqb, min, Option, None, Some}
use Rattle.std.specs.Option.{option_eq}
use Rattle.ir_records.specs.Result.{pick}
use Rattle.sheet_names.specs.declared.Sheet.{Sheet}
use Rattle.sheet_output.specs.declared.Markup.{Markup}
use Rattle.sheet_output.specs.declared.Writer.{Writer}
use Rattle.sheet_output.specs.Written.{Writes}
use Rattle.sheet_output.proofs.WritesLaws.{writes_none, writes_then}
use Rattle.sheet_picture.specs.Picture.{drawn_as, Run, byte_before, runs_of, run_text, runs_text, row_text, rows_before}

-- ---- members
same_self : (o : Option ℕ) → option_eq eqb o o ≡ true
same_self None = refl
same_self (Some a) = eq-eqb a a refl

same_other : (a b : Option ℕ) → (a ≡ b → ⊥) → option_eq eqb a b ≡ false
same_other None None h = absurd (h refl)
same_other None (Some b) h = refl
same_other (Some a) None h = refl
same_other (Some a) (Some b) h = ne_eqb a b (λ e. h (ap (λ (n : ℕ). Some n) e))

-- what the test of two members says
pub other_told : (a b : Option ℕ) → not (option_eq eqb a b) ≡ true → a ≡ b → ⊥
other_told a b t e = let same : option_eq eqb a b ≡ true = ap (option_eq eqb a) (sym e) ∙ same_self a in absurd (cc)

pub same_told : (a b : Option ℕ) → not (option_eq eqb a b) ≡ false → a ≡ b
same_told None None t = refl
same_told None (Some b) t = cc
same_told (Some a) None t = cc
same_told (Some a) (Some b) t = ap (λ (n : ℕ). Some n) (eqb-true a b (not_false (eqb a b) t))
  where
    not_false : (x : Bool) → not x ≡ false → x ≡ true
    not_false true t = refl
    not_false false t = cc

-- ---- runs
-- the first run is of this member
abbrev BeginsWith : Option ℕ → List Run → Type 0
BeginsWith member runs = (bytes : ℕ) × (rest : List Run) × (runs ≡ record { member = member; bytes = bytes } ∷ rest)

before_first : (member : Option ℕ) (runs : List Run) → BeginsWith member (byte_before member runs)
before_first member [] = (1, [], refl)
before_first member (run ∷ runs) = go (option_eq eqb member (run.member))
  where
    longer : List Run
    longer = record { member = member; bytes = suc (run.bytes) } ∷ runs

    one_more : List Run
    one_more = record { member = member; bytes = 1 } ∷ run ∷ runs

    go : (b : Bool) → BeginsWith member (pick b longer one_more)
    go true = (suc (run.bytes), runs, refl)
    go false = (1, run ∷ runs, refl)

module _ (drawn : ℕ → Option ℕ) where
  -- a byte that is not drawn as the one after it
  alone : (member : Option ℕ) (m next : ℕ) → (m ≡ 0) ⊎ (drawn next ≡ member → ⊥)
      → byte_before member (runs_of drawn m next) ≡ record { member = member; bytes = 1 } ∷ runs_of drawn m next
  unfolding runs_of
  alone member zero next h = refl
  alone member (suc m) next (inl e) = absurd (omega (arith, e))
  alone member (suc m) next (inr h) =
      let first = before_first (drawn next) (runs_of drawn m (next + 1)) in
      rw (first.2, same_other member (drawn next) (λ e. h (sym e)))

  -- the next byte is drawn as the first one, and what another one is drawn as is neither
  onwards : (m next : ℕ) (first second : Option ℕ) → second ≡ first → (m ≡ 0) ⊎ (drawn next ≡ first → ⊥) → (m ≡ 0) ⊎ (drawn next ≡ second → ⊥)
  onwards m next first second e (inl h) = inl h
  onwards m next first second e (inr h) = inr (λ f. h (f ∙ e))

  -- bytes that are drawn alike, up to where the bytes end or another is drawn
  pub run_of : (n m s next bytes : ℕ) → next ≡ s + suc n → bytes ≡ suc n + m → ((k : ℕ) → s ≤ k → k < next → drawn k ≡ drawn s)
      → (m ≡ 0) ⊎ (drawn next ≡ drawn s → ⊥)
      → runs_of drawn bytes s ≡ record { member = drawn s; bytes = suc n } ∷ runs_of drawn m next
  unfolding runs_of
  run_of zero m s next bytes e f alike h =
      let more : bytes ≡ suc m = omega (arith, f) in
      let here : s + 1 ≡ next = omega (arith, e) in
      ap (λ (n : ℕ). runs_of drawn n s) more ∙ ap (λ (p : ℕ). byte_before (drawn s) (runs_of drawn m p)) here ∙ alone (drawn s) m next h
  run_of (suc n) m s next bytes e f alike h =
      let more : bytes ≡ suc (suc n + m) = omega (arith, f) in
      let second : drawn (s + 1) ≡ drawn s = alike (s + 1) (omega arith) (omega (arith, e)) in
      let later =
      run_of n m (s + 1) next (suc n + m) (omega (arith, e)) refl (λ k a b. alike k (omega (arith, a)) b ∙ sym second)
      (onwards m next (drawn s) (drawn (s + 1)) second h) in
      let joins : option_eq eqb (drawn s) (drawn (s + 1)) ≡ true = ap (option_eq eqb (drawn s)) second ∙ same_self (drawn s) in
      ap (λ (n : ℕ). runs_of drawn n s) more ∙ ap (byte_before (drawn s)) later ∙ rw joins

-- ---- rows
module _ {W : Type 0} (contents : W → Option (List ℕ)) (sheet : Sheet) (i from limit : ℕ) (was : Writer W) where
  abbrev pub drawn : ℕ → Option ℕ
  drawn = drawn_as sheet i

  abbrev pub text : (start : ℕ) → List ℕ
  text start = runs_text (was.markup) sheet i (runs_of drawn (limit - start) start)

  -- what is written and the runs from the current one on make up the row; the bytes of the current run are drawn alike
  pub record Drawing (is : Writer W) (start b : ℕ) : Type 0 where
    pub begun : start ≤ b
    pub ended : limit ≤ b → limit ≤ start
    pub alike : (k : ℕ) → start ≤ k → k ≤ b → k < limit → drawn k ≡ drawn start
    pub done : List ℕ
    pub writes : Writes contents was done is
    pub whole : done ++ text start ≡ text from

  pub drawing_starts : Drawing was from from
  drawing_starts = record {
    begun = omega arith;
    ended = λ h. h;
    alike = λ k a b h. let e : k ≡ from = omega (arith, a, b) in ap drawn e;
    done = [];
    writes = writes_none contents was;
    whole = refl;
  }

  pub drawing_goes_on : (is : Writer W) (start b : ℕ) → Drawing is start b → b < limit → (b + 1 ≡ limit → ⊥) → drawn (b + 1) ≡ drawn b
      → Drawing is start (b + 1)
  drawing_goes_on is start b d below not_last same_member =
      let next : b + 1 < limit = omega (arith, below, not_last) in
      record {
        begun = omega (arith, d.begun);
        ended = λ h. absurd (omega (arith, h, next));
        alike = λ k above upto h. elim (eq-or-lt_of_le upto) [
          | inl e ↦ ap drawn e ∙ same_member ∙ d.alike b d.begun (omega arith) below
          | inr l ↦ d.alike k above (omega (arith, l)) h
        ];
        done = d.done;
        writes = d.writes;
        whole = d.whole;
      }

  pub drawing_ends : (is : Writer W) (start b : ℕ) → Drawing is start b → limit ≤ b → Writes contents was (text from) is
  unfolding runs_of runs_text
  drawing_ends is start b d past =
      let none : limit - start ≡ 0 = omega (arith, d.ended past) in
      let empty : text start ≡ [] = ap (λ (n : ℕ). runs_text (was.markup) sheet i (runs_of drawn n start)) none in
      subst (λ bytes. Writes contents was bytes is) (sym (append-nil d.done) ∙ ap (λ (l : List ℕ). d.done ++ l) (sym empty) ∙ d.whole) d.writes

  pub drawing_puts : (is out : Writer W) (start b : ℕ) → Drawing is start b → b < limit → (b + 1 ≡ limit) ⊎ (drawn (b + 1) ≡ drawn b → ⊥)
      → Writes contents is (run_text (is.markup) sheet i (drawn b) (b + 1 - start)) out
      → Drawing out (b + 1) (b + 1)
  unfolding runs_text
  drawing_puts is out start b d below last put =
      let marks = was.markup in
      let m = limit - (b + 1) in
      let first : drawn b ≡ drawn start = d.alike b d.begun (omega arith) below in
      let size : b + 1 - start ≡ suc (b - start) = omega (arith, d.begun) in
      let rest = runs_text marks sheet i (runs_of drawn m (b + 1)) in
      let split =
      run_of drawn (b - start) m start (b + 1) (limit - start) (omega (arith, d.begun)) (omega (arith, d.begun, below))
      (λ k a h. d.alike k a (omega (arith, h)) (omega (arith, h, below)))
      (elim last [ inl e ↦ inl (omega (arith, e)) | inr h ↦ inr (λ e. h (e ∙ sym first)) ]) in
      let joined : run_text marks sheet i (drawn b) (b + 1 - start) ++ rest ≡ text start =
      ap (λ (o : Option ℕ). run_text marks sheet i o (b + 1 - start) ++ rest) first ∙ ap (λ (n : ℕ). run_text marks sheet i (drawn start) n ++ rest) size
      ∙ sym (ap (runs_text marks sheet i) split) in
      record {
        begun = omega arith;
        ended = λ h. h;
        alike = λ k above upto h. let e : k ≡ b + 1 = omega (arith, above, upto) in ap drawn e;
        done = d.done ++ run_text marks sheet i (drawn b) (b + 1 - start);
        writes = writes_then contents (λ m. run_text m sheet i (drawn b) (b + 1 - start)) d.writes put;
        whole = append_assoc d.done (run_text marks sheet i (drawn b) (b + 1 - start)) rest ∙ ap (λ (l : List ℕ). d.done ++ l) joined ∙ d.whole;
      }

pub rows_more : (m : Markup) (sheet : Sheet) (i drawn row : ℕ)
    → rows_before m sheet i drawn (row + 1) ≡ rows_before m sheet i drawn row ++ row_text m sheet i (row * 16) (min drawn (row * 16 + 16))
unfolding rows_before
rows_more m sheet i drawn row = rw add-one
