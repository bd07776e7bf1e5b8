-- Numbers of a line, one more, and words that are the numbers.
-- Assumes nothing.
use mathlib.Core.Path.{◌≡◌, refl, sym, ◌∙◌, ap, ap₂}
use mathlib.Core.List.{List, [], ◌∷◌, ◌++◌, append_assoc, append-nil}
use Prim.Native.Nat.{ℕ}
use Rattle.std.specs.Prelude.{Option, Result, Ok, Err, OnOk}
use Rattle.std.specs.List.{AllZip}
use Rattle.std.specs.Io.KnownBytes.{Appends}
use Rattle.std.proofs.KnownBytes.{Appends-trans}
use Rattle.program_output.specs.Bytes.{ascii, number}
use Rattle.doors_lent.specs.Printed.{numbers_text, line, WordsLine, refusal_line}

pub numbers_more : (ns : List ℕ) (n : ℕ) → numbers_text (ns ++ (n ∷ [])) ≡ numbers_text ns ++ number 32 n
unfolding numbers_text
numbers_more [] n = append-nil (number 32 n)
numbers_more (x ∷ ns) n = ap (λ (l : List ℕ). number 32 x ++ l) (numbers_more ns n) ∙ sym (append_assoc (number 32 x) (numbers_text ns) (number 32 n))

pub zip_more : {A B : Type 0} (R : A → B → Type 0) (xs : List A) (ys : List B) (x : A) (y : B) → AllZip R xs ys → R x y
    → AllZip R (xs ++ (x ∷ [])) (ys ++ (y ∷ []))
zip_more R [] [] x y h r = (r, tt)
zip_more R [] (b ∷ ys) x y h r = absurd h
zip_more R (a ∷ xs) [] x y h r = absurd h
zip_more R (a ∷ xs) (b ∷ ys) x y h r = (h.0, zip_more R xs ys x y h.1 r)

pub same_numbers : (ws ns : List ℕ) → AllZip (λ w n. n ≡ w) ws ns → ns ≡ ws
same_numbers [] [] h = refl
same_numbers [] (n ∷ ns) h = absurd h
same_numbers (w ∷ ws) [] h = absurd h
same_numbers (w ∷ ws) (n ∷ ns) h = ap₂ (λ (x : ℕ) (l : List ℕ). x ∷ l) h.0 (same_numbers ws ns h.1)

-- bytes that are written after others, where they could be
pub appends_after : {T E : Type 0} (r : Result T E) (a b c : Option (List ℕ)) (x y : List ℕ) → Appends a b x → OnOk r (Appends b c y)
    → OnOk r (Appends a c (x ++ y))
appends_after (Ok t) a b c x y p q = Appends-trans a b c x y p q
appends_after (Err e) a b c x y p q = tt

-- a line of words, where its bytes could be written
pub line_after : {T E W : Type 0} (r : Result T E) (converts : W → ℕ → Type 0) (name : List ℕ) (words : List W) (ns : List ℕ) (a c : Option (List ℕ))
    → AllZip converts words ns → OnOk r (Appends a c (line name ns)) → OnOk r ((bytes : List ℕ) × WordsLine converts name words bytes × Appends a c bytes)
line_after (Ok t) converts name words ns a c z p = (line name ns, (ns, z, refl), p)
line_after (Err e) converts name words ns a c z p = tt

-- the answer that is made for a number, where the line of its words could be written
pub refusal_after : {T E : Type 0} (r : Result T E) (n : ℕ) (answer : List ℕ) (a b c : Option (List ℕ)) → Appends a b (ascii "made for" ++ number 32 n)
    → OnOk r ((bytes : List ℕ) × WordsLine (λ w n. n ≡ w) [] answer bytes × Appends b c bytes) → OnOk r (Appends a c (refusal_line n answer))
refusal_after (Ok t) n answer a b c p q =
    let same = same_numbers answer q.1.0 q.1.1 in
    let bytes : q.0 ≡ line [] answer = q.1.2 ∙ ap (λ (ns : List ℕ). line [] ns) same in
    Appends-trans a b c (ascii "made for" ++ number 32 n) (line [] answer) p (rw bytes at q.2)
refusal_after (Err e) n answer a b c p q = tt
