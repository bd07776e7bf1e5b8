-- The lines of an input, and what stands after them, of its first part and of what comes then.
-- Assumes nothing.
use Rattle.std.proofs.Common.{◌≡◌, refl, sym, ◌∙◌, ap, ℕ, zero, suc, ◌+◌, ◌-◌, ◌<◌, ◌≤◌, Bool, true, false, not, eqb, List, [], ◌∷◌, ◌++◌, length, take, drop, append_assoc, append-nil, length-append, add-one, arith}
use Rattle.std.proofs.Math.Seq.{drop-append_seam}
use Rattle.program_words.specs.Words.{run_of}
use Rattle.program_session.specs.Transcript.{lines_after, lines, rest_after, rest}
use Rattle.program_session.specs.Serving.{Unended}

-- a byte that ends no line
abbrev pub in_line : ℕ → Bool
in_line b = not (eqb b 10)

abbrev pub nl : List ℕ
nl = 10 ∷ []

within_by : (b : ℕ) (bs : List ℕ) (t : Bool) → eqb b 10 ≡ t → run_of in_line bs ≤ length bs → run_of in_line (b ∷ bs) ≤ length (b ∷ bs)
unfolding run_of
within_by b bs true e h = rw e (omega arith)
within_by b bs false e h = rw e (omega (arith, h))

pub run_within : (bs : List ℕ) → run_of in_line bs ≤ length bs
unfolding run_of
run_within [] = omega arith
run_within (b ∷ bs) = within_by b bs (eqb b 10) refl (run_within bs)

-- ---- the first line, where there is a newline
abbrev pub Splits : List ℕ → List ℕ → Type 0
Splits f bs =
    (lines_after f bs ≡ (f ++ take (run_of in_line bs) bs) ∷ lines (drop (run_of in_line bs + 1) bs))
    × (rest_after f bs ≡ rest (drop (run_of in_line bs + 1) bs))

splits_here : (f bs : List ℕ) (b : ℕ) → eqb b 10 ≡ true → Splits f (b ∷ bs)
unfolding run_of lines_after rest_after
splits_here f bs b e = rw e (ap (λ (l : List ℕ). l ∷ lines bs) (sym (append-nil f)), refl)

splits_later : (f bs : List ℕ) (b : ℕ) → eqb b 10 ≡ false → Splits (f ++ (b ∷ [])) bs → Splits f (b ∷ bs)
unfolding run_of lines_after rest_after
splits_later f bs b e p =
    let k = run_of in_line bs in
    let first = p.0 ∙ ap (λ (l : List ℕ). l ∷ lines (drop (k + 1) bs)) (append_assoc f (b ∷ []) (take k bs)) in
    rw (e, add-one (suc k)) (rw (add-one k) at first, rw (add-one k) at p.1)

longer : (bs : List ℕ) (b : ℕ) → eqb b 10 ≡ false → run_of in_line (b ∷ bs) < length (b ∷ bs) → run_of in_line bs < length bs
unfolding run_of
longer bs b e h = omega (arith, rw e at h)

splits_by : (f bs : List ℕ) (b : ℕ) (t : Bool) → eqb b 10 ≡ t → run_of in_line (b ∷ bs) < length (b ∷ bs)
    → (run_of in_line bs < length bs → Splits (f ++ (b ∷ [])) bs) → Splits f (b ∷ bs)
splits_by f bs b true e h later = splits_here f bs b e
splits_by f bs b false e h later = splits_later f bs b e (later (longer bs b e h))

pub splits : (f bs : List ℕ) → run_of in_line bs < length bs → Splits f bs
splits f [] h = absurd (omega (arith, h))
splits f (b ∷ bs) h = splits_by f bs b (eqb b 10) refl h (splits (f ++ (b ∷ [])) bs)

-- ---- no line, where there is no newline
abbrev pub Lineless : List ℕ → List ℕ → Type 0
Lineless f bs = (lines_after f bs ≡ []) × (rest_after f bs ≡ f ++ bs)

lineless_by : (f bs : List ℕ) (b : ℕ) (t : Bool) → eqb b 10 ≡ t → run_of in_line (b ∷ bs) ≡ length (b ∷ bs)
    → (run_of in_line bs ≡ length bs → Lineless (f ++ (b ∷ [])) bs) → Lineless f (b ∷ bs)
unfolding run_of lines_after rest_after
lineless_by f bs b true e h later = absurd (omega (arith, rw e at h))
lineless_by f bs b false e h later =
    let p = later (omega (arith, rw e at h)) in
    rw e (p.0, p.1 ∙ append_assoc f (b ∷ []) bs)

pub lineless : (f bs : List ℕ) → run_of in_line bs ≡ length bs → Lineless f bs
unfolding lines_after rest_after
lineless f [] h = (refl, sym (append-nil f))
lineless f (b ∷ bs) h = lineless_by f bs b (eqb b 10) refl h (lineless (f ++ (b ∷ [])) bs)

-- ---- a first part and what comes after it
abbrev pub Joins : List ℕ → List ℕ → List ℕ → Type 0
Joins f xs ys =
    (lines_after f (xs ++ ys) ≡ lines_after f xs ++ lines_after (rest_after f xs) ys)
    × (rest_after f (xs ++ ys) ≡ rest_after (rest_after f xs) ys)

joins_by : (f xs ys : List ℕ) (b : ℕ) (t : Bool) → eqb b 10 ≡ t → Joins [] xs ys → Joins (f ++ (b ∷ [])) xs ys → Joins f (b ∷ xs) ys
unfolding lines_after rest_after
joins_by f xs ys b true e here later = rw e (ap (λ (l : List (List ℕ)). f ∷ l) here.0, here.1)
joins_by f xs ys b false e here later = rw e later

pub joins : (f xs ys : List ℕ) → Joins f xs ys
unfolding lines_after rest_after
joins f [] ys = (refl, refl)
joins f (b ∷ xs) ys = joins_by f xs ys b (eqb b 10) refl (joins [] xs ys) (joins (f ++ (b ∷ [])) xs ys)

-- ---- what stands after the last newline
pub after_unended : (f ys : List ℕ) → Unended f → (lines (f ++ ys) ≡ lines_after f ys) × (rest (f ++ ys) ≡ rest_after f ys)
after_unended f ys u =
    let j = joins [] f ys in
    (rw (u.0, u.1) at j.0, rw u.1 at j.1)

pub unended_nil : Unended []
unfolding lines_after rest_after
unended_nil = (refl, refl)

one_more : (f : List ℕ) (b : ℕ) → eqb b 10 ≡ false → Unended f → Unended (f ++ (b ∷ []))
unfolding lines_after rest_after
one_more f b e u =
    let p = after_unended f (b ∷ []) u in
    (rw e at p.0, rw e at p.1)

unended_by : (f bs : List ℕ) (b : ℕ) (t : Bool) → eqb b 10 ≡ t → Unended f → Unended (rest bs)
    → (Unended (f ++ (b ∷ [])) → Unended (rest_after (f ++ (b ∷ [])) bs))
    → Unended (rest_after f (b ∷ bs))
unfolding rest_after
unended_by f bs b true e u here later = rw e here
unended_by f bs b false e u here later = rw e (later (one_more f b e u))

pub unended_after : (f bs : List ℕ) → Unended f → Unended (rest_after f bs)
unfolding rest_after
unended_after f [] u = u
unended_after f (b ∷ bs) u = unended_by f bs b (eqb b 10) refl u (unended_after [] bs unended_nil) (unended_after (f ++ (b ∷ [])) bs)

pub unended : (bs : List ℕ) → Unended (rest bs)
unended bs = unended_after [] bs unended_nil

-- after some bytes the lines of the others begin with what stands after the last newline
pub lines_split : (xs ys : List ℕ) → lines (xs ++ ys) ≡ lines xs ++ lines (rest xs ++ ys)
lines_split xs ys = (joins [] xs ys).0 ∙ ap (λ (l : List (List ℕ)). lines xs ++ l) (sym (after_unended (rest xs) ys (unended xs)).0)

-- ---- it is the end of the bytes
pub record Ends (f bs : List ℕ) : Type 0 where
  pub before : List ℕ
  pub whole : f ++ bs ≡ before ++ rest_after f bs

ends_by : (f bs : List ℕ) (b : ℕ) (t : Bool) → eqb b 10 ≡ t → Ends [] bs → Ends (f ++ (b ∷ [])) bs → Ends f (b ∷ bs)
unfolding rest_after
ends_by f bs b true e here later =
    record {
      before = f ++ ((b ∷ []) ++ here.before);
      whole = rw e (ap (λ (l : List ℕ). f ++ (b ∷ l)) here.whole ∙ sym (append_assoc f (b ∷ here.before) (rest bs)));
    }
ends_by f bs b false e here later =
    record { before = later.before; whole = rw e (sym (append_assoc f (b ∷ []) bs) ∙ later.whole) }

pub ends : (f bs : List ℕ) → Ends f bs
unfolding rest_after
ends f [] = record { before = []; whole = append-nil f }
ends f (b ∷ bs) = ends_by f bs b (eqb b 10) refl (ends [] bs) (ends (f ++ (b ∷ [])) bs)

drop_before : (n : ℕ) (xs bs : List ℕ) → n ≡ length xs → drop n (xs ++ bs) ≡ bs
drop_before n xs bs h = rw h (drop-append_seam xs bs)

pub rest_short : (bs : List ℕ) → length (rest bs) ≤ length bs
rest_short bs =
    let e = ends [] bs in
    omega (arith, ap length e.whole, length-append e.before (rest bs))

pub rest_stands : (bs : List ℕ) → drop (length bs - length (rest bs)) bs ≡ rest bs
rest_stands bs =
    let e = ends [] bs in
    let n = length bs - length (rest bs) in
    let same : n ≡ length e.before = omega (arith, ap length e.whole, length-append e.before (rest bs)) in
    ap (drop n) e.whole ∙ drop_before n e.before (rest bs) same
