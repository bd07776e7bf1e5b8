-- `program_words::text_of` meets its contract, by the last byte of the line. Assumes nothing.
use mathlib.Core.Path.{◌≡◌, refl, sym, ◌∙◌}
use mathlib.Core.Bool.{and-true}
use mathlib.Core.List.{List, [], ◌∷◌}
use Prim.Native.Nat.{ℕ, ◌-◌, ◌≤◌}
use native.Mathlib.Omega.{arith}
use lib.ListN.{length, get_or, drop, drop_of_length-le}
use lib.Seq.{drop-cons}
use lib.Pointwise.{pointwise}
use Rattle.std.proofs.Common.{nat_eq}
use Rattle.std.specs.Prelude.{eqb}
use Rattle.program_words.specs.Words.{without_return}
use Rattle.program_words.proofs.text_of.Goals as goal

-- the last byte is a carriage return
last_is : (s : List ℕ) → pointwise nat_eq (drop (length s - 1) s) (13 ∷ []) ≡ eqb (get_or s (length s - 1) 0) 13
last_is [] = refl
last_is (b ∷ t) =
    let e : drop (length t) (b ∷ t) ≡ get_or (b ∷ t) (length t) 0 ∷ [] =
    drop-cons (b ∷ t) (length t) 0 (omega arith) ∙ let h : length t ≤ length t = omega arith in rw (drop_of_length-le t h) in
    let n : length (b ∷ t) - 1 ≡ length t = omega arith in
    rw (n, e) (and-true (eqb (get_or (b ∷ t) (length t) 0) 13))

pub returns-in-Some : goal.returns-in-Some
unfolding without_return
returns-in-Some c =
    let s = c.args.line.now in
    let h = c.in-Some.ensures.cases in
    rw (c.before_comment.ensures, h.1, sym (last_is s) ∙ h.0) refl

pub returns-in-None : goal.returns-in-None
unfolding without_return
returns-in-None c =
    let s = c.args.line.now in
    let h = c.in-None.ensures.cases in
    rw (c.before_comment-in-None.ensures, sym (last_is s) ∙ h) refl
