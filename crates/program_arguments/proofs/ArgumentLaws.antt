-- The numbers after a command, one by one: those that are read, before those that are left.
-- Assumes nothing.
use mathlib.Core.Path.{◌≡◌, refl}
use mathlib.Core.List.{List, [], ◌∷◌, ◌++◌, append-nil}
use Prim.Native.Nat.{ℕ, suc, ◌+◌, ◌-◌, ◌≤◌, ◌<◌}
use native.Mathlib.Numerals.{add-one}
use native.Mathlib.Omega.{arith}
use lib.ListN.{length, take, drop, set}
use lib.Seq.{append_snoc, take-suc-set}
use mathlib.Core.Bool.{true, false}
use Rattle.std.specs.Prelude.{Result, Ok, Err, Option, None, Some}
use Rattle.std.specs.Option.{is_some}
use Rattle.program_words.specs.Words.{words, part, WordAt}
use Rattle.program_words.specs.declared.Span.{Span}
use Rattle.program_words.specs.Number.{number_of}
use Rattle.program_words.specs.declared.NumberError.{NumberError}
use Rattle.program_arguments.specs.Arguments.{Arguments, read, wrong, before, with_number, numbers_of}
use Rattle.program_arguments.specs.Serving.{told_at}
use Rattle.program_arguments.specs.declared.Command.{Command}
use Rattle.program_arguments.specs.declared.Reason.{Reason}
use Rattle.program_arguments.specs.declared.Reason.TheVariants.{Usage}

abbrev pub prepend : List ℕ → Arguments → Arguments
prepend ns (read ms) = read (ns ++ ms)
prepend ns (wrong r) = wrong r

prepend_one : (ns : List ℕ) (n : ℕ) (a : Arguments) → prepend ns (before n a) ≡ prepend (ns ++ n ∷ []) a
prepend_one ns n (read ms) = rw (append_snoc ns n ms)
prepend_one ns n (wrong r) = refl

-- a word of the line, by what is told of it
ok_is : (x : Result ℕ NumberError) (place n : ℕ) → told_at x place ≡ Ok n → x ≡ Ok n
ok_is (Ok m) place n e = let same : m ≡ n = cc in rw same refl
ok_is (Err e') place n e = cc

wrong_is : (x : Result ℕ NumberError) (place : ℕ) (r : Reason) (rest : Arguments) → told_at x place ≡ Err r → with_number x place rest ≡ wrong r
wrong_is (Ok m) place r rest e = cc
wrong_is (Err e') place r rest e = cc

module _ (w : List ℕ) (ws : List (List ℕ)) (place : ℕ) (c : Command) (left : ℕ) where
  pub number_next : (n at : ℕ) → told_at (number_of w) place ≡ Ok n → numbers_of c (suc left) at (w ∷ ws) ≡ before n (numbers_of c left (suc at) ws)
  unfolding numbers_of
  number_next n at e = rw (ok_is (number_of w) place n e) refl

  pub number_none : (r : Reason) → told_at (number_of w) place ≡ Err r → numbers_of c (suc left) place (w ∷ ws) ≡ wrong r
  unfolding numbers_of
  number_none r e = wrong_is (number_of w) place r (numbers_of c left (suc place) ws) e

module _ (c : Command) (most k : ℕ) (xs : List ℕ) (u : List (List ℕ)) where
  abbrev left : Arguments
  left = prepend (take k xs) (numbers_of c (most - k) (k + 2) u)

  pub numbers_more : (w : List (List ℕ)) (n : ℕ) → k < most → k < length xs
      → ((d : Command) (m j : ℕ) → numbers_of d (suc m) j u ≡ before n (numbers_of d m (suc j) w))
      → left ≡ prepend (take (k + 1) (set xs k n)) (numbers_of c (most - (k + 1)) (k + 1 + 2) w)
  numbers_more w n h l step =
      let one : most - k ≡ suc (most - (k + 1)) = omega arith in
      let j : suc (k + 2) ≡ k + 1 + 2 = omega arith in
      rw
      (one, step c (most - (k + 1)) (k + 2), j, prepend_one (take k xs) n (numbers_of c (most - (k + 1)) (k + 1 + 2) w), add-one k, take-suc-set xs k n l)
      refl

  pub numbers_wrong : (r : Reason) → k < most → ((d : Command) (m : ℕ) → numbers_of d (suc m) (k + 2) u ≡ wrong r) → left ≡ wrong r
  numbers_wrong r h step = let one : most - k ≡ suc (most - (k + 1)) = omega arith in rw (one, step c (most - (k + 1))) refl

  pub numbers_end : u ≡ [] → left ≡ read (take k xs)
  unfolding numbers_of
  numbers_end e = rw (e, append-nil (take k xs))

  pub numbers_many : (w : List ℕ) (ws : List (List ℕ)) → most ≤ k → u ≡ w ∷ ws → left ≡ wrong (Usage c)
  unfolding numbers_of
  numbers_many w ws h e = let z : most - k ≡ 0 = omega arith in rw (e, z)

-- the first word of a text
module _ (s : List ℕ) where
  pub some_word : (r : Option Span) → WordAt s 0 r → is_some r ≡ true → (w : List ℕ) × (ws : List (List ℕ)) × (words s ≡ w ∷ ws)
  some_word None h e = cc
  some_word (Some word) h e = (part s word.start word.end, words (drop word.end s), h.2)

  pub no_word : (r : Option Span) → WordAt s 0 r → is_some r ≡ false → words s ≡ []
  no_word None h e = h
  no_word (Some word) h e = cc
