-- `sheet_output::digit_count` meets its contract: the digits that are counted are those of the number. Assumes nothing.
use Rattle.std.proofs.Common.{◌≡◌, ℕ, zero, suc, ◌+◌, ◌/◌, ◌%◌, [], ◌∷◌, length, length-append, refl, sym, ap, ◌∙◌, add-one, arith}
use Rattle.io.specs.Digits.{last_digits, hex_digit_ascii}
use Rattle.program_output.proofs.TextLaws.{fewest_digits, fewest_few}
use Rattle.sheet_output.proofs.digit_count.Goals as goal

digits_length : (k n : ℕ) → length (last_digits 10 k n) ≡ k
digits_length zero n = refl
digits_length (suc k) n =
    length-append (last_digits 10 k (n / 10)) (hex_digit_ascii (n % 10) ∷ []) ∙ (ap (λ (m : ℕ). m + 1) (digits_length k (n / 10)) ∙ add-one k)

pub returns : goal.returns
returns c =
    let k = c.decimal.result in
    let n = c.args.n in
    let f = c.decimal.ensures.len in
    sym (ap length (sym (fewest_digits k 20 n f (fewest_few n k f (omega (arith, c.ranges.n))))) ∙ digits_length k n)
