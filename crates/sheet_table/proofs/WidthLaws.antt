-- The longest of the names, from the first member on.
-- Assumes nothing.
use mathlib.Core.Path.{◌≡◌, ap, ◌∙◌}
use mathlib.Core.List.{List}
use Prim.Native.Nat.{ℕ, zero, suc, ◌+◌}
use native.Mathlib.Omega.{arith}
use native.Mathlib.Numerals.{add-one}
use Rattle.std.specs.Prelude.{max}
use Rattle.std.specs.List.{fold, range_with_len}
use Rattle.sheet_names.specs.Names.{member_name}
use Rattle.sheet_names.specs.declared.NameTable.{NameTable}
use Rattle.sheet_types.specs.Types.{name_length}
use Rattle.sheet_table.specs.Width.{head_length, longest}

module _ (text : List ℕ) (names : NameTable) (types : List ℕ) (i : ℕ) where
  abbrev pub wider : ℕ → ℕ → ℕ
  wider width j = max width (name_length (member_name text names types i j) j)

  fold_from : (n k : ℕ) → fold wider (longest text names types i k) (range_with_len k n) ≡ longest text names types i (n + k)
  unfolding longest
  fold_from zero k = let none : k ≡ 0 + k = omega arith in ap (longest text names types i) none
  fold_from (suc n) k =
      let next : fold wider (longest text names types i (suc k)) (range_with_len (suc k) n) ≡ longest text names types i (n + suc k) = fold_from n (suc k) in
      let sum : n + suc k ≡ suc n + k = omega arith in
      ap (λ (j : ℕ). fold wider (longest text names types i (suc k)) (range_with_len j n)) (add-one k) ∙ next ∙ ap (longest text names types i) sum

  pub fold_names : (n : ℕ) → fold wider head_length (range_with_len 0 n) ≡ longest text names types i n
  unfolding longest
  fold_names n = let all : n + 0 ≡ n = omega arith in fold_from n 0 ∙ ap (longest text names types i) all
