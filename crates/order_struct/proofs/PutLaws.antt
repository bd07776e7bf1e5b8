-- The member records of an order, one by one.
-- Assumes nothing.
use mathlib.Core.Path.{◌≡◌, refl, sym, ap, ◌∙◌}
use mathlib.Core.List.{List, ◌++◌, append_assoc, append-nil}
use Prim.Native.Nat.{ℕ, ◌+◌, ◌*◌, ◌≤◌, ◌<◌}
use native.Mathlib.Numerals.{add-one}
use native.Mathlib.Omega.{arith}
use lib.ListN.{length, take, drop, take-append-drop}
use Rattle.ir_records.specs.Table.{flat}
use Rattle.ir_records.proofs.TableLaws.{flat_length}
use Rattle.ir_rows.specs.Rows.{with_part}
use Rattle.ir_rows.proofs.RowLaws.{take_part, drop_part, part-length}
use Rattle.order_struct.specs.Struct.{member_row, member_rows}

module _ (rows wanted : List ℕ) (member : ℕ → ℕ) (was : List ℕ) (m k : ℕ) where
  -- j rows are written
  pub record Rows (j : ℕ) (is : List ℕ) : Type 0 where
    pub few : j ≤ k
    pub front : take ((m + j) * 4) is ≡ take (m * 4) was ++ member_rows rows wanted j member
    pub rest : drop ((m + k) * 4) is ≡ drop ((m + k) * 4) was
    pub long : length is ≡ length was

  pub rows_start : Rows 0 was
  unfolding member_rows
  rows_start =
      let first : m + 0 ≡ m = omega arith in
      record {
        few = omega arith;
        front = ap (λ (i : ℕ). take (i * 4) was) first ∙ sym (append-nil (take (m * 4) was));
        rest = refl;
        long = refl;
      }

  pub rows_more : (j : ℕ) (is : List ℕ) → j < k → (m + k) * 4 ≤ length was → Rows j is
      → Rows (j + 1) (with_part 4 is ((m + j) * 4) (member_row rows wanted member j))
  unfolding member_rows
  rows_more j is h room r =
      let at_row : (m + (j + 1)) * 4 ≡ (m + j) * 4 + 4 = omega arith in
      let fits : (m + j) * 4 + 4 ≤ length is = omega (arith, r.long, room, h) in
      record {
        few = omega arith;
        front =
            ap (λ (i : ℕ). take i (with_part 4 is ((m + j) * 4) (member_row rows wanted member j))) at_row
            ∙ take_part 4 is (member_row rows wanted member j) ((m + j) * 4) refl fits
            ∙ ap (λ l. l ++ member_row rows wanted member j) r.front
            ∙ append_assoc (take (m * 4) was) (flat (member_row rows wanted member) j) (member_row rows wanted member j)
            ∙ ap (λ (i : ℕ). take (m * 4) was ++ flat (member_row rows wanted member) i) (sym (add-one j));
        rest = drop_part 4 is (member_row rows wanted member j) ((m + j) * 4) refl fits ((m + k) * 4) (omega (arith, h)) ∙ r.rest;
        long = part-length 4 is (member_row rows wanted member j) ((m + j) * 4) refl fits ∙ r.long;
      }

  pub rows_all : (is : List ℕ) → Rows k is → is ≡ with_part (k * 4) was (m * 4) (member_rows rows wanted k member)
  rows_all is r =
      let end : (m + k) * 4 ≡ m * 4 + k * 4 = omega arith in
      sym (take-append-drop ((m + k) * 4) is)
      ∙ ap (λ l. l ++ drop ((m + k) * 4) is) r.front
      ∙ ap (λ l. (take (m * 4) was ++ member_rows rows wanted k member) ++ l) (r.rest ∙ ap (λ (i : ℕ). drop i was) end)

-- four words a place
pub rows_length : (rows wanted : List ℕ) (member : ℕ → ℕ) (k : ℕ) → length (member_rows rows wanted k member) ≡ k * 4
unfolding member_rows
rows_length rows wanted member k = flat_length (member_row rows wanted member) 4 (λ i. refl) k
