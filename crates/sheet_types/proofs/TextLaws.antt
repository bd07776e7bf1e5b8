-- The text of a type: one array more, and none.
-- Assumes nothing.
use mathlib.Core.Path.{◌≡◌, refl, sym, subst}
use mathlib.Core.Bool.{true, false}
use mathlib.Core.List.{List}
use Prim.Native.Nat.{ℕ, zero, suc, ◌-◌, ◌<◌, ◌≤◌}
use native.Mathlib.Omega.{arith}
use lib.Dec.{eqb}
use Rattle.ir_records.specs.Record.{type_word, type_inner, array_kind}
use Rattle.sheet_names.specs.declared.Sheet.{Sheet}
use Rattle.sheet_output.specs.declared.Markup.{Markup}
use Rattle.sheet_types.specs.Text.{text_within, array_text, base_text, count_text}

one_less : (n : ℕ) → 0 < n → n ≡ suc (n - 1)
one_less n h = omega arith

module _ (m : Markup) (sheet : Sheet) (i : ℕ) where
  -- an array of what is written inside it, which holds so many more
  abbrev pub one_array : (depth : ℕ) → List ℕ
  one_array depth = array_text m (text_within m sheet depth (type_word (sheet.types.now) i 1)) (count_text (type_inner (sheet.types.now) i))

  text_more : (depth : ℕ) → eqb (type_word (sheet.types.now) i 0) array_kind ≡ true
      → text_within m sheet (suc depth) i ≡ one_array depth
  unfolding text_within
  text_more depth e = rw e

  pub text_array : (depth : ℕ) → 0 < depth → eqb (type_word (sheet.types.now) i 0) array_kind ≡ true
      → text_within m sheet depth i ≡ one_array (depth - 1)
  text_array depth h e =
      let s = one_less depth h in
      subst (λ n. text_within m sheet n i ≡ one_array (depth - 1)) (sym s) (text_more (depth - 1) e)

  pub text_plain : (depth : ℕ) → eqb (type_word (sheet.types.now) i 0) array_kind ≡ false → text_within m sheet depth i ≡ base_text m sheet i
  unfolding text_within
  text_plain zero e = refl
  text_plain (suc depth) e = rw e

  pub text_last : (depth : ℕ) → depth ≤ 0 → text_within m sheet depth i ≡ base_text m sheet i
  unfolding text_within
  text_last zero h = refl
  text_last (suc depth) h = absurd (omega arith)
