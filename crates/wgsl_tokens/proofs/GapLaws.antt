-- Blankspace and comments, byte by byte. Assumes nothing.
use mathlib.Core.Path.{◌≡◌, ap, ◌∙◌}
use mathlib.Core.Bool.{Bool, true, false, ◌||◌}
use mathlib.Core.List.{List}
use Prim.Native.Nat.{ℕ, suc, ◌+◌, ◌-◌, ◌≤◌, ◌<◌}
use native.Mathlib.Numerals.{add-one}
use native.Mathlib.Omega.{arith}
use lib.Dec.{eqb}
use lib.ListN.{length, get_or, drop, drop_of_length-le}
use borrow.Author.Tests.{eqb-true, ne_eqb}
use Rattle.std.specs.Prelude.{Result, Ok, Err}
use Rattle.std.proofs.lemmas.Bool.{and_parts}
use Rattle.wgsl_tokens.specs.Tokens.{Mode, code, line, block, stopped, is_blank, ends_line, is_ascii, opens_line, opens_block, closes_block, code_step, block_step, step_of, tokens, from}
use Rattle.wgsl_tokens.specs.Lexed.{IsBad}
use Rattle.wgsl_tokens.specs.Serving.{GapAt}
use Rattle.wgsl_tokens.specs.declared.BrokenComment.{BrokenComment}
use Rattle.wgsl_tokens.proofs.TokenLaws.{inside, head_next, drop_two, code_skip, block_skip, tokens_at}

module _ (s : List ℕ) (i : ℕ) where
  -- ---- a line comment
  module _ (h : i < length s) where
    pub line_ends : is_ascii (get_or s i 0) ≡ true → ends_line (get_or s i 0) ≡ true → tokens line (drop i s) ≡ from s (i + 1)
    unfolding step_of
    line_ends a e = tokens_at s i h line ∙ rw (a, e, add-one i)

    pub line_more : is_ascii (get_or s i 0) ≡ true → ends_line (get_or s i 0) ≡ false → tokens line (drop i s) ≡ tokens line (drop (i + 1) s)
    unfolding step_of
    line_more a e = tokens_at s i h line ∙ rw (a, e, add-one i)

    pub line_bad : is_ascii (get_or s i 0) ≡ false → IsBad (tokens line (drop i s))
    unfolding step_of
    line_bad a = (tokens stopped (drop (suc i) s), tokens_at s i h line ∙ rw a)

  pub line_done : length s ≤ i → tokens line (drop i s) ≡ from s i
  unfolding tokens
  line_done h = rw (drop_of_length-le s h)

  -- ---- block comments
  module _ (h : i < length s) (depth : ℕ) where
    pub block_bad : is_ascii (get_or s i 0) ≡ false → IsBad (tokens (block 0 depth) (drop i s))
    unfolding step_of block_step
    block_bad a = (tokens stopped (drop (suc i) s), tokens_at s i h (block 0 depth) ∙ rw a)

    module _ (a : is_ascii (get_or s i 0) ≡ true) where
      pub block_last : closes_block (get_or s i 0) (get_or s (i + 1) 0) ≡ true → depth ≡ 1 → tokens (block 0 depth) (drop i s) ≡ from s (i + 2)
      unfolding step_of block_step
      block_last e d =
          tokens_at s i h (block 0 depth) ∙ rw (a, head_next s i, e, d) (code_skip 1 (drop (suc i) s)) ∙ ap (tokens (code 0)) (drop_two s i)

      pub block_closes : closes_block (get_or s i 0) (get_or s (i + 1) 0) ≡ true → (depth ≡ 1 → ⊥)
          → tokens (block 0 depth) (drop i s) ≡ tokens (block 0 (depth - 1)) (drop (i + 2) s)
      unfolding step_of block_step
      block_closes e d =
          tokens_at s i h (block 0 depth) ∙ rw (a, head_next s i, e, ne_eqb depth 1 d) (block_skip (depth - 1) (drop (suc i) s))
          ∙ ap (tokens (block 0 (depth - 1))) (drop_two s i)

      module _ (shut : closes_block (get_or s i 0) (get_or s (i + 1) 0) ≡ false) where
        pub block_opens : opens_block (get_or s i 0) (get_or s (i + 1) 0) ≡ true
            → tokens (block 0 depth) (drop i s) ≡ tokens (block 0 (depth + 1)) (drop (i + 2) s)
        unfolding step_of block_step
        block_opens e =
            tokens_at s i h (block 0 depth) ∙ rw (a, head_next s i, shut, e) (block_skip (depth + 1) (drop (suc i) s))
            ∙ ap (tokens (block 0 (depth + 1))) (drop_two s i)

        pub block_more : opens_block (get_or s i 0) (get_or s (i + 1) 0) ≡ false → tokens (block 0 depth) (drop i s) ≡ tokens (block 0 depth) (drop (i + 1) s)
        unfolding step_of block_step
        block_more e = tokens_at s i h (block 0 depth) ∙ rw (a, head_next s i, shut, e, add-one i)

  -- the second byte is inside
  pub closes_inside : closes_block (get_or s i 0) (get_or s (i + 1) 0) ≡ true → i + 1 < length s
  closes_inside e = inside s (i + 1) 46 (eqb-true (get_or s (i + 1) 0) 47 (and_parts (eqb (get_or s i 0) 42) (eqb (get_or s (i + 1) 0) 47) e).1)

  pub opens_inside : opens_block (get_or s i 0) (get_or s (i + 1) 0) ≡ true → i + 1 < length s
  opens_inside e = inside s (i + 1) 41 (eqb-true (get_or s (i + 1) 0) 42 (and_parts (eqb (get_or s i 0) 47) (eqb (get_or s (i + 1) 0) 42) e).1)

  -- ---- between tokens
  module _ (h : i < length s) where
    pub gap_blank : is_blank (get_or s i 0) ≡ true → from s i ≡ from s (i + 1)
    unfolding step_of code_step
    gap_blank e = tokens_at s i h (code 0) ∙ rw (e, add-one i)

    pub gap_line : is_blank (get_or s i 0) ≡ false → opens_line (get_or s i 0) (get_or s (i + 1) 0) ≡ true → from s i ≡ tokens line (drop (i + 1) s)
    unfolding step_of code_step
    gap_line b e = tokens_at s i h (code 0) ∙ rw (b, head_next s i, e, add-one i)

    pub gap_block : is_blank (get_or s i 0) ≡ false → opens_line (get_or s i 0) (get_or s (i + 1) 0) ≡ false
        → opens_block (get_or s i 0) (get_or s (i + 1) 0) ≡ true → from s i ≡ tokens (block 0 1) (drop (i + 2) s)
    unfolding step_of code_step
    gap_block b l e =
        tokens_at s i h (code 0) ∙ rw (b, head_next s i, l, e) (block_skip 1 (drop (suc i) s)) ∙ ap (tokens (block 0 1)) (drop_two s i)

-- a gap that goes on in another mode
pub gap_later : (mode later : Mode) (s : List ℕ) (at next : ℕ) (g : Result ℕ BrokenComment) → at ≤ next → tokens mode (drop at s) ≡ tokens later (drop next s)
    → GapAt later s next g → GapAt mode s at g
gap_later mode later s at next (Ok end) h e g = (omega arith, g.1, e ∙ g.2)
gap_later mode later s at next (Err broken) h e g = (g.0, e ∙ g.1)

-- the last of three tests
pub third : (a b c : Bool) → a || b || c ≡ true → a ≡ false → b ≡ false → c ≡ true
third a b c e p q = rw (p, q) at e
