-- Halves: what is left gives what the whole gives, and the test does not hold at the number that is found and holds at the next.
-- Assumes nothing.
use Rattle.std.proofs.Common.{◌≡◌, refl, sym, ℕ, zero, suc, Bool, true, false, ◌+◌, ◌-◌, ◌<◌, ◌≤◌, List, length, leb, ◌∙◌, arith, le-leb}
use Rattle.std.proofs.Common.{leb-true, leb-false, ltb-true, ltb-false, nat_lt, ◌==◌, take_all}
use Rattle.std.proofs.lemmas.Bool.{lt-leb, ne_eqb}
use Rattle.ir_records.specs.Result.{pick}
use Rattle.spirv_words.specs.Module.{header_words, word_count}
use Rattle.sheet_places.specs.Places.{after_instruction, place_from, place_of, words_before}
use Rattle.sheet_places.specs.Halving.{middle, half_start, half_end, halving}

module _ (test : ℕ → Bool) where
  -- what is left to be halved gives this number
  pub record Halves (found start end : ℕ) : Type 0 where
    pub left : ℕ
    pub enough : end - start ≤ left
    pub same : halving test left start end ≡ found

  more : (left start end : ℕ) → 1 < end - start → halving test (suc left) start end ≡ halving test left (half_start test start end) (half_end test start end)
  unfolding halving
  more left start end h = rw (lt-leb (end - start) 1 h)

  smaller : (start end : ℕ) → 1 < end - start → half_end test start end - half_start test start end < end - start
  smaller start end h = go (test (middle start end)) where
    go : (b : Bool) → pick b (middle start end) end - pick b start (middle start end) < end - start
    go true = omega arith
    go false = omega arith

  pub halves_next : (found start end : ℕ) → 1 < end - start → Halves found start end → Halves found (half_start test start end) (half_end test start end)
  halves_next found start end h p = go (p.left) (p.enough) (p.same) where
    go : (left : ℕ) → end - start ≤ left → halving test left start end ≡ found → Halves found (half_start test start end) (half_end test start end)
    go zero enough same = absurd (omega (arith, h, enough))
    go (suc left) enough same = record { left = left; enough = omega (arith, enough, smaller start end h); same = sym (more left start end h) ∙ same }

  pub halves_done : (found start end : ℕ) → end - start ≤ 1 → Halves found start end → start ≡ found
  unfolding halving
  halves_done found start end h p = go (p.left) (p.same) where
    go : (left : ℕ) → halving test left start end ≡ found → start ≡ found
    go zero same = same
    go (suc left) same = rw (le-leb (end - start) 1 h) at same

  -- the test does not hold at the number
  pub fails_there : (most start end : ℕ) → test start ≡ false → test (halving test most start end) ≡ false
  unfolding halving
  fails_there zero start end h = h
  fails_there (suc most) start end h =
      go (leb (end - start) 1) (test (middle start end)) refl (fails_there most start (middle start end) h) (fails_there most (middle start end) end) where
        m : ℕ
        m = middle start end

        go : (last b : Bool) → test m ≡ b → test (halving test most start m) ≡ false → (test m ≡ false → test (halving test most m end) ≡ false)
            → test (pick last start (halving test most (pick b start m) (pick b m end))) ≡ false
        go true b e lower upper = h
        go false true e lower upper = lower
        go false false e lower upper = upper e

  -- and it holds at the next one
  pub holds_next : (most start end : ℕ) → start < end → end - start ≤ most → test end ≡ true → test (halving test most start end + 1) ≡ true
  unfolding halving
  holds_next zero start end some few h = absurd (omega (arith, some, few))
  holds_next (suc most) start end some few h =
      go (leb (end - start) 1) (test m) refl refl (holds_next most start m) (holds_next most m end) where
        m : ℕ
        m = middle start end

        go : (last b : Bool) → leb (end - start) 1 ≡ last → test m ≡ b
            → (start < m → m - start ≤ most → test m ≡ true → test (halving test most start m + 1) ≡ true)
            → (m < end → end - m ≤ most → test end ≡ true → test (halving test most m end + 1) ≡ true)
            → test (pick last start (halving test most (pick b start m) (pick b m end)) + 1) ≡ true
        go true b one e lower upper = let last : start + 1 ≡ end = omega (arith, some, leb-true (end - start) 1 one) in rw last h
        go false true several e lower upper = let two = leb-false (end - start) 1 several in lower (omega (arith, two)) (omega (arith, two, few)) e
        go false false several e lower upper = let two = leb-false (end - start) 1 several in upper (omega (arith, two)) (omega (arith, two, few)) h

-- ---- so many instructions as there are words: each has one word at least, so that all words stand before the place
module _ (ws : List ℕ) where
  further : (at : ℕ) → at < length ws → at < after_instruction ws at
  further at h = go (word_count ws at) where
    go : (count : ℕ) → at < pick (count == 0) (length ws) (at + count)
    go zero = h
    go (suc count) = rw (ne_eqb (suc count) 0 (omega arith)) (omega arith)

  past_all : (left at : ℕ) → length ws ≤ at + left → length ws ≤ place_from ws left at
  unfolding place_from
  past_all zero at h = omega (arith, h)
  past_all (suc left) at h = go (nat_lt at (length ws)) refl (past_all left (after_instruction ws at)) where
    go : (b : Bool) → nat_lt at (length ws) ≡ b → (length ws ≤ after_instruction ws at + left → length ws ≤ place_from ws left (after_instruction ws at))
        → length ws ≤ pick b (place_from ws left (after_instruction ws at)) at
    go true e next = next (omega (arith, h, further at (ltb-true at (length ws) e)))
    go false e next = ltb-false at (length ws) e

  pub before_all : words_before ws (length ws) ≡ ws
  before_all = take_all (place_of ws (length ws)) ws (past_all (length ws) header_words (omega arith))
