-- Where a member grows, the members after it start later, by no more than what is a multiple of every alignment.
-- Assumes nothing.
use mathlib.Core.Path.{◌≡◌, refl, ap, ◌∙◌}
use mathlib.Core.List.{List, [], ◌∷◌}
use Prim.Native.Nat.{ℕ, zero, suc, ◌+◌, ◌≤◌, ◌∣◌, max}
use native.Mathlib.Nat.{le_refl, dvd_trans}
use native.Mathlib.Omega.{arith}
use lib.ListN.{length, get_or}
use Rattle.proc_alignment.specs.Alignment.{Power, round_up}
use Rattle.proc_alignment.proofs.PowerLaws.{power_positive, power_divides}
use Rattle.wgsl_growth.specs.Written.{Each, Written, align_of, size_of}
use Rattle.wgsl_growth.specs.Growth.{Alike, AllAlike, Grows}
use Rattle.wgsl_growth.proofs.PlacingLaws.{round_mono, round_shift, end_from, align_from, offsets_from, align_above}

-- D is a multiple of a positive alignment
abbrev pub Divides : ℕ → Written → Type 0
Divides D w = (1 ≤ align_of w) × (align_of w ∣ D)

-- every alignment divides a larger power of two, and its multiples
pub each_divides : (A D : ℕ) → Power A → A ∣ D → (a : ℕ) (ws : List Written) → Each (λ w. Power (align_of w)) ws → align_from a ws ≤ A → Each (Divides D) ws
unfolding align_from
each_divides A D q v a [] p h = tt
each_divides A D q v a (w ∷ ws) p h =
    let within = align_above (max a (align_of w)) ws in
    ((power_positive p.0, dvd_trans (align_of w) (power_divides (align_of w) A p.0 q (omega arith)) v), each_divides A D q v (max a (align_of w)) ws p.1 h)

-- the same alignment and size, from a later end on
module _ (w v : Written) (same : Alike w v) (e e' : ℕ) (h : e ≤ e') (positive : 1 ≤ align_of w) where
  starts_later : round_up (align_of w) e ≤ round_up (align_of v) e'
  starts_later = rw same.0 (round_mono (align_of w) e e' positive h)

  starts_within : (D : ℕ) → align_of w ∣ D → e' ≤ e + D → round_up (align_of v) e' ≤ round_up (align_of w) e + D
  starts_within D d l = rw same.0 (round_shift (align_of w) e' e D positive d l)

ends_later : (D : ℕ) (ws vs : List Written) → AllAlike ws vs → Each (Divides D) ws → (e e' : ℕ) → e ≤ e' → e' ≤ e + D
    → (end_from e ws ≤ end_from e' vs) × (end_from e' vs ≤ end_from e ws + D)
unfolding end_from
ends_later D [] [] same d e e' h l = (h, l)
ends_later D [] (v ∷ vs) same d e e' h l = absurd same
ends_later D (w ∷ ws) [] same d e e' h l = absurd same
ends_later D (w ∷ ws) (v ∷ vs) same d e e' h l =
    let low = starts_later w v same.0 e e' h d.0.0 in
    let high = starts_within w v same.0 e e' h d.0.0 D d.0.1 l in
    let size = same.0.1 in
    ends_later D ws vs same.1 d.1 (round_up (align_of w) e + size_of w) (round_up (align_of v) e' + size_of v) (omega arith) (omega arith)

offsets_later : (ws vs : List Written) → AllAlike ws vs → Each (λ w. 1 ≤ align_of w) ws → (e e' : ℕ) → e ≤ e'
    → (j : ℕ) → get_or (offsets_from e ws) j 0 ≤ get_or (offsets_from e' vs) j 0
unfolding offsets_from
offsets_later [] [] same p e e' h j = le_refl 0
offsets_later [] (v ∷ vs) same p e e' h j = absurd same
offsets_later (w ∷ ws) [] same p e e' h j = absurd same
offsets_later (w ∷ ws) (v ∷ vs) same p e e' h zero = starts_later w v same.0 e e' h p.0
offsets_later (w ∷ ws) (v ∷ vs) same p e e' h (suc j) =
    let low = starts_later w v same.0 e e' h p.0 in
    let size = same.0.1 in
    offsets_later ws vs same.1 p.1 (round_up (align_of w) e + size_of w) (round_up (align_of v) e' + size_of v) (omega arith) j

-- the same largest alignment
alike_align : (ws vs : List Written) → AllAlike ws vs → (a : ℕ) → align_from a vs ≡ align_from a ws
unfolding align_from
alike_align [] [] same a = refl
alike_align [] (v ∷ vs) same a = absurd same
alike_align (w ∷ ws) [] same a = absurd same
alike_align (w ∷ ws) (v ∷ vs) same a = ap (λ (x : ℕ). align_from (max a x) vs) same.0.0 ∙ alike_align ws vs same.1 (max a (align_of w))

alike_length : (ws vs : List Written) → AllAlike ws vs → length vs ≡ length ws
alike_length [] [] same = refl
alike_length [] (v ∷ vs) same = absurd same
alike_length (w ∷ ws) [] same = absurd same
alike_length (w ∷ ws) (v ∷ vs) same = let h = alike_length ws vs same.1 in omega arith

-- ---- one member grows by d
module _ (d : ℕ) where
  -- as many members
  pub grown_length : (i : ℕ) (ws vs : List Written) → Grows i d ws vs → length vs ≡ length ws
  grown_length i [] vs g = absurd g
  grown_length i (w ∷ ws) [] g = absurd g
  grown_length zero (w ∷ ws) (v ∷ vs) g = let h = alike_length ws vs g.2 in omega arith
  grown_length (suc i) (w ∷ ws) (v ∷ vs) g = let h = grown_length i ws vs g.1 in omega arith

  pub grown_align : (i : ℕ) (ws vs : List Written) → Grows i d ws vs → (a : ℕ) → align_from a vs ≡ align_from a ws
  unfolding align_from
  grown_align i [] vs g a = absurd g
  grown_align i (w ∷ ws) [] g a = absurd g
  grown_align zero (w ∷ ws) (v ∷ vs) g a = ap (λ (x : ℕ). align_from (max a x) vs) g.0 ∙ alike_align ws vs g.2 (max a (align_of w))
  grown_align (suc i) (w ∷ ws) (v ∷ vs) g a = ap (λ (x : ℕ). align_from (max a x) vs) g.0.0 ∙ grown_align i ws vs g.1 (max a (align_of w))

  -- D: a multiple of every alignment, and no less than d
  pub grown_ends : (D : ℕ) → d ≤ D → (i : ℕ) (ws vs : List Written) → Grows i d ws vs → Each (Divides D) ws → (e : ℕ)
      → (end_from e ws ≤ end_from e vs) × (end_from e vs ≤ end_from e ws + D)
  unfolding end_from
  grown_ends D h i [] vs g p e = absurd g
  grown_ends D h i (w ∷ ws) [] g p e = absurd g
  grown_ends D h zero (w ∷ ws) (v ∷ vs) g p e =
      let same : round_up (align_of v) e ≡ round_up (align_of w) e = ap (λ (x : ℕ). round_up x e) g.0 in
      let size = g.1 in
      ends_later D ws vs g.2 p.1 (round_up (align_of w) e + size_of w) (round_up (align_of v) e + size_of v) (omega arith) (omega arith)
  grown_ends D h (suc i) (w ∷ ws) (v ∷ vs) g p e = rw (g.0.0, g.0.1) (grown_ends D h i ws vs g.1 p.1 (round_up (align_of w) e + size_of w))

  pub grown_offsets : (i : ℕ) (ws vs : List Written) → Grows i d ws vs → Each (λ w. 1 ≤ align_of w) ws → (e j : ℕ)
      → get_or (offsets_from e ws) j 0 ≤ get_or (offsets_from e vs) j 0
  unfolding offsets_from
  grown_offsets i [] vs g p e j = absurd g
  grown_offsets i (w ∷ ws) [] g p e j = absurd g
  grown_offsets zero (w ∷ ws) (v ∷ vs) g p e zero = rw g.0 (le_refl (round_up (align_of w) e))
  grown_offsets zero (w ∷ ws) (v ∷ vs) g p e (suc j) =
      let same : round_up (align_of v) e ≡ round_up (align_of w) e = ap (λ (x : ℕ). round_up x e) g.0 in
      let size = g.1 in
      offsets_later ws vs g.2 p.1 (round_up (align_of w) e + size_of w) (round_up (align_of v) e + size_of v) (omega arith) j
  grown_offsets (suc i) (w ∷ ws) (v ∷ vs) g p e zero = rw g.0.0 (le_refl (round_up (align_of w) e))
  grown_offsets (suc i) (w ∷ ws) (v ∷ vs) g p e (suc j) = rw (g.0.0, g.0.1) (grown_offsets i ws vs g.1 p.1 (round_up (align_of w) e + size_of w) j)
