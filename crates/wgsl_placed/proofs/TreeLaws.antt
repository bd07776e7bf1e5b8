-- The members of a struct as a tree of the standard: its alignments, sizes and offsets are those that the reader works out.
-- Assumes nothing.
use mathlib.Core.Path.{◌≡◌, refl, sym, ap, ◌∙◌}
use mathlib.Core.Bool.{true}
use mathlib.Core.List.{List, [], ◌∷◌}
use mathlib.Core.Option.{Option, none, some}
use Prim.Native.Nat.{ℕ, zero, suc, ◌+◌, ◌≤◌, ◌<◌, max, min}
use native.Mathlib.Omega.{arith}
use lib.Dec.{T, leb}
use lib.ListN.{length, get_or}
use borrow.Author.Tests.{leb-true}
use Rattle.ir_records.specs.Record.{member_type, Decoded}
use Rattle.ir_records.proofs.ResultLaws.{T_true, and_left, and_right}
use Rattle.proc_alignment.specs.Alignment.{round_up, most}
use Rattle.w3c_agreement.specs.Wgsl as wgsl
use Rattle.w3c_agreement.specs.Wgsl.{WgslType, max_over, offset_by}
use Rattle.w3c_agreement.specs.Placed.{IsPlaced, IsMember}
use Rattle.w3c_agreement.specs.Placement.{placement, place_at}
use Rattle.wgsl_placement.specs.declared.Shape.{Shape}
use Rattle.wgsl_members.specs.Members.{Given, given_or, align_fits, size_fits, attributes_fit}
use Rattle.std.specs.Prelude.{Ok, Err, Some, None}
use Rattle.wgsl_growth.specs.Tree.{option_of, last_tree, member_tree}
use Rattle.wgsl_growth.specs.Written.{Each, Written, align_of, size_of, fields_of}
use Rattle.wgsl_growth.proofs.PlacingLaws.{round_zero, end_from, align_from, offsets_from, align-fits, size-fits, once_power}
use Rattle.wgsl_growth.proofs.RowLaws.{rows_from, type_later}
use Rattle.wgsl_placed.specs.Denoted.{Measured, MeasuredTree}

-- ---- the standard's offsets and largest alignment, from the first member on and from the second on
unfoldable pub offset_after : ℕ → (align size : ℕ → ℕ) → ℕ → ℕ
offset_after e align size zero = round_up (align 0) e
offset_after e align size (suc i) = round_up (align (suc i)) (offset_after e align size i + size i)

module _ (align size : ℕ → ℕ) where
  pub offset-shift : (e i : ℕ) → offset_after e align size (suc i) ≡ offset_after (round_up (align 0) e + size 0) (λ i. align (suc i)) (λ i. size (suc i)) i
  unfolding offset_after
  offset-shift e zero = refl
  offset-shift e (suc i) = ap (λ (x : ℕ). round_up (align (suc (suc i))) (x + size (suc i))) (offset-shift e i)

  -- OffsetOfMember(S, 1) = 0
  pub offset-start : 1 ≤ align 0 → (i : ℕ) → offset_after 0 align size i ≡ offset_by align size i
  unfolding offset_after offset_by
  offset-start positive zero = round_zero (align 0) positive
  offset-start positive (suc i) = ap (λ (x : ℕ). round_up (align (suc i)) (x + size i)) (offset-start positive i)

pub max_shift : (f : ℕ → ℕ) (n : ℕ) → max_over f (suc n) ≡ max (f 0) (max_over (λ i. f (suc i)) n)
unfolding max_over
max_shift f zero = refl
max_shift f (suc n) = let h = max_shift f n in omega arith

pub max_last : (f : ℕ → ℕ) (n : ℕ) → f n ≤ max_over f n
unfolding max_over
max_last f zero = omega arith
max_last f (suc n) = omega arith

-- ---- the tree of members that are measured
given_same : (g : Given) (x y : ℕ) → x ≡ y → wgsl.given_or (option_of g) x ≡ given_or g y
given_same (Ok None) x y e = e
given_same (Ok (Some k)) x y e = refl
given_same (Err r) x y e = e

align_formed : (g : Given) (e : Shape) (type : WgslType) → T (align_fits g e) → wgsl.align_of type ≡ e.align → wgsl.AlignFits (option_of g) type
align_formed (Ok None) e type t is = tt
align_formed (Ok (Some k)) e type t is = let p = once_power k e t in (p.0, rw is p.1)
align_formed (Err r) e type t is = tt

size_formed : (g : Given) (e : Shape) (type : WgslType) → T (size_fits g e) → wgsl.size_of type ≡ e.size → (T e.fixed → wgsl.FixedSize type)
    → wgsl.SizeFits (option_of g) type
size_formed (Ok None) e type t is fixed = tt
size_formed (Ok (Some k)) e type t is fixed =
    (rw is (leb-true e.size k (T_true (leb e.size k) (and_left (leb e.size k) e.fixed t))), fixed (and_right (leb e.size k) e.fixed t))
size_formed (Err r) e type t is fixed = tt

module _ (types : ℕ → Decoded) where
  -- a member whose type denotes a WGSL type
  abbrev pub IsMeasured : Written → Type 0
  IsMeasured w = (type : WgslType) × (w.tree ≡ some type) × Measured types w.shape type

  abbrev pub AllMeasured : List Written → Type 0
  AllMeasured ws = Each IsMeasured ws

  unfoldable pub tree_of : (w : Written) (ws : List Written) → AllMeasured (w ∷ ws) → wgsl.Members
  tree_of w [] p = wgsl.last p.0.0 (option_of w.attributes.align) (option_of w.attributes.size)
  tree_of w (v ∷ ws) p = wgsl.member p.0.0 (option_of w.attributes.align) (option_of w.attributes.size) (tree_of v ws p.1)

  -- it is what the members denote
  tree_fields : (w : Written) (ws : List Written) (p : AllMeasured (w ∷ ws)) → fields_of w ws ≡ some (tree_of w ws p)
  unfolding fields_of tree_of
  tree_fields w [] p = ap (λ (x : Option WgslType). last_tree w.attributes x) p.0.1
  tree_fields w (v ∷ ws) p =
      ap (λ (x : Option WgslType). member_tree w.attributes x (fields_of v ws)) p.0.1
      ∙ ap (λ (x : Option wgsl.Members). member_tree w.attributes (some p.0.0) x) (tree_fields v ws p.1)

  -- members that denote a struct's denote each a type
  denote_all : (w : Written) (ws : List Written) (members : wgsl.Members) → fields_of w ws ≡ some members
      → Each (λ w. MeasuredTree types w.shape w.tree) (w ∷ ws) → AllMeasured (w ∷ ws)
  unfolding fields_of
  denote_all w [] members e m = (go w.tree refl m.0, tt)
    where
      go : (x : Option WgslType) → w.tree ≡ x → MeasuredTree types w.shape x → IsMeasured w
      go none is m = let z : ◌≡◌ {A = Option wgsl.Members} none (some members) = rw is at e in let y : ◌≡◌ {A = ℕ} 0 1 = cc in absurd (omega arith)
      go (some type) is m = (type, is, m)
  denote_all w (v ∷ ws) members e m = go w.tree (fields_of v ws) refl refl m.0 (λ rest is. denote_all v ws rest is m.1)
    where
      go : (x : Option WgslType) (y : Option wgsl.Members) → w.tree ≡ x → fields_of v ws ≡ y → MeasuredTree types w.shape x
          → ((rest : wgsl.Members) → fields_of v ws ≡ some rest → AllMeasured (v ∷ ws)) → AllMeasured (w ∷ v ∷ ws)
      go none y is same m more =
          let z : ◌≡◌ {A = Option wgsl.Members} none (some members) = rw is at e in
          let y : ◌≡◌ {A = ℕ} 0 1 = cc in
          absurd (omega arith)
      go (some type) none is same m more =
          let z : ◌≡◌ {A = Option wgsl.Members} none (some members) = rw (is, same) at e in
          let y : ◌≡◌ {A = ℕ} 0 1 = cc in
          absurd (omega arith)
      go (some type) (some rest) is same m more = ((type, is, m), more rest same)

  -- so the struct's members are the tree
  pub fields-tree : (w : Written) (ws : List Written) (members : wgsl.Members) → fields_of w ws ≡ some members
      → Each (λ w. MeasuredTree types w.shape w.tree) (w ∷ ws) → (p : AllMeasured (w ∷ ws)) × (members ≡ tree_of w ws p)
  fields-tree w ws members e m =
      let p = denote_all w ws members e m in
      let same : ◌≡◌ {A = Option wgsl.Members} (some members) (some (tree_of w ws (denote_all w ws members e m))) = sym e ∙ tree_fields w ws (denote_all w ws members e m) in
      (denote_all w ws members e m, cc)

  pub tree_last : (w : Written) (ws : List Written) (p : AllMeasured (w ∷ ws)) → wgsl.last_member (tree_of w ws p) ≡ length ws
  unfolding tree_of wgsl.last_member
  tree_last w [] p = refl
  tree_last w (v ∷ ws) p = let h = tree_last v ws p.1 in rw h

  abbrev pub align_in : (w : Written) (ws : List Written) → AllMeasured (w ∷ ws) → ℕ → ℕ
  align_in w ws p = wgsl.align_of_member (tree_of w ws p)

  abbrev pub size_in : (w : Written) (ws : List Written) → AllMeasured (w ∷ ws) → ℕ → ℕ
  size_in w ws p = wgsl.size_of_member (tree_of w ws p)

  first_align : (w : Written) (ws : List Written) (p : AllMeasured (w ∷ ws)) → align_in w ws p 0 ≡ align_of w
  unfolding tree_of wgsl.align_of
  first_align w [] p = given_same w.attributes.align (wgsl.align_of p.0.0) w.shape.align p.0.2.align
  first_align w (v ∷ ws) p = given_same w.attributes.align (wgsl.align_of p.0.0) w.shape.align p.0.2.align

  first_size : (w : Written) (ws : List Written) (p : AllMeasured (w ∷ ws)) → size_in w ws p 0 ≡ size_of w
  unfolding tree_of wgsl.size_of
  first_size w [] p = given_same w.attributes.size (wgsl.size_of p.0.0) w.shape.size p.0.2.size
  first_size w (v ∷ ws) p = given_same w.attributes.size (wgsl.size_of p.0.0) w.shape.size p.0.2.size

  -- offsets of the second member on
  second : (w v : Written) (ws : List Written) (p : AllMeasured (w ∷ v ∷ ws)) (e i : ℕ)
      → offset_after e (align_in w (v ∷ ws) p) (size_in w (v ∷ ws) p) (suc i)
      ≡ offset_after (round_up (align_of w) e + size_of w) (align_in v ws p.1) (size_in v ws p.1) i
  unfolding tree_of wgsl.align_of wgsl.size_of
  second w v ws p e i =
      offset-shift (align_in w (v ∷ ws) p) (size_in w (v ∷ ws) p) e i
      ∙ ap (λ (x : ℕ). offset_after (round_up x e + size_in w (v ∷ ws) p 0) (align_in v ws p.1) (size_in v ws p.1) i) (first_align w (v ∷ ws) p)
      ∙ ap (λ (x : ℕ). offset_after (round_up (align_of w) e + x) (align_in v ws p.1) (size_in v ws p.1) i) (first_size w (v ∷ ws) p)

  -- OffsetOfMember
  pub tree_offset : (w : Written) (ws : List Written) (p : AllMeasured (w ∷ ws)) (e i : ℕ) → i < suc (length ws)
      → get_or (offsets_from e (w ∷ ws)) i 0 ≡ offset_after e (align_in w ws p) (size_in w ws p) i
  unfolding offsets_from offset_after
  tree_offset w ws p e zero h = rw (first_align w ws p)
  tree_offset w [] p e (suc i) h = absurd (omega arith)
  tree_offset w (v ∷ ws) p e (suc i) h = tree_offset v ws p.1 (round_up (align_of w) e + size_of w) i (omega arith) ∙ sym (second w v ws p e i)

  -- the end of the last member
  pub tree_end : (w : Written) (ws : List Written) (p : AllMeasured (w ∷ ws)) (e : ℕ)
      → end_from e (w ∷ ws) ≡ offset_after e (align_in w ws p) (size_in w ws p) (length ws) + size_in w ws p (length ws)
  unfolding end_from offset_after
  tree_end w [] p e = rw (first_align w [] p, first_size w [] p)
  tree_end w (v ∷ ws) p e =
      tree_end v ws p.1 (round_up (align_of w) e + size_of w)
      ∙ ap (λ (x : ℕ). x + size_in v ws p.1 (length ws)) (sym (second w v ws p e (length ws)))
      ∙ ap (λ (x : ℕ). offset_after e (align_in w (v ∷ ws) p) (size_in w (v ∷ ws) p) (suc (length ws)) + x) (later_size w v ws p (length ws))
    where
      later_size : (w v : Written) (ws : List Written) (p : AllMeasured (w ∷ v ∷ ws)) (i : ℕ) → size_in v ws p.1 i ≡ size_in w (v ∷ ws) p (suc i)
      later_size w v ws p i = unfold tree_of wgsl.size_of in refl

  -- the largest alignment
  pub tree_align : (w : Written) (ws : List Written) (p : AllMeasured (w ∷ ws)) (a : ℕ) → align_from a (w ∷ ws) ≡ max a (max_over (align_in w ws p) (length ws))
  unfolding align_from max_over
  tree_align w [] p a = ap (max a) (sym (first_align w [] p))
  tree_align w (v ∷ ws) p a =
      let rest = tree_align v ws p.1 (max a (align_of w)) in
      let shift = max_shift (align_in w (v ∷ ws) p) (length ws) in
      let first = first_align w (v ∷ ws) p in
      let later : max_over (λ i. align_in w (v ∷ ws) p (suc i)) (length ws) ≡ max_over (align_in v ws p.1) (length ws) = later_align w v ws p (length ws) in
      rest ∙ assoc a (align_of w) (max_over (align_in v ws p.1) (length ws))
      ∙ ap (λ (x : ℕ). max a (max x (max_over (align_in v ws p.1) (length ws)))) (sym first)
      ∙ ap (λ (x : ℕ). max a (max (align_in w (v ∷ ws) p 0) x)) (sym later)
      ∙ ap (max a) (sym shift)
    where
      later_align : (w v : Written) (ws : List Written) (p : AllMeasured (w ∷ v ∷ ws)) (n : ℕ)
          → max_over (λ i. align_in w (v ∷ ws) p (suc i)) n ≡ max_over (align_in v ws p.1) n
      later_align w v ws p n = unfold tree_of wgsl.align_of in refl

      assoc : (x y z : ℕ) → max (max x y) z ≡ max x (max y z)
      assoc x y z = omega arith

  -- attributes as the standard asks
  pub tree_formed : (w : Written) (ws : List Written) (p : AllMeasured (w ∷ ws)) → Each (λ w. attributes_fit w.attributes w.shape ≡ true) (w ∷ ws)
      → wgsl.AllWellFormed (tree_of w ws p)
  unfolding tree_of wgsl.WellFormed
  tree_formed w [] p fits = (
    align_formed w.attributes.align w.shape p.0.0 (align-fits w.attributes w.shape fits.0) p.0.2.align,
    size_formed w.attributes.size w.shape p.0.0 (size-fits w.attributes w.shape fits.0) p.0.2.size p.0.2.fixed,
    p.0.2.formed,
  )
  tree_formed w (v ∷ ws) p fits = (
    align_formed w.attributes.align w.shape p.0.0 (align-fits w.attributes w.shape fits.0) p.0.2.align,
    size_formed w.attributes.size w.shape p.0.0 (size-fits w.attributes w.shape fits.0) p.0.2.size p.0.2.fixed,
    p.0.2.formed,
    tree_formed v ws p.1 fits.1,
  )

  -- the types of the members
  pub tree_members : (w : Written) (ws : List Written) (p : AllMeasured (w ∷ ws)) (offset : ℕ → ℕ) (e i : ℕ) → i < suc (length ws)
      → IsMember (place_at (tree_of w ws p) offset) types i (member_type (rows_from e (w ∷ ws)) i)
  unfolding tree_of rows_from placement IsPlaced
  tree_members w [] p offset e zero h = p.0.2.is
  tree_members w [] p offset e (suc i) h = absurd (omega arith)
  tree_members w (v ∷ ws) p offset e zero h = p.0.2.is
  tree_members w (v ∷ ws) p offset e (suc i) h =
      rw (type_later w.shape.number (min (round_up (align_of w) e) most) 0 0 (rows_from (round_up (align_of w) e + size_of w) (v ∷ ws)) i)
      (tree_members v ws p.1 (λ i. offset (suc i)) (round_up (align_of w) e + size_of w) i (omega arith))
