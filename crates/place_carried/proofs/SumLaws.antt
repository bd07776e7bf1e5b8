-- The bytes that leaves carry, as sums: of an array as often as it has elements, of a struct over its members, where strides cover and members lie apart.
-- Assumes nothing.
use mathlib.Core.Path.{◌≡◌, refl, sym, ap, ◌∙◌, subst}
use mathlib.Core.Bool.{Bool, true, false, not-eq-not}
use Prim.Native.Nat.{ℕ, ◌*◌, ◌≤◌, ◌<◌}
use native.Mathlib.Nat.{mul-le-mul_right, mul_comm, suc-mul, le_refl}
use native.Mathlib.Omega.{arith}
use lib.Dec.{T, ltb}
use borrow.Author.Tests.{ltb-true}
use Rattle.ir_records.specs.Result.{ok, pick}
use Rattle.ir_records.specs.Record.{Decoded, member_type, member_offset}
use Rattle.ir_records.specs.Table.{table}
use Rattle.ir_records.specs.Serving.{InnerBounds}
use Rattle.ir_records.specs.declared.Leaf.{Leaf}
use Rattle.ir_records.specs.declared.Leaf.TheVariants.{Scalar, Vector, Matrix, CooperativeMatrix, Atomic, RayQuery}
use Rattle.ir_records.specs.declared.NonData.{NonData}
use Rattle.ir_records.specs.declared.TypeInner.{TypeInner}
use Rattle.ir_records.specs.declared.TypeInner.TheVariants.{Plain, Array, RuntimeArray, Struct, Other}
use Rattle.ir_records.proofs.ResultLaws.{ok_inj}
use Rattle.proc_type_methods.specs.TypeMethods.{leaf_size, leaf_column_step, size_of, try_size}
use Rattle.proc_type_layout.proofs.AcceptedParts.{layout_parts}
use Rattle.proc_layouter.specs.Layouter.{no_layout, layout_step, layout}
use Rattle.proc_layouter.proofs.LayoutAccepted.{accepted_step}
use Rattle.valid_flags.specs.Flags.{bit, host_shareable_bit}
use Rattle.valid_type_info.specs.declared.UniformRule.{UniformRule}
use Rattle.valid_type_info.specs.Verdict.{least_for}
use Rattle.valid_arena.specs.Arena.{row}
use Rattle.valid_arena.proofs.AcceptedLaws.{AcceptedTypes, row_size, plain-row, array_row, runtime_array_row, struct_row, struct_member, member_earlier}
use Rattle.place_steps.specs.Columns.{is_whole, column_count, leaf_length}
use Rattle.place_term3.specs.Term3.{StridesCover, itself, element, runtime_element, member}
use Rattle.place_term3.proofs.ColumnLaws.{columned, length_reach}
use Rattle.place_term3.proofs.StepLaws.{contained, leaf_reaches}
use Rattle.place_carried.specs.Count.{count, some, sum}
use Rattle.place_carried.specs.Carried.{part_has, leaf_has, in_leaf_of, in_leaf, carried}
use Rattle.place_carried.specs.Serving.{leaf_carried}
use Rattle.place_carried.proofs.CountLaws.{count_not, count_none, count_alike, count_below, count_past, Parts, count_parts, sum_alike, sum_same}
use Rattle.place_carried.proofs.LeafLaws.{before, in_leaf_is, before_is, held}

-- ---- a leaf
-- rows take no more than a column step
column_room : (leaf : Leaf) → InnerBounds (Plain leaf) → (s : ℕ) → s < column_count leaf → leaf_length leaf (leaf_size leaf) ≤ leaf_column_step leaf
column_room leaf b s h = rw (← (columned leaf s h).reach (leaf_size leaf)) (length_reach (Plain leaf) b (leaf_size leaf))

-- the columns of a matrix lie one after the other
columns_parts : (leaf : Leaf) → InnerBounds (Plain leaf)
    → Parts (λ s. s * leaf_column_step leaf) (λ s. leaf_length leaf (leaf_size leaf)) (λ s r. ltb r (leaf_length leaf (leaf_size leaf))) (column_count leaf) (leaf_size leaf)
columns_parts leaf b =
    record {
      inside = λ j l k e. ltb-true k (leaf_length leaf (leaf_size leaf)) e;
      within = λ j l.
          omega (arith, column_room leaf b j l, (columned leaf j l).size, mul-le-mul_right (leaf_column_step leaf) l, suc-mul j (leaf_column_step leaf), mul_comm (leaf_column_step leaf) (column_count leaf));
      apart = λ i j q l. omega (arith, column_room leaf b j l, mul-le-mul_right (leaf_column_step leaf) q, suc-mul i (leaf_column_step leaf));
    }

whole_length : (leaf : Leaf) → is_whole leaf ≡ true → leaf_length leaf (leaf_size leaf) ≡ leaf_size leaf
whole_length (Scalar k w) e = refl
whole_length (Vector n k w) e = refl
whole_length (Matrix cs rs k w) e = let z : ◌≡◌ {A = ℕ} 0 1 = cc in absurd (omega arith)
whole_length (CooperativeMatrix cs rs k w o) e = refl
whole_length (Atomic k w) e = refl
whole_length (RayQuery v) e = refl

leaf_count : (leaf : Leaf) → InnerBounds (Plain leaf) → count (leaf_has leaf) (leaf_size leaf) ≡ leaf_carried leaf (leaf_size leaf)
leaf_count leaf b = go (is_whole leaf) refl
  where
    go : (w : Bool) → is_whole leaf ≡ w
        → count (λ k. pick w (ltb k (leaf_length leaf (leaf_size leaf))) (some (λ s. part_has (s * leaf_column_step leaf) (λ r. ltb r (leaf_length leaf (leaf_size leaf))) k) (column_count leaf))) (leaf_size leaf)
        ≡ pick w (leaf_size leaf) (column_count leaf * leaf_length leaf (leaf_size leaf))
    go true w = rw (whole_length leaf w) (count_below (leaf_size leaf) (leaf_size leaf) (le_refl _))
    go false w =
        count_parts (λ s. s * leaf_column_step leaf) (λ s. leaf_length leaf (leaf_size leaf)) (λ s r. ltb r (leaf_length leaf (leaf_size leaf))) (column_count leaf) (leaf_size leaf) (columns_parts leaf b)
        ∙ sum_alike _ (λ s. leaf_length leaf (leaf_size leaf)) (column_count leaf) (λ s l. count_below (leaf_length leaf (leaf_size leaf)) (leaf_length leaf (leaf_size leaf)) (le_refl _))
        ∙ sum_same (leaf_length leaf (leaf_size leaf)) (column_count leaf)

module _ (rule : UniformRule) (c : ℕ) (types : ℕ → Decoded) (n : ℕ) (acc : AcceptedTypes c types n) where
  -- ---- sizes
  -- the size that was tried is the one in the row
  tried : (t : ℕ) → t < n → (this : TypeInner) → (types t).inner ≡ this → try_size this ≡ ok (row (least_for rule) c types t).size
  tried t l this e =
      rw (e, ← row_size (least_for rule) c types n acc t l) at
      (layout_parts (table no_layout (layout_step types) t) t (types t).inner (types t).members (layout types t) (accepted_step types n acc.layouts t l)).0

  pub size-of : (t : ℕ) → t < n → (this : TypeInner) → (types t).inner ≡ this → (row (least_for rule) c types t).size ≡ size_of this
  unfolding try_size
  size-of t l (Plain leaf) e = (plain-row (least_for rule) c types n acc t l leaf e).size
  size-of t l (Array base count stride) e = (array_row (least_for rule) c types n acc t l base count stride e).1.size
  size-of t l (RuntimeArray base stride) e = (runtime_array_row (least_for rule) c types n acc t l base stride e).1.size
  size-of t l (Struct count span) e = (struct_row (least_for rule) c types n acc t l count span e).size
  size-of t l (Other o) e = sym (ok_inj (tried t l (Other o) e))

  -- what a type measures
  abbrev pub size_in : ℕ → ℕ
  size_in t = size_of (types t).inner

  -- no byte past that lies in a leaf
  pub inside : (t : ℕ) → t < n → StridesCover (row (least_for rule) c types) types t → (k : ℕ) → in_leaf types t k ≡ true → k < size_in t
  inside t l v k e =
      let h = held rule c types n acc t l 0 k e in
      let i = contained rule c types n acc h.way l v h.firsts in
      let m = leaf_reaches rule c types n acc h.way l in
      omega (arith, h.below, size-of t l (types t).inner refl)

  inside_before : (t u : ℕ) → u < t → t < n → StridesCover (row (least_for rule) c types) types u → (k : ℕ) → before rule c types n acc t u k ≡ true → k < size_in u
  inside_before t u h l v k e = inside u (omega arith) v k (sym (before_is rule c types n acc t u k h) ∙ e)

  count_before : (t u : ℕ) → u < t → count (before rule c types n acc t u) (size_in u) ≡ carried types u
  unfolding carried
  count_before t u h = count_alike (before rule c types n acc t u) (in_leaf types u) (size_in u) (λ k l. before_is rule c types n acc t u k h)

  carried_of : (t : ℕ) (this : TypeInner) → (types t).inner ≡ this → carried types t ≡ count (in_leaf_of (before rule c types n acc t) this (types t).members) (size_of this)
  unfolding carried
  carried_of t this e =
      count_alike (in_leaf types t) (in_leaf_of (before rule c types n acc t) this (types t).members) (size_in t) (λ k l. in_leaf_is rule c types n acc t this e k)
      ∙ ap (λ (x : TypeInner). count (in_leaf_of (before rule c types n acc t) this (types t).members) (size_of x)) e

  -- ---- sums
  pub carried_leaf : (t : ℕ) → t < n → (leaf : Leaf) → (types t).inner ≡ Plain leaf → carried types t ≡ leaf_carried leaf (leaf_size leaf)
  unfolding in_leaf_of
  carried_leaf t l leaf e = carried_of t (Plain leaf) e ∙ leaf_count leaf (subst (λ (x : TypeInner). InnerBounds x) e (acc.bounds t l))

  pub carried_array : (t : ℕ) → t < n → StridesCover (row (least_for rule) c types) types t → (base elements stride : ℕ) → (types t).inner ≡ Array base elements stride
      → carried types t ≡ elements * carried types base
  unfolding in_leaf_of
  carried_array t l v base elements stride e =
      let b = (array_row (least_for rule) c types n acc t l base elements stride e).0 in
      let s = size-of base (omega arith) (types base).inner refl in
      let wide : (row (least_for rule) c types base).size ≤ stride = rw e at (v t itself) in
      carried_of t (Array base elements stride) e
      ∙ count_parts (λ i. i * stride) (λ i. size_in base) (λ i. before rule c types n acc t base) elements (elements * stride)
      (record {
        inside = λ j q k h. inside_before t base b l (λ a r. v a (element e r)) k h;
        within = λ j q. omega (arith, mul-le-mul_right stride q, suc-mul j stride);
        apart = λ i j q r. omega (arith, mul-le-mul_right stride q, suc-mul i stride);
      })
      ∙ sum_alike _ (λ i. carried types base) elements (λ i q. count_before t base b)
      ∙ sum_same (carried types base) elements

  pub carried_runtime_array : (t : ℕ) → t < n → StridesCover (row (least_for rule) c types) types t → (base stride : ℕ) → (types t).inner ≡ RuntimeArray base stride
      → carried types t ≡ carried types base
  unfolding in_leaf_of
  carried_runtime_array t l v base stride e =
      let b = (runtime_array_row (least_for rule) c types n acc t l base stride e).0 in
      let s = size-of base (omega arith) (types base).inner refl in
      let wide : (row (least_for rule) c types base).size ≤ stride = rw e at (v t itself) in
      carried_of t (RuntimeArray base stride) e
      ∙ count_past (before rule c types n acc t base) (size_in base) stride (omega arith)
      (λ k h. (not-eq-not {b = false}).0 (λ q. omega (arith, inside_before t base b l (λ a r. v a (runtime_element e r)) k q)))
      ∙ count_before t base b

  pub carried_struct : (t : ℕ) → t < n → StridesCover (row (least_for rule) c types) types t → T (bit (row (least_for rule) c types t).flags host_shareable_bit)
      → (members span : ℕ) → (types t).inner ≡ Struct members span → carried types t ≡ sum (λ j. carried types (member_type (types t).members j)) members
  unfolding in_leaf_of
  carried_struct t l v o members span e =
      let part = (types t).members in
      let shareable = rw ((struct_row (least_for rule) c types n acc t l members span e).flags host_shareable_bit refl) at o in
      let b = member_earlier (least_for rule) c types n acc t l members span e in
      let size : (j : ℕ) → j < members → (row (least_for rule) c types (member_type part j)).size ≡ size_in (member_type part j) =
      λ j q. size-of (member_type part j) (omega (arith, b j q)) (types (member_type part j)).inner refl in
      carried_of t (Struct members span) e
      ∙ count_parts (λ j. member_offset part j) (λ j. size_in (member_type part j)) (λ j. before rule c types n acc t (member_type part j)) members span
      (record {
        inside = λ j q k h. inside_before t (member_type part j) (b j q) l (λ a r. v a (member j e q r)) k h;
        within = λ j q. omega (arith, (struct_member (least_for rule) c types n acc t l members span e j q).within, size j q);
        apart = λ i j q r.
            omega (arith, (struct_member (least_for rule) c types n acc t l members span e j r).apart shareable i q, size i (omega arith));
      })
      ∙ sum_alike _ (λ j. carried types (member_type part j)) members (λ j q. count_before t (member_type part j) (b j q))

  -- no more bytes are carried than the type measures
  pub carried_within : (t : ℕ) → carried types t ≤ size_in t
  unfolding carried
  carried_within t = omega (arith, count_not (in_leaf types t) (size_in t))

  -- what is no data has no leaf
  pub carried_other : (t : ℕ) (o : NonData) → (types t).inner ≡ Other o → carried types t ≡ 0
  unfolding in_leaf_of
  carried_other t o e = carried_of t (Other o) e ∙ count_none (λ k. false) (size_of (Other o)) (λ k l. refl)
