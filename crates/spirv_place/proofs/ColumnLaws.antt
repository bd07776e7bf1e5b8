-- A MatrixStride, where given, is the column step of the matrix by the module's words; none is RowMajor.
-- Assumes nothing.
use mathlib.Core.Path.{◌≡◌, refl, sym, ap, ◌∙◌}
use mathlib.Core.Bool.{Bool, true, false, ◌&&◌}
use mathlib.Core.Logic.{inl, inr, ◌≢◌}
use mathlib.Core.List.{List, [], ◌∷◌}
use Prim.Native.Nat.{ℕ, zero, suc, ◌+◌, ◌-◌, ◌*◌, ◌≤◌, ◌<◌}
use native.Mathlib.Nat.{not-suc-le-zero}
use native.Mathlib.Omega.{arith}
use native.Mathlib.Decide.{ℕ_discrete}
use lib.Dec.{eqb, ltb}
use lib.ListN.{length}
use borrow.Author.Tests.{eqb-true, eqb-false, eq-eqb, lt-ltb}
use Rattle.std.proofs.lemmas.Bool.{and_parts, not-false, or_parts, true≢false}
use Rattle.ir_records.specs.Result.{pick}
use Rattle.ir_records.specs.Record.{type_word, member_count, scalar_kind, vector_kind, matrix_kind, array_kind, struct_kind}
use Rattle.proc_alignment.specs.Alignment.{power_of_two}
use Rattle.proc_type_methods.specs.TypeMethods.{column_step}
use Rattle.spirv_words.specs.Module.{opcode, word, word_count, type_matrix, type_array, type_runtime_array, type_struct, header_words, starts, before, first}
use Rattle.spirv_words.specs.Decorations.{row_major, matrix_stride, is_members_of, is_otherwise}
use Rattle.spirv_ids.specs.Ids.{type_number}
use Rattle.spirv_members.specs.Members.{is_other, is_type_read, number_of, member_sort, member_number, member_count_at, column_step_in, stored_otherwise, member_unsupported, members_unsupported, member_sound, members_sound}
use Rattle.spirv_members.proofs.MemberLaws.{step_matrix, step_array}
use Rattle.spirv_members.proofs.NumberLaws.{read_below}
use Rattle.spirv_types.specs.Types.{State, base_sort, base_word, stride_of, length_of, length_sort}
use Rattle.spirv_records.specs.TypesRead.{Among, TypeReadAt, scalar_width}
use Rattle.spirv_records.proofs.MadeLaws.{MadeAs, as_scalar, as_vector, as_matrix, as_array, as_runtime_array, as_struct}
use Rattle.spirv_records.proofs.HeldLaws.{Held, Recorded}
use Rattle.spirv_records.proofs.RecordedLaws.{earlier_word, word_is}
use Rattle.spirv_records.proofs.OrderLaws.{sound_at}
use Rattle.spirv_place.specs.ModulePlace.{named, matrix_rows, matrix_width, ElementOf, itself, element, runtime_element}
use Rattle.spirv_place.proofs.StepLaws.{named_read, named_number, made, base-word, matrix_words}

-- ---- tests
-- a conjunction that fails, its first part holding
second_false : (a b : Bool) → a ≡ true → (a && b) ≡ false → b ≡ false
second_false true b h e = e
second_false false b h e = absurd (true≢false (sym h))

no_positive : (n : ℕ) → ltb 0 n ≡ false → n ≡ 0
no_positive zero e = refl
no_positive (suc n) e = absurd (true≢false (sym (lt-ltb 0 (suc n) (omega arith)) ∙ e))

power_positive : (w : ℕ) → power_of_two w ≡ true → 0 < w
power_positive zero e = absurd (true≢false (sym e))
power_positive (suc w) e = omega arith

step_positive : (rows width : ℕ) → 0 < width → 0 < column_step rows width
step_positive rows width h = by (eqb rows 2)
  where
    by : (b : Bool) → 0 < pick b 2 4 * width
    by true = omega (arith, h)
    by false = omega (arith, h)

-- ---- a search that finds nothing
none_passes : (test : ℕ → Bool) (q : ℕ) (ps : List ℕ) → ((r : ℕ) → Among r ps → 0 < r) → first test ps ≡ 0 → Among q ps → test q ≡ false
unfolding first
none_passes test q [] some e a = absurd a
none_passes test q (p ∷ ps) some e a = by (test p) refl a (none_passes test q ps (λ r b. some r (inr b)))
  where
    by : (b : Bool) → test p ≡ b → Among q (p ∷ ps) → (first test ps ≡ 0 → Among q ps → test q ≡ false) → test q ≡ false
    by true t x rest = absurd (omega (arith, some p (inl refl), rw t at e))
    by false t (inl x) rest = rw x t
    by false t (inr x) rest = rest (rw t at e) x

starts_from : (ws : List ℕ) (q l at end : ℕ) → Among q (starts ws l at end) → at ≤ q
unfolding starts
starts_from ws q zero at end a = absurd a
starts_from ws q (suc l) at end a = by (ltb at end && ltb 0 (word_count ws at)) a (starts_from ws q l (at + word_count ws at) end)
  where
    by : (b : Bool) → Among q (pick b (at ∷ starts ws l (at + word_count ws at) end) []) → (Among q (starts ws l (at + word_count ws at) end) → at + word_count ws at ≤ q) → at ≤ q
    by false x rest = absurd x
    by true (inl x) rest = omega (arith, x)
    by true (inr x) rest = omega (arith, rest x)

module _ (t m : ℕ) (ws : List ℕ) (s : State) (held : Held t m ws (length ws) s) where
  -- ---- widths are not 0
  scalar_positive : (p : ℕ) (at : TypeReadAt ws p) → type_word s.types (type_number ws p) 0 ≡ scalar_kind → 0 < scalar_width ws p
  scalar_positive p at e = by (made t m ws s held p at)
    where
      o₁ : Recorded ws s p
      o₁ = held.recorded p at

      by : MadeAs ws o₁.was p o₁.made → 0 < scalar_width ws p
      by (as_scalar kind l h small power is) = power_positive (scalar_width ws p) power
      by (as_vector o l h b k is) = absurd (omega (arith, e, word_is ws s p o₁ vector_kind (word ws p 3) (base_word ws o₁.was.types p 1) (base_word ws o₁.was.types p 2) 0 is 0))
      by (as_matrix o l h b k is) = absurd (omega (arith, e, word_is ws s p o₁ matrix_kind (word ws p 3) (base_word ws o₁.was.types p 1) (base_word ws o₁.was.types p 2) (base_word ws o₁.was.types p 3) is 0))
      by (as_array o b l is) = absurd (omega (arith, e, word_is ws s p o₁ array_kind (number_of (base_sort ws p)) 0 (length_of ws (length_sort ws p)) (stride_of ws p) is 0))
      by (as_runtime_array o b is) = absurd (omega (arith, e, word_is ws s p o₁ array_kind (number_of (base_sort ws p)) 1 0 (stride_of ws p) is 0))
      by (as_struct span o x u is) = absurd (omega (arith, e, word_is ws s p o₁ struct_kind (member_count o₁.was.members) (member_count_at ws p) span 0 is 0))

  vector_positive : (p : ℕ) (at : TypeReadAt ws p) → type_word s.types (type_number ws p) 0 ≡ vector_kind → 0 < scalar_width ws (named ws p 2)
  vector_positive p at e = by (made t m ws s held p at)
    where
      o₁ : Recorded ws s p
      o₁ = held.recorded p at

      by : MadeAs ws o₁.was p o₁.made → 0 < scalar_width ws (named ws p 2)
      by (as_vector o l h b k is) =
          scalar_positive (named ws p 2) (named_read t m ws s held p at 2 b) (sym (base-word t m ws s held p at b 0 (omega arith)) ∙ k)
      by (as_scalar kind l h small power is) = absurd (omega (arith, e, word_is ws s p o₁ scalar_kind kind (scalar_width ws p) 0 0 is 0))
      by (as_matrix o l h b k is) = absurd (omega (arith, e, word_is ws s p o₁ matrix_kind (word ws p 3) (base_word ws o₁.was.types p 1) (base_word ws o₁.was.types p 2) (base_word ws o₁.was.types p 3) is 0))
      by (as_array o b l is) = absurd (omega (arith, e, word_is ws s p o₁ array_kind (number_of (base_sort ws p)) 0 (length_of ws (length_sort ws p)) (stride_of ws p) is 0))
      by (as_runtime_array o b is) = absurd (omega (arith, e, word_is ws s p o₁ array_kind (number_of (base_sort ws p)) 1 0 (stride_of ws p) is 0))
      by (as_struct span o x u is) = absurd (omega (arith, e, word_is ws s p o₁ struct_kind (member_count o₁.was.members) (member_count_at ws p) span 0 is 0))

  -- ---- the record of a matrix
  record MatrixRecord (p : ℕ) : Type 0 where
    is_matrix : type_word s.types (type_number ws p) 0 ≡ matrix_kind
    rows : type_word s.types (type_number ws p) 2 ≡ matrix_rows ws p
    width : type_word s.types (type_number ws p) 4 ≡ matrix_width ws p
    positive : 0 < matrix_width ws p

  matrix_record : (p : ℕ) (at : TypeReadAt ws p) → opcode ws p ≡ type_matrix → MatrixRecord p
  matrix_record p at e = by (made t m ws s held p at)
    where
      r : Recorded ws s p
      r = held.recorded p at

      by : MadeAs ws r.was p r.made → MatrixRecord p
      by (as_matrix o l h b k is) =
          let w = word_is ws s p r matrix_kind (word ws p 3) (base_word ws r.was.types p 1) (base_word ws r.was.types p 2) (base_word ws r.was.types p 3) is in
          let v = matrix_words t m ws s held p at b k in
          record {
            is_matrix = w 0;
            rows = w 2 ∙ v.0;
            width = w 4 ∙ v.1;
            positive = vector_positive (named ws p 2) (named_read t m ws s held p at 2 b) (sym (base-word t m ws s held p at b 0 (omega arith)) ∙ k);
          }
      by (as_scalar kind l h small power is) = absurd (omega (arith, e, h))
      by (as_vector o l h b k is) = absurd (omega (arith, e, o))
      by (as_array o b l is) = absurd (omega (arith, e, o))
      by (as_runtime_array o b is) = absurd (omega (arith, e, o))
      by (as_struct span o x u is) = absurd (omega (arith, e, o))

  -- ---- the record of an array
  record ArrayRecord (p : ℕ) : Type 0 where
    is_array : type_word s.types (type_number ws p) 0 ≡ array_kind
    base : type_word s.types (type_number ws p) 1 ≡ type_number ws (named ws p 2)
    at : TypeReadAt ws (named ws p 2)
    below : type_number ws (named ws p 2) < type_number ws p

  array-record : (p : ℕ) (at : TypeReadAt ws p) → type_array ≤ opcode ws p → opcode ws p ≤ type_runtime_array → ArrayRecord p
  array-record p at low high = by (made t m ws s held p at)
    where
      r : Recorded ws s p
      r = held.recorded p at

      with_base : is_type_read (base_sort ws p) ≡ true → type_word s.types (type_number ws p) 0 ≡ array_kind
          → type_word s.types (type_number ws p) 1 ≡ number_of (base_sort ws p) → ArrayRecord p
      with_base b kind base =
          let number = named_number t m ws s held p at 2 b in
          let less = read_below ws p (word ws p 2) b in
          record { is_array = kind; base = base ∙ number; at = named_read t m ws s held p at 2 b; below = omega (arith, number, less) }

      by : MadeAs ws r.was p r.made → ArrayRecord p
      by (as_array o b l is) =
          let w = word_is ws s p r array_kind (number_of (base_sort ws p)) 0 (length_of ws (length_sort ws p)) (stride_of ws p) is in
          with_base b (w 0) (w 1)
      by (as_runtime_array o b is) =
          let w = word_is ws s p r array_kind (number_of (base_sort ws p)) 1 0 (stride_of ws p) is in
          with_base b (w 0) (w 1)
      by (as_scalar kind l h small power is) = absurd (omega (arith, low, h))
      by (as_vector o l h b k is) = absurd (omega (arith, low, o))
      by (as_matrix o l h b k is) = absurd (omega (arith, low, o))
      by (as_struct span o x u is) = absurd (omega (arith, high, o))

  -- ---- the column step that the reading went by
  module _ (p : ℕ) (at : TypeReadAt ws p) where
    abbrev r : Recorded ws s p
    r = held.recorded p at

    abbrev ts : List ℕ
    ts = r.was.types

    was_word : (g k : ℕ) → type_number ws g < type_number ws p → k < 6 → type_word ts (type_number ws g) k ≡ type_word s.types (type_number ws g) k
    was_word g k h l = sym (earlier_word ws s p r (type_number ws g) k h l)

    step_at : (g left : ℕ) → MatrixRecord g → type_number ws g < type_number ws p → column_step_in ts (suc left) (type_number ws g) ≡ column_step (matrix_rows ws g) (matrix_width ws g)
    step_at g left x h =
        step_matrix ts (type_number ws g) left (was_word g 0 h (omega arith) ∙ x.is_matrix)
        ∙ ap (λ (n : ℕ). column_step n (type_word ts (type_number ws g) 4)) (was_word g 2 h (omega arith) ∙ x.rows)
        ∙ ap (column_step (matrix_rows ws g)) (was_word g 4 h (omega arith) ∙ x.width)

    step_on : (g left : ℕ) → ArrayRecord g → type_number ws g < type_number ws p
        → column_step_in ts (suc left) (type_number ws g) ≡ column_step_in ts left (type_number ws (named ws g 2))
    step_on g left x h =
        step_array ts (type_number ws g) left (was_word g 0 h (omega arith) ∙ x.is_array)
        ∙ ap (column_step_in ts left) (was_word g 1 h (omega arith) ∙ x.base)

    step_is : (left g x : ℕ) → ElementOf ws g x → opcode ws x ≡ type_matrix → TypeReadAt ws g → type_number ws g < type_number ws p → type_number ws g < left
        → (column_step_in ts left (type_number ws g) ≡ column_step (matrix_rows ws x) (matrix_width ws x)) × (0 < matrix_width ws x)
    step_is zero g x way o read h l = absurd (not-suc-le-zero l)
    step_is (suc left) g x itself o read h l = let y = matrix_record g read o in (step_at g left y h, y.positive)
    step_is (suc left) g x (element a way) o read h l =
        let y = array-record g read (omega (arith, a)) (omega (arith, a)) in
        let rest = step_is left (named ws g 2) x way o y.at (omega (arith, y.below, h)) (omega (arith, y.below, l)) in
        (step_on g left y h ∙ rest.0, rest.1)
    step_is (suc left) g x (runtime_element a way) o read h l =
        let y = array-record g read (omega (arith, a)) (omega (arith, a)) in
        let rest = step_is left (named ws g 2) x way o y.at (omega (arith, y.below, h)) (omega (arith, y.below, l)) in
        (step_on g left y h ∙ rest.0, rest.1)

    -- ---- a member that is supported
    supported_at : (j k : ℕ) → members_unsupported ws ts p k ≡ false → j < k → member_unsupported ws ts p j ≡ false
    unfolding members_unsupported
    supported_at j zero e h = absurd (not-suc-le-zero h)
    supported_at j (suc k) e h = by (ℕ_discrete j k) (supported_at j k)
      where
        both : (members_unsupported ws ts p k ≡ false) × (member_unsupported ws ts p k ≡ false)
        both = or_parts (members_unsupported ws ts p k) _ e

        by : Dec (j ≡ k) → (members_unsupported ws ts p k ≡ false → j < k → member_unsupported ws ts p j ≡ false) → member_unsupported ws ts p j ≡ false
        by (yes q) rest = rw q both.1
        by (no q) rest = rest both.0 (omega (arith, h, q))

    abbrev step_of_member : (j : ℕ) → ℕ
    step_of_member j = column_step_in ts (suc (member_number ws p j)) (member_number ws p j)

    stored : (j : ℕ) → member_unsupported ws ts p j ≡ false → is_type_read (member_sort ws p j) ≡ true → stored_otherwise ws p j (step_of_member j) ≡ false
    unfolding member_unsupported
    stored j e b = second_false (is_type_read (member_sort ws p j)) _ b (or_parts (is_other (member_sort ws p j)) _ e).1

    found_none : (j step : ℕ) → 0 < step → stored_otherwise ws p j step ≡ false → first (is_otherwise ws (word ws p 1) j step) (before ws p) ≡ 0
    unfolding stored_otherwise
    found_none j step h e = no_positive (first (is_otherwise ws (word ws p 1) j step) (before ws p)) (second_false (ltb 0 step) _ (lt-ltb 0 step h) e)

    -- ---- its decorations
    decoration : (j step q : ℕ) → is_otherwise ws (word ws p 1) j step q ≡ false → is_members_of ws (word ws p 1) q ≡ true → word ws q 2 ≡ j
        → (word ws q 3 ≢ row_major) × (word ws q 3 ≡ matrix_stride → word ws q 4 ≡ step)
    decoration j step q e of member =
        let named-so : (is_members_of ws (word ws p 1) q && eqb (word ws q 2) j) ≡ true = rw (of, eq-eqb (word ws q 2) j member) refl in
        let rest = second_false (is_members_of ws (word ws p 1) q && eqb (word ws q 2) j) _ named-so e in
        let parts = or_parts (eqb (word ws q 3) row_major) _ rest in (
          eqb-false (word ws q 3) row_major parts.0,
          λ z. eqb-true (word ws q 4) step (not-false (eqb (word ws q 4) step) (second_false (eqb (word ws q 3) matrix_stride) _ (eq-eqb (word ws q 3) matrix_stride z) parts.1)),
        )

    member_is_read : (j : ℕ) → members_sound ws p (member_count_at ws p) ≡ true → j < member_count_at ws p → is_type_read (member_sort ws p j) ≡ true
    unfolding member_sound
    member_is_read j sound h = (and_parts (is_type_read (member_sort ws p j)) _ (sound_at ws s p r (member_count_at ws p) sound j (member_count_at ws p) sound h)).0

    own_columns : (j : ℕ) → j < member_count_at ws p → members_sound ws p (member_count_at ws p) ≡ true → members_unsupported ws ts p (member_count_at ws p) ≡ false
        → (x : ℕ) → ElementOf ws (named ws p (2 + j)) x → opcode ws x ≡ type_matrix
        → (q : ℕ) → Among q (before ws p) → is_members_of ws (word ws p 1) q ≡ true → word ws q 2 ≡ j
        → (word ws q 3 ≢ row_major) × (word ws q 3 ≡ matrix_stride → word ws q 4 ≡ column_step (matrix_rows ws x) (matrix_width ws x))
    unfolding member_number
    own_columns j h sound fine x way o q among of member =
        let b = member_is_read j sound h in
        let g = named ws p (2 + j) in
        let number = named_number t m ws s held p at (2 + j) b in
        let read = named_read t m ws s held p at (2 + j) b in
        let less : type_number ws g < type_number ws p = omega (arith, number, read_below ws p (word ws p (2 + j)) b) in
        let i = step_is (suc (type_number ws g)) g x way o read less (omega arith) in
        let step = column_step (matrix_rows ws x) (matrix_width ws x) in
        let whole : step_of_member j ≡ step = ap (λ (n : ℕ). column_step_in ts (suc n) n) number ∙ i.0 in
        let none : stored_otherwise ws p j step ≡ false = ap (λ (n : ℕ). stored_otherwise ws p j n) (sym whole) ∙ stored j (supported_at j (member_count_at ws p) fine h) b in
        let positive : 0 < step = step_positive (matrix_rows ws x) (matrix_width ws x) i.1 in
        decoration j step q
        (none_passes (is_otherwise ws (word ws p 1) j step) q (before ws p) (λ y a. omega (arith, starts_from ws y (p - header_words) header_words p a)) (found_none j step positive none) among)
        of member

  -- of a struct
  pub struct_columns : (p : ℕ) (at : TypeReadAt ws p) → opcode ws p ≡ type_struct → (j : ℕ) → j < member_count_at ws p
      → (x : ℕ) → ElementOf ws (named ws p (2 + j)) x → opcode ws x ≡ type_matrix
      → (q : ℕ) → Among q (before ws p) → is_members_of ws (word ws p 1) q ≡ true → word ws q 2 ≡ j
      → (word ws q 3 ≢ row_major) × (word ws q 3 ≡ matrix_stride → word ws q 4 ≡ column_step (matrix_rows ws x) (matrix_width ws x))
  struct_columns p at e j h x way o q among of member = by (made t m ws s held p at)
    where
      z : Recorded ws s p
      z = held.recorded p at

      by : MadeAs ws z.was p z.made → (word ws q 3 ≢ row_major) × (word ws q 3 ≡ matrix_stride → word ws q 4 ≡ column_step (matrix_rows ws x) (matrix_width ws x))
      by (as_struct span u sound fine is) = own_columns p at j h sound fine x way o q among of member
      by (as_scalar kind l u small power is) = absurd (omega (arith, e, u))
      by (as_vector u l v b k is) = absurd (omega (arith, e, u))
      by (as_matrix u l v b k is) = absurd (omega (arith, e, u))
      by (as_array u b l is) = absurd (omega (arith, e, u))
      by (as_runtime_array u b is) = absurd (omega (arith, e, u))
