-- What a type that is made is, by its opcode: its record, and what it was judged by.
-- Assumes nothing.
use mathlib.Core.Path.{◌≡◌, refl, sym, ap, ◌∙◌}
use mathlib.Core.Bool.{Bool, true, false, not, ◌&&◌, ◌||◌}
use mathlib.Core.List.{List, []}
use Prim.Native.Nat.{ℕ, ◌+◌, ◌*◌, ◌/◌, ◌≤◌, ◌<◌}
use native.Mathlib.Nat.{le_antisymm}
use native.Mathlib.Omega.{arith}
use lib.Dec.{eqb, leb, ltb}
use borrow.Author.Tests.{eqb-true, eqb-false, leb-true, ltb-true}
use Rattle.std.proofs.lemmas.Bool.{and_parts, not-false, or_parts, true≢false}
use Rattle.ir_records.specs.Result.{Result, ok, pick}
use Rattle.ir_records.specs.Record.{member_count, scalar_kind, vector_kind, matrix_kind, array_kind, struct_kind, record_of}
use Rattle.proc_alignment.specs.Alignment.{power_of_two, most}
use Rattle.spirv_words.specs.Module.{opcode, word, word_count, is_read, type_bool, type_int, type_float, type_vector, type_matrix, type_array, type_runtime_array, type_struct}
use Rattle.spirv_members.specs.Members.{is_type_read, is_other, number_of, member_count_at, member_rows, members_unsupported, members_sound}
use Rattle.spirv_types.specs.declared.Typed.{Typed}
use Rattle.spirv_types.specs.Types.{State, typed, is_fresh, width_ok, sign_kind, parts_ok, base_sort, base_word, stride_at, stride_of, length_of, length_sort, span_of, bool_type, int_type, float_type, vector_type, matrix_type, array_type, runtime_array_type, struct_type, type_by, type_at}
use Rattle.spirv_instruction.proofs.BoundLaws.{judged_ok}
use Rattle.spirv_records.specs.TypesRead.{scalar_width}

-- ---- tests
-- a width that is admitted is a power of two, in bytes
pub width_power : (bits : ℕ) → width_ok bits ≡ true → power_of_two (bits / 8) ≡ true
width_power bits e = go (eqb bits 8) (eqb bits 16) (eqb bits 32) (eqb bits 64) refl refl refl refl
  where
    go : (p q r s : Bool) → eqb bits 8 ≡ p → eqb bits 16 ≡ q → eqb bits 32 ≡ r → eqb bits 64 ≡ s → power_of_two (bits / 8) ≡ true
    go true q r s a₁ a₂ a₃ a₄ = rw (eqb-true bits 8 a₁) refl
    go false true r s a₁ a₂ a₃ a₄ = rw (eqb-true bits 16 a₂) refl
    go false false true s a₁ a₂ a₃ a₄ = rw (eqb-true bits 32 a₃) refl
    go false false false true a₁ a₂ a₃ a₄ = rw (eqb-true bits 64 a₄) refl
    go false false false false a₁ a₂ a₃ a₄ = absurd (true≢false (sym (rw (a₁, a₂, a₃, a₄) at e)))

pub data MadeAs (ws : List ℕ) (s : State) (p : ℕ) (y : Typed) : Type 0 where
  as_scalar : (kind : ℕ) → type_bool ≤ opcode ws p → opcode ws p ≤ type_float → kind ≤ 3 → power_of_two (scalar_width ws p) ≡ true
      → y.words ≡ record_of scalar_kind kind (scalar_width ws p) 0 0 → MadeAs ws s p y
  as_vector : opcode ws p ≡ type_vector → 2 ≤ word ws p 3 → word ws p 3 ≤ 4 → is_type_read (base_sort ws p) ≡ true → base_word ws s.types p 0 ≡ scalar_kind
      → y.words ≡ record_of vector_kind (word ws p 3) (base_word ws s.types p 1) (base_word ws s.types p 2) 0 → MadeAs ws s p y
  as_matrix : opcode ws p ≡ type_matrix → 2 ≤ word ws p 3 → word ws p 3 ≤ 4 → is_type_read (base_sort ws p) ≡ true → base_word ws s.types p 0 ≡ vector_kind
      → y.words ≡ record_of matrix_kind (word ws p 3) (base_word ws s.types p 1) (base_word ws s.types p 2) (base_word ws s.types p 3) → MadeAs ws s p y
  as_array : opcode ws p ≡ type_array → is_type_read (base_sort ws p) ≡ true → 0 < length_of ws (length_sort ws p)
      → y.words ≡ record_of array_kind (number_of (base_sort ws p)) 0 (length_of ws (length_sort ws p)) (stride_of ws p) → MadeAs ws s p y
  as_runtime_array : opcode ws p ≡ type_runtime_array → is_type_read (base_sort ws p) ≡ true
      → y.words ≡ record_of array_kind (number_of (base_sort ws p)) 1 0 (stride_of ws p) → MadeAs ws s p y
  as_struct : (span : ℕ) → opcode ws p ≡ type_struct → members_sound ws p (member_count_at ws p) ≡ true
      → members_unsupported ws s.types p (member_count_at ws p) ≡ false
      → y.words ≡ record_of struct_kind (member_count s.members) (member_count_at ws p) span 0 → MadeAs ws s p y

choose : {M : Type 0} (y : Typed) (b : Bool) (p q : Result Typed) → (b ≡ true → p ≡ ok y → M) → (b ≡ false → q ≡ ok y → M) → pick b p q ≡ ok y → M
choose y true p q f g e = f refl e
choose y false p q f g e = g refl e

above : (op n : ℕ) → n ≤ op → (op ≡ n → ⊥) → n + 1 ≤ op
above op n l ne = omega (arith, l, ne)

below : (op : ℕ) → 25 ≤ op → op ≤ 24 → ⊥
below op l h = omega (arith, l, h)

-- an opcode that is read and none of the other seven
last_read : (op : ℕ) → is_read op ≡ true → (op ≡ type_bool → ⊥) → (op ≡ type_int → ⊥) → (op ≡ type_float → ⊥) → (op ≡ type_vector → ⊥) → (op ≡ type_matrix → ⊥)
    → (op ≡ type_array → ⊥) → (op ≡ type_runtime_array → ⊥) → op ≡ type_struct
last_read op e a b c d f g h = by (leb 20 op && leb op 24) refl
  where
    by : (x : Bool) → (leb 20 op && leb op 24) ≡ x → op ≡ type_struct
    by true t =
        let p = and_parts (leb 20 op) _ t in
        let past = above op 24 (above op 23 (above op 22 (above op 21 (above op 20 (leb-true 20 op p.0) a) b) c) d) f in
        absurd (below op past (leb-true op 24 p.1))
    by false t =
        let p = and_parts (leb 28 op) _ (rw t at e) in
        let past = above op 29 (above op 28 (leb-true 28 op p.0) g) h in
        le_antisymm (leb-true op 30 p.1) past

module _ (ws : List ℕ) (s : State) (p : ℕ) (fresh : Bool) (y : Typed) where
  words-of : (x : Typed) → x ≡ y → y.words ≡ x.words
  words-of x e = sym (ap (λ (z : Typed). z.words) e)

  parts : (x : Bool) → (not (parts_ok (word ws p 3)) || x) ≡ false → (2 ≤ word ws p 3) × (word ws p 3 ≤ 4)
  parts x u =
      let q = and_parts (leb 2 (word ws p 3)) _ (not-false (parts_ok (word ws p 3)) (or_parts (not (parts_ok (word ws p 3))) x u).0) in
      (leb-true 2 (word ws p 3) q.0, leb-true (word ws p 3) 4 q.1)

  bool_made : opcode ws p ≡ type_bool → bool_type s.alignments fresh ≡ ok y → MadeAs ws s p y
  unfolding bool_type
  bool_made o e =
      let j = judged_ok false fresh (typed s.alignments (record_of scalar_kind 3 1 0 0) []) y e in
      as_scalar 3 (omega (arith, o)) (omega (arith, o)) (omega arith) (rw o refl) (rw o (words-of _ j.2))

  width_of : (opcode ws p ≡ type_bool → ⊥) → (x : Bool) → (not (width_ok (word ws p 2)) || x) ≡ false
      → (scalar_width ws p ≡ word ws p 2 / 8) × (power_of_two (word ws p 2 / 8) ≡ true)
  width_of o x u =
      (by (eqb (opcode ws p) type_bool) refl, width_power (word ws p 2) (not-false (width_ok (word ws p 2)) (or_parts (not (width_ok (word ws p 2))) x u).0))
    where
      by : (b : Bool) → eqb (opcode ws p) type_bool ≡ b → scalar_width ws p ≡ word ws p 2 / 8
      by true t = absurd (o (eqb-true (opcode ws p) type_bool t))
      by false t = rw t refl

  sign_small : (n : ℕ) → sign_kind n ≤ 3
  sign_small n = by (eqb n 0)
    where
      by : (b : Bool) → pick b 1 0 ≤ 3
      by true = omega arith
      by false = omega arith

  int_made : (opcode ws p ≡ type_bool → ⊥) → opcode ws p ≡ type_int → int_type ws s.alignments p fresh ≡ ok y → MadeAs ws s p y
  unfolding int_type
  int_made n o e =
      let j = judged_ok (not (width_ok (word ws p 2)) || ltb 1 (word ws p 3)) fresh
      (typed s.alignments (record_of scalar_kind (sign_kind (word ws p 3)) (word ws p 2 / 8) 0 0) []) y e in
      let w = width_of n (ltb 1 (word ws p 3)) j.0 in
      as_scalar (sign_kind (word ws p 3)) (omega (arith, o)) (omega (arith, o)) (sign_small (word ws p 3)) (ap power_of_two w.0 ∙ w.1)
      (words-of _ j.2 ∙ ap (λ (x : ℕ). record_of scalar_kind (sign_kind (word ws p 3)) x 0 0) (sym w.0))

  float_made : (opcode ws p ≡ type_bool → ⊥) → opcode ws p ≡ type_float → float_type ws s.alignments p fresh ≡ ok y → MadeAs ws s p y
  unfolding float_type
  float_made n o e =
      let j = judged_ok (not (width_ok (word ws p 2)) || ltb 3 (word_count ws p)) fresh
      (typed s.alignments (record_of scalar_kind 2 (word ws p 2 / 8) 0 0) []) y e in
      let w = width_of n (ltb 3 (word_count ws p)) j.0 in
      as_scalar 2 (omega (arith, o)) (omega (arith, o)) (omega arith) (ap power_of_two w.0 ∙ w.1)
      (words-of _ j.2 ∙ ap (λ (x : ℕ). record_of scalar_kind 2 x 0 0) (sym w.0))

  -- a base that is read, of kind k
  based : (k : ℕ) → (fresh && is_type_read (base_sort ws p) && eqb (base_word ws s.types p 0) k) ≡ true
      → (is_type_read (base_sort ws p) ≡ true) × (base_word ws s.types p 0 ≡ k)
  based k t =
      let a = and_parts (fresh && is_type_read (base_sort ws p)) _ t in
      ((and_parts fresh _ a.0).1, eqb-true (base_word ws s.types p 0) k a.1)

  vector_made : opcode ws p ≡ type_vector → vector_type ws s.types s.alignments p fresh ≡ ok y → MadeAs ws s p y
  unfolding vector_type
  vector_made o e =
      let j = judged_ok (not (parts_ok (word ws p 3)) || is_other (base_sort ws p))
      (fresh && is_type_read (base_sort ws p) && eqb (base_word ws s.types p 0) scalar_kind)
      (typed s.alignments (record_of vector_kind (word ws p 3) (base_word ws s.types p 1) (base_word ws s.types p 2) 0) []) y e in
      let n = parts (is_other (base_sort ws p)) j.0 in
      let b = based scalar_kind j.1 in
      as_vector o n.0 n.1 b.0 b.1 (words-of _ j.2)

  matrix_made : opcode ws p ≡ type_matrix → matrix_type ws s.types s.alignments p fresh ≡ ok y → MadeAs ws s p y
  unfolding matrix_type
  matrix_made o e =
      let j = judged_ok (not (parts_ok (word ws p 3)) || is_other (base_sort ws p))
      (fresh && is_type_read (base_sort ws p) && eqb (base_word ws s.types p 0) vector_kind)
      (typed s.alignments (record_of matrix_kind (word ws p 3) (base_word ws s.types p 1) (base_word ws s.types p 2) (base_word ws s.types p 3)) []) y e in
      let n = parts (is_other (base_sort ws p)) j.0 in
      let b = based vector_kind j.1 in
      as_matrix o n.0 n.1 b.0 b.1 (words-of _ j.2)

  array_made : opcode ws p ≡ type_array → array_type ws s.alignments p fresh ≡ ok y → MadeAs ws s p y
  unfolding array_type
  array_made o e =
      let n = length_of ws (length_sort ws p) in
      let j = judged_ok (is_other (base_sort ws p) || is_other (length_sort ws p))
      (fresh && is_type_read (base_sort ws p) && ltb 0 (stride_at ws p) && ltb 0 n && leb (n * stride_of ws p) most)
      (typed s.alignments (record_of array_kind (number_of (base_sort ws p)) 0 n (stride_of ws p)) []) y e in
      let a = and_parts (fresh && is_type_read (base_sort ws p) && ltb 0 (stride_at ws p) && ltb 0 n) _ j.1 in
      let b = and_parts (fresh && is_type_read (base_sort ws p) && ltb 0 (stride_at ws p)) _ a.0 in
      let c = and_parts (fresh && is_type_read (base_sort ws p)) _ b.0 in
      as_array o (and_parts fresh _ c.0).1 (ltb-true 0 n b.1) (words-of _ j.2)

  runtime_made : opcode ws p ≡ type_runtime_array → runtime_array_type ws s.alignments p fresh ≡ ok y → MadeAs ws s p y
  unfolding runtime_array_type
  runtime_made o e =
      let j = judged_ok (is_other (base_sort ws p)) (fresh && is_type_read (base_sort ws p) && ltb 0 (stride_at ws p))
      (typed s.alignments (record_of array_kind (number_of (base_sort ws p)) 1 0 (stride_of ws p)) []) y e in
      let c = and_parts (fresh && is_type_read (base_sort ws p)) _ j.1 in
      as_runtime_array o (and_parts fresh _ c.0).1 (words-of _ j.2)

  struct_made : opcode ws p ≡ type_struct → struct_type ws s p fresh ≡ ok y → MadeAs ws s p y
  unfolding struct_type
  struct_made o e =
      let n = member_count_at ws p in
      let span = span_of ws s.types s.alignments p n in
      let j = judged_ok (members_unsupported ws s.types p n) (fresh && members_sound ws p n && leb span most)
      (typed s.alignments (record_of struct_kind (member_count s.members) n span 0) (member_rows ws p n)) y e in
      let a = and_parts (fresh && members_sound ws p n) _ j.1 in
      as_struct span o (and_parts fresh _ a.0).1 j.0 (words-of _ j.2)

  by_made : is_read (opcode ws p) ≡ true → type_by ws s p (opcode ws p) fresh ≡ ok y → MadeAs ws s p y
  unfolding type_by
  by_made r =
      let op = opcode ws p in
      choose y (eqb op type_bool) _ _ (λ t. bool_made (eqb-true op type_bool t))
      (λ n1. choose y (eqb op type_int) _ _ (λ t. int_made (eqb-false op type_bool n1) (eqb-true op type_int t))
      (λ n2. choose y (eqb op type_float) _ _ (λ t. float_made (eqb-false op type_bool n1) (eqb-true op type_float t))
      (λ n3. choose y (eqb op type_vector) _ _ (λ t. vector_made (eqb-true op type_vector t))
      (λ n4. choose y (eqb op type_matrix) _ _ (λ t. matrix_made (eqb-true op type_matrix t))
      (λ n5. choose y (eqb op type_array) _ _ (λ t. array_made (eqb-true op type_array t))
      (λ n6. choose y (eqb op type_runtime_array) _ _ (λ t. runtime_made (eqb-true op type_runtime_array t))
      (λ n7. struct_made
      (last_read op r (eqb-false op type_bool n1) (eqb-false op type_int n2) (eqb-false op type_float n3) (eqb-false op type_vector n4) (eqb-false op type_matrix n5) (eqb-false op type_array n6) (eqb-false op type_runtime_array n7)))))))))

pub made_as : (ws : List ℕ) (s : State) (p : ℕ) (y : Typed) → is_read (opcode ws p) ≡ true → type_at ws s p ≡ ok y → MadeAs ws s p y
unfolding type_at
made_as ws s p y r e = by_made ws s p (is_fresh ws p) y r e
