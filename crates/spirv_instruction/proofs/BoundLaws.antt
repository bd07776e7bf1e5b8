-- The fields of a record that is made are within their bounds.
-- Assumes nothing.
use mathlib.Core.Path.{◌≡◌, refl, sym}
use mathlib.Core.Bool.{Bool, true, false, not, ◌&&◌, ◌||◌}
use mathlib.Core.List.{List, []}
use Prim.Native.Nat.{ℕ, ◌*◌, ◌/◌, ◌≤◌}
use native.Mathlib.Omega.{arith}
use lib.Dec.{eqb, leb, ltb}
use borrow.Author.Tests.{eqb-true, leb-true}
use Rattle.std.proofs.lemmas.Bool.{and_parts, not-false, or_parts}
use Rattle.ir_records.specs.Result.{Result, ok, pick}
use Rattle.ir_records.specs.Record.{inner_in, inner_of, member_count, scalar_kind, vector_kind, matrix_kind, array_kind, struct_kind, record_of}
use Rattle.ir_records.specs.Serving.{InnerBounds}
use Rattle.ir_records.proofs.ResultLaws.{ok_inj}
use Rattle.proc_alignment.specs.Alignment.{most}
use Rattle.spirv_words.specs.Module.{opcode, word, word_count, type_bool, type_int, type_float, type_vector, type_matrix, type_array, type_runtime_array, type_struct}
use Rattle.spirv_members.specs.Members.{is_type_read, is_other, number_of, member_count_at, member_rows, members_unsupported, members_sound}
use Rattle.spirv_members.specs.Serving.{Bounded}
use Rattle.spirv_members.proofs.MemberLaws.{scalar-width, vector_bounds}
use Rattle.spirv_types.specs.declared.Typed.{Typed}
use Rattle.spirv_types.specs.Types.{State, judged, typed, is_fresh, width_ok, sign_kind, parts_ok, base_sort, base_word, stride_at, stride_of, length_of, length_sort, span_of, bool_type, int_type, float_type, vector_type, matrix_type, array_type, runtime_array_type, struct_type, type_by, type_at}
use Rattle.spirv_types.proofs.TypeLaws.{width_within}
use Rattle.spirv_instruction.specs.Instruction.{row_count}

zero_one : ◌≡◌ {A = ℕ} 0 1 → ⊥
zero_one z = omega arith

-- what is made is neither unsupported nor unsound
pub judged_ok : (u s : Bool) (y z : Typed) → judged u s y ≡ ok z → (u ≡ false) × (s ≡ true) × (y ≡ z)
judged_ok true s y z e = let o : ◌≡◌ {A = ℕ} 0 1 = cc in absurd (zero_one o)
judged_ok false true y z e = (refl, refl, ok_inj e)
judged_ok false false y z e = let o : ◌≡◌ {A = ℕ} 0 1 = cc in absurd (zero_one o)

pub record Bound (y : Typed) : Type 0 where
  pub bounds : InnerBounds (inner_in y.words)

choose : (y : Typed) (b : Bool) (p q : Result Typed) → (p ≡ ok y → Bound y) → (q ≡ ok y → Bound y) → pick b p q ≡ ok y → Bound y
choose y true p q f g e = f e
choose y false p q f g e = g e

module _ (ws : List ℕ) (s : State) (at : ℕ) (fresh : Bool) (b : Bounded s.types) (y : Typed) where
  plain : (u t : Bool) (x : Typed) → (u ≡ false → t ≡ true → Bound x) → judged u t x ≡ ok y → Bound y
  plain u t x f e = let j = judged_ok u t x y e in rw (sym j.2) (f j.0 j.1)

  parts : (x : Bool) → (not (parts_ok (word ws at 3)) || x) ≡ false → word ws at 3 ≤ 4
  parts x u = leb-true (word ws at 3) 4 (and_parts (leb 2 (word ws at 3)) _ (not-false (parts_ok (word ws at 3)) (or_parts (not (parts_ok (word ws at 3))) x u).0)).1

  base_kind : (k : ℕ) → (fresh && is_type_read (base_sort ws at) && eqb (base_word ws s.types at 0) k) ≡ true → base_word ws s.types at 0 ≡ k
  base_kind k t = eqb-true (base_word ws s.types at 0) k (and_parts (fresh && is_type_read (base_sort ws at)) _ t).1

  bool_bound : bool_type s.alignments fresh ≡ ok y → Bound y
  unfolding bool_type inner_of
  bool_bound = plain false fresh _ (λ u t. record { bounds = omega arith })

  int_bound : int_type ws s.alignments at fresh ≡ ok y → Bound y
  unfolding int_type inner_of
  int_bound =
      plain (not (width_ok (word ws at 2)) || ltb 1 (word ws at 3)) fresh
      (typed s.alignments (record_of scalar_kind (sign_kind (word ws at 3)) (word ws at 2 / 8) 0 0) [])
      (λ u t. record { bounds = width_within (word ws at 2) (ltb 1 (word ws at 3)) u })

  float_bound : float_type ws s.alignments at fresh ≡ ok y → Bound y
  unfolding float_type inner_of
  float_bound =
      plain (not (width_ok (word ws at 2)) || ltb 3 (word_count ws at)) fresh
      (typed s.alignments (record_of scalar_kind 2 (word ws at 2 / 8) 0 0) [])
      (λ u t. record { bounds = width_within (word ws at 2) (ltb 3 (word_count ws at)) u })

  -- vectors and matrices, of a base of kind k
  abbrev of_base : (k : ℕ) → Bool
  of_base k = fresh && is_type_read (base_sort ws at) && eqb (base_word ws s.types at 0) k

  vector_bound : vector_type ws s.types s.alignments at fresh ≡ ok y → Bound y
  unfolding vector_type inner_of
  vector_bound =
      plain (not (parts_ok (word ws at 3)) || is_other (base_sort ws at)) (of_base scalar_kind)
      (typed s.alignments (record_of vector_kind (word ws at 3) (base_word ws s.types at 1) (base_word ws s.types at 2) 0) [])
      (λ u t. record { bounds = (parts (is_other (base_sort ws at)) u, scalar-width s.types (number_of (base_sort ws at)) b (base_kind 0 t)) })

  matrix_bound : matrix_type ws s.types s.alignments at fresh ≡ ok y → Bound y
  unfolding matrix_type inner_of
  matrix_bound =
      plain (not (parts_ok (word ws at 3)) || is_other (base_sort ws at)) (of_base vector_kind)
      (typed s.alignments (record_of matrix_kind (word ws at 3) (base_word ws s.types at 1) (base_word ws s.types at 2) (base_word ws s.types at 3)) [])
      (λ u t. let v = vector_bounds s.types (number_of (base_sort ws at)) b (base_kind 1 t) in
      record { bounds = (parts (is_other (base_sort ws at)) u, v.0, v.1) })

  array_bound : array_type ws s.alignments at fresh ≡ ok y → Bound y
  unfolding array_type inner_of
  array_bound =
      plain (is_other (base_sort ws at) || is_other (length_sort ws at))
      (fresh && is_type_read (base_sort ws at) && ltb 0 (stride_at ws at) && ltb 0 (length_of ws (length_sort ws at)) && leb (length_of ws (length_sort ws at) * stride_of ws at) most)
      (typed s.alignments (record_of array_kind (number_of (base_sort ws at)) 0 (length_of ws (length_sort ws at)) (stride_of ws at)) [])
      (λ u t. record { bounds = tt })

  runtime_bound : runtime_array_type ws s.alignments at fresh ≡ ok y → Bound y
  unfolding runtime_array_type inner_of
  runtime_bound =
      plain (is_other (base_sort ws at)) (fresh && is_type_read (base_sort ws at) && ltb 0 (stride_at ws at))
      (typed s.alignments (record_of array_kind (number_of (base_sort ws at)) 1 0 (stride_of ws at)) [])
      (λ u t. record { bounds = tt })

  struct_bound : struct_type ws s at fresh ≡ ok y → Bound y
  unfolding struct_type inner_of
  struct_bound =
      let n = member_count_at ws at in
      let span = span_of ws s.types s.alignments at n in
      plain (members_unsupported ws s.types at n) (fresh && members_sound ws at n && leb span most)
      (typed s.alignments (record_of struct_kind (member_count s.members) n span 0) (member_rows ws at n))
      (λ u t. record { bounds = tt })

  pub by_bound : (op : ℕ) → type_by ws s at op fresh ≡ ok y → Bound y
  unfolding type_by
  by_bound op =
      choose y (eqb op type_bool) _ _ bool_bound
      (choose y (eqb op type_int) _ _ int_bound
      (choose y (eqb op type_float) _ _ float_bound
      (choose y (eqb op type_vector) _ _ vector_bound
      (choose y (eqb op type_matrix) _ _ matrix_bound
      (choose y (eqb op type_array) _ _ array_bound
      (choose y (eqb op type_runtime_array) _ _ runtime_bound struct_bound))))))

-- the members of a struct that is made are sound
pub rows_sound : (ws : List ℕ) (s : State) (at : ℕ) (y : Typed) → type_at ws s at ≡ ok y → members_sound ws at (row_count ws at) ≡ true
unfolding type_at type_by struct_type members_sound
rows_sound ws s at y e = by (eqb (opcode ws at) type_struct) refl
  where
    by : (b : Bool) → eqb (opcode ws at) type_struct ≡ b → members_sound ws at (row_count ws at) ≡ true
    by false h = rw h refl
    by true h =
        let op : opcode ws at ≡ 30 = eqb-true (opcode ws at) type_struct h in
        let n = member_count_at ws at in
        let j = judged_ok (members_unsupported ws s.types at n) (is_fresh ws at && members_sound ws at n && leb (span_of ws s.types s.alignments at n) most) _ y (rw op at e) in
        rw h (and_parts (is_fresh ws at) _ (and_parts (is_fresh ws at && members_sound ws at n) _ j.1).0).1

pub typed_bounds : (ws : List ℕ) (s : State) (at : ℕ) → Bounded s.types → (y : Typed) → type_at ws s at ≡ ok y → InnerBounds (inner_in y.words)
unfolding type_at
typed_bounds ws s at b y e = (by_bound ws s at (is_fresh ws at) b y (opcode ws at) e).bounds
