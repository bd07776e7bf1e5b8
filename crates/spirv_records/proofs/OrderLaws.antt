-- Each record that was read is in order: its fields in their sets, its base and its members' types earlier ones, its width a power of two.
-- Assumes nothing.
use mathlib.Core.Path.{◌≡◌, refl, sym, ap, ◌∙◌}
use mathlib.Core.Bool.{Bool, true, false, ◌||◌}
use mathlib.Core.List.{List, []}
use Prim.Native.Nat.{ℕ, zero, suc, ◌+◌, ◌*◌, ◌/◌, ◌≤◌, ◌<◌, max}
use native.Mathlib.Nat.{not-suc-le-zero}
use native.Mathlib.Omega.{arith}
use native.Mathlib.Decide.{ℕ_discrete}
use lib.Dec.{eqb}
use lib.ListN.{length, get_or}
use borrow.Author.Tests.{eqb-true, le-leb, lt-ltb}
use Rattle.std.proofs.lemmas.Bool.{and_parts}
use Rattle.ir_records.specs.Result.{ok}
use Rattle.ir_records.specs.Record.{type_word, type_inner, inner_of, member_count, member_words, member_type, struct_members, scalar_kind, vector_kind, matrix_kind, array_kind, struct_kind, record_of}
use Rattle.ir_records.specs.Fields.{fields_ok, base_within, sources_located, record_at}
use Rattle.ir_records.proofs.RecordLaws.{sourceless_located, no_rows_located}
use Rattle.proc_alignment.specs.Alignment.{power_of_two, vector_alignment}
use Rattle.proc_type_alignment.specs.declared.TypeLayout.{TypeLayout}
use Rattle.proc_type_alignment.specs.TypeAlignment.{members_alignment, alignment_of}
use Rattle.spirv_words.specs.Module.{word, opcode, type_struct}
use Rattle.spirv_ids.specs.Ids.{type_number}
use Rattle.spirv_members.specs.Members.{is_type_read, number_of, member_number, member_count_at, member_rows, member_sound, members_sound}
use Rattle.spirv_members.proofs.NumberLaws.{read_below}
use Rattle.spirv_members.proofs.AlignmentLaws.{rows_length, row-word, sound_below}
use Rattle.spirv_types.specs.Types.{State, base_sort, base_word, length_of, length_sort, stride_of}
use Rattle.spirv_records.specs.TypesRead.{scalar_width}
use Rattle.spirv_records.proofs.MadeLaws.{MadeAs, as_scalar, as_vector, as_matrix, as_array, as_runtime_array, as_struct, made_as}
use Rattle.spirv_records.proofs.HeldLaws.{Recorded}
use Rattle.spirv_records.proofs.RecordedLaws.{earlier_word, word_is, inner_is, no_rows, rows_within, own_rows}

-- ---- a width that is a power of two is small
small_or : (w n : ℕ) (b : Bool) → n ≤ 128 → (b ≡ true → w ≤ 128) → (b || eqb w n) ≡ true → w ≤ 128
small_or w n true h f e = f refl
small_or w n false h f e = omega (arith, eqb-true w n e, h)

power_small : (w : ℕ) → power_of_two w ≡ true → w ≤ 255
power_small w e =
    let p1 = eqb w 1 in
    let p2 = p1 || eqb w 2 in
    let p3 = p2 || eqb w 4 in
    let p4 = p3 || eqb w 8 in
    let p5 = p4 || eqb w 16 in
    let p6 = p5 || eqb w 32 in
    let p7 = p6 || eqb w 64 in
    let l : w ≤ 128 =
    small_or w 128 p7 (omega arith)
    (small_or w 64 p6 (omega arith)
    (small_or w 32 p5 (omega arith)
    (small_or w 16 p4 (omega arith)
    (small_or w 8 p3 (omega arith)
    (small_or w 4 p2 (omega arith)
    (small_or w 2 p1 (omega arith) (λ q. omega (arith, eqb-true w 1 q))))))))
    e in
    omega (arith, l)

-- ---- what a scalar's and a vector's record has
pub record Sound (ts : List ℕ) (i : ℕ) : Type 0 where
  pub scalar : type_word ts i 0 ≡ scalar_kind → (type_word ts i 1 ≤ 3) × (power_of_two (type_word ts i 2) ≡ true)
  pub vector : type_word ts i 0 ≡ vector_kind
      → (2 ≤ type_word ts i 1) × (type_word ts i 1 ≤ 4) × (type_word ts i 2 ≤ 3) × (power_of_two (type_word ts i 3) ≡ true)

-- the record of type i
pub record Ordered (ts ms : List ℕ) (i : ℕ) : Type 0 where
  pub fields : record_at ts ms i ≡ ok tt
  pub aligned : (layouts : ℕ → TypeLayout) → (a : ℕ) × (alignment_of layouts i (type_inner ts i) (struct_members ts ms i) ≡ ok a)

module _ (ws : List ℕ) (s : State) (p : ℕ) (r : Recorded ws s p) where
  abbrev n : ℕ
  n = type_number ws p

  abbrev base : ℕ
  base = number_of (base_sort ws p)

  base_below : is_type_read (base_sort ws p) ≡ true → base < n
  base_below e = read_below ws p (word ws p 2) e

  base-word : is_type_read (base_sort ws p) ≡ true → (k : ℕ) → k < 6 → base_word ws r.was.types p k ≡ type_word s.types base k
  base-word e k l = sym (earlier_word ws s p r base k (base_below e) l)

  -- ---- scalars and vectors
  other_kind : (k : ℕ) → type_word s.types n 0 ≡ k → (k ≡ scalar_kind → ⊥) → (k ≡ vector_kind → ⊥) → Sound s.types n
  other_kind k e f g = record { scalar = λ z. absurd (f (sym e ∙ z)); vector = λ z. absurd (g (sym e ∙ z)) }

  pub sound_own : ((b : ℕ) → b < n → Sound s.types b) → Sound s.types n
  sound_own before = by (made_as ws r.was p r.made r.reads r.judged)
    where
      by : MadeAs ws r.was p r.made → Sound s.types n
      by (as_scalar kind l h small power is) =
          let w = word_is ws s p r scalar_kind kind (scalar_width ws p) 0 0 is in
          record { scalar = λ e. rw (w 1, w 2) (small, power); vector = λ e. absurd (omega (arith, w 0, e)) }
      by (as_vector o l h b k is) =
          let w = word_is ws s p r vector_kind (word ws p 3) (base_word ws r.was.types p 1) (base_word ws r.was.types p 2) 0 is in
          let q = (before base (base_below b)).scalar (sym (base-word b 0 (omega arith)) ∙ k) in
          record {
            scalar = λ e. absurd (omega (arith, w 0, e));
            vector = λ e. rw (w 1, w 2, w 3) (l, h, rw (base-word b 1 (omega arith)) q.0, rw (base-word b 2 (omega arith)) q.1);
          }
      by (as_matrix o l h b k is) = other_kind matrix_kind (word_is ws s p r matrix_kind (word ws p 3) (base_word ws r.was.types p 1) (base_word ws r.was.types p 2) (base_word ws r.was.types p 3) is 0) (λ z. omega (arith, z)) (λ z. omega (arith, z))
      by (as_array o b l is) = other_kind array_kind (word_is ws s p r array_kind base 0 (length_of ws (length_sort ws p)) (stride_of ws p) is 0) (λ z. omega (arith, z)) (λ z. omega (arith, z))
      by (as_runtime_array o b is) = other_kind array_kind (word_is ws s p r array_kind base 1 0 (stride_of ws p) is 0) (λ z. omega (arith, z)) (λ z. omega (arith, z))
      by (as_struct span o m u is) = other_kind struct_kind (word_is ws s p r struct_kind (member_count r.was.members) (member_count_at ws p) span 0 is 0) (λ z. omega (arith, z)) (λ z. omega (arith, z))

  -- ---- the fields, and the alignment
  module _ (kind a b c d : ℕ) (is : r.made.words ≡ record_of kind a b c d) (plain : kind ≡ struct_kind → ⊥) where
    none : struct_members s.types s.members n ≡ []
    none = no_rows ws s p r (λ e. plain (sym (word_is ws s p r kind a b c d is 0) ∙ e))

    ordered_plain : fields_ok (member_count s.members) kind a b c d 0 ≡ true → base_within (length s.types / 6) kind a ≡ true
        → ((layouts : ℕ → TypeLayout) → (x : ℕ) × (alignment_of layouts n (inner_of kind a b c d 0) [] ≡ ok x))
        → Ordered s.types s.members n
    unfolding record_at
    ordered_plain f g al =
        let w = word_is ws s p r kind a b c d is in
        record {
          fields = rw (no_rows_located (struct_members s.types s.members n) none, w 0, w 1, w 2, w 3, w 4, w 5, f, g) refl;
          aligned = λ layouts. rw (inner_is ws s p r kind a b c d is, none) (al layouts);
        }

  -- the rows of a struct
  module _ (m : ℕ) (sound : members_sound ws p m ≡ true) where
    pub sound_at : (j k : ℕ) → members_sound ws p k ≡ true → j < k → member_sound ws p j ≡ true
    unfolding members_sound
    sound_at j zero e h = absurd (not-suc-le-zero h)
    sound_at j (suc k) e h = by (ℕ_discrete j k) (sound_at j k)
      where
        both : (members_sound ws p k ≡ true) × (member_sound ws p k ≡ true)
        both = and_parts (members_sound ws p k) _ e

        by : Dec (j ≡ k) → (members_sound ws p k ≡ true → j < k → member_sound ws p j ≡ true) → member_sound ws p j ≡ true
        by (yes q) rest = rw q both.1
        by (no q) rest = rest both.0 (omega (arith, h, q))

    row_type : (j : ℕ) → j < m → member_type (member_rows ws p m) j ≡ member_number ws p j
    row_type j h = ap (λ (k : ℕ). get_or (member_rows ws p m) k 0) (sym zeroth) ∙ row-word ws p m j 0 h (omega arith)
      where
        zeroth : j * member_words + 0 ≡ j * member_words
        zeroth = omega arith

    rows_aligned : (layouts : ℕ → TypeLayout) (k : ℕ) → k ≤ m → (a : ℕ) × (members_alignment layouts n (member_rows ws p m) k ≡ ok a)
    unfolding members_alignment
    rows_aligned layouts zero h = (1, refl)
    rows_aligned layouts (suc k) h =
        let rest = rows_aligned layouts k (omega (arith, h)) in
        let less = sound_below ws p k (sound_at k m sound h) in
        (max rest.0 (layouts (member_number ws p k)).alignment, rw (rest.1, row_type k h, lt-ltb (member_number ws p k) n less) refl)

    rows_located : sources_located (member_rows ws p m) ≡ true
    rows_located =
        sourceless_located (member_rows ws p m) (member_count (member_rows ws p m))
        (λ j h. row-word ws p m j 3 (omega (arith, h, rows_length ws p m)) (omega arith))

  struct_fields : (m first count span : ℕ) → first + count ≤ m → fields_ok m struct_kind first count span 0 0 ≡ true
  unfolding fields_ok
  struct_fields m first count span h = rw (le-leb (first + count) m h) refl

  ordered_struct : (span : ℕ) → opcode ws p ≡ type_struct → members_sound ws p (member_count_at ws p) ≡ true
      → r.made.words ≡ record_of struct_kind (member_count r.was.members) (member_count_at ws p) span 0 → Ordered s.types s.members n
  unfolding record_at alignment_of inner_of
  ordered_struct span o sound is =
      let w = word_is ws s p r struct_kind (member_count r.was.members) (member_count_at ws p) span 0 is in
      let rows = own_rows ws s p r o span is in
      let within = rows_within ws s p r o span is in
      record {
        fields =
            rw (
              rows,
              rows_located (member_count_at ws p) sound,
              w 0,
              w 1,
              w 2,
              w 3,
              w 4,
              w 5,
              struct_fields (member_count s.members) (member_count r.was.members) (member_count_at ws p) span within,
            ) refl;
        aligned = λ layouts.
            rw (inner_is ws s p r struct_kind (member_count r.was.members) (member_count_at ws p) span 0 is, rows)
            (rows_aligned (member_count_at ws p) sound layouts (member_count_at ws p) (omega arith));
      }

  scalar_fields : (m kind width : ℕ) → kind ≤ 3 → power_of_two width ≡ true → fields_ok m scalar_kind kind width 0 0 0 ≡ true
  unfolding fields_ok
  scalar_fields m kind width small power = rw (le-leb kind 5 (omega (arith, small)), le-leb width 255 (power_small width power)) refl

  vector_fields : (m size kind width : ℕ) → 2 ≤ size → size ≤ 4 → kind ≤ 3 → power_of_two width ≡ true → fields_ok m vector_kind size kind width 0 0 ≡ true
  unfolding fields_ok
  vector_fields m size kind width l h small power =
      rw (le-leb 2 size l, le-leb size 4 h, le-leb kind 5 (omega (arith, small)), le-leb width 255 (power_small width power)) refl

  matrix_fields : (m columns rows kind width : ℕ) → 2 ≤ columns → columns ≤ 4 → 2 ≤ rows → rows ≤ 4 → kind ≤ 3 → power_of_two width ≡ true
      → fields_ok m matrix_kind columns rows kind width 0 ≡ true
  unfolding fields_ok
  matrix_fields m columns rows kind width l h l' h' small power =
      rw (le-leb 2 columns l, le-leb columns 4 h, le-leb 2 rows l', le-leb rows 4 h', le-leb kind 5 (omega (arith, small)), le-leb width 255 (power_small width power)) refl

  array_fields : (m base count stride : ℕ) → 0 < count → fields_ok m array_kind base 0 count stride 0 ≡ true
  unfolding fields_ok
  array_fields m base count stride h = rw (le-leb 1 count h) refl

  runtime_fields : (m base stride : ℕ) → fields_ok m array_kind base 1 0 stride 0 ≡ true
  unfolding fields_ok
  runtime_fields m base stride = refl

  scalar_aligned : (layouts : ℕ → TypeLayout) (kind width : ℕ) → power_of_two width ≡ true → alignment_of layouts n (inner_of scalar_kind kind width 0 0 0) [] ≡ ok (1 * width)
  unfolding alignment_of inner_of
  scalar_aligned layouts kind width e = rw e refl

  vector_aligned : (layouts : ℕ → TypeLayout) (size kind width : ℕ) → power_of_two width ≡ true
      → alignment_of layouts n (inner_of vector_kind size kind width 0 0) [] ≡ ok (vector_alignment size * width)
  unfolding alignment_of inner_of
  vector_aligned layouts size kind width e = rw e refl

  matrix_aligned : (layouts : ℕ → TypeLayout) (columns rows kind width : ℕ) → power_of_two width ≡ true
      → alignment_of layouts n (inner_of matrix_kind columns rows kind width 0) [] ≡ ok (vector_alignment rows * width)
  unfolding alignment_of inner_of
  matrix_aligned layouts columns rows kind width e = rw e refl

  array_aligned : (layouts : ℕ → TypeLayout) (count stride : ℕ) → base < n → alignment_of layouts n (inner_of array_kind base 0 count stride 0) [] ≡ ok (layouts base).alignment
  unfolding alignment_of inner_of
  array_aligned layouts count stride h = rw (lt-ltb base n h) refl

  runtime_aligned : (layouts : ℕ → TypeLayout) (stride : ℕ) → base < n → alignment_of layouts n (inner_of array_kind base 1 0 stride 0) [] ≡ ok (layouts base).alignment
  unfolding alignment_of inner_of
  runtime_aligned layouts stride h = rw (lt-ltb base n h) refl

  pub ordered_own : ((b : ℕ) → b < n → Sound s.types b) → Ordered s.types s.members n
  ordered_own before = by (made_as ws r.was p r.made r.reads r.judged)
    where
      rows : ℕ
      rows = member_count s.members

      by : MadeAs ws r.was p r.made → Ordered s.types s.members n
      by (as_scalar kind l h small power is) =
          ordered_plain scalar_kind kind (scalar_width ws p) 0 0 is (λ z. omega (arith, z)) (scalar_fields rows kind (scalar_width ws p) small power) refl
          (λ layouts. (1 * scalar_width ws p, scalar_aligned layouts kind (scalar_width ws p) power))
      by (as_vector o l h b k is) =
          let q = (before base (base_below b)).scalar (sym (base-word b 0 (omega arith)) ∙ k) in
          let kind = base_word ws r.was.types p 1 in
          let width = base_word ws r.was.types p 2 in
          let small : kind ≤ 3 = rw (base-word b 1 (omega arith)) q.0 in
          let power : power_of_two width ≡ true = rw (base-word b 2 (omega arith)) q.1 in
          ordered_plain vector_kind (word ws p 3) kind width 0 is (λ z. omega (arith, z)) (vector_fields rows (word ws p 3) kind width l h small power) refl
          (λ layouts. (vector_alignment (word ws p 3) * width, vector_aligned layouts (word ws p 3) kind width power))
      by (as_matrix o l h b k is) =
          let q = (before base (base_below b)).vector (sym (base-word b 0 (omega arith)) ∙ k) in
          let n₂ = base_word ws r.was.types p 1 in
          let kind = base_word ws r.was.types p 2 in
          let width = base_word ws r.was.types p 3 in
          let low : 2 ≤ n₂ = rw (base-word b 1 (omega arith)) q.0 in
          let high : n₂ ≤ 4 = rw (base-word b 1 (omega arith)) q.1 in
          let small : kind ≤ 3 = rw (base-word b 2 (omega arith)) q.2 in
          let power : power_of_two width ≡ true = rw (base-word b 3 (omega arith)) q.3 in
          ordered_plain matrix_kind (word ws p 3) n₂ kind width is (λ z. omega (arith, z)) (matrix_fields rows (word ws p 3) n₂ kind width l h low high small power) refl
          (λ layouts. (vector_alignment n₂ * width, matrix_aligned layouts (word ws p 3) n₂ kind width power))
      by (as_array o b l is) =
          ordered_plain array_kind base 0 (length_of ws (length_sort ws p)) (stride_of ws p) is (λ z. omega (arith, z))
          (array_fields rows base (length_of ws (length_sort ws p)) (stride_of ws p) l) refl
          (λ layouts. ((layouts base).alignment, array_aligned layouts (length_of ws (length_sort ws p)) (stride_of ws p) (base_below b)))
      by (as_runtime_array o b is) =
          ordered_plain array_kind base 1 0 (stride_of ws p) is (λ z. omega (arith, z)) (runtime_fields rows base (stride_of ws p)) refl
          (λ layouts. ((layouts base).alignment, runtime_aligned layouts (stride_of ws p) (base_below b)))
      by (as_struct span o m u is) = ordered_struct span o m is
