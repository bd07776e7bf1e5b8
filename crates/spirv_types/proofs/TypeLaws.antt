-- The widths that are admitted are small; and the code's tests, one after the other, with the freshness of the id last, give what is said of a type.
-- Assumes nothing.
use mathlib.Core.Path.{◌≡◌, refl, sym, ap, ◌∙◌}
use mathlib.Core.Bool.{Bool, true, false, not, ◌&&◌, ◌||◌}
use mathlib.Core.List.{List}
use Prim.Native.Nat.{ℕ, ◌*◌, ◌/◌, ◌≤◌, ◌<◌}
use native.Mathlib.Omega.{arith}
use lib.Dec.{eqb, leb, ltb}
use lib.ListN.{length}
use borrow.Author.Tests.{eqb-true, eqb-false, lt-ltb}
use Rattle.std.proofs.lemmas.Bool.{true≢false}
use Rattle.std.specs.Prelude.{Some, None}
use Rattle.ir_records.specs.Result.{Result, err, ok, pick, require, and_then}
use Rattle.ir_records.proofs.ResultLaws.{ok_inj}
use Rattle.ir_records.specs.Record.{member_count, type_word, inner_of, scalar_kind, vector_kind, record_of}
use Rattle.ir_records.specs.Serving.{record_words}
use Rattle.proc_alignment.specs.Alignment.{vector_alignment, round_up, most}
use Rattle.proc_type_alignment.specs.TypeAlignment.{alignment_of}
use Rattle.spirv_words.specs.Module.{word, word_count, found, type_bool, type_int, type_float, type_vector, type_matrix, type_array, type_runtime_array}
use Rattle.spirv_ids.specs.Ids.{integer_found, is_constant, type_number}
use Rattle.spirv_ids.proofs.PlaceLaws.{constant_found}
use Rattle.spirv_members.specs.Members.{is_other, is_type_read, number_of, member_count_at, members_unsupported, members_sound, struct_alignment}
use Rattle.spirv_members.specs.Serving.{Bounded, members_seen, members_made}
use Rattle.spirv_members.specs.declared.Members.{Members}
use Rattle.spirv_members.proofs.MemberLaws.{scalar-width, vector_bounds}
use Rattle.spirv_members.proofs.AlignmentLaws.{largest_is, largest_positive}
use Rattle.spirv_types.specs.declared.Typed.{Typed}
use Rattle.spirv_types.specs.declared.Parts.{Parts}
use Rattle.spirv_types.specs.Types.{State, judged, width_ok, sign_kind, parts_ok, base_sort, stride_at, stride_of, length_of, length_sort, bool_type, int_type, float_type, vector_type, matrix_type, array_type, runtime_array_type, struct_type, type_by}
use Rattle.spirv_types.specs.Serving.{leaf, int_made, float_made, parts_made, vector_made, matrix_made, array_typed, counted_made, array_made, runtime_array_made, struct_made, type_made}

pub width_within : (bits : ℕ) (b : Bool) → (not (width_ok bits) || b) ≡ false → bits / 8 ≤ 255
width_within bits b e = go (eqb bits 8) (eqb bits 16) (eqb bits 32) (eqb bits 64) refl refl refl refl
  where
    go : (p q r s : Bool) → eqb bits 8 ≡ p → eqb bits 16 ≡ q → eqb bits 32 ≡ r → eqb bits 64 ≡ s → bits / 8 ≤ 255
    go true q r s a₁ a₂ a₃ a₄ = omega (arith, eqb-true bits 8 a₁)
    go false true r s a₁ a₂ a₃ a₄ = omega (arith, eqb-true bits 16 a₂)
    go false false true s a₁ a₂ a₃ a₄ = omega (arith, eqb-true bits 32 a₃)
    go false false false true a₁ a₂ a₃ a₄ = omega (arith, eqb-true bits 64 a₄)
    go false false false false a₁ a₂ a₃ a₄ = absurd (true≢false (rw (a₁, a₂, a₃, a₄) at e))

-- ---- the parts of a vector or a matrix
zero_one : ◌≡◌ {A = ℕ} 0 1 → ⊥
zero_one z = omega arith

part_inv : (a o r : Bool) (t : ℕ) (k : ℕ → Bool) (q : ℕ → Parts) (p : Parts)
    → ok p ≡ require a 29 0 0 (and_then (require (not o) 29 0 0 (require r 30 0 0 (ok t))) (λ t. require (k t) 30 0 0 (ok (q t))))
    → (k t ≡ true) × (p ≡ q t)
part_inv false o r t k q p e = let z : ◌≡◌ {A = ℕ} 0 1 = cc in absurd (zero_one z)
part_inv true true r t k q p e = let z : ◌≡◌ {A = ℕ} 0 1 = cc in absurd (zero_one z)
part_inv true false false t k q p e = let z : ◌≡◌ {A = ℕ} 0 1 = cc in absurd (zero_one z)
part_inv true false true t k q p e = by (k t) refl
  where
    by : (b : Bool) → k t ≡ b → (k t ≡ true) × (p ≡ q t)
    by true h = (h, ok_inj (rw h at e))
    by false h = let f = rw h at e in let z : ◌≡◌ {A = ℕ} 0 1 = cc in absurd (zero_one z)

module _ (ws ts : List ℕ) (at : ℕ) (b : Bounded ts) (p : Parts) where
  abbrev t : ℕ
  t = number_of (base_sort ws at)

  inverted : (kind : ℕ) → ok p ≡ parts_made ws ts at kind → (eqb (type_word ts t 0) kind ≡ true) × (p ≡ record { count = word ws at 3; part = record_words ts t })
  inverted kind =
      part_inv (parts_ok (word ws at 3)) (is_other (base_sort ws at)) (is_type_read (base_sort ws at)) t (λ t. eqb (type_word ts t 0) kind)
      (λ t. record { count = word ws at 3; part = record_words ts t }) p

  pub scalar_part : ok p ≡ parts_made ws ts at scalar_kind → p.part.b ≤ 255
  scalar_part e =
      let i = inverted scalar_kind e in
      rw (ap (λ (x : Parts). x.part.b) i.1) (scalar-width ts t b (eqb-true (type_word ts t 0) scalar_kind i.0))

  pub vector_part : ok p ≡ parts_made ws ts at vector_kind → p.part.c ≤ 255
  vector_part e =
      let i = inverted vector_kind e in
      rw (ap (λ (x : Parts). x.part.c) i.1) (vector_bounds ts t b (eqb-true (type_word ts t 0) vector_kind i.0)).1

-- ---- the integer type of a constant
pub integer_missing : (ws : List ℕ) (at : ℕ) → is_constant ws at ≡ true → None ≡ integer_found ws at → ⊥
integer_missing ws at h e = true≢false (sym h ∙ sym (constant_found ws at) ∙ rw (sym e) refl)

-- ---- the alignment of a struct is positive
pub made_positive : (ws ts al : List ℕ) (at n : ℕ) (m : Members) → ok m ≡ members_made ws ts al at n → 0 < m.alignment
made_positive ws ts al at n m e = by (members_unsupported ws ts at n) (members_sound ws at n) refl refl
  where
    by : (u s : Bool) → members_unsupported ws ts at n ≡ u → members_sound ws at n ≡ s → 0 < m.alignment
    by true s g h = let f = rw g at e in let z : ◌≡◌ {A = ℕ} 0 1 = cc in absurd (zero_one z)
    by false false g h = let f = rw (g, h) at e in let z : ◌≡◌ {A = ℕ} 0 1 = cc in absurd (zero_one z)
    by false true g h = rw (ap (λ (x : Members). x.alignment) (ok_inj (rw (g, h) at e))) (largest_positive ws at al n)

-- ---- the freshness of the id, tested last
abbrev pub late : Bool → Result Typed → Result Typed
late f r = and_then r (λ y. require f 30 0 0 (ok y))

two : (p q f : Bool) (w k : ℕ) (y : ℕ → ℕ → Typed)
    → late f (and_then (require p 29 0 0 (ok w)) (λ w. and_then (require (not q) 29 0 0 (ok k)) (λ k. ok (y w k)))) ≡ judged (not p || q) f (y w k)
two false q f w k y = refl
two true true f w k y = refl
two true false f w k y = refl

first_two : (p q f : Bool) (w : ℕ) (y : ℕ → Typed)
    → late f (require (not q) 29 0 0 (and_then (require p 29 0 0 (ok w)) (λ w. ok (y w)))) ≡ judged (not p || q) f (y w)
first_two false true f w y = refl
first_two false false f w y = refl
first_two true true f w y = refl
first_two true false f w y = refl

last_two : (f b : Bool) (y : Typed) → late f (require b 30 0 0 (ok y)) ≡ judged false (f && true && b) y
last_two true true y = refl
last_two true false y = refl
last_two false true y = refl
last_two false false y = refl

of_part : (a o r f : Bool) (t : ℕ) (k : ℕ → Bool) (q : ℕ → Parts) (g : Parts → Typed)
    → late f (and_then (require a 29 0 0 (and_then (require (not o) 29 0 0 (require r 30 0 0 (ok t))) (λ t. require (k t) 30 0 0 (ok (q t))))) (λ p. ok (g p)))
    ≡ judged (not a || o) (f && r && k t) (g (q t))
of_part false o r f t k q g = refl
of_part true true r f t k q g = refl
of_part true false false true t k q g = refl
of_part true false false false t k q g = refl
of_part true false true f t k q g = by (k t) refl
  where
    by : (b : Bool) → k t ≡ b → late f (and_then (require (k t) 30 0 0 (ok (q t))) (λ p. ok (g p))) ≡ judged false (f && true && k t) (g (q t))
    by true h = rw h (last_two f true (g (q t)))
    by false h = rw h (last_two f false (g (q t)))

above : (n : ℕ) → ltb 0 n ≡ not (eqb n 0)
above n = by (eqb n 0) refl
  where
    by : (b : Bool) → eqb n 0 ≡ b → ltb 0 n ≡ not (eqb n 0)
    by true h = rw (eqb-true n 0 h) refl
    by false h = rw (h, lt-ltb 0 n (omega (arith, eqb-false n 0 h))) refl

runtime : (o r f : Bool) (strided t s : ℕ) (y : ℕ → ℕ → Typed)
    → late f (and_then (require (not o) 29 0 0 (require r 30 0 0 (ok t))) (λ b. and_then (require (not (eqb strided 0)) 30 0 0 (ok s)) (λ s. ok (y b s))))
    ≡ judged o (f && r && ltb 0 strided) (y t s)
runtime true r f n t s y = refl
runtime false false true n t s y = refl
runtime false false false n t s y = refl
runtime false true f n t s y = by (eqb n 0) refl
  where
    by : (b : Bool) → eqb n 0 ≡ b → late f (and_then (require (not (eqb n 0)) 30 0 0 (ok s)) (λ s. ok (y t s))) ≡ judged false (f && true && ltb 0 n) (y t s)
    by true h = rw (above n, h) (last_two f false (y t s))
    by false h = rw (above n, h) (last_two f true (y t s))

counted : (f a c b : Bool) (y : Typed) → late f (require (a && c && b) 30 0 0 (ok y)) ≡ judged false (f && true && a && c && b) y
counted true true true true y = refl
counted true true true false y = refl
counted true true false b y = refl
counted true false c b y = refl
counted false true true true y = refl
counted false true true false y = refl
counted false true false b y = refl
counted false false c b y = refl

array : (al : List ℕ) (o c r f : Bool) (strided long t s : ℕ)
    → late f (and_then (require (not c) 29 0 0 (ok (found long))) (λ n. and_then (require (not o) 29 0 0 (require r 30 0 0 (ok t))) (λ b. and_then (require (not (eqb strided 0)) 30 0 0 (ok s)) (λ s. counted_made al b n s))))
    ≡ judged (o || c) (f && r && ltb 0 strided && ltb 0 long && leb (long * s) most) (array_typed al t (Some long) s)
array al true true r f n l t s = refl
array al false true r f n l t s = refl
array al true false r f n l t s = refl
array al false false false true n l t s = refl
array al false false false false n l t s = refl
array al false false true f n l t s = by (eqb n 0) (eqb l 0) refl refl
  where
    by : (p q : Bool) → eqb n 0 ≡ p → eqb l 0 ≡ q
        → late f (and_then (require (not (eqb n 0)) 30 0 0 (ok s)) (λ s. counted_made al t (found l) s))
        ≡ judged false (f && true && ltb 0 n && ltb 0 l && leb (l * s) most) (array_typed al t (Some l) s)
    by true q h k = rw (above n, h) (counted f false (ltb 0 l) (leb (l * s) most) (array_typed al t (Some l) s))
    by false true h k = rw (above n, h, above l, k) (counted f true false (leb (l * s) most) (array_typed al t (Some l) s))
    by false false h k = rw (above n, h, above l, k) (counted f true true (leb (l * s) most) (array_typed al t (Some l) s))

unsound : (f b : Bool) (r : Result Typed) → err 30 0 0 ≡ require (f && false && b) 30 0 0 r
unsound true b r = refl
unsound false b r = refl

choose_late : (f b : Bool) (p q p' q' : Result Typed) → late f p ≡ p' → late f q ≡ q' → late f (pick b p q) ≡ pick b p' q'
choose_late f true p q p' q' d e = d
choose_late f false p q p' q' d e = e

module _ (ws ts ms al : List ℕ) (at : ℕ) (f : Bool) where
  abbrev s : State
  s = record { types = ts; members = ms; alignments = al }

  bool_late : late f (ok (leaf (record_of scalar_kind 3 1 0 0) 1 1)) ≡ bool_type al f
  unfolding bool_type alignment_of inner_of
  bool_late = refl

  int_late : late f (int_made ws at) ≡ int_type ws al at f
  unfolding int_type alignment_of inner_of
  int_late = two (width_ok (word ws at 2)) (ltb 1 (word ws at 3)) f (word ws at 2 / 8) (sign_kind (word ws at 3)) (λ w k. leaf (record_of scalar_kind k w 0 0) 1 w)

  float_late : late f (float_made ws at) ≡ float_type ws al at f
  unfolding float_type alignment_of inner_of
  float_late = first_two (width_ok (word ws at 2)) (ltb 3 (word_count ws at)) f (word ws at 2 / 8) (λ w. leaf (record_of scalar_kind 2 w 0 0) 1 w)

  vector_late : late f (vector_made ws ts at) ≡ vector_type ws ts al at f
  unfolding vector_type alignment_of inner_of
  vector_late =
      of_part (parts_ok (word ws at 3)) (is_other (base_sort ws at)) (is_type_read (base_sort ws at)) f (number_of (base_sort ws at))
      (λ t. eqb (type_word ts t 0) scalar_kind) (λ t. record { count = word ws at 3; part = record_words ts t })
      (λ p. leaf (record_of vector_kind p.count p.part.a p.part.b 0) (vector_alignment p.count) p.part.b)

  matrix_late : late f (matrix_made ws ts at) ≡ matrix_type ws ts al at f
  unfolding matrix_type alignment_of inner_of
  matrix_late =
      of_part (parts_ok (word ws at 3)) (is_other (base_sort ws at)) (is_type_read (base_sort ws at)) f (number_of (base_sort ws at))
      (λ t. eqb (type_word ts t 0) vector_kind) (λ t. record { count = word ws at 3; part = record_words ts t })
      (λ p. leaf (record_of 2 p.count p.part.a p.part.b p.part.c) (vector_alignment p.part.a) p.part.c)

  array_late : late f (array_made ws al at) ≡ array_type ws al at f
  unfolding array_type alignment_of inner_of
  array_late =
      array al (is_other (base_sort ws at)) (is_other (length_sort ws at)) (is_type_read (base_sort ws at)) f
      (stride_at ws at) (length_of ws (length_sort ws at)) (number_of (base_sort ws at)) (stride_of ws at)

  runtime_late : late f (runtime_array_made ws al at) ≡ runtime_array_type ws al at f
  unfolding runtime_array_type alignment_of inner_of
  runtime_late =
      runtime (is_other (base_sort ws at)) (is_type_read (base_sort ws at)) f (stride_at ws at) (number_of (base_sort ws at)) (stride_of ws at)
      (λ b s. array_typed al b None s)

  module _ (whole : length al ≡ type_number ws at) (rows : ℕ) (counts : member_count ms ≡ rows) where
    abbrev n : ℕ
    n = member_count_at ws at

    struct_late : late f (struct_made ws ts al rows at) ≡ struct_type ws s at f
    unfolding struct_type struct_alignment alignment_of inner_of
    struct_late = by (members_unsupported ws ts at n) (members_sound ws at n) refl refl
      where
        by : (u t : Bool) → members_unsupported ws ts at n ≡ u → members_sound ws at n ≡ t → late f (struct_made ws ts al rows at) ≡ struct_type ws s at f
        by true t g e = rw g refl
        by false false g e = rw (g, e) (unsound f _ _)
        by false true g e =
            rw (g, e, largest_is ws at al whole n e, counts)
            (last_two f (leb (round_up (members_seen ws ts al at n).alignment (members_seen ws ts al at n).end) most) _)

    pub type_late : (op : ℕ) → late f (type_made ws ts al rows at op) ≡ type_by ws s at op f
    unfolding type_by
    type_late op =
        choose_late f (eqb op type_bool) _ _ _ _ bool_late
        (choose_late f (eqb op type_int) _ _ _ _ int_late
        (choose_late f (eqb op type_float) _ _ _ _ float_late
        (choose_late f (eqb op type_vector) _ _ _ _ vector_late
        (choose_late f (eqb op type_matrix) _ _ _ _ matrix_late
        (choose_late f (eqb op type_array) _ _ _ _ array_late
        (choose_late f (eqb op type_runtime_array) _ _ _ _ runtime_late struct_late))))))
