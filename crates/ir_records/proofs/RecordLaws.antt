-- The member rows of a struct by cases; what number 2 leaves of a record: the bounds of its fields.
-- Assumes nothing.
use Rattle.std.specs.List.{list_any, range_with_len}
use mathlib.Core.Path.{◌≡◌, refl, ap, ◌∙◌}
use mathlib.Core.Bool.{Bool, true, false, not, ◌&&◌, ◌||◌}
use mathlib.Core.List.{List, []}
use Prim.Native.Nat.{ℕ, zero, suc, ◌+◌, ◌*◌, ◌/◌, ◌%◌, ◌≤◌, ◌<◌}
use native.Mathlib.Omega.{arith}
use lib.Dec.{T, leb, eqb, leb→le, eqb→eq}
use lib.ListN.{take, drop}
use borrow.Author.Tests.{lt-ltb, le-leb, ne_eqb}
use Rattle.ir_records.specs.Result.{ok, pick, require}
use Rattle.ir_records.specs.Record.{type_words, type_word, type_count, member_count, member_words, Sourceless, struct_kind, struct_members, inner_of, type_inner}
use Rattle.ir_records.specs.Fields.{most_types, most_members, row_words, tables_fit, scalar_ok, vector_size_ok, cooperative_size_ok, fields_ok, base_within, is_unlocated, located_to, sources_located, fields_at, record_at}
use Rattle.ir_records.specs.Serving.{InnerBounds}
use Rattle.ir_records.specs.declared.TypeInner.{TypeInner}
use Rattle.ir_records.proofs.ResultLaws.{required, true_T, and_left, and_right}

module _ (ts ms : List ℕ) (i : ℕ) where
  pub members_no_struct : i < type_count ts → (type_word ts i 0 ≡ struct_kind → ⊥) → struct_members ts ms i ≡ []
  unfolding struct_members
  members_no_struct h k = rw (lt-ltb i (type_count ts) h, ne_eqb (type_word ts i 0) struct_kind k)

  pub members-part : i < type_count ts → type_word ts i 0 ≡ struct_kind → type_word ts i 1 + type_word ts i 2 ≤ member_count ms
      → struct_members ts ms i ≡ take (type_word ts i 2 * member_words) (drop (type_word ts i 1 * member_words) ms)
  unfolding struct_members
  members-part h k l = rw (lt-ltb i (type_count ts) h, k, le-leb (type_word ts i 1 + type_word ts i 2) (member_count ms) l)

-- ---- bounds: the choice by kinds is the same for the fields and for what the record says
-- (a test that holds, and bounds, as records, so that their arguments are inferred)
record Holds (b : Bool) : Type 0 where
  holds : T b

record Bounded (t : TypeInner) : Type 0 where
  bounds : InnerBounds t

along : (b : Bool) {x y : Bool} {u v : TypeInner} → (Holds x → Bounded u) → (Holds y → Bounded v) → Holds (pick b x y) → Bounded (pick b u v)
along true f g t = f t
along false f g t = g t

-- the width of a scalar in order
width_of : (k w : ℕ) → T (scalar_ok k w) → w ≤ 255
width_of k w t = leb→le w 255 (and_right (leb k 5) (leb w 255) t)

size-of : (n : ℕ) → T (vector_size_ok n) → n ≤ 4
size-of n t = leb→le n 4 (and_right (leb 2 n) (leb n 4) t)

-- the first of four tests, and the second and third
first : (p q r s : Bool) → T (p && q && r && s) → T p
first p q r s t = and_left p q (and_left (p && q) r (and_left (p && q && r) s t))

second : (p q r s : Bool) → T (p && q && r && s) → T q
second p q r s t = and_right p q (and_left (p && q) r (and_left (p && q && r) s t))

third : (p q r s : Bool) → T (p && q && r && s) → T r
third p q r s t = and_right (p && q) r (and_left (p && q && r) s t)

array_bounds : (b : Bool) {u v : TypeInner} → Bounded u → Bounded v → Bounded (pick b u v)
array_bounds true p q = p
array_bounds false p q = q

pub fields_bounds : (n k a b c d e : ℕ) → T (fields_ok n k a b c d e) → InnerBounds (inner_of k a b c d e)
unfolding fields_ok inner_of
fields_bounds n k a b c d e h =
    (by_kind (record { holds = h })).bounds
  where
    by_kind : Holds (fields_ok n k a b c d e) → Bounded (inner_of k a b c d e)
    by_kind =
        along (eqb k 0) (λ t. record { bounds = width_of a b (first (scalar_ok a b) (eqb c 0) (eqb d 0) (eqb e 0) t.holds) })
        (along (eqb k 1) (λ t. record { bounds = (size-of a (first (vector_size_ok a) (scalar_ok b c) (eqb d 0) (eqb e 0) t.holds), width_of b c (second (vector_size_ok a) (scalar_ok b c) (eqb d 0) (eqb e 0) t.holds)) })
        (along (eqb k 2) (λ t. record { bounds = (size-of a (first (vector_size_ok a) (vector_size_ok b) (scalar_ok c d) (eqb e 0) t.holds), size-of b (second (vector_size_ok a) (vector_size_ok b) (scalar_ok c d) (eqb e 0) t.holds), width_of c d (third (vector_size_ok a) (vector_size_ok b) (scalar_ok c d) (eqb e 0) t.holds)) })
        (along (eqb k 3) (λ t. record { bounds = (first (cooperative_size_ok a) (cooperative_size_ok b) (scalar_ok c d) (leb e 2) t.holds, second (cooperative_size_ok a) (cooperative_size_ok b) (scalar_ok c d) (leb e 2) t.holds, width_of c d (third (cooperative_size_ok a) (cooperative_size_ok b) (scalar_ok c d) (leb e 2) t.holds)) })
        (along (eqb k 4) (λ t. record { bounds = width_of a b (first (scalar_ok a b) (eqb c 0) (eqb d 0) (eqb e 0) t.holds) })
        (along (eqb k 5) (λ t. record { bounds = tt })
        (along (eqb k 6) (λ t. record { bounds = tt })
        (along (eqb k 7) (λ t. array_bounds (eqb b 0) (record { bounds = tt }) (record { bounds = tt }))
        (along (eqb k 8) (λ t. record { bounds = tt })
        (along (eqb k 9) (λ t. record { bounds = tt })
        (along (eqb k 10) (λ t. record { bounds = tt })
        (along (eqb k 11) (λ t. record { bounds = tt })
        (along (eqb k 12) (λ t. record { bounds = tt })
        (λ t. record { bounds = tt })))))))))))))

-- ---- number 2 of a struct's own rows
-- one number more at the end of those that are asked
pub any_last : (f : ℕ → Bool) (k n : ℕ) → list_any f (range_with_len k (suc n)) ≡ (list_any f (range_with_len k n) || f (k + n))
any_last f k zero = let z : k + 0 ≡ k = omega arith in rw z (or_none (f k))
  where
    or_none : (b : Bool) → (b || false) ≡ b
    or_none true = refl
    or_none false = refl
any_last f k (suc n) =
    let z : k + 1 + n ≡ k + suc n = omega arith in
    ap (λ (b : Bool). f k || b) (any_last f (k + 1) n ∙ ap (λ (i : ℕ). list_any f (range_with_len (k + 1) n) || f i) z)
    ∙ grouped (f k) (list_any f (range_with_len (k + 1) n)) (f (k + suc n))
  where
    grouped : (a b c : Bool) → (a || (b || c)) ≡ ((a || b) || c)
    grouped true b c = refl
    grouped false b c = refl

-- the library's search among the first n rows
pub any_unlocated : (part : List ℕ) (n : ℕ) → not (list_any (is_unlocated part) (range_with_len 0 n)) ≡ located_to part n
unfolding located_to
any_unlocated part zero = refl
any_unlocated part (suc n) =
    let z : 0 + n ≡ n = omega arith in
    ap not (any_last (is_unlocated part) 0 n ∙ ap (λ (i : ℕ). list_any (is_unlocated part) (range_with_len 0 n) || is_unlocated part i) z)
    ∙ turned (list_any (is_unlocated part) (range_with_len 0 n)) (is_unlocated part n) (any_unlocated part n)
  where
    turned : (a b : Bool) {c : Bool} → not a ≡ c → not (a || b) ≡ pick b false c
    turned true true e = refl
    turned true false e = e
    turned false true e = refl
    turned false false e = e

module _ (part : List ℕ) where
  -- rows without blend sources
  pub sourceless_located : (n : ℕ) → Sourceless part n → located_to part n ≡ true
  unfolding located_to
  sourceless_located zero none = refl
  sourceless_located (suc n) none = rw (none n (omega arith)) (sourceless_located n (λ j h. none j (omega (arith, h))))

  pub no_rows_located : part ≡ [] → sources_located part ≡ true
  unfolding located_to
  no_rows_located e = rw e refl

-- the fields of a record in order
pub record_fields : (ts ms : List ℕ) (i : ℕ) → record_at ts ms i ≡ ok tt → fields_at ts ms i ≡ ok tt
unfolding record_at
record_fields ts ms i e = (required (sources_located (struct_members ts ms i)) 2 0 0 (fields_at ts ms i) tt e).1

-- a record in order has fields within their bounds
pub record_bounds : (ts ms : List ℕ) (i : ℕ) → record_at ts ms i ≡ ok tt → InnerBounds (type_inner ts i)
unfolding type_inner
record_bounds ts ms i e =
    fields_bounds (member_count ms) (type_word ts i 0) (type_word ts i 1) (type_word ts i 2) (type_word ts i 3) (type_word ts i 4) (type_word ts i 5)
    (required
    (fields_ok (member_count ms) (type_word ts i 0) (type_word ts i 1) (type_word ts i 2) (type_word ts i 3) (type_word ts i 4) (type_word ts i 5))
    2
    0
    0
    (require (base_within (type_count ts) (type_word ts i 0) (type_word ts i 1)) 3 0 0 (ok tt))
    tt
    (record_fields ts ms i e)
    ).0

-- ---- number 1: what tables that fit have
pub record Fitting (t m r : ℕ) : Type 0 where
  pub rows : t / type_words * row_words ≤ r
  pub types : t / type_words ≤ most_types
  pub members : m / member_words ≤ most_members
  pub whole : t ≡ t / type_words * type_words
  pub whole_members : m ≡ m / member_words * member_words

pub tables_fitting : (t m r : ℕ) → tables_fit t m r ≡ true → Fitting t m r
unfolding tables_fit
tables_fitting t m r h =
    let whole = eqb (t % type_words) 0 in
    let few = leb t (most_types * type_words) in
    let whole_members = eqb (m % member_words) 0 in
    let few_members = leb m (most_members * member_words) in
    let room = leb (t / type_words * row_words) r in
    let h5 = true_T h in
    let h4 = and_left (whole && few && whole_members && few_members) room h5 in
    let h3 = and_left (whole && few && whole_members) few_members h4 in
    let h2 = and_left (whole && few) whole_members h3 in
    let a = eqb→eq (t % type_words) 0 (and_left whole few h2) in
    let b = leb→le t (most_types * type_words) (and_right whole few h2) in
    let c = eqb→eq (m % member_words) 0 (and_right (whole && few) whole_members h3) in
    let d = leb→le m (most_members * member_words) (and_right (whole && few && whole_members) few_members h4) in
    let e = leb→le (t / type_words * row_words) r (and_right (whole && few && whole_members && few_members) room h5) in
    record { rows = e; types = omega (arith, a, b); members = omega (arith, c, d); whole = omega (arith, a); whole_members = omega (arith, c) }
