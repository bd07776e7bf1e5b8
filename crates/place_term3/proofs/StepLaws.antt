-- What one step says where the types are accepted, and from it what a walk says: alignment, containment, order.
-- Assumes nothing.
use mathlib.Core.Path.{◌≡◌, refl, sym, ◌∙◌, ap, subst}
use mathlib.Core.Logic.{◌⊎◌, inl, inr, ⊎_elim}
use mathlib.Core.List.{List, [], ◌∷◌}
use Prim.Native.Nat.{ℕ, suc, ◌+◌, ◌*◌, ◌≤◌, ◌<◌, ◌∣◌}
use native.Mathlib.Nat.{dvd-zero, dvd_trans, dvd-add, dvd-mul_left_of_dvd, dvd-mul_left, mul-le-mul_right, mul_comm, le_refl}
use native.Mathlib.Decide.{dec_lt}
use native.Mathlib.Omega.{arith}
use lib.Dec.{T}
use Rattle.ir_records.specs.Record.{Decoded, member_type, member_offset}
use Rattle.ir_records.specs.declared.TypeInner.{TypeInner}
use Rattle.ir_records.specs.declared.TypeInner.TheVariants.{Plain, Array, RuntimeArray, Struct, Other}
use Rattle.proc_alignment.proofs.PowerLaws.{power_divides}
use Rattle.proc_type_methods.specs.TypeMethods.{leaf_column_step}
use Rattle.proc_layouter.specs.Layouter.{layout}
use Rattle.valid_flags.specs.Flags.{bit, sized_bit, host_shareable_bit}
use Rattle.valid_flags.proofs.BitLaws.{bit-and}
use Rattle.valid_type_info.specs.declared.Verdict.{Verdict}
use Rattle.valid_type_info.specs.declared.UniformRule.{UniformRule}
use Rattle.valid_type_info.specs.Verdict.{min_storage, least_for, is_ok, alignment_in}
use Rattle.valid_type_info.proofs.DistanceLaws.{least_power}
use Rattle.valid_type_info.proofs.VerdictLaws.{ArrayOk, array_ok, span_ok}
use Rattle.valid_member_bounds.specs.MemberBounds.{is_array}
use Rattle.valid_member_rules.specs.MemberRules.{storage_after}
use Rattle.valid_member_rules.proofs.MemberLaws.{storage_members}
use Rattle.valid_arena.specs.Arena.{row}
use Rattle.valid_arena.proofs.AcceptedLaws.{AcceptedTypes, ArrayRow, base_sized, array_row, runtime_array_row, member_earlier, struct_row, struct_member, row_power, plain-row}
use Rattle.place_steps.specs.Step.{Step}
use Rattle.place_steps.specs.Step.{To, Column, NoStep}
use Rattle.place_steps.specs.Columns.{column_count}
use Rattle.place_steps.specs.Steps.{step_of}
use Rattle.place_descent.specs.Place.{step_in, leaf_in}
use Rattle.place_term3.specs.Term3.{length_in, itself, element, runtime_element, member, stride_covers, StridesCover, first_element, after, FirstElements}
use Rattle.place_lookup.proofs.DescentLaws.{descent}
use Rattle.place_descent.proofs.WalkLaws.{Way, whole, column, onward, along, after_start, no_step, no_column, plain_step, array_step, runtime_array_step, struct_step, other_step, column-step, leaf_step}
use Rattle.place_term3.proofs.ColumnLaws.{reach_in, length_reach, whole_reach, columned}

-- the first, where the second is not so
unless {ℓ κ} : {A : Type ℓ} {B : Type κ} → A ⊎ B → ¬ B → A
unless (inl a) f = a
unless (inr b) f = absurd (f b)

-- what a step from type t to type ty, some bytes on, says
pub record Stepped (rule : UniformRule) (c : ℕ) (types : ℕ → Decoded) (t ty bytes : ℕ) : Type 0 where
  pub host_shareable : T (bit (row (least_for rule) c types t).flags host_shareable_bit) → T (bit (row (least_for rule) c types ty).flags host_shareable_bit)
  pub aligned : T (is_ok (row (least_for rule) c types t).storage)
      → T (is_ok (row (least_for rule) c types ty).storage)
      × (alignment_in (row (least_for rule) c types ty).storage ∣ bytes)
      × (alignment_in (row (least_for rule) c types ty).storage ∣ alignment_in (row (least_for rule) c types t).storage)
  pub covers : StridesCover (row (least_for rule) c types) types t → StridesCover (row (least_for rule) c types) types ty

-- of two steps from one type: the one to type ty, some bytes on, leads to a SIZED type that ends where the other begins, or before
record Before (rule : UniformRule) (c : ℕ) (types : ℕ → Decoded) (ty bytes bytes' : ℕ) : Type 0 where
  sized : T (bit (row (least_for rule) c types ty).flags sized_bit)
  ends : bytes + (row (least_for rule) c types ty).size ≤ bytes'

module _ (rule : UniformRule) (c : ℕ) (types : ℕ → Decoded) (n : ℕ) (acc : AcceptedTypes c types n) where
  -- ---- one step
  -- a step from an array to its base
  from_array : (t base bytes stride mask s : ℕ) → t < n → base < t → ArrayRow (least_for rule) t bytes stride mask (row (least_for rule) c types base) (row (least_for rule) c types t)
      → (StridesCover (row (least_for rule) c types) types t → StridesCover (row (least_for rule) c types) types base) → Stepped rule c types t base (s * stride)
  from_array t base bytes stride mask s l b a w =
      record {
        host_shareable = λ h. (bit-and (row (least_for rule) c types base).flags mask host_shareable_bit (rw a.flags at h)).0;
        aligned = λ k.
            let q : ArrayOk min_storage stride (row (least_for rule) c types base).alignment (row (least_for rule) c types base).storage (row (least_for rule) c types t).storage =
            subst (λ (v : Verdict). ArrayOk min_storage stride (row (least_for rule) c types base).alignment (row (least_for rule) c types base).storage v) (sym a.storage)
            (array_ok min_storage t stride (row (least_for rule) c types base).alignment (row (least_for rule) c types base).storage (subst (λ (v : Verdict). T (is_ok v)) a.storage k)) in
            let x = alignment_in (row (least_for rule) c types base).storage in
            let v = power_divides x (alignment_in (row (least_for rule) c types t).storage) ((row_power (least_for rule) c types n acc (least_power rule) base (omega arith)).storage q.base_ok) ((row_power (least_for rule) c types n acc (least_power rule) t l).storage k) (omega (arith, q.largest)) in
            (q.base_ok, dvd-mul_left_of_dvd x (dvd_trans x v q.divides) s, v);
        covers = w;
      }

  -- a step from a struct to the type of a member
  from_struct : (t : ℕ) → t < n → (count span : ℕ) → (types t).inner ≡ Struct count span → (j : ℕ) → j < count
      → Stepped rule c types t (member_type (types t).members j) (member_offset (types t).members j)
  from_struct t l count span e j lj =
      let members = (types t).members in
      let s = struct_row (least_for rule) c types n acc t l count span e in
      let m = struct_member (least_for rule) c types n acc t l count span e j lj in
      let ty = member_type members j in
      let b = member_earlier (least_for rule) c types n acc t l count span e j lj in
      let sto = storage_after (row (least_for rule) c types) t members count in
      record {
        host_shareable = λ h. m.flag host_shareable_bit (rw (s.flags host_shareable_bit refl) at h);
        aligned = λ k.
            let k₁ = subst (λ (v : Verdict). T (is_ok v)) s.storage k in
            let q = s.storage ∙ span_ok t span (layout types t).alignment sto k₁ in
            let o = storage_members (row (least_for rule) c types) t members count (subst (λ (v : Verdict). T (is_ok v)) q k) j lj in
            let x = alignment_in (row (least_for rule) c types ty).storage in
            let e : alignment_in (row (least_for rule) c types t).storage ≡ alignment_in sto = ap (λ (v : Verdict). alignment_in v) q in (
              o.ok,
              o.divides,
              power_divides x (alignment_in (row (least_for rule) c types t).storage) ((row_power (least_for rule) c types n acc (least_power rule) ty (omega (arith, b))).storage o.ok) ((row_power (least_for rule) c types n acc (least_power rule) t l).storage k) (omega (arith, o.below, e)),
            );
        covers = λ w a r. w a (member j e lj r);
      }

  -- a step, by what the record says
  step-of : (t : ℕ) → t < n → (this : TypeInner) → (types t).inner ≡ this → (s ty bytes : ℕ) → step_of this (types t).members s ≡ To ty bytes → Stepped rule c types t ty bytes
  step-of t l (Plain leaf) e s ty bytes q = plain_step leaf (types t).members s ty bytes q
  step-of t l (Array base count stride) e s ty bytes q =
      let g = array_step base count stride (types t).members s ty bytes q in
      let a = array_row (least_for rule) c types n acc t l base count stride e in
      rw (← g.1, ← g.2) (from_array t base (count * stride) stride 247 s l a.0 a.1 (λ w a r. w a (element e r)))
  step-of t l (RuntimeArray base stride) e s ty bytes q =
      let g = runtime_array_step base stride (types t).members s ty bytes q in
      let a = runtime_array_row (least_for rule) c types n acc t l base stride e in
      rw (← g.1, ← g.2) (from_array t base stride stride 149 s l a.0 a.1 (λ w a r. w a (runtime_element e r)))
  step-of t l (Struct count span) e s ty bytes q =
      let g = struct_step count span (types t).members s ty bytes q in
      rw (← g.1, ← g.2) (from_struct t l count span e s g.0)
  step-of t l (Other o) e s ty bytes q = other_step o (types t).members s ty bytes q

  -- a step from an accepted type
  pub stepped : (t : ℕ) → t < n → (s ty bytes : ℕ) → step_in types t s ≡ To ty bytes → Stepped rule c types t ty bytes
  stepped t l s ty bytes q = step-of t l (types t).inner refl s ty bytes q

  -- ---- ways
  abbrev pub WayIn : (t p : ℕ) → List ℕ → (byte leaf : ℕ) → Type 0
  WayIn = Way (step_in types) (leaf_in types)

  -- a leaf's type is one of the arena
  pub leaf_within : {steps : List ℕ} {t p byte leaf : ℕ} → WayIn t p steps byte leaf → t < n → leaf < n
  leaf_within w l =
      along (step_in types) (leaf_in types) (λ (u q : ℕ). u < n) (λ u q s ty bytes o i. omega (arith, (descent (least_for rule) c types n acc u i s ty bytes o).earlier))
      (λ u q s bytes o i. i) w l

  -- ---- alignment: a leaf's own alignment divides its place
  -- the type is one of the arena, its storage verdict is Ok and its alignment divides the place
  abbrev Held : ℕ → ℕ → Type 0
  Held t p = (t < n) × T (is_ok (row (least_for rule) c types t).storage) × (alignment_in (row (least_for rule) c types t).storage ∣ p)

  -- a step keeps that
  held_step : (t p s ty bytes : ℕ) → step_in types t s ≡ To ty bytes → Held t p → Held ty (p + bytes)
  held_step t p s ty bytes q i =
      let d = descent (least_for rule) c types n acc t i.0 s ty bytes q in
      let k = stepped t i.0 s ty bytes q in
      let v = k.aligned i.1 in
      let x = alignment_in (row (least_for rule) c types ty).storage in
      (omega (arith, d.earlier, i.0), v.0, dvd-add x (dvd_trans x v.2 i.2) v.1)

  -- and so does a step to a column: a matrix's alignment is its column step
  held_column : (t p s bytes : ℕ) → step_in types t s ≡ Column bytes → Held t p → Held t (p + bytes)
  held_column t p s bytes q i =
      let g = column-step (types t).inner (types t).members s bytes q in
      let x = alignment_in (row (least_for rule) c types t).storage in
      let e : x ≡ leaf_column_step g.0 = ap (λ (v : Verdict). alignment_in v) (plain-row (least_for rule) c types n acc t i.0 g.0 g.1).storage ∙ (columned g.0 s g.2).alignment in
      (i.0, i.1, dvd-add x i.2 (rw (← g.3, e) (dvd-mul_left (leaf_column_step g.0) s)))

  -- so a leaf stands at a multiple of its own alignment
  pub place_aligned : {t : ℕ} {steps : List ℕ} {byte leaf : ℕ} → t < n → T (is_ok (row (least_for rule) c types t).storage) → WayIn t 0 steps byte leaf
      → T (is_ok (row (least_for rule) c types leaf).storage) × (alignment_in (row (least_for rule) c types leaf).storage ∣ byte)
  place_aligned {t = t} l k w =
      let r = along (step_in types) (leaf_in types) Held held_step held_column w (l, k, dvd-zero (alignment_in (row (least_for rule) c types t).storage)) in
      (r.1, r.2)

  -- ---- containment: a step leads to a part within the type
  -- the part that a step leads to ends within the type
  within_of : (t : ℕ) → t < n → (this : TypeInner) → (types t).inner ≡ this → stride_covers (row (least_for rule) c types) this
      → (s ty bytes : ℕ) → step_of this (types t).members s ≡ To ty bytes → first_element this s → bytes + (row (least_for rule) c types ty).size ≤ (row (least_for rule) c types t).size
  within_of t l (Plain leaf) e w s ty bytes q f = plain_step leaf (types t).members s ty bytes q
  within_of t l (Array base count stride) e w s ty bytes q f =
      let g = array_step base count stride (types t).members s ty bytes q in
      let a = (array_row (least_for rule) c types n acc t l base count stride e).1.size in
      let p = mul-le-mul_right stride g.0 in
      rw (← g.1, ← g.2, a) (omega arith)
  within_of t l (RuntimeArray base stride) e w s ty bytes q f =
      let g = runtime_array_step base stride (types t).members s ty bytes q in
      let a = (runtime_array_row (least_for rule) c types n acc t l base stride e).1.size in
      rw (← g.1, ← g.2, a, f) (omega arith)
  within_of t l (Struct count span) e w s ty bytes q f =
      let g = struct_step count span (types t).members s ty bytes q in
      let a = (struct_row (least_for rule) c types n acc t l count span e).size in
      rw (← g.1, ← g.2, a) (struct_member (least_for rule) c types n acc t l count span e s g.0).within
  within_of t l (Other o) e w s ty bytes q f = other_step o (types t).members s ty bytes q

  -- a SIZED type is no runtime array, and reaches none
  not_runtime : (t : ℕ) → t < n → (this : TypeInner) → (types t).inner ≡ this → T (bit (row (least_for rule) c types t).flags sized_bit) → (s : ℕ) → first_element this s
  not_runtime t l (Plain leaf) e z s = tt
  not_runtime t l (Array base count stride) e z s = tt
  not_runtime t l (RuntimeArray base stride) e z s =
      let a = runtime_array_row (least_for rule) c types n acc t l base stride e in absurd (bit-and (row (least_for rule) c types base).flags 149 sized_bit (rw a.1.flags at z)).1
  not_runtime t l (Struct count span) e z s = tt
  not_runtime t l (Other o) e z s = tt

  -- so each list of steps from a SIZED type is one of first elements
  sized_firsts : (steps : List ℕ) (t : ℕ) → t < n → T (bit (row (least_for rule) c types t).flags sized_bit) → FirstElements types t steps
  sized_firsts [] t l z = tt
  sized_firsts (s ∷ steps) t l z = (not_runtime t l (types t).inner refl z s, go (step_in types t s) refl (λ u. sized_firsts steps u))
    where
      go : (o : Step) → step_in types t s ≡ o → ((u : ℕ) → u < n → T (bit (row (least_for rule) c types u).flags sized_bit) → FirstElements types u steps)
          → after o (λ next. FirstElements types next steps)
      go NoStep e ih = tt
      go (Column bytes) e ih = tt
      go (To ty bytes) e ih = let d = descent (least_for rule) c types n acc t l s ty bytes e in ih ty (omega (arith, d.earlier)) (d.sized z)

  -- how far a leaf of a type reaches
  abbrev pub reach : ℕ → ℕ
  reach leaf = reach_in (types leaf).inner (row (least_for rule) c types leaf).size

  -- a column that a step leads to: it is s column steps on, and reaches a column step
  record ColumnAt (t s bytes : ℕ) : Type 0 where
    step : ℕ
    count : ℕ
    below : s < count
    at : bytes ≡ s * step
    reaches : reach t ≡ step
    size : (row (least_for rule) c types t).size ≡ step * count

  column_at : (t : ℕ) → t < n → (s bytes : ℕ) → step_in types t s ≡ Column bytes → ColumnAt t s bytes
  column_at t l s bytes q =
      let g = column-step (types t).inner (types t).members s bytes q in
      let m = columned g.0 s g.2 in
      record {
        step = leaf_column_step g.0;
        count = column_count g.0;
        below = g.2;
        at = sym g.3;
        reaches = ap (λ (x : TypeInner). reach_in x (row (least_for rule) c types t).size) g.1 ∙ m.reach (row (least_for rule) c types t).size;
        size = (plain-row (least_for rule) c types n acc t l g.0 g.1).size ∙ m.size;
      }

  -- a column with the gap after it lies within the matrix
  column_inside : (t s bytes : ℕ) → ColumnAt t s bytes → bytes + reach t ≤ (row (least_for rule) c types t).size
  column_inside t s bytes m =
      let p = mul-le-mul_right m.step m.below in
      rw (m.at, m.reaches, m.size) (omega (arith, mul_comm m.step m.count))

  -- a leaf that is reached by first elements ends within the type, with the gap after it
  pub contained : {steps : List ℕ} {t p byte leaf : ℕ} → WayIn t p steps byte leaf → t < n → StridesCover (row (least_for rule) c types) types t → FirstElements types t steps
      → byte + reach leaf ≤ p + (row (least_for rule) c types t).size
  contained {t = t} {p = p} (whole e) l v f = rw (whole_reach (types t).inner e (row (least_for rule) c types t).size) (le_refl _)
  contained {t = t} {p = p} (column s bytes o) l v f = omega (arith, column_inside t s bytes (column_at t l s bytes o))
  contained {t = t} {p = p} (onward s ty bytes o w) l v f =
      let d = descent (least_for rule) c types n acc t l s ty bytes o in
      let k = stepped t l s ty bytes o in
      let i = within_of t l (types t).inner refl (v t itself) s ty bytes o f.0 in
      let r = contained w (omega (arith, d.earlier)) (k.covers v) (rw o at f.1) in
      omega arith

  -- ---- order
  -- elements of an array whose stride covers them lie one after the other
  before_array : (base stride s s' : ℕ) → s < s' → (row (least_for rule) c types base).size ≤ stride → T (bit (row (least_for rule) c types base).flags sized_bit)
      → Before rule c types base (s * stride) (s' * stride)
  before_array base stride s s' l w z = record { sized = z; ends = omega (arith, mul-le-mul_right stride l) }

  -- parts of a type that is HOST_SHAREABLE lie one after the other
  before_of : (t : ℕ) → t < n → (this : TypeInner) → (types t).inner ≡ this → T (bit (row (least_for rule) c types t).flags host_shareable_bit) → stride_covers (row (least_for rule) c types) this
      → (s s' ty bytes ty' bytes' : ℕ) → step_of this (types t).members s ≡ To ty bytes → step_of this (types t).members s' ≡ To ty' bytes' → s < s'
      → Before rule c types ty bytes bytes'
  before_of t l (Plain leaf) e o w s s' ty bytes ty' bytes' q q' lt = plain_step leaf (types t).members s ty bytes q
  before_of t l (Array base count stride) e o w s s' ty bytes ty' bytes' q q' lt =
      let g = array_step base count stride (types t).members s ty bytes q in
      let g' = array_step base count stride (types t).members s' ty' bytes' q' in
      rw (← g.1, ← g.2, ← g'.2) (before_array base stride s s' lt w (base_sized (array_row (least_for rule) c types n acc t l base count stride e).1))
  before_of t l (RuntimeArray base stride) e o w s s' ty bytes ty' bytes' q q' lt =
      let g = runtime_array_step base stride (types t).members s ty bytes q in
      let g' = runtime_array_step base stride (types t).members s' ty' bytes' q' in
      rw (← g.1, ← g.2, ← g'.2) (before_array base stride s s' lt w (base_sized (runtime_array_row (least_for rule) c types n acc t l base stride e).1))
  before_of t l (Struct count span) e o w s s' ty bytes ty' bytes' q q' lt =
      let g = struct_step count span (types t).members s ty bytes q in
      let g' = struct_step count span (types t).members s' ty' bytes' q' in
      let a = struct_row (least_for rule) c types n acc t l count span e in
      let m = struct_member (least_for rule) c types n acc t l count span e s g.0 in
      let m' = struct_member (least_for rule) c types n acc t l count span e s' g'.0 in
      let z : (T (is_array (types (member_type (types t).members s)).inner) × (suc s ≡ count)) → ⊥ = λ x. omega (arith, x.1, g'.0) in
      rw (← g.1, ← g.2, ← g'.2) (record { sized = unless m.sized_or_tail z; ends = m'.apart (rw (a.flags host_shareable_bit refl) at o) s lt })
  before_of t l (Other x) e o w s s' ty bytes ty' bytes' q q' lt = other_step x (types t).members s ty bytes q

  -- the lesser of two steps from one type leads to the lesser place
  lesser : (t p s s' ty bytes ty' bytes' : ℕ) {steps steps' : List ℕ} {byte leaf byte' leaf' : ℕ} → t < n
      → T (bit (row (least_for rule) c types t).flags host_shareable_bit) → StridesCover (row (least_for rule) c types) types t → s < s'
      → step_in types t s ≡ To ty bytes → step_in types t s' ≡ To ty' bytes'
      → WayIn ty (p + bytes) steps byte leaf → WayIn ty' (p + bytes') steps' byte' leaf'
      → byte + reach leaf ≤ byte'
  lesser t p s s' ty bytes ty' bytes' {steps = steps} l o v lt q q' w w' =
      let b = before_of t l (types t).inner refl o (v t itself) s s' ty bytes ty' bytes' q q' lt in
      let k = stepped t l s ty bytes q in
      let h : ty < n = omega (arith, (descent (least_for rule) c types n acc t l s ty bytes q).earlier) in
      let i = contained w h (k.covers v) (sized_firsts steps ty h b.sized) in
      let j = after_start (step_in types) (leaf_in types) w' in
      let x = b.ends in
      omega arith

  -- and so does the lesser of two columns
  lesser_column : (t p s s' bytes bytes' : ℕ) → t < n → s < s' → step_in types t s ≡ Column bytes → step_in types t s' ≡ Column bytes'
      → (p + bytes) + reach t ≤ p + bytes'
  lesser_column t p s s' bytes bytes' l lt q q' =
      let m = column_at t l s bytes q in
      let m' = column_at t l s' bytes' q' in
      let e : m.step ≡ m'.step = sym m.reaches ∙ m'.reaches in
      let k : suc s * m.step ≤ s' * m'.step = rw (← e) (mul-le-mul_right m.step lt) in
      omega (arith, m.at, m'.at, m.reaches)

  -- steps end at a leaf, so no list of steps goes on from where another ends
  leaf_to {ℓ} : {A : Type ℓ} (t s ty bytes : ℕ) → T (leaf_in types t) → step_in types t s ≡ To ty bytes → A
  leaf_to t s ty bytes e o = no_step ty bytes (sym (leaf_step (types t).inner (types t).members s e) ∙ o)

  leaf_column {ℓ} : {A : Type ℓ} (t s bytes : ℕ) → T (leaf_in types t) → step_in types t s ≡ Column bytes → A
  leaf_column t s bytes e o = no_column bytes (sym (leaf_step (types t).inner (types t).members s e) ∙ o)

  -- nor has a matrix steps to a type
  column_to {ℓ} : {A : Type ℓ} (t s bytes s' ty bytes' : ℕ) → step_in types t s ≡ Column bytes → step_in types t s' ≡ To ty bytes' → A
  column_to t s bytes s' ty bytes' o o' =
      let g = column-step (types t).inner (types t).members s bytes o in
      plain_step g.0 (types t).members s' ty bytes' (subst (λ (x : TypeInner). step_of x (types t).members s' ≡ To ty bytes') g.1 o')

  -- two leaves lie one after the other, each with the gap after it
  abbrev pub Apart : (byte leaf byte' leaf' : ℕ) → Type 0
  Apart byte leaf byte' leaf' = (byte + reach leaf ≤ byte') ⊎ (byte' + reach leaf' ≤ byte)

  -- two lists of steps from one type are the same, or lead to leaves that are apart
  pub disjoint : {steps steps' : List ℕ} {t p byte leaf byte' leaf' : ℕ} → WayIn t p steps byte leaf → WayIn t p steps' byte' leaf' → t < n
      → T (bit (row (least_for rule) c types t).flags host_shareable_bit) → StridesCover (row (least_for rule) c types) types t → (steps ≡ steps') ⊎ Apart byte leaf byte' leaf'
  disjoint (whole e) (whole e') l h v = inl refl
  disjoint {t = t} (whole e) (column s bytes o) l h v = leaf_column t s bytes e o
  disjoint {t = t} (whole e) (onward s ty bytes o w) l h v = leaf_to t s ty bytes e o
  disjoint {t = t} (column s bytes o) (whole e) l h v = leaf_column t s bytes e o
  disjoint {t = t} {p = p} (column s bytes o) (column s' bytes' o') l h v = go (dec_lt s s') (dec_lt s' s)
    where
      go : Dec (s < s') → Dec (s' < s) → ((s ∷ []) ≡ (s' ∷ [])) ⊎ Apart (p + bytes) t (p + bytes') t
      go (yes lt) d = inr (inl (lesser_column t p s s' bytes bytes' l lt o o'))
      go (no x) (yes lt) = inr (inr (lesser_column t p s' s bytes' bytes l lt o' o))
      go (no x) (no y) = let z : s ≡ s' = omega arith in inl (ap (λ (r : ℕ). r ∷ []) z)
  disjoint {t = t} (column s bytes o) (onward s' ty bytes' o' w) l h v = column_to t s bytes s' ty bytes' o o'
  disjoint {t = t} (onward s ty bytes o w) (whole e) l h v = leaf_to t s ty bytes e o
  disjoint {t = t} (onward s ty bytes o w) (column s' bytes' o') l h v = column_to t s' bytes' s ty bytes o' o
  disjoint {t = t} {p = p} {byte = byte} {leaf = leaf} {byte' = byte'} {leaf' = leaf'} (onward {steps = steps} s ty bytes o w) (onward {steps = steps'} s' ty' bytes' o' w') l h v =
      go (dec_lt s s') (dec_lt s' s) (λ u m f g. disjoint w u m f g)
    where
      go : Dec (s < s') → Dec (s' < s)
          → (WayIn ty (p + bytes) steps' byte' leaf' → ty < n → T (bit (row (least_for rule) c types ty).flags host_shareable_bit) → StridesCover (row (least_for rule) c types) types ty
          → (steps ≡ steps') ⊎ Apart byte leaf byte' leaf')
          → ((s ∷ steps) ≡ (s' ∷ steps')) ⊎ Apart byte leaf byte' leaf'
      go (yes lt) d ih = inr (inl (lesser t p s s' ty bytes ty' bytes' l h v lt o o' w w'))
      go (no x) (yes lt) ih = inr (inr (lesser t p s' s ty' bytes' ty bytes l h v lt o' o w' w))
      go (no x) (no y) ih =
          let z : s ≡ s' = omega arith in
          let d = descent (least_for rule) c types n acc t l s ty bytes o in
          let k = stepped t l s ty bytes o in
          let same-type : ty ≡ ty' = cc in
          let same_bytes : bytes ≡ bytes' = cc in
          ⊎_elim (λ (e : steps ≡ steps'). inl (rw (z, e) refl)) (λ a. inr a)
          (ih (rw (same-type, same_bytes) w') (omega (arith, d.earlier)) (k.host_shareable h) (k.covers v))

  -- a leaf is no longer than it reaches
  pub leaf_reaches : {steps : List ℕ} {t p byte leaf : ℕ} → WayIn t p steps byte leaf → t < n → length_in (types leaf).inner (row (least_for rule) c types leaf).size ≤ reach leaf
  leaf_reaches {leaf = leaf} w l = length_reach (types leaf).inner (acc.bounds leaf (leaf_within w l)) (row (least_for rule) c types leaf).size
