-- The column step of a type, one step of its loop; bounds of a record's fields.
-- Assumes nothing.
use mathlib.Core.Path.{◌≡◌, refl, sym, ap, ◌∙◌}
use mathlib.Core.Bool.{Bool, true, false, ◌&&◌, ◌||◌}
use mathlib.Core.List.{List}
use Prim.Native.Nat.{ℕ, zero, suc, ◌+◌, ◌≤◌, ◌<◌}
use native.Mathlib.Numerals.{add-one}
use native.Mathlib.Nat.{not-suc-le-zero}
use native.Mathlib.Decide.{dec_le}
use native.Mathlib.Omega.{arith}
use lib.Dec.{eqb}
use lib.ListN.{get_or}
use borrow.Author.Tests.{ne_eqb, eqb-true}
use Rattle.std.specs.Prelude.{Option, Some, None, Result, Ok, Err, max}
use Rattle.std.specs.Option.{is_some, unwrap_or}
use Rattle.std.specs.List.{fold, list_all, range_with_len}
use Rattle.ir_records.specs.Result.{pick}
use Rattle.ir_records.specs.declared.Fault.{Fault}
use Rattle.ir_records.specs.declared.Fault.TheVariants.{ModuleType}
use Rattle.ir_records.specs.Record.{type_word, type_inner, inner_of, scalar_kind, vector_kind, matrix_kind, array_kind}
use Rattle.proc_type_methods.specs.TypeMethods.{column_step}
use Rattle.spirv_words.specs.Module.{found}
use Rattle.spirv_members.specs.Members.{member_number, column_step_in, member_unsupported, members_unsupported, member_sound, members_sound, last_end}
use Rattle.spirv_members.specs.Serving.{largest_alignment, Bounded, with_member, joined, member_given, member_found, members_seen}
use Rattle.spirv_members.specs.declared.Member.{Member}
use Rattle.spirv_members.specs.declared.Members.{Members}

module _ (ts : List ℕ) (k : ℕ) where
  module _ (left : ℕ) where
    pub step_matrix : type_word ts k 0 ≡ matrix_kind → column_step_in ts (suc left) k ≡ column_step (type_word ts k 2) (type_word ts k 4)
    unfolding column_step_in
    step_matrix e = rw e

    pub step_none : (type_word ts k 0 ≡ matrix_kind → ⊥) → (type_word ts k 0 ≡ array_kind → ⊥) → column_step_in ts (suc left) k ≡ 0
    unfolding column_step_in
    step_none m a = simp (ne_eqb (type_word ts k 0) matrix_kind m, ne_eqb (type_word ts k 0) array_kind a)

    pub step_array : type_word ts k 0 ≡ array_kind → column_step_in ts (suc left) k ≡ column_step_in ts left (type_word ts k 1)
    unfolding column_step_in
    step_array e = rw e

  pub step_last : type_word ts k 0 ≡ array_kind → column_step_in ts 1 k ≡ 0
  unfolding column_step_in
  step_last e = step_array 0 e

  -- the width of a record's leaf
  module _ (b : Bounded ts) where
    pub scalar-width : type_word ts k 0 ≡ scalar_kind → type_word ts k 2 ≤ 255
    unfolding type_inner inner_of
    scalar-width e = rw e at (b k)

    pub vector_bounds : type_word ts k 0 ≡ vector_kind → (type_word ts k 1 ≤ 4) × (type_word ts k 3 ≤ 255)
    unfolding type_inner inner_of
    vector_bounds e = rw e at (b k)

    pub matrix-width : type_word ts k 0 ≡ matrix_kind → type_word ts k 4 ≤ 255
    unfolding type_inner inner_of
    matrix-width e = (rw e at (b k)).2

-- ---- one member more
one_zero : ◌≡◌ {A = ℕ} 0 1 → ⊥
one_zero z = omega arith

pub made_ok : (u : Bool) (o m : Option Member) → ◌≡◌ {A = Result (Option Member) Fault} (Ok m) (pick u (Err ModuleType) (Ok o)) → (u ≡ false) × (m ≡ o)
made_ok true o m e = let z : ◌≡◌ {A = ℕ} 0 1 = cc in absurd (one_zero z)
made_ok false o m e = (refl, cc)

pub made_err : (u : Bool) (o : Option Member) (f : Fault) → ◌≡◌ {A = Result (Option Member) Fault} (Err f) (pick u (Err ModuleType) (Ok o)) → (u ≡ true) × (f ≡ ModuleType)
made_err true o f e = (refl, cc)
made_err false o f e = let z : ◌≡◌ {A = ℕ} 0 1 = cc in absurd (one_zero z)

or_true : (b : Bool) → (b || true) ≡ true
or_true true = refl
or_true false = refl

join_both : (ts al : List ℕ) (s t : Bool) (b : Members) (m : Member)
    → joined ts al (pick s (Some b) None) (pick t (Some m) None) ≡ pick (s && t) (Some (with_member ts al b m)) None
join_both ts al true true b m = refl
join_both ts al true false b m = refl
join_both ts al false t b m = refl

module _ (ws ts al : List ℕ) (at : ℕ) where
  pub unsupported_next : (j : ℕ) → members_unsupported ws ts at j ≡ false → member_unsupported ws ts at j ≡ false → members_unsupported ws ts at (j + 1) ≡ false
  unfolding members_unsupported
  unsupported_next j e f = rw (add-one j, e, f) refl

  pub unsupported_at : (n j : ℕ) → j < n → member_unsupported ws ts at j ≡ true → members_unsupported ws ts at n ≡ true
  unfolding members_unsupported
  unsupported_at zero j h e = absurd (not-suc-le-zero h)
  unsupported_at (suc n) j h e = by (dec_le n j) (unsupported_at n j)
    where
      by : Dec (n ≤ j) → (j < n → member_unsupported ws ts at j ≡ true → members_unsupported ws ts at n ≡ true)
          → (members_unsupported ws ts at n || member_unsupported ws ts at n) ≡ true
      by (no m) rest = rw (rest (omega (arith, m)) e) refl
      by (yes m) rest = let same : n ≡ j = omega (arith, m, h) in rw (same, e) (or_true (members_unsupported ws ts at j))

  pub seen_next : (j : ℕ) (x : Option Members) (m : Option Member) → x ≡ pick (members_sound ws at j) (Some (members_seen ws ts al at j)) None
      → m ≡ pick (member_sound ws at j) (Some (member_given ws at j)) None
      → joined ts al x m ≡ pick (members_sound ws at (j + 1)) (Some (members_seen ws ts al at (j + 1))) None
  unfolding members_sound largest_alignment last_end
  seen_next j x m e f = rw (add-one j, e, f) (join_both ts al (members_sound ws at j) (member_sound ws at j) (members_seen ws ts al at j) (member_given ws at j))

-- ---- what is said of a struct that is refused too
pub found_sound : (ws : List ℕ) (at j : ℕ) → is_some (member_found ws at j) ≡ member_sound ws at j
found_sound ws at j = by (member_sound ws at j) refl
  where
    by : (b : Bool) → member_sound ws at j ≡ b → is_some (member_found ws at j) ≡ member_sound ws at j
    by true e = rw e refl
    by false e = rw e refl

pub found_or_zero : (n : ℕ) → unwrap_or (found n) 0 ≡ n
found_or_zero n = by (eqb n 0) refl
  where
    by : (b : Bool) → eqb n 0 ≡ b → unwrap_or (found n) 0 ≡ n
    by true e = rw e (sym (eqb-true n 0 e))
    by false e = rw e refl

and_true : (b : Bool) → (b && true) ≡ b
and_true true = refl
and_true false = refl

and_next : (a b c : Bool) → (a && b && c) ≡ (a && (b && c))
and_next true b c = refl
and_next false b c = refl

module _ (ws : List ℕ) (at : ℕ) where
  sound_from : (n k : ℕ) → (members_sound ws at k && list_all (member_sound ws at) (range_with_len k n)) ≡ members_sound ws at (n + k)
  unfolding members_sound
  sound_from zero k = let none : k ≡ 0 + k = omega arith in and_true (members_sound ws at k) ∙ ap (members_sound ws at) none
  sound_from (suc n) k =
      let next : (members_sound ws at (suc k) && list_all (member_sound ws at) (range_with_len (suc k) n)) ≡ members_sound ws at (n + suc k) = sound_from n (suc k) in
      let sum : n + suc k ≡ suc n + k = omega arith in
      ap (λ (i : ℕ). members_sound ws at k && (member_sound ws at k && list_all (member_sound ws at) (range_with_len i n))) (add-one k)
      ∙ sym (and_next (members_sound ws at k) (member_sound ws at k) (list_all (member_sound ws at) (range_with_len (suc k) n)))
      ∙ next ∙ ap (members_sound ws at) sum

  pub all_sound : (n : ℕ) → list_all (member_sound ws at) (range_with_len 0 n) ≡ members_sound ws at n
  unfolding members_sound
  all_sound n = let all : n + 0 ≡ n = omega arith in sound_from n 0 ∙ ap (members_sound ws at) all

  module _ (al : List ℕ) where
    abbrev pub with_alignment : (most j : ℕ) → ℕ
    with_alignment most j = max most (get_or al (member_number ws at j) 0)

    largest_from : (n k : ℕ) → fold with_alignment (largest_alignment ws al at k) (range_with_len k n) ≡ largest_alignment ws al at (n + k)
    unfolding largest_alignment
    largest_from zero k = let none : k ≡ 0 + k = omega arith in ap (largest_alignment ws al at) none
    largest_from (suc n) k =
        let next : fold with_alignment (largest_alignment ws al at (suc k)) (range_with_len (suc k) n) ≡ largest_alignment ws al at (n + suc k) = largest_from n (suc k) in
        let sum : n + suc k ≡ suc n + k = omega arith in
        ap (λ (i : ℕ). fold with_alignment (largest_alignment ws al at (suc k)) (range_with_len i n)) (add-one k) ∙ next ∙ ap (largest_alignment ws al at) sum

    pub fold_largest : (n : ℕ) → fold with_alignment 1 (range_with_len 0 n) ≡ largest_alignment ws al at n
    unfolding largest_alignment
    fold_largest n = let all : n + 0 ≡ n = omega arith in largest_from n 0 ∙ ap (largest_alignment ws al at) all
