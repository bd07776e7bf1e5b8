-- Laws of the given types: where the first of a sort stands, and that none is outside the arena where nothing is refused.
-- Assumes nothing.
use mathlib.Core.Path.{◌≡◌, refl}
use mathlib.Core.Bool.{Bool, true, false, ◌||◌}
use mathlib.Core.List.{List}
use Prim.Native.Nat.{ℕ, ◌-◌, ◌<◌}
use native.Mathlib.Omega.{arith}
use lib.Dec.{leb}
use lib.ListN.{length, get_or}
use borrow.Author.Tests.{leb-false}
use Rattle.ir_records.specs.Result.{pick}
use Rattle.std.specs.Prelude.{Option, Some, None}
use Rattle.order_numbers.specs.Search.{is_found}
use Rattle.order_numbers.proofs.SearchLaws.{first_least, first_none}
use Rattle.order_types.specs.Given.{outside, no_data, unsized_struct, runtime_array, sort_of, is_sort, first_of, is_second, number_of}

module _ (types rows : List ℕ) (n : ℕ) (wanted : List ℕ) where
  -- the first of a sort is one of the given
  pub first_inside : (sort j : ℕ) → first_of types rows n wanted sort 0 ≡ Some j → j < length wanted
  unfolding first_of
  first_inside sort j e =
      let r = first_least (is_sort types rows n wanted sort) (length wanted - 0) 0 j e in
      omega (arith, r.2)

  -- where none is of a sort
  no_sort : (sort : ℕ) → first_of types rows n wanted sort 0 ≡ None → (j : ℕ) → j < length wanted → is_sort types rows n wanted sort j ≡ false
  unfolding first_of
  no_sort sort e j l = first_none (is_sort types rows n wanted sort) (length wanted - 0) 0 e j (omega arith) (omega arith)

  -- each is a type of the arena, where nothing is refused
  pub none_outside : number_of types rows n wanted ≡ 0 → (j : ℕ) → j < length wanted → get_or wanted j 0 < n
  unfolding number_of sort_of
  none_outside e j l = go (first_of types rows n wanted outside 0) refl e
    where
      test : (b : Bool) → leb n (get_or wanted j 0) ≡ b → is_sort types rows n wanted outside j ≡ false → get_or wanted j 0 < n
      test true q s = let z : true ≡ false = rw q at s in let w : ◌≡◌ {A = ℕ} 0 1 = cc in absurd (omega arith)
      test false q s = leb-false n (get_or wanted j 0) q

      go : (r : Option ℕ) → first_of types rows n wanted outside 0 ≡ r
          → ◌≡◌ {A = ℕ} (pick (is_found r) 6 (pick (is_found (first_of types rows n wanted no_data 0)) 17 (pick (is_found (first_of types rows n wanted unsized_struct 0) || is_second types rows n wanted (first_of types rows n wanted runtime_array 0)) 20 0))) 0
          → get_or wanted j 0 < n
      go (Some i) q z = absurd (omega (arith, z))
      go None q z = test (leb n (get_or wanted j 0)) refl (no_sort outside q j l)
