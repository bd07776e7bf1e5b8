-- 02, E1: what the two counts are held to. A byte is carried exactly where steps lead to a leaf that holds it, by the place's own definition, and
-- both counts make up what the type measures: for a struct, its span.
-- Assumes nothing.
use Rattle.std.specs.Prelude.{◌≡◌, true, false, List, ℕ, ◌+◌, ◌<◌}
use Rattle.ir_records.specs.Record.{Decoded, decoded, type_count}
use Rattle.ir_records.specs.Outcome.{Accepted}
use Rattle.proc_type_methods.specs.TypeMethods.{size_of}
use Rattle.valid_type_info.specs.declared.UniformRule.{UniformRule}
use Rattle.valid_arena.specs.Arena.{arena}
use Rattle.place_term3.specs.Term3.{row_in, InLeaf, FirstElements, StridesCover}
use Rattle.place_carried.specs.Carried.{in_leaf, carried, wasted, narrow}

-- byte k of type t lies in a leaf, one of first elements: a runtime array counts as one element
pub record InFirstLeaf (rule : UniformRule) (c : ℕ) (ts ms : List ℕ) (t k : ℕ) : Type 0 where
  pub in_leaf : InLeaf rule c ts ms t k
  pub firsts : FirstElements (decoded ts ms) t in_leaf.leaf.steps

pub record CarriedAndWasted : Type 0 where
  -- their sum equals the span
  pub both : (types : ℕ → Decoded) (t : ℕ) → carried types t + wasted types t ≡ size_of (types t).inner
  -- a byte that is counted as carried lies in a leaf, and so does no other
  pub is_leaf : (rule : UniformRule) (c : ℕ) (ts ms : List ℕ) → arena c ts ms ≡ Accepted → (t : ℕ) → t < type_count ts → (k : ℕ)
      → in_leaf (decoded ts ms) t k ≡ true → InFirstLeaf rule c ts ms t k
  pub every_leaf : (rule : UniformRule) (c : ℕ) (ts ms : List ℕ) → arena c ts ms ≡ Accepted → (t k : ℕ) → InFirstLeaf rule c ts ms t k
      → in_leaf (decoded ts ms) t k ≡ true
  -- number 27: a type is narrow just where not each array that it reaches has a stride of at least its element's size
  pub wide : (rule : UniformRule) (c : ℕ) (ts ms : List ℕ) → arena c ts ms ≡ Accepted → (t : ℕ) → t < type_count ts → narrow (decoded ts ms) t ≡ false
      → StridesCover (row_in rule c ts ms) (decoded ts ms) t
  pub not_wide : (rule : UniformRule) (c : ℕ) (ts ms : List ℕ) → arena c ts ms ≡ Accepted → (t : ℕ) → t < type_count ts → narrow (decoded ts ms) t ≡ true
      → ¬ StridesCover (row_in rule c ts ms) (decoded ts ms) t
