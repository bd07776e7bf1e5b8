-- 02, E8: uniform rules by language version. What rows by either rule have in common, and what a uniform verdict is by the newer.
-- Assumes nothing.
use Rattle.std.specs.Prelude.{◌≡◌, ◌⊎◌, List, ℕ, ◌<◌}
use Rattle.ir_records.specs.Record.{Decoded, decoded, type_count, member_type}
use Rattle.ir_records.specs.Fields.{row_words}
use Rattle.ir_records.specs.Table.{first_refusal}
use Rattle.ir_records.specs.Outcome.{Accepted}
use Rattle.ir_records.specs.declared.TypeInner.TheVariants.{RuntimeArray, Struct}
use Rattle.ir_rows.specs.Rows.{row_word}
use Rattle.valid_type_info.specs.declared.UniformRule.{UniformRule}
use Rattle.valid_type_info.specs.declared.UniformRule.TheVariants.{Newer}
use Rattle.valid_type_info.specs.TypeInfo.{without_uniform}
use Rattle.valid_type_info.specs.Verdict.{least_for, unless_ok, unsized_member}
use Rattle.valid_arena.specs.Arena.{judged_at, row, common_at, arena, arena_words}

-- type t is a struct, and its member j is a runtime array
pub record RuntimeMember (types : ℕ → Decoded) (t j : ℕ) : Type 0 where
  pub count : ℕ
  pub span : ℕ
  pub is_struct : (types t).inner ≡ Struct count span
  pub below : j < count
  pub base : ℕ
  pub stride : ℕ
  pub runtime : (types (member_type (types t).members j)).inner ≡ RuntimeArray base stride

pub record UniformRules : Type 0 where
  -- judged type by type, either rule refuses what the answer refuses (`arena_answer`, which names no rule)
  pub refused : (rule : UniformRule) (c : ℕ) (types : ℕ → Decoded) (n : ℕ) → first_refusal (judged_at (least_for rule) c types) n ≡ first_refusal (common_at c types) n
  -- rows by either rule have the same size, alignment, flags, storage verdict and immediates word
  pub rows : (rule rule' : UniformRule) (c : ℕ) (types : ℕ → Decoded) (t : ℕ)
      → without_uniform (row (least_for rule) c types t) ≡ without_uniform (row (least_for rule') c types t)
  -- and so the words that a call leaves for a type are the same, accepted or refused, but for words 3 to 7 of a row
  pub words : (rule rule' : UniformRule) (c : ℕ) (ts ms lent : List ℕ) (t j : ℕ) → t < type_count ts → j < row_words → (j < 3) ⊎ (7 < j)
      → row_word (arena_words rule c ts ms lent) t j ≡ row_word (arena_words rule' c ts ms lent) t j
  -- by the newer rule each uniform verdict is the storage verdict, but for structs that have a runtime-sized member
  pub newer : (c : ℕ) (ts ms : List ℕ) → arena c ts ms ≡ Accepted → (t : ℕ) → t < type_count ts → ((j : ℕ) → ¬ RuntimeMember (decoded ts ms) t j)
      → (row (least_for Newer) c (decoded ts ms) t).uniform ≡ (row (least_for Newer) c (decoded ts ms) t).storage
  -- those have code 5 where their storage verdict is Ok; an error stays
  pub runtime : (c : ℕ) (ts ms : List ℕ) → arena c ts ms ≡ Accepted → (t : ℕ) → t < type_count ts → (j : ℕ) → RuntimeMember (decoded ts ms) t j
      → (row (least_for Newer) c (decoded ts ms) t).uniform ≡ unless_ok (row (least_for Newer) c (decoded ts ms) t).storage (unsized_member t j)
