-- 02, E8: both uniform rules refuse arenas alike, and their rows are the same but for the uniform verdict. The answer is defined by what they have in common.
-- Assumes nothing.
use mathlib.Core.Path.{◌≡◌, ap}
use Prim.Native.Nat.{ℕ}
use Rattle.ir_records.specs.Result.{ok, and_then}
use Rattle.ir_records.specs.Record.{Decoded}
use Rattle.ir_records.specs.Table.{first_refusal}
use Rattle.proc_layouter.specs.Layouter.{layout}
use Rattle.proc_layouter.proofs.TableMap.{part_value_at, part_refusal}
use Rattle.valid_type_info.specs.declared.Row.{Row}
use Rattle.valid_type_info.specs.TypeInfo.{empty_row, without_uniform}
use Rattle.valid_types.proofs.CommonLaws.{judged_common}
use Rattle.valid_arena.specs.Arena.{judge_step, judged_at, row, common_step, common_at, common}

-- ---- for any minimum alignment of uniform verdicts
module _ (least c : ℕ) (types : ℕ → Decoded) where
  -- one type
  step_common : (rows : ℕ → Row) (i : ℕ) → and_then (judge_step least c types rows i) (λ r. ok (without_uniform r)) ≡ common_step c types (λ k. without_uniform (rows k)) i
  step_common rows i = judged_common rows least c (λ k. (types k).inner) i (layout types i) (types i).inner (types i).members

  -- the first refusal is the one of what is common
  pub refused_common : (n : ℕ) → first_refusal (judged_at least c types) n ≡ first_refusal (common_at c types) n
  refused_common = part_refusal without_uniform empty_row (judge_step least c types) (common_step c types) step_common

  -- a row is what is common, and its uniform verdict
  pub row_common : (i : ℕ) → without_uniform (row least c types i) ≡ common c types i
  row_common = part_value_at without_uniform empty_row (judge_step least c types) (common_step c types) step_common

  pub row_common_size : (i : ℕ) → (row least c types i).size ≡ (common c types i).size
  row_common_size i = ap (λ (r : Row). r.size) (row_common i)

  pub row_common_flags : (i : ℕ) → (row least c types i).flags ≡ (common c types i).flags
  row_common_flags i = ap (λ (r : Row). r.flags) (row_common i)

  pub row_common_storage : (i : ℕ) → (row least c types i).storage ≡ (common c types i).storage
  row_common_storage i = ap (λ (r : Row). r.storage) (row_common i)

  pub row_common_immediates : (i : ℕ) → (row least c types i).immediates ≡ (common c types i).immediates
  row_common_immediates i = ap (λ (r : Row). r.immediates) (row_common i)
