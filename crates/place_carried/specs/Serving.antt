-- Serves the contracts of functions inside the library: it adds nothing to what the other files say, and a reader may skip it.
-- Assumes nothing.
use Rattle.std.specs.Prelude.{ℕ, ◌*◌}
use Rattle.ir_records.specs.Result.{pick}
use Rattle.ir_records.specs.declared.Leaf.{Leaf}
use Rattle.place_steps.specs.Columns.{is_whole, column_count, leaf_length}

-- ---- the carried bytes as sums of the leaves' lengths: what the code works out
abbrev pub leaf_carried : Leaf → (size : ℕ) → ℕ
leaf_carried leaf size = pick (is_whole leaf) size (column_count leaf * leaf_length leaf size)
