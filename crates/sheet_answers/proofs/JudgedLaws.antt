-- Nothing is counted before records are judged.
-- Assumes nothing.
use mathlib.Core.Path.{◌≡◌, refl}
use mathlib.Core.List.{List}
use Prim.Native.Nat.{ℕ, ◌<◌}
use native.Mathlib.Omega.{arith}
use lib.ListN.{length, replicate, length-replicate}
use Rattle.std.specs.Prelude.{None}
use Rattle.std.specs.Prelude.{Option}
use Rattle.immediates_ranges.specs.declared.Slots.{Slots}
use Rattle.sheet_answers.specs.Judged.{no_rows, no_report}

pub no_rows_is : replicate 14336 0 ≡ no_rows
unfolding no_rows
no_rows_is = refl

pub no_report_is : replicate 2048 0 ≡ no_report
unfolding no_report
no_report_is = refl

-- the slots before anything is counted have all types
pub slots_long : (slots : List (Option Slots)) → slots ≡ replicate 1024 None → (i : ℕ) → i < 1024 → i < length slots
slots_long slots e i h = let n : length slots ≡ 1024 = rw e (length-replicate {A = Option Slots} 1024 None) in omega (arith, n, h)
