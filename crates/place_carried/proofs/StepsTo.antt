-- What a step leads to, from the record: the element, the member or the column of a number below the count.
-- Assumes nothing.
use mathlib.Core.Path.{◌≡◌, refl}
use mathlib.Core.List.{List}
use Prim.Native.Nat.{ℕ, ◌*◌, ◌<◌}
use borrow.Author.Tests.{lt-ltb}
use Rattle.ir_records.specs.Record.{member_type, member_offset}
use Rattle.ir_records.specs.declared.Leaf.{Leaf}
use Rattle.ir_records.specs.declared.TypeInner.TheVariants.{Plain, Array, RuntimeArray, Struct}
use Rattle.place_steps.specs.Step.{To, Column}
use Rattle.proc_type_methods.specs.TypeMethods.{leaf_column_step}
use Rattle.place_steps.specs.Columns.{column_count}
use Rattle.place_steps.specs.Steps.{step_of}

pub to_element : (base count stride : ℕ) (members : List ℕ) (e : ℕ) → e < count → step_of (Array base count stride) members e ≡ To base (e * stride)
unfolding step_of
to_element base count stride members e h = rw (lt-ltb e count h) refl

pub to_first : (base stride : ℕ) (members : List ℕ) → step_of (RuntimeArray base stride) members 0 ≡ To base (0 * stride)
unfolding step_of
to_first base stride members = refl

pub to_member : (count span : ℕ) (members : List ℕ) (j : ℕ) → j < count → step_of (Struct count span) members j ≡ To (member_type members j) (member_offset members j)
unfolding step_of
to_member count span members j h = rw (lt-ltb j count h) refl

pub to_column : (leaf : Leaf) (members : List ℕ) (s : ℕ) → s < column_count leaf → step_of (Plain leaf) members s ≡ Column (s * leaf_column_step leaf)
unfolding step_of
to_column leaf members s h = rw (lt-ltb s (column_count leaf) h) refl
