-- What is asked of a record besides its type numbers is the same when these are renamed.
-- Assumes nothing.
use mathlib.Core.Path.{◌≡◌, refl}
use Prim.Native.Nat.{ℕ}
use Rattle.ir_records.specs.declared.NonData.{NonData}
use Rattle.ir_records.specs.declared.NonData.TheVariants.{Pointer, ValuePointer, Image, Sampler, AccelerationStructure, BindingArray}
use Rattle.ir_records.specs.declared.TypeInner.{TypeInner}
use Rattle.ir_records.specs.declared.TypeInner.TheVariants.{Plain, Array, RuntimeArray, Struct, Other}
use Rattle.proc_type_methods.specs.TypeMethods.{non_data_size}
use Rattle.valid_type_flags.specs.TypeFlags.{binding_array_of}
use Rattle.valid_type_info.specs.Verdict.{struct_at}
use Rattle.valid_member_bounds.specs.MemberBounds.{is_array}
use Rattle.place_steps.specs.Steps.{is_leaf}
use Rattle.valid_renaming.specs.Renaming.{renamed_non_data, renamed_inner}

module _ (f : ℕ → ℕ) where
  -- the size of what is no data
  pub size_renamed : (o : NonData) → non_data_size (renamed_non_data f o) ≡ non_data_size o
  size_renamed (Pointer base space) = refl
  size_renamed (ValuePointer kind width space) = refl
  size_renamed (Image dim arrayed class) = refl
  size_renamed Sampler = refl
  size_renamed (AccelerationStructure v) = refl
  size_renamed (BindingArray base form count) = refl

  -- whether it is an array
  pub is_array_renamed : (this : TypeInner) → is_array (renamed_inner f this) ≡ is_array this
  is_array_renamed (Plain leaf) = refl
  is_array_renamed (Array base count stride) = refl
  is_array_renamed (RuntimeArray base stride) = refl
  is_array_renamed (Struct count span) = refl
  is_array_renamed (Other o) = refl

  -- which struct it is, for the distance of the next member
  pub struct_at_renamed : (this : TypeInner) (offset : ℕ) → struct_at (renamed_inner f this) offset ≡ struct_at this offset
  struct_at_renamed (Plain leaf) offset = refl
  struct_at_renamed (Array base count stride) offset = refl
  struct_at_renamed (RuntimeArray base stride) offset = refl
  struct_at_renamed (Struct count span) offset = refl
  struct_at_renamed (Other o) offset = refl

  -- whether it is a leaf
  pub is_leaf_renamed : (this : TypeInner) → is_leaf (renamed_inner f this) ≡ is_leaf this
  is_leaf_renamed (Plain leaf) = refl
  is_leaf_renamed (Array base count stride) = refl
  is_leaf_renamed (RuntimeArray base stride) = refl
  is_leaf_renamed (Struct count span) = refl
  is_leaf_renamed (Other o) = refl

  -- what a binding array asks of its base
  pub base_renamed : (this : TypeInner) (flags form : ℕ) → binding_array_of (renamed_inner f this) flags form ≡ binding_array_of this flags form
  base_renamed (Plain leaf) flags form = refl
  base_renamed (Array base count stride) flags form = refl
  base_renamed (RuntimeArray base stride) flags form = refl
  base_renamed (Struct count span) flags form = refl
  base_renamed (Other (Pointer base space)) flags form = refl
  base_renamed (Other (ValuePointer kind width space)) flags form = refl
  base_renamed (Other (Image dim arrayed class)) flags form = refl
  base_renamed (Other Sampler) flags form = refl
  base_renamed (Other (AccelerationStructure v)) flags form = refl
  base_renamed (Other (BindingArray base k count)) flags form = refl
