-- What an id stands for at an instruction.
-- Assumes nothing.
use Rattle.std.specs.Prelude.{Option, Some, None, ℕ}
use Rattle.spirv_ids.specs.declared.Given.{Given}
use Rattle.spirv_ids.specs.declared.Given.TheVariants as given

pub data Sort : Type 0 where
  -- missing or still to come
  Unknown : Sort
  -- a type that is not read
  OtherType : Sort
  -- a type by its number
  TypeRead : (number : ℕ) → Sort
  -- an OpConstant of an integer type, by its place
  ConstantAt : (at : ℕ) → Sort

-- what the code's answer says
abbrev pub sort_said : Option Given → Sort
sort_said None = Unknown
sort_said (Some given.OtherType) = OtherType
sort_said (Some (given.TypeRead number)) = TypeRead number
sort_said (Some (given.ConstantAt at)) = ConstantAt at
