-- Serves the contracts of functions inside the library: it adds nothing to what the other files say, and a reader may skip it.
-- Assumes nothing.
use Rattle.std.specs.Prelude.{◌≡◌, not, ◌&&◌, ◌||◌, ℕ, ◌<◌, eqb}
use Rattle.std.specs.Prelude as std
use Rattle.ir_records.specs.Result.{Result, ok, require}
use Rattle.ir_records.specs.declared.Fault.TheVariants.{FieldOutside}
use Rattle.ir_records.specs.declared.TypeRefusal.{TypeRefusal}
use Rattle.ir_records.specs.Refusal.{type_refusal}
use Rattle.ir_records.specs.Fields.{most_dim, most_class}
use Rattle.valid_flags.specs.Flags.{bit}
use Rattle.valid_width.specs.Width.{allowed_with, cube_array_textures, texture_external}
use Rattle.valid_type_flags.specs.declared.ImageDimension.{ImageDimension}
use Rattle.valid_type_flags.specs.declared.ImageDimension.TheVariants as dim
use Rattle.valid_type_flags.specs.declared.ImageClass.{ImageClass}
use Rattle.valid_type_flags.specs.declared.ImageClass.TheVariants as class

-- the number of a dimension, and of a class, in a record
abbrev pub dimension_number : ImageDimension → ℕ
dimension_number dim.D1 = 0
dimension_number dim.D2 = 1
dimension_number dim.D3 = 2
dimension_number dim.Cube = 3

abbrev pub class_number : ImageClass → ℕ
class_number class.Sampled = 0
class_number class.Depth = 1
class_number class.External = 2
class_number class.Storage = 3

-- the dimension, or the class, with this number; or number 2 for a number above all of them
abbrev pub NamesDimension : ℕ → std.Result ImageDimension TypeRefusal → Type 0
NamesDimension number named = std.MatchResult named (λ d. dimension_number d ≡ number) (λ r. (r ≡ type_refusal FieldOutside 0 0) × (most_dim < number))

abbrev pub NamesClass : ℕ → std.Result ImageClass TypeRefusal → Type 0
NamesClass number named = std.MatchResult named (λ k. class_number k ≡ number) (λ r. (r ≡ type_refusal FieldOutside 0 0) × (most_class < number))

-- what image_flags asks of an arrayed image, and of an external one
abbrev pub arrayed_image : (c dim : ℕ) → Result (Unit {0})
arrayed_image c dim = require (not (eqb dim 2)) 22 0 0 (require (not (eqb dim 3) || bit c cube_array_textures) 8 0 cube_array_textures (ok tt))

abbrev pub external_image : (c dim arrayed : ℕ) → Result (Unit {0})
external_image c dim arrayed = require (eqb dim 1 && eqb arrayed 0) 22 0 0 (allowed_with (bit c texture_external) texture_external)
