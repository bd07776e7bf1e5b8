-- Serves the contracts of functions inside the library: it adds nothing to what the other files say, and a reader may skip it.
-- Assumes nothing.
use Rattle.std.specs.Prelude.{◌≡◌, List, ℕ, ◌+◌, ◌≤◌, ◌<◌}
use Rattle.ir_records.specs.Result.{ok}
use Rattle.ir_records.specs.Record.{decoded, struct_members, member_type, member_offset, type_word, struct_kind}
use Rattle.ir_records.specs.Table.{table}
use Rattle.ir_records.specs.declared.TypeInner.{TypeInner}
use Rattle.ir_records.specs.Serving.{InnerBounds}
use Rattle.proc_alignment.specs.Alignment.{most}
use Rattle.proc_type_methods.specs.TypeMethods.{size_of, try_size}
use Rattle.immediates_part.specs.Part.{Part}
use Rattle.immediates_walk.specs.Parts.{no_part, part_step, members_part}

-- a type that number 4 does not refuse, with fields within their bounds: its measure fits
pub record Measured (inner : TypeInner) : Type 0 where
  pub bounds : InnerBounds inner
  pub size : try_size inner ≡ ok (size_of inner)

-- the first j members of struct ty of an arena, which stands at an offset
abbrev pub members_at : (ts ms : List ℕ) (ty offset j : ℕ) → Part
members_at ts ms ty offset j = members_part (table no_part (part_step (decoded ts ms)) ty) (struct_members ts ms ty) offset j

-- member j of struct ty is an earlier struct, and it begins within the numbers of 32 bits where ty stands at this offset
abbrev pub StopsAt : (ts ms : List ℕ) (ty offset j : ℕ) → Type 0
StopsAt ts ms ty offset j =
    let own = struct_members ts ms ty in
    (member_type own j < ty) × (offset + member_offset own j ≤ most) × (type_word ts (member_type own j) 0 ≡ struct_kind)
