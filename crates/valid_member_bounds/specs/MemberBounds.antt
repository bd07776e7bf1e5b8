-- 01, 'The result row': a struct, member by member: acceptance and flags, which read no verdict. `sizes` and `flags` are those of the types
-- before type i. The verdicts are in valid_member_rules.
-- Assumes nothing.
use Rattle.std.specs.Prelude.{Bool, true, false, ◌&&◌, ◌||◌, List, ℕ, zero, suc, ◌+◌, eqb, leb}
use Rattle.std.specs.Int.Bits.{bit_and}
use Rattle.ir_records.specs.Result.{Result, ok, pick, require, and_then}
use Rattle.ir_records.specs.Record.{member_type, member_offset, struct_kind}
use Rattle.ir_records.specs.declared.TypeInner.{TypeInner}
use Rattle.ir_records.specs.declared.TypeInner.TheVariants.{Plain, Array, RuntimeArray, Struct, Other}
use Rattle.proc_alignment.specs.Alignment.{most}
use Rattle.valid_flags.specs.Flags.{bit, data_bit, sized_bit, creation_resolved_bit, starting_flags, not_host_shareable}
use Rattle.std.specs.Prelude.{Option}
use Rattle.valid_type_info.specs.declared.PreviousStruct.{PreviousStruct}
use Rattle.valid_type_info.specs.Verdict.{previous_of, distance_ok}
use Rattle.valid_member_bounds.specs.declared.Bounds.{Bounds}

abbrev pub is_array : TypeInner → Bool
is_array (Plain leaf) = false
is_array (Array base count stride) = true
is_array (RuntimeArray base stride) = true
is_array (Struct count span) = false
is_array (Other o) = false

-- offset 0 under the running end is no overlap, but costs HOST_SHAREABLE
abbrev pub member_flags : (end offset flags : ℕ) → ℕ
member_flags end offset flags = pick (leb end offset) flags (not_host_shareable flags)

-- number 17: data of a size known at shader creation
abbrev pub is_member_data : (flags : ℕ) → Bool
is_member_data flags = bit flags data_bit && bit flags creation_resolved_bit

-- number 18: at or past the running end, or at 0
abbrev pub is_apart : (end offset : ℕ) → Bool
is_apart end offset = leb end offset || eqb offset 0

-- number 20: sized, or an array that is the last member
abbrev pub is_member_sized : (flags : ℕ) (array : Bool) (j count : ℕ) → Bool
is_member_sized flags array j count = bit flags sized_bit || array && eqb (suc j) count

-- member j of `count`, of a type with this size and these flags; numbers 17 to 21 in the Rust's order. within: the distance from a struct
-- before it can be told. array: its type is an array
abbrev pub bounds_by : (count span : ℕ) (within array : Bool) (offset j size flags : ℕ) → Bounds → Result Bounds
bounds_by count span within array offset j size flags so_far =
    require (is_member_data flags) 17 j 0
    (require (is_apart so_far.end offset) 18 j 0
    (require (leb (offset + size) most) 21 j 0
    (require (leb (offset + size) span) 19 j 0
    (require within 21 j 0
    (require (is_member_sized flags array j count) 20 j 0
    (ok (record { end = offset + size; flags = member_flags so_far.end offset (bit_and so_far.flags flags) })))))))

-- by the struct before it and what the record of its type says
unfoldable pub member_bounds : (count span : ℕ) → Option PreviousStruct → TypeInner → (offset j size flags : ℕ) → Bounds → Result Bounds
member_bounds count span previous inner offset j size flags so_far =
    bounds_by count span (distance_ok previous offset) (is_array inner) offset j size flags so_far

-- the running end and the flags after j members
unfoldable pub bounds_after : (inner : ℕ → TypeInner) (sizes flags : ℕ → ℕ) (count span : ℕ) (members : List ℕ) → ℕ → Result Bounds
bounds_after inner sizes flags count span members zero = ok (record { end = 0; flags = starting_flags struct_kind })
bounds_after inner sizes flags count span members (suc j) =
    and_then (bounds_after inner sizes flags count span members j)
    (member_bounds count span (previous_of inner members j) (inner (member_type members j)) (member_offset members j) j (sizes (member_type members j)) (flags (member_type members j)))
