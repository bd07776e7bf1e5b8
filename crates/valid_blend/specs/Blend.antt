-- 02, E9: the blend sources of a struct, member by member and after the last. A member's location and blend source are stored as value
-- plus one, 0 for none. `sizes` and `flags` are those of the types before type i.
-- Assumes nothing.
use Rattle.std.specs.Prelude.{Bool, true, false, not, ◌&&◌, List, ℕ, zero, suc, eqb, leb, ltb}
use Rattle.std.specs.Int.Bits.{bit_or}
use Rattle.ir_records.specs.Result.{Result, err, ok, pick, require, and_then}
use Rattle.ir_records.specs.Record.{member_type, member_offset, member_location, member_source, struct_kind}
use Rattle.ir_records.specs.declared.Words.{Words}
use Rattle.ir_records.specs.declared.Leaf.{Leaf}
use Rattle.ir_records.specs.declared.Leaf.TheVariants.{Scalar, Vector, Matrix, CooperativeMatrix, Atomic, RayQuery}
use Rattle.ir_records.specs.declared.TypeInner.{TypeInner}
use Rattle.ir_records.specs.declared.TypeInner.TheVariants.{Plain, Array, RuntimeArray, Struct, Other}
use Rattle.valid_flags.specs.Flags.{bit, starting_flags, io_shareable_bit, io_shareable_flag}
use Rattle.valid_width.specs.Width.{dual_source_blending}
use Rattle.valid_type_info.specs.Verdict.{previous_of}
use Rattle.valid_member_bounds.specs.declared.Bounds.{Bounds}
use Rattle.valid_member_bounds.specs.MemberBounds.{is_member_data, member_bounds}

-- ---- one member
-- the number plus one of the last of the first j members whose blend source is stored as this word; 0 for none
unfoldable pub source_at : (members : List ℕ) (word : ℕ) → ℕ → ℕ
source_at members word zero = 0
source_at members word (suc j) = pick (eqb (member_source members j) word) (suc j) (source_at members word j)

-- 8, and 34 with detail 1 (bad index) and 2 (collision), of member j. dual: DUAL_SOURCE_BLENDING is among the capabilities
abbrev pub source_rules : (dual : Bool) (members : List ℕ) (j : ℕ) → Result (Unit {0})
source_rules dual members j =
    require dual 8 0 dual_source_blending
    (require (eqb (member_location members j) 1 && leb (member_source members j) 2) 34 0 1
    (require (eqb (source_at members (member_source members j) j) 0) 34 0 2 (ok tt)))

-- a member without one passes
unfoldable pub source_result : (dual : Bool) (members : List ℕ) (j : ℕ) → Result (Unit {0})
source_result dual members j = pick (eqb (member_source members j) 0) (ok tt) (source_rules dual members j)

-- of the first n members, one after the other
unfoldable pub sources_after : (dual : Bool) (members : List ℕ) → ℕ → Result (Unit {0})
sources_after dual members zero = ok tt
sources_after dual members (suc j) = and_then (sources_after dual members j) (λ _. source_result dual members j)

-- the running end and the flags after j members: numbers 17 to 21, and right after 17 those of a blend source
unfoldable pub blended_after : (dual : Bool) (inner : ℕ → TypeInner) (sizes flags : ℕ → ℕ) (count span : ℕ) (members : List ℕ) → ℕ → Result Bounds
blended_after dual inner sizes flags count span members zero = ok (record { end = 0; flags = starting_flags struct_kind })
blended_after dual inner sizes flags count span members (suc j) =
    and_then (blended_after dual inner sizes flags count span members j)
    (λ b. require (is_member_data (flags (member_type members j))) 17 j 0
    (and_then (source_result dual members j)
    (λ _. member_bounds count span (previous_of inner members j) (inner (member_type members j)) (member_offset members j) j (sizes (member_type members j)) (flags (member_type members j)) b)))

-- ---- after the last member
-- member j has a location and no blend source
abbrev pub is_other : (members : List ℕ) → ℕ → Bool
is_other members j = eqb (member_source members j) 0 && ltb 0 (member_location members j)

-- one of the first j members is such
unfoldable pub other_location : (members : List ℕ) → ℕ → Bool
other_location members zero = false
other_location members (suc j) = pick (is_other members j) true (other_location members j)

-- the six words of a record that says it; what is no data is no blend source, and a struct is none that is compared
abbrev pub six_words : (kind a b c d e : ℕ) → Words
six_words kind a b c d e = record { kind = kind; a = a; b = b; c = c; d = d; e = e }

abbrev pub leaf_words : Leaf → Words
leaf_words (Scalar k w) = six_words 0 k w 0 0 0
leaf_words (Vector n k w) = six_words 1 n k w 0 0
leaf_words (Matrix columns rows k w) = six_words 2 columns rows k w 0
leaf_words (CooperativeMatrix columns rows k w role) = six_words 3 columns rows k w role
leaf_words (Atomic k w) = six_words 4 k w 0 0 0
leaf_words (RayQuery v) = six_words 12 v 0 0 0 0

abbrev pub inner_words : TypeInner → Words
inner_words (Plain leaf) = leaf_words leaf
inner_words (Array base count stride) = six_words 7 base 0 count stride 0
inner_words (RuntimeArray base stride) = six_words 7 base 1 0 stride 0
inner_words (Struct count span) = six_words 8 0 count span 0 0
inner_words (Other o) = six_words 9 0 0 0 0 0

abbrev pub same_words : Words → Words → Bool
same_words v w =
    eqb v.kind w.kind && eqb v.a w.a && eqb v.b w.b && eqb v.c w.c && eqb v.d w.d && eqb v.e w.e
    && not (eqb v.kind 8)

-- equal words, and no struct
unfoldable pub same_type : TypeInner → TypeInner → Bool
same_type x y = same_words (inner_words x) (inner_words y)

-- 34 with detail 3 (other locations), 4 (types differ), 5 (not IO-shareable); members a and b with source 0 and 1 that pass make the
-- struct IO_SHAREABLE. left: the flags that the members leave
abbrev pub pair_of : (inner : ℕ → TypeInner) (flags : ℕ → ℕ) (members : List ℕ) (other : Bool) (left a b : ℕ) → Result ℕ
pair_of inner flags members other left a b =
    require (not other) 34 0 3
    (require (same_type (inner (member_type members a)) (inner (member_type members b))) 34 0 4
    (require (bit (flags (member_type members a)) io_shareable_bit) 34 0 5
    (ok (bit_or left io_shareable_flag))))

-- detail 6 (one source missing). first, second: the members with source 0 and 1, as `source_at` numbers them
abbrev pub pair_result : (inner : ℕ → TypeInner) (flags : ℕ → ℕ) (members : List ℕ) (other : Bool) (left first second : ℕ) → Result ℕ
pair_result inner flags members other left zero zero = ok left
pair_result inner flags members other left zero (suc b) = err 34 0 6
pair_result inner flags members other left (suc a) zero = err 34 0 6
pair_result inner flags members other left (suc a) (suc b) = pair_of inner flags members other left a b

unfoldable pub struct_blend : (inner : ℕ → TypeInner) (flags : ℕ → ℕ) (members : List ℕ) (count left : ℕ) → Result ℕ
struct_blend inner flags members count left =
    pair_result inner flags members (other_location members count) left (source_at members 1 count) (source_at members 2 count)
