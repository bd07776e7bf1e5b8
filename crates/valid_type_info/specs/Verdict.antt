-- 01, 'The result row': verdicts (naga's LayoutCompatibility), and the rules that make them.
-- i is the type that is judged; `least` is the minimum alignment: 1 for storage verdicts, for uniform ones by the rule that the caller chose.
-- Assumes nothing.
use Rattle.std.specs.Prelude.{◌≡◌, ◌<◌, Result, MatchResult, Bool, true, ◌&&◌, ◌||◌, List, ℕ, zero, suc, ◌+◌, ◌-◌, max, eqb, leb}
use Rattle.ir_records.specs.Result.{pick}
use Rattle.ir_records.specs.Record.{member_type, member_offset}
use Rattle.ir_records.specs.declared.TypeInner.{TypeInner}
use Rattle.ir_records.specs.declared.TypeInner.TheVariants.{Plain, Array, RuntimeArray, Struct, Other}
use Rattle.proc_alignment.specs.Alignment.{is_aligned, round_up, most}
use Rattle.ir_records.specs.declared.Fault.TheVariants.{TableLength}
use Rattle.ir_records.specs.declared.Refusal.{Refusal}
use Rattle.ir_records.specs.Refusal.{refusal}
use Rattle.valid_type_info.specs.declared.Verdict.{Verdict}
use Rattle.valid_type_info.specs.declared.UniformRule.{UniformRule}
use Rattle.valid_type_info.specs.declared.UniformRule.TheVariants.{Older, Newer}
use Rattle.std.specs.Prelude.{Option}
use Rattle.valid_type_info.specs.declared.PreviousStruct.{PreviousStruct}
use Rattle.std.specs.Prelude.{None, Some}

abbrev pub min_uniform : ℕ
min_uniform = 16

abbrev pub min_storage : ℕ
min_storage = 1

-- 02, E8: the minimum alignment of uniform verdicts by the older rule, which is naga 30.0.1's, and by the newer, WGSL's
-- uniform_buffer_standard_layout, under which a uniform verdict is worked out by the storage rules
abbrev pub least_for : UniformRule → ℕ
least_for Older = min_uniform
least_for Newer = min_storage

-- the word that stands for a rule
abbrev pub rule_number : UniformRule → ℕ
rule_number Older = 0
rule_number Newer = 1

-- the rule with this word, or number 1 for a word above both
abbrev pub NamesRule : ℕ → Result UniformRule Refusal → Type 0
NamesRule word named = MatchResult named (λ rule. rule_number rule ≡ word) (λ r. (r ≡ refusal TableLength 0 0 0) × (1 < word))

-- ---- the codes. Code 0 Ok puts the alignment in the second word
abbrev pub ok_verdict : (alignment : ℕ) → Verdict
ok_verdict alignment = record { code = 0; ty = alignment; index = 0; value = 0; bound = 0 }

abbrev pub array_stride : (ty stride alignment : ℕ) → Verdict
array_stride ty stride alignment = record { code = 1; ty = ty; index = 0; value = stride; bound = alignment }

abbrev pub struct_span : (ty span alignment : ℕ) → Verdict
struct_span ty span alignment = record { code = 2; ty = ty; index = 0; value = span; bound = alignment }

abbrev pub member_offset_off : (ty index offset alignment : ℕ) → Verdict
member_offset_off ty index offset alignment = record { code = 3; ty = ty; index = index; value = offset; bound = alignment }

abbrev pub member_offset_after_struct : (ty index offset expected : ℕ) → Verdict
member_offset_after_struct ty index offset expected = record { code = 4; ty = ty; index = index; value = offset; bound = expected }

abbrev pub unsized_member : (ty index : ℕ) → Verdict
unsized_member ty index = record { code = 5; ty = ty; index = index; value = 0; bound = 0 }

abbrev pub non_host_shareable : (ty : ℕ) → Verdict
non_host_shareable ty = record { code = 6; ty = ty; index = 0; value = 0; bound = 0 }

abbrev pub is_ok : Verdict → Bool
is_ok v = eqb v.code 0

-- of a verdict that is Ok
abbrev pub alignment_in : Verdict → ℕ
alignment_in v = v.ty

-- an error that was met stays
abbrev pub unless_ok : Verdict → Verdict → Verdict
unless_ok v w = pick (is_ok v) w v

-- ---- arrays: base is the verdict of the element, whose layout alignment is `alignment`
abbrev pub stride_verdict : (i stride alignment : ℕ) → Verdict
stride_verdict i stride alignment = pick (is_aligned alignment stride) (ok_verdict alignment) (array_stride i stride alignment)

unfoldable pub array_verdict : (least i stride alignment : ℕ) → Verdict → Verdict
array_verdict least i stride alignment base = unless_ok base (stride_verdict i stride (max (max (alignment_in base) alignment) least))

-- ---- struct members. so_far is the struct's verdict after the members before; j is the member's position
-- the member's type t is not host-shareable
unfoldable pub share_verdict : (shareable : Bool) (t : ℕ) → Verdict → Verdict
share_verdict shareable t so_far = pick shareable so_far (unless_ok so_far (non_host_shareable t))

-- the offset is judged by the member's own verdict alignment
abbrev pub offset_verdict : (i j offset : ℕ) → (so_far alignment : ℕ) → Verdict
offset_verdict i j offset so_far alignment =
    pick (is_aligned alignment offset) (ok_verdict (max so_far alignment)) (member_offset_off i j offset alignment)

unfoldable pub member_verdict : (i j offset : ℕ) → (so_far member : Verdict) → Verdict
member_verdict i j offset so_far member =
    unless_ok so_far (unless_ok member (offset_verdict i j offset (alignment_in so_far) (alignment_in member)))

-- the struct that a member of this type is, for the distance of the next one
abbrev pub struct_at : TypeInner → (offset : ℕ) → Option PreviousStruct
struct_at (Plain leaf) offset = None
struct_at (Array base count stride) offset = None
struct_at (RuntimeArray base stride) offset = None
struct_at (Struct count span) offset = Some (record { span = span; offset = offset })
struct_at (Other o) offset = None

-- the member right before member j, where it is a struct
unfoldable pub previous_of : (inner : ℕ → TypeInner) (members : List ℕ) → ℕ → Option PreviousStruct
previous_of inner members zero = None
previous_of inner members (suc j) = struct_at (inner (member_type members j)) (member_offset members j)

-- the distance rule: from the start of a struct to the start of the member right after it at least its span rounded up; it overwrites.
-- By the minimum alignment of storage no distance is asked: the storage rules have none
unfoldable pub distance_verdict : (least i j offset : ℕ) → Option PreviousStruct → Verdict → Verdict
distance_verdict least i j offset None so_far = so_far
distance_verdict least i j offset (Some before) so_far =
    pick (leb least min_storage || leb (round_up least before.span) (offset - before.offset)) so_far
    (member_offset_after_struct i j offset (before.offset + round_up least before.span))

-- number 21: the sums and the difference of the distance rule that the Rust makes stay within 32 bits
unfoldable pub distance_ok : Option PreviousStruct → (offset : ℕ) → Bool
distance_ok None offset = true
distance_ok (Some before) offset =
    leb before.offset offset
    && leb (before.span + (min_uniform - 1)) most
    && (leb (round_up min_uniform before.span) (offset - before.offset) || leb (before.offset + round_up min_uniform before.span) most)

-- a member that is not sized has no place in a uniform buffer; an earlier error stays
unfoldable pub unsized_verdict : (sized : Bool) (i j : ℕ) → Verdict → Verdict
unsized_verdict sized i j so_far = pick sized so_far (unless_ok so_far (unsized_member i j))

-- ---- the span rule at the end of a struct overwrites
unfoldable pub span_verdict : (i span alignment : ℕ) → Verdict → Verdict
span_verdict i span alignment so_far = pick (is_aligned alignment span) so_far (struct_span i span alignment)
