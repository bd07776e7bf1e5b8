-- 02, E7: a member of a struct in WGSL text: its attributes, its name and its type, and where the standard places it.
-- Assumes nothing.
use Rattle.std.specs.Prelude.{Bool, true, false, not, ◌&&◌, List, [], ◌∷◌, ◌++◌, Option, Some, None, Result, Ok, Err, ℕ, zero, suc, ◌+◌, max, min, leb, ltb}
use Rattle.ir_records.specs.declared.Records as counts
use Rattle.proc_alignment.specs.Alignment.{is_aligned, is_mask, round_up, most}
use Rattle.wgsl_tokens.specs.Tokens.{Token}
use Rattle.wgsl_names.specs.Names.{same, align_word, size_word}
use Rattle.wgsl_grammar.specs.Grammar.{Reading, refused, read, and_then, demand, expect, skipping, name_of, Value, number_of}
use Rattle.wgsl_placement.specs.declared.Shape.{Shape}
use Rattle.wgsl_tables.specs.Tables.{Records, is_one_of, Named}
use Rattle.wgsl_types.specs.Types.{most_depth, Closing, stopped, full, closed, type_of}
use Rattle.wgsl_members.specs.declared.Twice.{Twice}
use Rattle.wgsl_members.specs.declared.Attributes.{Attributes}

-- ---- attributes
-- the number of one of a kind, where it stands; an error where it stands twice
abbrev pub Given : Type 0
Given = Result (Option ℕ) Twice

abbrev pub attributes : (align size : Given) → Attributes
attributes align size = record { align = align; size = size }

-- one more of a kind
abbrev pub again : Given → ℕ → Given
again (Ok None) k = Ok (Some k)
again (Ok (Some j)) k = Err (record {})
again (Err x) k = Err x

pub record Attributed : Type 0 where
  pub given : Attributes
  pub rest : List Token

-- `(`, a number, perhaps a comma, `)`
unfoldable pub value_of : List Token → Reading Value
value_of ts =
    and_then (expect 40 ts) (λ ts.
    and_then (number_of ts) (λ k.
    and_then (expect 41 (skipping 44 k.rest)) (λ rest.
    read (record { value = k.value; rest = rest }))))

abbrev pub with_align : Attributes → Value → Attributed
with_align a k = record { given = attributes (again a.align k.value) a.size; rest = k.rest }

abbrev pub with_size : Attributes → Value → Attributed
with_size a k = record { given = attributes a.align (again a.size k.value); rest = k.rest }

abbrev pub attribute_named : (isAlign isSize : Bool) → Attributes → List Token → Reading Attributed
attribute_named true isSize a ts = and_then (value_of ts) (λ k. read (with_align a k))
attribute_named false true a ts = and_then (value_of ts) (λ k. read (with_size a k))
attribute_named false false a ts = refused 31

-- one of them, after its `@`
unfoldable pub attribute_of : Attributes → List Token → Reading Attributed
attribute_of a ts = and_then (name_of ts) (λ n. attribute_named (same n.name align_word) (same n.name size_word) a n.rest)

abbrev pub after_at : Reading (List Token) → Reading Attributed → (List Token → Reading Attributed) → Reading Attributed
after_at (refused n) none some = none
after_at (read ts) none some = some ts

-- any number of them: no more than left
unfoldable pub attributes_of : (left : ℕ) → Attributes → List Token → Reading Attributed
attributes_of zero a ts = read (record { given = a; rest = ts })
attributes_of (suc left) a ts =
    after_at (expect 64 ts) (read (record { given = a; rest = ts })) (λ ts. and_then (attribute_of a ts) (λ b. attributes_of left b.given b.rest))

-- '@align(k): k is positive and a power of two, and a multiple of RequiredAlignOf(T, C)', as for storage: AlignOf(T); at most once
abbrev pub align_fits : Given → Shape → Bool
align_fits (Ok None) e = true
align_fits (Ok (Some k)) e = ltb 0 k && is_mask k && is_aligned e.align k
align_fits (Err x) e = false

-- '@size(k): k is at least SizeOf(T), and T has a creation-fixed footprint'; at most once
abbrev pub size_fits : Given → Shape → Bool
size_fits (Ok None) e = true
size_fits (Ok (Some k)) e = leb e.size k && e.fixed
size_fits (Err x) e = false

abbrev pub attributes_fit : Attributes → Shape → Bool
attributes_fit a e = align_fits a.align e && size_fits a.size e

-- k where there is an attribute, else what the type has
abbrev pub given_or : Given → ℕ → ℕ
given_or (Ok None) own = own
given_or (Ok (Some k)) own = k
given_or (Err x) own = own

-- ---- the members read so far
pub record Members : Type 0 where
  pub names : List (List ℕ)
  -- OffsetOfMember(S, i) + SizeOfMember(S, i) of the last one
  pub end : ℕ
  -- max over i of AlignOfMember(S, i)
  pub align : ℕ
  -- no runtime-sized array in any of them
  pub fixed : Bool
  pub types : Records
  pub members : Records
  pub rest : List Token

-- how many type and member records there may be
abbrev pub Rooms : Type 0
Rooms = counts.Records

-- AlignOfMember(S, i): k where the member has @align(k), else AlignOf of its type
abbrev pub align_of_member : Attributes → Shape → ℕ
align_of_member a e = given_or a.align e.align

-- SizeOfMember(S, i): k where it has @size(k), else SizeOf of its type
abbrev pub size_of_member : Attributes → Shape → ℕ
size_of_member a e = given_or a.size e.size

-- OffsetOfMember(S, i) = roundUp(AlignOfMember(S, i), OffsetOfMember(S, i-1) + SizeOfMember(S, i-1))
abbrev pub offset_of_member : Members → Attributes → Shape → ℕ
offset_of_member m a e = round_up (align_of_member a e) m.end

-- type and offset, no location, no blend source. An offset above the limit, which the struct's close refuses, is written as the limit
abbrev pub member_record : Members → Attributes → Shape → List ℕ
member_record m a e = e.number ∷ min (offset_of_member m a e) most ∷ 0 ∷ 0 ∷ []

unfoldable pub with_member : Members → Attributes → (name : List ℕ) → Shape → Records → List Token → Members
with_member m a name e types rest =
    record {
      names = name ∷ m.names;
      end = offset_of_member m a e + size_of_member a e;
      align = max m.align (align_of_member a e);
      fixed = m.fixed && e.fixed;
      types = types;
      members = record { made = m.members.made + 1; words = m.members.words ++ member_record m a e };
      rest = rest;
    }

-- where the member's type closes: its attributes (33), then room for its type record and for its own (1)
abbrev pub placed : Rooms → Members → Attributes → (name : List ℕ) → Closing → Reading Members
placed rooms m a name (stopped n) = refused n
placed rooms m a name (full e) = demand (attributes_fit a e) 33 (refused 1)
placed rooms m a name (closed e types rest) =
    demand (attributes_fit a e) 33 (demand (ltb m.members.made rooms.members) 1 (read (with_member m a name e types rest)))

-- ---- a member: attributes, a name that the struct has not yet, `:`, a type
unfoldable pub typed_member : Rooms → List Named → Members → Attributes → (name : List ℕ) → List Token → Reading Members
typed_member rooms structs m a name ts = placed rooms m a name (type_of rooms.types most_depth structs m.types ts)

unfoldable pub named_member : Rooms → List Named → Members → Attributes → List Token → Reading Members
named_member rooms structs m a ts =
    and_then (name_of ts) (λ n.
    demand (not (is_one_of n.name m.names)) 32
    (and_then (expect 58 n.rest) (λ ts.
    typed_member rooms structs m a n.name ts)))

-- turns: how many attributes there may be
unfoldable pub member_of : (turns : ℕ) → Rooms → List Named → Members → Reading Members
member_of turns rooms structs m =
    and_then (attributes_of turns (attributes (Ok None) (Ok None)) m.rest) (λ a. named_member rooms structs m a.given a.rest)
