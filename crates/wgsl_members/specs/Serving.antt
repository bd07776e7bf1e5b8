-- Serves the contracts of functions inside the library: it adds nothing to what the other files say, and a reader may skip it.
-- What the functions over positions answer, as the readings of the tokens from there on. The members read so far, by the code's numbers and the words
-- of its tables.
-- Assumes nothing.
use Rattle.std.specs.Prelude.{◌≡◌, true, false, List, ℕ, ◌+◌, ◌*◌, ◌≤◌, ◌<◌, length, take, drop, Result, Ok, Err}
use Rattle.ir_records.specs.Record.{type_words, member_words}
use Rattle.ir_records.specs.Refusal.{number_of}
use Rattle.program_words.specs.declared.Span.{Span}
use Rattle.wgsl_tokens.specs.Tokens.{from}
use Rattle.wgsl_grammar.specs.Grammar.{Reading, refused, read}
use Rattle.wgsl_grammar.specs.declared.Refusal.{Refusal}
use Rattle.wgsl_placement.specs.declared.Shape.{Shape}
use Rattle.wgsl_tables.specs.Tables.{records_in, name_in, names_in}
use Rattle.wgsl_types.specs.Serving.{Room}
use Rattle.wgsl_members.specs.Members.{attributes_fit, align_of_member, size_of_member, Attributed, Members, Rooms, with_member}
use Rattle.wgsl_members.specs.declared.Fit.{Fit}
use Rattle.wgsl_types.specs.declared.Unclosed.{Unclosed}
use Rattle.wgsl_types.specs.declared.Unclosed.TheVariants.{Refused as RefusedType, Full}
use Rattle.ir_records.specs.Result.{pick}
use Rattle.wgsl_members.specs.declared.Attributes.{Attributes}
use Rattle.wgsl_members.specs.declared.AttributesAt.{AttributesAt}
use Rattle.wgsl_members.specs.declared.Body.{Body}

abbrev pub attributes_read : List ℕ → Result AttributesAt Refusal → Reading Attributed
attributes_read s (Ok a) = read (record { given = a.attributes; rest = from s a.at })
attributes_read s (Err r) = refused (number_of r.fault)

-- a member's alignment and size with its attributes, or that one of them does not fit
abbrev pub Fits : Attributes → Shape → Result Fit Refusal → Type 0
Fits a e (Ok f) = (attributes_fit a e ≡ true) × (f.align ≡ align_of_member a e) × (f.size ≡ size_of_member a e)
Fits a e (Err r) = (attributes_fit a e ≡ false) × (number_of r.fault ≡ 33)

-- a type that is refused, or that has closed with no room for its record: the attributes are tested first
abbrev pub Unplaced : Attributes → Unclosed → Refusal → Type 0
Unplaced a (RefusedType q) r = r ≡ q
Unplaced a (Full e close) r = number_of r.fault ≡ pick (attributes_fit a e) 1 33

-- the three tables that a member fills
pub record Tables : Type 0 where
  pub names : List Span
  pub types : List ℕ
  pub members : List ℕ

abbrev pub tables : List Span → (types members : List ℕ) → Tables
tables names types members = record { names = names; types = types; members = members }

abbrev pub members_in : List ℕ → Tables → Body → Members
members_in s t b =
    record {
      names = names_in s (take b.names t.names);
      end = b.end;
      align = b.align;
      fixed = b.fixed;
      types = records_in type_words t.types b.made.types;
      members = records_in member_words t.members b.made.members;
      rest = from s b.at;
    }

-- the tables have room; each member adds less than 2 ^ 33 bytes
pub record Bounds (r : Rooms) (t : Tables) (b : Body) : Type 0 where
  pub types : Room r.types b.made.types t.types
  pub made : b.made.members ≤ r.members
  pub room : r.members ≤ 4096
  pub words : r.members * member_words ≤ length t.members
  pub fewer : b.names ≤ b.made.members
  pub named : 4096 ≤ length t.names
  pub end : b.end ≤ b.names * 8589934592

-- behind the records nothing changes
pub record Kept (was is : Tables) (before after : Body) : Type 0 where
  pub more-types : before.made.types ≤ after.made.types
  pub types : drop (after.made.types * type_words) is.types ≡ drop (after.made.types * type_words) was.types
  pub more-members : before.made.members ≤ after.made.members
  pub members : drop (after.made.members * member_words) is.members ≡ drop (after.made.members * member_words) was.members

abbrev pub MemberRead : List ℕ → Rooms → (was is : Tables) → (before : Body) → Reading Members → Result Body Refusal → Type 0
MemberRead s r was is before m (Ok after) = (m ≡ read (members_in s is after)) × Bounds r is after × Kept was is before after
MemberRead s r was is before m (Err x) = m ≡ refused (number_of x.fault)

-- ---- one more member, in the tables of names and of member records
pub record Placeable (names : List Span) (members : List ℕ) (b : Body) : Type 0 where
  pub named : b.names < 4096
  pub made : b.made.members < 4096
  pub name_room : 4096 ≤ length names
  pub room : b.made.members * member_words + member_words ≤ length members
  pub end : b.end ≤ b.names * 8589934592

-- whatever the text and the type words are
pub record PlacedIn (names names-now : List Span) (members members-now : List ℕ) (b : Body) (a : Attributes) (e : Shape) (types : ℕ) (name : Span) (at : ℕ) (r : Body) : Type 0 where
  pub is : (s words : List ℕ) → members_in s (tables names-now words members-now) r ≡ with_member (members_in s (tables names words members) b) a (name_in s name.start name.end) e (records_in type_words words types) (from s at)
  pub types_made : r.made.types ≡ types
  pub members_made : r.made.members ≡ b.made.members + 1
  pub named : r.names ≡ b.names + 1
  pub end_within : r.end ≤ r.names * 8589934592
  pub behind : drop (r.made.members * member_words) members-now ≡ drop (r.made.members * member_words) members
