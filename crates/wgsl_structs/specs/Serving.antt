-- Serves the contracts of functions inside the library: it adds nothing to what the other files say, and a reader may skip it.
-- What the functions over positions answer, as the readings of the tokens from there on, by the code's numbers and the words of its tables.
-- Assumes nothing.
use Rattle.std.specs.Prelude.{◌≡◌, List, ℕ, ◌+◌, ◌*◌, ◌≤◌, length, take, drop, Option, Some, None, Result, Ok, Err}
use Rattle.ir_records.specs.Record.{type_words, member_words}
use Rattle.ir_records.specs.Refusal.{number_of}
use Rattle.program_words.specs.declared.Span.{Span}
use Rattle.wgsl_tokens.specs.Tokens.{from}
use Rattle.wgsl_grammar.specs.Grammar.{Reading, refused, read}
use Rattle.wgsl_grammar.specs.declared.Refusal.{Refusal}
use Rattle.wgsl_tables.specs.Tables.{records_in, name_in, structs_in}
use Rattle.wgsl_tables.specs.declared.NamedShape.{NamedShape}
use Rattle.wgsl_types.specs.Serving.{Room}
use Rattle.wgsl_members.specs.Members.{Members, Rooms}
use Rattle.wgsl_members.specs.Serving.{Tables, tables, members_in, Bounds, Kept}
use Rattle.wgsl_members.specs.declared.Body.{Body}
use Rattle.wgsl_structs.specs.Structs.{MemberEnd, stops, closes, goes, Declared, Declaration, finished, wrong, further, close_struct}
use Rattle.std.specs.declared.ops.ControlFlow.{ControlFlow}
use Rattle.std.specs.declared.ops.ControlFlow.TheVariants.{Break, Continue}
use Rattle.wgsl_types.specs.declared.End.{End}
use Rattle.wgsl_structs.specs.declared.MembersAt.{MembersAt}
use Rattle.wgsl_structs.specs.declared.State.{State}

abbrev pub end_read : List ℕ → Result (ControlFlow End ℕ) Refusal → MemberEnd
end_read s (Ok (Break end)) = closes (from s end.at)
end_read s (Ok (Continue at)) = goes (from s at)
end_read s (Err r) = stops (number_of r.fault)

abbrev pub MembersRead : List ℕ → Rooms → (was is : Tables) → (before : Body) → Reading Members → Result MembersAt Refusal → Type 0
MembersRead s r was is before m (Ok x) = (m ≡ read (members_in s is x.body)) × Bounds r is x.body × Kept was is before x.body
MembersRead s r was is before m (Err x) = m ≡ refused (number_of x.fault)

-- ---- what was declared so far: the tables of structs beside those of members
pub record Declarations : Type 0 where
  pub structs : List NamedShape
  pub names : List Span
  pub types : List ℕ
  pub members : List ℕ

abbrev pub declarations : List NamedShape → List Span → (types members : List ℕ) → Declarations
declarations structs names types members = record { structs = structs; names = names; types = types; members = members }

abbrev pub declared_in : List ℕ → Declarations → State → Declared
declared_in s t d =
    record {
      types = records_in type_words t.types d.made.types;
      members = records_in member_words t.members d.made.members;
      structs = structs_in s (take d.structs t.structs);
      rest = from s d.at;
    }

-- each struct has a type record, so the tables of structs have room for as many as there may be types
pub record StateBounds (r : Rooms) (t : Declarations) (d : State) : Type 0 where
  pub types : Room r.types d.made.types t.types
  pub made : d.made.members ≤ r.members
  pub room : r.members ≤ 4096
  pub words : r.members * member_words ≤ length t.members
  pub fewer : d.structs ≤ d.made.types
  pub structs : 1024 ≤ length t.structs
  pub named : 4096 ≤ length t.names

pub record StateKept (was is : Declarations) (before after : State) : Type 0 where
  pub more-types : before.made.types ≤ after.made.types
  pub types : drop (after.made.types * type_words) is.types ≡ drop (after.made.types * type_words) was.types
  pub more-members : before.made.members ≤ after.made.members
  pub members : drop (after.made.members * member_words) is.members ≡ drop (after.made.members * member_words) was.members

abbrev pub StructRead : List ℕ → Rooms → (was is : Declarations) → (before : State) → Reading Declared → Result State Refusal → Type 0
StructRead s r was is before d (Ok after) = (d ≡ read (declared_in s is after)) × StateBounds r is after × StateKept was is before after
StructRead s r was is before d (Err x) = d ≡ refused (number_of x.fault)

-- ---- a struct that closes, in the tables of structs and of type records, whatever the text and the other tables are
pub record Closable (structs : List NamedShape) (types : List ℕ) (room : ℕ) (d : State) (b : Body) : Type 0 where
  pub room-types : Room room b.made.types types
  pub members : d.made.members ≤ b.made.members
  pub fewer : d.structs ≤ b.made.types
  pub names : 1024 ≤ length structs
  pub end : b.end ≤ 35184372088832

abbrev pub ClosedIn : (structs structs-now : List NamedShape) (types types-now : List ℕ) (room : ℕ) (d : State) (b : Body) (name : Span) → Result State Refusal → Type 0
ClosedIn structs structs-now types types-now room d b name (Ok after) =
    ((s members : List ℕ) (names : List Span) (rows : ℕ) →
    close_struct (record { types = room; members = rows }) (declared_in s (declarations structs names types members) d) (name_in s name.start name.end) (members_in s (tables names types members) b)
    ≡ read (declared_in s (declarations structs-now names types-now members) after))
    × (after.structs ≡ d.structs + 1)
    × (after.made.types ≡ b.made.types + 1)
    × (after.made.types ≤ room)
    × (after.made.members ≡ b.made.members)
    × (drop (after.made.types * type_words) types-now ≡ drop (after.made.types * type_words) types)
ClosedIn structs structs-now types types-now room d b name (Err x) =
    (s members : List ℕ) (names : List Span) (rows : ℕ) →
    close_struct (record { types = room; members = rows }) (declared_in s (declarations structs names types members) d) (name_in s name.start name.end) (members_in s (tables names types members) b)
    ≡ refused (number_of x.fault)

-- ---- a declaration
abbrev pub first : State
first = record { structs = 0; made = record { types = 0; members = 0 }; at = 0 }

abbrev pub DeclarationRead : List ℕ → Rooms → (was is : Declarations) → (before : State) → Declaration → Result (Option State) Refusal → Type 0
DeclarationRead s r was is before d (Ok None) = (d ≡ finished) × (is ≡ was)
DeclarationRead s r was is before d (Ok (Some next)) = (d ≡ further (declared_in s is next)) × StateBounds r is next × StateKept was is before next
DeclarationRead s r was is before d (Err x) = d ≡ wrong (number_of x.fault)
