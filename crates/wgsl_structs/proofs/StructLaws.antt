-- Laws of the reading of structs: members and declarations one by one, what is kept over several, and a struct in the tables. Assumes nothing.
use mathlib.Core.Path.{◌≡◌, refl, ap, ◌∙◌}
use mathlib.Core.Bool.{true}
use mathlib.Core.List.{List}
use Prim.Native.Nat.{ℕ, suc, ◌+◌, ◌-◌, ◌*◌, ◌≤◌, ◌<◌}
use native.Mathlib.Omega.{arith}
use lib.ListN.{length, set, take}
use Rattle.std.proofs.lemmas.List.{take_more_set}
use Rattle.ir_records.specs.Record.{type_words, member_words}
use Rattle.ir_rows.specs.Rows.{with_part}
use Rattle.ir_rows.proofs.RowLaws.{drop_later}
use Rattle.proc_alignment.specs.Alignment.{round_up}
use Rattle.wgsl_tokens.specs.Tokens.{from}
use Rattle.std.specs.Prelude.{Result, Ok, Err}
use Rattle.program_words.specs.declared.Span.{Span}
use Rattle.wgsl_grammar.specs.declared.Refusal.{Refusal}
use Rattle.wgsl_grammar.specs.Grammar.{refused, read, and_then}
use Rattle.wgsl_placement.specs.Placement.{shape, words_of, struct_record}
use Rattle.wgsl_placement.specs.declared.Shape.{Shape}
use Rattle.wgsl_tables.specs.Tables.{name_in, names_in, structs_in, Named}
use Rattle.wgsl_tables.specs.declared.NamedShape.{NamedShape}
use Rattle.wgsl_tables.proofs.TableLaws.{one_struct, one_record}
use Rattle.wgsl_members.specs.Members.{Members, Rooms, member_of}
use Rattle.wgsl_members.specs.Serving.{Tables, tables, members_in, Bounds, Kept}
use Rattle.wgsl_members.specs.declared.Body.{Body}
use Rattle.wgsl_structs.specs.Structs.{member_end, after_member, members_of, Declared, with_struct, close_struct, struct_body, declaration_of, after_declaration, declarations_of}
use Rattle.wgsl_structs.specs.Serving.{Declarations, declarations, declared_in, StateBounds, StateKept, StructRead, ClosedIn}
use Rattle.wgsl_structs.specs.declared.State.{State}

-- ---- one member, one declaration
pub members_step : (turns count turn : ℕ) (r : Rooms) (structs : List Named) (m : Members) → turn < count
    → members_of turns (count - turn) r structs m
    ≡ and_then (member_of turns r structs m) (λ m. after_member (member_end m.rest) m (λ m. members_of turns (count - (turn + 1)) r structs m))
unfolding members_of
members_step turns count turn r structs m h = let one : count - turn ≡ suc (count - (turn + 1)) = omega arith in ap (λ (k : ℕ). members_of turns k r structs m) one

pub declarations_step : (turns count turn : ℕ) (r : Rooms) (d : Declared) → turn < count
    → declarations_of turns (count - turn) r d
    ≡ after_declaration (declaration_of turns r d d.rest) d (λ next. declarations_of turns (count - (turn + 1)) r next)
unfolding declarations_of
declarations_step turns count turn r d h = let one : count - turn ≡ suc (count - (turn + 1)) = omega arith in ap (λ (k : ℕ). declarations_of turns k r d) one

-- ---- the same members, where the text goes on elsewhere
abbrev pub at_position : Body → ℕ → Body
at_position b at = record { names = b.names; end = b.end; align = b.align; fixed = b.fixed; made = b.made; at = at }

pub bounds-at : (r : Rooms) (t : Tables) (b : Body) (at : ℕ) → Bounds r t b → Bounds r t (at_position b at)
bounds-at r t b at h =
    record { types = h.types; made = h.made; room = h.room; words = h.words; fewer = h.fewer; named = h.named; end = h.end }

pub kept_at : (was is : Tables) (a b : Body) (at : ℕ) → Kept was is a b → Kept was is a (at_position b at)
kept_at was is a b at h =
    record { more-types = h.more-types; types = h.types; more-members = h.more-members; members = h.members }

-- ---- kept over two
pub kept_both : (was mid is : Tables) (a b c : Body) → Kept was mid a b → Kept mid is b c → Kept was is a c
kept_both was mid is a b c g h =
    record {
      more-types = omega (arith, g.more-types, h.more-types);
      types = h.types ∙ drop_later mid.types was.types (b.made.types * type_words) (c.made.types * type_words) g.types (omega (arith, h.more-types));
      more-members = omega (arith, g.more-members, h.more-members);
      members = h.members ∙ drop_later mid.members was.members (b.made.members * member_words) (c.made.members * member_words) g.members (omega (arith, h.more-members));
    }

pub state_both : (was mid is : Declarations) (a b c : State) → StateKept was mid a b → StateKept mid is b c → StateKept was is a c
state_both was mid is a b c g h =
    record {
      more-types = omega (arith, g.more-types, h.more-types);
      types = h.types ∙ drop_later mid.types was.types (b.made.types * type_words) (c.made.types * type_words) g.types (omega (arith, h.more-types));
      more-members = omega (arith, g.more-members, h.more-members);
      members = h.members ∙ drop_later mid.members was.members (b.made.members * member_words) (c.made.members * member_words) g.members (omega (arith, h.more-members));
    }

-- ---- no member yet
abbrev pub first_body : State → (at : ℕ) → Body
first_body d at = record { names = 0; end = 0; align = 1; fixed = true; made = d.made; at = at }

-- ---- a struct in the tables
-- of what was declared before, only the structs and the number of members count
pub close_alike : (r : Rooms) (s : List ℕ) (structs : List NamedShape) (n : List Span) (t m : List ℕ) (n' : List Span) (t' m' : List ℕ) (d : State) (name : List ℕ) (b : Members)
    → close_struct r (declared_in s (declarations structs n t m) d) name b ≡ close_struct r (declared_in s (declarations structs n' t' m') d) name b
unfolding with_struct
close_alike r s structs n t m n' t' m' d name b = refl

module _ (s : List ℕ) (structs : List NamedShape) (names : List Span) (types members : List ℕ) (d : State) (b : Body) (name : Span) where
  abbrev pub span : ℕ
  span = round_up b.align b.end

  abbrev pub struct_shape : Shape
  struct_shape = shape b.made.types span b.align b.fixed

  abbrev pub next_state : State
  next_state = record { structs = d.structs + 1; made = record { types = b.made.types + 1; members = b.made.members }; at = b.at }

  pub struct_is : d.structs < length structs → b.made.types * type_words + type_words ≤ length types
      → declared_in s (
      declarations (set structs d.structs (record { name = name; shape = struct_shape }))
      names (with_part type_words types (b.made.types * type_words) (words_of (struct_record d.made.members (b.made.members - d.made.members) span))) members) next_state
      ≡ with_struct (declared_in s (declarations structs names types members) d) (name_in s name.start name.end) (members_in s (tables names types members) b)
  unfolding with_struct
  struct_is named room =
      rw (
        take_more_set structs d.structs (record { name = name; shape = struct_shape }) named,
        one_struct s (take d.structs structs) (record { name = name; shape = struct_shape }),
        one_record type_words types (words_of (struct_record d.made.members (b.made.members - d.made.members) span)) b.made.types refl room,
      )

-- ---- a struct from its members on
module _ (turns : ℕ) (r : Rooms) (s : List ℕ) (t : Declarations) (d : State) (name : List ℕ) (at : ℕ) where
  pub body_stopped : (n : ℕ)
      → members_of turns turns r (structs_in s (take d.structs t.structs)) (members_in s (tables t.names t.types t.members) (first_body d at)) ≡ refused n
      → struct_body turns r (declared_in s t d) name (from s at) ≡ refused n
  unfolding struct_body names_in
  body_stopped n e = rw e

  pub body_closed : (m : Members)
      → members_of turns turns r (structs_in s (take d.structs t.structs)) (members_in s (tables t.names t.types t.members) (first_body d at)) ≡ read m
      → struct_body turns r (declared_in s t d) name (from s at) ≡ close_struct r (declared_in s t d) name m
  unfolding struct_body names_in
  body_closed m e = rw e

module _ (s : List ℕ) (r : Rooms) (structs structs-now : List NamedShape) (names names-now : List Span) (types mid types-now members members-now : List ℕ)
    (d : State) (b : Body) (name : Span) (at : ℕ)
    (bounds : StateBounds r (declarations structs names types members) d)
    (members-read : members_of (length s) (length s) r (structs_in s (take d.structs structs)) (members_in s (tables names types members) (first_body d at))
    ≡ read (members_in s (tables names-now mid members-now) b))
    (body-bounds : Bounds r (tables names-now mid members-now) b)
    (kept : Kept (tables names types members) (tables names-now mid members-now) (first_body d at) b)
    (long-structs : length structs-now ≡ length structs) (long-types : length types-now ≡ length mid) where
  same_close : close_struct r (declared_in s (declarations structs names types members) d) (name_in s name.start name.end) (members_in s (tables names-now mid members-now) b)
      ≡ close_struct r (declared_in s (declarations structs names-now mid members-now) d) (name_in s name.start name.end) (members_in s (tables names-now mid members-now) b)
  same_close = close_alike r s structs names types members names-now mid members-now d (name_in s name.start name.end) (members_in s (tables names-now mid members-now) b)

  pub struct_read : (x : Result State Refusal) → ClosedIn structs structs-now mid types-now r.types d b name x
      → StructRead s r (declarations structs names types members) (declarations structs-now names-now types-now members-now) d
      (struct_body (length s) r (declared_in s (declarations structs names types members) d) (name_in s name.start name.end) (from s at)) x
  struct_read (Ok after) c =
      let own = bounds.types in
      let body-types = body-bounds.types in (
        body_closed (length s) r s (declarations structs names types members) d (name_in s name.start name.end) at (members_in s (tables names-now mid members-now) b) members-read
            ∙ same_close ∙ c.0 s members-now names-now r.members,
        record {
          types = (c.3, own.1, omega (arith, body-types.2));
          made = omega (arith, c.4, body-bounds.made);
          room = bounds.room;
          words = body-bounds.words;
          fewer = omega (arith, c.1, c.2, bounds.fewer, kept.more-types);
          structs = omega (arith, bounds.structs);
          named = body-bounds.named;
        },
        record {
          more-types = omega (arith, c.2, kept.more-types);
          types = c.5 ∙ drop_later mid types (b.made.types * type_words) (after.made.types * type_words) kept.types (omega (arith, c.2));
          more-members = omega (arith, c.4, kept.more-members);
          members = rw c.4 kept.members;
        },
      )
  struct_read (Err x) c =
      body_closed (length s) r s (declarations structs names types members) d (name_in s name.start name.end) at (members_in s (tables names-now mid members-now) b) members-read
      ∙ same_close ∙ c s members-now names-now r.members
