-- 02, E7: the members of a struct, the struct, and the declarations of a WGSL text.
-- Assumes nothing.
use Rattle.std.specs.Prelude.{Bool, true, false, List, [], ◌∷◌, ◌++◌, ℕ, zero, suc, ◌+◌, ◌-◌, eqb, leb, ltb}
use Rattle.ir_records.specs.Result.{pick}
use Rattle.proc_alignment.specs.Alignment.{round_up, most}
use Rattle.wgsl_tokens.specs.Tokens.{Token, word, number, large, mark, bad}
use Rattle.wgsl_names.specs.Names.{same, struct_word}
use Rattle.wgsl_grammar.specs.Grammar.{Reading, refused, read, and_then, demand, expect, name_of}
use Rattle.wgsl_placement.specs.Placement.{shape, words_of, struct_record}
use Rattle.wgsl_tables.specs.Tables.{Records, Named}
use Rattle.wgsl_types.specs.Types.{known_type}
use Rattle.wgsl_types.specs.declared.Known.{Known}
use Rattle.std.specs.Prelude.{Option, Some, None}
use Rattle.wgsl_members.specs.Members.{Members, Rooms, member_of}

-- ---- after a member: `}`, or a comma, and perhaps `}`
pub data MemberEnd : Type 0 where
  stops : (number : ℕ) → MemberEnd
  closes : (rest : List Token) → MemberEnd
  goes : (rest : List Token) → MemberEnd

abbrev pub closes_or : Reading (List Token) → MemberEnd → MemberEnd
closes_or (read ts) other = closes ts
closes_or (refused n) other = other

abbrev pub after_comma : Reading (List Token) → MemberEnd
after_comma (refused n) = stops n
after_comma (read ts) = closes_or (expect 125 ts) (goes ts)

unfoldable pub member_end : List Token → MemberEnd
member_end ts = closes_or (expect 125 ts) (after_comma (expect 44 ts))

-- ---- members, one at least
abbrev pub with_rest : Members → List Token → Members
with_rest m ts =
    record { names = m.names; end = m.end; align = m.align; fixed = m.fixed; types = m.types; members = m.members; rest = ts }

abbrev pub after_member : MemberEnd → Members → (Members → Reading Members) → Reading Members
after_member (stops n) m more = refused n
after_member (closes ts) m more = read (with_rest m ts)
after_member (goes ts) m more = more (with_rest m ts)

-- turns: how many attributes a member may have; left: how many members are left
unfoldable pub members_of : (turns left : ℕ) → Rooms → List Named → Members → Reading Members
members_of turns zero rooms structs m = refused 31
members_of turns (suc left) rooms structs m =
    and_then (member_of turns rooms structs m) (λ m. after_member (member_end m.rest) m (λ m. members_of turns left rooms structs m))

-- ---- what was declared so far
pub record Declared : Type 0 where
  pub types : Records
  pub members : Records
  pub structs : List Named
  pub rest : List Token

-- no member yet
abbrev pub start_of : Declared → List Token → Members
start_of d ts = record { names = []; end = 0; align = 1; fixed = true; types = d.types; members = d.members; rest = ts }

-- SizeOf(S) = roundUp(AlignOf(S), OffsetOfMember(S, N) + SizeOfMember(S, N))
abbrev pub span_of : Members → ℕ
span_of m = round_up m.align m.end

unfoldable pub with_struct : Declared → (name : List ℕ) → Members → Declared
with_struct d name m =
    record {
      types = record { made = m.types.made + 1; words = m.types.words ++ words_of (struct_record d.members.made (m.members.made - d.members.made) (span_of m)) };
      members = m.members;
      structs = record { name = name; shape = shape m.types.made (span_of m) m.align m.fixed } ∷ d.structs;
      rest = m.rest;
    }

-- where the struct closes: its span (33), then room for its record (1)
abbrev pub close_struct : Rooms → Declared → (name : List ℕ) → Members → Reading Declared
close_struct rooms d name m =
    demand (leb (span_of m) most) 33 (demand (ltb m.types.made rooms.types) 1 (read (with_struct d name m)))

abbrev pub is_unknown : Option Known → Bool
is_unknown (Some known) = false
is_unknown None = true

-- ---- a struct, after `struct`: a name that no type has yet, members in braces
unfoldable pub struct_body : (turns : ℕ) → Rooms → Declared → (name : List ℕ) → List Token → Reading Declared
struct_body turns rooms d name ts =
    and_then (members_of turns turns rooms d.structs (start_of d ts)) (λ m. close_struct rooms d name m)

unfoldable pub struct_of : (turns : ℕ) → Rooms → Declared → List Token → Reading Declared
struct_of turns rooms d ts =
    and_then (name_of ts) (λ n.
    demand (is_unknown (known_type n.name d.structs)) 32
    (and_then (expect 123 n.rest) (λ ts. struct_body turns rooms d n.name ts)))

-- ---- declarations: `struct` and `;` only
pub data Declaration : Type 0 where
  finished : Declaration
  wrong : (number : ℕ) → Declaration
  further : Declared → Declaration

abbrev pub declared_by : Reading Declared → Declaration
declared_by (refused n) = wrong n
declared_by (read d) = further d

abbrev pub past : Declared → List Token → Declared
past d ts = record { types = d.types; members = d.members; structs = d.structs; rest = ts }

abbrev pub declaration_of : (turns : ℕ) → Rooms → Declared → List Token → Declaration
declaration_of turns rooms d [] = finished
declaration_of turns rooms d (mark c ∷ ts) = pick (eqb c 59) (further (past d ts)) (wrong 31)
declaration_of turns rooms d (word w ∷ ts) = pick (same w struct_word) (declared_by (struct_of turns rooms d ts)) (wrong 31)
declaration_of turns rooms d (number n ∷ ts) = wrong 31
declaration_of turns rooms d (large ∷ ts) = wrong 31
declaration_of turns rooms d (bad ∷ ts) = wrong 31

abbrev pub after_declaration : Declaration → Declared → (Declared → Reading Declared) → Reading Declared
after_declaration finished d more = read d
after_declaration (wrong n) d more = refused n
after_declaration (further next) d more = more next

-- left: how many declarations are left, the end of the text among them
unfoldable pub declarations_of : (turns left : ℕ) → Rooms → Declared → Reading Declared
declarations_of turns zero rooms d = refused 31
declarations_of turns (suc left) rooms d =
    after_declaration (declaration_of turns rooms d d.rest) d (λ next. declarations_of turns left rooms next)
