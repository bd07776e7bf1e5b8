-- The layout sheet: the type and the member that a refusal names.
-- Assumes nothing.
use Rattle.std.specs.Prelude.{◌≡◌, MatchOption, Bool, ◌&&◌, ◌||◌, List, ℕ, ◌+◌, ◌-◌, eqb, leb, ltb, Option, None, Some}
use Rattle.ir_records.specs.Result.{pick}
use Rattle.ir_records.specs.Record.{type_word, struct_kind, member_type}
use Rattle.ir_records.specs.Refusal.{number_of}
use Rattle.ir_records.specs.declared.Fault.{Fault}
use Rattle.ir_records.specs.declared.Refusal.{Refusal}
use Rattle.sheet_names.specs.Search.{first_between}
use Rattle.sheet_names.specs.declared.Sheet.{Sheet}
use Rattle.sheet_names.specs.declared.Member.{Member}

-- ---- what a refusal says
-- the faults whose third word is a member, those of a struct's members: numbers 6, 17 to 21 and 34
abbrev pub names_member : Fault → Bool
names_member fault = let n = number_of fault in eqb n 6 || leb 17 n && leb n 21 || eqb n 34

-- the number of the member
abbrev pub named_member : Refusal → Option ℕ
named_member refusal = pick (names_member refusal.fault) (Some refusal.member) None

-- the number of the type; number 1 is of all tables and names none
abbrev pub named_type : Refusal → Option ℕ
named_type refusal = pick (eqb (number_of refusal.fault) 1) None (Some refusal.ty)

-- the bit of the capability that is missing, number 8
abbrev pub missing_capability : Refusal → Option ℕ
missing_capability refusal = pick (eqb (number_of refusal.fault) 8) (Some refusal.detail) None

-- ---- the member in whose type a type of a text stands
-- the first member row whose type has the same number or a higher one: the types that stand in a member's type come before it, and after the
-- types of the members before
abbrev pub row_with : (members : List ℕ) (ty : ℕ) → Option ℕ
row_with members ty = first_between (λ row. leb ty (member_type members row)) 0 4096

-- the row is one of struct i
abbrev pub has_row : (types : List ℕ) (i row : ℕ) → Bool
has_row types i row =
    let first = type_word types i 1 in
    eqb (type_word types i 0) struct_kind && (leb first row && ltb row (first + type_word types i 2))

-- the first struct that has the row
abbrev pub struct_with : (types : List ℕ) (row : ℕ) → Option ℕ
struct_with types row = first_between (λ i. has_row types i row) 0 1024

-- a member by its struct and its number in it
pub record Part : Type 0 where
  pub of : ℕ
  pub number : ℕ

-- a function answers with this member of the sheet
abbrev pub PartIs : Sheet → Option Part → Option Member → Type 0
PartIs sheet part answer =
    MatchOption answer (part ≡ None) (λ m. (part ≡ Some (record { of = m.of.i; number = m.j })) × (m.of.sheet ≡ sheet))

-- the member that a row is of a struct, where there is such a struct
abbrev pub part_at : (types : List ℕ) (row : ℕ) → Option ℕ → Option Part
part_at types row None = None
part_at types row (Some i) = Some (record { of = i; number = row - type_word types i 1 })

-- the member that a row is, where there is such a row
abbrev pub part_of : (types : List ℕ) → Option ℕ → Option Part
part_of types None = None
part_of types (Some row) = part_at types row (struct_with types row)

-- the member in whose type type ty stands
abbrev pub member_with : (types members : List ℕ) (ty : ℕ) → Option Part
member_with types members ty = part_of types (row_with members ty)
