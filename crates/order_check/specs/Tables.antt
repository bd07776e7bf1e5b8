-- 02, E11: the tables with one struct more, n types and m member rows being in use.
-- Assumes nothing.
use Rattle.std.specs.Prelude.{List, ◌++◌, ℕ, ◌*◌, take}
use Rattle.ir_records.specs.Record.{type_words, member_words}
use Rattle.ir_records.specs.Outcome.{Outcome}
use Rattle.ir_records.specs.Outcome.{Accepted, Refused}

-- the types in use and one record more
abbrev pub types_with : (types : List ℕ) (n : ℕ) (own : List ℕ) → List ℕ
types_with types n own = take (n * type_words) types ++ own

-- the member rows in use and more of them
abbrev pub members_with : (members : List ℕ) (m : ℕ) (own : List ℕ) → List ℕ
members_with members m own = take (m * member_words) members ++ own

-- what is written stays where the check accepts
abbrev pub if_accepted : Outcome → (written kept : List ℕ) → List ℕ
if_accepted Accepted written kept = written
if_accepted (Refused number ty member detail) written kept = kept
