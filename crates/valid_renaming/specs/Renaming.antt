-- 02, E13: a type and what it reaches. Two accepted arenas whose types are numbered differently: type k of the one is type f k of the other.
-- Assumes nothing.
use Rattle.std.specs.Prelude.{◌≡◌, List, ℕ, ◌<◌}
use Rattle.ir_records.specs.Result.{pick}
use Rattle.ir_records.specs.Record.{Decoded, decoded, type_count, member_type, member_offset, member_location, member_source}
use Rattle.ir_records.specs.Outcome.{Accepted}
use Rattle.ir_records.specs.declared.NonData.{NonData}
use Rattle.ir_records.specs.declared.NonData.TheVariants.{Pointer, ValuePointer, Image, Sampler, AccelerationStructure, BindingArray}
use Rattle.ir_records.specs.declared.TypeInner.{TypeInner}
use Rattle.ir_records.specs.declared.TypeInner.TheVariants.{Plain, Array, RuntimeArray, Struct, Other}
use Rattle.valid_type_info.specs.declared.Verdict.{Verdict}
use Rattle.valid_type_info.specs.declared.Row.{Row}
use Rattle.valid_type_info.specs.declared.UniformRule.{UniformRule}
use Rattle.valid_type_info.specs.Verdict.{least_for, is_ok}
use Rattle.valid_arena.specs.Arena.{arena, row}
use Rattle.immediates_walk.specs.Walk.{slots_at}
use Rattle.place_descent.specs.Place.{Place}
use Rattle.place_descent.specs.Place.{At, NoPlace}
use Rattle.place_descent.specs.Place.{place_of}

-- ---- reached, here through pointer and binding-array bases too: the type itself, or got to by array bases, member types and these bases
pub data Reaches (types : ℕ → Decoded) : ℕ → ℕ → Type 0 where
  itself : {t : ℕ} → Reaches types t t
  element : {t base count stride k : ℕ} → (types t).inner ≡ Array base count stride → Reaches types base k → Reaches types t k
  runtime_element : {t base stride k : ℕ} → (types t).inner ≡ RuntimeArray base stride → Reaches types base k → Reaches types t k
  member : {t count span k : ℕ} (j : ℕ) → (types t).inner ≡ Struct count span → j < count → Reaches types (member_type (types t).members j) k → Reaches types t k
  pointed : {t base space k : ℕ} → (types t).inner ≡ Other (Pointer base space) → Reaches types base k → Reaches types t k
  bound : {t base form count k : ℕ} → (types t).inner ≡ Other (BindingArray base form count) → Reaches types base k → Reaches types t k

-- ---- what a record says, with the type numbers in it renamed. A struct's members are compared beside it, by content
abbrev pub renamed_non_data : (ℕ → ℕ) → NonData → NonData
renamed_non_data f (Pointer base space) = Pointer (f base) space
renamed_non_data f (ValuePointer kind width space) = ValuePointer kind width space
renamed_non_data f (Image dim arrayed class) = Image dim arrayed class
renamed_non_data f Sampler = Sampler
renamed_non_data f (AccelerationStructure vertexReturn) = AccelerationStructure vertexReturn
renamed_non_data f (BindingArray base form count) = BindingArray (f base) form count

abbrev pub renamed_inner : (ℕ → ℕ) → TypeInner → TypeInner
renamed_inner f (Plain leaf) = Plain leaf
renamed_inner f (Array base count stride) = Array (f base) count stride
renamed_inner f (RuntimeArray base stride) = RuntimeArray (f base) stride
renamed_inner f (Struct count span) = Struct count span
renamed_inner f (Other o) = Other (renamed_non_data f o)

-- member j of a struct of the one arena and of one of the other, by content: its type renamed; offset, location and blend source the same
pub record MemberAgrees (f : ℕ → ℕ) (members members' : List ℕ) (j : ℕ) : Type 0 where
  pub type : member_type members' j ≡ f (member_type members j)
  pub offset : member_offset members' j ≡ member_offset members j
  pub location : member_location members' j ≡ member_location members j
  pub source : member_source members' j ≡ member_source members j

-- record k of the one arena and record f k of the other agree; the members of a struct wherever their rows stand
pub record Agree (f : ℕ → ℕ) (types types' : ℕ → Decoded) (k : ℕ) : Type 0 where
  pub inner : (types' (f k)).inner ≡ renamed_inner f (types k).inner
  pub members : (count span j : ℕ) → (types k).inner ≡ Struct count span → j < count → MemberAgrees f (types k).members (types' (f k)).members j

-- of the records in two pairs of tables
abbrev pub RecordsAgree : (f : ℕ → ℕ) (ts ms ts' ms' : List ℕ) → ℕ → Type 0
RecordsAgree f ts ms ts' ms' k = Agree f (decoded ts ms) (decoded ts' ms') k

-- both arenas hold what type t reaches, and these records agree
pub record ReachedAgree (f : ℕ → ℕ) (ts ms ts' ms' : List ℕ) (t : ℕ) : Type 0 where
  pub within : t < type_count ts
  pub within' : (k : ℕ) → Reaches (decoded ts ms) t k → f k < type_count ts'
  pub agree : (k : ℕ) → Reaches (decoded ts ms) t k → RecordsAgree f ts ms ts' ms' k

-- ---- answers, with the type numbers in them renamed
-- the second word of a verdict is a type for codes 1 to 6; for code 0, Ok, it is the alignment
abbrev pub renamed_verdict : (ℕ → ℕ) → Verdict → Verdict
renamed_verdict f v = record { code = v.code; ty = pick (is_ok v) v.ty (f v.ty); index = v.index; value = v.value; bound = v.bound }

abbrev pub renamed_row : (ℕ → ℕ) → Row → Row
renamed_row f r =
    record {
      size = r.size;
      alignment = r.alignment;
      flags = r.flags;
      uniform = renamed_verdict f r.uniform;
      storage = renamed_verdict f r.storage;
      immediates = r.immediates;
    }

-- the same byte place, the leaf's type renamed; no place is no place
abbrev pub renamed_place : (ℕ → ℕ) → Place → Place
renamed_place f (At byte leaf) = At byte (f leaf)
renamed_place f NoPlace = NoPlace

-- ---- the theorem
-- row, slots (both masks, or 25) and places of type t of the one arena and of type f t of the other
pub record AnswersAgree (f : ℕ → ℕ) (rule : UniformRule) (c c' : ℕ) (ts ms ts' ms' : List ℕ) (t : ℕ) : Type 0 where
  pub rows : row (least_for rule) c' (decoded ts' ms') (f t) ≡ renamed_row f (row (least_for rule) c (decoded ts ms) t)
  pub slots : (offset : ℕ) → slots_at (decoded ts' ms') (f t) offset ≡ slots_at (decoded ts ms) t offset
  pub places : (steps : List ℕ) → place_of ts' ms' (f t) steps ≡ renamed_place f (place_of ts ms t steps)

-- whatever the capability words, whatever f, by one uniform rule
abbrev pub Renaming : Type 0
Renaming =
    (f : ℕ → ℕ) (rule : UniformRule) (c c' : ℕ) (ts ms ts' ms' : List ℕ) (t : ℕ) → arena c ts ms ≡ Accepted → arena c' ts' ms' ≡ Accepted
    → ReachedAgree f ts ms ts' ms' t → AnswersAgree f rule c c' ts ms ts' ms' t

-- ---- in 02's own words: the renaming is one-to-one, and the same binding arrays among the reached types name an earlier type. The theorem
-- does without both
pub record OneToOne (f : ℕ → ℕ) (types : ℕ → Decoded) (t : ℕ) : Type 0 where
  pub distinct : (k l : ℕ) → Reaches types t k → Reaches types t l → f k ≡ f l → k ≡ l
  pub earlier : (k base form count : ℕ) → Reaches types t k → (types k).inner ≡ Other (BindingArray base form count)
      → (base < k → f base < f k) × (f base < f k → base < k)

abbrev pub OneToOneRenaming : Type 0
OneToOneRenaming =
    (f : ℕ → ℕ) (rule : UniformRule) (c c' : ℕ) (ts ms ts' ms' : List ℕ) (t : ℕ) → arena c ts ms ≡ Accepted → arena c' ts' ms' ≡ Accepted
    → ReachedAgree f ts ms ts' ms' t → OneToOne f (decoded ts ms) t → AnswersAgree f rule c c' ts ms ts' ms' t
