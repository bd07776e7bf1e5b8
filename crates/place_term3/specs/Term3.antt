-- Term 3 of the terms of acceptance, with E6 and E8 of 02: the statement, of the arena's and the place's definitions.
-- Assumes nothing.
use Rattle.std.specs.Prelude.{◌≡◌, ◌≢◌, List, [], ◌∷◌, ◌++◌, ℕ, ◌+◌, ◌*◌, ◌≤◌, ◌<◌, T, take}
use Rattle.std.specs.Int.{◌∣◌}
use Rattle.std.proofs.Math.ListN.{get_elem?}
use Rattle.std.proofs.lemmas.List.Edits.{sets}
use Rattle.ir_records.specs.Record.{Decoded, decoded, type_count, member_type}
use Rattle.ir_records.specs.Fields.{capabilities_known}
use Rattle.ir_records.specs.Outcome.{Accepted}
use Rattle.ir_records.specs.declared.Leaf.TheVariants.{Matrix}
use Rattle.ir_records.specs.declared.TypeInner.{TypeInner}
use Rattle.ir_records.specs.declared.TypeInner.TheVariants.{Plain, Array, RuntimeArray, Struct, Other}
use Rattle.proc_type_methods.specs.TypeMethods.{column_step}
use Rattle.valid_flags.specs.Flags.{bit, data_bit, host_shareable_bit}
use Rattle.valid_type_info.specs.declared.Row.{Row}
use Rattle.valid_type_info.specs.declared.UniformRule.{UniformRule}
use Rattle.valid_type_info.specs.Verdict.{least_for, is_ok, alignment_in}
use Rattle.valid_arena.specs.Arena.{arena, row}
use Rattle.place_steps.specs.Step.{Step}
use Rattle.place_steps.specs.Step.{To, Column, NoStep}
use Rattle.place_steps.specs.Columns.{leaf_length}
use Rattle.place_descent.specs.Place.{Place, At}
use Rattle.place_descent.specs.Place.{step_in, place_of}

-- flags, sizes and storage verdicts are what the arena check's definitions make of the records, by either uniform rule
abbrev pub row_in : (rule : UniformRule) (c : ℕ) (ts ms : List ℕ) → ℕ → Row
row_in rule c ts ms t = row (least_for rule) c (decoded ts ms) t

-- a leaf's bytes are those from its place on, as many as it measures: its type's size, or rows times width for a column
abbrev pub length_in : TypeInner → (size : ℕ) → ℕ
length_in (Plain leaf) size = leaf_length leaf size
length_in (Array base count stride) size = size
length_in (RuntimeArray base stride) size = size
length_in (Struct count span) size = size
length_in (Other o) size = size

abbrev pub leaf_measure : (rule : UniformRule) (c : ℕ) (ts ms : List ℕ) → (leaf : ℕ) → ℕ
leaf_measure rule c ts ms leaf = length_in (decoded ts ms leaf).inner (row_in rule c ts ms leaf).size

-- a leaf: the steps that lead to it, its byte place and its type. `place_from` is the place's definition, from the type where the steps begin
pub record LeafAt (place_from : List ℕ → Place) : Type 0 where
  pub steps : List ℕ
  pub byte : ℕ
  pub ty : ℕ
  pub place : place_from steps ≡ At byte ty

-- byte k is one of the leaf's
abbrev pub Has : {place_from : List ℕ → Place} → (measure : ℕ → ℕ) → LeafAt place_from → (k : ℕ) → Type 0
Has measure leaf k = (leaf.byte ≤ k) × (k < leaf.byte + measure leaf.ty)

-- byte k of type t lies in a leaf
pub record InLeaf (rule : UniformRule) (c : ℕ) (ts ms : List ℕ) (t k : ℕ) : Type 0 where
  pub leaf : LeafAt (place_of ts ms t)
  pub has : Has (leaf_measure rule c ts ms) leaf k

-- byte k of type t lies between columns: past the end of a column, and within a column step of its start
pub record BetweenColumns (ts ms : List ℕ) (t k : ℕ) : Type 0 where
  pub leaf : LeafAt (place_of ts ms t)
  pub columns : ℕ
  pub rows : ℕ
  pub kind : ℕ
  pub width : ℕ
  pub matrix : (decoded ts ms leaf.ty).inner ≡ Plain (Matrix columns rows kind width)
  pub past : leaf.byte + rows * width ≤ k
  pub below : k < leaf.byte + column_step rows width

-- a host-shareable data type of an accepted arena: flags DATA and HOST_SHAREABLE
pub record HostShareableData (rule : UniformRule) (c : ℕ) (ts ms : List ℕ) (t : ℕ) : Type 0 where
  pub accepted : arena c ts ms ≡ Accepted
  pub within : t < type_count ts
  pub is_data : T (bit (row_in rule c ts ms t).flags data_bit)
  pub host_shareable : T (bit (row_in rule c ts ms t).flags host_shareable_bit)

-- reached: the type itself, or got to by array bases and member types
pub data Reached (types : ℕ → Decoded) : ℕ → ℕ → Type 0 where
  itself : {t : ℕ} → Reached types t t
  element : {t base count stride a : ℕ} → (types t).inner ≡ Array base count stride → Reached types base a → Reached types t a
  runtime_element : {t base stride a : ℕ} → (types t).inner ≡ RuntimeArray base stride → Reached types base a → Reached types t a
  member : {t count span a : ℕ} (j : ℕ) → (types t).inner ≡ Struct count span → j < count → Reached types (member_type (types t).members j) a → Reached types t a

-- an array's stride is at least its element's size
abbrev pub stride_covers : (ℕ → Row) → TypeInner → Type 0
stride_covers rows (Plain leaf) = Unit {0}
stride_covers rows (Array base count stride) = (rows base).size ≤ stride
stride_covers rows (RuntimeArray base stride) = (rows base).size ≤ stride
stride_covers rows (Struct count span) = Unit {0}
stride_covers rows (Other o) = Unit {0}

-- each array reached has a stride of at least its element's size
abbrev pub StridesCover : (ℕ → Row) → (types : ℕ → Decoded) → ℕ → Type 0
StridesCover rows types t = (a : ℕ) → Reached types t a → stride_covers rows (types a).inner

-- those in runtime elements past the first aside: each step at a runtime array is 0
abbrev pub first_element : TypeInner → (step : ℕ) → Type 0
first_element (Plain leaf) step = Unit {0}
first_element (Array base count stride) step = Unit {0}
first_element (RuntimeArray base stride) step = step ≡ 0
first_element (Struct count span) step = Unit {0}
first_element (Other o) step = Unit {0}

abbrev pub after : Step → (ℕ → Type 0) → Type 0
after (To ty bytes) rest = rest ty
after (Column bytes) rest = Unit {0}
after NoStep rest = Unit {0}

abbrev pub FirstElements : (types : ℕ → Decoded) → ℕ → List ℕ → Type 0
FirstElements types t [] = Unit {0}
FirstElements types t (s ∷ steps) = first_element (types t).inner s × after (step_in types t s) (λ next. FirstElements types next steps)

-- rewriting a leaf puts any bytes where the list has bytes of the leaf, and nowhere else
abbrev pub rewrite : (buffer : List ℕ) (byte size : ℕ) (bytes : List ℕ) → List ℕ
rewrite buffer byte size bytes = sets buffer byte (take size bytes)

-- with whatever bytes and in whatever buffer the leaf is rewritten, byte k stays
abbrev pub Spares : {place_from : List ℕ → Place} → (measure : ℕ → ℕ) → LeafAt place_from → (k : ℕ) → Type 0
Spares measure leaf k = (buffer bytes : List ℕ) → get_elem? (rewrite buffer leaf.byte (measure leaf.ty) bytes) k ≡ get_elem? buffer k

-- every capability of c is one of d
abbrev pub Adds : (c d : ℕ) → Type 0
Adds c d = (b : ℕ) → T (bit c b) → T (bit d b)

pub record Term3 : Type 0 where
  -- whichever leaf is rewritten, with whatever bytes and in whatever buffer, no byte of any other leaf changes
  pub others : (rule : UniformRule) (c : ℕ) (ts ms : List ℕ) (t : ℕ) → HostShareableData rule c ts ms t → StridesCover (row_in rule c ts ms) (decoded ts ms) t
      → (one other : LeafAt (place_of ts ms t)) → one.steps ≢ other.steps
      → (k : ℕ) → Has (leaf_measure rule c ts ms) other k → Spares (leaf_measure rule c ts ms) one k
  -- E6 of 02: a write to one column spares the others and the gaps. A byte in no leaf is changed by no rewriting, whatever the flags and
  -- strides, and a byte between columns is in no leaf
  pub gaps : (rule : UniformRule) (c : ℕ) (ts ms : List ℕ) (t k : ℕ)
      → (¬ InLeaf rule c ts ms t k → (leaf : LeafAt (place_of ts ms t)) → Spares (leaf_measure rule c ts ms) leaf k)
      × (HostShareableData rule c ts ms t → StridesCover (row_in rule c ts ms) (decoded ts ms) t → BetweenColumns ts ms t k → ¬ InLeaf rule c ts ms t k)
  -- every leaf lies within the type's size, those in runtime elements past the first aside
  pub within : (rule : UniformRule) (c : ℕ) (ts ms : List ℕ) (t : ℕ) → HostShareableData rule c ts ms t → StridesCover (row_in rule c ts ms) (decoded ts ms) t
      → (leaf : LeafAt (place_of ts ms t)) → FirstElements (decoded ts ms) t leaf.steps
      → leaf.byte + leaf_measure rule c ts ms leaf.ty ≤ (row_in rule c ts ms t).size
  -- whatever the strides, if the storage verdict is Ok, every leaf stands at a multiple of the leaf's own storage alignment
  pub aligned : (rule : UniformRule) (c : ℕ) (ts ms : List ℕ) (t : ℕ) → HostShareableData rule c ts ms t → T (is_ok (row_in rule c ts ms t).storage)
      → (leaf : LeafAt (place_of ts ms t))
      → T (is_ok (row_in rule c ts ms leaf.ty).storage) × (alignment_in (row_in rule c ts ms leaf.ty).storage ∣ leaf.byte)
  -- an accepted arena stays accepted whichever of 01's capabilities are added
  pub accepted : (c d : ℕ) → Adds c d → T (capabilities_known d) → (ts ms : List ℕ) → arena c ts ms ≡ Accepted → arena d ts ms ≡ Accepted
  -- capabilities added, types appended with further member records or both, accepted before and after: each type it had keeps its
  -- size, flags and storage verdict, and each list of steps from it gets the same answer, whichever rule is chosen before and after
  pub kept : (rule rule' : UniformRule) (c d : ℕ) → Adds c d → (ts ms ts' ms' : List ℕ) → arena c ts ms ≡ Accepted → arena d (ts ++ ts') (ms ++ ms') ≡ Accepted
      → (t : ℕ) → t < type_count ts
      → ((row_in rule c ts ms t).size ≡ (row_in rule' d (ts ++ ts') (ms ++ ms') t).size)
      × ((row_in rule c ts ms t).flags ≡ (row_in rule' d (ts ++ ts') (ms ++ ms') t).flags)
      × ((row_in rule c ts ms t).storage ≡ (row_in rule' d (ts ++ ts') (ms ++ ms') t).storage)
      × ((steps : List ℕ) → place_of ts ms t steps ≡ place_of (ts ++ ts') (ms ++ ms') t steps)
