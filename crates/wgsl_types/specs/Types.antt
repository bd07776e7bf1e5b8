-- 02, E7: a type in WGSL text, read from tokens into records. Each type written makes its own record where it closes; a struct's name makes none.
-- Assumes nothing.
use Rattle.std.specs.Prelude.{true, not, List, ◌++◌, ℕ, zero, suc, ◌+◌, eqb, ltb}
use Rattle.std.specs.Prelude as std
use Rattle.std.proofs.Math.Option.{Option, none, some}
use Rattle.ir_records.specs.Result.{pick}
use Rattle.ir_records.specs.declared.Words.{Words}
use Rattle.wgsl_tokens.specs.Tokens.{Token}
use Rattle.wgsl_names.specs.Names.{predeclared, bytes_of}
use Rattle.wgsl_names.specs.declared.Scalar.{Scalar}
use Rattle.wgsl_names.specs.declared.Template.{Template}
use Rattle.wgsl_names.specs.declared.TypeName.{TypeName}
use Rattle.wgsl_names.specs.declared.TypeName.TheVariants as name
use Rattle.wgsl_grammar.specs.Grammar.{Reading, refused, read, and_then, demand, expect, skipping, name_of, number_of}
use Rattle.wgsl_placement.specs.Placement.{Count, shape, align_of_template, size_of_template, array_fits, array_shape, words_of, scalar_record, template_record, array_record}
use Rattle.wgsl_placement.specs.declared.Shape.{Shape}
use Rattle.wgsl_tables.specs.Tables.{Records, Named, lookup}
use Rattle.wgsl_types.specs.declared.Known.{Known}
use Rattle.wgsl_types.specs.declared.Known.TheVariants.{Predeclared, Struct}

-- 'to a depth of 32, a member's own type being 1'
abbrev pub most_depth : ℕ
most_depth = 32

-- ---- a type that has closed, with the type records so far; or that has closed with no room for its record. Number 1 stands where the record is made,
-- after whatever else stands there, so it is left to who reads on
pub data Closing : Type 0 where
  stopped : (number : ℕ) → Closing
  full : Shape → Closing
  closed : Shape → Records → (rest : List Token) → Closing

-- the rest, fed with what was read
abbrev pub closing {ℓ} : {A : Type ℓ} → Reading A → (A → Closing) → Closing
closing (refused n) rest = stopped n
closing (read a) rest = rest a

-- the rest, fed with a type inside, whose record must have room
abbrev pub inside : Closing → (Shape → Records → List Token → Closing) → Closing
inside (stopped n) rest = stopped n
inside (full e) rest = stopped 1
inside (closed e types ts) rest = rest e types ts

-- a record more, where there is room for it
unfoldable pub make_type : (room : ℕ) → Records → Shape → Words → List Token → Closing
make_type room types e w ts =
    pick (ltb types.made room) (closed e (record { made = types.made + 1; words = types.words ++ words_of w }) ts) (full e)

-- ---- names of types
abbrev pub or_struct : std.Option TypeName → Option Shape → std.Option Known
or_struct (std.Some name) found = std.Some (Predeclared name)
or_struct std.None (some e) = std.Some (Struct e)
or_struct std.None none = std.None

abbrev pub known_type : List ℕ → List Named → std.Option Known
known_type w structs = or_struct (predeclared w) (lookup w structs)

-- ---- a scalar
abbrev pub scalar_type : (room : ℕ) → Records → Scalar → List Token → Closing
scalar_type room types s ts = make_type room types (shape types.made (bytes_of s) (bytes_of s) true) (scalar_record s) ts

-- ---- a vector, matrix or atomic, after its `<`: 'of no scalar' is 31 whatever else the name is
abbrev pub scalar_of : std.Option TypeName → Option Scalar
scalar_of (std.Some (name.OfScalar s)) = some s
scalar_of (std.Some (name.OfTemplate t)) = none
scalar_of (std.Some name.Array) = none
scalar_of std.None = none

abbrev pub close_template : (room : ℕ) → Template → Scalar → Records → List Token → Closing
close_template room t s types ts =
    closing (expect 62 (skipping 44 ts))
    (λ rest. make_type room types (shape types.made (size_of_template t s) (align_of_template t s) true) (template_record t s) rest)

abbrev pub template_of : (room : ℕ) → Records → Template → Option Scalar → List Token → Closing
template_of room types t none ts = stopped 31
template_of room types t (some s) ts = inside (scalar_type room types s ts) (λ e made rest. close_template room t s made rest)

-- left: how many levels of types are left
unfoldable pub template_type : (room left : ℕ) → Records → Template → List Token → Closing
template_type room zero types t ts = stopped 31
template_type room (suc left) types t ts = closing (name_of ts) (λ n. template_of room types t (scalar_of (predeclared n.name)) n.rest)

-- ---- an array, after its element: `>`, or a comma and `>`, or a comma, a count and `>`
pub record Counted : Type 0 where
  pub count : Count
  pub rest : List Token

-- an array that ends here is runtime-sized
abbrev pub ends_or : Reading (List Token) → Reading Counted → Reading Counted
ends_or (read ts) other = read (record { count = std.None; rest = ts })
ends_or (refused n) other = other

unfoldable pub number_count : List Token → Reading Counted
number_count ts =
    and_then (number_of ts) (λ n.
    demand (not (eqb n.value 0)) 33
    (and_then (expect 62 (skipping 44 n.rest)) (λ rest. read (record { count = std.Some n.value; rest = rest }))))

unfoldable pub comma_count : List Token → Reading Counted
comma_count ts = ends_or (expect 62 ts) (number_count ts)

unfoldable pub count_of : List Token → Reading Counted
count_of ts = ends_or (expect 62 ts) (and_then (expect 44 ts) comma_count)

abbrev pub close_array : (room : ℕ) → Shape → Records → Counted → Closing
close_array room e types c =
    pick (array_fits c.count e) (make_type room types (array_shape types.made c.count e) (array_record c.count e) c.rest) (stopped 33)

unfoldable pub array_of : (room : ℕ) → Shape → Records → List Token → Closing
array_of room e types ts = closing (count_of ts) (λ c. close_array room e types c)

-- the template arguments of an array: the element, and what follows it
abbrev pub arguments_of : (room : ℕ) → (element : Closing) → Closing
arguments_of room element = inside element (λ e made rest. array_of room e made rest)

-- ---- a type, by its name; inner reads a type one level further in
abbrev pub type_named : (inner : Records → List Token → Closing) → (room left : ℕ) → Records → std.Option Known → List Token → Closing
type_named inner room left types (std.Some (Predeclared (name.OfScalar s))) ts = scalar_type room types s ts
type_named inner room left types (std.Some (Struct e)) ts = closed e types ts
type_named inner room left types std.None ts = stopped 32
type_named inner room left types (std.Some (Predeclared (name.OfTemplate t))) ts = closing (expect 60 ts) (λ ts. template_type room left types t ts)
type_named inner room left types (std.Some (Predeclared name.Array)) ts = closing (expect 60 ts) (λ ts. arguments_of room (inner types ts))

unfoldable pub type_after : (inner : Records → List Token → Closing) → (room left : ℕ) → List Named → Records → List Token → Closing
type_after inner room left structs types ts = closing (name_of ts) (λ n. type_named inner room left types (known_type n.name structs) n.rest)

-- left: how many levels are left, this one too
unfoldable pub type_of : (room left : ℕ) → List Named → Records → List Token → Closing
type_of room zero structs types ts = stopped 31
type_of room (suc left) structs types ts = type_after (type_of room left structs) room left structs types ts
