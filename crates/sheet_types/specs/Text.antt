-- The layout sheet: the bytes of a name and of a type in WGSL's words.
-- Assumes nothing.
use Rattle.std.specs.Prelude.{List, [], ◌++◌, ℕ, zero, suc, ◌*◌, eqb, Option, None, Some}
use Rattle.ir_records.specs.Result.{pick}
use Rattle.ir_records.specs.Record.{type_word, type_inner, struct_kind, array_kind}
use Rattle.ir_records.specs.declared.Leaf.{Leaf}
use Rattle.ir_records.specs.declared.Leaf.TheVariants as leaf
use Rattle.ir_records.specs.declared.TypeInner.{TypeInner}
use Rattle.ir_records.specs.declared.TypeInner.TheVariants as inner
use Rattle.program_output.specs.Bytes.{ascii, decimal}
use Rattle.sheet_names.specs.declared.Sheet.{Sheet}
use Rattle.sheet_names.specs.Names.{type_name, member_name}
use Rattle.sheet_output.specs.declared.Markup.{Markup}
use Rattle.sheet_output.specs.Written.{mark_bytes, name_bytes}
use Rattle.sheet_types.specs.Types.{is_printable, most_depth}

-- ---- names
-- a name where it can be printed, or else a number after a text
abbrev pub name_text : Markup → (name : Option (List ℕ)) (otherwise : List ℕ) (number : ℕ) → List ℕ
name_text m None otherwise number = otherwise ++ decimal number
name_text m (Some name) otherwise number = pick (is_printable name) (name_bytes m name) (otherwise ++ decimal number)

-- ` of ` and the name of a file, where it can be printed
abbrev pub file_text : Markup → (name : Option (List ℕ)) → List ℕ
file_text m None = []
file_text m (Some name) = pick (is_printable name) (ascii " of " ++ name_bytes m name) []

-- the name of struct i, or its number as a type
abbrev pub struct_name : Markup → Sheet → (i : ℕ) → List ℕ
struct_name m sheet i = name_text m (type_name (sheet.text.now) (sheet.names.now) i) (ascii "type ") i

-- the name of member j of struct i, or its number
abbrev pub member_text : Markup → Sheet → (i j : ℕ) → List ℕ
member_text m sheet i j = name_text m (member_name (sheet.text.now) (sheet.names.now) (sheet.types.now) i j) [] j

-- `member `, its number, and its name or its number once more
abbrev pub numbered_member : Markup → Sheet → (i j : ℕ) → List ℕ
numbered_member m sheet i j = ascii "member " ++ decimal j ++ ascii " (" ++ member_text m sheet i j ++ ascii ")"

-- ---- types
-- a scalar by the number of its kind: i32, u16, f64 and the like; `bool` for the other kinds, and for a number of none
abbrev pub scalar_text : (kind width : ℕ) → List ℕ
scalar_text kind width =
    let bits = decimal (width * 8) in
    pick (eqb kind 0) (ascii "i" ++ bits) (pick (eqb kind 1) (ascii "u" ++ bits) (pick (eqb kind 2) (ascii "f" ++ bits) (ascii "bool")))

-- `<`, the scalar and `>`, 60 and 62
abbrev pub argument_text : Markup → (kind width : ℕ) → List ℕ
argument_text m kind width = mark_bytes m 60 ++ scalar_text kind width ++ mark_bytes m 62

-- what WGSL cannot write, by the number of its kind
abbrev pub other_text : (kind : ℕ) → List ℕ
other_text kind = ascii "kind " ++ decimal kind

abbrev pub leaf_text : Markup → (of : ℕ) → Leaf → List ℕ
leaf_text m of (leaf.Scalar kind width) = scalar_text kind width
leaf_text m of (leaf.Vector size kind width) = ascii "vec" ++ decimal size ++ argument_text m kind width
leaf_text m of (leaf.Matrix columns rows kind width) = ascii "mat" ++ decimal columns ++ ascii "x" ++ decimal rows ++ argument_text m kind width
leaf_text m of (leaf.CooperativeMatrix columns rows kind width role) = other_text of
leaf_text m of (leaf.Atomic kind width) = ascii "atomic" ++ argument_text m kind width
leaf_text m of (leaf.RayQuery vertex_return) = other_text of

-- a type that is no struct, by the number of its kind and its record; an array too deep to be written out is two dots
abbrev pub inner_text : Markup → (of : ℕ) → TypeInner → List ℕ
inner_text m of (inner.Plain leaf) = leaf_text m of leaf
inner_text m of (inner.Array base count stride) = ascii ".."
inner_text m of (inner.RuntimeArray base stride) = ascii ".."
inner_text m of (inner.Struct count span) = other_text of
inner_text m of (inner.Other o) = other_text of

-- type i, which is no struct
abbrev pub plain_text : Markup → Sheet → (i : ℕ) → List ℕ
plain_text m sheet i = inner_text m (type_word (sheet.types.now) i 0) (type_inner (sheet.types.now) i)

-- the count of an array, where it has one
abbrev pub count_text : TypeInner → List ℕ
count_text (inner.Plain leaf) = []
count_text (inner.Array base count stride) = ascii ", " ++ decimal count
count_text (inner.RuntimeArray base stride) = []
count_text (inner.Struct count span) = []
count_text (inner.Other o) = []

-- a type inside all arrays that are written out
abbrev pub base_text : Markup → Sheet → (i : ℕ) → List ℕ
base_text m sheet i = pick (eqb (type_word (sheet.types.now) i 0) struct_kind) (struct_name m sheet i) (plain_text m sheet i)

-- an array of this text and count
abbrev pub array_text : Markup → (element count : List ℕ) → List ℕ
array_text m element count = ascii "array" ++ mark_bytes m 60 ++ element ++ count ++ mark_bytes m 62

-- type i, with at most so many arrays in one another
unfoldable pub text_within : Markup → Sheet → (depth i : ℕ) → List ℕ
text_within m sheet zero i = base_text m sheet i
text_within m sheet (suc depth) i =
    let types = sheet.types.now in
    pick (eqb (type_word types i 0) array_kind)
    (array_text m (text_within m sheet depth (type_word types i 1)) (count_text (type_inner types i)))
    (base_text m sheet i)

-- type i as WGSL writes it
abbrev pub type_text : Markup → Sheet → (i : ℕ) → List ℕ
type_text m sheet i = text_within m sheet most_depth i
