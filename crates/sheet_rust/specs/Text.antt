-- The layout sheet: the bytes of a struct in Rust, of its numbers and of its assertions.
-- Assumes nothing.
use Rattle.std.specs.Prelude.{List, [], ◌∷◌, ◌++◌, ℕ, ◌*◌, eqb, Option, None, Some}
use Rattle.std.specs.List.{flat_map}
use Rattle.std.specs.Option.{unwrap_or}
use Rattle.ir_records.specs.Result.{pick}
use Rattle.ir_records.specs.Record.{type_word}
use Rattle.ir_rows.specs.Rows.{row_word}
use Rattle.program_output.specs.Bytes.{ascii, decimal, newline}
use Rattle.sheet_names.specs.declared.Sheet.{Sheet}
use Rattle.sheet_names.specs.declared.Member.{Member}
use Rattle.sheet_output.specs.declared.Markup.{Markup}
use Rattle.sheet_types.specs.Text as words
use Rattle.sheet_dimensions.specs.Shapes.{Shape, Inside, scalar, struct, shape_of, no_form}
use Rattle.sheet_dimensions.specs.Extents.{in_use, inside_of}
use Rattle.sheet_dimensions.specs.declared.Dimensions.{Dimensions}
use Rattle.sheet_identifiers.specs.Identifiers as identifier

-- what stands before the first struct
abbrev pub rust_start : List ℕ
rust_start = ascii "// Made by sheet. The assertions hold where the host's structs are those of the kernel.\n"

-- ---- types
-- a scalar by the number of its kind: i32, u32, f32 and the like. A host has no f16: its bits are a u16
abbrev pub rust_scalar_text : (kind width : ℕ) → List ℕ
rust_scalar_text kind width =
    let bits = decimal (width * 8) in
    pick (eqb kind 0) (ascii "i" ++ bits) (pick (eqb kind 1) (ascii "u" ++ bits) (pick (eqb width 2) (ascii "u16") (ascii "f" ++ bits)))

-- what stands inside all dimensions
abbrev pub inside_text : Sheet → Inside → List ℕ
inside_text sheet (scalar kind width) = rust_scalar_text kind width
inside_text sheet (struct i) = identifier.type_text sheet i

-- the end of an array of so many elements. A runtime-sized one has its first element
abbrev pub close_text : (n : Option ℕ) → List ℕ
close_text n = ascii "; " ++ decimal (unwrap_or n 1) ++ ascii "]"

-- the ends of all of these
abbrev pub closes_text : List (Option ℕ) → List ℕ
closes_text = flat_map close_text

-- an array of arrays, the outermost first
unfoldable pub array_text : (extents : List (Option ℕ)) (inside : List ℕ) → List ℕ
array_text [] inside = inside
array_text (n ∷ extents) inside = ascii "[" ++ array_text extents inside ++ close_text n

-- the same of dimensions that a value of the program has
abbrev pub dimensions_text : Sheet → Dimensions → List ℕ
dimensions_text sheet d = array_text (in_use d.extents) (inside_text sheet (inside_of d.base))

-- so many bytes
abbrev pub bytes_text : (size : ℕ) → List ℕ
bytes_text size = ascii "[u8; " ++ decimal size ++ ascii "]"

-- a type of this shape, or of so many bytes where it has none
abbrev pub shape_text : Sheet → (size : ℕ) → Option Shape → List ℕ
shape_text sheet size None = bytes_text size
shape_text sheet size (Some shape) = array_text shape.extents (inside_text sheet shape.inside)

-- type i as the type of a member; its bytes, where dimensions do not keep the steps
abbrev pub type_text : Sheet → (i : ℕ) → List ℕ
type_text sheet i =
    let rows = sheet.rows.now in
    shape_text sheet (row_word rows i 0) (shape_of (sheet.types.now) rows i)

-- ---- structs
-- the head of struct i
abbrev pub rust_open_text : Sheet → (i : ℕ) → List ℕ
rust_open_text sheet i =
    ascii "\n#[repr(C)]\n#[derive(Clone, Copy)]\n#[allow(dead_code, non_camel_case_types, non_snake_case)]\npub struct "
    ++ identifier.type_text sheet i
    ++ ascii " {\n"

-- struct i, which has no form for a host
abbrev pub rust_none_text : Sheet → (i : ℕ) → List ℕ
rust_none_text sheet i = ascii "\n// struct " ++ identifier.type_text sheet i ++ no_form ++ newline

-- the line of bytes that no member holds
abbrev pub rust_gap_text : Markup → (start bytes : ℕ) → List ℕ
rust_gap_text m start bytes = ascii "    pub unused_at_" ++ decimal start ++ ascii ": [u8; " ++ decimal bytes ++ ascii "],\n"

-- the line of a member: its name and type, and its offset and type in WGSL's words
abbrev pub rust_member_text : Markup → Member → List ℕ
rust_member_text m member =
    let sheet = member.of.sheet in
    ascii "    pub " ++ identifier.member_text sheet member.of.i member.j ++ ascii ": " ++ type_text sheet member.ty
    ++ (ascii ", // " ++ decimal member.offset ++ ascii ": ") ++ words.type_text m sheet member.ty ++ newline

-- ---- numbers
-- the end of struct i, and the head of its numbers
abbrev pub impl_text : Sheet → (i : ℕ) → List ℕ
impl_text sheet i = ascii "}\n#[allow(dead_code)]\nimpl " ++ identifier.type_text sheet i ++ ascii " {\n"

-- after the members of struct i: its size, its alignment, and how many offsets follow
abbrev pub rust_numbers_text : Sheet → (i : ℕ) → List ℕ
rust_numbers_text sheet i =
    let row = row_word (sheet.rows.now) i in
    impl_text sheet i
    ++ (ascii "    pub const SIZE: usize = " ++ decimal (row 0) ++ ascii ";\n")
    ++ (ascii "    pub const ALIGNMENT: usize = " ++ decimal (row 1) ++ ascii ";\n")
    ++ (ascii "    pub const OFFSETS: [usize; " ++ decimal (type_word (sheet.types.now) i 2) ++ ascii "] = [\n")

-- the offset of a member, one of those
abbrev pub rust_offset_text : Markup → Member → List ℕ
rust_offset_text m member = ascii "        " ++ decimal member.offset ++ ascii ",\n"

-- ---- assertions
-- the end of the numbers, and the assertion of the size
abbrev pub rust_size_text : Sheet → (i : ℕ) → List ℕ
rust_size_text sheet i =
    ascii "    ];\n}\nconst _: () = assert!(::core::mem::size_of::<" ++ identifier.type_text sheet i
    ++ (ascii ">() == " ++ decimal (row_word (sheet.rows.now) i 0) ++ ascii ");\n")

-- the assertion of a member's offset
abbrev pub rust_assertion_text : Markup → Member → List ℕ
rust_assertion_text m member =
    let of = member.of in
    ascii "const _: () = assert!(::core::mem::offset_of!(" ++ identifier.type_text of.sheet of.i
    ++ ascii ", " ++ identifier.member_text of.sheet of.i member.j
    ++ (ascii ") == " ++ decimal member.offset ++ ascii ");\n")
