-- The layout sheet: the bytes of a struct in C and of its assertions.
-- Assumes nothing.
use Rattle.std.specs.Prelude.{Bool, List, ◌++◌, ℕ, ◌*◌, ◌-◌, eqb, Option, None, Some}
use Rattle.std.specs.List.{flat_map}
use Rattle.ir_records.specs.Result.{pick}
use Rattle.ir_records.specs.Record.{type_word, struct_members, member_type}
use Rattle.ir_rows.specs.Rows.{row_word}
use Rattle.program_output.specs.Bytes.{ascii, decimal, newline}
use Rattle.sheet_names.specs.declared.Sheet.{Sheet}
use Rattle.sheet_names.specs.declared.Member.{Member}
use Rattle.sheet_output.specs.declared.Markup.{Markup}
use Rattle.sheet_types.specs.Text as words
use Rattle.sheet_dimensions.specs.Shapes.{Shape, Inside, scalar, struct, shape_of, no_form}
use Rattle.sheet_identifiers.specs.Identifiers as identifier
use Rattle.sheet_c.specs.Last.{is_open_at}

-- what stands before the first struct
abbrev pub c_start : List ℕ
c_start =
    ascii "/* Made by sheet. The assertions hold where the host's structs are those of the kernel. */\n"
    ++ ascii "#pragma once\n#include <stddef.h>\n#include <stdint.h>\n"

-- ---- types
-- a scalar by the number of its kind: int32_t, uint32_t, float and double. A host has no f16: its bits are an uint16_t
abbrev pub c_scalar_text : (kind width : ℕ) → List ℕ
c_scalar_text kind width =
    let bits = decimal (width * 8) ++ ascii "_t" in
    pick (eqb kind 0) (ascii "int" ++ bits)
    (pick (eqb kind 1) (ascii "uint" ++ bits)
    (pick (eqb width 2) (ascii "uint16_t")
    (pick (eqb width 4) (ascii "float") (ascii "double"))))

-- struct i
abbrev pub tag_text : Sheet → (i : ℕ) → List ℕ
tag_text sheet i = ascii "struct " ++ identifier.type_text sheet i

-- what stands inside all dimensions
abbrev pub inside_text : Sheet → Inside → List ℕ
inside_text sheet (scalar kind width) = c_scalar_text kind width
inside_text sheet (struct i) = tag_text sheet i

-- a dimension of so many elements; a runtime-sized one has no number, or 1 where it is in the only member
abbrev pub dimension_text : (alone : Bool) (n : Option ℕ) → List ℕ
dimension_text alone (Some n) = ascii "[" ++ decimal n ++ ascii "]"
dimension_text alone None = pick alone (ascii "[1]") (ascii "[]")

-- outermost first
abbrev pub dimensions_text : (alone : Bool) → List (Option ℕ) → List ℕ
dimensions_text alone extents = flat_map (dimension_text alone) extents

-- ---- members
-- a member of so many bytes
abbrev pub bytes_text : Member → (size : ℕ) → List ℕ
bytes_text member size =
    ascii "uint8_t " ++ identifier.member_text member.of.sheet member.of.i member.j ++ (ascii "[" ++ decimal size ++ ascii "]")

-- type, name and dimensions of a member, or its bytes where it has no shape. A runtime-sized array that is the first member is the only one
abbrev pub shape_text : Member → (size : ℕ) → Option Shape → List ℕ
shape_text member size None = bytes_text member size
shape_text member size (Some shape) =
    let sheet = member.of.sheet in
    inside_text sheet shape.inside ++ ascii " " ++ identifier.member_text sheet member.of.i member.j ++ dimensions_text (eqb member.j 0) shape.extents

-- a member by its type; its bytes, where dimensions do not keep the steps
abbrev pub declared_text : Member → List ℕ
declared_text member =
    let rows = member.of.sheet.rows.now in
    shape_text member (row_word rows member.ty 0) (shape_of (member.of.sheet.types.now) rows member.ty)

-- ---- structs
-- the head of struct i
abbrev pub c_open_text : Sheet → (i : ℕ) → List ℕ
c_open_text sheet i = newline ++ tag_text sheet i ++ ascii " {\n"

-- the end of a struct
abbrev pub c_close : List ℕ
c_close = ascii "};\n"

-- struct i, which has no form for a host
abbrev pub c_none_text : Sheet → (i : ℕ) → List ℕ
c_none_text sheet i = ascii "\n/* " ++ tag_text sheet i ++ no_form ++ ascii " */\n"

-- the line of bytes that no member holds
abbrev pub c_gap_text : Markup → (start bytes : ℕ) → List ℕ
c_gap_text m start bytes = ascii "    uint8_t unused_at_" ++ decimal start ++ ascii "[" ++ decimal bytes ++ ascii "];\n"

-- the line of a member, with its offset and its type in WGSL's words
abbrev pub c_member_text : Markup → Member → List ℕ
c_member_text m member =
    ascii "    " ++ declared_text member
    ++ (ascii "; /* " ++ decimal member.offset ++ ascii ": ") ++ words.type_text m (member.of.sheet) member.ty ++ ascii " */\n"

-- ---- assertions
-- the assertion of a member's offset
abbrev pub c_offset_text : Markup → Member → List ℕ
c_offset_text m member =
    let of = member.of in
    ascii "_Static_assert(offsetof(" ++ tag_text of.sheet of.i ++ ascii ", " ++ identifier.member_text of.sheet of.i member.j
    ++ (ascii ") == " ++ decimal member.offset ++ ascii ", \"offset\");\n")

-- the assertion of the size of struct i
abbrev pub size_text : Sheet → (i : ℕ) → List ℕ
size_text sheet i = ascii "_Static_assert(sizeof(" ++ tag_text sheet i ++ (ascii ") == " ++ decimal (row_word (sheet.rows.now) i 0) ++ ascii ", \"size\");\n")

-- the assertion of the step of member j of struct i, whose type is a runtime-sized array and has no part in sizeof
abbrev pub step_text : Sheet → (i j ty : ℕ) → List ℕ
step_text sheet i j ty =
    ascii "_Static_assert(sizeof(((" ++ tag_text sheet i ++ ascii " *)0)->" ++ identifier.member_text sheet i j
    ++ (ascii "[0]) == " ++ decimal (type_word (sheet.types.now) ty 4) ++ ascii ", \"step\");\n")

-- after the offsets of struct i: its size, or the step of its last member where that is a runtime-sized array after others
abbrev pub c_end_text : Sheet → (i : ℕ) → List ℕ
c_end_text sheet i =
    let types = sheet.types.now in
    let j = type_word types i 2 - 1 in
    let ty = member_type (struct_members types (sheet.members.now) i) j in
    pick (is_open_at types j ty) (step_text sheet i j ty) (size_text sheet i)
