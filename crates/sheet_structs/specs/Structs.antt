-- The layout sheet: the bytes of a struct, in each of the four forms.
-- Assumes nothing.
use Rattle.std.specs.Prelude.{List, [], ◌++◌, ℕ, Some}
use Rattle.ir_records.specs.Result.{pick}
use Rattle.ir_records.specs.Record.{type_word, struct_members, member_type, member_offset}
use Rattle.ir_rows.specs.Rows.{row_word}
use Rattle.valid_flags.specs.Flags.{bit, host_shareable_bit}
use Rattle.program_output.specs.Bytes.{ascii, joined, newline}
use Rattle.sheet_names.specs.declared.Sheet.{Sheet}
use Rattle.sheet_names.specs.declared.Member.{Member}
use Rattle.sheet_names.specs.Row.{is_usable}
use Rattle.sheet_output.specs.declared.Markup.{Markup}
use Rattle.sheet_types.specs.Text.{struct_name}
use Rattle.sheet_lines.specs.Lines.{MemberText, lines_text}
use Rattle.sheet_table.specs.Width.{name_width}
use Rattle.sheet_table.specs.Text.{gap_text, head_text, member_line}
use Rattle.sheet_c.specs.Last.{last_byte_of}
use Rattle.sheet_c.specs.Text.{c_open_text, c_close, c_none_text, c_gap_text, c_member_text, c_offset_text, c_end_text}
use Rattle.sheet_rust.specs.Text.{rust_open_text, rust_none_text, rust_gap_text, rust_member_text}
use Rattle.sheet_rust.specs.Text.{rust_numbers_text, rust_offset_text, rust_size_text, rust_assertion_text}
use Rattle.sheet_page.specs.Text.{gap_row, member_row}
use Rattle.sheet_picture.specs.Picture.{rows_text, rest_text}
use Rattle.sheet_structs.specs.Facts.{facts_text}
use Rattle.sheet_structs.specs.Page.{table_start, table_end, picture_start}
use Rattle.sheet_structs.specs.declared.Form.{Form}
use Rattle.sheet_structs.specs.declared.Form.TheVariants as form

-- how many bytes type i has
abbrev pub size_of : Sheet → (i : ℕ) → ℕ
size_of sheet i = row_word (sheet.rows.now) i 0

-- ---- members
-- the text of a member, by its number, type and offset in struct i
abbrev pub of_member : (text : Member → List ℕ) → Sheet → (i : ℕ) → MemberText
of_member text sheet i = λ j ty offset. text (record { of = record { sheet = sheet; i = i }; j = j; ty = ty; offset = offset })

-- a text of each member of struct i
abbrev pub each_text : MemberText → Sheet → (i : ℕ) → List ℕ
each_text member sheet i =
    let part = struct_members (sheet.types.now) (sheet.members.now) i in
    joined (λ j. member j (member_type part j) (member_offset part j)) (type_word (sheet.types.now) i 2)

-- ---- text
-- how wide the names of the members of struct i are
abbrev pub width_of : Sheet → (i : ℕ) → ℕ
width_of sheet i = name_width (sheet.text.now) (sheet.names.now) (sheet.types.now) i (type_word (sheet.types.now) i 2)

-- the line of a member, where the names are so wide
abbrev pub text_member : (width : ℕ) → Markup → Member → List ℕ
text_member width m member = member_line m member.of.sheet member.of.i member.j member.ty member.offset width

-- struct i: its facts, and a table of its members
abbrev pub text_struct : Markup → Sheet → (i : ℕ) → List ℕ
text_struct m sheet i =
    ascii "struct " ++ struct_name m sheet i ++ ascii "\n  " ++ facts_text m (ascii "\n  ") sheet i ++ newline
    ++ head_text (width_of sheet i)
    ++ lines_text gap_text (of_member (text_member (width_of sheet i) m) sheet i) sheet i (Some (size_of sheet i))
    ++ newline

-- ---- C
-- struct i with its assertions, where a host may fill a buffer with it. Nothing may stand after a runtime-sized array that stands after others
abbrev pub c_struct : Markup → Sheet → (i : ℕ) → List ℕ
c_struct m sheet i =
    let types = sheet.types.now in
    let end = last_byte_of types (struct_members types (sheet.members.now) i) (type_word types i 2) (size_of sheet i) in
    pick (is_usable (sheet.rows.now) i)
    (c_open_text sheet i
    ++ lines_text (c_gap_text m) (of_member (c_member_text m) sheet i) sheet i end
    ++ c_close
    ++ each_text (of_member (c_offset_text m) sheet i) sheet i
    ++ c_end_text sheet i)
    (c_none_text sheet i)

-- ---- Rust
-- struct i with its numbers and assertions, where a host may fill a buffer with it
abbrev pub rust_struct : Markup → Sheet → (i : ℕ) → List ℕ
rust_struct m sheet i =
    pick (is_usable (sheet.rows.now) i)
    (rust_open_text sheet i
    ++ lines_text (rust_gap_text m) (of_member (rust_member_text m) sheet i) sheet i (Some (size_of sheet i))
    ++ rust_numbers_text sheet i
    ++ each_text (of_member (rust_offset_text m) sheet i) sheet i
    ++ rust_size_text sheet i
    ++ each_text (of_member (rust_assertion_text m) sheet i) sheet i)
    (rust_none_text sheet i)

-- ---- page
-- the row of a member
abbrev pub page_member : Markup → Member → List ℕ
page_member m member = member_row m member.of.sheet member.of.i member.j member.ty member.offset

-- the picture of the bytes of struct i, where it is host-shareable
abbrev pub picture_text : Markup → Sheet → (i : ℕ) → List ℕ
picture_text m sheet i =
    pick (bit (row_word (sheet.rows.now) i 2) host_shareable_bit) (picture_start ++ rows_text m sheet i ++ rest_text (size_of sheet i)) []

-- struct i: its facts, a table of its members, and the picture of its bytes
abbrev pub page_struct : Markup → Sheet → (i : ℕ) → List ℕ
page_struct m sheet i =
    ascii "<h2>struct " ++ struct_name m sheet i ++ ascii "</h2>\n<p>" ++ facts_text m (ascii "<br>\n") sheet i
    ++ table_start
    ++ lines_text gap_row (of_member (page_member m) sheet i) sheet i (Some (size_of sheet i))
    ++ table_end
    ++ picture_text m sheet i

-- ---- forms
-- struct i in a form
abbrev pub struct_text : Form → Markup → Sheet → (i : ℕ) → List ℕ
struct_text form.Text m sheet i = text_struct m sheet i
struct_text form.C m sheet i = c_struct m sheet i
struct_text form.Rust m sheet i = rust_struct m sheet i
struct_text form.Page m sheet i = page_struct m sheet i
