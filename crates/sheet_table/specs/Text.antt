-- The layout sheet: the bytes of a struct's table: its head, a line for each member and one for each gap.
-- Assumes nothing.
use Rattle.std.specs.Prelude.{List, [], ◌++◌, ℕ, ◌-◌, eqb, length, replicate, Option, None, Some}
use Rattle.ir_records.specs.Result.{pick}
use Rattle.ir_records.specs.Record.{type_word, type_inner, array_kind}
use Rattle.ir_rows.specs.Rows.{row_word}
use Rattle.program_output.specs.Bytes.{ascii, decimal, newline}
use Rattle.sheet_names.specs.declared.Sheet.{Sheet}
use Rattle.sheet_names.specs.Names.{member_name}
use Rattle.sheet_output.specs.declared.Markup.{Markup}
use Rattle.sheet_types.specs.Types.{name_length, inside_arrays, most_depth, inner_step}
use Rattle.sheet_types.specs.Text.{member_text, type_text}
use Rattle.sheet_table.specs.Width.{head_length}

-- ---- columns
-- a number at the right of so many columns
abbrev pub number_column : (width n : ℕ) → List ℕ
number_column width n = replicate (width - length (decimal n)) 32 ++ decimal n

-- blanks after so many bytes of a name, up to the width of its column
abbrev pub rest_text : (used width : ℕ) → List ℕ
rest_text used width = replicate (width - used) 32

-- ---- lines
abbrev pub head_text : (width : ℕ) → List ℕ
head_text width = ascii "    offset    size  align  member" ++ rest_text head_length width ++ ascii "  type\n"

-- so many bytes that no member holds, from a start on
abbrev pub gap_text : (start bytes : ℕ) → List ℕ
gap_text start bytes =
    number_column 10 start ++ (ascii "  " ++ decimal bytes ++ ascii " ") ++ pick (eqb bytes 1) (ascii "byte unused\n") (ascii "bytes unused\n")

-- how far apart the elements of an array lie; nothing of another type
abbrev pub elements_text : (types : List ℕ) (i : ℕ) → List ℕ
elements_text types i = pick (eqb (type_word types i 0) array_kind) (ascii ", elements " ++ decimal (type_word types i 4) ++ ascii " apart") []

-- how far apart the columns of a matrix lie
abbrev pub columns_text : (step : Option ℕ) → List ℕ
columns_text None = []
columns_text (Some step) = ascii ", columns " ++ decimal step ++ ascii " apart"

-- the steps of type i as an array, and those of a matrix that it is or that stands inside all its arrays
abbrev pub steps_text : (types : List ℕ) (i : ℕ) → List ℕ
steps_text types i = elements_text types i ++ columns_text (inner_step (type_inner types (inside_arrays types most_depth i)))

-- the name of member j of struct i, and blanks up to the width of the column
abbrev pub named_text : Markup → Sheet → (i j width : ℕ) → List ℕ
named_text m sheet i j width =
    let used = name_length (member_name (sheet.text.now) (sheet.names.now) (sheet.types.now) i j) j in
    ascii "  " ++ member_text m sheet i j ++ rest_text used width ++ ascii "  "

-- offset, size and alignment of member j of struct i, its name and its type
abbrev pub member_line : Markup → Sheet → (i j ty offset width : ℕ) → List ℕ
member_line m sheet i j ty offset width =
    number_column 10 offset ++ number_column 8 (row_word (sheet.rows.now) ty 0) ++ ascii "  " ++ number_column 5 (row_word (sheet.rows.now) ty 1)
    ++ named_text m sheet i j width
    ++ type_text m sheet ty
    ++ steps_text (sheet.types.now) ty
    ++ newline
