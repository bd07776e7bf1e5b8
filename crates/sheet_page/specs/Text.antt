-- The layout sheet: the bytes of a struct's table on a page: a row for each member and one for each gap.
-- Assumes nothing.
use Rattle.std.specs.Prelude.{List, ◌++◌, ℕ, ◌%◌}
use Rattle.ir_rows.specs.Rows.{row_word}
use Rattle.program_output.specs.Bytes.{ascii, decimal}
use Rattle.sheet_names.specs.declared.Sheet.{Sheet}
use Rattle.sheet_output.specs.declared.Markup.{Markup}
use Rattle.sheet_types.specs.Text.{member_text, type_text}
use Rattle.sheet_table.specs.Text.{steps_text}

abbrev pub number_cell : (n : ℕ) → List ℕ
number_cell n = ascii "<td class=\"n\">" ++ decimal n ++ ascii "</td>"

-- so many bytes that no member holds, from a start on
abbrev pub gap_row : (start bytes : ℕ) → List ℕ
gap_row start bytes = ascii "<tr>" ++ number_cell start ++ number_cell bytes ++ ascii "<td></td><td class=\"gap\"></td><td>unused</td></tr>\n"

-- the start of the cell with the name of member j: it has one of eight colours
abbrev pub coloured : (j : ℕ) → List ℕ
coloured j = ascii "<td class=\"c" ++ decimal (j % 8) ++ ascii "\">"

-- offset, size and alignment of member j of struct i, its name and its type
abbrev pub member_row : Markup → Sheet → (i j ty offset : ℕ) → List ℕ
member_row m sheet i j ty offset =
    ascii "<tr>" ++ number_cell offset ++ number_cell (row_word (sheet.rows.now) ty 0) ++ number_cell (row_word (sheet.rows.now) ty 1)
    ++ coloured j
    ++ member_text m sheet i j
    ++ ascii "</td><td>"
    ++ type_text m sheet ty
    ++ steps_text (sheet.types.now) ty
    ++ ascii "</td></tr>\n"
