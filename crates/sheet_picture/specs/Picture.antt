-- The layout sheet: the bytes of the picture of a struct's bytes: sixteen to a row, in runs of bytes that are drawn as one member.
-- Assumes nothing.
use Rattle.std.specs.Prelude.{List, [], ◌∷◌, ◌++◌, ℕ, zero, suc, ◌+◌, ◌-◌, ◌*◌, ◌%◌, min, eqb, ltb, Option, None, Some}
use Rattle.std.specs.Int.{div_ceil}
use Rattle.std.specs.Option.{option_eq}
use Rattle.ir_records.specs.Result.{pick}
use Rattle.ir_records.specs.Record.{type_word, struct_members}
use Rattle.ir_rows.specs.Rows.{row_word}
use Rattle.program_output.specs.Bytes.{ascii, decimal}
use Rattle.sheet_names.specs.declared.Sheet.{Sheet}
use Rattle.sheet_output.specs.declared.Markup.{Markup}
use Rattle.sheet_types.specs.Text.{member_text}
use Rattle.sheet_bytes.specs.Holder.{holder_of}
use Rattle.sheet_bytes.specs.Leaf.{in_leaf}

-- ---- runs
-- the member of struct i that holds a byte in a leaf; none where no leaf holds it
abbrev pub drawn_as : Sheet → (i byte : ℕ) → Option ℕ
drawn_as sheet i byte =
    let part = struct_members (sheet.types.now) (sheet.members.now) i in
    pick (in_leaf sheet i byte) (holder_of part (sheet.rows.now) (type_word (sheet.types.now) i 2) byte) None

-- so many bytes that are drawn as one member, or as none
pub record Run : Type 0 where
  pub member : Option ℕ
  pub bytes : ℕ

-- a byte before runs: it makes the first of them longer, or is one of its own
abbrev pub byte_before : (member : Option ℕ) → List Run → List Run
byte_before member [] = record { member = member; bytes = 1 } ∷ []
byte_before member (run ∷ runs) =
    pick (option_eq eqb member (run.member)) (record { member = member; bytes = suc (run.bytes) } ∷ runs) (record { member = member; bytes = 1 } ∷ run ∷ runs)

-- the runs of so many bytes from a start on, by what each byte is drawn as
unfoldable pub runs_of : (drawn : ℕ → Option ℕ) (bytes start : ℕ) → List Run
runs_of drawn zero start = []
runs_of drawn (suc bytes) start = byte_before (drawn start) (runs_of drawn bytes (start + 1))

-- ---- rows
-- a run is a member's name in the member's colour, or a gap
abbrev pub run_inside : Markup → Sheet → (i : ℕ) (member : Option ℕ) → List ℕ
run_inside m sheet i None = ascii "gap\"></td>"
run_inside m sheet i (Some j) = (ascii "c" ++ decimal (j % 8) ++ ascii "\">") ++ member_text m sheet i j ++ ascii "</td>"

abbrev pub run_text : Markup → Sheet → (i : ℕ) (member : Option ℕ) (bytes : ℕ) → List ℕ
run_text m sheet i member bytes = ascii "<td colspan=\"" ++ decimal bytes ++ ascii "\" class=\"" ++ run_inside m sheet i member

unfoldable pub runs_text : Markup → Sheet → (i : ℕ) → List Run → List ℕ
runs_text m sheet i [] = []
runs_text m sheet i (run ∷ runs) = run_text m sheet i (run.member) (run.bytes) ++ runs_text m sheet i runs

-- the bytes of struct i from one up to a limit
abbrev pub row_text : Markup → Sheet → (i from limit : ℕ) → List ℕ
row_text m sheet i from limit =
    ascii "<tr><th>" ++ decimal from ++ ascii "</th>" ++ runs_text m sheet i (runs_of (drawn_as sheet i) (limit - from) from) ++ ascii "</tr>\n"

-- ---- the picture
-- more bytes of a struct are not drawn
abbrev pub most_drawn : ℕ
most_drawn = 4096

-- the first so many rows, of sixteen bytes each; the last one has what is left of the bytes that are drawn
unfoldable pub rows_before : Markup → Sheet → (i drawn rows : ℕ) → List ℕ
rows_before m sheet i drawn zero = []
rows_before m sheet i drawn (suc row) = rows_before m sheet i drawn row ++ row_text m sheet i (row * 16) (min drawn (row * 16 + 16))

-- the rows of all bytes of struct i that are drawn
abbrev pub rows_text : Markup → Sheet → (i : ℕ) → List ℕ
rows_text m sheet i =
    let drawn = min most_drawn (row_word (sheet.rows.now) i 0) in
    rows_before m sheet i drawn (div_ceil drawn 16)

-- under the picture: what is not drawn
abbrev pub rest_text : (size : ℕ) → List ℕ
rest_text size = ascii "</table>\n" ++ pick (ltb most_drawn size) (ascii "<p>Bytes from " ++ decimal most_drawn ++ ascii " on are not drawn.</p>\n") []
