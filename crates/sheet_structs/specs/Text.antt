-- The layout sheet: its bytes, in each of the four forms.
-- Assumes nothing.
use Rattle.std.specs.Prelude.{List, [], ◌++◌, ℕ, Option}
use Rattle.std.specs.List.{count_by, range_with_len}
use Rattle.ir_records.specs.Result.{pick}
use Rattle.ir_records.specs.Record.{type_count}
use Rattle.ir_records.specs.Fields.{most_types}
use Rattle.program_output.specs.Bytes.{ascii, decimal, joined}
use Rattle.sheet_names.specs.declared.Sheet.{Sheet}
use Rattle.sheet_names.specs.Text.{is_struct}
use Rattle.sheet_output.specs.declared.Markup.{Markup}
use Rattle.sheet_types.specs.Text.{file_text}
use Rattle.sheet_c.specs.Text.{c_start}
use Rattle.sheet_rust.specs.Text.{rust_start}
use Rattle.sheet_structs.specs.Page.{page_start, page_end}
use Rattle.sheet_structs.specs.Structs.{struct_text}
use Rattle.sheet_structs.specs.declared.Form.{Form}
use Rattle.sheet_structs.specs.declared.Form.TheVariants as form

-- ---- the start
-- what stands before the first struct. The name of the file stands where people read it, where there is one and it can be printed
abbrev pub start_text : Form → Markup → (name : Option (List ℕ)) → List ℕ
start_text form.Text m name = ascii "Layout sheet" ++ file_text m name ++ ascii "\n\n"
start_text form.C m name = c_start
start_text form.Rust m name = rust_start
start_text form.Page m name = page_start ++ file_text m name ++ ascii "</h1>\n"

-- ---- the structs
-- the structs in the order of their records
abbrev pub structs_text : Form → Markup → Sheet → List ℕ
structs_text form m sheet = joined (λ i. pick (is_struct (sheet.types.now) i) (struct_text form m sheet i) []) most_types

abbrev pub struct_count : (types : List ℕ) → ℕ
struct_count types = count_by (is_struct types) (range_with_len 0 most_types)

-- ---- the end
-- how much was read, and the limits
abbrev pub counts_text : (types structs : ℕ) (last : List ℕ) → List ℕ
counts_text types structs last =
    ascii "types: " ++ decimal types ++ ascii "; structs: " ++ decimal structs
    ++ ascii ". Only structs have a table. At most 1024 types and 4096 members are read."
    ++ last

-- what stands after the last struct of so many types and structs
abbrev pub end_text : Form → (types structs : ℕ) → List ℕ
end_text form.Text types structs = counts_text types structs (ascii "\n")
end_text form.C types structs = []
end_text form.Rust types structs = []
end_text form.Page types structs = ascii "<p>" ++ counts_text types structs (ascii "</p>\n") ++ page_end

-- ---- all
-- all structs of an accepted arena, and what stands after them
abbrev pub sheet_text : Form → Markup → Sheet → List ℕ
sheet_text form m sheet = structs_text form m sheet ++ end_text form (type_count (sheet.types.now)) (struct_count (sheet.types.now))
