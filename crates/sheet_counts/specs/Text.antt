-- The layout sheet: the slots of a struct in words.
-- Assumes nothing.
use Rattle.std.specs.Prelude.{List, [], ◌++◌, ℕ, leb, get_or, Option, None, Some}
use Rattle.ir_records.specs.Result.{pick}
use Rattle.ir_rows.specs.Rows.{row_word}
use Rattle.valid_flags.specs.Flags.{bit, sized_bit, host_shareable_bit}
use Rattle.immediates_ranges.specs.declared.Slots.{Slots}
use Rattle.program_output.specs.Bytes.{ascii}
use Rattle.sheet_names.specs.declared.Sheet.{Sheet}
use Rattle.sheet_names.specs.Row.{may_be_immediate}
use Rattle.sheet_verdicts.specs.Slots.{slots_text}

-- why struct i, which may be no immediate, has no slots: it is not host-shareable, has no fixed size or has 16-bit scalars
abbrev pub no_slots_text : (rows : List ℕ) (i : ℕ) → List ℕ
no_slots_text rows i =
    let flags = row_word rows i 2 in
    pick (bit flags host_shareable_bit)
    (pick (bit flags sized_bit) (ascii "no, a member has 16-bit scalars") (ascii "no, the struct is runtime-sized"))
    (ascii "no, the struct is not host-shareable")

-- the slots that are counted of a type, where any are
abbrev pub counted_text : Option Slots → List ℕ
counted_text None = []
counted_text (Some slots) = slots_text slots

-- the slots of struct i, or why there are none; all slots have 256 bytes
abbrev pub struct_slots_text : Sheet → (i : ℕ) → List ℕ
struct_slots_text sheet i =
    let rows = sheet.rows.now in
    pick (may_be_immediate rows i)
    (pick (leb (row_word rows i 0) 256) (ascii "slots" ++ counted_text (get_or (sheet.slots.now) i None)) (ascii "no, the struct ends past byte 256"))
    (no_slots_text rows i)
