-- The layout sheet: the lines of a struct's members and of the gaps between them, by the texts that a gap and a member have.
-- Assumes nothing.
use Rattle.std.specs.Prelude.{◌≡◌, List, [], ◌++◌, ℕ, zero, suc, ◌+◌, ◌-◌, max, ltb, Option, None, Some}
use Rattle.std.specs.Borrow.{MutBor}
use Rattle.std.specs.Fn.{Shared}
use Rattle.ir_records.specs.Result.{pick}
use Rattle.ir_records.specs.Record.{type_word, struct_members, member_type, member_offset}
use Rattle.ir_rows.specs.Rows.{row_word}
use Rattle.sheet_names.specs.declared.Sheet.{Sheet}
use Rattle.sheet_names.specs.declared.Member.{Member}
use Rattle.sheet_output.specs.declared.Markup.{Markup}
use Rattle.sheet_output.specs.declared.Unused.{Unused}
use Rattle.sheet_output.specs.declared.Writer.{Writer}
use Rattle.sheet_output.specs.Written.{Writes}

-- ---- lines
-- the text of so many unused bytes from a start on
abbrev pub GapText : Type 0
GapText = (start bytes : ℕ) → List ℕ

-- the text of member j, of this type and at this offset
abbrev pub MemberText : Type 0
MemberText = (j ty offset : ℕ) → List ℕ

-- the bytes from the end of one part to the start of the next, where there are any
abbrev pub gap_before : GapText → (end start : ℕ) → List ℕ
gap_before gap end start = pick (ltb end start) (gap end (start - end)) []

-- the byte after member j
abbrev pub member_end : (part rows : List ℕ) (j : ℕ) → ℕ
member_end part rows j = member_offset part j + row_word rows (member_type part j) 0

-- where the furthest of the first so many members ends
unfoldable pub furthest_end : (part rows : List ℕ) (count : ℕ) → ℕ
furthest_end part rows zero = 0
furthest_end part rows (suc j) = max (furthest_end part rows j) (member_end part rows j)

-- the first so many members, each after the gap before it
unfoldable pub member_lines : GapText → MemberText → (part rows : List ℕ) (count : ℕ) → List ℕ
member_lines gap member part rows zero = []
member_lines gap member part rows (suc j) =
    member_lines gap member part rows j
    ++ gap_before gap (furthest_end part rows j) (member_offset part j)
    ++ member j (member_type part j) (member_offset part j)

-- the gap after the last member, up to where the lines end, where they have an end
abbrev pub last_gap : GapText → (before : ℕ) → (end : Option ℕ) → List ℕ
last_gap gap before None = []
last_gap gap before (Some end) = gap_before gap before end

-- all members of struct i, the gaps between them and the one after them
abbrev pub lines_text : GapText → MemberText → Sheet → (i : ℕ) → (end : Option ℕ) → List ℕ
lines_text gap member sheet i end =
    let part = struct_members (sheet.types.now) (sheet.members.now) i in
    let count = type_word (sheet.types.now) i 2 in
    member_lines gap member part (sheet.rows.now) count ++ last_gap gap (furthest_end part (sheet.rows.now) count) end

-- ---- what is called for them
-- calls that change a writer by one part of a struct
abbrev pub Puts : (W F Part : Type 0) → Type 1
Puts W F Part = Shared F (MutBor (Writer W) × (Part × Unit {0})) (Unit {0} × (MutBor (Writer W) × Unit {0}))

-- a call of `put` writes this text of a gap
abbrev pub PutsGap : {W F : Type 0} → (W → Option (List ℕ)) → Puts W F Unused → (put : F) (text : Markup → GapText) → Type 0
PutsGap {W} contents calls put text =
    (was is : MutBor (Writer W)) (unused : Unused)
    → calls.post put (was, (unused, tt)) (tt, (is, tt))
    → Writes contents (was.now) (text (was.now.markup) unused.start unused.bytes) (is.now)

-- a call of `put` writes this text of a member of struct i
abbrev pub PutsMember : {W F : Type 0} → (W → Option (List ℕ)) → Puts W F Member → (put : F) → Sheet → (i : ℕ) (text : Markup → MemberText) → Type 0
PutsMember {W} contents calls put sheet i text =
    (was is : MutBor (Writer W)) (member : Member)
    → member.of.sheet ≡ sheet
    → member.of.i ≡ i
    → calls.post put (was, (member, tt)) (tt, (is, tt))
    → Writes contents (was.now) (text (was.now.markup) member.j member.ty member.offset) (is.now)
