-- The layout sheet: the bytes of what a struct measures, and of its verdicts.
-- Assumes nothing.
use Rattle.std.specs.Prelude.{List, [], ◌++◌, ℕ, ◌+◌, eqb, Option, None, Some}
use Rattle.ir_records.specs.Result.{pick}
use Rattle.ir_rows.specs.Rows.{row_word}
use Rattle.valid_flags.specs.Flags.{bit, sized_bit, host_shareable_bit}
use Rattle.valid_type_info.specs.declared.Disalignment.{Disalignment}
use Rattle.valid_type_info.specs.declared.Disalignment.TheVariants as wrong
use Rattle.valid_type_info.specs.declared.Verdict.{Verdict}
use Rattle.program_output.specs.Bytes.{ascii, decimal}
use Rattle.sheet_names.specs.declared.Sheet.{Sheet}
use Rattle.sheet_output.specs.declared.Markup.{Markup}
use Rattle.sheet_types.specs.Text.{struct_name, numbered_member, type_text}
use Rattle.sheet_verdicts.specs.declared.Space.{Space}
use Rattle.sheet_verdicts.specs.declared.Space.TheVariants as space

-- ---- measures
-- size and alignment of type i; a runtime-sized array counts as one element
abbrev pub measures_text : (rows : List ℕ) (i : ℕ) → List ℕ
measures_text rows i =
    ascii "size " ++ decimal (row_word rows i 0)
    ++ pick (bit (row_word rows i 2) sized_bit) [] (ascii " with one element")
    ++ (ascii ", alignment " ++ decimal (row_word rows i 1))

-- ---- verdicts
-- where the five words of a verdict begin in a row
abbrev pub first_word : Space → ℕ
first_word space.Uniform = 3
first_word space.Storage = 8

abbrev pub verdict_at : (rows : List ℕ) (i first : ℕ) → Verdict
verdict_at rows i first =
    record {
      code = row_word rows i first;
      ty = row_word rows i (first + 1);
      index = row_word rows i (first + 2);
      value = row_word rows i (first + 3);
      bound = row_word rows i (first + 4);
    }

-- member j of struct `of`, and that struct, where it is another one than the type that is judged
abbrev pub member_text : Markup → Sheet → (judged of j : ℕ) → List ℕ
member_text m sheet judged of j = numbered_member m sheet of j ++ pick (eqb of judged) [] (ascii " of " ++ struct_name m sheet of)

-- the number that is wrong after a text, and of what it must be a multiple
abbrev pub uneven_text : (before : List ℕ) → Verdict → (after : List ℕ) → List ℕ
uneven_text before v after = before ++ decimal v.value ++ after ++ (ascii " must be a multiple of " ++ decimal v.bound)

-- what is wrong with the type that a verdict names, or with a member of it
abbrev pub wrong_text : Markup → Sheet → (judged : ℕ) → Verdict → Disalignment → List ℕ
wrong_text m sheet judged v wrong.ArrayStride = type_text m sheet v.ty ++ uneven_text (ascii " has its elements ") v (ascii " apart, which")
wrong_text m sheet judged v wrong.StructSpan = type_text m sheet v.ty ++ uneven_text (ascii " has size ") v (ascii ", which")
wrong_text m sheet judged v wrong.MemberOffset = member_text m sheet judged v.ty v.index ++ uneven_text (ascii " at ") v []
wrong_text m sheet judged v wrong.MemberOffsetAfterStruct =
    member_text m sheet judged v.ty v.index
    ++ (ascii " at " ++ decimal v.value ++ ascii " stands after a struct and must")
    ++ (ascii " be at " ++ decimal v.bound ++ ascii " or later")
wrong_text m sheet judged v wrong.UnsizedMember = member_text m sheet judged v.ty v.index ++ ascii " is runtime-sized"
wrong_text m sheet judged v wrong.NonHostShareable = type_text m sheet v.ty ++ ascii " is not host-shareable"

-- what is wrong by a code; nothing by 0, and by a code of none
abbrev pub wrong_of : (code : ℕ) → Option Disalignment
wrong_of code =
    pick (eqb code 1) (Some wrong.ArrayStride)
    (pick (eqb code 2) (Some wrong.StructSpan)
    (pick (eqb code 3) (Some wrong.MemberOffset)
    (pick (eqb code 4) (Some wrong.MemberOffsetAfterStruct)
    (pick (eqb code 5) (Some wrong.UnsizedMember)
    (pick (eqb code 6) (Some wrong.NonHostShareable)
    None)))))

-- a verdict of type i: what is wrong, or else its alignment, where the type is host-shareable
abbrev pub judged_text : Markup → Sheet → (i : ℕ) → Verdict → Option Disalignment → List ℕ
judged_text m sheet i v (Some wrong) = wrong_text m sheet i v wrong
judged_text m sheet i v None =
    pick (bit (row_word (sheet.rows.now) i 2) host_shareable_bit) (ascii "ok, " ++ decimal v.ty) (ascii "no, the struct is not host-shareable")

-- the verdict of type i for a space
abbrev pub verdict_text : Markup → Sheet → (i : ℕ) → Space → List ℕ
verdict_text m sheet i space =
    let v = verdict_at (sheet.rows.now) i (first_word space) in
    judged_text m sheet i v (wrong_of v.code)
