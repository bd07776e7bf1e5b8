-- The layout sheet: the bytes of a refusal.
-- Assumes nothing.
use Rattle.std.specs.Prelude.{List, [], ◌++◌, ℕ, min, eqb, ltb, length, Option, None, Some}
use Rattle.ir_records.specs.Result.{pick}
use Rattle.ir_records.specs.Record.{type_word, struct_kind}
use Rattle.ir_records.specs.declared.Fault.{Fault}
use Rattle.ir_records.specs.declared.Refusal.{Refusal}
use Rattle.program_words.specs.declared.Span.{Span}
use Rattle.program_output.specs.Bytes.{ascii, decimal, newline}
use Rattle.spirv_words.specs.Module.{header_words, opcode}
use Rattle.wgsl_messages.specs.Position.{line_of, column_of}
use Rattle.sheet_names.specs.declared.Sheet.{Sheet}
use Rattle.sheet_names.specs.Names.{type_place, member_place}
use Rattle.sheet_output.specs.declared.Writer.{Writer}
use Rattle.sheet_output.specs.declared.Markup.{Markup}
use Rattle.sheet_output.specs.declared.Markup.TheVariants as markup
use Rattle.sheet_types.specs.Text.{struct_name, numbered_member, type_text}
use Rattle.sheet_meanings.specs.Meanings.{fault_text, capability_text, instruction_text}
use Rattle.sheet_places.specs.Places.{place_of}
use Rattle.sheet_places.specs.Halving.{refused_before, refused_at}
use Rattle.sheet_refusals.specs.Named.{named_member, named_type, missing_capability, member_with, Part}

-- ---- a text and a module
-- the number and its meaning, and a message
abbrev pub refused_text : Fault → (message : List ℕ) → List ℕ
refused_text fault message = fault_text fault ++ ascii "  " ++ message

-- the word at which an instruction stands, and the instruction; the first five words are the header
abbrev pub word_text : (words : List ℕ) (place : ℕ) → List ℕ
word_text words place =
    ascii "word " ++ decimal place ++ ascii ", " ++ pick (ltb place header_words) (ascii "the header\n") (instruction_text (opcode words place))

-- where a module is refused: word 0 where what stands before the first instruction is refused, and else the instruction that is found by halves
abbrev pub refused_word : (words : List ℕ) → ℕ
refused_word words = pick (refused_before words 0) 0 (place_of words (refused_at words))

-- ---- places in a text
-- the line and the column of a byte; past the end of the text, those of its end
abbrev pub position_text : (text : List ℕ) (byte : ℕ) → List ℕ
position_text text byte =
    let at = min byte (length text) in ascii ", line " ++ decimal (line_of text at) ++ ascii ", column " ++ decimal (column_of text at)

-- where a name stands, where that is known
abbrev pub span_text : (text : List ℕ) → Option Span → List ℕ
span_text text None = []
span_text text (Some name) = position_text text name.start

-- a member of struct i, where one is meant
abbrev pub named_text : Markup → Sheet → (i : ℕ) (member : Option ℕ) → List ℕ
named_text m sheet i None = []
named_text m sheet i (Some j) = ascii ", " ++ numbered_member m sheet i j

-- where the name of the member stands, or else that of the struct
abbrev pub named_place : Sheet → (i : ℕ) (member : Option ℕ) → Option Span
named_place sheet i None = type_place (sheet.names.now) i
named_place sheet i (Some j) = member_place (sheet.names.now) (sheet.types.now) i j

-- the name of struct i, of a member of it where one is meant, and where the last of them stands
abbrev pub place_text : Markup → Sheet → (i : ℕ) (member : Option ℕ) → List ℕ
place_text m sheet i member =
    ascii "  struct " ++ struct_name m sheet i ++ named_text m sheet i member ++ span_text (sheet.text.now) (named_place sheet i member) ++ newline

-- a member and its struct, where there is one
abbrev pub part_text : Markup → Sheet → Option Part → List ℕ
part_text m sheet None = []
part_text m sheet (Some part) = place_text m sheet part.of (Some part.number)

-- ---- the records of a text and of a module
-- refused type i in a text: the struct and the member, or the member in whose type it stands
abbrev pub in_text : Markup → Sheet → (i : ℕ) → (member : Option ℕ) → List ℕ
in_text m sheet i member =
    pick (eqb (type_word (sheet.types.now) i 0) struct_kind) (place_text m sheet i member)
    (part_text m sheet (member_with (sheet.types.now) (sheet.members.now) i))

-- the instruction of a type, where it has a place
abbrev pub instruction_at : (words : List ℕ) → (place : Option ℕ) → List ℕ
instruction_at words None = newline
instruction_at words (Some place) = word_text words place

-- refused type i in a module: the type and the member, and the instruction
abbrev pub in_module : Markup → Sheet → (words : List ℕ) (place : Option ℕ) (i : ℕ) (member : Option ℕ) → List ℕ
in_module m sheet words place i member =
    ascii "  " ++ type_text m sheet i ++ named_text m sheet i member ++ ascii ", " ++ instruction_at words place

-- the capability that is missing, where one is
abbrev pub missing_text : Option ℕ → List ℕ
missing_text None = []
missing_text (Some bit) = ascii "  " ++ capability_text bit

-- the number, its meaning, and the capability
abbrev pub number_text : Refusal → List ℕ
number_text refusal = fault_text refusal.fault ++ missing_text (missing_capability refusal)

-- what is said of the type, where the refusal names one
abbrev pub of_type : (ℕ → List ℕ) → Option ℕ → List ℕ
of_type says None = []
of_type says (Some i) = says i

-- a refusal is plain text, and no part of a page
abbrev pub text_arena : Sheet → Refusal → List ℕ
text_arena sheet refusal = number_text refusal ++ of_type (λ i. in_text markup.Plain sheet i (named_member refusal)) (named_type refusal)

-- the same of a module; `place` is where the instruction of the refused type stands
abbrev pub module_arena : Sheet → (words : List ℕ) (place : Option ℕ) → Refusal → List ℕ
module_arena sheet words place refusal =
    number_text refusal ++ of_type (λ i. in_module markup.Plain sheet words place i (named_member refusal)) (named_type refusal)

-- the same writer, which writes marks as they are from here on
abbrev pub plain : {W : Type 0} → Writer W → Writer W
plain w = record { out = w.out; to = w.to; markup = markup.Plain }
