-- The layout sheet: what is written of the bytes of a file, a WGSL text or a SPIR-V module.
-- Assumes nothing.
use Rattle.std.specs.Prelude.{◌≡◌, Bool, ◌&&◌, List, [], ◌++◌, ℕ, ◌<◌, ◌/◌, ◌%◌, eqb, leb, length, replicate, get_or, slice_get, Option, None}
use Rattle.ir_records.specs.Result.{pick}
use Rattle.ir_records.specs.Record.{type_words, member_words}
use Rattle.ir_records.specs.Refusal.{number_of}
use Rattle.ir_records.specs.declared.Fault.{Fault}
use Rattle.wgsl_tokens.specs.declared.Lexed.{Lexed}
use Rattle.wgsl_grammar.specs.declared.Refusal as grammar
use Rattle.wgsl_messages.specs.Says.{Says}
use Rattle.wgsl_read.specs.TextAnswer.{TextAnswer}
use Rattle.wgsl_read.specs.TextAnswer as answer
use Rattle.wgsl_read.specs.Text.{text_of, answer_of, types_left, members_left}
use Rattle.spirv_input.specs.Bytes.{words_in}
use Rattle.spirv_read.specs.Section.{Section}
use Rattle.spirv_read.specs.Section as section
use Rattle.spirv_read.specs.Read.{read_into, section_of, types_after, members_after}
use Rattle.sheet_names.specs.declared.Sheet.{Sheet}
use Rattle.sheet_names.specs.declared.Module.{Module}
use Rattle.sheet_names.specs.declared.NameTable.{NameTable}
use Rattle.sheet_names.specs.Text.{TokensFrom, TextNames, TextNamed}
use Rattle.sheet_names.specs.Module.{type_instructions, module_names}
use Rattle.sheet_output.specs.declared.Markup.{Markup}
use Rattle.sheet_refusals.specs.Text.{refused_text, word_text, refused_word, text_arena, module_arena}
use Rattle.sheet_structs.specs.Forms.{markup_of}
use Rattle.sheet_structs.specs.Text.{start_text}
use Rattle.sheet_answers.specs.Bytes.{made, is_module}
use Rattle.sheet_answers.specs.Judged.{SaysRecords}
use Rattle.sheet_answers.specs.declared.Asked.{Asked}

-- ---- records and names
-- the sheet has these bytes and records
pub record Holds (bytes types members : List ℕ) (sheet : Sheet) : Type 0 where
  pub bytes-are : sheet.text.now ≡ bytes
  pub types-are : sheet.types.now ≡ types
  pub members-are : sheet.members.now ≡ members

-- the names of a text: where they stand, and their bytes
pub record NamedBy (text types : List ℕ) (names : NameTable) : Type 0 where
  pub tokens : List Lexed
  pub all : TokensFrom text 0 tokens
  pub places : TextNames text types tokens names
  pub bytes : TextNamed text types names

-- ---- a text
-- the bytes of the records of a text
pub record SaysText (asked : Asked) (m : Markup) (text types members said : List ℕ) : Type 0 where
  pub records : Sheet
  pub holds : Holds text types members records
  pub named : NamedBy text types (records.names.now)
  pub says : SaysRecords asked m records (text_arena records) said

-- the bytes of a refusal of a text with this number: the message is that of its reader
pub record RefusesText (text : List ℕ) (number : ℕ) (said : List ℕ) : Type 0 where
  pub refusal : grammar.Refusal
  pub number-is : number_of refusal.fault ≡ number
  pub message : List ℕ
  pub message-is : Says text refusal.at refusal.why message
  pub says : said ≡ refused_text refusal.fault message

-- by what its reader answers, and leaves in the tables
abbrev pub SaysReading : Asked → Markup → (text types members : List ℕ) → TextAnswer → (said : List ℕ) → Type 0
SaysReading asked m text types members (answer.Records t n) said = SaysText asked m text (made types t type_words) (made members n member_words) said
SaysReading asked m text types members (answer.Refused number) said = RefusesText text number said

-- tables have room for 1024 types and 4096 members
unfoldable pub no_types : List ℕ
no_types = replicate 6144 0

unfoldable pub no_members : List ℕ
no_members = replicate 16384 0

-- the bytes of a text
abbrev pub SaysOfText : Asked → Markup → (text said : List ℕ) → Type 0
SaysOfText asked m text said =
    let read = text_of (length no_types) (length no_members) text in
    SaysReading asked m text (types_left read no_types) (members_left read no_members) (answer_of read) said

-- ---- a module
-- a module with these words, bytes and records, and where the instruction of each type stands
pub record IsModule (words bytes types : List ℕ) (m : Module) : Type 0 where
  pub words-are : m.words.now ≡ words
  pub bytes-are : m.bytes.now ≡ bytes
  pub types-are : m.types.now ≡ types
  pub places : (k : ℕ) → k < 1024 → get_or (m.places.now) k None ≡ slice_get (type_instructions words) k

-- the bytes of the records of a module
pub record SaysModule (asked : Asked) (m : Markup) (words bytes types members said : List ℕ) : Type 0 where
  pub records : Sheet
  pub of : Module
  pub holds : Holds bytes types members records
  pub is : IsModule words bytes types of
  pub named : records.names.now ≡ module_names of
  pub says : SaysRecords asked m records (λ refusal. module_arena records words (get_or (of.places.now) refusal.ty None) refusal) said

-- the bytes of a refusal of a module with this number
pub record RefusesModule (words : List ℕ) (number : ℕ) (said : List ℕ) : Type 0 where
  pub fault : Fault
  pub number-is : number_of fault ≡ number
  pub says : said ≡ refused_text fault (word_text words (refused_word words))

-- by what its reader answers, and leaves in the tables
abbrev pub SaysSection : Asked → Markup → (words bytes types members : List ℕ) → Section → (said : List ℕ) → Type 0
SaysSection asked m words bytes types members (section.Read t n) said =
    SaysModule asked m words bytes (made types t type_words) (made members n member_words) said
SaysSection asked m words bytes types members (section.Refused number) said = RefusesModule words number said

-- the bytes of a module of these words
abbrev pub SaysWords : Asked → Markup → (words bytes said : List ℕ) → Type 0
SaysWords asked m words bytes said =
    let read = read_into words no_types no_members in
    SaysSection asked m words bytes (types_after read no_types) (members_after read no_members) (section_of read) said

-- a module has a whole number of words, and no more than are held
abbrev pub is_whole : (bytes : List ℕ) → Bool
is_whole bytes = eqb (length bytes % 4) 0 && leb (length bytes / 4) 262144

-- the bytes of a module; nothing of what is none
abbrev pub SaysOfModule : Asked → Markup → (bytes said : List ℕ) → Type 0
SaysOfModule asked m bytes said = pick (is_whole bytes) (SaysWords asked m (words_in bytes (length bytes / 4)) bytes said) (said ≡ [])

-- ---- a file
-- the bytes of a file after the start
abbrev pub SaysOf : Asked → (bytes said : List ℕ) → Type 0
SaysOf asked bytes said =
    let m = markup_of asked.form in
    pick (is_module bytes) (SaysOfModule asked m bytes said) (SaysOfText asked m bytes said)

-- all that is written of a file: the start, and what is said of its bytes
abbrev pub Answers : Asked → (name : Option (List ℕ)) → (bytes answer : List ℕ) → Type 0
Answers asked name bytes answer = (said : List ℕ) × SaysOf asked bytes said × (answer ≡ start_text asked.form (markup_of asked.form) name ++ said)
