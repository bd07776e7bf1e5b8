-- The layout sheet: where the names of the structs and of the members of a text stand.
-- Assumes nothing.
use Rattle.std.specs.Prelude.{◌≡◌, ◌⊎◌, Bool, false, List, [], ◌∷◌, ℕ, ◌<◌, eqb, length, get_or, slice_get, bytes_eq, Option, None, Some, Ok}
use Rattle.std.specs.List.{filter, range_with_len}
use Rattle.std.specs.Option.{option_eq}
use Rattle.ir_records.specs.Result.{pick}
use Rattle.ir_records.specs.Record.{type_word, struct_kind}
use Rattle.program_words.specs.declared.Span.{Span}
use Rattle.wgsl_tokens.specs.Tokens.{Token, word, number, large, mark, bad, from}
use Rattle.wgsl_tokens.specs.Lexed.{LexedAt, IsBad, end_of}
use Rattle.wgsl_tokens.specs.declared.Lexed.{Lexed}
use Rattle.wgsl_tokens.specs.declared.Lexed.TheVariants.{Word, Number, Large, Mark}
use Rattle.sheet_names.specs.Names.{part_of, name_at, type_name}
use Rattle.sheet_names.specs.declared.NameTable.{NameTable}

-- ---- tokens
-- the tokens of a text from a place on, up to the end of the text or to one that is bad
unfoldable pub TokensFrom : (text : List ℕ) (at : ℕ) → List Lexed → Type 0
TokensFrom text at [] = (from text at ≡ []) ⊎ IsBad (from text at)
TokensFrom text at (token ∷ tokens) = LexedAt text at (Ok token) × TokensFrom text (end_of token) tokens

-- the six bytes of `struct`
abbrev pub struct_bytes : List ℕ
struct_bytes = 115 ∷ 116 ∷ 114 ∷ 117 ∷ 99 ∷ 116 ∷ []

abbrev pub is_struct_word : (text : List ℕ) → Span → Bool
is_struct_word text name = option_eq bytes_eq (part_of text name.start name.end) (Some struct_bytes)

-- the words that stand right after a word `struct`; `after` says that the token before these was one
unfoldable pub struct_words : (text : List ℕ) (after : Bool) → List Lexed → List Span
struct_words text after [] = []
struct_words text after (Word name ∷ tokens) =
    let words = struct_words text (is_struct_word text name) tokens in pick after (name ∷ words) words
struct_words text after (Number value end ∷ tokens) = struct_words text false tokens
struct_words text after (Large end ∷ tokens) = struct_words text false tokens
struct_words text after (Mark byte end ∷ tokens) = struct_words text false tokens

-- the last word before each colon, 58; `last` is the last one before these tokens
unfoldable pub colon_words : (last : Option Span) → List Lexed → List (Option Span)
colon_words last [] = []
colon_words last (Word name ∷ tokens) = colon_words (Some name) tokens
colon_words last (Number value end ∷ tokens) = colon_words last tokens
colon_words last (Large end ∷ tokens) = colon_words last tokens
colon_words last (Mark byte end ∷ tokens) = let words = colon_words last tokens in pick (eqb byte 58) (last ∷ words) words

-- ---- names
abbrev pub is_struct : (types : List ℕ) (i : ℕ) → Bool
is_struct types i = eqb (type_word types i 0) struct_kind

-- how many structs come before type i
abbrev pub structs_before : (types : List ℕ) (i : ℕ) → ℕ
structs_before types i = length (filter (is_struct types) (range_with_len 0 i))

-- the structs of the records have the words after `struct` in their order, and the member rows the words before colons in theirs
pub record TextNames (text types : List ℕ) (tokens : List Lexed) (names : NameTable) : Type 0 where
  pub structs : (i : ℕ) → i < 1024
      → get_or (names.types) i None ≡ pick (is_struct types i) (slice_get (struct_words text false tokens) (structs_before types i)) None
  pub members : (row : ℕ) → row < 4096 → get_or (names.members) row None ≡ get_or (colon_words None tokens) row None

-- ---- the same by the bytes of the names
-- the words that stand right after a word `struct`, up to a token that is bad
unfoldable pub struct_names : (after : Bool) → List Token → List (List ℕ)
struct_names after [] = []
struct_names after (word name ∷ tokens) = let names = struct_names (bytes_eq name struct_bytes) tokens in pick after (name ∷ names) names
struct_names after (number value ∷ tokens) = struct_names false tokens
struct_names after (large ∷ tokens) = struct_names false tokens
struct_names after (mark byte ∷ tokens) = struct_names false tokens
struct_names after (bad ∷ tokens) = []

-- the last word before each colon, up to a token that is bad
unfoldable pub colon_names : (last : Option (List ℕ)) → List Token → List (Option (List ℕ))
colon_names last [] = []
colon_names last (word name ∷ tokens) = colon_names (Some name) tokens
colon_names last (number value ∷ tokens) = colon_names last tokens
colon_names last (large ∷ tokens) = colon_names last tokens
colon_names last (mark byte ∷ tokens) = let names = colon_names last tokens in pick (eqb byte 58) (last ∷ names) names
colon_names last (bad ∷ tokens) = []

-- the tokens of the text say which names stand at the places: which bytes struct i and each member row are called by
pub record TextNamed (text types : List ℕ) (names : NameTable) : Type 0 where
  pub structs : (i : ℕ) → i < 1024
      → type_name text names i ≡ pick (is_struct types i) (slice_get (struct_names false (from text 0)) (structs_before types i)) None
  pub members : (row : ℕ) → row < 4096
      → name_at text (get_or (names.members) row None) ≡ get_or (colon_names None (from text 0)) row None
