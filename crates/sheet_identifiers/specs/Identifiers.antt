-- The layout sheet: the identifiers of structs and members, which C and Rust both take.
-- Assumes nothing.
use Rattle.std.specs.Prelude.{◌≡◌, ◌<◌, Bool, false, not, ◌&&◌, ◌||◌, List, [], ◌∷◌, ◌++◌, ℕ, ◌-◌}
use Rattle.std.specs.Prelude.{eqb, length, take, drop, Option, None, Some}
use Rattle.std.specs.Char.{is_ascii_alphabetic, is_ascii_digit}
use Rattle.std.specs.List.{list_any, list_all, range_with_len, slice_split, suffix_len}
use Rattle.std.specs.Option.{option_eq}
use Rattle.std.specs.Str.{bytes_eq}
use Rattle.ir_records.specs.Result.{pick}
use Rattle.program_output.specs.Bytes.{ascii, decimal}
use Rattle.sheet_names.specs.declared.Sheet.{Sheet}
use Rattle.sheet_names.specs.Names.{type_name, member_name}

-- ---- identifiers
-- an underscore, 95
abbrev pub is_underscore : (byte : ℕ) → Bool
is_underscore byte = eqb byte 95

abbrev pub is_letter : (byte : ℕ) → Bool
is_letter byte = is_ascii_alphabetic byte || is_underscore byte

abbrev pub is_letter_or_digit : (byte : ℕ) → Bool
is_letter_or_digit byte = is_letter byte || is_ascii_digit byte

-- a letter first, then letters and digits
abbrev pub is_identifier : (name : List ℕ) → Bool
is_identifier [] = false
is_identifier (first ∷ name) = is_letter first && list_all is_letter_or_digit (first ∷ name)

-- whether there is a name, and it is an identifier
abbrev pub has_identifier : (name : Option (List ℕ)) → Bool
has_identifier None = false
has_identifier (Some name) = is_identifier name

-- a name without the underscores at its end
abbrev pub stem : (name : List ℕ) → List ℕ
stem name = take (length name - suffix_len is_underscore name) name

-- ---- words
-- whether a word is one of a list that blanks, 32, separate
abbrev pub is_listed : (list word : List ℕ) → Bool
is_listed list word = list_any (λ listed. bytes_eq listed word) (slice_split (λ b. eqb b 32) list)

-- words that C or Rust keeps for itself, and names of types that the forms use
unfoldable pub kept_words : List ℕ
kept_words =
    ascii "auto break case char const continue default do double else enum extern float for goto if inline int long register restrict return short "
    ++ ascii "signed sizeof static struct switch typedef union unsigned void volatile while _Alignas _Alignof _Atomic _Bool _Complex _Generic _Imaginary "
    ++ ascii "_Noreturn _Static_assert _Thread_local NULL linux unix i386 asm typeof as crate false fn impl in let loop match mod move mut pub ref self "
    ++ ascii "Self super trait true type unsafe use where async await dyn abstract become box final macro override priv unsized virtual yield try gen "
    ++ ascii "u8 u16 u32 u64 i8 i16 i32 i64 f32 f64 bool str usize isize"

abbrev pub is_kept : (word : List ℕ) → Bool
is_kept word = is_listed kept_words word

-- whether digits follow a prefix up to the end, or nothing does
abbrev pub is_numbered : (word prefix : List ℕ) → Bool
is_numbered word prefix = bytes_eq (take (length prefix) word) prefix && list_all is_ascii_digit (drop (length prefix) word)

-- a word that a number makes in the forms: of a gap, of a type or of a member
abbrev pub is_made : (word : List ℕ) → Bool
is_made word = is_numbered word (ascii "unused_at_") || is_numbered word (ascii "type_") || is_numbered word (ascii "member_")

-- ---- texts
-- whether a word is made or kept but for the underscores at its end
abbrev pub is_taken : (name : List ℕ) → Bool
is_taken name = is_made (stem name) || is_kept (stem name)

-- an identifier, with an underscore after it where it is taken
abbrev pub identifier_text : (name : List ℕ) → List ℕ
identifier_text name = name ++ pick (is_taken name) (ascii "_") []

-- two names stay two: no other name is written in the same way
abbrev pub StaysApart : (name : List ℕ) → Type 0
StaysApart name = (other : List ℕ) → identifier_text other ≡ identifier_text name → other ≡ name

-- a name as an identifier, where it is one that does not stand there already; or else a number after a text
abbrev pub name_text : (name : Option (List ℕ)) (earlier : Bool) (otherwise : List ℕ) (number : ℕ) → List ℕ
name_text None earlier otherwise number = otherwise ++ decimal number
name_text (Some name) earlier otherwise number = pick (is_identifier name && not earlier) (identifier_text name) (otherwise ++ decimal number)

-- whether both are the same name
abbrev pub is_same : (name other : Option (List ℕ)) → Bool
is_same = option_eq bytes_eq

-- whether one of the names before k, from 0 on, is the one of k
abbrev pub is_earlier : (name : ℕ → Option (List ℕ)) (k : ℕ) → Bool
is_earlier name k = list_any (λ before. is_same (name before) (name k)) (range_with_len 0 k)

-- the identifier of type i, which is a struct
abbrev pub type_text : Sheet → (i : ℕ) → List ℕ
type_text sheet i =
    let name = type_name (sheet.text.now) (sheet.names.now) in
    name_text (name i) (is_earlier name i) (ascii "type_") i

-- the identifier of member j of struct i
abbrev pub member_text : Sheet → (i j : ℕ) → List ℕ
member_text sheet i j =
    let name = member_name (sheet.text.now) (sheet.names.now) (sheet.types.now) i in
    name_text (name j) (is_earlier name j) (ascii "member_") j

-- no struct before it has the same identifier
abbrev pub TypeStandsAlone : Sheet → (i : ℕ) → Type 0
TypeStandsAlone sheet i = (k : ℕ) → k < i → type_text sheet k ≡ type_text sheet i → ⊥

-- no member of the struct before it has
abbrev pub MemberStandsAlone : Sheet → (i j : ℕ) → Type 0
MemberStandsAlone sheet i j = (k : ℕ) → k < j → member_text sheet i k ≡ member_text sheet i j → ⊥
