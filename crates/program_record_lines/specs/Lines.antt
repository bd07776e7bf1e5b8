-- The lines of ir_records: `type` and its six words, `member` and its type and offset.
-- Assumes nothing.
use Rattle.std.specs.Prelude.{List, [], ◌++◌, ℕ, ◌+◌, ◌*◌, leb, length, take, drop}
use Rattle.ir_records.specs.Result.{pick}
use Rattle.program_output.specs.Bytes.{ascii, joined, words_line}

-- record i of `width` words: its first `shown` words after the head; nothing of one that is not there
unfoldable pub record_line : (head : List ℕ) (width shown : ℕ) → List ℕ → ℕ → List ℕ
record_line head width shown words i = pick (leb (i * width + shown) (length words)) (words_line head (take shown (drop (i * width) words))) []

abbrev pub type_line : List ℕ → ℕ → List ℕ
type_line types = record_line (ascii "type") 6 6 types

-- there is no location and no blend source
abbrev pub member_line : List ℕ → ℕ → List ℕ
member_line members = record_line (ascii "member") 4 2 members

-- the first n types, then the first m members
abbrev pub record_lines : (types : List ℕ) (n : ℕ) (members : List ℕ) (m : ℕ) → List ℕ
record_lines types n members m = joined (type_line types) n ++ joined (member_line members) m
