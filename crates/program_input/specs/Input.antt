-- What a read leaves in the buffer of the input, and what stays of it after the lines that were answered.
-- Assumes nothing.
use Rattle.std.specs.Prelude.{◌≡◌, Bool, true, false, if◌then◌else◌, Result, Ok, Err, List, ℕ, ◌+◌, ◌-◌, ◌≤◌, ◌<◌, length, get_or, take, drop}
use Rattle.std.specs.Prelude.{Option, None, Some, []}
use Rattle.std.specs.Io.KnownBytes.{Consumes, Keeps, IsAtEnd}
use Rattle.program_input.specs.declared.Input.{Input}
use Rattle.program_input.specs.declared.ReadError.{ReadError}
use Rattle.program_input.specs.declared.ReadError.TheVariants as error

-- One read after the bytes that are held, by how many bytes came. Which bytes are read is the operating system's.
abbrev pub ReadAfter : (was : List ℕ) (held : ℕ) (is : List ℕ) → Result ℕ ReadError → Type 0
ReadAfter was held is (Ok more) = (held < length was) × (held + more ≤ length was) × (length is ≡ length was) × (take held is ≡ take held was)
-- a full buffer is told, and nothing else is told of it
ReadAfter was held is (Err error.Long) = (length was ≤ held) × (is ≡ was)
ReadAfter was held is (Err error.Failed) = (held < length was) × (length is ≡ length was) × (take held is ≡ take held was)

-- Where it is known which bytes a source has left: those that came were the first of them, and none come only where none are left.
-- A read that failed takes none.
abbrev pub CameAfter : (left rest : Option (List ℕ)) (held : ℕ) (is : List ℕ) → Result ℕ ReadError → Type 0
CameAfter left rest held is (Ok more) = Consumes left rest (take more (drop held is)) × (more ≡ 0 → IsAtEnd rest)
CameAfter left rest held is (Err e) = Keeps left rest

-- the same with the end of the input, where none are left
abbrev pub CameIn : (left rest : Option (List ℕ)) (held : ℕ) (is : List ℕ) → Input → Type 0
CameIn left rest held is input = Consumes left rest (if input.last then [] else take (input.end - held) (drop held is)) × (input.last ≡ true → IsAtEnd rest)

abbrev pub CameMore : (left rest : Option (List ℕ)) (held : ℕ) (is : List ℕ) → Result Input ReadError → Type 0
CameMore left rest held is (Ok input) = CameIn left rest held is input
CameMore left rest held is (Err e) = Keeps left rest

-- The same with the end of the input; `end` bytes are to be answered. `read` is 0 where there may be more, 1 at the end of the input, 2 where
-- the buffer is full with no end of a line, 3 where the read failed. Which bytes are read is the operating system's.
pub record ReadMore (was : List ℕ) (held : ℕ) (is : List ℕ) (end read : ℕ) : Type 0 where
  pub within : end ≤ length was
  -- a line that does not fit is not cut
  pub full : length was ≤ held → (read ≡ 2) × (end ≡ 0)
  pub long : read ≡ 2 → length was ≤ held
  pub keeps : held ≤ length was → take held is ≡ take held was
  pub more : read ≡ 0 → held < end
  -- a newline ends the last line
  pub ended : read ≡ 1 → (end ≡ held + 1) × (get_or is held 0 ≡ 10)

-- the bytes from `from` up to `end` stand at the front
abbrev pub Kept : (was : List ℕ) (from end : ℕ) (is : List ℕ) → Type 0
Kept was from end is = take (end - from) is ≡ take (end - from) (drop from was)

-- what `read_more` answers, in these numbers
abbrev pub end_of : Result Input ReadError → ℕ
end_of (Ok input) = input.end
end_of (Err e) = 0

abbrev pub ended_or_more : Bool → ℕ
ended_or_more true = 1
ended_or_more false = 0

abbrev pub error_of : ReadError → ℕ
error_of error.Long = 2
error_of error.Failed = 3

abbrev pub read_of : Result Input ReadError → ℕ
read_of (Ok input) = ended_or_more input.last
read_of (Err e) = error_of e
