-- What is read of an input, and what is written of it.
-- Assumes nothing.
use Rattle.std.specs.Prelude.{◌≡◌, ◌<◌, Bool, true, List, ◌++◌, ℕ, ◌+◌, ◌*◌, ◌/◌, ◌%◌, length, take, Option, Result, Ok, Err}
use Rattle.std.specs.Io.KnownBytes.{Consumes, IsAtEnd, Appends}
use Rattle.spirv_input.specs.Bytes.{words_in}
use Rattle.program_output.specs.Bytes.{ascii}
use Rattle.from_spirv.specs.declared.InputError.{InputError}
use Rattle.from_spirv.specs.declared.InputError.TheVariants as error
use Rattle.from_spirv.specs.declared.Held.{Held}
use Rattle.from_spirv.specs.Lines.{module_lines}

-- ---- words
-- the words that bytes make, four bytes to a word
abbrev pub words_of : (bytes : List ℕ) → List ℕ
words_of bytes = words_in bytes (length bytes / 4)

-- what is written of the bytes of an input
abbrev pub input_lines : (bytes : List ℕ) → List ℕ
input_lines bytes = module_lines (words_of bytes)

-- an input of whole words is answered: what is written of it comes after all that was written
abbrev pub Answered : (input : List ℕ) (written writes : Option (List ℕ)) → Type 0
Answered input written writes = (length input % 4 ≡ 0) × Appends written writes (input_lines input)

-- ---- why an input is no module
abbrev pub error_text : InputError → List ℕ
error_text error.Odd = ascii "the module is no whole number of words\n"
error_text error.Long = ascii "the module is longer than 1048576 words\n"

-- ---- what is held
-- The words of the bytes are held after those that were held before. They are not where the bytes make no whole number of words, or where there is
-- no room for so many.
abbrev pub HeldWith : (bytes : List ℕ) (held : ℕ) (was is : List ℕ) → Result ℕ InputError → Type 0
HeldWith bytes held was is (Ok n) = (n * 4 ≡ held * 4 + length bytes) × (take n is ≡ take held was ++ words_of bytes)
HeldWith bytes held was is (Err error.Odd) = length bytes % 4 ≡ 0 → ⊥
HeldWith bytes held was is (Err error.Long) = length was < held + length bytes / 4

-- Where it is known which bytes an input has left: those that came were the first of them, and all of them where the input has ended.
abbrev pub Came : (left rest : Option (List ℕ)) (bytes : List ℕ) (ended : Bool) → Type 0
Came left rest bytes ended = Consumes left rest bytes × (ended ≡ true → IsAtEnd rest)

-- the same of the bytes that came of an input
abbrev pub HeldAfter : (left rest : Option (List ℕ)) (held : ℕ) (was is : List ℕ) → Result Held InputError → Type 0
HeldAfter left rest held was is (Ok h) = (bytes : List ℕ) × Came left rest bytes h.ended × HeldWith bytes held was is (Ok h.count)
HeldAfter left rest held was is (Err e) = (bytes : List ℕ) × Consumes left rest bytes × HeldWith bytes held was is (Err e)
