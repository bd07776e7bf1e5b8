-- What is printed of an input whose bytes are known.
-- Assumes nothing.
use Rattle.std.specs.Prelude.{List, ℕ, Option}
use Rattle.std.specs.Io.KnownBytes.{Appends}
use Rattle.sheet_answers.specs.Answers.{Answers}
use Rattle.sheet_answers.specs.declared.Asked.{Asked}

-- a sheet of these bytes comes after all that was written
abbrev pub Printed : Asked → (name : Option (List ℕ)) → (bytes : List ℕ) → (written writes : Option (List ℕ)) → Type 0
Printed asked name bytes written writes = (sheet : List ℕ) × Answers asked name bytes sheet × Appends written writes sheet
