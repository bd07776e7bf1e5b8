-- What was written and what waits, as one run of bytes.
-- Assumes nothing.
use Rattle.std.specs.Prelude.{◌≡◌, ◌⊎◌, List, ℕ, ◌<◌, Option, length, take}
use Rattle.std.specs.Io.KnownBytes.{append_known, Appends}
use Rattle.program_output.specs.declared.Output.{Output}
use Rattle.program_output.specs.Bytes.{room}

-- the bytes that were written, where they are known, and then those that wait
abbrev pub total : Option (List ℕ) → Output → Option (List ℕ)
total written out = append_known written (take (out.end) (out.bytes))

-- The bytes come after all that was written and waits; or there was no room for them or a write failed, and nothing more is put.
-- Nothing is put where that was so before.
pub record Sends (written : Option (List ℕ)) (was : Output) (bytes : List ℕ) (writes : Option (List ℕ)) (is : Output) : Type 0 where
  pub past : room < was.end → room < is.end
  pub keeps : length (is.bytes) ≡ length (was.bytes)
  pub sends : length (was.bytes) ≡ room → (room < is.end) ⊎ Appends (total written was) (total writes is) bytes
