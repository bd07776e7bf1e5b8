-- Serves the contracts of functions inside the library: it adds nothing to what the other files say, and a reader may skip it.
-- Assumes nothing.
use Rattle.std.specs.Prelude.{List, ℕ, ◌≤◌, Result, Ok, Err}
use Rattle.program_input.specs.declared.ReadError.{ReadError}
use Rattle.program_input.specs.declared.ReadError.TheVariants.{Long, Failed}
use Rattle.program_files.specs.declared.Messages.{Messages}

-- How many bytes are held: none fewer than before, and no more than there is room for.
abbrev pub HeldWithin : (least most : ℕ) → Result ℕ ReadError → Type 0
HeldWithin least most (Ok n) = (least ≤ n) × (n ≤ most)
HeldWithin least most (Err e) = Unit {0}

abbrev pub message_of : Messages → ReadError → List ℕ
message_of messages Long = messages.long.now
message_of messages Failed = messages.failed.now
