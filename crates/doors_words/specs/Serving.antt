-- Serves the contracts of functions inside the library: it adds nothing to what the other files say, and a reader may skip it.
-- Assumes nothing.
use Rattle.std.specs.Prelude.{◌≡◌, List, ℕ, ◌≤◌, ◌<◌, length, Result, Ok, Err}
use Rattle.ir_records.specs.declared.Refusal.{Refusal}
use Rattle.ir_records.specs.declared.Fault.TheVariants.{TableLength}
use Rattle.ir_records.specs.Refusal.{refusal}
use Rattle.immediates_pass.specs.declared.Pass.{Pass}
use Rattle.doors_words.specs.Words.{pass_of}

-- three words are a pass, and fewer are number 1
abbrev pub PassIn : List ℕ → Result Pass Refusal → Type 0
PassIn words (Ok pass) = (3 ≤ length words) × (pass ≡ pass_of words)
PassIn words (Err why) = (length words < 3) × (why ≡ refusal TableLength 0 0 0)
