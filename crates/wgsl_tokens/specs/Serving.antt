-- Serves the contracts of functions inside the library: it adds nothing to what the other files say, and a reader may skip it.
-- Assumes nothing.
use Rattle.std.specs.Prelude.{◌≡◌, List, ℕ, ◌+◌, ◌≤◌, ◌<◌, length, drop, Result, Ok, Err}
use Rattle.wgsl_tokens.specs.Tokens.{Mode, block, tokens, from}
use Rattle.wgsl_tokens.specs.declared.BrokenComment.{BrokenComment}
use Rattle.wgsl_tokens.specs.declared.Block.{Block}
use Rattle.wgsl_tokens.specs.declared.Block.TheVariants.{Inside, Closed}
use Rattle.wgsl_tokens.specs.Lexed.{IsBad}

-- from `at` on in a mode, the text goes on between tokens further on, or is bad
abbrev pub GapAt : Mode → List ℕ → (at : ℕ) → Result ℕ BrokenComment → Type 0
GapAt mode s at (Ok end) = (at < end) × (end ≤ length s) × (tokens mode (drop at s) ≡ from s end)
GapAt mode s at (Err broken) = IsBad (tokens mode (drop at s))

-- a byte later in block comments
abbrev pub BlockAt : List ℕ → (at depth : ℕ) → Result Block BrokenComment → Type 0
BlockAt s at depth (Ok (Inside next within)) =
    (at < next) × (next ≤ length s) × (1 ≤ within) × (within ≤ depth + 1) × (tokens (block 0 depth) (drop at s) ≡ tokens (block 0 within) (drop next s))
BlockAt s at depth (Ok (Closed end)) = (at < end) × (end ≤ length s) × (tokens (block 0 depth) (drop at s) ≡ from s end)
BlockAt s at depth (Err broken) = IsBad (tokens (block 0 depth) (drop at s))
