-- What the functions over positions in a text answer, by the tokens that the text has from there on.
-- Assumes nothing.
use Rattle.std.specs.Prelude.{◌≡◌, Bool, false, ◌||◌, List, [], ◌∷◌, ℕ, ◌+◌, ◌≤◌, length, get_or, Option, Some, None, Result, Ok, Err}
use Rattle.program_words.specs.Words.{part}
use Rattle.wgsl_tokens.specs.Tokens.{Token, word, number, large, mark, bad, is_blank, opens_line, opens_block, from}
use Rattle.wgsl_tokens.specs.declared.BrokenComment.{BrokenComment}
use Rattle.wgsl_tokens.specs.declared.Lexed.{Lexed}
use Rattle.wgsl_tokens.specs.declared.Lexed.TheVariants.{Word, Number, Large, Mark}
use Rattle.wgsl_tokens.specs.declared.BadToken.{BadToken}

-- the next token is bad
abbrev pub IsBad : List Token → Type 0
IsBad ts = (rest : List Token) × (ts ≡ bad ∷ rest)

-- neither blankspace nor a comment begins here
abbrev pub starts_gap : List ℕ → (at : ℕ) → Bool
starts_gap s at = is_blank (get_or s at 0) || opens_line (get_or s at 0) (get_or s (at + 1) 0) || opens_block (get_or s at 0) (get_or s (at + 1) 0)

-- from `at` on, after blankspace and comments
abbrev pub StartAt : List ℕ → (at : ℕ) → Result ℕ BrokenComment → Type 0
StartAt s at (Ok start) = (starts_gap s start ≡ false) × (from s at ≡ from s start)
StartAt s at (Err broken) = IsBad (from s at)

-- where the text goes on after a token
abbrev pub end_of : Lexed → ℕ
end_of (Word name) = name.end
end_of (Number value end) = end
end_of (Large end) = end
end_of (Mark byte end) = end

-- a token that stands next, and where the text goes on
abbrev pub LexedAt : List ℕ → (at : ℕ) → Result Lexed BadToken → Type 0
LexedAt s at (Ok (Word name)) = (name.start ≤ name.end) × (name.end ≤ length s) × (from s at ≡ word (part s name.start name.end) ∷ from s name.end)
LexedAt s at (Ok (Number value end)) = from s at ≡ number value ∷ from s end
LexedAt s at (Ok (Large end)) = from s at ≡ large ∷ from s end
LexedAt s at (Ok (Mark byte end)) = from s at ≡ mark byte ∷ from s end
LexedAt s at (Err b) = IsBad (from s at)

-- the next token, or the end of the text
abbrev pub TokenAt : List ℕ → (at : ℕ) → Result (Option Lexed) BadToken → Type 0
TokenAt s at (Ok (Some token)) = LexedAt s at (Ok token)
TokenAt s at (Ok None) = from s at ≡ []
TokenAt s at (Err b) = IsBad (from s at)
