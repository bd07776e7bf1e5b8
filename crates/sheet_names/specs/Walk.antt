-- The layout sheet: the tokens of a text, one after the other, up to the end of the text or to one that is bad.
-- Assumes nothing.
use Rattle.std.specs.Prelude.{◌≡◌, ◌⊎◌, [], Option, None, Some, Ok}
use Rattle.wgsl_tokens.specs.Tokens.{from}
use Rattle.wgsl_tokens.specs.Lexed.{LexedAt, IsBad, end_of}
use Rattle.wgsl_tokens.specs.declared.Lexed.{Lexed}
use Rattle.sheet_names.specs.declared.Tokens.{Tokens}

-- the next token, and what is left stands after it; at the end and at a token that is bad nothing comes, and nothing changes
abbrev pub TokenSteps : Tokens → Option Lexed → Tokens → Type 0
TokenSteps was None is = (is ≡ was) × ((from (was.text.now) (was.at) ≡ []) ⊎ IsBad (from (was.text.now) (was.at)))
TokenSteps was (Some token) is = LexedAt (was.text.now) (was.at) (Ok token) × (is.text ≡ was.text) × (is.at ≡ end_of token)
