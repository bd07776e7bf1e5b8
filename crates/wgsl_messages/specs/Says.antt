-- Which texts a message may be: the tokens are said by relations.
-- Assumes nothing.
use Rattle.std.specs.Prelude.{◌≡◌, List, ℕ, Option, Result, Ok, Err}
use Rattle.wgsl_tokens.specs.Lexed.{StartAt, TokenAt}
use Rattle.wgsl_tokens.specs.declared.BrokenComment.{BrokenComment}
use Rattle.wgsl_grammar.specs.declared.Why.{Why}
use Rattle.wgsl_tokens.specs.declared.Lexed.{Lexed}
use Rattle.wgsl_tokens.specs.declared.BadToken.{BadToken}
use Rattle.wgsl_messages.specs.Message.{broken_text, message_text}

-- by where the token at which the text is refused starts
abbrev pub SaysAt : List ℕ → Why → Result ℕ BrokenComment → List ℕ → Type 0
SaysAt text why (Err broken) message = message ≡ broken_text text broken.at
SaysAt text why (Ok start) message = (token : Result (Option Lexed) BadToken) × TokenAt text start token × (message ≡ message_text text why start token)

pub record Says (text : List ℕ) (at : ℕ) (why : Why) (message : List ℕ) : Type 0 where
  pub from : Result ℕ BrokenComment
  pub starts : StartAt text at from
  pub says : SaysAt text why from message
