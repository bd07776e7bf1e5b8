-- A message that is put is one that says what is wrong.
-- Assumes nothing.
use mathlib.Core.Path.{◌≡◌, refl}
use mathlib.Core.List.{List}
use Prim.Native.Nat.{ℕ}
use Rattle.program_output.specs.Bytes.{Puts}
use Rattle.wgsl_tokens.specs.Lexed.{StartAt, TokenAt}
use Rattle.std.specs.Prelude.{Option, Result, Ok, Err}
use Rattle.wgsl_tokens.specs.declared.BrokenComment.{BrokenComment}
use Rattle.wgsl_grammar.specs.declared.Why.{Why}
use Rattle.wgsl_tokens.specs.declared.Lexed.{Lexed}
use Rattle.wgsl_tokens.specs.declared.BadToken.{BadToken}
use Rattle.wgsl_messages.specs.Message.{broken_text, message_text}
use Rattle.wgsl_messages.specs.Says.{Says}

module _ (text : List ℕ) (place : ℕ) (why : Why) (out : List ℕ) (at : ℕ) (is : List ℕ) (end : ℕ) where
  abbrev pub Said : Type 0
  Said = (message : List ℕ) × Says text place why message × Puts out at message is end

  pub says_broken : (broken : BrokenComment) (g : Result ℕ BrokenComment) → g ≡ Err broken → StartAt text place g → Puts out at (broken_text text broken.at) is end → Said
  says_broken broken g e s p = (broken_text text broken.at, record { from = g; starts = s; says = rw e refl }, p)

  pub says_token : (start : ℕ) (g : Result ℕ BrokenComment) (token : Result (Option Lexed) BadToken) → g ≡ Ok start → StartAt text place g → TokenAt text start token → Puts out at (message_text text why start token) is end → Said
  says_token start g token e s t p = (message_text text why start token, record { from = g; starts = s; says = rw e (token, t, refl) }, p)
