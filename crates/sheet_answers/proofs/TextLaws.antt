-- What is written of a text, by what its reader answers.
-- Assumes nothing.
use mathlib.Core.Path.{◌≡◌, refl}
use mathlib.Core.List.{List}
use Prim.Native.Nat.{ℕ}
use lib.ListN.{length, replicate}
use Rattle.std.specs.Prelude.{Result, Ok, Err}
use Rattle.ir_records.specs.Record.{type_words, member_words}
use Rattle.ir_records.specs.declared.Records.{Records}
use Rattle.wgsl_grammar.specs.declared.Refusal.{Refusal}
use Rattle.wgsl_messages.specs.Says.{Says}
use Rattle.wgsl_read.specs.Text.{text_of, answer_of, numbered_by, types_left, members_left}
use Rattle.sheet_output.specs.declared.Markup.{Markup}
use Rattle.sheet_refusals.specs.Text.{refused_text}
use Rattle.sheet_answers.specs.Bytes.{made}
use Rattle.sheet_answers.specs.Answers.{SaysText, SaysOfText, no_types, no_members}
use Rattle.sheet_answers.specs.declared.Asked.{Asked}

pub no_types_is : replicate 6144 0 ≡ no_types
unfolding no_types
no_types_is = refl

pub no_members_is : replicate 16384 0 ≡ no_members
unfolding no_members
no_members_is = refl

-- the tables are z and y before, and ts and ms after
module _ (asked : Asked) (m : Markup) (text z y ts ms : List ℕ) (types : z ≡ no_types) (members : y ≡ no_members) (r : Result Records Refusal) where
  pub says_records : (x : Records) (said : List ℕ) → r ≡ Ok x → numbered_by r ≡ answer_of (text_of (length z) (length y) text)
      → ts ≡ types_left (text_of (length z) (length y) text) z → ms ≡ members_left (text_of (length z) (length y) text) y
      → SaysText asked m text (made ts x.types type_words) (made ms x.members member_words) said → SaysOfText asked m text said
  says_records x said e n a b p = rw (← types, ← members, ← n, e, ← a, ← b) p

  pub says_refusal : (x : Refusal) (message : List ℕ) → r ≡ Err x → numbered_by r ≡ answer_of (text_of (length z) (length y) text)
      → Says text x.at x.why message → SaysOfText asked m text (refused_text x.fault message)
  says_refusal x message e n s =
      rw (← types, ← members, ← n, e) record { refusal = x; number-is = refl; message = message; message-is = s; says = refl }
