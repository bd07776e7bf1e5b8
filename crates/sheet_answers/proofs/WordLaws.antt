-- What is written of the words of a module, by what their reader answers; and of bytes that are no module.
-- Assumes nothing.
use mathlib.Core.Path.{◌≡◌, refl}
use mathlib.Core.List.{List, []}
use Prim.Native.Nat.{ℕ, ◌<◌, ◌/◌, ◌%◌}
use lib.ListN.{length}
use mathlib.Core.Bool.{and-false}
use borrow.Author.Tests.{lt-leb, ne_eqb}
use Rattle.std.specs.Prelude.{Result, Ok, Err, eqb}
use Rattle.ir_records.specs.Record.{type_words, member_words}
use Rattle.ir_records.specs.declared.Fault.{Fault}
use Rattle.ir_records.specs.declared.Records.{Records}
use Rattle.spirv_read.specs.Section.{section_answer_of}
use Rattle.spirv_read.specs.Read.{read_into, section_of, types_after, members_after}
use Rattle.sheet_output.specs.declared.Markup.{Markup}
use Rattle.sheet_refusals.specs.Text.{refused_text, word_text, refused_word}
use Rattle.sheet_answers.specs.Bytes.{made}
use Rattle.sheet_answers.specs.Answers.{SaysModule, SaysWords, SaysOfModule, no_types, no_members}
use Rattle.sheet_answers.specs.declared.Asked.{Asked}

-- the tables are z and y before, and ts and ms after
module _ (asked : Asked) (m : Markup) (words bytes z y ts ms : List ℕ) (types : z ≡ no_types) (members : y ≡ no_members) (r : Result Records Fault) where
  pub says_section : (x : Records) (said : List ℕ) → r ≡ Ok x → section_answer_of r ≡ section_of (read_into words z y)
      → ts ≡ types_after (read_into words z y) z → ms ≡ members_after (read_into words z y) y
      → SaysModule asked m words bytes (made ts x.types type_words) (made ms x.members member_words) said → SaysWords asked m words bytes said
  says_section x said e n a b p = rw (← types, ← members, ← n, e, ← a, ← b) p

  pub says_fault : (x : Fault) → r ≡ Err x → section_answer_of r ≡ section_of (read_into words z y)
      → SaysWords asked m words bytes (refused_text x (word_text words (refused_word words)))
  says_fault x e n = rw (← types, ← members, ← n, e) record { fault = x; number-is = refl; says = refl }

-- nothing of bytes that are no module
module _ (asked : Asked) (m : Markup) (bytes : List ℕ) where
  pub says_parted : (length bytes % 4 ≡ 0 → ⊥) → SaysOfModule asked m bytes []
  says_parted h = rw (ne_eqb _ _ h) refl

  pub says_longer : 262144 < length bytes / 4 → SaysOfModule asked m bytes []
  says_longer h = rw (lt-leb _ _ h, and-false (eqb (length bytes % 4) 0)) refl
