-- The layout sheet: what a writer writes, in order.
-- Assumes nothing.
use Rattle.std.specs.Prelude.{◌≡◌, List, [], ◌∷◌, ◌++◌, ℕ, Option, None, Some, eqb}
use Rattle.std.specs.Borrow.{Bor}
use Rattle.ir_records.specs.Result.{pick}
use Rattle.program_output.specs.Bytes.{ascii}
use Rattle.program_output.specs.Written.{Sends}
use Rattle.sheet_output.specs.declared.Writer.{Writer}
use Rattle.sheet_output.specs.declared.Markup.{Markup}
use Rattle.sheet_output.specs.declared.Markup.TheVariants as markup

-- the bytes come after all that was written and waits, or a write has failed; the writer is of the same buffer and sink, and writes marks as before
pub record Writes {W : Type 0} (contents : W → Option (List ℕ)) (was : Writer W) (bytes : List ℕ) (is : Writer W) : Type 0 where
  pub sends : Sends (contents (was.to.now)) (was.out.now) bytes (contents (is.to.now)) (is.out.now)
  pub marks : is.markup ≡ was.markup
  pub buffer : is.out.ghost_name ≡ was.out.ghost_name
  pub sink : is.to.ghost_name ≡ was.to.ghost_name

-- `<`, `>` and `&`, 60, 62 and 38, as a page has them
abbrev pub page_mark : ℕ → List ℕ
page_mark b = pick (eqb b 60) (ascii "&lt;") (pick (eqb b 62) (ascii "&gt;") (pick (eqb b 38) (ascii "&amp;") (b ∷ [])))

abbrev pub mark_bytes : Markup → ℕ → List ℕ
mark_bytes markup.Plain b = b ∷ []
mark_bytes markup.Page b = page_mark b

-- each byte of a name
unfoldable pub name_bytes : Markup → List ℕ → List ℕ
name_bytes m [] = []
name_bytes m (b ∷ name) = mark_bytes m b ++ name_bytes m name

-- the bytes that are lent, where any are
abbrev pub lent : Option (Bor (List ℕ)) → Option (List ℕ)
lent None = None
lent (Some bytes) = Some (bytes.now)
