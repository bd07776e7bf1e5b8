-- The layout sheet: how its forms write marks.
-- Assumes nothing.
use Rattle.sheet_output.specs.declared.Markup.{Markup}
use Rattle.sheet_output.specs.declared.Markup.TheVariants as markup
use Rattle.sheet_structs.specs.declared.Form.{Form}
use Rattle.sheet_structs.specs.declared.Form.TheVariants as form

-- a page has marks of its own
abbrev pub markup_of : Form → Markup
markup_of form.Text = markup.Plain
markup_of form.C = markup.Plain
markup_of form.Rust = markup.Plain
markup_of form.Page = markup.Page
