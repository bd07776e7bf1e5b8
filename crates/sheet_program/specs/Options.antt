-- What the arguments of `sheet` are, by their bytes, and what they make of the options.
-- Assumes nothing.
use Rattle.std.specs.Prelude.{Bool, false, bytes_eq, take, drop, List, [], ◌∷◌, ℕ, nat_eq, Option, None, Some, Result, Ok, Err}
use Rattle.std.specs.Cmp.Lexicographic.{pointwise}
use Rattle.ir_records.specs.Result.{pick}
use Rattle.valid_type_info.specs.declared.UniformRule.{UniformRule}
use Rattle.valid_type_info.specs.declared.UniformRule.TheVariants.{Older, Newer}
use Rattle.program_words.specs.Number.{number_of}
use Rattle.program_words.specs.declared.NumberError.{NumberError}
use Rattle.program_output.specs.Bytes.{ascii}
use Rattle.sheet_structs.specs.declared.Form.{Form}
use Rattle.sheet_structs.specs.declared.Form.TheVariants as form
use Rattle.sheet_answers.specs.declared.Asked.{Asked}
use Rattle.sheet_program.specs.declared.Argument.{Argument}
use Rattle.sheet_program.specs.declared.Argument.TheVariants as argument
use Rattle.sheet_program.specs.declared.Valued.{Valued}
use Rattle.sheet_program.specs.declared.Valued.TheVariants as valued
use Rattle.sheet_program.specs.declared.Options.{Options}
use Rattle.sheet_program.specs.declared.Stop.{Stop}
use Rattle.sheet_program.specs.declared.Stop.TheVariants as stop
use Rattle.sheet_program.specs.Stop.{stop_of}

-- ---- options, by their names without the two marks before them
-- a form
unfoldable pub form_of : List ℕ → Option Form
form_of name =
    pick (pointwise nat_eq name (ascii "c")) (Some form.C)
    (pick (pointwise nat_eq name (ascii "rust")) (Some form.Rust)
    (pick (pointwise nat_eq name (ascii "html")) (Some form.Page)
    (pick (pointwise nat_eq name (ascii "text")) (Some form.Text) None)))

-- one that takes the next argument
unfoldable pub valued_of : List ℕ → Option Valued
valued_of name = pick (pointwise nat_eq name (ascii "rule")) (Some valued.Rule) (pick (pointwise nat_eq name (ascii "capabilities")) (Some valued.Capabilities) None)

-- one that takes the next argument, or help, or none
abbrev pub other_of : (name : List ℕ) → Option Valued → Argument
other_of name (Some option) = argument.WithValue option
other_of name None = pick (pointwise nat_eq name (ascii "help")) argument.Help argument.NoOption

abbrev pub form_or : (name : List ℕ) → Option Form → Argument
form_or name (Some form) = argument.OfForm form
form_or name None = other_of name (valued_of name)

abbrev pub option_of : List ℕ → Argument
option_of name = form_or name (form_of name)

-- ---- arguments
-- the first byte is `-`, 45
abbrev pub is_marked : List ℕ → Bool
is_marked [] = false
is_marked (c ∷ word) = nat_eq c 45

-- what an argument is by its name: an option after `--`, and a file where it does not begin with `-`
abbrev pub argument_of : List ℕ → Argument
argument_of word =
    pick (bytes_eq (take 2 word) (ascii "--")) (option_of (drop 2 word))
    (pick (is_marked word) argument.NoOption argument.File)

-- the rule of that name
unfoldable pub rule_of : List ℕ → Option UniformRule
rule_of name = pick (pointwise nat_eq name (ascii "older")) (Some Older) (pick (pointwise nat_eq name (ascii "newer")) (Some Newer) None)

-- before any argument: a text, by the older rule, with no capability
abbrev pub no_options : Options
no_options = record { asked = record { form = form.Text; rule = Older; capabilities = 0 }; waits = None; «open» = false; files = false }

-- ---- the value of an option: the rule or the capability word that it names, or why it names none
-- what is asked of a file from here on
abbrev pub asking : Options → (asked : Asked) → Options
asking o asked = record { asked = asked; waits = None; «open» = o.«open»; files = o.files }

abbrev pub with_rule : Options → Option UniformRule → Result Options Stop
with_rule o None = Err stop.NoRule
with_rule o (Some rule) = Ok (asking o (record { form = o.asked.form; rule = rule; capabilities = o.asked.capabilities }))

abbrev pub with_capabilities : Options → Result ℕ NumberError → Result Options Stop
with_capabilities o (Ok n) = Ok (asking o (record { form = o.asked.form; rule = o.asked.rule; capabilities = n }))
with_capabilities o (Err error) = Err (stop_of error)

abbrev pub with_value : Options → Valued → (value : List ℕ) → Result Options Stop
with_value o valued.Rule value = with_rule o (rule_of value)
with_value o valued.Capabilities value = with_capabilities o (number_of value)
