-- Serves the contracts of functions inside the library: it adds nothing to what the other files say, and a reader may skip it.
-- What the functions over positions answer, as the readings of the tokens from there on.
-- Assumes nothing.
use Rattle.std.specs.Prelude.{◌≡◌, List, ℕ, ◌≤◌, length, Result, Ok, Err}
use Rattle.ir_records.specs.Refusal.{number_of}
use Rattle.ir_records.specs.declared.Fault.{Fault}
use Rattle.ir_records.specs.declared.Fault.TheVariants as fault
use Rattle.program_words.specs.Words.{part}
use Rattle.program_words.specs.declared.Span.{Span}
use Rattle.wgsl_tokens.specs.Tokens.{Token, from}
use Rattle.wgsl_grammar.specs.Grammar.{Reading, refused, read, name_of, Value}
use Rattle.wgsl_grammar.specs.declared.Problem.{Problem}
use Rattle.wgsl_grammar.specs.declared.Problem.TheVariants as problem
use Rattle.wgsl_grammar.specs.declared.Why.TheVariants as why
use Rattle.wgsl_grammar.specs.declared.Refusal.{Refusal}
use Rattle.program_words.specs.declared.NumberRead.{NumberRead}

-- the fault that a problem is
abbrev pub fault_of : Problem → Fault
fault_of problem.OpenComment = fault.Grammar
fault_of problem.NotAscii = fault.Grammar
fault_of problem.NoComma = fault.Grammar
fault_of problem.NoName = fault.Grammar
fault_of problem.NoNumber = fault.Grammar
fault_of problem.NoDeclaration = fault.Grammar
fault_of problem.NoAttribute = fault.Grammar
fault_of problem.NoScalar = fault.Grammar
fault_of problem.TooDeep = fault.Grammar
fault_of problem.UnknownType = fault.Name
fault_of problem.RepeatedType = fault.Name
fault_of problem.RepeatedMember = fault.Name
fault_of problem.LargeNumber = fault.Attribute
fault_of problem.ZeroCount = fault.Attribute
fault_of problem.LargeArray = fault.Attribute
fault_of problem.Align = fault.Attribute
fault_of problem.Size = fault.Attribute
fault_of problem.LargeStruct = fault.Attribute
fault_of problem.TypesFull = fault.TableLength
fault_of problem.MembersFull = fault.TableLength

abbrev pub refusal_of : Problem → (at : ℕ) → Refusal
refusal_of p at = record { fault = fault_of p; at = at; why = why.Other p }

abbrev pub next_read : List ℕ → Result ℕ Refusal → Reading (List Token)
next_read s (Ok at) = read (from s at)
next_read s (Err r) = refused (number_of r.fault)

-- a name stands within the text
abbrev pub NameRead : List ℕ → (at : ℕ) → Result Span Refusal → Type 0
NameRead s at (Ok name) = (name.start ≤ name.end) × (name.end ≤ length s) × (name_of (from s at) ≡ read (record { name = part s name.start name.end; rest = from s name.end }))
NameRead s at (Err r) = name_of (from s at) ≡ refused (number_of r.fault)

abbrev pub number_read : List ℕ → Result NumberRead Refusal → Reading Value
number_read s (Ok n) = read (record { value = n.value; rest = from s n.at })
number_read s (Err r) = refused (number_of r.fault)
