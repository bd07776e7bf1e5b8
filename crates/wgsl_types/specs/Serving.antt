-- Serves the contracts of functions inside the library: it adds nothing to what the other files say, and a reader may skip it.
-- What the functions over positions answer, as the readings of the tokens from there on; the records stand at the start of the lent words.
-- Assumes nothing.
use Rattle.std.specs.Prelude.{◌≡◌, List, ℕ, ◌*◌, ◌≤◌, length, drop, Result, Ok, Err}
use Rattle.ir_records.specs.Record.{type_words}
use Rattle.ir_records.specs.Refusal.{number_of}
use Rattle.wgsl_tokens.specs.Tokens.{Token, from}
use Rattle.wgsl_grammar.specs.Grammar.{Reading, refused, read}
use Rattle.wgsl_grammar.specs.declared.Refusal.{Refusal}
use Rattle.wgsl_grammar.specs.declared.Problem.TheVariants.{TypesFull}
use Rattle.wgsl_grammar.specs.Serving.{refusal_of}
use Rattle.wgsl_tables.specs.Tables.{Records, records_in}
use Rattle.wgsl_types.specs.Types.{Closing, stopped, full, closed, Counted, scalar_type, template_type, arguments_of}
use Rattle.wgsl_types.specs.declared.CountAt.{CountAt}
use Rattle.wgsl_types.specs.declared.Opened.{Opened}
use Rattle.wgsl_types.specs.declared.Opened.TheVariants as opened
use Rattle.wgsl_types.specs.declared.Closed.{Closed}
use Rattle.wgsl_types.specs.declared.Unclosed.{Unclosed}
use Rattle.wgsl_types.specs.declared.Unclosed.TheVariants as unclosed

abbrev pub count_read : List ℕ → Result CountAt Refusal → Reading Counted
count_read s (Ok c) = read (record { count = c.count; rest = from s c.end.at })
count_read s (Err r) = refused (number_of r.fault)

-- what is left of a type after its name and its `<`
abbrev pub opened_type : (inner : Records → List Token → Closing) → (room left : ℕ) → Records → List ℕ → Result Opened Refusal → Closing
opened_type inner room left types s (Ok (opened.Scalar k end)) = scalar_type room types k (from s end.at)
opened_type inner room left types s (Ok (opened.Struct e end)) = closed e types (from s end.at)
opened_type inner room left types s (Ok (opened.Template t at)) = template_type room left types t (from s at)
opened_type inner room left types s (Ok (opened.Array at)) = arguments_of room (inner types (from s at))
opened_type inner room left types s (Err r) = stopped (number_of r.fault)

-- of a type inside another, or for its record
abbrev pub refused_inside : Unclosed → Refusal
refused_inside (unclosed.Refused r) = r
refused_inside (unclosed.Full e close) = refusal_of TypesFull close

-- what the reading of a type came to, after so many records, in the type words as they were and as they are; behind the records nothing changes
abbrev pub TypeRead : List ℕ → (room before : ℕ) → (was is : List ℕ) → Closing → Result Closed Unclosed → Type 0
TypeRead s room before was is c (Ok x) =
    (c ≡ closed x.shape (records_in type_words is x.made) (from s x.end.at)) × (before ≤ x.made) × (x.made ≤ room) × (drop (x.made * type_words) is ≡ drop (x.made * type_words) was)
TypeRead s room before was is c (Err (unclosed.Full e close)) = c ≡ full e
TypeRead s room before was is c (Err (unclosed.Refused r)) = c ≡ stopped (number_of r.fault)

-- there is room for the records that the lent words admit
abbrev pub Room : (room made : ℕ) → (types : List ℕ) → Type 0
Room room made types = (made ≤ room) × (room ≤ 1024) × (room * type_words ≤ length types)
