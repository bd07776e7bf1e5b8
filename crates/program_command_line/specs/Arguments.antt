-- What the program says of an argument.
-- Assumes nothing.
use Rattle.std.specs.Prelude.{Bool, List, ◌++◌, ℕ, nat_eq}
use Rattle.std.specs.Cmp.Lexicographic.{pointwise}
use Rattle.ir_records.specs.Result.{pick}
use Rattle.program_output.specs.Bytes.{ascii}

unfoldable pub help_text : List ℕ
help_text = ascii "inspect answers the commands on standard input, one to a line. Numbers are decimal; # starts a comment.\n  caps N              sets the capability word\n  rule N              sets the uniform rule: 0 the older, 1 the newer\n  type K W1 .. W5     appends a type; words left off are 0\n  member TYPE OFFSET [LOCATION [SOURCE]]\n                      appends a member row; location and blend source as value plus one, 0 for none\n  clear               empties the arena, capability word 0, uniform rule 0\n  layout              ok, and a line for each type: its number, size, alignment and zeros\n  judge               ok, and a line for each type: its number and its row, whatever the rows hold\n  check               lays out, then judges: the same\n  members T           members, and four words a row: type, offset, location, blend source\n  slots T OFFSET      slots TOUCHED PARTLY, two masks\n  range OFFSET SIZE   the same\n  place T S1 .. Sk    place BYTE TYPE\n  short T S1 .. Sk    the same, by three words for each type\n  report              report CARRIED WASTED, and a line for each type: its number and its two counts\n  plain SHAPE WIDTH   plain SIZE ALIGNMENT STEP\n  pass                starts a pass: no slot set, no pipeline\n  set OFFSET SIZE     set MASK, all slots set so far\n  choose T            needs MASK, the slots that the type needs\n  run                 passes, or a refusal and missing MASK\n  order SPAN T1 .. Tk order TYPE SPAN N1 .. Nk: the first order of these types that has at most the span, as a struct of the arena\nA refusal is refused NUMBER TYPE MEMBER DETAIL. A line that cannot be read ends the program.\n"

-- --help
abbrev pub is_help : List ℕ → Bool
is_help name = pointwise nat_eq name (ascii "--help")

abbrev pub unknown_bytes : List ℕ → List ℕ
unknown_bytes name = name ++ ascii ": no such argument; there is --help\n"

unfoldable pub argument_bytes : List ℕ → List ℕ
argument_bytes name = pick (is_help name) help_text (unknown_bytes name)
