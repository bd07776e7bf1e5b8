-- Laws of a text's reading: what the declarations leave is what the text's definition says. Assumes nothing.
use mathlib.Core.Path.{◌≡◌, sym}
use mathlib.Core.List.{List}
use Prim.Native.Nat.{ℕ, ◌+◌, ◌*◌, ◌≤◌}
use native.Mathlib.Omega.{arith}
use lib.ListN.{length, drop, take-append-drop}
use lib.Seq.{length-take-le}
use Rattle.ir_records.specs.Record.{type_words, member_words}
use Rattle.wgsl_grammar.specs.Grammar.{Reading, refused, read}
use Rattle.wgsl_tables.specs.Tables.{records_in, structs_in}
use Rattle.wgsl_members.specs.Members.{Rooms}
use Rattle.wgsl_structs.specs.Structs.{Declared, declarations_of}
use Rattle.wgsl_structs.specs.Serving.{Declarations, declared_in, StructRead, first}
use Rattle.wgsl_structs.specs.declared.State.{State}
use Rattle.wgsl_grammar.specs.declared.Refusal.{Refusal}
use Rattle.ir_records.specs.Refusal.{number_of}
use Rattle.std.specs.Prelude.{Result, Ok, Err}
use Rattle.wgsl_read.specs.Text.{rooms_in, text_of, left_in, Filled}

-- the records at the start of the words, and what was lent behind them
pub left-in : (width made : ℕ) (was is : List ℕ) → made * width ≤ length is → drop (made * width) is ≡ drop (made * width) was → is ≡ left_in (records_in width is made) was
left-in width made was is within kept =
    rw (length-take-le (made * width) is within, ← kept) (sym (take-append-drop (made * width) is))

module _ (s : List ℕ) (was is : Declarations) (r : Rooms) (rooms-are : r ≡ rooms_in (length was.types) (length was.members)) where
  whole : (d : Reading Declared) → declarations_of (length s) (length s + 1) r (declared_in s was first) ≡ d → text_of (length was.types) (length was.members) s ≡ d
  unfolding text_of structs_in
  whole d e = rw rooms-are at e

  pub text_filled : (x : Result State Refusal) → StructRead s r was is first (declarations_of (length s) (length s + 1) r (declared_in s was first)) x
      → Filled s was.types is.types was.members is.members x
  text_filled (Ok d) h =
      let e = whole (read (declared_in s is d)) h.0 in
      let t = h.1.types in (
        rw e,
        rw e (left-in type_words d.made.types was.types is.types (omega (arith, t.0, t.2)) h.2.types),
        rw e (left-in member_words d.made.members was.members is.members (omega (arith, h.1.made, h.1.words)) h.2.members),
      )
  text_filled (Err x) h = whole (refused (number_of x.fault)) h
