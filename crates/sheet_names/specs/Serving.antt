-- Serves the contracts of functions inside the library: it adds nothing to what the other files say, and a reader may skip it.
-- Assumes nothing.
use Rattle.std.specs.Prelude.{false, List, ℕ, ◌+◌, min, eqb, set, Option, None, Some}
use Rattle.std.specs.Borrow.{Bor}
use Rattle.ir_records.specs.Result.{pick}
use Rattle.program_words.specs.declared.Span.{Span}
use Rattle.wgsl_tokens.specs.declared.Lexed.{Lexed}
use Rattle.wgsl_tokens.specs.declared.Lexed.TheVariants.{Word, Number, Large, Mark}
use Rattle.sheet_names.specs.declared.Walk.{Walk}
use Rattle.sheet_names.specs.Search.{first_between}
use Rattle.sheet_names.specs.Module.{no_names}
use Rattle.sheet_names.specs.Text.{is_struct, is_struct_word}

-- the first struct from a type on
abbrev pub struct_from : (types : List ℕ) (start : ℕ) → Option ℕ
struct_from types start = first_between (is_struct types) start 1024

-- a name put down at a number, where there is one
abbrev pub put_at : Span → Option ℕ → List (Option Span) → List (Option Span)
put_at name None places = places
put_at name (Some i) places = set places i (Some name)

abbrev pub next_after : (start : ℕ) → Option ℕ → ℕ
next_after start None = start
next_after start (Some i) = i + 1

-- a name, where there is one, put down at a row
abbrev pub put_row : Option Span → (row : ℕ) → List (Option Span) → List (Option Span)
put_row None row places = places
put_row (Some name) row places = set places row (Some name)

-- ---- the walk at the start, after a name of a struct, of a member, and after a token
abbrev pub first_walk : (text types : Bor (List ℕ)) → Walk
first_walk text types =
    record { text = text; types = types; names = no_names; last = None; after_struct = false; ty = 0; row = 0 }

abbrev pub struct_named : Walk → Span → Walk
struct_named w word =
    let i = struct_from (w.types.now) (w.ty) in
    record {
      text = w.text;
      types = w.types;
      names = record { types = put_at word i (w.names.types); members = w.names.members };
      last = w.last;
      after_struct = w.after_struct;
      ty = next_after (w.ty) i;
      row = w.row;
    }

abbrev pub word_passed : Walk → Span → Walk
word_passed w word =
    let named = pick (w.after_struct) (struct_named w word) w in
    record {
      text = w.text;
      types = w.types;
      names = named.names;
      last = Some word;
      after_struct = is_struct_word (w.text.now) word;
      ty = named.ty;
      row = w.row;
    }

abbrev pub member_named : Walk → Walk
member_named w =
    record {
      text = w.text;
      types = w.types;
      names = record { types = w.names.types; members = put_row (w.last) (w.row) (w.names.members) };
      last = w.last;
      after_struct = w.after_struct;
      ty = w.ty;
      row = min (w.row + 1) 4294967295;
    }

abbrev pub no_word : Walk → Walk
no_word w =
    record {
      text = w.text;
      types = w.types;
      names = w.names;
      last = w.last;
      after_struct = false;
      ty = w.ty;
      row = w.row;
    }

abbrev pub mark_passed : Walk → (byte : ℕ) → Walk
mark_passed w byte = no_word (pick (eqb byte 58) (member_named w) w)

abbrev pub passed : Walk → Lexed → Walk
passed w (Word word) = word_passed w word
passed w (Number value end) = no_word w
passed w (Large end) = no_word w
passed w (Mark byte end) = mark_passed w byte
