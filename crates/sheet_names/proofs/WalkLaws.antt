-- The walk over the tokens of a text: what is left of them gives what all give.
-- Assumes nothing.
use Rattle.std.proofs.Common.{◌≡◌, ◌⊎◌, refl, ◌∙◌, ℕ, ◌-◌, ◌≤◌, length, Bool, true, false, List, [], ◌∷◌, replicate, eqb, Option, None, Some, Ok, arith}
use lib.ListN.{length-replicate}
use Rattle.std.specs.Borrow.{Bor}
use Rattle.ir_records.specs.Result.{pick}
use Rattle.program_words.specs.declared.Span.{Span}
use Rattle.wgsl_tokens.specs.Tokens.{from}
use Rattle.wgsl_tokens.specs.Lexed.{LexedAt, IsBad, end_of}
use Rattle.wgsl_tokens.specs.declared.Lexed.{Lexed}
use Rattle.wgsl_tokens.specs.declared.Lexed.TheVariants.{Word, Number, Large, Mark}
use Rattle.sheet_names.specs.declared.Walk.{Walk}
use Rattle.sheet_names.specs.declared.NameTable.{NameTable}
use Rattle.sheet_names.specs.Text.{TokensFrom, struct_words, colon_words, is_struct_word, TextNames}
use Rattle.sheet_names.specs.Module.{no_names}
use Rattle.sheet_names.specs.Serving.{first_walk, struct_named, member_named, passed}
use Rattle.sheet_names.proofs.TableLaws.{rows_put, structs_put, rows_item, structs_item, free_none}

-- with these tokens the walk comes to these places
abbrev pub types_after : Walk → List Lexed → List (Option Span)
types_after w tokens = structs_put (w.types.now) (w.ty) (struct_words (w.text.now) (w.after_struct) tokens) (w.names.types)

abbrev pub members_after : Walk → List Lexed → List (Option Span)
members_after w tokens = rows_put (w.row) (colon_words (w.last) tokens) (w.names.members)

-- the same of all tokens of a text from its start
abbrev pub all_types : (text types : List ℕ) → List Lexed → List (Option Span)
all_types text types tokens = structs_put types 0 (struct_words text false tokens) (no_names.types)

abbrev pub all_members : List Lexed → List (Option Span)
all_members tokens = rows_put 0 (colon_words None tokens) (no_names.members)

-- some tokens of the whole text, whose names are put down as this walk puts down those of what is left
pub record Whole (text types : List ℕ) (w : Walk) (left : List Lexed) : Type 0 where
  pub tokens : List Lexed
  pub stand : TokensFrom text 0 tokens
  pub structs : types_after w left ≡ all_types text types tokens
  pub rows : members_after w left ≡ all_members tokens

pub record Walking (text types : List ℕ) (w : Walk) (at : ℕ) : Type 0 where
  pub same_text : w.text.now ≡ text
  pub same_types : w.types.now ≡ types
  pub whole : (left : List Lexed) → TokensFrom text at left → Whole text types w left

pub walk_starts : (text types : Bor (List ℕ)) → Walking (text.now) (types.now) (first_walk text types) 0
walk_starts text types =
    record {
      same_text = refl;
      same_types = refl;
      whole = λ left stand. record { tokens = left; stand = stand; structs = refl; rows = refl };
    }

module _ (text types : List ℕ) where
  structs_go : (w : Walk) (token : Lexed) (left : List Lexed) → types_after (passed w token) left ≡ types_after w (token ∷ left)
  unfolding struct_words structs_put
  structs_go w (Word word) left = go (w.after_struct) where
    words : List Span
    words = struct_words (w.text.now) (is_struct_word (w.text.now) word) left

    go : (b : Bool) → structs_put (w.types.now) ((pick b (struct_named w word) w).ty) words ((pick b (struct_named w word) w).names.types)
        ≡ structs_put (w.types.now) (w.ty) (pick b (word ∷ words) words) (w.names.types)
    go true = refl
    go false = refl
  structs_go w (Number value end) left = refl
  structs_go w (Large end) left = refl
  structs_go w (Mark byte end) left = go (eqb byte 58) where
    words : List Span
    words = struct_words (w.text.now) false left

    after : Bool → Walk
    after b = pick b (member_named w) w

    go : (b : Bool) → structs_put ((after b).types.now) ((after b).ty) (struct_words ((after b).text.now) false left) ((after b).names.types)
        ≡ structs_put (w.types.now) (w.ty) words (w.names.types)
    go true = refl
    go false = refl

  rows_go : (w : Walk) (token : Lexed) (left : List Lexed) → members_after (passed w token) left ≡ members_after w (token ∷ left)
  unfolding colon_words rows_put
  rows_go w (Word word) left = go (w.after_struct) where
    words : List (Option Span)
    words = colon_words (Some word) left

    go : (b : Bool) → rows_put (w.row) words ((pick b (struct_named w word) w).names.members) ≡ rows_put (w.row) words (w.names.members)
    go true = refl
    go false = refl
  rows_go w (Number value end) left = refl
  rows_go w (Large end) left = refl
  rows_go w (Mark byte end) left = go (eqb byte 58) where
    words : List (Option Span)
    words = colon_words (w.last) left

    after : Bool → Walk
    after b = pick b (member_named w) w

    go : (b : Bool) → rows_put ((after b).row) (colon_words ((after b).last) left) ((after b).names.members)
        ≡ rows_put (w.row) (pick b (w.last ∷ words) words) (w.names.members)
    go true = refl
    go false = refl

  pub walk_goes : (w : Walk) (at : ℕ) (token : Lexed) → LexedAt text at (Ok token) → Walking text types w at
      → Walking text types (passed w token) (end_of token)
  unfolding TokensFrom
  walk_goes w at token here p =
      record {
        same_text = text_stays token ∙ p.same_text;
        same_types = types_stay token ∙ p.same_types;
        whole = λ left stand. let a = p.whole (token ∷ left) (here, stand) in
            record { tokens = a.tokens; stand = a.stand; structs = structs_go w token left ∙ a.structs; rows = rows_go w token left ∙ a.rows };
      }
    where
      text_stays : (t : Lexed) → (passed w t).text.now ≡ w.text.now
      text_stays (Word word) = refl
      text_stays (Number value end) = refl
      text_stays (Large end) = refl
      text_stays (Mark byte end) = go (eqb byte 58) where
        go : (b : Bool) → (pick b (member_named w) w).text.now ≡ w.text.now
        go true = refl
        go false = refl

      types_stay : (t : Lexed) → (passed w t).types.now ≡ w.types.now
      types_stay (Word word) = refl
      types_stay (Number value end) = refl
      types_stay (Large end) = refl
      types_stay (Mark byte end) = go (eqb byte 58) where
        go : (b : Bool) → (pick b (member_named w) w).types.now ≡ w.types.now
        go true = refl
        go false = refl

  named : (n m : ℕ) → n ≡ 1024 → m ≡ 4096 → (tokens : List Lexed) (names : NameTable)
      → names.types ≡ structs_put types 0 (struct_words text false tokens) (replicate n None)
      → names.members ≡ rows_put 0 (colon_words None tokens) (replicate m None) → TextNames text types tokens names
  named n m e f tokens names structs rows =
      record {
        structs = λ i h.
            let all : i - 0 ≡ i = omega arith in
            let empty = length-replicate {A = Option Span} n None ∙ e in
            rw structs (rw all at (structs_item types i (struct_words text false tokens) 0 (replicate n None) (omega arith) h empty (free_none n)));
        members = λ row h.
            let all : row - 0 ≡ row = omega arith in
            let empty = length-replicate {A = Option Span} m None ∙ f in
            let few : length (replicate {A = Option Span} m None) ≤ 4294967295 = rw empty (omega arith) in
            rw rows (rw all at (rows_item row (colon_words None tokens) 0 (replicate m None) (omega arith) (rw empty h) few (free_none m)));
      }

  pub walk_ends : (w : Walk) (at : ℕ) → (from text at ≡ []) ⊎ IsBad (from text at) → Walking text types w at
      → (tokens : List Lexed) × TokensFrom text 0 tokens × TextNames text types tokens (w.names)
  unfolding TokensFrom struct_words colon_words structs_put rows_put
  walk_ends w at over p =
      let a = p.whole [] over in
      (a.tokens, a.stand, named 1024 4096 refl refl a.tokens (w.names) a.structs a.rows)
