-- The names of a text by their bytes: those at the places that the tokens give.
-- Assumes nothing.
use Rattle.std.proofs.Common.{◌≡◌, inl, inr, refl, ◌∙◌, ap, ℕ, zero, suc, ◌≤◌, Bool, true, false, List, [], ◌∷◌, length}
use Rattle.std.proofs.Common.{get_or, slice_get, bytes_eq, eqb, Option, None, Some, le-leb}
use Rattle.ir_records.specs.Result.{pick}
use Rattle.program_words.specs.declared.Span.{Span}
use Rattle.program_words.specs.Words.{part}
use Rattle.wgsl_tokens.specs.Tokens.{from}
use Rattle.wgsl_tokens.specs.declared.Lexed.{Lexed}
use Rattle.wgsl_tokens.specs.declared.Lexed.TheVariants.{Word, Number, Large, Mark}
use Rattle.sheet_names.specs.declared.NameTable.{NameTable}
use Rattle.sheet_names.specs.Names.{name_at, part_of}
use Rattle.sheet_names.specs.Text.{TokensFrom, TextNames, TextNamed, struct_bytes, struct_words, colon_words, struct_names, colon_names}
use Rattle.sheet_names.specs.Text.{is_struct, is_struct_word, structs_before}

module _ (text : List ℕ) where
  at_word : (w : Span) → w.start ≤ w.end → w.end ≤ length text → part_of text (w.start) (w.end) ≡ Some (part text (w.start) (w.end))
  at_word w order inside = rw (le-leb (w.start) (w.end) order, le-leb (w.end) (length text) inside) refl

  struct_word : (w : Span) → w.start ≤ w.end → w.end ≤ length text → is_struct_word text w ≡ bytes_eq (part text (w.start) (w.end)) struct_bytes
  struct_word w order inside = rw (at_word w order inside) refl

  pub same_structs : (tokens : List Lexed) (at : ℕ) (after : Bool) → TokensFrom text at tokens
      → (k : ℕ) → name_at text (slice_get (struct_words text after tokens) k) ≡ slice_get (struct_names after (from text at)) k
  unfolding TokensFrom struct_words struct_names
  same_structs [] at after (inl e) k = rw e refl
  same_structs [] at after (inr e) k = rw e.1 refl
  same_structs (Word w ∷ tokens) at after ((order, inside, e), rest) k =
      rw (e, ← struct_word w order inside) (go after k (same_structs tokens (w.end) (is_struct_word text w) rest))
    where
      words : List Span
      words = struct_words text (is_struct_word text w) tokens

      names : List (List ℕ)
      names = struct_names (is_struct_word text w) (from text (w.end))

      go : (b : Bool) (k : ℕ) → ((k : ℕ) → name_at text (slice_get words k) ≡ slice_get names k)
          → name_at text (slice_get (pick b (w ∷ words) words) k) ≡ slice_get (pick b (part text (w.start) (w.end) ∷ names) names) k
      go true zero ih = at_word w order inside
      go true (suc k) ih = ih k
      go false k ih = ih k
  same_structs (Number value end ∷ tokens) at after (e, rest) k = rw e (same_structs tokens end false rest k)
  same_structs (Large end ∷ tokens) at after (e, rest) k = rw e (same_structs tokens end false rest k)
  same_structs (Mark byte end ∷ tokens) at after (e, rest) k = rw e (same_structs tokens end false rest k)

  pub same_members : (tokens : List Lexed) (at : ℕ) (last : Option Span) → TokensFrom text at tokens
      → (row : ℕ) → name_at text (get_or (colon_words last tokens) row None) ≡ get_or (colon_names (name_at text last) (from text at)) row None
  unfolding TokensFrom colon_words colon_names
  same_members [] at last (inl e) row = rw e refl
  same_members [] at last (inr e) row = rw e.1 refl
  same_members (Word w ∷ tokens) at last ((order, inside, e), rest) row =
      rw e
      (same_members tokens (w.end) (Some w) rest row
      ∙ ap (λ (last : Option (List ℕ)). get_or (colon_names last (from text (w.end))) row None) (at_word w order inside))
  same_members (Number value end ∷ tokens) at last (e, rest) row = rw e (same_members tokens end last rest row)
  same_members (Large end ∷ tokens) at last (e, rest) row = rw e (same_members tokens end last rest row)
  same_members (Mark byte end ∷ tokens) at last (e, rest) row = rw e (go (eqb byte 58) row (same_members tokens end last rest))
    where
      words : List (Option Span)
      words = colon_words last tokens

      names : List (Option (List ℕ))
      names = colon_names (name_at text last) (from text end)

      go : (b : Bool) (row : ℕ) → ((row : ℕ) → name_at text (get_or words row None) ≡ get_or names row None)
          → name_at text (get_or (pick b (last ∷ words) words) row None) ≡ get_or (pick b (name_at text last ∷ names) names) row None
      go true zero ih = refl
      go true (suc row) ih = ih row
      go false row ih = ih row

  pub text_named : (types : List ℕ) (tokens : List Lexed) (names : NameTable) → TokensFrom text 0 tokens
      → TextNames text types tokens names → TextNamed text types names
  text_named types tokens names stand p =
      record {
        structs = λ i h. ap (name_at text) (p.structs i h) ∙ chosen i (is_struct types i);
        members = λ row h. ap (name_at text) (p.members row h) ∙ same_members tokens 0 None stand row;
      }
    where
      chosen : (i : ℕ) (b : Bool) → name_at text (pick b (slice_get (struct_words text false tokens) (structs_before types i)) None)
          ≡ pick b (slice_get (struct_names false (from text 0)) (structs_before types i)) None
      chosen i true = same_structs tokens 0 false stand (structs_before types i)
      chosen i false = refl
