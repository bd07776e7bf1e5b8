-- Term 3 said of the calls: of the words that `check` leaves in the lent rows, and of what `lookup` answers.
-- Assumes nothing.
use Rattle.std.specs.Prelude.{◌≡◌, ◌≢◌, List, ℕ, ◌+◌, ◌≤◌, ◌<◌, T}
use Rattle.std.proofs.Math.ListN.{get_elem?}
use Rattle.ir_records.specs.Record.{decoded, type_count}
use Rattle.ir_records.specs.Outcome.{Accepted}
use Rattle.ir_rows.specs.Rows.{row_word}
use Rattle.valid_flags.specs.Flags.{bit, data_bit, host_shareable_bit}
use Rattle.valid_type_info.specs.declared.UniformRule.{UniformRule}
use Rattle.valid_type_info.specs.TypeInfo.{rows_in}
use Rattle.valid_arena.specs.Arena.{arena_answer, arena_words}
use Rattle.place_lookup.specs.Answer.{Found}
use Rattle.place_lookup.specs.Place.{lookup_answer}
use Rattle.place_term3.specs.Term3.{length_in, StridesCover, rewrite}

-- a leaf's bytes, by the words that stand for its type
abbrev pub leaf_left : (ts ms words : List ℕ) → (leaf : ℕ) → ℕ
leaf_left ts ms words leaf = length_in (decoded ts ms leaf).inner (row_word words leaf 0)

-- `check`, by either uniform rule, accepts the tables, and word 14t + 2 of what it leaves has DATA and HOST_SHAREABLE
pub record ShareableLeft (rule : UniformRule) (c : ℕ) (ts ms rows : List ℕ) (t : ℕ) : Type 0 where
  pub accepted : arena_answer c ts ms rows ≡ Accepted
  pub within : t < type_count ts
  pub is_data : T (bit (row_word (arena_words rule c ts ms rows) t 2) data_bit)
  pub host_shareable : T (bit (row_word (arena_words rule c ts ms rows) t 2) host_shareable_bit)

-- then, where each array reached has a stride of at least its element's size as the words have it, what `lookup` answers for two different
-- lists of steps, with whatever rows lent, are two leaves of which rewriting one spares the other
abbrev pub CallsSpare : Type 0
CallsSpare =
    (rule : UniformRule) (c : ℕ) (ts ms rows : List ℕ) (t : ℕ) → ShareableLeft rule c ts ms rows t → StridesCover (rows_in (arena_words rule c ts ms rows)) (decoded ts ms) t
    → (lent lent' steps steps' : List ℕ) (byte leaf byte' leaf' : ℕ)
    → lookup_answer c ts ms lent t steps ≡ Found byte leaf → lookup_answer c ts ms lent' t steps' ≡ Found byte' leaf' → steps ≢ steps'
    → (buffer bytes : List ℕ) (k : ℕ) → byte' ≤ k → k < byte' + leaf_left ts ms (arena_words rule c ts ms rows) leaf'
    → get_elem? (rewrite buffer byte (leaf_left ts ms (arena_words rule c ts ms rows) leaf) bytes) k ≡ get_elem? buffer k
