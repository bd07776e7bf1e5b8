-- What is stated of the two uniform rules, proved.
-- Assumes nothing.
use mathlib.Core.Path.{◌≡◌, refl, sym, ◌∙◌, ap}
use mathlib.Core.Bool.{Bool, true, false}
use mathlib.Core.Logic.{◌⊎◌, inl, inr}
use mathlib.Core.List.{List}
use Prim.Native.Nat.{ℕ, zero, suc, ◌<◌}
use native.Mathlib.Omega.{arith}
use lib.ListN.{get_or}
use Rattle.ir_records.specs.Record.{decoded, type_count}
use Rattle.ir_records.specs.Fields.{row_words}
use Rattle.ir_records.specs.Outcome.{Outcome}
use Rattle.ir_records.specs.Outcome.{Accepted, Refused}
use Rattle.ir_rows.specs.Rows.{row_word}
use Rattle.valid_type_info.specs.declared.Row.{Row}
use Rattle.valid_type_info.specs.declared.UniformRule.{UniformRule}
use Rattle.valid_type_info.specs.TypeInfo.{words_of, without_uniform}
use Rattle.valid_type_info.specs.Verdict.{least_for}
use Rattle.valid_arena.specs.Arena.{row, arena_fits, arena_outcome, arena_answer, arena_words}
use Rattle.valid_arena.specs.UniformRules.{UniformRules}
use Rattle.valid_arena.proofs.CommonLaws.{refused_common, row_common}
use Rattle.valid_arena.proofs.ArenaLaws.{accepted_types}
use Rattle.valid_arena.proofs.NewerLaws.{newer_same, newer_runtime}
use Rattle.valid_arena.proofs.WordLaws.{word_left}

-- the words of a row outside its uniform verdict
other_word : (r : Row) (j : ℕ) → (j < 3) ⊎ (7 < j) → get_or (words_of r) j 0 ≡ get_or (words_of (without_uniform r)) j 0
unfolding words_of
other_word r zero h = refl
other_word r (suc zero) h = refl
other_word r (suc (suc zero)) h = refl
other_word r (suc (suc (suc zero))) (inl h) = absurd (omega arith)
other_word r (suc (suc (suc zero))) (inr h) = absurd (omega arith)
other_word r (suc (suc (suc (suc zero)))) (inl h) = absurd (omega arith)
other_word r (suc (suc (suc (suc zero)))) (inr h) = absurd (omega arith)
other_word r (suc (suc (suc (suc (suc zero))))) (inl h) = absurd (omega arith)
other_word r (suc (suc (suc (suc (suc zero))))) (inr h) = absurd (omega arith)
other_word r (suc (suc (suc (suc (suc (suc zero)))))) (inl h) = absurd (omega arith)
other_word r (suc (suc (suc (suc (suc (suc zero)))))) (inr h) = absurd (omega arith)
other_word r (suc (suc (suc (suc (suc (suc (suc zero))))))) (inl h) = absurd (omega arith)
other_word r (suc (suc (suc (suc (suc (suc (suc zero))))))) (inr h) = absurd (omega arith)
other_word r (suc (suc (suc (suc (suc (suc (suc (suc j)))))))) h = refl

-- rows by either rule
same_rows : (rule rule' : UniformRule) (c : ℕ) (ts ms : List ℕ) (t : ℕ)
    → without_uniform (row (least_for rule) c (decoded ts ms) t) ≡ without_uniform (row (least_for rule') c (decoded ts ms) t)
same_rows rule rule' c ts ms t = row_common (least_for rule) c (decoded ts ms) t ∙ sym (row_common (least_for rule') c (decoded ts ms) t)

module _ (rule rule' : UniformRule) (c : ℕ) (ts ms lent : List ℕ) (t j : ℕ) (h : t < type_count ts) (l : j < row_words) (out : (j < 3) ⊎ (7 < j)) where
  accepted_word : arena_answer c ts ms lent ≡ Accepted → row_word (arena_words rule c ts ms lent) t j ≡ row_word (arena_words rule' c ts ms lent) t j
  accepted_word e =
      word_left rule c ts ms lent e t j h l
      ∙ other_word (row (least_for rule) c (decoded ts ms) t) j out
      ∙ ap (λ (r : Row). get_or (words_of r) j 0) (same_rows rule rule' c ts ms t)
      ∙ sym (other_word (row (least_for rule') c (decoded ts ms) t) j out)
      ∙ sym (word_left rule' c ts ms lent e t j h l)

  -- what a call leaves
  same_word : row_word (arena_words rule c ts ms lent) t j ≡ row_word (arena_words rule' c ts ms lent) t j
  unfolding arena_answer arena_words
  same_word = go (arena_fits c ts ms lent) (arena_outcome c ts ms) refl refl
    where
      go : (b : Bool) (o : Outcome) → arena_fits c ts ms lent ≡ b → arena_outcome c ts ms ≡ o → row_word (arena_words rule c ts ms lent) t j ≡ row_word (arena_words rule' c ts ms lent) t j
      go true Accepted f e = accepted_word (rw (f, e) refl)
      go true (Refused number ty member detail) f e = rw (f, e) refl
      go false o f e = rw f refl

pub uniform_rules : UniformRules
uniform_rules =
    record {
      refused = λ rule. refused_common (least_for rule);
      rows = λ rule rule' c types t. row_common (least_for rule) c types t ∙ sym (row_common (least_for rule') c types t);
      words = same_word;
      newer = λ c ts ms a t h none. newer_same c (decoded ts ms) (type_count ts) (accepted_types c ts ms a) t h none;
      runtime = λ c ts ms a t h j r. newer_runtime c (decoded ts ms) (type_count ts) (accepted_types c ts ms a) t h j r;
    }
