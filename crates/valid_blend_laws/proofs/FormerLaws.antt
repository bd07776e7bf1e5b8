-- 02, E9: where no member has a blend source, answer and rows are the former ones.
-- Assumes nothing.
use mathlib.Core.Path.{◌≡◌, refl, sym, ◌∙◌, ap, fun_ext}
use mathlib.Core.List.{List, [], ◌∷◌}
use Prim.Native.Nat.{ℕ, ◌+◌, ◌*◌, ◌/◌, ◌%◌, ◌≤◌, ◌<◌}
use native.Mathlib.Decide.{dec_lt}
use native.Mathlib.Omega.{arith}
use lib.ListN.{length, get_or}
use borrow.Author.Tests.{le-leb, le-ltb}
use Rattle.ir_records.specs.Result.{Result, ok, require, and_then}
use Rattle.ir_records.specs.Record.{decoded, type_count, type_word, type_inner, struct_members, member_words, member_count, member_type, member_offset, member_source}
use Rattle.ir_records.specs.Fields.{most_members, tables_fit, fields_ok, base_within, fields_at, record_at}
use Rattle.ir_records.specs.Table.{result_at, value_at, also, first_refusal, flat}
use Rattle.ir_records.specs.declared.TypeInner.{TypeInner}
use Rattle.ir_records.specs.declared.TypeInner.TheVariants.{Plain, Array, RuntimeArray, Struct, Other}
use Rattle.ir_records.proofs.ResultLaws.{same_test}
use Rattle.ir_records.proofs.RecordLaws.{sourceless_located}
use Rattle.ir_records.proofs.TableLaws.{flat_length, flat_word}
use Rattle.proc_layouter.specs.Layouter.{layout, layout_at, layout_outcome}
use Rattle.valid_type_info.specs.declared.Row.{Row}
use Rattle.valid_type_info.specs.declared.UniformRule.TheVariants.{Older}
use Rattle.valid_type_info.specs.TypeInfo.{empty_row, words_of, row_sizes, row_flags}
use Rattle.valid_type_info.specs.Verdict.{min_uniform}
use Rattle.valid_types.specs.ValidateType.{flags_of, row_of, judge}
use Rattle.valid_types.proofs.StructFlags.{former-flags}
use Rattle.valid_arena.specs.Arena.{judge_step, judge_outcome, arena_outcome, arena_fits, arena_answer, arena_rows, arena_words}
use Rattle.valid_arena.proofs.CommonLaws.{refused_common}
use Rattle.valid_blend_laws.specs.SameRows.{SameRows}
use Rattle.valid_blend_laws.specs.Former.{pair_words, former_capabilities, dropped, widened, former_fits, former_flags, former_step, former_outcome, former_rows, former_answer, former_words, NoSources}
use Rattle.valid_blend_laws.proofs.ReadLaws.{never_sourced}
use Rattle.valid_blend_laws.proofs.SameLaws.{layouts_same, former_step_same}

-- ---- a table with the last two words of each record dropped, as it is read
module _ (ms : List ℕ) where
  abbrev pair : ℕ → List ℕ
  pair k = member_type ms k ∷ member_offset ms k ∷ []

  abbrev wide : ℕ → List ℕ
  wide k = get_or (dropped ms) (k * pair_words) 0 ∷ get_or (dropped ms) (k * pair_words + 1) 0 ∷ 0 ∷ 0 ∷ []

  pub dropped_length : length (dropped ms) ≡ member_count ms * pair_words
  dropped_length = flat_length pair pair_words (λ i. refl) (member_count ms)

  pairs : length (dropped ms) / pair_words ≡ member_count ms
  pairs = omega (arith, dropped_length)

  widened_length : length (widened (dropped ms)) ≡ member_count ms * member_words
  widened_length = flat_length wide member_words (λ i. refl) (length (dropped ms) / pair_words) ∙ ap (λ (n : ℕ). n * member_words) pairs

  plus_none : (k : ℕ) → k ≡ k + 0
  plus_none k = omega arith

  -- word w of row k
  word : (k w : ℕ) → k < member_count ms → w < member_words → get_or (widened (dropped ms)) (k * member_words + w) 0 ≡ get_or (wide k) w 0
  word k w h l = flat_word wide member_words (λ i. refl) (length (dropped ms) / pair_words) k w (omega (arith, h, pairs)) l

  word_of_pair : (k w : ℕ) → k < member_count ms → w < pair_words → get_or (dropped ms) (k * pair_words + w) 0 ≡ get_or (pair k) w 0
  word_of_pair k w h l = flat_word pair pair_words (λ i. refl) (member_count ms) k w h l

  pub same_rows : SameRows ms (widened (dropped ms))
  same_rows =
      record {
        count = omega (arith, widened_length);
        types = λ k h.
            sym (ap (λ (n : ℕ). get_or (widened (dropped ms)) n 0) (plus_none (k * member_words)) ∙ word k 0 h (omega arith)
            ∙ ap (λ (n : ℕ). get_or (dropped ms) n 0) (plus_none (k * pair_words)) ∙ word_of_pair k 0 h (omega arith));
        offsets = λ k h. sym (word k 1 h (omega arith) ∙ word_of_pair k 1 h (omega arith));
      }

-- ---- the flags of a type whose members have no blend source
flags_former : (c : ℕ) (inner : ℕ → TypeInner) (sizes flags : ℕ → ℕ) (this : TypeInner) (part : List ℕ) → ((m : ℕ) → member_source part m ≡ 0)
    → flags_of c inner sizes flags this part ≡ former_flags c inner sizes flags this part
flags_former c inner sizes flags (Plain leaf) part none = refl
flags_former c inner sizes flags (Array base count stride) part none = refl
flags_former c inner sizes flags (RuntimeArray base stride) part none = refl
flags_former c inner sizes flags (Struct count span) part none = former-flags c inner sizes flags count span part 0 (λ m h. none m)
flags_former c inner sizes flags (Other o) part none = refl

-- ---- an arena without blend sources
module _ (c : ℕ) (ts ms : List ℕ) (none : NoSources ts ms) where
  -- a number outside the arena has no rows
  outside : (i : ℕ) → type_count ts ≤ i → struct_members ts ms i ≡ []
  unfolding struct_members
  outside i h = rw (le-ltb i (type_count ts) h) refl

  all_none : (i m : ℕ) → member_source (struct_members ts ms i) m ≡ 0
  all_none i m = go (dec_lt i (type_count ts))
    where
      go : Dec (i < type_count ts) → member_source (struct_members ts ms i) m ≡ 0
      go (yes h) = never_sourced (struct_members ts ms i) (none i h) m
      go (no h) = rw (outside i (omega arith)) refl

  step_former : judge_step min_uniform c (decoded ts ms) ≡ former_step c (decoded ts ms)
  unfolding judge
  step_former =
      fun_ext (λ rows. fun_ext (λ i.
      ap (λ (o : Result ℕ). and_then o (λ flags. ok (row_of min_uniform (λ k. type_inner ts k) rows i (layout (decoded ts ms) i) (type_inner ts i) (struct_members ts ms i) flags)))
      (flags_former c (λ k. type_inner ts k) (row_sizes rows) (row_flags rows) (type_inner ts i) (struct_members ts ms i) (all_none i))))

  record_former : (i : ℕ) → record_at ts ms i ≡ fields_at ts ms i
  unfolding record_at
  record_former i = rw (sourceless_located (struct_members ts ms i) (member_count (struct_members ts ms i)) (λ j h. all_none i j)) refl

  abbrev read : List ℕ
  read = widened (dropped ms)

  -- numbers 2 and 3 read how many rows there are
  fields_same : (i : ℕ) → fields_at ts ms i ≡ fields_at ts read i
  fields_same i =
      ap (λ (n : ℕ). require (fields_ok n (type_word ts i 0) (type_word ts i 1) (type_word ts i 2) (type_word ts i 3) (type_word ts i 4) (type_word ts i 5)) 2 0 0
      (require (base_within (type_count ts) (type_word ts i 0) (type_word ts i 1)) 3 0 0 (ok (tt {0})))) (same_rows ms).count

  steps : judge_step min_uniform c (decoded ts ms) ≡ former_step c (decoded ts read)
  steps = step_former ∙ former_step_same ts ms read (same_rows ms) c

  outcome_former : arena_outcome c ts ms ≡ former_outcome c ts read
  unfolding arena_outcome layout_outcome judge_outcome
  outcome_former =
      ap (also (also (first_refusal (record_at ts ms) (type_count ts)) (first_refusal (layout_at (decoded ts ms)) (type_count ts))))
      (sym (refused_common min_uniform c (decoded ts ms) (type_count ts)))
      ∙ ap (λ (f : ℕ → Result (Unit {0})). also (also (first_refusal f (type_count ts)) (first_refusal (layout_at (decoded ts ms)) (type_count ts)))
      (first_refusal (result_at empty_row (judge_step min_uniform c (decoded ts ms))) (type_count ts)))
      (fun_ext (λ i. record_former i ∙ fields_same i))
      ∙ ap (λ (f : ℕ → Result _). also (also (first_refusal (fields_at ts read) (type_count ts)) (first_refusal f (type_count ts)))
      (first_refusal (result_at empty_row (judge_step min_uniform c (decoded ts ms))) (type_count ts)))
      (layouts_same ts ms read (same_rows ms))
      ∙ ap (λ (f : (ℕ → Row) → ℕ → Result Row). also (also (first_refusal (fields_at ts read) (type_count ts)) (first_refusal (layout_at (decoded ts read)) (type_count ts)))
      (first_refusal (result_at empty_row f) (type_count ts)))
      steps

  rows_former : (n : ℕ) → arena_rows Older c ts ms n ≡ former_rows c ts read n
  unfolding arena_rows
  rows_former n = ap (λ (f : (ℕ → Row) → ℕ → Result Row). flat (λ i. words_of (value_at empty_row f i)) n) steps

  -- ---- answer and rows, of whole member records and a former capability word
  module _ (known : c ≤ former_capabilities) (whole : length ms % member_words ≡ 0) (rows : List ℕ) where
    fits_former : arena_fits c ts ms rows ≡ former_fits c ts (dropped ms) rows
    unfolding tables_fit
    fits_former =
        let now = le-leb c 16383 (omega (arith, known)) in
        let then = le-leb c former_capabilities known in
        let even : length (dropped ms) % pair_words ≡ 0 = omega (arith, dropped_length ms) in
        let most = same_test (length ms) (most_members * member_words) (length (dropped ms)) (most_members * pair_words)
        (λ h. omega (arith, h, dropped_length ms)) (λ h. omega (arith, h, whole, dropped_length ms)) in
        rw (now, then, whole, even, most) refl

    pub answer_former : arena_answer c ts ms rows ≡ former_answer c ts (dropped ms) rows
    unfolding arena_answer former_answer
    answer_former = rw (fits_former, outcome_former) refl

    pub words_former : arena_words Older c ts ms rows ≡ former_words c ts (dropped ms) rows
    unfolding arena_words former_words
    words_former = rw (fits_former, outcome_former, rows_former (type_count ts)) refl
