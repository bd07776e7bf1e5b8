-- Laws of the loops that lay out and judge type by type with three words for each type: what stands in the words of the types before, and in those of
-- the next.
-- Assumes nothing.
use mathlib.Core.Path.{◌≡◌, refl, sym, ap, fun_ext, ◌∙◌}
use mathlib.Core.List.{List}
use Prim.Native.Nat.{ℕ, zero, suc, ◌+◌, ◌*◌, ◌≤◌, ◌<◌}
use native.Mathlib.Omega.{arith}
use native.Mathlib.Decide.{dec_le}
use lib.ListN.{length, get_or, take, drop, get_or-eq_default}
use Rattle.ir_records.specs.Result.{Result, err, ok, and_then}
use Rattle.ir_records.specs.Record.{decoded, type_inner, struct_members}
use Rattle.ir_records.specs.Table.{table, result_at, outcome_at, also, first_refusal, flat}
use Rattle.ir_records.specs.Outcome.{Outcome}
use Rattle.ir_records.specs.Outcome.{Accepted, Refused}
use Rattle.ir_records.proofs.ResultLaws.{and_then_ok, ok_inj}
use Rattle.ir_records.proofs.TableLaws.{table_value, table_above, value_ok, flat_length, flat_word, all_ok, outcome_accepted}
use Rattle.ir_rows.specs.Rows.{with_part}
use Rattle.ir_rows.proofs.RowLaws.{flat_more, drop_part}
use Rattle.proc_type_alignment.specs.declared.TypeLayout.{TypeLayout}
use Rattle.proc_type_layout.specs.TypeLayout.{layout_of}
use Rattle.proc_layouter.specs.Layouter.{no_layout, layout_step, layout_at, layout}
use Rattle.valid_type_info.specs.declared.Row.{Row}
use Rattle.valid_type_info.specs.TypeInfo.{empty_row, no_verdict, row_sizes, row_flags}
use Rattle.valid_types.specs.ValidateType.{flags_of, row_with, judge_common}
use Rattle.valid_arena.specs.Arena.{common_step, common_at, common}
use Rattle.place_short_layout.specs.ShortRows.{short_width, short_word, three_words, short_layouts}
use Rattle.place_short_flags.specs.ShortFlags.{short_sizes, short_flags}
use Rattle.place_short.specs.Short.{three_at}
use Rattle.place_short.specs.Serving.{layout_from, three_from, three_result, laid_from, written_after}

-- ---- three words for each type, whatever they are
module _ (three : ℕ → List ℕ) (wide : (i : ℕ) → length (three i) ≡ short_width) where
  word_of : (n k j : ℕ) → k < n → j < short_width → short_word (flat three n) k j ≡ get_or (three k) j 0
  word_of n k j h l = flat_word three short_width wide n k j h l

  word_past : (n k j : ℕ) → n ≤ k → short_word (flat three n) k j ≡ 0
  word_past n k j h = get_or-eq_default (flat three n) 0 (rw (flat_length three short_width wide n) (omega arith))

  -- what one type leaves in the words: those of the next type, where it is accepted, and nothing behind
  module _ (n : ℕ) (words words' : List ℕ) (o : Result (List ℕ)) (so_far : take (n * short_width) words ≡ flat three n)
      (after : words' ≡ written_after o (n * short_width) words) (is-three : (w : List ℕ) → o ≡ ok w → w ≡ three n)
      (room : n * short_width + short_width ≤ length words) where
    pub three_written : outcome_at n o ≡ Accepted → take ((n + 1) * short_width) words' ≡ flat three (n + 1)
    three_written e =
        let made = outcome_accepted n o e in
        let written = after ∙ ap (λ (x : Result (List ℕ)). written_after x (n * short_width) words) made.1 ∙ ap (λ (w : List ℕ). with_part short_width words (n * short_width) w) (is-three made.0 made.1) in
        rw written (flat_more short_width words three n so_far (wide n) room)

    pub rest_kept : (m : ℕ) → n < m → drop (m * short_width) words' ≡ drop (m * short_width) words
    rest_kept m h = go o refl
      where
        go : (x : Result (List ℕ)) → o ≡ x → drop (m * short_width) words' ≡ drop (m * short_width) words
        go (err number member detail) e = rw (after, e) refl
        go (ok w) e = rw (after, e) (drop_part short_width words w (n * short_width) (ap length (is-three w e) ∙ wide n) room (m * short_width) (omega arith))

module _ (ts ms : List ℕ) where
  -- ---- layouts alone
  -- size, alignment and no flags
  abbrev pub laid_at : ℕ → List ℕ
  laid_at i = three_words (layout (decoded ts ms) i).size (layout (decoded ts ms) i).alignment 0

  pub laid_wide : (i : ℕ) → length (laid_at i) ≡ short_width
  laid_wide i = refl

  laid_layouts : (words : List ℕ) (n : ℕ) → words ≡ flat laid_at n → short_layouts words ≡ table no_layout (layout_step (decoded ts ms)) n
  laid_layouts words n e = fun_ext (λ k. rw e (at k (dec_le (suc k) n)))
    where
      at : (k : ℕ) → Dec (suc k ≤ n) → short_layouts (flat laid_at n) k ≡ table no_layout (layout_step (decoded ts ms)) n k
      at k (yes h) =
          rw (table_value no_layout (layout_step (decoded ts ms)) n k h)
          (λ x. record { size = word_of laid_at laid_wide n k 0 h (omega arith) x; alignment = word_of laid_at laid_wide n k 1 h (omega arith) x })
      at k (no h) =
          rw (table_above no_layout (layout_step (decoded ts ms)) n k (omega arith))
          (λ x. record { size = word_past laid_at laid_wide n k 0 (omega arith) x; alignment = word_past laid_at laid_wide n k 1 (omega arith) x })

  module _ (words : List ℕ) (n : ℕ) (so_far : words ≡ flat laid_at n) where
    laid_is : layout_from ts ms words n ≡ layout_at (decoded ts ms) n
    unfolding result_at
    laid_is = ap (λ (f : ℕ → TypeLayout). layout_of f n (type_inner ts n) (struct_members ts ms n)) (laid_layouts words n so_far)

    pub laid_outcome : outcome_at n (laid_from ts ms words n) ≡ outcome_at n (layout_at (decoded ts ms) n)
    unfolding laid_from
    laid_outcome = rw laid_is (go (layout_at (decoded ts ms) n))
      where
        go : (o : Result TypeLayout) → outcome_at n (and_then o (λ l. ok (three_words l.size l.alignment 0))) ≡ outcome_at n o
        go (ok l) = refl
        go (err x y z) = refl

    pub laid_three : (w : List ℕ) → laid_from ts ms words n ≡ ok w → w ≡ laid_at n
    unfolding laid_from
    laid_three w e =
        let a = and_then_ok (layout_from ts ms words n) (λ l. ok (three_words l.size l.alignment 0)) w e in
        let l = value_ok no_layout (layout_step (decoded ts ms)) n a.0 (sym laid_is ∙ a.1) in
        sym (ok_inj a.2) ∙ ap (λ (x : TypeLayout). three_words x.size x.alignment 0) (sym l)

module _ (c : ℕ) (ts ms : List ℕ) where
  -- ---- layouts and flags
  pub three_wide : (i : ℕ) → length (three_at c ts ms i) ≡ short_width
  three_wide i = refl

  abbrev before : ℕ → ℕ → Row
  before n = table empty_row (common_step c (decoded ts ms)) n

  abbrev flags_at : ℕ → Result ℕ
  flags_at n = flags_of c (type_inner ts) (row_sizes (before n)) (row_flags (before n)) (type_inner ts n) (struct_members ts ms n)

  abbrev row_by : (n flags : ℕ) → Row
  row_by n flags = row_with no_verdict (before n) n (layout (decoded ts ms) n) (type_inner ts n) (struct_members ts ms n) flags

  -- what is judged of type n is its flags, with its layout
  common_is : (n : ℕ) → common_at c (decoded ts ms) n ≡ and_then (flags_at n) (λ flags. ok (row_by n flags))
  unfolding result_at judge_common
  common_is n = refl

  common_flags : (n f : ℕ) → flags_at n ≡ ok f → common c (decoded ts ms) n ≡ row_by n f
  common_flags n f e = value_ok empty_row (common_step c (decoded ts ms)) n (row_by n f) (common_is n ∙ rw e refl)

  -- numbers 4 to 7 of type i, and then what is judged of it
  abbrev pub layout_then_row : ℕ → Result Row
  layout_then_row i = and_then (layout_at (decoded ts ms) i) (λ _. common_at c (decoded ts ms) i)

  -- where the first n types are laid out and judged
  module _ (n : ℕ) (passed : first_refusal layout_then_row n ≡ Accepted) where
    -- size and alignment are the layout's
    common_layout : (i : ℕ) → i < n → ((common c (decoded ts ms) i).size ≡ (layout (decoded ts ms) i).size) × ((common c (decoded ts ms) i).alignment ≡ (layout (decoded ts ms) i).alignment)
    common_layout i h =
        let a = all_ok layout_then_row n passed i h in
        let judged = (and_then_ok (layout_at (decoded ts ms) i) (λ _. common_at c (decoded ts ms) i) a.0 a.1).2 in
        let flags = and_then_ok (flags_at i) (λ f. ok (row_by i f)) a.0 (sym (common_is i) ∙ judged) in
        let row = common_flags i flags.0 flags.1 in
        (ap (λ (r : Row). r.size) row, ap (λ (r : Row). r.alignment) row)

    module _ (words : List ℕ) (so_far : words ≡ flat (three_at c ts ms) n) where
      abbrev word : (k j : ℕ) → ℕ
      word = short_word (flat (three_at c ts ms) n)

      -- the layouts read from the words are those that the definition has
      layouts-in : short_layouts words ≡ table no_layout (layout_step (decoded ts ms)) n
      layouts-in = fun_ext (λ k. rw so_far (at k (dec_le (suc k) n)))
        where
          at : (k : ℕ) → Dec (suc k ≤ n) → short_layouts (flat (three_at c ts ms) n) k ≡ table no_layout (layout_step (decoded ts ms)) n k
          at k (yes h) =
              let size : word k 0 ≡ (layout (decoded ts ms) k).size = word_of (three_at c ts ms) three_wide n k 0 h (omega arith) ∙ (common_layout k h).0 in
              let alignment : word k 1 ≡ (layout (decoded ts ms) k).alignment = word_of (three_at c ts ms) three_wide n k 1 h (omega arith) ∙ (common_layout k h).1 in
              rw (table_value no_layout (layout_step (decoded ts ms)) n k h) (λ x. record { size = size x; alignment = alignment x })
          at k (no h) =
              rw (table_above no_layout (layout_step (decoded ts ms)) n k (omega arith))
              (λ x. record { size = word_past (three_at c ts ms) three_wide n k 0 (omega arith) x; alignment = word_past (three_at c ts ms) three_wide n k 1 (omega arith) x })

      -- and so are sizes and flags
      sizes_in : short_sizes words ≡ row_sizes (before n)
      sizes_in = fun_ext (λ k. rw so_far (at k (dec_le (suc k) n)))
        where
          at : (k : ℕ) → Dec (suc k ≤ n) → word k 0 ≡ (before n k).size
          at k (yes h) = rw (table_value empty_row (common_step c (decoded ts ms)) n k h) (word_of (three_at c ts ms) three_wide n k 0 h (omega arith))
          at k (no h) = rw (table_above empty_row (common_step c (decoded ts ms)) n k (omega arith)) (word_past (three_at c ts ms) three_wide n k 0 (omega arith))

      flags_in : short_flags words ≡ row_flags (before n)
      flags_in = fun_ext (λ k. rw so_far (at k (dec_le (suc k) n)))
        where
          at : (k : ℕ) → Dec (suc k ≤ n) → word k 2 ≡ (before n k).flags
          at k (yes h) = rw (table_value empty_row (common_step c (decoded ts ms)) n k h) (word_of (three_at c ts ms) three_wide n k 2 h (omega arith))
          at k (no h) = rw (table_above empty_row (common_step c (decoded ts ms)) n k (omega arith)) (word_past (three_at c ts ms) three_wide n k 2 (omega arith))

      -- the three words of type n from those before it, by the definitions
      three_is : three_from c ts ms words n ≡ and_then (layout_at (decoded ts ms) n) (λ l. and_then (flags_at n) (λ f. ok (three_words l.size l.alignment f)))
      unfolding three_from result_at
      three_is =
          ap (λ (f : ℕ → TypeLayout). and_then (layout_of f n (type_inner ts n) (struct_members ts ms n)) (λ l. and_then (flags_of c (type_inner ts) (short_sizes words) (short_flags words) (type_inner ts n) (struct_members ts ms n)) (λ x. ok (three_words l.size l.alignment x)))) layouts-in
          ∙ ap (λ (o : Result ℕ). and_then (layout_at (decoded ts ms) n) (λ l. and_then o (λ x. ok (three_words l.size l.alignment x))))
          (ap (λ (f : ℕ → ℕ). flags_of c (type_inner ts) f (short_flags words) (type_inner ts n) (struct_members ts ms n)) sizes_in
          ∙ ap (λ (f : ℕ → ℕ). flags_of c (type_inner ts) (row_sizes (before n)) f (type_inner ts n) (struct_members ts ms n)) flags_in)

      three_outcome : outcome_at n (three_from c ts ms words n) ≡ outcome_at n (layout_then_row n)
      three_outcome =
          ap (outcome_at n) three_is
          ∙ go (layout_at (decoded ts ms) n) (flags_at n)
          ∙ ap (λ (o : Result Row). outcome_at n (and_then (layout_at (decoded ts ms) n) (λ _. o))) (sym (common_is n))
        where
          go : (o : Result TypeLayout) (f : Result ℕ)
              → outcome_at n (and_then o (λ l. and_then f (λ x. ok (three_words l.size l.alignment x)))) ≡ outcome_at n (and_then o (λ _. and_then f (λ x. ok (row_by n x))))
          go (err x y z) f = refl
          go (ok l) (err x y z) = refl
          go (ok l) (ok x) = refl

      pub three_there : (w : List ℕ) → three_from c ts ms words n ≡ ok w → w ≡ three_at c ts ms n
      three_there w e =
          let a = and_then_ok (layout_at (decoded ts ms) n) (λ l. and_then (flags_at n) (λ f. ok (three_words l.size l.alignment f))) w (sym three_is ∙ e) in
          let b = and_then_ok (flags_at n) (λ f. ok (three_words a.0.size a.0.alignment f)) w a.2 in
          let l = value_ok no_layout (layout_step (decoded ts ms)) n a.0 a.1 in
          let r = common_flags n b.0 b.1 in
          sym (ok_inj b.2)
          ∙ ap (λ (x : TypeLayout). three_words x.size x.alignment b.0) (sym l)
          ∙ ap (λ (x : Row). three_words x.size x.alignment x.flags) (sym r)

  -- the first refusal is that of the definitions
  pub three_refusal : (n : ℕ) → first_refusal (three_result c ts ms) n ≡ first_refusal layout_then_row n
  three_refusal zero = refl
  three_refusal (suc n) = rw (three_refusal n) (go (first_refusal layout_then_row n) refl)
    where
      go : (o : Outcome) → first_refusal layout_then_row n ≡ o → also o (outcome_at n (three_result c ts ms n)) ≡ also o (outcome_at n (layout_then_row n))
      go Accepted e = three_outcome n e (flat (three_at c ts ms) n) refl
      go (Refused number ty member detail) e = refl
