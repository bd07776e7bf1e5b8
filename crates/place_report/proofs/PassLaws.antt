-- Laws of the two passes: what the rows and the report say of each type.
-- Assumes nothing.
use mathlib.Core.Path.{◌≡◌, refl, sym, ap, ◌∙◌}
use mathlib.Core.Bool.{Bool, true, false, not}
use mathlib.Core.List.{List}
use Prim.Native.Nat.{ℕ, suc, ◌+◌, ◌*◌, ◌^◌, ◌≤◌, ◌<◌}
use native.Mathlib.Nat.{add-zero}
use native.Mathlib.Decide.{dec_le}
use native.Mathlib.Omega.{arith}
use lib.Dec.{eqb}
use lib.ListN.{length, get_or, take, get_or-eq_default}
use lib.Seq.{get_or-take}
use Rattle.ir_records.specs.Result.{pick}
use Rattle.ir_records.specs.Record.{decoded, type_count, type_inner, struct_members}
use Rattle.ir_records.specs.Fields.{row_words}
use Rattle.ir_records.specs.Serving.{InnerBounds}
use Rattle.ir_records.specs.Table.{flat}
use Rattle.ir_records.proofs.ResultLaws.{T_true}
use Rattle.ir_records.proofs.TableLaws.{flat_length, flat_word}
use Rattle.valid_flags.specs.Flags.{bit, host_shareable_bit}
use Rattle.ir_rows.specs.Rows.{row_word}
use Rattle.valid_type_info.specs.declared.Row.{Row}
use Rattle.valid_type_info.specs.TypeInfo.{words_of}
use Rattle.valid_type_info.specs.Verdict.{least_for}
use Rattle.valid_arena.specs.Arena.{row, row_at}
use Rattle.valid_arena.proofs.AcceptedLaws.{AcceptedTypes}
use Rattle.valid_arena.proofs.ArenaLaws.{accepted_types}
use Rattle.valid_arena.proofs.JudgeRows.{row_length}
use Rattle.place_carried.specs.Carried.{carried, narrow}
use Rattle.place_carried.proofs.SumLaws.{size-of, carried_within}
use Rattle.std.specs.Prelude.{Option, Some, None, is_some}
use Rattle.place_report.specs.Report.{report_width}
use Rattle.place_report.specs.Serving.{entry_in, entry_words, leaf_bytes_of, leaf_bytes_at, leaf_bytes, SmallBytes, Small, is_narrow}
use Rattle.place_report.specs.Serving.{RowsOf, entry_for, entry_pair}
use Rattle.place_report.proofs.LeafBytesLaws.{leaf_bytes_is}

-- two words a type
pub pair_length : (w : Option ℕ) → length (entry_words w) ≡ report_width
pair_length (Some bytes) = refl
pair_length None = refl

-- a type is narrow where it has no bytes
pub narrow_told : (own : Option ℕ) (told : Bool) → is_some own ≡ not told → told ≡ is_narrow own
narrow_told (Some bytes) true e = let z : ◌≡◌ {A = ℕ} 0 1 = cc in absurd (omega arith)
narrow_told (Some bytes) false e = refl
narrow_told None true e = refl
narrow_told None false e = let z : ◌≡◌ {A = ℕ} 0 1 = cc in absurd (omega arith)

-- the words of a type say what was kept
entry-words : (w : Option ℕ) → pick (eqb (get_or (entry_words w) 1 0) 0) (Some (get_or (entry_words w) 0 0)) None ≡ w
entry-words (Some bytes) = refl
entry-words None = refl

module _ (ts ms rows : List ℕ) where
  whole : (i : ℕ) → length (entry_pair ts ms rows i) ≡ report_width
  whole i = pair_length (entry_for ts ms rows i)

  entry_of : (i k : ℕ) → k < i → entry_in (flat (entry_pair ts ms rows) i) k ≡ entry_for ts ms rows k
  entry_of i k h =
      let first : get_or (flat (entry_pair ts ms rows) i) (k * report_width) 0 ≡ get_or (entry_pair ts ms rows k) 0 0 =
      ap (λ (m : ℕ). get_or (flat (entry_pair ts ms rows) i) m 0) (sym (add-zero (k * report_width))) ∙ flat_word (entry_pair ts ms rows) report_width whole i k 0 h (omega arith) in
      let second = flat_word (entry_pair ts ms rows) report_width whole i k 1 h (omega arith) in
      rw (first, second) (entry-words (entry_for ts ms rows k))

  entry_past : (i k : ℕ) → i ≤ k → entry_in (flat (entry_pair ts ms rows) i) k ≡ Some 0
  entry_past i k h =
      let long = flat_length (entry_pair ts ms rows) report_width whole i in
      let first = get_or-eq_default (flat (entry_pair ts ms rows) i) 0 {n = k * report_width} (rw long (omega arith)) in
      let second = get_or-eq_default (flat (entry_pair ts ms rows) i) 0 {n = k * report_width + 1} (rw long (omega arith)) in
      rw (first, second) refl

  -- so the numbers stay small
  pub all_small : (report : List ℕ) (i : ℕ) → take (i * report_width) report ≡ flat (entry_pair ts ms rows) i
      → ((k : ℕ) → k < i → SmallBytes (entry_for ts ms rows k)) → Small (take (i * report_width) report)
  all_small report i e small k = rw e (go (dec_le (suc k) i))
    where
      go : Dec (suc k ≤ i) → SmallBytes (entry_in (flat (entry_pair ts ms rows) i) k)
      go (yes h) = rw (entry_of i k h) (small k h)
      go (no h) = rw (entry_past i k (omega arith)) (omega arith)

module _ (ts ms rows : List ℕ) (r : RowsOf ts ms rows) where
  abbrev pub row_for : ℕ → Row
  row_for k = row (least_for r.rule) r.capabilities (decoded ts ms) k

  pub accepted : AcceptedTypes r.capabilities (decoded ts ms) (type_count ts)
  accepted = accepted_types r.capabilities ts ms r.accepted

  row_word_is : (k j : ℕ) → k < type_count ts → j < row_words → row_word rows k j ≡ get_or (row_at (least_for r.rule) r.capabilities ts ms k) j 0
  row_word_is k j h l =
      sym (get_or-take (type_count ts * row_words) rows (k * row_words + j) 0 (omega arith))
      ∙ ap (λ (xs : List ℕ). get_or xs (k * row_words + j) 0) r.words
      ∙ flat_word (row_at (least_for r.rule) r.capabilities ts ms) row_words (λ i. row_length (row_for i)) (type_count ts) k j h l

  pub size-word : (k : ℕ) → k < type_count ts → row_word rows k 0 ≡ (row_for k).size
  unfolding words_of
  size-word k h = row_word_is k 0 h (omega arith)

  pub flags_word : (k : ℕ) → k < type_count ts → row_word rows k 2 ≡ (row_for k).flags
  unfolding words_of
  flags_word k h = row_word_is k 2 h (omega arith)

  -- what the code works out for type i is what is to be kept
  pub leaf_bytes_kept : (report : List ℕ) (i : ℕ) → i < type_count ts → take (i * report_width) report ≡ flat (entry_pair ts ms rows) i
      → leaf_bytes_at ts ms rows (take (i * report_width) report) i (row_word rows i 0) ≡ entry_for ts ms rows i
  unfolding leaf_bytes_at
  leaf_bytes_kept report i h e = go (bit (row_word rows i 2) host_shareable_bit) refl
    where
      go : (b : Bool) → bit (row_word rows i 2) host_shareable_bit ≡ b
          → pick b (leaf_bytes_of (λ k. row_word rows k 0) (entry_in (take (i * report_width) report)) (type_inner ts i) (struct_members ts ms i) (row_word rows i 0)) (Some 0)
          ≡ pick b (leaf_bytes (decoded ts ms) i) (Some 0)
      go false q = refl
      go true q =
          leaf_bytes_is r.rule r.capabilities (decoded ts ms) (type_count ts) accepted (λ k. row_word rows k 0) (entry_in (take (i * report_width) report)) i h
          (rw (← flags_word i h, q) tt) (λ u l. size-word u (omega arith))
          (λ u l s.
          let t : bit (row_word rows u 2) host_shareable_bit ≡ true = rw (flags_word u (omega arith)) (T_true _ s) in
          rw e (entry_of ts ms rows i u l ∙ rw t refl))
          (type_inner ts i) refl (row_word rows i 0) (size-word i h)

  -- and it is no more than the type measures
  pub small_at : (i : ℕ) → i < type_count ts → row_word rows i 0 < 2 ^ 32 → SmallBytes (entry_for ts ms rows i)
  small_at i h w = go (bit (row_word rows i 2) host_shareable_bit) (narrow (decoded ts ms) i)
    where
      go : (b x : Bool) → SmallBytes (pick b (pick x None (Some (carried (decoded ts ms) i))) (Some 0))
      go false x = omega arith
      go true true = tt
      go true false =
          omega (
            arith,
            carried_within r.rule r.capabilities (decoded ts ms) (type_count ts) accepted i,
            size-word i h,
            size-of r.rule r.capabilities (decoded ts ms) (type_count ts) accepted i h (type_inner ts i) refl,
          )

  pub bounds-at : (i : ℕ) → i < type_count ts → InnerBounds (type_inner ts i)
  bounds-at i h = accepted.bounds i h
