-- Laws of the report of accepted types: what the first pass leaves, the second makes into the counts of the definitions.
-- Assumes nothing.
use mathlib.Core.Path.{◌≡◌, refl, sym, ap, ◌∙◌}
use mathlib.Core.Bool.{Bool, true, false, not, ◌&&◌}
use mathlib.Core.List.{List, ◌++◌}
use Prim.Native.Nat.{ℕ, zero, suc, ◌+◌, ◌-◌, ◌*◌, ◌<◌}
use native.Mathlib.Nat.{add-zero}
use native.Mathlib.Omega.{arith}
use lib.Dec.{T}
use lib.ListN.{length, get_or, drop, get_or-append}
use lib.Seq.{drop_at}
use Rattle.ir_records.specs.Result.{pick, ok}
use Rattle.ir_records.specs.Record.{decoded, type_count, type_inner}
use Rattle.ir_records.specs.Table.{first_refusal, flat}
use Rattle.ir_records.specs.Outcome.{Accepted}
use Rattle.ir_records.proofs.ResultLaws.{required}
use Rattle.ir_records.proofs.TableLaws.{all_ok, flat_length, flat_word}
use Rattle.valid_flags.specs.Flags.{bit, host_shareable_bit}
use Rattle.valid_type_flags.specs.TypeFlags.{is_struct}
use Rattle.ir_rows.specs.Rows.{row_word}
use Rattle.place_carried.specs.Carried.{carried, wasted, narrow}
use Rattle.place_carried.proofs.CountLaws.{sum_alike}
use Rattle.place_carried.proofs.SumLaws.{size-of}
use Rattle.place_carried.proofs.LeavesProof.{carried_and_wasted}
use Rattle.place_report.specs.declared.Totals.{Totals}
use Rattle.std.specs.Prelude.{Some, None}
use Rattle.place_report.specs.Answer as answer
use Rattle.place_report.specs.Report.{report_width}
use Rattle.place_report.specs.Serving.{entry_words, is_narrow}
use Rattle.place_report.specs.Serving.{RowsOf, entry_for, entry_pair, narrow_struct, is_reported, counts_in, counts_pair, AllCarry, totals_in, second_pass_words, counts_for, totals_for}
use Rattle.place_report.proofs.PassLaws.{pair_length, accepted, size-word}

pub flat_alike : (f g : ℕ → List ℕ) (n : ℕ) → ((k : ℕ) → k < n → f k ≡ g k) → flat f n ≡ flat g n
flat_alike f g zero h = refl
flat_alike f g (suc n) h = rw (flat_alike f g n (λ k l. h k (omega arith)), h n (omega arith)) refl

-- what is kept of a struct that is host-shareable and not narrow
kept_bytes : (structured shareable thin : Bool) (bytes : ℕ) → (structured && shareable) ≡ true
    → T (not (structured && is_narrow (pick shareable (pick thin None (Some bytes)) (Some 0))))
    → get_or (entry_words (pick shareable (pick thin None (Some bytes)) (Some 0))) 0 0 ≡ bytes
kept_bytes true true false bytes e t = refl
kept_bytes true true true bytes e t = absurd t
kept_bytes true false thin bytes e t = let z : ◌≡◌ {A = ℕ} 0 1 = cc in absurd (omega arith)
kept_bytes false shareable thin bytes e t = let z : ◌≡◌ {A = ℕ} 0 1 = cc in absurd (omega arith)

module _ (ts ms rows lent : List ℕ) (n : ℕ) (r : RowsOf ts ms rows) (all : n ≡ type_count ts) (none : first_refusal (narrow_struct ts ms rows) n ≡ Accepted) where
  whole : (i : ℕ) → length (entry_pair ts ms rows i) ≡ report_width
  whole i = pair_length (entry_for ts ms rows i)

  abbrev pub kept : List ℕ
  kept = flat (entry_pair ts ms rows) n ++ drop (n * report_width) lent

  first_word : (k : ℕ) → k < n → get_or kept (k * report_width) 0 ≡ get_or (entry_pair ts ms rows k) 0 0
  first_word k h =
      let long = flat_length (entry_pair ts ms rows) report_width whole n in
      get_or-append (flat (entry_pair ts ms rows) n) (drop (n * report_width) lent) 0 (k * report_width) (rw long (omega arith))
      ∙ ap (λ (m : ℕ). get_or (flat (entry_pair ts ms rows) n) m 0) (sym (add-zero (k * report_width)))
      ∙ flat_word (entry_pair ts ms rows) report_width whole n k 0 h (omega arith)

  -- of a reported struct: the bytes of the definition
  carried_word : (k : ℕ) → k < n → is_reported ts rows k ≡ true → get_or kept (k * report_width) 0 ≡ carried (decoded ts ms) k
  carried_word k h e =
      let a = all_ok (narrow_struct ts ms rows) n none k h in
      let t = (required (not (is_struct (type_inner ts k) && is_narrow (entry_for ts ms rows k))) 27 0 0 (ok tt) a.0 a.1).0 in
      first_word k h
      ∙ kept_bytes (is_struct (type_inner ts k)) (bit (row_word rows k 2) host_shareable_bit) (narrow (decoded ts ms) k) (carried (decoded ts ms) k) e t

  sum_word : (k : ℕ) → k < n → carried (decoded ts ms) k + wasted (decoded ts ms) k ≡ row_word rows k 0
  sum_word k h =
      carried_and_wasted.both (decoded ts ms) k
      ∙ sym (size-word ts ms rows r k (omega arith) ∙ size-of r.rule r.capabilities (decoded ts ms) (type_count ts) (accepted ts ms rows r) k (omega arith) (type_inner ts k) refl)

  pub all_carry : AllCarry ts rows kept n
  all_carry k h e = omega (arith, carried_word k h e, sum_word k h)

  counts_same : (k : ℕ) → k < n → counts_in ts rows kept k ≡ counts_for ts ms rows k
  counts_same k h = go (is_reported ts rows k) refl
    where
      go : (b : Bool) → is_reported ts rows k ≡ b
          → ◌≡◌ {A = Totals} (pick b (record { carried = get_or kept (k * report_width) 0; wasted = row_word rows k 0 - get_or kept (k * report_width) 0 }) (record { carried = 0; wasted = 0 }))
          (pick b (record { carried = carried (decoded ts ms) k; wasted = wasted (decoded ts ms) k }) (record { carried = 0; wasted = 0 }))
      go false e = refl
      go true e =
          let c = carried_word k h e in
          let w : row_word rows k 0 - get_or kept (k * report_width) 0 ≡ wasted (decoded ts ms) k = omega (arith, c, sum_word k h) in
          λ x. record { carried = c x; wasted = w x }

  pub totals_same : (total : Totals) → total ≡ totals_in ts rows kept n → answer.Totals total.carried total.wasted ≡ totals_for ts ms rows n
  totals_same total e =
      let c = sum_alike (λ k. (counts_in ts rows kept k).carried) (λ k. (counts_for ts ms rows k).carried) n (λ k h. ap (λ (x : Totals). x.carried) (counts_same k h)) in
      let w = sum_alike (λ k. (counts_in ts rows kept k).wasted) (λ k. (counts_for ts ms rows k).wasted) n (λ k h. ap (λ (x : Totals). x.wasted) (counts_same k h)) in
      rw (e, c, w) refl

  pub words_same : second_pass_words ts rows kept n ≡ flat (λ k. counts_pair (counts_for ts ms rows k)) n ++ drop (n * report_width) lent
  words_same =
      let f = flat_alike (λ k. counts_pair (counts_in ts rows kept k)) (λ k. counts_pair (counts_for ts ms rows k)) n (λ k h. ap counts_pair (counts_same k h)) in
      let d = drop_at (flat (entry_pair ts ms rows) n) (drop (n * report_width) lent) (n * report_width) (flat_length (entry_pair ts ms rows) report_width whole n) in
      rw (f, d) refl
