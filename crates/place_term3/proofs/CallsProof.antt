-- Term 3 said of the calls: the words that `check` leaves are the rows, and what `lookup` answers is the place.
-- Assumes nothing.
use mathlib.Core.Path.{◌≡◌, refl, sym, ap, subst}
use mathlib.Core.List.{List}
use Prim.Native.Nat.{ℕ, ◌+◌, ◌≤◌, ◌<◌}
use native.Mathlib.Omega.{arith}
use Rattle.ir_records.specs.Record.{decoded, type_count}
use Rattle.ir_records.specs.Outcome.{Outcome}
use Rattle.ir_records.specs.Outcome.{Accepted, Refused}
use Rattle.ir_records.specs.declared.TypeInner.{TypeInner}
use Rattle.ir_records.specs.declared.TypeInner.TheVariants.{Plain, Array, RuntimeArray, Struct, Other}
use Rattle.ir_rows.specs.Rows.{row_word}
use Rattle.valid_type_info.specs.declared.UniformRule.{UniformRule}
use Rattle.valid_type_info.specs.TypeInfo.{rows_in, words_of}
use Rattle.valid_type_info.specs.Verdict.{least_for}
use Rattle.valid_arena.specs.Arena.{arena_answer, arena_words}
use Rattle.valid_arena.proofs.AcceptedLaws.{AcceptedTypes, array_row, runtime_array_row}
use Rattle.valid_arena.proofs.ArenaLaws.{accepted_types}
use Rattle.valid_arena.proofs.WordLaws.{word_left}
use Rattle.place_descent.specs.Place.{Place}
use Rattle.place_descent.specs.Place.{At, NoPlace}
use Rattle.place_descent.specs.Place.{place_of}
use Rattle.place_lookup.specs.Answer.{Found}
use Rattle.place_lookup.specs.Place.{place_answer, start_answer, lookup_answer}
use Rattle.place_lookup.proofs.LookupLaws.{answer_accepted}
use Rattle.place_term3.specs.Term3.{row_in, length_in, leaf_measure, LeafAt, Has, HostShareableData, stride_covers, StridesCover}
use Rattle.place_term3.specs.Calls.{leaf_left, CallsSpare}
use Rattle.place_term3.proofs.StepLaws.{leaf_within}
use Rattle.place_term3.proofs.ReachedLaws.{reached_within}
use Rattle.place_term3.proofs.Term3Proof.{way_to, term3}

-- a found place is the definition's
place_found : (c : ℕ) (ts ms rows : List ℕ) (t : ℕ) (steps : List ℕ) (byte leaf : ℕ) → lookup_answer c ts ms rows t steps ≡ Found byte leaf
    → place_of ts ms t steps ≡ At byte leaf
unfolding lookup_answer
place_found c ts ms rows t steps byte leaf e = go (arena_answer c ts ms rows) (place_of ts ms t steps) refl e
  where
    go : (o : Outcome) (p : Place) → place_of ts ms t steps ≡ p → start_answer ts ms t steps o ≡ Found byte leaf → p ≡ At byte leaf
    go Accepted (At b l) q r = let s : place_answer (At b l) ≡ Found byte leaf = rw q at r in cc
    go Accepted NoPlace q r = let s : place_answer NoPlace ≡ Found byte leaf = rw q at r in let z : ◌≡◌ {A = ℕ} 0 1 = cc in absurd (omega arith)
    go (Refused number ty member detail) p q r = let z : ◌≡◌ {A = ℕ} 0 1 = cc in absurd (omega arith)

module _ (rule : UniformRule) (c : ℕ) (ts ms rows : List ℕ) (left : arena_answer c ts ms rows ≡ Accepted) where
  -- the types of the arena are accepted ones
  types-left : AcceptedTypes c (decoded ts ms) (type_count ts)
  types-left = accepted_types c ts ms (answer_accepted c ts ms rows left)

  -- the words have the rows' sizes and flags
  size_left : (k : ℕ) → k < type_count ts → row_word (arena_words rule c ts ms rows) k 0 ≡ (row_in rule c ts ms k).size
  unfolding words_of
  size_left k h = word_left rule c ts ms rows left k 0 h (omega arith)

  flags_left : (k : ℕ) → k < type_count ts → row_word (arena_words rule c ts ms rows) k 2 ≡ (row_in rule c ts ms k).flags
  unfolding words_of
  flags_left k h = word_left rule c ts ms rows left k 2 h (omega arith)

  -- so strides cover by the rows where they do by the words
  covers_left : (t : ℕ) → t < type_count ts → StridesCover (rows_in (arena_words rule c ts ms rows)) (decoded ts ms) t → StridesCover (row_in rule c ts ms) (decoded ts ms) t
  unfolding rows_in
  covers_left t h covers a r = go (decoded ts ms a).inner refl (covers a r)
    where
      below : a < type_count ts
      below = reached_within c (decoded ts ms) (type_count ts) types-left r h

      go : (inner : TypeInner) → (decoded ts ms a).inner ≡ inner → stride_covers (rows_in (arena_words rule c ts ms rows)) inner → stride_covers (row_in rule c ts ms) inner
      go (Plain leaf) e w = tt
      go (Array base count stride) e w =
          let b = (array_row (least_for rule) c (decoded ts ms) (type_count ts) types-left a below base count stride e).0 in
          subst (λ (x : ℕ). x ≤ stride) (size_left base (omega (arith, below))) w
      go (RuntimeArray base stride) e w =
          let b = (runtime_array_row (least_for rule) c (decoded ts ms) (type_count ts) types-left a below base stride e).0 in
          subst (λ (x : ℕ). x ≤ stride) (size_left base (omega (arith, below))) w
      go (Struct count span) e w = tt
      go (Other o) e w = tt

  -- and a leaf is as long by the words as by its row
  length_left : (t : ℕ) → t < type_count ts → (steps : List ℕ) (byte leaf : ℕ) → place_of ts ms t steps ≡ At byte leaf
      → leaf_measure rule c ts ms leaf ≡ leaf_left ts ms (arena_words rule c ts ms rows) leaf
  length_left t h steps byte leaf e =
      let l = leaf_within rule c (decoded ts ms) (type_count ts) types-left (way_to ts ms t steps byte leaf e) h in
      ap (λ (x : ℕ). length_in (decoded ts ms leaf).inner x) (sym (size_left leaf l))

pub calls_spare : CallsSpare
calls_spare rule c ts ms rows t s covers lent lent' steps steps' byte leaf byte' leaf' e e' ne buffer bytes k lo hi =
    let left = s.accepted in
    let h = s.within in
    let p = place_found c ts ms lent t steps byte leaf e in
    let p' = place_found c ts ms lent' t steps' byte' leaf' e' in
    let m = length_left rule c ts ms rows left t h steps byte leaf p in
    let m' = length_left rule c ts ms rows left t h steps' byte' leaf' p' in
    let flags = flags_left rule c ts ms rows left t h in
    let shareable : HostShareableData rule c ts ms t =
    record {
      accepted = answer_accepted c ts ms rows left;
      within = h;
      is_data = rw flags at s.is_data;
      host_shareable = rw flags at s.host_shareable;
    } in
    let one : LeafAt (place_of ts ms t) = record { steps = steps; byte = byte; ty = leaf; place = p } in
    let other : LeafAt (place_of ts ms t) = record { steps = steps'; byte = byte'; ty = leaf'; place = p' } in
    let has : Has (leaf_measure rule c ts ms) other k = (lo, subst (λ (x : ℕ). k < byte' + x) (sym m') hi) in
    rw (← m) (term3.others rule c ts ms t shareable (covers_left rule c ts ms rows left t h covers) one other ne k has buffer bytes)
