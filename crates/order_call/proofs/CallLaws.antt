-- What the code of the call needs: bounds from the room, positive alignments from the arena check, offsets and span within 32 bits from the order found.
-- Assumes nothing.
use mathlib.Core.Path.{◌≡◌, refl, ap}
use mathlib.Core.Bool.{Bool, true, false, ◌&&◌}
use mathlib.Core.List.{List}
use Prim.Native.Nat.{ℕ, ◌+◌, ◌*◌, ◌≤◌, ◌<◌}
use native.Mathlib.Nat.{le_trans}
use native.Mathlib.Omega.{arith}
use lib.Dec.{eqb, leb}
use lib.ListN.{length, get_or, take}
use lib.Seq.{length-take-le}
use borrow.Author.Tests.{leb-true, eq-eqb, eqb-true, eqb-false, ne_eqb}
use Rattle.ir_records.specs.Record.{type_count, type_words}
use Rattle.ir_records.specs.Fields.{most_types, most_members, row_words}
use Rattle.ir_records.specs.Outcome.{Accepted, Refused}
use Rattle.ir_rows.specs.Rows.{row_word}
use Rattle.proc_alignment.specs.Alignment.{most}
use Rattle.proc_alignment.proofs.PowerLaws.{power_positive}
use Rattle.valid_type_info.specs.declared.UniformRule.{UniformRule}
use Rattle.valid_arena.specs.Arena.{arena_answer, arena_words}
use Rattle.valid_arena.proofs.WordLaws.{row_left}
use Rattle.valid_arena.proofs.ArenaLaws.{arena_alignment_power}
use Rattle.valid_type_info.specs.TypeInfo.{rows_in}
use Rattle.valid_type_info.specs.declared.Row.{Row}
use Rattle.place_lookup.proofs.LookupLaws.{answer_accepted}
use Rattle.std.specs.Prelude.{Option, Some, None, Ok, Err}
use Rattle.std.specs.Option.{ok_or}
use Rattle.ir_records.specs.declared.Refusal.{Refusal}
use Rattle.order_numbers.specs.Order.{member_at}
use Rattle.order_placement.specs.Placement.{offset_of, span_of}
use Rattle.order_placement.proofs.PlacementLaws.{offset-within}
use Rattle.order_search.specs.Fitting.{first_order}
use Rattle.order_search.proofs.FirstOrderProof.{first-order}
use Rattle.order_types.specs.Given.{number_of, last_of}
use Rattle.order_types.specs.Serving.{outcome_by}
use Rattle.order_types.proofs.GivenLaws.{none_outside}
use Rattle.order_call.specs.Call.{room, refused, with_order, chosen, after_check, ordered}

-- ---- number 1
pub record Room (types members rows n m k : ℕ) : Type 0 where
  pub few : k ≤ 7
  pub record' : n * 6 + 6 ≤ types
  pub count : m + k ≤ 4096
  pub words : (m + k) * 4 ≤ members

six : (a b c d e f : Bool) → (a && b && c && d && e && f) ≡ true → (a ≡ true) × (c ≡ true) × (d ≡ true) × (e ≡ true)
six true true true true true f q = (refl, refl, refl, refl)
six true true true true false f q = let z : ◌≡◌ {A = ℕ} 0 1 = cc in absurd (omega arith)
six true true true false e f q = let z : ◌≡◌ {A = ℕ} 0 1 = cc in absurd (omega arith)
six true true false d e f q = let z : ◌≡◌ {A = ℕ} 0 1 = cc in absurd (omega arith)
six true false c d e f q = let z : ◌≡◌ {A = ℕ} 0 1 = cc in absurd (omega arith)
six false b c d e f q = let z : ◌≡◌ {A = ℕ} 0 1 = cc in absurd (omega arith)

pub has_room : (types members rows n m k : ℕ) → room types members rows n m k ≡ true → Room types members rows n m k
unfolding room
has_room types members rows n m k e =
    let r = six (leb k 7) (leb (n + 1) most_types) (leb ((n + 1) * type_words) types) (leb (m + k) most_members) (leb ((m + k) * 4) members) (leb ((n + 1) * row_words) rows) e in
    let t = leb-true ((n + 1) * type_words) types r.1 in
    record {
      few = leb-true k 7 r.0;
      record' = omega (arith, t);
      count = leb-true (m + k) most_members r.2;
      words = leb-true ((m + k) * 4) members r.3;
    }

-- ---- the alignments in the rows of an accepted arena
pub positive : (rule : UniformRule) (c : ℕ) (types : List ℕ) (n : ℕ) (ms rows : List ℕ) → n * 6 ≤ length types
    → arena_answer c (take (n * 6) types) ms rows ≡ Accepted → (t : ℕ) → t < n → 1 ≤ row_word (arena_words rule c (take (n * 6) types) ms rows) t 1
unfolding rows_in
positive rule c types n ms rows h accepted t l =
    let ts = take (n * 6) types in
    let long = length-take-le (n * 6) types h in
    let inside : t < type_count ts = omega (arith, long, l) in
    let same = row_left rule c ts ms rows accepted t inside in
    let p = power_positive (arena_alignment_power rule c ts ms (answer_accepted c ts ms rows accepted) t inside) in
    rw (ap (λ (r : Row). r.alignment) same) p

-- ---- the order that is found
module _ (types rows : List ℕ) (n : ℕ) (wanted : List ℕ) (span order : ℕ) (few : length wanted ≤ 7) (small : span ≤ most)
    (aligned : (t : ℕ) → t < n → 1 ≤ row_word rows t 1) (given : number_of types rows n wanted ≡ 0)
    (is : first_order rows wanted (length wanted) (last_of types rows n wanted) span ≡ Some order) where
  -- its span is a number of 32 bits
  pub span_small : span_of rows wanted (length wanted) (member_at (length wanted) order) ≤ most
  span_small =
      let f = (first-order.found rows wanted (length wanted) (last_of types rows n wanted) span order few is).0 in
      le_trans f.within small

  -- and so is each offset
  pub offset-small : (j : ℕ) → j < length wanted → offset_of rows wanted (member_at (length wanted) order) j ≤ most
  offset-small j l =
      let f = (first-order.found rows wanted (length wanted) (last_of types rows n wanted) span order few is).0 in
      le_trans
      (offset-within rows wanted (member_at (length wanted) order) (length wanted)
      (λ i h. aligned (get_or wanted (member_at (length wanted) order i) 0) (none_outside types rows n wanted given (member_at (length wanted) order i) (f.order.within i h)))
      j l)
      span_small

-- ---- what is refused of the given types
pub given_passed : (number : ℕ) → Accepted ≡ outcome_by number → number ≡ 0
given_passed number e = by (eqb number 0) refl
  where
    by : (b : Bool) → eqb number 0 ≡ b → number ≡ 0
    by true q = eqb-true number 0 q
    by false q = let told : Accepted ≡ Refused number 0 0 0 = rw q at e in let z : ◌≡◌ {A = ℕ} 0 1 = cc in absurd (omega arith)

pub given_refused : (number n t m d : ℕ) → Refused n t m d ≡ outcome_by number → (number ≡ 0 → ⊥) × (outcome_by number ≡ Refused number 0 0 0)
given_refused number n t m d e = by (eqb number 0) refl
  where
    by : (b : Bool) → eqb number 0 ≡ b → (number ≡ 0 → ⊥) × (outcome_by number ≡ Refused number 0 0 0)
    by true q = let told : Refused n t m d ≡ Accepted = rw q at e in let z : ◌≡◌ {A = ℕ} 0 1 = cc in absurd (omega arith)
    by false q = (eqb-false number 0 q, rw q refl)

-- ---- what the definition says, by the way that the code takes
module _ (rule : UniformRule) (c : ℕ) (types : List ℕ) (n : ℕ) (members : List ℕ) (m : ℕ) (rows wanted : List ℕ) (span : ℕ) where
  pub chosen_none : length wanted ≡ 0 → chosen rule c types n members m rows wanted span ≡ refused rule c types n members m 16 rows
  unfolding chosen
  chosen_none e = rw (eq-eqb (length wanted) 0 e) refl

  pub chosen_number : (length wanted ≡ 0 → ⊥) → (number_of types rows n wanted ≡ 0 → ⊥)
      → chosen rule c types n members m rows wanted span ≡ refused rule c types n members m (number_of types rows n wanted) rows
  unfolding chosen
  chosen_number some e = rw (ne_eqb (length wanted) 0 some, ne_eqb (number_of types rows n wanted) 0 e) refl

  pub chosen_order : (length wanted ≡ 0 → ⊥) → number_of types rows n wanted ≡ 0 → (f : Option ℕ)
      → first_order rows wanted (length wanted) (last_of types rows n wanted) span ≡ f
      → chosen rule c types n members m rows wanted span ≡ with_order rule c types n members m rows wanted f
  unfolding chosen
  chosen_order some e f q = rw (ne_eqb (length wanted) 0 some, eq-eqb (number_of types rows n wanted) 0 e, q) refl

  pub ordered_short : room (length types) (length members) (length rows) n m (length wanted) ≡ false
      → ordered rule c types n members m rows wanted span ≡ refused rule c types n members m 1 rows
  unfolding ordered
  ordered_short e = rw e refl

  pub ordered_after : room (length types) (length members) (length rows) n m (length wanted) ≡ true
      → ordered rule c types n members m rows wanted span
      ≡ after_check rule c types n members m (arena_words rule c (take (n * 6) types) (take (m * 4) members) rows) wanted span (arena_answer c (take (n * 6) types) (take (m * 4) members) rows)
  unfolding ordered
  ordered_after e = rw e refl

-- ---- the order that was searched for
pub found_number : (found : Option ℕ) (refusal : Refusal) (number : ℕ) → ok_or found refusal ≡ Ok number → found ≡ Some number
found_number (Some n) refusal number e = cc
found_number None refusal number e = let z : ◌≡◌ {A = ℕ} 0 1 = cc in absurd (omega arith)

pub none_number : (found : Option ℕ) (refusal own : Refusal) → ok_or found refusal ≡ Err own → (found ≡ None) × (own ≡ refusal)
none_number (Some n) refusal own e = let z : ◌≡◌ {A = ℕ} 0 1 = cc in absurd (omega arith)
none_number None refusal own e = (refl, cc)
