-- The theorems of PlacedAgreement pass no record by: in an accepted arena each record of data that reaches WGSL's plain records alone is a
-- placed type.
-- Assumes nothing.
use mathlib.Core.Path.{◌≡◌, refl}
use mathlib.Core.Bool.{◌&&◌}
use mathlib.Core.List.{List}
use Prim.Native.Nat.{ℕ, zero, suc, ◌<◌}
use native.Mathlib.Nat.{not-suc-le-zero}
use native.Mathlib.Omega.{arith}
use lib.Dec.{T}
use Rattle.ir_records.specs.Record.{Decoded, decoded, type_count, member_type, member_offset}
use Rattle.ir_records.specs.Table.{first_refusal}
use Rattle.ir_records.specs.Outcome.{Accepted}
use Rattle.ir_records.specs.declared.Leaf.{Leaf}
use Rattle.ir_records.specs.declared.TypeInner.{TypeInner}
use Rattle.ir_records.specs.declared.TypeInner.TheVariants.{Plain as PlainRecord, Array, RuntimeArray, Struct, Other}
use Rattle.ir_records.proofs.ResultLaws.{and_left}
use Rattle.proc_layouter.specs.Layouter.{layout_at, layout}
use Rattle.proc_layouter.proofs.LayoutAccepted.{array_layout, runtime_array_layout, struct_layout}
use Rattle.valid_flags.specs.Flags.{bit, data_bit, sized_bit, creation_resolved_bit, is_sized_data}
use Rattle.valid_type_info.specs.declared.UniformRule.{UniformRule}
use Rattle.valid_type_info.specs.Verdict.{min_uniform, least_for}
use Rattle.valid_arena.specs.Arena.{judged_at, row, arena}
use Rattle.place_term3.specs.Term3.{Reached, itself, element, runtime_element, member}
use Rattle.w3c_agreement.specs.Plain.{Plain, leaf_of}
use Rattle.w3c_agreement.specs.Placed.{Placed, plain, array, runtime_array, struct, PlacedMembers, last, member as placedMember, last_member, member_total, type_of_member, offset_of_member, IsPlaced, IsMember}
use Rattle.w3c_agreement.proofs.BoundsLaws.{data_each}
use Rattle.w3c_agreement.proofs.RowLaws.{inner_in, rows_until, row_data, earlier_row, array-flags, runtime-array-flags, struct_bounds, struct_some}
use Rattle.w3c_agreement.proofs.PlacedStructLaws.{members_earlier}
use Rattle.w3c_agreement.proofs.PlacedAgreement.{older_flags, arena_parts}

-- record t is some placed type
abbrev pub Readable : (types : ℕ → Decoded) → ℕ → Type 0
Readable types t = (type : Placed) × IsPlaced type types t

-- the plain records that record t reaches are WGSL's
abbrev pub PlainOnly : (types : ℕ → Decoded) → ℕ → Type 0
PlainOnly types t = (k : ℕ) → Reached types t k → (leaf : Leaf) → (types k).inner ≡ PlainRecord leaf → (p : Plain) × (leaf ≡ leaf_of p)

-- ---- members
-- m + 1 members, whose types are records g(i), at offsets o(i)
pub record MembersRead (types : ℕ → Decoded) (m : ℕ) (g o : ℕ → ℕ) : Type 0 where
  pub members : PlacedMembers
  pub total : last_member members ≡ m
  pub offsets : (i : ℕ) → i < suc m → o i ≡ offset_of_member members i
  pub are : (i : ℕ) → i < suc m → IsMember members types i (g i)

-- they are read where each type is
read_members : (types : ℕ → Decoded) (m : ℕ) (g o : ℕ → ℕ) → ((i : ℕ) → i < suc m → Readable types (g i)) → MembersRead types m g o
unfolding last_member offset_of_member IsPlaced
read_members types zero g o each =
    let this = each 0 (omega arith) in
    record {
      members = last this.0 (o 0);
      total = refl;
      offsets = λ i h. let e : i ≡ 0 = omega arith in rw e refl;
      are = λ i h. let e : i ≡ 0 = omega arith in rw e this.1;
    }
read_members types (suc m) g o each =
    let this = each 0 (omega arith) in
    let rest = read_members types m (λ i. g (suc i)) (λ i. o (suc i)) (λ i h. each (suc i) (omega arith)) in
    record {
      members = placedMember this.0 (o 0) rest.members;
      total = rw rest.total refl;
      offsets = offsets_more this.0 rest.members rest.offsets;
      are = are_more this.0 this.1 rest.members rest.are;
    }
  where
    offsets_more : (type : Placed) (members : PlacedMembers) → ((i : ℕ) → i < suc m → o (suc i) ≡ offset_of_member members i)
        → (i : ℕ) → i < suc (suc m) → o i ≡ offset_of_member (placedMember type (o 0) members) i
    offsets_more type members rest zero h = refl
    offsets_more type members rest (suc i) h = rest i (omega arith)

    are_more : (type : Placed) → IsPlaced type types (g 0) → (members : PlacedMembers) → ((i : ℕ) → i < suc m → IsMember members types i (g (suc i)))
        → (i : ℕ) → i < suc (suc m) → IsMember (placedMember type (o 0) members) types i (g i)
    are_more type this members rest zero h = this
    are_more type this members rest (suc i) h = rest i (omega arith)

-- ---- the induction
module _ (c : ℕ) (types : ℕ → Decoded) (n : ℕ) (laid : first_refusal (layout_at types) n ≡ Accepted) (accepted : first_refusal (judged_at min_uniform c types) n ≡ Accepted) where
  -- sized data is data
  data_of : (flags : ℕ) → T (is_sized_data flags) → T (bit flags data_bit)
  data_of flags t = and_left (bit flags data_bit) (bit flags sized_bit) (and_left (bit flags data_bit && bit flags sized_bit) (bit flags creation_resolved_bit) t)

  -- a record is read by what it says, where the earlier ones of data are
  module _ (t : ℕ) (h : t < n) (plains : PlainOnly types t)
      (earlier : (k : ℕ) → k < t → PlainOnly types k → T (bit (row min_uniform c types k).flags data_bit) → Readable types k) where
    -- a struct of m + 1 members
    read_struct : (m span : ℕ) → (types t).inner ≡ Struct (suc m) span → Readable types t
    unfolding IsPlaced
    read_struct m span e =
        let part = (types t).members in
        let b = struct_bounds c types n accepted t h (suc m) span e in
        let before = members_earlier types t part (suc m) (layout types t).alignment (struct_layout types n laid t h (suc m) span e).1 in
        let r = read_members types m (λ i. member_type part i) (λ i. member_offset part i)
        (λ i l. earlier (member_type part i) (before i l) (λ k r. plains k (member i e l r))
        (rw (earlier_row c types n accepted t h (member_type part i) (before i l)) at (data_each (inner_in types) (rows_until c types t) (suc m) span part (suc m) b.0 b.1 i l))) in
        (struct r.members span, rw r.total (e, r.offsets, r.are))

    -- any record of data
    read_by : (inner : TypeInner) → (types t).inner ≡ inner → T (bit (row min_uniform c types t).flags data_bit) → Readable types t
    unfolding IsPlaced
    read_by (PlainRecord leaf) e d = let p = plains t itself leaf e in (plain p.0, rw (← p.1) e)
    read_by (Array base count stride) e d =
        let l = (array_layout types n laid t h base count stride e).1 in
        let r = earlier base l (λ k r. plains k (element e r)) (data_of (row min_uniform c types base).flags (array-flags c types n accepted t h base count stride e l).0) in
        (array r.0 count stride, (base, e, r.1))
    read_by (RuntimeArray base stride) e d =
        let l = (runtime_array_layout types n laid t h base stride e).1 in
        let r = earlier base l (λ k r. plains k (runtime_element e r)) (data_of (row min_uniform c types base).flags (runtime-array-flags c types n accepted t h base stride e l).0) in
        (runtime_array r.0 stride, (base, e, r.1))
    read_by (Struct zero span) e d = absurd (not-suc-le-zero (struct_some c types n accepted t h zero span e))
    read_by (Struct (suc m) span) e d = read_struct m span e
    read_by (Other o) e d = let f : ⊥ = rw (row_data c types n accepted t h (Other o) e) at d in absurd f

  -- all records of data below some number
  read_below : (bound t : ℕ) → t < bound → t < n → PlainOnly types t → T (bit (row min_uniform c types t).flags data_bit) → Readable types t
  read_below zero t l h plains d = absurd (not-suc-le-zero l)
  read_below (suc bound) t l h plains d = read_by t h plains (λ k m. read_below bound k (omega arith) (omega arith)) (types t).inner refl d

-- in an accepted arena each record of data that reaches WGSL's plain records alone is a placed type
pub placed_read : (rule : UniformRule) (c : ℕ) (ts ms : List ℕ) → arena c ts ms ≡ Accepted → (t : ℕ) → t < type_count ts → PlainOnly (decoded ts ms) t
    → T (bit (row (least_for rule) c (decoded ts ms) t).flags data_bit) → Readable (decoded ts ms) t
placed_read rule c ts ms accepted t h plains d =
    let p = arena_parts c ts ms accepted in
    read_below c (decoded ts ms) (type_count ts) p.0 p.1 (suc t) t (omega arith) h plains (rw (older_flags rule c ts ms t) at d)

-- ---- the other way round
-- member i of a struct is a placed type
member_placed : (members : PlacedMembers) (types : ℕ → Decoded) (i t : ℕ) → IsMember members types i t → IsPlaced (type_of_member members i) types t
unfolding IsPlaced type_of_member
member_placed (last type offset) types i t is = is
member_placed (placedMember type offset rest) types zero t is = is
member_placed (placedMember type offset rest) types (suc i) t is = member_placed rest types i t is

-- a placed type reaches WGSL's plain records alone
pub placed_plain : (types : ℕ → Decoded) {t k : ℕ} → Reached types t k → (type : Placed) → IsPlaced type types t
    → (leaf : Leaf) → (types k).inner ≡ PlainRecord leaf → (p : Plain) × (leaf ≡ leaf_of p)
unfolding IsPlaced
placed_plain types itself (plain p) is leaf e = (p, cc)
placed_plain types itself (array type count stride) is leaf e = let v = is.1 in let z : ◌≡◌ {A = ℕ} 0 1 = cc in absurd (omega arith)
placed_plain types itself (runtime_array type stride) is leaf e = let v = is.1 in let z : ◌≡◌ {A = ℕ} 0 1 = cc in absurd (omega arith)
placed_plain types itself (struct members span) is leaf e = let v = is.0 in let z : ◌≡◌ {A = ℕ} 0 1 = cc in absurd (omega arith)
placed_plain types (element {base = base} e r) (array type count stride) is leaf f =
    let v = is.1 in
    let b : is.0 ≡ base = cc in
    placed_plain types r type (rw b at is.2) leaf f
placed_plain types (element e r) (plain p) is leaf f = let z : ◌≡◌ {A = ℕ} 0 1 = cc in absurd (omega arith)
placed_plain types (element e r) (runtime_array type stride) is leaf f = let v = is.1 in let z : ◌≡◌ {A = ℕ} 0 1 = cc in absurd (omega arith)
placed_plain types (element e r) (struct members span) is leaf f = let v = is.0 in let z : ◌≡◌ {A = ℕ} 0 1 = cc in absurd (omega arith)
placed_plain types (runtime_element {base = base} e r) (runtime_array type stride) is leaf f =
    let v = is.1 in
    let b : is.0 ≡ base = cc in
    placed_plain types r type (rw b at is.2) leaf f
placed_plain types (runtime_element e r) (plain p) is leaf f = let z : ◌≡◌ {A = ℕ} 0 1 = cc in absurd (omega arith)
placed_plain types (runtime_element e r) (array type count stride) is leaf f = let v = is.1 in let z : ◌≡◌ {A = ℕ} 0 1 = cc in absurd (omega arith)
placed_plain types (runtime_element e r) (struct members span) is leaf f = let v = is.0 in let z : ◌≡◌ {A = ℕ} 0 1 = cc in absurd (omega arith)
placed_plain types (member {t = t} {count = count} j e l r) (struct members span) is leaf f =
    let v = is.0 in
    let n : member_total members ≡ count = cc in
    placed_plain types r (type_of_member members j) (member_placed members types j (member_type (types t).members j) (is.2 j (omega (arith, n)))) leaf f
placed_plain types (member j e l r) (plain p) is leaf f = let z : ◌≡◌ {A = ℕ} 0 1 = cc in absurd (omega arith)
placed_plain types (member j e l r) (array type count stride) is leaf f = let v = is.1 in let z : ◌≡◌ {A = ℕ} 0 1 = cc in absurd (omega arith)
placed_plain types (member j e l r) (runtime_array type stride) is leaf f = let v = is.1 in let z : ◌≡◌ {A = ℕ} 0 1 = cc in absurd (omega arith)
