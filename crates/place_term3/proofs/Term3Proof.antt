-- Term 3 of the terms of acceptance, proved.
-- Assumes nothing.
use mathlib.Core.Path.{◌≡◌, sym, ◌∙◌, ap}
use mathlib.Core.Logic.{◌⊎◌, inl, inr, ⊎_elim}
use mathlib.Core.List.{List, ◌++◌}
use Prim.Native.Nat.{ℕ, ◌+◌, ◌≤◌, ◌<◌}
use native.Mathlib.Decide.{dec_le, dec_lt}
use native.Mathlib.Omega.{arith}
use Rattle.ir_records.specs.Record.{decoded, type_count}
use Rattle.valid_type_info.specs.declared.Row.{Row}
use Rattle.valid_type_info.specs.declared.UniformRule.{UniformRule}
use Rattle.valid_type_info.specs.TypeInfo.{without_uniform}
use Rattle.valid_type_info.specs.Verdict.{least_for}
use Rattle.valid_arena.proofs.AppendLaws.{types_append}
use Rattle.valid_arena.proofs.ArenaLaws.{accepted_types, arena_more, decoded_same, arena_row_append}
use Rattle.valid_arena.proofs.CommonLaws.{row_common}
use Rattle.place_term3.specs.Term3.{row_in, leaf_measure, InLeaf, BetweenColumns, HostShareableData, StridesCover, Term3}
use Rattle.place_descent.specs.Place.{At}
use Rattle.place_descent.specs.Place.{step_in, leaf_in, place_of}
use Rattle.place_descent.proofs.WalkLaws.{Way, way, place_found, place_from}
use Rattle.place_term3.proofs.BufferLaws.{rewrite_other}
use Rattle.place_term3.proofs.ColumnLaws.{matrix_column}
use Rattle.place_term3.proofs.StepLaws.{place_aligned, contained, disjoint, leaf_reaches}
use Rattle.place_term3.proofs.KeptLaws.{same_place}

-- a byte of one run lies outside another that is apart
outside : (x m y k j : ℕ) → (x + m ≤ y) ⊎ (y + k ≤ x) → y ≤ j → j < y + k → (j < x) ⊎ (x + m ≤ j)
outside x m y k j (inl h) lo hi = inr (omega arith)
outside x m y k j (inr h) lo hi = inl (omega arith)

-- shorter runs from the same places are apart too
closer : (x m r y k q : ℕ) → m ≤ r → k ≤ q → (x + r ≤ y) ⊎ (y + q ≤ x) → (x + m ≤ y) ⊎ (y + k ≤ x)
closer x m r y k q a b (inl h) = inl (omega arith)
closer x m r y k q a b (inr h) = inr (omega arith)

-- a byte that is none of a run lies outside it
none_of : (x m k : ℕ) → ¬ ((x ≤ k) × (k < x + m)) → (k < x) ⊎ (x + m ≤ k)
none_of x m k f = go (dec_le x k) (dec_lt k (x + m))
  where
    go : Dec (x ≤ k) → Dec (k < x + m) → (k < x) ⊎ (x + m ≤ k)
    go (no a) b = inl (omega arith)
    go (yes a) (no b) = inr (omega arith)
    go (yes a) (yes b) = absurd (f (a, b))

-- the way to a place
pub way_to : (ts ms : List ℕ) (t : ℕ) (steps : List ℕ) (byte leaf : ℕ) → place_of ts ms t steps ≡ At byte leaf
    → Way (step_in (decoded ts ms)) (leaf_in (decoded ts ms)) t 0 steps byte leaf
way_to ts ms t steps byte leaf e = way (step_in (decoded ts ms)) (leaf_in (decoded ts ms)) steps t 0 byte leaf (place_found ts ms t steps byte leaf e)

-- one list of steps leads to one place
same_place_of : (ts ms : List ℕ) (t : ℕ) {steps steps' : List ℕ} {byte leaf byte' leaf' : ℕ} → steps ≡ steps'
    → place_of ts ms t steps ≡ At byte leaf → place_of ts ms t steps' ≡ At byte' leaf' → (byte ≡ byte') × (leaf ≡ leaf')
same_place_of ts ms t {steps} {steps'} {byte} {leaf} {byte'} {leaf'} s e e' =
    let z : At byte leaf ≡ At byte' leaf' = sym e ∙ ap (place_of ts ms t) s ∙ e' in
    (cc, cc)

-- no byte between columns is in a leaf
not_in_leaf : (rule : UniformRule) (c : ℕ) (ts ms : List ℕ) (t k : ℕ) → HostShareableData rule c ts ms t → StridesCover (row_in rule c ts ms) (decoded ts ms) t
    → BetweenColumns ts ms t k → ¬ InLeaf rule c ts ms t k
not_in_leaf rule c ts ms t k s v b f =
    let acc = accepted_types c ts ms s.accepted in
    let w = way_to ts ms t b.leaf.steps b.leaf.byte b.leaf.ty b.leaf.place in
    let w' = way_to ts ms t f.leaf.steps f.leaf.byte f.leaf.ty f.leaf.place in
    let m' = leaf_reaches rule c (decoded ts ms) (type_count ts) acc w' s.within in
    let r = matrix_column (decoded ts ms b.leaf.ty).inner b.columns b.rows b.kind b.width b.matrix (row_in rule c ts ms b.leaf.ty).size in
    ⊎_elim
    (λ same.
    let z = same_place_of ts ms t same b.leaf.place f.leaf.place in
    let m = ap (leaf_measure rule c ts ms) z.1 in
    omega (arith, z.0, r.0, b.past, f.has.1))
    (λ apart. ⊎_elim (λ h. omega (arith, r.1, b.below, f.has.0)) (λ h. omega (arith, b.past, f.has.1)) apart)
    (disjoint rule c (decoded ts ms) (type_count ts) acc w w' s.within s.host_shareable v)

-- term 3
pub term3 : Term3
term3 =
    record {
      others = λ rule c ts ms t s v one other ne k has buffer bytes.
          let acc = accepted_types c ts ms s.accepted in
          let w = way_to ts ms t one.steps one.byte one.ty one.place in
          let w' = way_to ts ms t other.steps other.byte other.ty other.place in
          let m = leaf_reaches rule c (decoded ts ms) (type_count ts) acc w s.within in
          let m' = leaf_reaches rule c (decoded ts ms) (type_count ts) acc w' s.within in
          rewrite_other buffer bytes one.byte (leaf_measure rule c ts ms one.ty) k
          (⊎_elim (λ same. absurd (ne same))
          (λ apart.
          outside one.byte (leaf_measure rule c ts ms one.ty) other.byte (leaf_measure rule c ts ms other.ty) k
          (closer one.byte _ _ other.byte _ _ m m' apart) has.0 has.1)
          (disjoint rule c (decoded ts ms) (type_count ts) acc w w' s.within s.host_shareable v));
      gaps = λ rule c ts ms t k. (
        λ none leaf buffer bytes.
            rewrite_other buffer bytes leaf.byte (leaf_measure rule c ts ms leaf.ty) k
            (none_of leaf.byte (leaf_measure rule c ts ms leaf.ty) k (λ h. none (record { leaf = leaf; has = h }))),
        not_in_leaf rule c ts ms t k,
      );
      within = λ rule c ts ms t s v leaf f.
          let acc = accepted_types c ts ms s.accepted in
          let w = way_to ts ms t leaf.steps leaf.byte leaf.ty leaf.place in
          let k = contained rule c (decoded ts ms) (type_count ts) acc w s.within v f in
          let m = leaf_reaches rule c (decoded ts ms) (type_count ts) acc w s.within in
          omega arith;
      aligned = λ rule c ts ms t s k leaf.
          place_aligned rule c (decoded ts ms) (type_count ts) (accepted_types c ts ms s.accepted) s.within k
          (way_to ts ms t leaf.steps leaf.byte leaf.ty leaf.place);
      accepted = arena_more;
      kept = λ rule rule' c d adds ts ms ts' ms' a a' t h.
          let r : without_uniform (row_in rule c ts ms t) ≡ without_uniform (row_in rule' d (ts ++ ts') (ms ++ ms') t) =
          ap without_uniform (arena_row_append (least_for rule) c d ts ms ts' ms' a a' t h)
          ∙ row_common (least_for rule) d (decoded (ts ++ ts') (ms ++ ms')) t
          ∙ sym (row_common (least_for rule') d (decoded (ts ++ ts') (ms ++ ms')) t) in
          let l : t < type_count (ts ++ ts') = let m = types_append ts ms ts' ms' in omega arith in (
            ap (λ (x : Row). x.size) r,
            ap (λ (x : Row). x.flags) r,
            ap (λ (x : Row). x.storage) r,
            λ steps.
                place_from ts ms t h steps
                ∙ same_place c (decoded ts ms) (decoded (ts ++ ts') (ms ++ ms')) (type_count ts) (accepted_types c ts ms a) (decoded_same c ts ms ts' ms' a) steps t 0 h
                ∙ sym (place_from (ts ++ ts') (ms ++ ms') t l steps),
          );
    }
