-- Term 3 by the module's own Offsets and strides.
-- Assumes nothing.
use mathlib.Core.Path.{◌≡◌, sym, ap, ◌∙◌, subst}
use mathlib.Core.List.{List}
use Prim.Native.Nat.{ℕ, ◌+◌, ◌≤◌, ◌<◌}
use lib.ListN.{length, get_elem?}
use Rattle.valid_type_info.specs.declared.UniformRule.{UniformRule}
use Rattle.place_descent.specs.Place.{place_of}
use Rattle.place_term3.specs.Term3.{row_in, leaf_measure, LeafAt, Has, InLeaf, BetweenColumns, rewrite, Spares}
use Rattle.place_term3.proofs.Term3Proof.{term3}
use Rattle.spirv_words.specs.Module.{word}
use Rattle.spirv_ids.specs.Ids.{type_number}
use Rattle.spirv_types.specs.Types.{State}
use Rattle.spirv_records.proofs.HeldLaws.{Held, read_held}
use Rattle.spirv_place.specs.ModulePlace.{matrix_rows, matrix_width, module_place, module_bytes, numbered}
use Rattle.spirv_place.specs.SpirvTerm3.{ReadType, Shareable, ModuleLeaf, InModuleLeaf, BetweenModuleColumns, SpirvTerm3}
use Rattle.spirv_place.proofs.ColumnLaws.{struct_columns}
use Rattle.spirv_place.proofs.WalkLaws.{unnumbered, place_agrees, place_leaf, matrix_inner, bytes_matrix, measure, first_elements}

module _ (t m : ℕ) (ws : List ℕ) (s : State) (p : ℕ) (r : ReadType t m ws s p) where
  abbrev held : Held t m ws (length ws) s
  held = read_held t m ws s r.is_read

  abbrev n : ℕ
  n = type_number ws p

  own_places : (steps : List ℕ) → place_of s.types s.members n steps ≡ numbered ws (module_place ws p steps)
  own_places = place_agrees t m ws s held p r.is_type

  -- a leaf by the words is one by the records
  abbrev in_records : ModuleLeaf ws p → LeafAt (place_of s.types s.members n)
  in_records l = record { steps = l.steps; byte = l.byte; ty = type_number ws l.ty; place = own_places l.steps ∙ ap (numbered ws) l.place }

  module _ (rule : UniformRule) (c : ℕ) (share : Shareable rule c ws s p) where
    abbrev own_measure : ℕ → ℕ
    own_measure = leaf_measure rule c s.types s.members

    -- as long by its record as by the words
    measured : (l : ModuleLeaf ws p) → own_measure (type_number ws l.ty) ≡ module_bytes ws l.ty
    measured l = measure t m ws s held rule c share.accepted l.ty (place_leaf t m ws s held p r.is_type l.steps l.byte l.ty l.place)

    has_byte : (l : ModuleLeaf ws p) (k : ℕ) → Has (module_bytes ws) l k → Has own_measure (in_records l) k
    has_byte l k h = (h.0, subst (λ (x : ℕ). k < l.byte + x) (sym (measured l)) h.1)

    -- so the bytes that are rewritten are the same
    spares : (l : ModuleLeaf ws p) (k : ℕ) → Spares own_measure (in_records l) k → Spares (module_bytes ws) l k
    spares l k h buffer bytes = subst (λ (x : ℕ). get_elem? (rewrite buffer l.byte x bytes) k ≡ get_elem? buffer k) (measured l) (h buffer bytes)

    -- a byte in a leaf by the records is one by the words, and the other way
    in_module_leaf : (k : ℕ) → InLeaf rule c s.types s.members n k → InModuleLeaf ws p k
    in_module_leaf k i =
        let l = i.leaf in
        let q = unnumbered ws (module_place ws p l.steps) l.byte l.ty (sym (own_places l.steps) ∙ l.place) in
        let own : ModuleLeaf ws p = record { steps = l.steps; byte = l.byte; ty = q.0; place = q.1 } in
        record { leaf = own; has = (i.has.0, subst (λ (x : ℕ). k < l.byte + x) (ap own_measure (sym q.2) ∙ measured own) i.has.1) }

    in_leaf : (k : ℕ) → InModuleLeaf ws p k → InLeaf rule c s.types s.members n k
    in_leaf k i = record { leaf = in_records i.leaf; has = has_byte i.leaf k i.has }

    between : (k : ℕ) → BetweenModuleColumns ws p k → BetweenColumns s.types s.members n k
    between k b =
        let l = b.leaf in
        let at = (place_leaf t m ws s held p r.is_type l.steps l.byte l.ty l.place).at in
        let i = matrix_inner t m ws s held l.ty at b.matrix in
        record {
          leaf = in_records l;
          columns = word ws l.ty 3;
          rows = matrix_rows ws l.ty;
          kind = i.0;
          width = matrix_width ws l.ty;
          matrix = i.1;
          past = subst (λ (x : ℕ). l.byte + x ≤ k) (bytes_matrix t m ws s held rule c share.accepted l.ty b.matrix) b.past;
          below = b.below;
        }

pub spirv_term3 : SpirvTerm3
spirv_term3 =
    record {
      places = λ t m ws s p r steps. own_places t m ws s p r steps;
      columns = λ t m ws s p r. struct_columns t m ws s (read_held t m ws s r.is_read) p r.is_type;
      others = λ rule c t m ws s p r share cover one other ne k has.
          let in_rows = in_records t m ws s p r in
          spares t m ws s p r rule c share one k
          (term3.others rule c s.types s.members (type_number ws p) share cover (in_rows one) (in_rows other) ne k (has_byte t m ws s p r rule c share other k has));
      gaps = λ rule c t m ws s p k r share. (
        λ none leaf.
            spares t m ws s p r rule c share leaf k
            ((term3.gaps rule c s.types s.members (type_number ws p) k).0 (λ i. none (in_module_leaf t m ws s p r rule c share k i)) (in_records t m ws s p r leaf)),
        λ cover b i.
            (term3.gaps rule c s.types s.members (type_number ws p) k).1 share cover (between t m ws s p r rule c share k b) (in_leaf t m ws s p r rule c share k i),
      );
      within = λ rule c t m ws s p r share cover leaf f.
          subst (λ (x : ℕ). leaf.byte + x ≤ (row_in rule c s.types s.members (type_number ws p)).size) (measured t m ws s p r rule c share leaf)
          (term3.within rule c s.types s.members (type_number ws p) share cover (in_records t m ws s p r leaf)
          (first_elements t m ws s (read_held t m ws s r.is_read) leaf.steps p r.is_type f));
      aligned = λ rule c t m ws s p r share good leaf.
          term3.aligned rule c s.types s.members (type_number ws p) share good (in_records t m ws s p r leaf);
    }
