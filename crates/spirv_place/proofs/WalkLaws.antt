-- Places by the records are places by the module's words, and end at types that were read.
-- Assumes nothing.
use mathlib.Core.Path.{◌≡◌, refl, sym, ap, ◌∙◌, subst}
use mathlib.Core.Bool.{Bool, true, false}
use mathlib.Core.List.{List, [], ◌∷◌}
use Prim.Native.Nat.{ℕ, ◌+◌, ◌*◌, ◌≤◌, ◌<◌}
use native.Mathlib.Omega.{arith}
use lib.Dec.{eqb, leb}
use lib.ListN.{length}
use borrow.Author.Tests.{lt-ltb, leb-true, ne_eqb}
use Rattle.std.proofs.lemmas.Bool.{and_parts}
use Rattle.ir_records.specs.Result.{pick}
use Rattle.ir_records.specs.Record.{Decoded, decoded, type_count, type_inner, inner_of, member_count, scalar_kind, vector_kind, matrix_kind, array_kind, struct_kind}
use Rattle.ir_records.specs.Outcome.{Accepted}
use Rattle.ir_records.specs.declared.Leaf.{Leaf}
use Rattle.ir_records.specs.declared.Leaf.TheVariants.{Scalar, Vector, Matrix}
use Rattle.ir_records.specs.declared.TypeInner.TheVariants.{Plain}
use Rattle.proc_type_methods.specs.TypeMethods.{leaf_size}
use Rattle.proc_layouter.proofs.LayoutAccepted.{plain_layout}
use Rattle.valid_type_info.specs.declared.UniformRule.{UniformRule}
use Rattle.valid_type_info.specs.Verdict.{least_for}
use Rattle.valid_arena.specs.Arena.{arena}
use Rattle.valid_arena.proofs.AcceptedLaws.{row_size}
use Rattle.valid_arena.proofs.ArenaLaws.{accepted_types}
use Rattle.place_steps.specs.Step.{Step}
use Rattle.place_steps.specs.Step.{To, Column, NoStep}
use Rattle.place_descent.specs.Place.{Place}
use Rattle.place_descent.specs.Place.{At, NoPlace}
use Rattle.place_descent.specs.Place.{ended, follow, walk, place_in, place_of}
use Rattle.place_term3.specs.Term3.{row_in, leaf_measure, first_element, after, FirstElements}
use Rattle.spirv_words.specs.Module.{opcode, word, type_bool, type_vector, type_matrix, type_runtime_array}
use Rattle.spirv_ids.specs.Ids.{type_number}
use Rattle.spirv_members.specs.Members.{number_of, member_count_at}
use Rattle.spirv_types.specs.Types.{State, base_sort, base_word, stride_of, length_of, length_sort}
use Rattle.spirv_records.specs.TypesRead.{TypeReadAt, scalar_width}
use Rattle.spirv_records.proofs.MadeLaws.{MadeAs, as_scalar, as_vector, as_matrix, as_array, as_runtime_array, as_struct}
use Rattle.spirv_records.proofs.HeldLaws.{Held, Recorded}
use Rattle.spirv_records.proofs.RecordedLaws.{own_within, inner_is}
use Rattle.spirv_place.specs.ModulePlace.{named, matrix_rows, matrix_width, module_step, module_leaf, module_place, module_bytes, numbered, onward, FirstSteps}
use Rattle.spirv_place.proofs.StepLaws.{step_numbered, StepReads, made, base_width, matrix_words, step_agrees, leaf_agrees}

at_parts : (a b c d : ℕ) → At a b ≡ At c d → (a ≡ c) × (b ≡ d)
at_parts a b c d e = (cc, cc)

no_at : (a b : ℕ) → NoPlace ≡ At a b → ⊥
no_at a b e = let z : ◌≡◌ {A = ℕ} 0 1 = cc in absurd (omega arith)

-- a place by its number is one by its instruction
pub unnumbered : (ws : List ℕ) (x : Place) (byte leaf : ℕ) → numbered ws x ≡ At byte leaf → (q : ℕ) × (x ≡ At byte q) × (type_number ws q ≡ leaf)
unnumbered ws (At b q) byte leaf e = let p = at_parts b (type_number ws q) byte leaf e in (q, ap (λ (n : ℕ). At n q) p.0, p.1)
unnumbered ws NoPlace byte leaf e = absurd (no_at byte leaf e)

module _ (t m : ℕ) (ws : List ℕ) (s : State) (held : Held t m ws (length ws) s) where
  abbrev types : ℕ → Decoded
  types = decoded s.types s.members

  abbrev module_walk : (p byte : ℕ) → List ℕ → Place
  module_walk = walk (module_step ws) (module_leaf ws)

  -- ---- the walk
  ends : (b : Bool) (byte p : ℕ) → pick b (At byte (type_number ws p)) NoPlace ≡ numbered ws (pick b (At byte p) NoPlace)
  ends true byte p = refl
  ends false byte p = refl

  column_ends : (byte p : ℕ) (steps : List ℕ) → ended byte (type_number ws p) steps ≡ numbered ws (ended byte p steps)
  column_ends byte p [] = refl
  column_ends byte p (x ∷ steps) = refl

  goes_on : (p byte : ℕ) (steps : List ℕ) (st : Step) → StepReads ws p st
      → ((q : ℕ) → TypeReadAt ws q → (b : ℕ) → place_in types (type_number ws q) b steps ≡ numbered ws (module_walk q b steps))
      → follow (step_numbered ws st) (λ b. ended (byte + b) (type_number ws p) steps) (λ next b. place_in types next (byte + b) steps)
      ≡ numbered ws (follow st (λ b. ended (byte + b) p steps) (λ next b. module_walk next (byte + b) steps))
  goes_on p byte steps (To q b) read rest = rest q read (byte + b)
  goes_on p byte steps (Column b) read rest = column_ends (byte + b) p steps
  goes_on p byte steps NoStep read rest = refl

  walk_agrees : (steps : List ℕ) (p : ℕ) → TypeReadAt ws p → (byte : ℕ) → place_in types (type_number ws p) byte steps ≡ numbered ws (module_walk p byte steps)
  walk_agrees [] p at byte = ap (λ (b : Bool). pick b (At byte (type_number ws p)) NoPlace) (leaf_agrees t m ws s held p at) ∙ ends (module_leaf ws p) byte p
  walk_agrees (x ∷ steps) p at byte =
      let a = step_agrees t m ws s held p at x in
      ap (λ (st : Step). follow st (λ b. ended (byte + b) (type_number ws p) steps) (λ next b. place_in types next (byte + b) steps)) a.agrees
      ∙ goes_on p byte steps (module_step ws p x) a.reads (walk_agrees steps)

  pub place_agrees : (p : ℕ) → TypeReadAt ws p → (steps : List ℕ) → place_of s.types s.members (type_number ws p) steps ≡ numbered ws (module_place ws p steps)
  unfolding place_of module_place
  place_agrees p at steps = rw (lt-ltb (type_number ws p) (type_count s.types) (own_within ws s p (held.recorded p at))) (walk_agrees steps p at 0)

  -- ---- where it ends
  pub record ReachedLeaf (leaf : ℕ) : Type 0 where
    pub at : TypeReadAt ws leaf
    pub plain : opcode ws leaf ≤ type_matrix

  leaf_here : (p byte b leaf : ℕ) → TypeReadAt ws p → (test : Bool) → module_leaf ws p ≡ test → pick test (At byte p) NoPlace ≡ At b leaf → ReachedLeaf leaf
  leaf_here p byte b leaf at true l e =
      let h = leb-true (opcode ws p) type_vector (and_parts (leb type_bool (opcode ws p)) _ l).1 in
      subst (λ (x : ℕ). ReachedLeaf x) (at_parts byte p b leaf e).1 (record { at = at; plain = omega (arith, h) })
  leaf_here p byte b leaf at false l e = absurd (no_at b leaf e)

  column_here : (p byte b leaf : ℕ) → TypeReadAt ws p → opcode ws p ≡ type_matrix → (steps : List ℕ) → ended byte p steps ≡ At b leaf → ReachedLeaf leaf
  column_here p byte b leaf at o [] e = subst (λ (x : ℕ). ReachedLeaf x) (at_parts byte p b leaf e).1 (record { at = at; plain = omega (arith, o) })
  column_here p byte b leaf at o (x ∷ steps) e = absurd (no_at b leaf e)

  reached_on : (p byte b leaf : ℕ) → TypeReadAt ws p → (steps : List ℕ) (st : Step) → StepReads ws p st
      → ((q : ℕ) → TypeReadAt ws q → (from : ℕ) → module_walk q from steps ≡ At b leaf → ReachedLeaf leaf)
      → follow st (λ x. ended (byte + x) p steps) (λ next x. module_walk next (byte + x) steps) ≡ At b leaf → ReachedLeaf leaf
  reached_on p byte b leaf at steps (To q x) read rest e = rest q read (byte + x) e
  reached_on p byte b leaf at steps (Column x) read rest e = column_here p (byte + x) b leaf at read steps e
  reached_on p byte b leaf at steps NoStep read rest e = absurd (no_at b leaf e)

  leaf_reached : (b leaf : ℕ) (steps : List ℕ) (p : ℕ) → TypeReadAt ws p → (byte : ℕ) → module_walk p byte steps ≡ At b leaf → ReachedLeaf leaf
  leaf_reached b leaf [] p at byte e = leaf_here p byte b leaf at (module_leaf ws p) refl e
  leaf_reached b leaf (x ∷ steps) p at byte e =
      reached_on p byte b leaf at steps (module_step ws p x) (step_agrees t m ws s held p at x).reads (leaf_reached b leaf steps) e

  pub place_leaf : (p : ℕ) → TypeReadAt ws p → (steps : List ℕ) (byte leaf : ℕ) → module_place ws p steps ≡ At byte leaf → ReachedLeaf leaf
  unfolding module_place
  place_leaf p at steps byte leaf e = leaf_reached byte leaf steps p at 0 e

  -- ---- what a matrix is, by its words
  pub matrix_inner : (p : ℕ) → TypeReadAt ws p → opcode ws p ≡ type_matrix
      → (kind : ℕ) × (type_inner s.types (type_number ws p) ≡ Plain (Matrix (word ws p 3) (matrix_rows ws p) kind (matrix_width ws p)))
  unfolding inner_of
  matrix_inner p at e = by (made t m ws s held p at)
    where
      r : Recorded ws s p
      r = held.recorded p at

      by : MadeAs ws r.was p r.made
          → (kind : ℕ) × (type_inner s.types (type_number ws p) ≡ Plain (Matrix (word ws p 3) (matrix_rows ws p) kind (matrix_width ws p)))
      by (as_matrix o l h b k is) =
          let rows = base_word ws r.was.types p 1 in
          let kind = base_word ws r.was.types p 2 in
          let width = base_word ws r.was.types p 3 in
          let v = matrix_words t m ws s held p at b k in (
            kind,
            inner_is ws s p r matrix_kind (word ws p 3) rows kind width is
                ∙ ap (λ (x : ℕ). Plain (Matrix (word ws p 3) x kind width)) v.0
                ∙ ap (λ (x : ℕ). Plain (Matrix (word ws p 3) (matrix_rows ws p) kind x)) v.1,
          )
      by (as_scalar kind l h small power is) = absurd (omega (arith, e, h))
      by (as_vector o l h b k is) = absurd (omega (arith, e, o))
      by (as_array o b l is) = absurd (omega (arith, e, o))
      by (as_runtime_array o b is) = absurd (omega (arith, e, o))
      by (as_struct span o sound u is) = absurd (omega (arith, e, o))

  -- ---- what a leaf measures
  module _ (rule : UniformRule) (c : ℕ) (accepted : arena c s.types s.members ≡ Accepted) where
    plain_size : (p : ℕ) → TypeReadAt ws p → (leaf : Leaf) → type_inner s.types (type_number ws p) ≡ Plain leaf
        → (row_in rule c s.types s.members (type_number ws p)).size ≡ leaf_size leaf
    plain_size p at leaf e =
        let acc = accepted_types c s.types s.members accepted in
        let h = own_within ws s p (held.recorded p at) in
        row_size (least_for rule) c types (type_count s.types) acc (type_number ws p) h
        ∙ (plain_layout types (type_count s.types) acc.layouts (type_number ws p) h leaf e).0

    pub bytes_matrix : (p : ℕ) → opcode ws p ≡ type_matrix → module_bytes ws p ≡ matrix_rows ws p * matrix_width ws p
    unfolding module_bytes
    bytes_matrix p o = rw o refl

    bytes_vector : (p : ℕ) → opcode ws p ≡ type_vector → module_bytes ws p ≡ word ws p 3 * scalar_width ws (named ws p 2)
    unfolding module_bytes
    bytes_vector p o = ap (λ (x : ℕ). pick (eqb x type_matrix) (matrix_rows ws p * matrix_width ws p) (pick (eqb x type_vector) (word ws p 3 * scalar_width ws (named ws p 2)) (scalar_width ws p))) o

    bytes_scalar : (p : ℕ) → opcode ws p < type_vector → module_bytes ws p ≡ scalar_width ws p
    unfolding module_bytes
    bytes_scalar p h = rw (ne_eqb (opcode ws p) type_matrix (λ e. omega (arith, h, e)), ne_eqb (opcode ws p) type_vector (λ e. omega (arith, h, e))) refl

    pub measure : (p : ℕ) → ReachedLeaf p → leaf_measure rule c s.types s.members (type_number ws p) ≡ module_bytes ws p
    unfolding inner_of
    measure p leaf = by (made t m ws s held p leaf.at)
      where
        r : Recorded ws s p
        r = held.recorded p leaf.at

        by : MadeAs ws r.was p r.made → leaf_measure rule c s.types s.members (type_number ws p) ≡ module_bytes ws p
        by (as_scalar kind l h small power is) =
            let i = inner_is ws s p r scalar_kind kind (scalar_width ws p) 0 0 is in
            rw (i, plain_size p leaf.at (Scalar kind (scalar_width ws p)) i, bytes_scalar p (omega (arith, h))) refl
        by (as_vector o l h b k is) =
            let kind = base_word ws r.was.types p 1 in
            let width = base_word ws r.was.types p 2 in
            let i = inner_is ws s p r vector_kind (word ws p 3) kind width 0 is in
            rw (i, plain_size p leaf.at (Vector (word ws p 3) kind width) i, bytes_vector p o, base_width t m ws s held p leaf.at b k) refl
        by (as_matrix o l h b k is) =
            let i = matrix_inner p leaf.at o in
            rw (i.1, bytes_matrix p o) refl
        by (as_array o b l is) = absurd (omega (arith, o, leaf.plain))
        by (as_runtime_array o b is) = absurd (omega (arith, o, leaf.plain))
        by (as_struct span o sound u is) = absurd (omega (arith, o, leaf.plain))

  -- ---- first elements
  first_agrees : (p x : ℕ) → TypeReadAt ws p → (opcode ws p ≡ type_runtime_array → x ≡ 0) → first_element (types (type_number ws p)).inner x
  unfolding inner_of
  first_agrees p x at f = by (made t m ws s held p at)
    where
      r : Recorded ws s p
      r = held.recorded p at

      by : MadeAs ws r.was p r.made → first_element (types (type_number ws p)).inner x
      by (as_scalar kind l h small power is) = rw (inner_is ws s p r scalar_kind kind (scalar_width ws p) 0 0 is) tt
      by (as_vector o l h b k is) = rw (inner_is ws s p r vector_kind (word ws p 3) (base_word ws r.was.types p 1) (base_word ws r.was.types p 2) 0 is) tt
      by (as_matrix o l h b k is) = rw (inner_is ws s p r matrix_kind (word ws p 3) (base_word ws r.was.types p 1) (base_word ws r.was.types p 2) (base_word ws r.was.types p 3) is) tt
      by (as_array o b l is) = rw (inner_is ws s p r array_kind (number_of (base_sort ws p)) 0 (length_of ws (length_sort ws p)) (stride_of ws p) is) tt
      by (as_runtime_array o b is) = rw (inner_is ws s p r array_kind (number_of (base_sort ws p)) 1 0 (stride_of ws p) is) (f o)
      by (as_struct span o sound u is) = rw (inner_is ws s p r struct_kind (member_count r.was.members) (member_count_at ws p) span 0 is) tt

  first_on : (p : ℕ) (steps : List ℕ) (st : Step) → StepReads ws p st → onward st (λ q. FirstSteps ws q steps)
      → ((q : ℕ) → TypeReadAt ws q → FirstSteps ws q steps → FirstElements types (type_number ws q) steps)
      → after (step_numbered ws st) (λ next. FirstElements types next steps)
  first_on p steps (To q b) read f rest = rest q read f
  first_on p steps (Column b) read f rest = tt
  first_on p steps NoStep read f rest = tt

  pub first_elements : (steps : List ℕ) (p : ℕ) → TypeReadAt ws p → FirstSteps ws p steps → FirstElements types (type_number ws p) steps
  first_elements [] p at f = tt
  first_elements (x ∷ steps) p at f =
      let a = step_agrees t m ws s held p at x in (
        first_agrees p x at f.0,
        subst (λ (st : Step). after st (λ next. FirstElements types next steps)) (sym a.agrees) (first_on p steps (module_step ws p x) a.reads f.1 (first_elements steps)),
      )
