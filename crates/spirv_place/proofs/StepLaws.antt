-- One step by the records is one step by the module's words.
-- Assumes nothing.
use mathlib.Core.Path.{◌≡◌, refl, sym, ap, ◌∙◌, subst}
use mathlib.Core.Bool.{Bool, true, false}
use mathlib.Core.Logic.{inl, inr}
use mathlib.Core.List.{List, [], ◌∷◌}
use Prim.Native.Nat.{ℕ, suc, ◌+◌, ◌*◌, ◌^◌, ◌≤◌, ◌<◌}
use native.Mathlib.Omega.{arith}
use native.Mathlib.Decide.{dec_le}
use lib.Dec.{ltb}
use lib.ListN.{length, get_or}
use borrow.Author.Tests.{lt-ltb, le-ltb, le-leb, lt-leb, ne_eqb}
use Rattle.std.proofs.lemmas.Bool.{and_parts}
use Rattle.ir_records.specs.Result.{pick}
use Rattle.ir_records.specs.Record.{Decoded, decoded, type_word, type_inner, inner_of, struct_members, member_count, member_words, member_type, member_offset, scalar_kind, vector_kind, matrix_kind, array_kind, struct_kind}
use Rattle.proc_type_methods.specs.TypeMethods.{column_step}
use Rattle.place_steps.specs.Step.{Step}
use Rattle.place_steps.specs.Step.{To, Column, NoStep}
use Rattle.place_steps.specs.Steps.{step_of}
use Rattle.place_descent.specs.Place.{step_in, leaf_in}
use Rattle.spirv_words.specs.Module.{opcode, word, type_bool, type_vector, type_matrix, type_array, type_runtime_array, type_struct, before, between, first}
use Rattle.spirv_ids.specs.Ids.{gives, giver, sort, type_number}
use Rattle.spirv_members.specs.Members.{is_type_read, number_of, member_number, member_sort, member_count_at, offset_of, member_rows, member_sound, members_sound}
use Rattle.spirv_members.proofs.NumberLaws.{type-read, read_below}
use Rattle.spirv_members.proofs.AlignmentLaws.{row-word}
use Rattle.spirv_types.specs.Types.{State, base_sort, base_word, stride_of, length_of, length_sort}
use Rattle.spirv_records.specs.TypesRead.{Among, TypeReadAt, scalar_width}
use Rattle.spirv_records.proofs.MadeLaws.{MadeAs, as_scalar, as_vector, as_matrix, as_array, as_runtime_array, as_struct, made_as}
use Rattle.spirv_records.proofs.HeldLaws.{Held, Recorded, among_left}
use Rattle.spirv_records.proofs.RecordedLaws.{earlier_word, word_is, inner_is, own_rows}
use Rattle.spirv_records.proofs.OrderLaws.{sound_at}
use Rattle.spirv_place.specs.ModulePlace.{named, matrix_rows, matrix_width, module_step, module_leaf}

-- what a search finds is among what it looks through
first_among : (test : ℕ → Bool) (ps : List ℕ) → 0 < first test ps → Among (first test ps) ps
unfolding first
first_among test [] h = absurd (omega (arith, h))
first_among test (p ∷ ps) h = by (test p) refl (first_among test ps)
  where
    by : (b : Bool) → test p ≡ b → (0 < first test ps → Among (first test ps) ps) → Among (first test (p ∷ ps)) (p ∷ ps)
    by true e rest = rw e (inl refl)
    by false e rest =
        let on : first test (p ∷ ps) ≡ first test ps = rw e refl in
        inr (subst (λ (x : ℕ). Among x ps) (sym on) (rest (subst (λ (x : ℕ). 0 < x) on h)))

-- a step by the words, with the numbers of the types
abbrev pub step_numbered : (ws : List ℕ) → Step → Step
step_numbered ws (To p bytes) = To (type_number ws p) bytes
step_numbered ws (Column bytes) = Column bytes
step_numbered ws NoStep = NoStep

-- where a step leads to a type, that is one that was read; where it leads to a column, it is from a matrix
abbrev pub StepReads : (ws : List ℕ) (p : ℕ) → Step → Type 0
StepReads ws p (To q bytes) = TypeReadAt ws q
StepReads ws p (Column bytes) = opcode ws p ≡ type_matrix
StepReads ws p NoStep = Unit {0}

numbered_to : (ws : List ℕ) (b : Bool) (q bytes : ℕ) → step_numbered ws (pick b (To q bytes) NoStep) ≡ pick b (To (type_number ws q) bytes) NoStep
numbered_to ws true q bytes = refl
numbered_to ws false q bytes = refl

numbered_column : (ws : List ℕ) (b : Bool) (bytes : ℕ) → step_numbered ws (pick b (Column bytes) NoStep) ≡ pick b (Column bytes) NoStep
numbered_column ws true bytes = refl
numbered_column ws false bytes = refl

reads_to : (ws : List ℕ) (p : ℕ) (b : Bool) (q bytes : ℕ) → (b ≡ true → TypeReadAt ws q) → StepReads ws p (pick b (To q bytes) NoStep)
reads_to ws p true q bytes h = h refl
reads_to ws p false q bytes h = tt

reads_column : (ws : List ℕ) (p : ℕ) (b : Bool) (bytes : ℕ) → opcode ws p ≡ type_matrix → StepReads ws p (pick b (Column bytes) NoStep)
reads_column ws p true bytes h = h
reads_column ws p false bytes h = tt

module _ (t m : ℕ) (ws : List ℕ) (s : State) (held : Held t m ws (length ws) s) where
  abbrev types : ℕ → Decoded
  types = decoded s.types s.members

  -- the type that an operand names, and its number
  module _ (p : ℕ) (at : TypeReadAt ws p) (k : ℕ) (read : is_type_read (sort ws p (word ws p k)) ≡ true) where
    abbrev r : Recorded ws s p
    r = held.recorded p at

    pub named_read : TypeReadAt ws (named ws p k)
    unfolding giver
    named_read =
        let g = type-read ws p (word ws p k) read in
        record {
          among = rw (r.stands.split (length ws) r.within)
              (among_left (named ws p k) (before ws p) (between ws p (length ws)) (first_among (gives ws (word ws p k)) (before ws p) g.given));
          reads = g.opcode_read;
        }

    pub named_number : number_of (sort ws p (word ws p k)) ≡ type_number ws (named ws p k)
    named_number = (type-read ws p (word ws p k) read).number

  -- ---- the words of a scalar and of a vector
  module _ (p : ℕ) (at : TypeReadAt ws p) where
    abbrev own : Recorded ws s p
    own = held.recorded p at

    abbrev n : ℕ
    n = type_number ws p

    pub made : MadeAs ws own.was p own.made
    made = made_as ws own.was p own.made own.reads own.judged

    -- word k of the record of the type that word 2 names
    pub base-word : is_type_read (base_sort ws p) ≡ true → (k : ℕ) → k < 6 → base_word ws own.was.types p k ≡ type_word s.types (type_number ws (named ws p 2)) k
    base-word b k l =
        sym (earlier_word ws s p own (number_of (base_sort ws p)) k (read_below ws p (word ws p 2) b) l)
        ∙ ap (λ (i : ℕ). type_word s.types i k) (named_number p at 2 b)

    pub scalar_words : type_word s.types n 0 ≡ scalar_kind → type_word s.types n 2 ≡ scalar_width ws p
    scalar_words e = by made
      where
        by : MadeAs ws own.was p own.made → type_word s.types n 2 ≡ scalar_width ws p
        by (as_scalar kind l h small power is) = word_is ws s p own scalar_kind kind (scalar_width ws p) 0 0 is 2
        by (as_vector o l h b k is) = absurd (omega (arith, e, word_is ws s p own vector_kind (word ws p 3) (base_word ws own.was.types p 1) (base_word ws own.was.types p 2) 0 is 0))
        by (as_matrix o l h b k is) = absurd (omega (arith, e, word_is ws s p own matrix_kind (word ws p 3) (base_word ws own.was.types p 1) (base_word ws own.was.types p 2) (base_word ws own.was.types p 3) is 0))
        by (as_array o b l is) = absurd (omega (arith, e, word_is ws s p own array_kind (number_of (base_sort ws p)) 0 (length_of ws (length_sort ws p)) (stride_of ws p) is 0))
        by (as_runtime_array o b is) = absurd (omega (arith, e, word_is ws s p own array_kind (number_of (base_sort ws p)) 1 0 (stride_of ws p) is 0))
        by (as_struct span o x u is) = absurd (omega (arith, e, word_is ws s p own struct_kind (member_count own.was.members) (member_count_at ws p) span 0 is 0))

  -- the width of the type that word 2 names, where its record is a scalar's
  pub base_width : (p : ℕ) (at : TypeReadAt ws p) → is_type_read (base_sort ws p) ≡ true → base_word ws (held.recorded p at).was.types p 0 ≡ scalar_kind
      → base_word ws (held.recorded p at).was.types p 2 ≡ scalar_width ws (named ws p 2)
  base_width p at b k =
      base-word p at b 2 (omega arith) ∙ scalar_words (named ws p 2) (named_read p at 2 b) (sym (base-word p at b 0 (omega arith)) ∙ k)

  -- rows and width of a vector's record
  pub vector_words : (p : ℕ) (at : TypeReadAt ws p) → type_word s.types (type_number ws p) 0 ≡ vector_kind
      → (type_word s.types (type_number ws p) 1 ≡ word ws p 3) × (type_word s.types (type_number ws p) 3 ≡ scalar_width ws (named ws p 2))
  vector_words p at e = by (made p at)
    where
      o₁ : Recorded ws s p
      o₁ = held.recorded p at

      by : MadeAs ws o₁.was p o₁.made
          → (type_word s.types (type_number ws p) 1 ≡ word ws p 3) × (type_word s.types (type_number ws p) 3 ≡ scalar_width ws (named ws p 2))
      by (as_vector o l h b k is) =
          let w = word_is ws s p o₁ vector_kind (word ws p 3) (base_word ws o₁.was.types p 1) (base_word ws o₁.was.types p 2) 0 is in
          (w 1, w 3 ∙ base_width p at b k)
      by (as_scalar kind l h small power is) = absurd (omega (arith, e, word_is ws s p o₁ scalar_kind kind (scalar_width ws p) 0 0 is 0))
      by (as_matrix o l h b k is) = absurd (omega (arith, e, word_is ws s p o₁ matrix_kind (word ws p 3) (base_word ws o₁.was.types p 1) (base_word ws o₁.was.types p 2) (base_word ws o₁.was.types p 3) is 0))
      by (as_array o b l is) = absurd (omega (arith, e, word_is ws s p o₁ array_kind (number_of (base_sort ws p)) 0 (length_of ws (length_sort ws p)) (stride_of ws p) is 0))
      by (as_runtime_array o b is) = absurd (omega (arith, e, word_is ws s p o₁ array_kind (number_of (base_sort ws p)) 1 0 (stride_of ws p) is 0))
      by (as_struct span o x u is) = absurd (omega (arith, e, word_is ws s p o₁ struct_kind (member_count o₁.was.members) (member_count_at ws p) span 0 is 0))

  -- rows and width of a matrix
  pub matrix_words : (p : ℕ) (at : TypeReadAt ws p) → is_type_read (base_sort ws p) ≡ true → base_word ws (held.recorded p at).was.types p 0 ≡ vector_kind
      → (base_word ws (held.recorded p at).was.types p 1 ≡ matrix_rows ws p) × (base_word ws (held.recorded p at).was.types p 3 ≡ matrix_width ws p)
  matrix_words p at b k =
      let v = vector_words (named ws p 2) (named_read p at 2 b) (sym (base-word p at b 0 (omega arith)) ∙ k) in
      (base-word p at b 1 (omega arith) ∙ v.0, base-word p at b 3 (omega arith) ∙ v.1)

  -- ---- one step
  module _ (p : ℕ) (at : TypeReadAt ws p) (x : ℕ) where
    pub record StepAgrees : Type 0 where
      pub agrees : step_in types (type_number ws p) x ≡ step_numbered ws (module_step ws p x)
      pub reads : StepReads ws p (module_step ws p x)

    abbrev q : Recorded ws s p
    q = held.recorded p at

    leaf_step : opcode ws p ≤ type_vector → module_step ws p x ≡ NoStep
    unfolding module_step
    leaf_step h =
        rw (
          ne_eqb (opcode ws p) type_array (λ e. omega (arith, h, e)),
          ne_eqb (opcode ws p) type_runtime_array (λ e. omega (arith, h, e)),
          ne_eqb (opcode ws p) type_struct (λ e. omega (arith, h, e)),
          ne_eqb (opcode ws p) type_matrix (λ e. omega (arith, h, e)),
        ) refl

    scalar_step : (kind width : ℕ) → opcode ws p ≤ type_vector → type_inner s.types (type_number ws p) ≡ inner_of scalar_kind kind width 0 0 0 → StepAgrees
    unfolding step_of inner_of
    scalar_step kind width h e = record { agrees = rw (leaf_step h, e, le-ltb x 0 (omega arith)) refl; reads = rw (leaf_step h) tt }

    vector_step : (size kind width : ℕ) → opcode ws p ≤ type_vector → type_inner s.types (type_number ws p) ≡ inner_of vector_kind size kind width 0 0 → StepAgrees
    unfolding step_of inner_of
    vector_step size kind width h e = record { agrees = rw (leaf_step h, e, le-ltb x 0 (omega arith)) refl; reads = rw (leaf_step h) tt }

    matrix_step : (rows kind width : ℕ) → opcode ws p ≡ type_matrix → type_inner s.types (type_number ws p) ≡ inner_of matrix_kind (word ws p 3) rows kind width 0
        → rows ≡ matrix_rows ws p → width ≡ matrix_width ws p → StepAgrees
    unfolding step_of inner_of module_step
    matrix_step rows kind width o e a b =
        let bytes = x * column_step (matrix_rows ws p) (matrix_width ws p) in
        record {
          agrees = rw (o, e, a, b) (sym (numbered_column ws (ltb x (word ws p 3)) bytes));
          reads = rw o (reads_column ws p (ltb x (word ws p 3)) bytes o);
        }

    array_step : opcode ws p ≡ type_array → is_type_read (base_sort ws p) ≡ true
        → type_inner s.types (type_number ws p) ≡ inner_of array_kind (number_of (base_sort ws p)) 0 (length_of ws (length_sort ws p)) (stride_of ws p) 0 → StepAgrees
    unfolding step_of inner_of module_step
    array_step o b e =
        let test = ltb x (length_of ws (length_sort ws p)) in
        record {
          agrees = rw (o, e, named_number p at 2 b) (sym (numbered_to ws test (named ws p 2) (x * stride_of ws p)));
          reads = rw o (reads_to ws p test (named ws p 2) (x * stride_of ws p) (λ _. named_read p at 2 b));
        }

    runtime_step : opcode ws p ≡ type_runtime_array → is_type_read (base_sort ws p) ≡ true
        → type_inner s.types (type_number ws p) ≡ inner_of array_kind (number_of (base_sort ws p)) 1 0 (stride_of ws p) 0 → StepAgrees
    unfolding step_of inner_of module_step
    runtime_step o b e =
        let test = ltb x (2 ^ 32) in
        record {
          agrees = rw (o, e, named_number p at 2 b) (sym (numbered_to ws test (named ws p 2) (x * stride_of ws p)));
          reads = rw o (reads_to ws p test (named ws p 2) (x * stride_of ws p) (λ _. named_read p at 2 b));
        }

    -- member x, and past the members
    member_read : members_sound ws p (member_count_at ws p) ≡ true → x < member_count_at ws p → is_type_read (sort ws p (word ws p (2 + x))) ≡ true
    unfolding member_sound
    member_read sound h = (and_parts (is_type_read (member_sort ws p x)) _ (sound_at ws s p q (member_count_at ws p) sound x (member_count_at ws p) sound h)).0

    struct_step : (first span : ℕ) → opcode ws p ≡ type_struct → members_sound ws p (member_count_at ws p) ≡ true
        → type_inner s.types (type_number ws p) ≡ inner_of struct_kind first (member_count_at ws p) span 0 0
        → struct_members s.types s.members (type_number ws p) ≡ member_rows ws p (member_count_at ws p) → StepAgrees
    unfolding step_of inner_of module_step member_number
    struct_step first span o sound e rows = by (dec_le (suc x) (member_count_at ws p))
      where
        zeroth : x * member_words + 0 ≡ x * member_words
        zeroth = omega arith

        by : Dec (suc x ≤ member_count_at ws p) → StepAgrees
        by (no h) = let f = le-ltb x (member_count_at ws p) (omega (arith, h)) in record { agrees = rw (o, e, rows, f) refl; reads = rw (o, f) tt }
        by (yes h) =
            let f = lt-ltb x (member_count_at ws p) h in
            let a : member_type (member_rows ws p (member_count_at ws p)) x ≡ member_number ws p x =
            ap (λ (k : ℕ). get_or (member_rows ws p (member_count_at ws p)) k 0) (sym zeroth) ∙ row-word ws p (member_count_at ws p) x 0 h (omega arith) in
            let b : member_offset (member_rows ws p (member_count_at ws p)) x ≡ offset_of ws p x = row-word ws p (member_count_at ws p) x 1 h (omega arith) in
            record {
              agrees = rw (o, e, rows, f, a, b, named_number p at (2 + x) (member_read sound h)) refl;
              reads = rw (o, f) (named_read p at (2 + x) (member_read sound h));
            }

    pub step_agrees : StepAgrees
    step_agrees = by (made p at)
      where
        by : MadeAs ws q.was p q.made → StepAgrees
        by (as_scalar kind l h small power is) = scalar_step kind (scalar_width ws p) (omega (arith, h)) (inner_is ws s p q scalar_kind kind (scalar_width ws p) 0 0 is)
        by (as_vector o l h b k is) =
            let c = base_word ws q.was.types p 1 in
            let d = base_word ws q.was.types p 2 in
            vector_step (word ws p 3) c d (omega (arith, o)) (inner_is ws s p q vector_kind (word ws p 3) c d 0 is)
        by (as_matrix o l h b k is) =
            let rows = base_word ws q.was.types p 1 in
            let c = base_word ws q.was.types p 2 in
            let width = base_word ws q.was.types p 3 in
            let v = matrix_words p at b k in
            matrix_step rows c width o (inner_is ws s p q matrix_kind (word ws p 3) rows c width is) v.0 v.1
        by (as_array o b l is) = array_step o b (inner_is ws s p q array_kind (number_of (base_sort ws p)) 0 (length_of ws (length_sort ws p)) (stride_of ws p) is)
        by (as_runtime_array o b is) = runtime_step o b (inner_is ws s p q array_kind (number_of (base_sort ws p)) 1 0 (stride_of ws p) is)
        by (as_struct span o sound u is) =
            struct_step (member_count q.was.members) span o sound (inner_is ws s p q struct_kind (member_count q.was.members) (member_count_at ws p) span 0 is) (own_rows ws s p q o span is)

  -- ---- where the steps may end
  module _ (p : ℕ) (at : TypeReadAt ws p) where
    abbrev o₂ : Recorded ws s p
    o₂ = held.recorded p at

    is-leaf : type_bool ≤ opcode ws p → opcode ws p ≤ type_vector → module_leaf ws p ≡ true
    is-leaf l h = rw (le-leb type_bool (opcode ws p) l, le-leb (opcode ws p) type_vector h) refl

    no-leaf : type_bool ≤ opcode ws p → type_vector < opcode ws p → module_leaf ws p ≡ false
    no-leaf l h = rw (le-leb type_bool (opcode ws p) l, lt-leb (opcode ws p) type_vector h) refl

    pub leaf_agrees : leaf_in types (type_number ws p) ≡ module_leaf ws p
    unfolding inner_of
    leaf_agrees = by (made p at)
      where
        by : MadeAs ws o₂.was p o₂.made → leaf_in types (type_number ws p) ≡ module_leaf ws p
        by (as_scalar kind l h small power is) = rw (inner_is ws s p o₂ scalar_kind kind (scalar_width ws p) 0 0 is, is-leaf l (omega (arith, h))) refl
        by (as_vector o l h b k is) =
            rw (inner_is ws s p o₂ vector_kind (word ws p 3) (base_word ws o₂.was.types p 1) (base_word ws o₂.was.types p 2) 0 is, is-leaf (omega (arith, o)) (omega (arith, o))) refl
        by (as_matrix o l h b k is) =
            rw (inner_is ws s p o₂ matrix_kind (word ws p 3) (base_word ws o₂.was.types p 1) (base_word ws o₂.was.types p 2) (base_word ws o₂.was.types p 3) is, no-leaf (omega (arith, o)) (omega (arith, o))) refl
        by (as_array o b l is) =
            rw (inner_is ws s p o₂ array_kind (number_of (base_sort ws p)) 0 (length_of ws (length_sort ws p)) (stride_of ws p) is, no-leaf (omega (arith, o)) (omega (arith, o))) refl
        by (as_runtime_array o b is) =
            rw (inner_is ws s p o₂ array_kind (number_of (base_sort ws p)) 1 0 (stride_of ws p) is, no-leaf (omega (arith, o)) (omega (arith, o))) refl
        by (as_struct span o sound u is) =
            rw (inner_is ws s p o₂ struct_kind (member_count o₂.was.members) (member_count_at ws p) span 0 is, no-leaf (omega (arith, o)) (omega (arith, o))) refl
