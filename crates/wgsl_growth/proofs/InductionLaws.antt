-- One induction over the grammar: what holds of the records of scalars, with what they denote, of vectors, matrices and atomics, of arrays of what it holds of, and of
-- structs whose members it holds of, holds of every record of an accepted text.
-- Assumes nothing.
use Rattle.std.specs.Prelude as std
use mathlib.Core.Path.{◌≡◌, refl, sym, ap, subst, ◌∙◌}
use mathlib.Core.Bool.{Bool, true, false, not}
use mathlib.Core.List.{List, [], ◌∷◌, ◌++◌, append_assoc, append-nil}
use mathlib.Core.Option.{Option, none, some}
use Prim.Native.Nat.{ℕ, zero, suc, ◌+◌, ◌-◌, ◌*◌, ◌≤◌, ◌<◌}
use native.Mathlib.Decide.{ℕ_discrete}
use native.Mathlib.Omega.{arith}
use lib.Dec.{eqb, leb, ltb}
use lib.ListN.{length, length-append}
use borrow.Author.Tests.{leb-true}
use Rattle.ir_records.specs.Result.{pick}
use Rattle.ir_records.specs.Record.{type_words, member_words}
use Rattle.ir_records.specs.declared.Words.{Words}
use Rattle.proc_alignment.specs.Alignment.{most}
use Rattle.wgsl_tokens.specs.Tokens.{Token, word, number, large, mark, bad, code, tokens}
use Rattle.wgsl_names.specs.Names.{bytes_of, predeclared, same, struct_word}
use Rattle.wgsl_names.specs.declared.Scalar.{Scalar}
use Rattle.wgsl_names.specs.declared.Template.{Template}
use Rattle.wgsl_grammar.specs.Grammar.{Reading, refused, read, and_then, demand, expect, skipping, Name, name_of}
use Rattle.wgsl_placement.specs.Placement.{shape, align_of_template, size_of_template, array_fits, array_shape, words_of, scalar_record, template_record, array_record, struct_record}
use Rattle.wgsl_placement.specs.declared.Shape.{Shape}
use Rattle.wgsl_placement.specs.Placement.{Count}
use Rattle.wgsl_tables.specs.Tables.{Records, Named, is_one_of, lookup}
use Rattle.wgsl_types.specs.Types.{most_depth, Closing, stopped, full, closed, make_type, or_struct, known_type, scalar_type, scalar_of, close_template, template_of, template_type, Counted, count_of, close_array, array_of, arguments_of, type_named, type_after, type_of}
use Rattle.wgsl_names.specs.declared.TypeName.{TypeName}
use Rattle.wgsl_names.specs.declared.TypeName.TheVariants as name
use Rattle.wgsl_members.specs.Members.{Members, Rooms, Attributed, attributes, attributes_of, attributes_fit, member_record, with_member, placed, typed_member, named_member, member_of}
use Rattle.wgsl_members.specs.declared.Attributes.{Attributes}
use Rattle.wgsl_structs.specs.Structs.{MemberEnd, stops, closes, goes, member_end, with_rest, after_member, members_of, Declared, start_of, span_of, with_struct, close_struct, is_unknown, struct_body, struct_of, Declaration, finished, wrong, further, declared_by, past, declaration_of, after_declaration, declarations_of}
use Rattle.wgsl_read.specs.Text.{rooms_in, no_records, text_of}
use Rattle.w3c_agreement.specs.Plain as plain
use Rattle.w3c_agreement.specs.Wgsl as wgsl
use Rattle.w3c_agreement.specs.Wgsl.{WgslType}
use Rattle.wgsl_growth.specs.Tree as tree
use Rattle.wgsl_growth.specs.Tree.{mapped, scalar_tree, template_tree, array_tree, last_tree, member_tree, TreeAt, tree_at, NamedTree, tree_named, template_of_tree, template_read, array_read, type_read, type_tree, FieldAt, typed_field, named_field, field_tree, FieldsAt, fields_at, fields_after, fields_tree, TreesAt, trees_at, named_tree, body_tree, struct_tree, DeclarationTree, trees_by, declaration_tree, trees_after, declarations_tree, trees_of}
use Rattle.wgsl_growth.specs.Written.{Each, Written, with_written, placed_after, with_record, Extends, fields_of, AllNamed}
use Rattle.wgsl_growth.proofs.ReadLaws.{After, after_read, after_map, after_then, after_any, after_demand, Closes, closes_map, closes_then, closes_inside, closes_pick, closes_made, closes_made_inside, named_map, Found, both_found}

-- ---- lists
pub each_map {ℓ} : {A : Type ℓ} (P Q : A → Type 0) → ((a : A) → P a → Q a) → (l : List A) → Each P l → Each Q l
each_map P Q f [] h = tt
each_map P Q f (a ∷ l) h = (f a h.0, each_map P Q f l h.1)

pub extends_same : (l : List ℕ) → Extends l l
extends_same l = ([], sym (append-nil l))

pub extends_both : (a b c : List ℕ) → Extends a b → Extends b c → Extends a c
extends_both a b c p q = (p.0 ++ q.0, q.1 ∙ ap (λ (x : List ℕ). x ++ q.0) p.1 ∙ append_assoc a p.0 q.0)

-- ---- records are whole
abbrev pub Whole : (width : ℕ) → Records → Type 0
Whole width r = length r.words ≡ r.made * width

-- what holds of a shape and of what its type denotes, in the records so far
abbrev pub Claim : Type 1
Claim = (types members : Records) → Shape → Option WgslType → Type 0

-- a member whose attributes fit, of a type that P holds of
abbrev pub Fitting : Claim → (types members : Records) → Written → Type 0
Fitting P t m w = (attributes_fit w.attributes w.shape ≡ true) × P t m w.shape w.tree

-- ---- what P asks: P of the shape of each record, S of that of each struct
pub record Laws (P S : Claim) : Type 0 where
  -- records made later change nothing
  pub keeps : (t m t' m' : Records) (e : Shape) (x : Option WgslType) → Extends t.words t'.words → Extends m.words m'.words → P t m e x → P t' m' e x
  pub keeps_struct : (t m t' m' : Records) (e : Shape) (x : Option WgslType) → Extends t.words t'.words → Extends m.words m'.words → S t m e x → S t' m' e x
  pub of_struct : (t m : Records) (e : Shape) (x : Option WgslType) → S t m e x → P t m e x
  pub scalar : (t m : Records) (s : Scalar) → Whole type_words t
      → P (with_record t (scalar_record s)) m (shape t.made (bytes_of s) (bytes_of s) true) (some (wgsl.plain (plain.scalar (scalar_tree s))))
  pub template : (t m : Records) (x : Template) (s : Scalar) → Whole type_words t
      → P (with_record t (template_record x s)) m (shape t.made (size_of_template x s) (align_of_template x s) true) (template_tree x s)
  pub array : (t m : Records) (c : Count) (e : Shape) (x : Option WgslType) → Whole type_words t → P t m e x
      → P (with_record t (array_record c e)) m (array_shape t.made c e) (array_tree c x)
  pub struct : (d : Declared) (ts : List Token) (w : Written) (ws : List Written) → Whole member_words d.members
      → let m : Members = placed_after (start_of d ts) (w ∷ ws) in
      Whole type_words m.types → Whole member_words m.members → span_of m ≤ most → Each (Fitting P m.types m.members) (w ∷ ws)
      → S (with_record m.types (struct_record d.members.made (m.members.made - d.members.made) (span_of m))) m.members
      (shape m.types.made (span_of m) m.align m.fixed) (mapped (λ x. wgsl.struct x) (fields_of w ws))

-- ---- the records so far, and the structs with what they denote
pub record Held (P S : Claim) (t m : Records) (structs : List Named) (trees : List NamedTree) : Type 0 where
  pub types : Whole type_words t
  pub members : Whole member_words m
  pub each : (k : ℕ) → k < t.made → (e : Shape) × (x : Option WgslType) × (e.number ≡ k) × P t m e x
  pub named : AllNamed (S t m) structs trees

module _ (P S : Claim) (laws : Laws P S) where
  -- one more type record, of which P holds
  held_type : (t m : Records) (structs : List Named) (trees : List NamedTree) (e : Shape) (x : Option WgslType) (w : Words) → Held P S t m structs trees → e.number ≡ t.made
      → P (with_record t w) m e x → Held P S (with_record t w) m structs trees
  held_type t m structs trees e x w h is p =
      let more : Extends t.words (t.words ++ words_of w) = (words_of w, refl) in
      record {
        types = omega (arith, length-append t.words (words_of w), h.types);
        members = h.members;
        each = λ k l. go more k l (ℕ_discrete k t.made);
        named = named_map (S t m) (S (with_record t w) m) (λ e x s. laws.keeps_struct t m (with_record t w) m e x more (extends_same m.words) s) structs trees h.named;
      }
    where
      go : Extends t.words (t.words ++ words_of w) → (k : ℕ) → k < t.made + 1 → Dec (k ≡ t.made)
          → (y : Shape) × (z : Option WgslType) × (y.number ≡ k) × P (with_record t w) m y z
      go more k l (yes q) = (e, x, is ∙ sym q, p)
      go more k l (no q) =
          let y = h.each k (omega arith) in
          (y.0, y.1, y.2, laws.keeps t m (with_record t w) m y.0 y.1 more (extends_same m.words) y.3)

  -- one more member record
  held_member : (t m : Records) (structs : List Named) (trees : List NamedTree) (row : List ℕ) → length row ≡ member_words → Held P S t m structs trees
      → Held P S t (record { made = m.made + 1; words = m.words ++ row }) structs trees
  held_member t m structs trees row four h =
      let more : Extends m.words (m.words ++ row) = (row, refl) in
      record {
        types = h.types;
        members = omega (arith, length-append m.words row, h.members, four);
        each = λ k l.
            let y = h.each k l in
            (y.0, y.1, y.2, laws.keeps t m t (record { made = m.made + 1; words = m.words ++ row }) y.0 y.1 (extends_same t.words) more y.3);
        named =
            named_map (S t m) (S t (record { made = m.made + 1; words = m.words ++ row }))
            (λ e x s. laws.keeps_struct t m t (record { made = m.made + 1; words = m.words ++ row }) e x (extends_same t.words) more s) structs trees h.named;
      }

  -- ---- a type that has closed, with what it denotes: the reading r of the same tokens into a tree
  record Typed (m : Records) (structs : List Named) (trees : List NamedTree) (r : Reading TreeAt) (t : Records) (e : Shape) (t' : Records) (rest : List Token) : Type 0 where
    denoted : Option WgslType
    reads : r ≡ read (tree_at denoted rest)
    holds : P t' m e denoted
    more : Extends t.words t'.words
    held : Held P S t' m structs trees

  module _ (room : ℕ) (m : Records) (structs : List Named) (trees : List NamedTree) where
    abbrev Is : Reading TreeAt → Records → Shape → Records → List Token → Type 0
    Is r t e t' rest = Typed m structs trees r t e t' rest

    abbrev So : Records → Type 0
    So t = Held P S t m structs trees

    -- with its own record
    type_made : (r : Reading TreeAt) (t : Records) (e : Shape) (x : Option WgslType) (w : Words) (ts : List Token) → So t → e.number ≡ t.made → P (with_record t w) m e x
        → r ≡ read (tree_at x ts) → Closes (make_type room t e w ts) (Is r t)
    type_made r t e x w ts h is p reads =
        closes_made room t e w ts (Is r t) (record { denoted = x; reads = reads; holds = p; more = (words_of w, refl); held = held_type t m structs trees e x w h is p })

    -- after a type inside, by an equal reading
    later : (r r₁ : Reading TreeAt) (t t₁ : Records) (c : Closing) → r ≡ r₁ → Extends t.words t₁.words → Closes c (Is r₁ t₁) → Closes c (Is r t)
    later r r₁ t t₁ c same more h =
        closes_map c (Is r₁ t₁) (Is r t)
        (λ e t₂ ts q.
        record { denoted = q.denoted; reads = same ∙ q.reads; holds = q.holds; more = extends_both t.words t₁.words t₂.words more q.more; held = q.held }) h

    same_reading : (r r₁ : Reading TreeAt) (t : Records) (c : Closing) → r ≡ r₁ → Closes c (Is r₁ t) → Closes c (Is r t)
    same_reading r r₁ t c same h = later r r₁ t t c same (extends_same t.words) h

    abbrev scalar_shape : Records → Scalar → Shape
    scalar_shape t s = shape t.made (bytes_of s) (bytes_of s) true

    abbrev scalar_type' : Scalar → Option WgslType
    scalar_type' s = some (wgsl.plain (plain.scalar (scalar_tree s)))

    scalar_typed : (t : Records) (s : Scalar) (ts : List Token) → So t → Closes (scalar_type room t s ts) (Is (read (tree_at (scalar_type' s) ts)) t)
    scalar_typed t s ts h = type_made (read (tree_at (scalar_type' s) ts)) t (scalar_shape t s) (scalar_type' s) (scalar_record s) ts h refl (laws.scalar t m s h.types) refl

    close-template : (t : Records) (x : Template) (s : Scalar) (ts : List Token) → So t → Closes (close_template room x s t ts) (Is (template_of_tree x (some s) ts) t)
    close-template t x s ts h =
        closes_then (expect 62 (skipping 44 ts))
        (λ rest. make_type room t (shape t.made (size_of_template x s) (align_of_template x s) true) (template_record x s) rest) (Is (template_of_tree x (some s) ts) t)
        (λ rest e.
        type_made (template_of_tree x (some s) ts) t (shape t.made (size_of_template x s) (align_of_template x s) true) (template_tree x s) (template_record x s) rest h refl
        (laws.template t m x s h.types) (ap (λ (z : Reading (List Token)). and_then z (λ rest. read (tree_at (template_tree x s) rest))) e))

    template-of : (t : Records) (x : Template) (o : Option Scalar) (ts : List Token) → So t → Closes (template_of room t x o ts) (Is (template_of_tree x o ts) t)
    template-of t x none ts h = tt
    template-of t x (some s) ts h =
        let inner = held_type t m structs trees (scalar_shape t s) (scalar_type' s) (scalar_record s) h refl (laws.scalar t m s h.types) in
        closes_made_inside room t (scalar_shape t s) (scalar_record s) ts (Is (template_of_tree x (some s) ts) t) (λ e made rest. close_template room x s made rest)
        (later (template_of_tree x (some s) ts) (template_of_tree x (some s) ts) t (with_record t (scalar_record s)) (close_template room x s (with_record t (scalar_record s)) ts) refl
        (words_of (scalar_record s), refl) (close-template (with_record t (scalar_record s)) x s ts inner))

    template_typed : (left : ℕ) (t : Records) (x : Template) (ts : List Token) → So t → Closes (template_type room left t x ts) (Is (template_read left x ts) t)
    unfolding template_type template_read
    template_typed zero t x ts h = tt
    template_typed (suc left) t x ts h =
        closes_then (name_of ts) (λ n. template_of room t x (scalar_of (predeclared n.name)) n.rest) (Is (template_read (suc left) x ts) t)
        (λ n e.
        same_reading (template_read (suc left) x ts) (template_of_tree x (scalar_of (predeclared n.name)) n.rest) t (template_of room t x (scalar_of (predeclared n.name)) n.rest)
        (ap (λ (z : Reading Name). and_then z (λ n. template_of_tree x (scalar_of (predeclared n.name)) n.rest)) e)
        (template-of t x (scalar_of (predeclared n.name)) n.rest h))

    array_typed : (e : Shape) (x : Option WgslType) (t : Records) (ts : List Token) → So t → P t m e x → Closes (array_of room e t ts) (Is (array_read x ts) t)
    unfolding array_of array_read
    array_typed e x t ts h p =
        closes_then (count_of ts) (λ c. close_array room e t c) (Is (array_read x ts) t)
        (λ c is.
        closes_pick (array_fits c.count e) (make_type room t (array_shape t.made c.count e) (array_record c.count e) c.rest) (stopped 33) (Is (array_read x ts) t)
        (type_made (array_read x ts) t (array_shape t.made c.count e) (array_tree c.count x) (array_record c.count e) c.rest h refl (laws.array t m c.count e x h.types p)
        (ap (λ (z : Reading Counted). and_then z (λ c. read (tree_at (array_tree c.count x) c.rest))) is)) tt)

    named_typed : (inner : Records → List Token → Closing) (innerTree : List Token → Reading TreeAt)
        → ((t : Records) (ts : List Token) → So t → Closes (inner t ts) (Is (innerTree ts) t))
        → (left : ℕ) (t : Records) (k : std.Option TypeName) (o : Option Shape) (z : Option (Option WgslType)) (ts : List Token) → So t → Found o z (P t m)
        → Closes (type_named inner room left t (or_struct k o) ts) (Is (type_read innerTree left k z ts) t)
    named_typed inner innerTree holds left t (std.Some (name.OfScalar s)) o z ts h f = scalar_typed t s ts h
    named_typed inner innerTree holds left t (std.Some (name.OfTemplate x)) o z ts h f =
        closes_then (expect 60 ts) (λ ts. template_type room left t x ts) (Is (and_then (expect 60 ts) (λ ts. template_read left x ts)) t)
        (λ ts₁ e.
        same_reading (and_then (expect 60 ts) (λ ts. template_read left x ts)) (template_read left x ts₁) t (template_type room left t x ts₁)
        (ap (λ (z : Reading (List Token)). and_then z (λ ts. template_read left x ts)) e) (template_typed left t x ts₁ h))
    named_typed inner innerTree holds left t (std.Some name.Array) o z ts h f =
        closes_then (expect 60 ts) (λ ts. arguments_of room (inner t ts)) (Is (and_then (expect 60 ts) (λ ts. and_then (innerTree ts) (λ e. array_read e.tree e.rest))) t)
        (λ ts₁ is.
        same_reading (and_then (expect 60 ts) (λ ts. and_then (innerTree ts) (λ e. array_read e.tree e.rest))) (and_then (innerTree ts₁) (λ e. array_read e.tree e.rest)) t
        (arguments_of room (inner t ts₁)) (ap (λ (z : Reading (List Token)). and_then z (λ ts. and_then (innerTree ts) (λ e. array_read e.tree e.rest))) is)
        (closes_inside (inner t ts₁) (λ e made rest. array_of room e made rest) (Is (innerTree ts₁) t) (Is (and_then (innerTree ts₁) (λ e. array_read e.tree e.rest)) t) (holds t ts₁ h)
        (λ e made rest p.
        later (and_then (innerTree ts₁) (λ e. array_read e.tree e.rest)) (array_read p.denoted rest) t made (array_of room e made rest)
        (ap (λ (z : Reading TreeAt). and_then z (λ e. array_read e.tree e.rest)) p.reads) p.more (array_typed e p.denoted made rest p.held p.holds))))
    named_typed inner innerTree holds left t std.None none none ts h f = tt
    named_typed inner innerTree holds left t std.None none (some x) ts h f = absurd f
    named_typed inner innerTree holds left t std.None (some e) none ts h f = absurd f
    named_typed inner innerTree holds left t std.None (some e) (some x) ts h f =
        record { denoted = x; reads = refl; holds = f; more = extends_same t.words; held = h }

    type_typed : (left : ℕ) (t : Records) (ts : List Token) → So t → Closes (type_of room left structs t ts) (Is (type_tree left trees ts) t)
    unfolding type_of type_after type_tree
    type_typed zero t ts h = tt
    type_typed (suc left) t ts h =
        closes_then (name_of ts) (λ n. type_named (type_of room left structs) room left t (known_type n.name structs) n.rest) (Is (type_tree (suc left) trees ts) t)
        (λ n e.
        same_reading (type_tree (suc left) trees ts) (type_read (type_tree left trees) left (predeclared n.name) (tree_named n.name trees) n.rest) t
        (type_named (type_of room left structs) room left t (known_type n.name structs) n.rest)
        (ap (λ (z : Reading Name). and_then z (λ n. type_read (type_tree left trees) left (predeclared n.name) (tree_named n.name trees) n.rest)) e)
        (named_typed (type_of room left structs) (type_tree left trees) (λ t ts h. type_typed left t ts h) left t (predeclared n.name) (lookup n.name structs)
        (tree_named n.name trees) n.rest h
        (both_found (P t m) n.name structs trees (named_map (S t m) (P t m) (λ e x s. laws.of_struct t m e x s) structs trees h.named))))

  -- ---- a member, with the reading r of the same tokens
  record Added (structs : List Named) (trees : List NamedTree) (r : Reading FieldAt) (m m' : Members) : Type 0 where
    written : Written
    is : m' ≡ with_written m written
    reads : r ≡ read (record { attributes = written.attributes; tree = written.tree; rest = m'.rest })
    fits : attributes_fit written.attributes written.shape ≡ true
    holds : P m'.types m'.members written.shape written.tree
    more-types : Extends m.types.words m'.types.words
    more-members : Extends m.members.words m'.members.words
    held : Held P S m'.types m'.members structs trees

  module _ (rooms : Rooms) (structs : List Named) (trees : List NamedTree) (m : Members) where
    same_added : (r r₁ : Reading FieldAt) (q : Reading Members) → r ≡ r₁ → After q (Added structs trees r₁ m) → After q (Added structs trees r m)
    same_added r r₁ q same h = rw same h

    placed_added : (a : Attributes) (name : List ℕ) (z : Reading TreeAt) (c : Closing) → Closes c (Typed m.members structs trees z m.types)
        → After (placed rooms m a name c) (Added structs trees (and_then z (λ t. read (record { attributes = a; tree = t.tree; rest = t.rest }))) m)
    unfolding with_member
    placed_added a name z (stopped n) p = tt
    placed_added a name z (full e) p =
        after_demand (attributes_fit a e) 33 (refused 1) (Added structs trees (and_then z (λ t. read (record { attributes = a; tree = t.tree; rest = t.rest }))) m) (λ fits. tt)
    placed_added a name z (closed e t rest) p =
        after_demand (attributes_fit a e) 33 (demand (ltb m.members.made rooms.members) 1 (read (with_member m a name e t rest)))
        (Added structs trees (and_then z (λ t. read (record { attributes = a; tree = t.tree; rest = t.rest }))) m)
        (λ fits.
        after_demand (ltb m.members.made rooms.members) 1 (read (with_member m a name e t rest))
        (Added structs trees (and_then z (λ t. read (record { attributes = a; tree = t.tree; rest = t.rest }))) m)
        (λ room.
        record {
          written = record { attributes = a; name = name; shape = e; tree = p.denoted; types = t; rest = rest };
          is = refl;
          reads = ap (λ (y : Reading TreeAt). and_then y (λ t. read (record { attributes = a; tree = t.tree; rest = t.rest }))) p.reads;
          fits = fits;
          holds =
              laws.keeps t m.members t (record { made = m.members.made + 1; words = m.members.words ++ member_record m a e }) e p.denoted (extends_same t.words)
              (member_record m a e, refl) p.holds;
          more-types = p.more;
          more-members = (member_record m a e, refl);
          held = held_member t m.members structs trees (member_record m a e) refl p.held;
        }))

    typed_added : (a : Attributes) (name : List ℕ) (ts : List Token) → Held P S m.types m.members structs trees
        → After (typed_member rooms structs m a name ts) (Added structs trees (typed_field trees a ts) m)
    unfolding typed_member typed_field
    typed_added a name ts h =
        placed_added a name (type_tree most_depth trees ts) (type_of rooms.types most_depth structs m.types ts)
        (type_typed rooms.types m.members structs trees most_depth m.types ts h)

    named_added : (a : Attributes) (ts : List Token) → Held P S m.types m.members structs trees
        → After (named_member rooms structs m a ts) (Added structs trees (named_field trees a ts) m)
    unfolding named_member named_field
    named_added a ts h =
        after_any (name_of ts)
        (λ n. demand (not (is_one_of n.name m.names)) 32 (and_then (expect 58 n.rest) (λ ts. typed_member rooms structs m a n.name ts))) (Added structs trees (named_field trees a ts) m)
        (λ n e.
        after_demand (not (is_one_of n.name m.names)) 32 (and_then (expect 58 n.rest) (λ ts. typed_member rooms structs m a n.name ts)) (Added structs trees (named_field trees a ts) m)
        (λ once.
        after_any (expect 58 n.rest) (λ ts. typed_member rooms structs m a n.name ts) (Added structs trees (named_field trees a ts) m)
        (λ ts₁ e₁.
        same_added (named_field trees a ts) (typed_field trees a ts₁) (typed_member rooms structs m a n.name ts₁)
        (ap (λ (z : Reading Name). and_then z (λ n. and_then (expect 58 n.rest) (λ ts. typed_field trees a ts))) e
        ∙ ap (λ (z : Reading (List Token)). and_then z (λ ts. typed_field trees a ts)) e₁)
        (typed_added a n.name ts₁ h))))

    member-added : (turns : ℕ) → Held P S m.types m.members structs trees → After (member_of turns rooms structs m) (Added structs trees (field_tree turns trees m.rest) m)
    unfolding member_of field_tree
    member-added turns h =
        after_any (attributes_of turns (attributes (std.Ok std.None) (std.Ok std.None)) m.rest) (λ a. named_member rooms structs m a.given a.rest) (Added structs trees (field_tree turns trees m.rest) m)
        (λ a e.
        same_added (field_tree turns trees m.rest) (named_field trees a.given a.rest) (named_member rooms structs m a.given a.rest)
        (ap (λ (z : Reading Attributed). and_then z (λ a. named_field trees a.given a.rest)) e) (named_added a.given a.rest h))

  -- ---- members, one at least: as the reader's own step places them
  record Several (structs : List Named) (trees : List NamedTree) (r : Reading FieldsAt) (m m' : Members) : Type 0 where
    first : Written
    others : List Written
    is : m' ≡ with_rest (placed_after m (first ∷ others)) m'.rest
    reads : r ≡ read (fields_at (fields_of first others) m'.rest)
    each : Each (Fitting P m'.types m'.members) (first ∷ others)
    more-types : Extends m.types.words m'.types.words
    more-members : Extends m.members.words m'.members.words
    held : Held P S m'.types m'.members structs trees

  module _ (structs : List Named) (trees : List NamedTree) (r : Reading FieldAt) (m m₁ : Members) (a : Added structs trees r m m₁) where
    abbrev field : FieldAt
    field = record { attributes = a.written.attributes; tree = a.written.tree; rest = m₁.rest }

    several_one : (ts : List Token) (more : List Token → Reading FieldsAt) → Several structs trees (fields_after (closes ts) field more) m (with_rest m₁ ts)
    unfolding placed_after fields_of
    several_one ts more =
        record {
          first = a.written;
          others = [];
          is = ap (λ (x : Members). with_rest x ts) a.is;
          reads = refl;
          each = ((a.fits, a.holds), tt);
          more-types = a.more-types;
          more-members = a.more-members;
          held = a.held;
        }

    several_more : (m' : Members) (ts : List Token) (more : List Token → Reading FieldsAt) → Several structs trees (more ts) (with_rest m₁ ts) m'
        → Several structs trees (fields_after (goes ts) field more) m m'
    unfolding placed_after with_member fields_of
    several_more m' ts more s =
        record {
          first = a.written;
          others = s.first ∷ s.others;
          is = s.is ∙ ap (λ (x : Members). with_rest (placed_after (with_written x s.first) s.others) m'.rest) a.is;
          reads = ap (λ (z : Reading FieldsAt). and_then z (λ m. read (fields_at (member_tree a.written.attributes a.written.tree m.tree) m.rest))) s.reads;
          each = (
            (a.fits, laws.keeps m₁.types m₁.members m'.types m'.members a.written.shape a.written.tree s.more-types s.more-members a.holds),
            s.each,
          );
          more-types = extends_both m.types.words m₁.types.words m'.types.words a.more-types s.more-types;
          more-members = extends_both m.members.words m₁.members.words m'.members.words a.more-members s.more-members;
          held = s.held;
        }

    after_end : (x : MemberEnd) (more : Members → Reading Members) (moreTree : List Token → Reading FieldsAt)
        → ((n : Members) → Held P S n.types n.members structs trees → After (more n) (Several structs trees (moreTree n.rest) n))
        → After (after_member x m₁ more) (Several structs trees (fields_after x field moreTree) m)
    after_end (stops n) more moreTree f = tt
    after_end (closes ts) more moreTree f = several_one ts moreTree
    after_end (goes ts) more moreTree f =
        after_map (more (with_rest m₁ ts)) (Several structs trees (moreTree ts) (with_rest m₁ ts)) (Several structs trees (fields_after (goes ts) field moreTree) m)
        (λ m' s. several_more m' ts moreTree s) (f (with_rest m₁ ts) a.held)

  members_several : (turns left : ℕ) (rooms : Rooms) (structs : List Named) (trees : List NamedTree) (m : Members) → Held P S m.types m.members structs trees
      → After (members_of turns left rooms structs m) (Several structs trees (fields_tree turns left trees m.rest) m)
  unfolding members_of fields_tree
  members_several turns zero rooms structs trees m h = tt
  members_several turns (suc left) rooms structs trees m h =
      after_then (member_of turns rooms structs m) (λ m. after_member (member_end m.rest) m (λ m. members_of turns left rooms structs m))
      (Added structs trees (field_tree turns trees m.rest) m) (Several structs trees (fields_tree turns (suc left) trees m.rest) m)
      (member-added rooms structs trees m turns h)
      (λ m₁ a.
      rw a.reads
      (after_end structs trees (field_tree turns trees m.rest) m m₁ a (member_end m₁.rest) (λ m. members_of turns left rooms structs m) (λ ts. fields_tree turns left trees ts)
      (λ n g. members_several turns left rooms structs trees n g)))

  -- ---- a struct
  abbrev HeldAll : List NamedTree → Declared → Type 0
  HeldAll trees d = Held P S d.types d.members d.structs trees

  -- what was declared, with the reading r of the same tokens
  record Trees (r : Reading TreesAt) (d : Declared) : Type 0 where
    now : List NamedTree
    reads : r ≡ read (trees_at now d.rest)
    held : HeldAll now d

  same_trees : (r r₁ : Reading TreesAt) (q : Reading Declared) → r ≡ r₁ → After q (Trees r₁) → After q (Trees r)
  same_trees r r₁ q same h = rw same h

  module _ (rooms : Rooms) (d : Declared) (trees : List NamedTree) (name : List ℕ) where
    close_held : (ts rest : List Token) (w : Written) (ws : List Written) → Whole member_words d.members
        → Held P S (placed_after (start_of d ts) (w ∷ ws)).types (placed_after (start_of d ts) (w ∷ ws)).members d.structs trees
        → Each (Fitting P (placed_after (start_of d ts) (w ∷ ws)).types (placed_after (start_of d ts) (w ∷ ws)).members) (w ∷ ws)
        → After (close_struct rooms d name (with_rest (placed_after (start_of d ts) (w ∷ ws)) rest)) (Trees (read (trees_at (named_tree name (fields_of w ws) ∷ trees) rest)))
    unfolding with_struct
    close_held ts rest w ws whole h each =
        let m : Members = placed_after (start_of d ts) (w ∷ ws) in
        let words = struct_record d.members.made ((placed_after (start_of d ts) (w ∷ ws)).members.made - d.members.made) (span_of (placed_after (start_of d ts) (w ∷ ws))) in
        let e = shape (placed_after (start_of d ts) (w ∷ ws)).types.made (span_of (placed_after (start_of d ts) (w ∷ ws))) (placed_after (start_of d ts) (w ∷ ws)).align (placed_after (start_of d ts) (w ∷ ws)).fixed in
        let x = mapped (λ (y : wgsl.Members). wgsl.struct y) (fields_of w ws) in
        after_demand (leb (span_of m) most) 33 (demand (ltb m.types.made rooms.types) 1 (read (with_struct d name (with_rest m rest))))
        (Trees (read (trees_at (named_tree name (fields_of w ws) ∷ trees) rest)))
        (λ small. after_demand (ltb m.types.made rooms.types) 1 (read (with_struct d name (with_rest m rest))) (Trees (read (trees_at (named_tree name (fields_of w ws) ∷ trees) rest)))
        (λ room.
        let s = laws.struct d ts w ws whole h.types h.members (leb-true (span_of m) most small) each in
        let g = held_type m.types m.members d.structs trees e x words h refl (laws.of_struct (with_record m.types words) m.members e x s) in
        record {
          now = named_tree name (fields_of w ws) ∷ trees;
          reads = refl;
          held = record { types = g.types; members = g.members; each = g.each; named = (refl, s, g.named) };
        }))

    body_held : (turns : ℕ) (ts : List Token) → HeldAll trees d → After (struct_body turns rooms d name ts) (Trees (body_tree turns trees name ts))
    unfolding struct_body body_tree
    body_held turns ts h =
        after_then (members_of turns turns rooms d.structs (start_of d ts)) (λ m. close_struct rooms d name m)
        (Several d.structs trees (fields_tree turns turns trees ts) (start_of d ts)) (Trees (body_tree turns trees name ts))
        (members_several turns turns rooms d.structs trees (start_of d ts) h)
        (λ m s.
        same_trees (body_tree turns trees name ts) (read (trees_at (named_tree name (fields_of s.first s.others) ∷ trees) m.rest)) (close_struct rooms d name m)
        (ap (λ (z : Reading FieldsAt). and_then z (λ m. read (trees_at (named_tree name m.tree ∷ trees) m.rest))) s.reads)
        (subst
        (λ (x : Members). Held P S x.types x.members d.structs trees → Each (Fitting P x.types x.members) (s.first ∷ s.others)
        → After (close_struct rooms d name x) (Trees (read (trees_at (named_tree name (fields_of s.first s.others) ∷ trees) m.rest))))
        (sym s.is) (λ g each. close_held ts m.rest s.first s.others h.members g each) s.held s.each))

  struct_held : (turns : ℕ) (rooms : Rooms) (d : Declared) (trees : List NamedTree) (ts : List Token) → HeldAll trees d → After (struct_of turns rooms d ts) (Trees (struct_tree turns trees ts))
  unfolding struct_of struct_tree
  struct_held turns rooms d trees ts h =
      after_any (name_of ts)
      (λ n. demand (is_unknown (known_type n.name d.structs)) 32 (and_then (expect 123 n.rest) (λ ts. struct_body turns rooms d n.name ts))) (Trees (struct_tree turns trees ts))
      (λ n e.
      after_demand (is_unknown (known_type n.name d.structs)) 32 (and_then (expect 123 n.rest) (λ ts. struct_body turns rooms d n.name ts)) (Trees (struct_tree turns trees ts))
      (λ free.
      after_any (expect 123 n.rest) (λ ts. struct_body turns rooms d n.name ts) (Trees (struct_tree turns trees ts))
      (λ ts₁ e₁.
      same_trees (struct_tree turns trees ts) (body_tree turns trees n.name ts₁) (struct_body turns rooms d n.name ts₁)
      (ap (λ (z : Reading Name). and_then z (λ n. and_then (expect 123 n.rest) (λ ts. body_tree turns trees n.name ts))) e
      ∙ ap (λ (z : Reading (List Token)). and_then z (λ ts. body_tree turns trees n.name ts)) e₁)
      (body_held rooms d trees n.name turns ts₁ h))))

  -- ---- declarations
  abbrev Declares : Declaration → DeclarationTree → Type 0
  Declares finished tree.finished = Unit {0}
  Declares finished (tree.wrong n) = ⊥
  Declares finished (tree.further t) = ⊥
  Declares (wrong n) x = Unit {0}
  Declares (further d) tree.finished = ⊥
  Declares (further d) (tree.wrong n) = ⊥
  Declares (further d) (tree.further t) = (t.rest ≡ d.rest) × HeldAll t.trees d

  declares_struct : (q : Reading Declared) (r : Reading TreesAt) → After q (Trees r) → Declares (declared_by q) (trees_by r)
  declares_struct (refused n) r h = tt
  declares_struct (read d) r h = rw h.reads (refl, h.held)

  declares_pick : (t : Bool) (x : Declaration) (y : DeclarationTree) → Declares x y → Declares (pick t x (wrong 31)) (pick t y (tree.wrong 31))
  declares_pick true x y h = h
  declares_pick false x y h = tt

  declaration_held : (turns : ℕ) (rooms : Rooms) (d : Declared) (trees : List NamedTree) (ts : List Token) → HeldAll trees d
      → Declares (declaration_of turns rooms d ts) (declaration_tree turns trees ts)
  declaration_held turns rooms d trees [] h = tt
  declaration_held turns rooms d trees (mark c ∷ ts) h =
      declares_pick (eqb c 59) (further (past d ts)) (tree.further (trees_at trees ts)) (refl, record { types = h.types; members = h.members; each = h.each; named = h.named })
  declaration_held turns rooms d trees (word w ∷ ts) h =
      declares_pick (same w struct_word) (declared_by (struct_of turns rooms d ts)) (trees_by (struct_tree turns trees ts))
      (declares_struct (struct_of turns rooms d ts) (struct_tree turns trees ts) (struct_held turns rooms d trees ts h))
  declaration_held turns rooms d trees (number n ∷ ts) h = tt
  declaration_held turns rooms d trees (large ∷ ts) h = tt
  declaration_held turns rooms d trees (bad ∷ ts) h = tt

  -- all of them, with the reading r
  record AllTrees (r : Reading (List NamedTree)) (d : Declared) : Type 0 where
    now : List NamedTree
    reads : r ≡ read now
    held : HeldAll now d

  next_held : (x : Declaration) (y : DeclarationTree) (d : Declared) (trees : List NamedTree) (more : Declared → Reading Declared) (moreTree : TreesAt → Reading (List NamedTree))
      → HeldAll trees d → Declares x y
      → ((n : Declared) (t : TreesAt) → t.rest ≡ n.rest → HeldAll t.trees n → After (more n) (AllTrees (moreTree t)))
      → After (after_declaration x d more) (AllTrees (trees_after y trees moreTree))
  next_held finished tree.finished d trees more moreTree h s f = record { now = trees; reads = refl; held = h }
  next_held finished (tree.wrong n) d trees more moreTree h s f = absurd s
  next_held finished (tree.further t) d trees more moreTree h s f = absurd s
  next_held (wrong n) y d trees more moreTree h s f = tt
  next_held (further next) tree.finished d trees more moreTree h s f = absurd s
  next_held (further next) (tree.wrong n) d trees more moreTree h s f = absurd s
  next_held (further next) (tree.further t) d trees more moreTree h s f = f next t s.0 s.1

  declarations_held : (turns left : ℕ) (rooms : Rooms) (d : Declared) (trees : List NamedTree) (ts : List Token) → ts ≡ d.rest → HeldAll trees d
      → After (declarations_of turns left rooms d) (AllTrees (declarations_tree turns left trees ts))
  unfolding declarations_of declarations_tree
  declarations_held turns zero rooms d trees ts e h = tt
  declarations_held turns (suc left) rooms d trees ts e h =
      next_held (declaration_of turns rooms d d.rest) (declaration_tree turns trees ts) d trees (λ next. declarations_of turns left rooms next)
      (λ t. declarations_tree turns left t.trees t.rest) h (rw e (declaration_held turns rooms d trees d.rest h))
      (λ n t same g. declarations_held turns left rooms n t.trees t.rest same g)

  -- ---- a text
  none_yet : Held P S no_records no_records [] []
  none_yet = record { types = refl; members = refl; each = λ k l. absurd (omega arith); named = tt }

  pub text_held : (types members : ℕ) (s : List ℕ) (d : Declared) → text_of types members s ≡ read d
      → (trees : List NamedTree) × (trees_of s ≡ read trees) × Held P S d.types d.members d.structs trees
  unfolding text_of trees_of
  text_held types members s d e =
      let all =
      after_read (text_of types members s) (AllTrees (trees_of s)) d
      (declarations_held (length s) (length s + 1) (rooms_in types members)
      (record { types = no_records; members = no_records; structs = []; rest = tokens (code 0) s }) [] (tokens (code 0) s) refl none_yet) e in
      (all.now, all.reads, all.held)
