-- What holds after a reading, where it comes to something: rules for each part of the grammar that reads on. A refusal promises nothing.
-- Assumes nothing.
use mathlib.Core.Path.{◌≡◌, refl}
use mathlib.Core.Bool.{Bool, true, false}
use mathlib.Core.List.{List, [], ◌∷◌}
use mathlib.Core.Option.{Option, none, some}
use Prim.Native.Nat.{ℕ}
use lib.Dec.{ltb}
use Rattle.ir_records.specs.Result.{pick}
use Rattle.ir_records.specs.declared.Words.{Words}
use Rattle.w3c_agreement.specs.Wgsl.{WgslType}
use Rattle.wgsl_tokens.specs.Tokens.{Token}
use Rattle.wgsl_names.specs.Names.{same}
use Rattle.wgsl_grammar.specs.Grammar.{Reading, refused, read, and_then, demand}
use Rattle.wgsl_placement.specs.declared.Shape.{Shape}
use Rattle.wgsl_tables.specs.Tables.{Records, Named, lookup}
use Rattle.wgsl_types.specs.Types.{Closing, stopped, full, closed, closing, inside, make_type}
use Rattle.wgsl_growth.specs.Tree.{NamedTree, tree_named}
use Rattle.wgsl_growth.specs.Written.{with_record, AllNamed}

-- ---- readings
abbrev pub After {ℓ} : {A : Type ℓ} → Reading A → (A → Type 0) → Type 0
After (refused n) Q = Unit {0}
After (read a) Q = Q a

pub after_read {ℓ} : {A : Type ℓ} (r : Reading A) (Q : A → Type 0) (a : A) → After r Q → r ≡ read a → Q a
after_read r Q a h e = rw e at h

pub after_map {ℓ} : {A : Type ℓ} (r : Reading A) (P Q : A → Type 0) → ((a : A) → P a → Q a) → After r P → After r Q
after_map (refused n) P Q f h = tt
after_map (read a) P Q f h = f a h

pub after_then {ℓ κ} : {A : Type ℓ} {B : Type κ} (r : Reading A) (f : A → Reading B) (R : A → Type 0) (Q : B → Type 0)
    → After r R → ((a : A) → R a → After (f a) Q) → After (and_then r f) Q
after_then (refused n) f R Q h g = tt
after_then (read a) f R Q h g = g a h

-- where only that it was read needs to be known
pub after_any {ℓ κ} : {A : Type ℓ} {B : Type κ} (r : Reading A) (f : A → Reading B) (Q : B → Type 0)
    → ((a : A) → r ≡ read a → After (f a) Q) → After (and_then r f) Q
after_any (refused n) f Q g = tt
after_any (read a) f Q g = g a refl

pub after_demand {ℓ} : {A : Type ℓ} (t : Bool) (n : ℕ) (r : Reading A) (Q : A → Type 0) → (t ≡ true → After r Q) → After (demand t n r) Q
after_demand true n r Q g = g refl
after_demand false n r Q g = tt

-- ---- types that close
abbrev pub Closes : Closing → (Shape → Records → List Token → Type 0) → Type 0
Closes (stopped n) Q = Unit {0}
Closes (full e) Q = Unit {0}
Closes (closed e types rest) Q = Q e types rest

pub closes_map : (c : Closing) (P Q : Shape → Records → List Token → Type 0) → ((e : Shape) (types : Records) (ts : List Token) → P e types ts → Q e types ts)
    → Closes c P → Closes c Q
closes_map (stopped n) P Q f h = tt
closes_map (full e) P Q f h = tt
closes_map (closed e types ts) P Q f h = f e types ts h

pub closes_then {ℓ} : {A : Type ℓ} (r : Reading A) (f : A → Closing) (Q : Shape → Records → List Token → Type 0)
    → ((a : A) → r ≡ read a → Closes (f a) Q) → Closes (closing r f) Q
closes_then (refused n) f Q g = tt
closes_then (read a) f Q g = g a refl

pub closes_inside : (c : Closing) (f : Shape → Records → List Token → Closing) (R Q : Shape → Records → List Token → Type 0)
    → Closes c R → ((e : Shape) (types : Records) (ts : List Token) → R e types ts → Closes (f e types ts) Q) → Closes (inside c f) Q
closes_inside (stopped n) f R Q h g = tt
closes_inside (full e) f R Q h g = tt
closes_inside (closed e types ts) f R Q h g = g e types ts h

pub closes_pick : (t : Bool) (c d : Closing) (Q : Shape → Records → List Token → Type 0) → Closes c Q → Closes d Q → Closes (pick t c d) Q
closes_pick true c d Q h g = h
closes_pick false c d Q h g = g

module _ (room : ℕ) (types : Records) (e : Shape) (w : Words) (ts : List Token) (Q : Shape → Records → List Token → Type 0) where
  pub closes_made : Q e (with_record types w) ts → Closes (make_type room types e w ts) Q
  unfolding make_type
  closes_made h = closes_pick (ltb types.made room) (closed e (with_record types w) ts) (full e) Q h tt

  pub closes_made_inside : (f : Shape → Records → List Token → Closing) → Closes (f e (with_record types w) ts) Q → Closes (inside (make_type room types e w ts) f) Q
  unfolding make_type
  closes_made_inside f h = go (ltb types.made room)
    where
      go : (t : Bool) → Closes (inside (pick t (closed e (with_record types w) ts) (full e)) f) Q
      go true = h
      go false = tt

-- ---- names of structs: found in both lists, or in neither
pub named_map : (P Q : Shape → Option WgslType → Type 0) → ((e : Shape) (x : Option WgslType) → P e x → Q e x) → (ns : List Named) (xs : List NamedTree)
    → AllNamed P ns xs → AllNamed Q ns xs
named_map P Q f [] [] h = tt
named_map P Q f [] (x ∷ xs) h = absurd h
named_map P Q f (n ∷ ns) [] h = absurd h
named_map P Q f (n ∷ ns) (x ∷ xs) h = (h.0, f n.shape x.tree h.1, named_map P Q f ns xs h.2)

abbrev pub Found : Option Shape → Option (Option WgslType) → (Shape → Option WgslType → Type 0) → Type 0
Found none none Q = Unit {0}
Found none (some x) Q = ⊥
Found (some e) none Q = ⊥
Found (some e) (some x) Q = Q e x

pub both_found : (Q : Shape → Option WgslType → Type 0) (w : List ℕ) (ns : List Named) (xs : List NamedTree) → AllNamed Q ns xs → Found (lookup w ns) (tree_named w xs) Q
unfolding lookup tree_named
both_found Q w [] [] h = tt
both_found Q w [] (x ∷ xs) h = absurd h
both_found Q w (n ∷ ns) [] h = absurd h
both_found Q w (n ∷ ns) (x ∷ xs) h = rw h.0 (go (same w n.name) (both_found Q w ns xs h.2))
  where
    go : (t : Bool) → Found (lookup w ns) (tree_named w xs) Q → Found (pick t (some n.shape) (lookup w ns)) (pick t (some x.tree) (tree_named w xs)) Q
    go true f = h.1
    go false f = f
