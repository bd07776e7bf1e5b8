-- Laws of the tables: what a name is found at, and what one more entry or record adds. Assumes nothing.
use mathlib.Core.Path.{◌≡◌, refl, ap, ◌∙◌}
use mathlib.Core.Bool.{Bool, true, false, ◌||◌}
use mathlib.Core.List.{List, [], ◌∷◌, ◌++◌, map, reverse, reverse-cons, map-append}
use Prim.Native.Nat.{ℕ, ◌+◌, ◌*◌, ◌≤◌}
use native.Mathlib.Numerals.{add-one}
use native.Mathlib.Nat.{suc-mul}
use lib.ListN.{length, take}
use Rattle.ir_rows.specs.Rows.{with_part}
use Rattle.ir_rows.proofs.RowLaws.{take_part}
use Rattle.program_words.specs.Words.{part}
use Rattle.program_words.specs.declared.Span.{Span}
use Rattle.wgsl_tables.specs.declared.NamedShape.{NamedShape}
use Rattle.std.specs.List.{list_any, find}
use Rattle.std.specs.Option.{option_map}
use Rattle.wgsl_names.specs.Names.{same}
use Rattle.wgsl_tables.specs.Tables.{records_in, name_in, names_in, is_one_of, Named, structs_in, lookup, shape_found}

-- ---- one more name
pub one_name : (s : List ℕ) (names : List Span) (name : Span) → names_in s (names ++ name ∷ []) ≡ name_in s name.start name.end ∷ names_in s names
unfolding names_in
one_name s [] name = refl
one_name s (n ∷ names) name = rw (one_name s names name)

-- ---- one more struct
pub one_struct : (s : List ℕ) (structs : List NamedShape) (n : NamedShape)
    → structs_in s (structs ++ n ∷ []) ≡ record { name = name_in s n.name.start n.name.end; shape = n.shape } ∷ structs_in s structs
unfolding structs_in
one_struct s [] n = refl
one_struct s (x ∷ structs) n = rw (one_struct s structs n)

-- ---- one more record
pub one_record : (width : ℕ) (words part : List ℕ) (i : ℕ) → length part ≡ width → i * width + width ≤ length words
    → records_in width (with_part width words (i * width) part) (i + 1) ≡ record { made = i + 1; words = take (i * width) words ++ part }
one_record width words part i whole room =
    let n : (i + 1) * width ≡ i * width + width = ap (λ (k : ℕ). k * width) (add-one i) ∙ suc-mul i width in
    rw (n, take_part width words part (i * width) whole room)

-- ---- a name among those of the table
one_of_last : (w x : List ℕ) (xs : List (List ℕ)) → is_one_of w (xs ++ x ∷ []) ≡ (same w x || is_one_of w xs)
unfolding is_one_of
one_of_last w x [] = refl
one_of_last w x (y ∷ xs) = rw (one_of_last w x xs) (either (same w y) (same w x) (is_one_of w xs))
  where
    either : (a b c : Bool) → (a || (b || c)) ≡ (b || (a || c))
    either true true c = refl
    either true false c = refl
    either false true c = refl
    either false false c = refl

pub one_of_any : (s w : List ℕ) (names : List Span) → list_any (λ n. same w (name_in s n.start n.end)) names ≡ is_one_of w (names_in s names)
unfolding is_one_of names_in
one_of_any s w [] = refl
one_of_any s w (n ∷ names) = rw (one_of_last w (name_in s n.start n.end) (names_in s names), one_of_any s w names)

-- ---- the struct of a name: the last one that has it
module _ (s w : List ℕ) where
  abbrev named : NamedShape → Named
  named n = record { name = name_in s n.name.start n.name.end; shape = n.shape }

  abbrev pub has : NamedShape → Bool
  has n = same w (name_in s n.name.start n.name.end)

  reversed : (structs : List NamedShape) → structs_in s structs ≡ map named (reverse structs)
  unfolding structs_in
  reversed [] = refl
  reversed (n ∷ structs) = rw (reversed structs, reverse-cons n structs, map-append named (reverse structs) (n ∷ [])) refl

  first_named : (structs : List NamedShape) → lookup w (map named structs) ≡ shape_found (option_map (λ (n : NamedShape). n.shape) (find has structs))
  unfolding lookup
  first_named [] = refl
  first_named (n ∷ structs) = by (has n) refl (first_named structs)
    where
      by : (b : Bool) → has n ≡ b → lookup w (map named structs) ≡ shape_found (option_map (λ (n : NamedShape). n.shape) (find has structs))
          → lookup w (map named (n ∷ structs)) ≡ shape_found (option_map (λ (n : NamedShape). n.shape) (find has (n ∷ structs)))
      by true e rest = rw e refl
      by false e rest = rw e rest

  pub lookup_last : (structs : List NamedShape) → lookup w (structs_in s structs) ≡ shape_found (option_map (λ (n : NamedShape). n.shape) (find has (reverse structs)))
  lookup_last structs = ap (lookup w) (reversed structs) ∙ first_named (reverse structs)
