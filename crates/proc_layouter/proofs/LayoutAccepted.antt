-- What an accepted layout of an arena's type says of its parts.
-- Assumes nothing.
use mathlib.Core.Path.{◌≡◌, sym, ◌∙◌, ap}
use mathlib.Core.List.{List}
use mathlib.Core.Bool.{◌&&◌}
use Prim.Native.Nat.{ℕ, suc, ◌*◌, ◌<◌, max}
use lib.Dec.{T, leb}
use Rattle.ir_records.specs.Result.{ok}
use Rattle.ir_records.specs.Record.{Decoded, member_type}
use Rattle.ir_records.specs.Table.{table, result_at, first_refusal}
use Rattle.ir_records.specs.Outcome.{Accepted}
use Rattle.ir_records.specs.declared.Leaf.{Leaf}
use Rattle.ir_records.specs.declared.TypeInner.{TypeInner}
use Rattle.ir_records.specs.declared.TypeInner.TheVariants.{Plain, Array, RuntimeArray, Struct}
use Rattle.ir_records.proofs.ResultLaws.{required, ok_inj}
use Rattle.ir_records.proofs.TableLaws.{all_ok, value_ok, table_value}
use Rattle.proc_alignment.specs.Alignment.{power_of_two}
use Rattle.proc_type_methods.specs.TypeMethods.{most_size, leaf_size, try_size}
use Rattle.proc_type_alignment.specs.declared.TypeLayout.{TypeLayout}
use Rattle.proc_type_alignment.specs.TypeAlignment.{leaf_width, leaf_factor, base_alignment, members_alignment, alignment_of}
use Rattle.proc_layouter.specs.Layouter.{no_layout, layout_step, layout_at, layout}
use Rattle.proc_type_alignment.proofs.AcceptedAlignment.{leaf_accepted, base_accepted, member_accepted}
use Rattle.proc_type_layout.proofs.AcceptedParts.{layout_parts}

-- where the first n types are accepted, the layout of each is made from the layouts of those before it
pub accepted_step : (types : ℕ → Decoded) (n : ℕ) → first_refusal (layout_at types) n ≡ Accepted → (t : ℕ) → t < n
    → layout_step types (table no_layout (layout_step types) t) t ≡ ok (layout types t)
unfolding result_at
accepted_step types n e t h =
    let a = all_ok (layout_at types) n e t h in
    a.1 ∙ ap ok (sym (value_ok no_layout (layout_step types) t a.0 a.1))

-- ---- the layouts of an arena whose first n types are accepted, by what record t says
module _ (types : ℕ → Decoded) (n : ℕ) (accepted : first_refusal (layout_at types) n ≡ Accepted) (t : ℕ) (h : t < n) where
  -- the size of record t is the one that was tried, and its alignment is made from the layouts of the types before it
  parts : (inner : TypeInner) → (types t).inner ≡ inner
      → (try_size inner ≡ ok (layout types t).size)
      × (alignment_of (table no_layout (layout_step types) t) t inner (types t).members ≡ ok (layout types t).alignment)
  parts inner e =
      rw e at (layout_parts (table no_layout (layout_step types) t) t (types t).inner (types t).members (layout types t) (accepted_step types n accepted t h))

  -- a leaf has the leaf's size and alignment
  pub plain_layout : (leaf : Leaf) → (types t).inner ≡ Plain leaf
      → ((layout types t).size ≡ leaf_size leaf) × ((layout types t).alignment ≡ leaf_factor leaf * leaf_width leaf)
  unfolding try_size alignment_of
  plain_layout leaf e = let p = parts (Plain leaf) e in (sym (ok_inj p.0), sym (leaf_accepted leaf (layout types t).alignment p.1).1)

  -- the element of an array is an earlier type
  base_layout : (base : ℕ) → base_alignment (table no_layout (layout_step types) t) t base ≡ ok (layout types t).alignment
      → (base < t) × ((layout types t).alignment ≡ (layout types base).alignment)
  base_layout base e =
      let b = base_accepted (table no_layout (layout_step types) t) t base (layout types t).alignment e in
      (b.0, sym b.1 ∙ ap (λ (l : TypeLayout). l.alignment) (table_value no_layout (layout_step types) t base b.0))

  -- an array has count times stride for its size and the alignment of its element, an earlier type
  pub array_layout : (base count stride : ℕ) → (types t).inner ≡ Array base count stride
      → ((layout types t).size ≡ count * stride) × (base < t) × ((layout types t).alignment ≡ (layout types base).alignment)
  unfolding try_size alignment_of
  array_layout base count stride e =
      let p = parts (Array base count stride) e in
      let s = required (leb count most_size && leb (count * stride) most_size) 4 0 0 (ok (count * stride)) (layout types t).size p.0 in
      let b = base_layout base p.1 in
      (sym (ok_inj s.1), b.0, b.1)

  -- a runtime array has its stride for its size and the alignment of its element, an earlier type
  pub runtime_array_layout : (base stride : ℕ) → (types t).inner ≡ RuntimeArray base stride
      → ((layout types t).size ≡ stride) × (base < t) × ((layout types t).alignment ≡ (layout types base).alignment)
  unfolding try_size alignment_of
  runtime_array_layout base stride e =
      let p = parts (RuntimeArray base stride) e in
      let s = required (leb stride most_size) 4 0 0 (ok stride) (layout types t).size p.0 in
      let b = base_layout base p.1 in
      (sym (ok_inj s.1), b.0, b.1)

  -- a struct has its span for its size and the largest alignment of its members
  pub struct_layout : (count span : ℕ) → (types t).inner ≡ Struct count span
      → ((layout types t).size ≡ span)
      × (members_alignment (table no_layout (layout_step types) t) t (types t).members count ≡ ok (layout types t).alignment)
  unfolding try_size alignment_of
  struct_layout count span e = let p = parts (Struct count span) e in (sym (ok_inj p.0), p.1)

-- the largest alignment of j + 1 members is that of j, or that of the layout of member j's type, an earlier type
pub member_layout : (types : ℕ → Decoded) (t : ℕ) (members : List ℕ) (j a : ℕ)
    → members_alignment (table no_layout (layout_step types) t) t members (suc j) ≡ ok a
    → (b : ℕ) × (members_alignment (table no_layout (layout_step types) t) t members j ≡ ok b) × (member_type members j < t)
    × (a ≡ max b (layout types (member_type members j)).alignment)
member_layout types t members j a e =
    let m = member_accepted (table no_layout (layout_step types) t) t members j a e in
    (m.0, m.1, m.2, sym m.3 ∙ ap (λ (l : TypeLayout). max m.0 l.alignment) (table_value no_layout (layout_step types) t (member_type members j) m.2))

-- the alignment in an accepted layout of a leaf is made from a width that is a power of two
pub plain-width : (types : ℕ → Decoded) (n : ℕ) → first_refusal (layout_at types) n ≡ Accepted → (t : ℕ) → t < n
    → (leaf : Leaf) → (types t).inner ≡ Plain leaf → T (power_of_two (leaf_width leaf))
unfolding alignment_of
plain-width types n accepted t h leaf e = (leaf_accepted leaf (layout types t).alignment (parts types n accepted t h (Plain leaf) e).1).0
