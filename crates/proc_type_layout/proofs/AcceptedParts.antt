-- What an accepted layout says of its parts.
-- Assumes nothing.
use mathlib.Core.Path.{◌≡◌, ◌∙◌, ap}
use mathlib.Core.List.{List}
use Prim.Native.Nat.{ℕ}
use Rattle.ir_records.specs.Result.{Result, ok, and_then}
use Rattle.ir_records.specs.declared.TypeInner.{TypeInner}
use Rattle.ir_records.proofs.ResultLaws.{and_then_ok, ok_inj}
use Rattle.proc_type_methods.specs.TypeMethods.{try_size}
use Rattle.proc_type_alignment.specs.declared.TypeLayout.{TypeLayout}
use Rattle.proc_type_alignment.specs.TypeAlignment.{alignment_of}
use Rattle.proc_type_layout.specs.TypeLayout.{layout_of}

-- an accepted layout has the size that was tried and the alignment
pub layout_parts : (layouts : ℕ → TypeLayout) (i : ℕ) (inner : TypeInner) (members : List ℕ) (l : TypeLayout) → layout_of layouts i inner members ≡ ok l
    → (try_size inner ≡ ok l.size) × (alignment_of layouts i inner members ≡ ok l.alignment)
unfolding layout_of
layout_parts layouts i inner members l e =
    let made : ℕ → ℕ → Result TypeLayout = λ size alignment. ok (record { size = size; alignment = alignment }) in
    let s = and_then_ok (try_size inner) (λ size. and_then (alignment_of layouts i inner members) (made size)) l e in
    let a = and_then_ok (alignment_of layouts i inner members) (made s.0) l s.2 in
    let q = ok_inj a.2 in
    (s.1 ∙ ap (λ (x : TypeLayout). ok x.size) q, a.1 ∙ ap (λ (x : TypeLayout). ok x.alignment) q)
