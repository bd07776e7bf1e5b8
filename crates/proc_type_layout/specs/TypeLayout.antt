-- 01, 'The layout': size and alignment of one type (`Layouter::update` of naga's proc/layouter.rs) from those of the types before it,
-- numbers 4 to 7, of which 5 to 7 come from the alignment (proc_type_alignment: TypeAlignment).
-- Assumes nothing.
use Rattle.std.specs.Prelude.{List, ℕ}
use Rattle.ir_records.specs.Result.{Result, ok, and_then}
use Rattle.ir_records.specs.declared.TypeInner.{TypeInner}
use Rattle.proc_type_methods.specs.TypeMethods.{try_size}
use Rattle.proc_type_alignment.specs.declared.TypeLayout.{TypeLayout}
use Rattle.proc_type_alignment.specs.TypeAlignment.{alignment_of}

-- ---- layouts
-- of this size, where the alignment is not refused
abbrev pub sized_layout : (alignment : Result ℕ) (size : ℕ) → Result TypeLayout
sized_layout alignment size = and_then alignment (λ a. ok (record { size = size; alignment = a }))

-- the size is tried before references and widths
unfoldable pub layout_of : (layouts : ℕ → TypeLayout) → ℕ → TypeInner → (members : List ℕ) → Result TypeLayout
layout_of layouts i inner members = and_then (try_size inner) (sized_layout (alignment_of layouts i inner members))
