-- Laws for the judgement of one type: a test before a value, and what a record's kind makes of it.
-- Assumes nothing.
use mathlib.Core.Path.{◌≡◌, refl, sym}
use mathlib.Core.Bool.{Bool, true, false}
use mathlib.Core.List.{List}
use Prim.Native.Nat.{ℕ}
use lib.Dec.{eqb}
use Rattle.ir_records.specs.Result.{Result, ok, pick, require, and_then}
use Rattle.ir_records.specs.declared.TypeInner.{TypeInner}
use Rattle.proc_type_alignment.specs.declared.TypeLayout.{TypeLayout}
use Rattle.ir_records.specs.declared.TypeInner.TheVariants.{Array, RuntimeArray}
use Rattle.valid_flags.specs.Flags.{array_flags, runtime_array_flags, is_sized_data}
use Rattle.valid_type_info.specs.declared.Row.{Row}
use Rattle.valid_types.specs.ValidateType.{flags_of, uniform_of, storage_of, immediates_of, row_of, judge}
use Rattle.valid_types.specs.Serving.{array_row, array_of}

-- what follows a value that a test lets through
pub require_then {ℓ κ} : {A : Type ℓ} {B : Type κ} (b : Bool) (n m d : ℕ) (a : A) (f : A → Result B)
    → and_then (require b n m d (ok a)) f ≡ require b n m d (f a)
require_then true n m d a f = refl
require_then false n m d a f = refl

-- an array is judged by its form
pub array_judged : (least c : ℕ) (inner : ℕ → TypeInner) (rows : ℕ → Row) (i : ℕ) (layout : TypeLayout) (part : List ℕ) (this : TypeInner)
    (base form count stride : ℕ) → this ≡ pick (eqb form 0) (Array base count stride) (RuntimeArray base stride)
    → array_of least form i stride (rows base) layout ≡ judge least c inner rows i layout this part
unfolding judge flags_of row_of uniform_of storage_of immediates_of
array_judged least c inner rows i layout part this base form count stride says = rw says (go (eqb form 0))
  where
    go : (t : Bool)
        → require (is_sized_data (rows base).flags) 15 0 0
        (ok (array_row least i stride (rows base) layout (pick t (array_flags (rows base).flags) (runtime_array_flags (rows base).flags))))
        ≡ judge least c inner rows i layout (pick t (Array base count stride) (RuntimeArray base stride)) part
    go true = sym (require_then (is_sized_data (rows base).flags) 15 0 0 (array_flags (rows base).flags) (λ f. ok (array_row least i stride (rows base) layout f)))
    go false = sym (require_then (is_sized_data (rows base).flags) 15 0 0 (runtime_array_flags (rows base).flags) (λ f. ok (array_row least i stride (rows base) layout f)))
