-- Serves the contracts of functions inside the library: it adds nothing to what the other files say, and a reader may skip it.
-- Assumes nothing.
use Rattle.std.specs.Prelude.{ℕ, Option, Some, None}
use Rattle.ir_records.specs.Result.{Result, err, ok}
use Rattle.proc_type_methods.specs.TypeMethods.{array_size, runtime_array_size}

abbrev pub size_result : Option ℕ → Result ℕ
size_result (Some size) = ok size
size_result None = err 4 0 0

-- number 4 of an array by its count; none: a runtime array
abbrev pub size_by_count : Option ℕ → (stride : ℕ) → Result ℕ
size_by_count (Some count) stride = array_size count stride
size_by_count None stride = runtime_array_size stride
