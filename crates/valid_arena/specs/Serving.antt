-- Serves the contracts of functions inside the library: it adds nothing to what the other files say, and a reader may skip it.
-- Assumes nothing.
use Rattle.std.specs.Prelude.{List, ℕ}
use Rattle.ir_records.specs.Result.{Result, and_then}
use Rattle.ir_records.specs.Record.{decoded}
use Rattle.ir_records.specs.Outcome.{Outcome}
use Rattle.ir_records.specs.Outcome.{Accepted, Refused}
use Rattle.proc_layouter.specs.Serving.{record_then_layout}
use Rattle.valid_type_info.specs.declared.Row.{Row}
use Rattle.valid_arena.specs.Arena.{judged_at}

-- ---- two calls, the second where the first accepts: the words after both
abbrev pub after_both : Outcome → (second first : List ℕ) → List ℕ
after_both Accepted second first = second
after_both (Refused number ty member detail) second first = first

-- numbers 2 to 7 of type i and then its row, in the order of one type
abbrev pub laid_then_judged : (least c : ℕ) (ts ms : List ℕ) → ℕ → Result Row
laid_then_judged least c ts ms i = and_then (record_then_layout ts ms i) (λ _. judged_at least c (decoded ts ms) i)
