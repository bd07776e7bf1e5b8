-- Serves the contracts of functions inside the library: it adds nothing to what the other files say, and a reader may skip it.
-- Assumes nothing.
use Rattle.std.specs.Prelude.{List, ℕ, replicate, Result, Ok, Err}
use Rattle.ir_records.specs.declared.Refusal.{Refusal}
use Rattle.order_call.specs.declared.OrderedStruct.{OrderedStruct}
use Rattle.order_call.specs.Answer.{order_answer_of}
use Rattle.order_words.specs.Words.{found_words}

-- the nine words of what was found, zeros on a refusal
abbrev pub words_of : Result OrderedStruct Refusal → List ℕ
words_of (Ok o) = found_words o.order.n (order_answer_of (Ok o))
words_of (Err r) = replicate 9 0
