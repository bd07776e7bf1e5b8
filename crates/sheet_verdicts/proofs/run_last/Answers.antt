-- `sheet_verdicts::run_last` meets its contract: the library's search gives it. Assumes nothing.
use mathlib.Core.Path.{refl, sym, ◌∙◌, ap}
use mathlib.Core.Bool.{not}
use Prim.Native.Nat.{ℕ, ◌+◌, ◌-◌}
use native.Mathlib.Omega.{arith}
use borrow.Author.Tests.{tests}
use Rattle.std.specs.Prelude.{Option, unwrap_or}
use Rattle.std.proofs.Common.{rules}
use Rattle.std.proofs.lemmas.Iterator.{YieldsList-from_range}
use Rattle.std.proofs.lemmas.Iterator.Adapters.{option_map_id}
use Rattle.std.proofs.lemmas.Iterator.Search.{find_from_yields_List}
use Rattle.valid_flags.specs.Flags.{bit}
use Rattle.sheet_verdicts.proofs.SlotLaws.{last_found}
use Rattle.sheet_verdicts.proofs.run_last.Goals as goal

pub returns : goal.returns
returns c =
    let a = c.args in
    let left = 63 - a.k in
    let all = YieldsList-from_range a.k 63 left refl refl in
    let found = find_from_yields_List (λ s. not (bit a.mask (s + 1))) _ _ c.find.result c.find.ensures.ran all (λ x b q k. search (rules, tests)) in
    let last = last_found a.mask left a.k (omega (arith, c.requires)) in
    c.unwrap_or.ensures ∙ ap (λ (o : Option ℕ). unwrap_or o 63) (sym (option_map_id c.find.result) ∙ found) ∙ last
