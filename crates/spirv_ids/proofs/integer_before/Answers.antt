-- `spirv_ids::integer_before` meets its contract. Assumes nothing.
use borrow.Author.Rules.{rules}
use mathlib.Core.Path.{ap, ◌∙◌}
use Prim.Native.Nat.{◌-◌}
use native.Mathlib.Omega.{arith}
use Rattle.spirv_words.specs.Module.{found}
use Rattle.spirv_words.specs.Decorations.{is_integer}
use Rattle.spirv_words.proofs.SearchLaws.{find_found}
use Rattle.spirv_ids.proofs.PlaceLaws.{integer-from}
use Rattle.spirv_ids.proofs.integer_before.Goals as goal

pub returns : goal.returns
returns c =
    let a = c.args in
    let ws = a.input.words.now in
    let g = a.input.gives in
    c.first_between.ensures (is_integer ws a.id) (λ p r h told. search rules)
    ∙ find_found ws a.at (is_integer ws a.id) (a.at - a.input.from) a.input.from (omega (arith, g.stands.start))
    ∙ ap found (integer-from ws a.input.from g a.at a.id)
