-- `spirv_types::check_fresh` meets its contract. Assumes nothing.
use borrow.Author.Rules.{rules}
use mathlib.Core.Path.{◌≡◌, refl}
use mathlib.Core.Bool.{◌&&◌}
use Prim.Native.Nat.{◌-◌}
use native.Mathlib.Omega.{arith}
use Rattle.spirv_words.specs.Module.{opcode, word, before, first}
use Rattle.spirv_words.specs.Decorations.{is_misplaced}
use Rattle.spirv_words.proofs.SearchLaws.{find_found, found_not}
use Rattle.spirv_types.specs.Types.{is_fresh}
use Rattle.spirv_types.proofs.check_fresh.Goals as goal

pub returns : goal.returns
unfolding is_fresh
returns c =
    let a = c.args in
    let ws = a.place.input.words.now in
    let test = is_misplaced ws (opcode ws a.place.at) (word ws a.place.at 1) in
    let e = rw (c.first_between-misplaced.ensures (is_misplaced ws c.opcode_of-op.result c.word_of-id.result) (λ p r h told. search rules), c.word_of-id.ensures, c.opcode_of-op.ensures, find_found ws a.place.at test (a.place.at - 5) 5 (omega arith)) at c.is_none.ensures in
    let same : (c.is_new.result && c.is_none.result) ≡ is_fresh ws a.place.at = rw (c.is_new.ensures, c.word_of-id.ensures, found_not (first test (before ws a.place.at)) c.is_none.result e) refl in
    rw same at c.require.ensures
