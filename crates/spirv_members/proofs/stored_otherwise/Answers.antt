-- `spirv_members::stored_otherwise` meets its contract. Assumes nothing.
use borrow.Author.Rules.{rules}
use borrow.Author.Tests.{lt-ltb, le-ltb}
use Prim.Native.Nat.{◌-◌}
use native.Mathlib.Omega.{arith}
use Rattle.spirv_words.specs.Module.{word}
use Rattle.spirv_words.specs.Decorations.{is_otherwise}
use Rattle.spirv_words.proofs.SearchLaws.{find_found, found_is}
use Rattle.spirv_members.specs.Members.{stored_otherwise}
use Rattle.spirv_members.proofs.stored_otherwise.Goals as goal

pub returns-then-step-gt0 : goal.returns-then-step-gt0
unfolding stored_otherwise
returns-then-step-gt0 c =
    let a = c.args in
    let ws = a.place.input.words.now in
    rw (
      lt-ltb 0 a.step c.if-step-gt0.true,
      c.is_some.ensures,
      c.first_between.ensures (is_otherwise ws c.word_of-id.result a.j a.step) (λ p r h told. search rules),
      c.word_of-id.ensures,
      find_found ws a.place.at (is_otherwise ws (word ws a.place.at 1) a.j a.step) (a.place.at - 5) 5 (omega arith),
      found_is,
    )

pub returns-else-step-gt0 : goal.returns-else-step-gt0
unfolding stored_otherwise
returns-else-step-gt0 c = rw (le-ltb _ _ c.if-step-gt0.false)
