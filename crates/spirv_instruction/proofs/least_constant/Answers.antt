-- `spirv_instruction::least_constant` meets its contract, by the integer type of the constant. Assumes nothing.
use mathlib.Core.Path.{refl}
use borrow.Author.Tests.{eq-eqb, ne_eqb}
use Rattle.spirv_instruction.proofs.InstructionLaws.{no_constant, some_constant}
use Rattle.spirv_instruction.proofs.least_constant.Goals as goal

pub returns-in_default : goal.returns-in_default
returns-in_default c = rw (no_constant c.args.place.input.words.now c.args.place.at c.in_default.ensures) refl

pub returns-then-bits-eq64 : goal.returns-then-bits-eq64
returns-then-bits-eq64 c =
    let s = some_constant c.args.place.input.words.now c.args.place.at c.in-Some.integer c.in-Some.ensures in
    rw (s.0, ← s.1, ← c.word_of-bits.ensures, eq-eqb _ 64 c.if-bits-eq64.true) refl

pub returns : goal.returns
returns c =
    let s = some_constant c.args.place.input.words.now c.args.place.at c.in-Some.integer c.in-Some.ensures in
    rw (s.0, ← s.1, ← c.word_of-bits.ensures, ne_eqb _ 64 c.if-bits-eq64.false) refl
