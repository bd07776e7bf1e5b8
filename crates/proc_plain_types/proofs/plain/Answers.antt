-- `proc_plain_types::plain` meets its contract: each arm knows the width. Assumes nothing.
use mathlib.Core.Path.{refl}
use borrow.Author.Tests.{le-leb, lt-leb, ne_eqb}
use Rattle.proc_plain_types.specs.PlainTypes.{most_shape, plain_answer}
use Rattle.proc_plain_types.proofs.plain.Goals as goal

pub returns-then-shape-gt-MOST_SHAPE : goal.returns-then-shape-gt-MOST_SHAPE
unfolding plain_answer
returns-then-shape-gt-MOST_SHAPE c = rw (lt-leb _ most_shape c.if-shape-gt-MOST_SHAPE.true, c.of.ensures) refl

pub returns-in-1 : goal.returns-in-1
unfolding plain_answer
returns-in-1 c = rw (le-leb _ most_shape c.if-shape-gt-MOST_SHAPE.false, c.in-1.is) (c.entry.ensures 2)

pub returns-in-2 : goal.returns-in-2
unfolding plain_answer
returns-in-2 c = rw (le-leb _ most_shape c.if-shape-gt-MOST_SHAPE.false, c.in-2.is) (c.entry-in-2.ensures 2)

pub returns-in-4 : goal.returns-in-4
unfolding plain_answer
returns-in-4 c = rw (le-leb _ most_shape c.if-shape-gt-MOST_SHAPE.false, c.in-4.is) (c.entry-in-4.ensures 2)

pub returns-in-8 : goal.returns-in-8
unfolding plain_answer
returns-in-8 c = rw (le-leb _ most_shape c.if-shape-gt-MOST_SHAPE.false, c.in-8.is) (c.entry-in-8.ensures 2)

pub returns-in_default : goal.returns-in_default
unfolding plain_answer
returns-in_default c =
    let r = c.in_default.in_default-own.rest in
    rw (le-leb _ most_shape c.if-shape-gt-MOST_SHAPE.false, ne_eqb _ 8 r.1, ne_eqb _ 4 r.0.1, ne_eqb _ 2 r.0.0.1, ne_eqb _ 1 r.0.0.0.1, c.of-in_default.ensures) refl
