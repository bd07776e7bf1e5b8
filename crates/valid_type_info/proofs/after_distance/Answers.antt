use mathlib.Core.Path.{refl}
use borrow.Author.Tests.{lt-leb}
use Rattle.valid_type_info.proofs.after_distance.Goals as goal

pub returns-in-Short : goal.returns-in-Short
returns-in-Short c = rw (c.in-Short.is, lt-leb _ 1 c.if-least-gt-MIN_STORAGE.true) refl
