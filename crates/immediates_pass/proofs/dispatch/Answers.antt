-- `immediates_pass::dispatch` meets its contract: where all that is needed is set, nothing is missing. Assumes nothing.
use mathlib.Core.Path.{sym, ◌∙◌}
use borrow.Author.Tests.{not-false}
use Rattle.immediates_pass.proofs.CallLaws.{ready}
use Rattle.immediates_pass.proofs.dispatch.Goals as goal

pub returns-then-contains_all : goal.returns-then-contains_all
returns-then-contains_all c = ready c.args.pass (not-false _ c.if-not-pass.false) (sym c.contains_all.ensures ∙ c.if-contains_all.true)
