-- `program_commands::Session::apply` meets its contract: the rule that a word is, or number 1. Assumes nothing.
use Rattle.std.proofs.Common.{refl}
use Rattle.valid_rule_word.proofs.WordLaws.{named_is}
use Rattle.program_commands.proofs.Session.apply.Goals as goal

pub returns-in-Rule-clause-value : goal.returns-in-Rule-clause-value
returns-in-Rule-clause-value c = rw (c.in-Rule.is, named_is c.in-Rule.word c.try_from-self.result c.try_from-self.ensures) refl
