-- `proc_plain_types::entry` meets its contract: the test is computed over the whole table of the code. Assumes nothing.
use mathlib.Core.Path.{◌∙◌}
use Rattle.proc_plain_types.proofs.TableRule.{agrees, all_agree, entry_worked}
use Rattle.proc_plain_types.proofs.entry.Goals as goal

pub returns : goal.returns
unfolding agrees all_agree
returns c kind =
    let a = c.args in
    c.entry_in.ensures ∙ entry_worked _ kind tt a.shape a.place c.requires.shape_bound c.requires.place_bound
