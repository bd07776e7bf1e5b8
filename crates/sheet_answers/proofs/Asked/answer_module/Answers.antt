-- `sheet_answers::Asked::answer_module` meets its contract: where there is no module, nothing is written. Assumes nothing.
use mathlib.Core.List.{[]}
use Rattle.sheet_output.proofs.WritesLaws.{writes_none}
use Rattle.sheet_answers.proofs.WordLaws.{says_parted, says_longer}
use Rattle.sheet_answers.proofs.Asked.answer_module.Goals as goal

pub returns-then-bytes-ne0 : goal.returns-then-bytes-ne0
returns-then-bytes-ne0 g c = ([], says_parted _ _ (c.args.bytes.now) c.if-bytes-ne0.true, (c.args.out.now.markup, writes_none _ _))

pub returns-else-bytes-le262144 : goal.returns-else-bytes-le262144
returns-else-bytes-le262144 g c = ([], says_longer _ _ (c.args.bytes.now) c.if-bytes-le262144.false, (c.args.out.now.markup, writes_none _ _))
