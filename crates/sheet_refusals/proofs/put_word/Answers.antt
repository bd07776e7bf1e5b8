-- `sheet_refusals::put_word` meets its contract: one after the other. Assumes nothing.
use Rattle.std.proofs.Common.{lt-ltb}
use Rattle.sheet_output.proofs.WritesLaws.{writes_both}
use Rattle.sheet_refusals.proofs.put_word.Goals as goal

pub returns-then-place-lt-HEADER_WORDS : goal.returns-then-place-lt-HEADER_WORDS
returns-then-place-lt-HEADER_WORDS g c =
    rw (lt-ltb c.args.place 5 c.if-place-lt-HEADER_WORDS.true) (writes_both g.W.Write.contents c.put_with.ensures c.put_text.ensures)
