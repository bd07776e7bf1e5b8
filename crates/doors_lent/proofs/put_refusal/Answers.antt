-- `doors_lent::put_refusal` meets its contract: one after the other. Assumes nothing.
use mathlib.Core.List.{◌++◌}
use Rattle.std.proofs.KnownBytes.{Appends-trans}
use Rattle.program_output.specs.Bytes.{ascii, number}
use Rattle.doors_lent.proofs.PrintedLaws.{refusal_after}
use Rattle.doors_lent.proofs.put_refusal.Goals as goal

pub returns : goal.returns
returns g c =
    let to = g.W.Write.contents in
    let n = c.args.number in
    let was = to c.args.to.now in
    let now = to c.put_number.new.to in
    let begun = Appends-trans was (to c.write_all.new.self) now (ascii "made for") (number 32 n) c.in_ok-write_all.ensures.bytes c.in_ok-put_number.ensures in
    let words = c.put_words in
    refusal_after words.result n c.args.answer.now was now (to words.new.to) begun words.ensures
