-- `doors_lent::put_words` meets its contract: one after the other. Assumes nothing.
use mathlib.Core.Path.{◌≡◌, sym, ◌∙◌, ap}
use mathlib.Core.List.{[], ◌∷◌, ◌++◌}
use lib.ListN.{length, take}
use lib.Seq.{take_all, take-suc}
use Prim.Native.Nat.{◌+◌}
use native.Mathlib.Numerals.{add-one}
use Rattle.std.proofs.KnownBytes.{Appends-nil, Appends-trans}
use Rattle.program_output.specs.Bytes.{ascii, number, newline}
use Rattle.doors_lent.specs.Printed.{numbers_text}
use Rattle.doors_lent.proofs.PrintedLaws.{numbers_more, zip_more, appends_after, line_after}
use Rattle.doors_lent.proofs.put_words.Goals as goal

pub loop-word-init : goal.loop-word-init
unfolding numbers_text
loop-word-init g c = ([], tt, Appends-nil (g.W.Write.contents c.put_name.new.to))

pub loop-word-preserved : goal.loop-word-preserved
loop-word-preserved g c =
    let l = c.loop-word in
    let i = l.word-index in
    let words = c.args.words.now in
    let word = c.word-item.result in
    let n = c.into.result in
    let ns = l.invariant.0 in
    let to = g.W.Write.contents in
    let taken : take (i + 1) words ≡ take i words ++ (word ∷ []) =
    rw add-one (take-suc words i word c.loop-word-test.true ∙ ap (λ x. take i words ++ (x ∷ [])) (sym c.word-item.is)) in
    let zipped = zip_more g.T.Into.converts (take i words) ns word n l.invariant.1 c.into.ensures in
    let put = c.in_ok-put_number.ensures in
    let more = Appends-trans (to c.put_name.new.to) (to l.to) (to c.put_number.new.to) (numbers_text ns) (number 32 n) l.invariant.2 put in
    (ns ++ (n ∷ []), rw taken zipped, rw (numbers_more ns n) more)

pub returns : goal.returns
returns g c =
    let l = c.loop-word in
    let ns = l.invariant.0 in
    let to = g.W.Write.contents in
    let was = to c.args.to.now in
    let is = to c.write_all.new.self in
    let head = c.args.name.now ++ ascii ":" in
    let words = c.args.words.now in
    let r = c.write_all.result in
    let named = Appends-trans was (to c.put_name.new.to) (to l.to) head (numbers_text ns) c.in_ok-put_name.ensures l.invariant.2 in
    let all = appends_after r was (to l.to) is (head ++ numbers_text ns) newline named c.write_all.ensures.bytes in
    let zipped = rw (take_all l.word-index words c.loop-word-test.false) at l.invariant.1 in
    line_after r g.T.Into.converts c.args.name.now words ns was is zipped all
