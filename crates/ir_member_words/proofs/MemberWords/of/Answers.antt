-- What the loop keeps: the words of the first i records, by the lemmas of FlatLaws.
use Rattle.std.proofs.Common.{◌≡◌, ◌+◌, ◌-◌, ◌*◌, ◌<◌, ◌++◌, ◌≤◌, ◌∙◌, sym, ap, [], arith, length, take, drop, length-append, length-drop}
use lib.Seq.{length-take-le, get_or-take}
use Rattle.std.proofs.lemmas.Slice.{put_mid-paste}
use Rattle.std.proofs.lemmas.List.Edits.{paste_all}
use Rattle.ir_member_words.proofs.FlatLaws.{none, its, one_more, none_yet}
use Rattle.ir_member_words.proofs.MemberWords.of.Goals as goal

pub loop-i-init : goal.loop-i-init
loop-i-init c = record { size = omega arith; copied = none_yet c.args.ms.now [] }

pub loop-i-preserved : goal.loop-i-preserved
loop-i-preserved c =
    let l = c.loop-i in
    let ms = c.args.ms.now in
    let i = l.i in
    let inside : i < length ms = omega (arith, c.min-n.ensures, length-take-le c.min-n.result ms (omega (arith, c.min-n.ensures))) in
    let same = get_or-take c.min-n.result ms i none (omega (arith, length-take-le c.min-n.result ms (omega (arith, c.min-n.ensures)))) in
    let is : c.words.result ≡ its ms i inside = rw same at c.words.ensures in
    let four : 4 ≡ length c.words.result = ap length (sym is) in
    let n : 4 ≡ i * 4 + 4 - i * 4 = omega arith in
    let within : i * 4 + 4 ≤ length l.words = omega (arith, l.invariant.size, c.min-n.ensures, inside, length-take-le c.min-n.result ms (omega (arith, c.min-n.ensures))) in
    let stored = put_mid-paste (i * 4) (i * 4 + 4 - i * 4) l.words c.copy_from_slice.new.self c.words.result 4 c.copy_from_slice.ensures.after n four ∙ paste_all l.words (i * 4) c.words.result 4 four in
    rw (stored, is) record {
      size = omega (arith, l.invariant.size, within, length-append (take (i * 4) l.words) (its ms i inside ++ drop (i * 4 + 4) l.words), length-append (its ms i inside) (drop (i * 4 + 4) l.words), length-take-le (i * 4) l.words (omega (arith, within)), length-drop (i * 4 + 4) l.words);
      copied = one_more ms i inside l.words (drop (i * 4 + 4) l.words) (omega (arith, within)) l.invariant.copied;
    }
