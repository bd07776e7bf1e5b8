-- `spirv_input::append` meets its contract. After k parts the first k words are in place (`lib.Seq`'s `paste`). Assumes nothing.
use mathlib.Core.Path.{◌≡◌, refl, sym, ap, ◌∙◌}
use Prim.Native.Nat.{◌*◌, ◌/◌, ◌<◌}
use native.Mathlib.Numerals.{add-one}
use native.Mathlib.Omega.{arith}
use lib.ListN.{length, length-set, length-drop}
use lib.Seq.{paste-zero, paste-suc, take_all}
use Rattle.spirv_input.proofs.WordLaws.{words_length, words_at}
use Rattle.spirv_input.proofs.PartLaws.{more_is, more_within, part_word}
use Rattle.spirv_input.specs.Bytes.{words_in}
use Rattle.spirv_input.proofs.append.Goals as goal

pub loop-k-init : goal.loop-k-init
loop-k-init c =
    let e = c.into_iter-k-iterator.ensures.into_iter_gives in
    let s = c.enumerate-k-items.ensures in
    rw (e, s.source, s.count) record { size = c.chunks_exact.ensures.size; rest = c.chunks_exact.ensures.rest; within = omega arith; put = paste-zero c.args.words.now c.args.held (words_in c.args.bytes.now (length c.args.bytes.now / 4)); long = refl }

pub loop-k-preserved : goal.loop-k-preserved
loop-k-preserved c =
    let s = c.in-Some.ensures.steps in
    let l = c.loop-k in
    let a = c.args in
    let bs = a.bytes.now in
    let n = length bs / 4 in
    let k = l.k-iterator.count in
    let long = s.0.1.1 ∙ l.invariant.size in
    let more = more_is k bs _ _ _ l.invariant.within l.invariant.rest s.0.1.0 long in
    let within = more_within k bs _ _ _ l.invariant.within l.invariant.rest s.0.1.0 long in
    let h : k < n = omega (arith, within) in
    let e = c.word_of.ensures ∙ part_word k bs _ _ _ l.invariant.within l.invariant.rest s.0.1.0 long ∙ sym (words_at bs n k h) in
    rw s.2 record {
      size = s.0.0 ∙ l.invariant.size;
      rest = more;
      within = within;
      put = rw (s.1, l.invariant.put, e, add-one) (paste-suc a.words.now a.held (words_in bs n) k 0 (omega (arith, c.requires, h)) (rw (words_length bs n) h));
      long = simp length-set l.invariant.long;
    }

pub returns : goal.returns
returns c =
    let s = c.in-None.ensures.steps in
    let l = c.loop-k in
    let bs = c.args.bytes.now in
    let n = length bs / 4 in
    let end : l.k-iterator.count ≡ n = omega (arith, s.0.1.0, s.0.0, l.invariant.size, l.invariant.within, ap length l.invariant.rest, length-drop (l.k-iterator.count * 4) bs) in
    (refl, rw (end, take_all n (words_in bs n) (rw (words_length bs n) (omega arith))) at l.invariant.put)
