-- `program_words::capped` meets its contract. The invariant: n followed by what is left gives the whole, cut down. Assumes nothing.
use mathlib.Core.Path.{◌∙◌}
use Prim.Native.Nat.{◌+◌, ◌-◌, ◌*◌}
use native.Mathlib.Omega.{arith}
use lib.ListN.{get_or, drop}
use Rattle.program_words.proofs.NumberLaws.{decimal_more, decimal_done, decimal_capped}
use Rattle.program_words.proofs.capped.Goals as goal

pub loop-b-preserved : goal.loop-b-preserved
loop-b-preserved c =
    let a = c.args in
    let l = c.loop-b in
    let m = decimal_more a.word.now l.b-index l.n c.loop-b-test.true in
    let next = l.n * 10 + (get_or a.word.now l.b-index 0 - 48) in (
      omega (arith, c.min-n.ensures),
      rw (c.min-n.ensures, c.from.ensures, c.saturating_sub.ensures)
          (decimal_capped next 4294967296 (drop (l.b-index + 1) a.word.now) ∙ rw m at l.invariant.1),
    )

pub returns : goal.returns
returns c =
    let l = c.loop-b in
    let d = decimal_done c.args.word.now l.b-index l.n c.loop-b-test.false in
    omega (arith, rw d at l.invariant.1)
