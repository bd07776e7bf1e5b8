-- `sheet_places::place_of` meets its contract. The invariant: so many instructions further is the place. Assumes nothing.
use Rattle.std.proofs.Common.{◌≡◌, ◌+◌, ◌-◌, rules, sym, ◌∙◌, arith}
use Rattle.sheet_places.proofs.PlaceLaws.{place_next, place_past, place_here}
use Rattle.sheet_places.proofs.place_of.Goals as goal

pub returns-then-words-at : goal.returns-then-words-at
returns-then-words-at c =
    let a = c.args in
    let l = c.loop in
    sym (place_past a.words.now l.at (a.k - l.counter) (omega arith) c.if-words-at.true) ∙ l.invariant.1

pub loop-preserved : goal.loop-preserved
loop-preserved c =
    let a = c.args in
    let l = c.loop in
    let e : a.k - l.counter - 1 ≡ a.k - (l.counter + 1) = omega arith in
    (search rules, rw (c.after_instruction-at.ensures.0, ← e) (sym (place_next a.words.now l.at (a.k - l.counter) (omega arith) c.if-words-at.false) ∙ l.invariant.1))

pub returns : goal.returns
returns c =
    let a = c.args in
    let l = c.loop in
    sym (place_here a.words.now l.at (a.k - l.counter) (omega arith)) ∙ l.invariant.1
