use mathlib.Core.Path.{◌≡◌}
use Prim.Native.Nat.{suc, ◌+◌, ◌*◌}
use native.Mathlib.Omega.{arith}
use lib.Seq.{sets-eq}
use Rattle.place_short_layout.specs.ShortRows.{three_words}
use Rattle.place_short_layout.proofs.put_three.Goals as goal

pub returns : goal.returns
returns c =
    let a = c.args in
    let one : a.i * 3 + 1 ≡ suc (a.i * 3) = omega arith in
    let two : a.i * 3 + 2 ≡ suc (suc (a.i * 3)) = omega arith in
    rw (one, two) (sets-eq (three_words a.size a.alignment a.flags) a.words.now (a.i * 3) c.requires)
