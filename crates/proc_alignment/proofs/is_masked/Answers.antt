use Rattle.std.proofs.Common.{◌≡◌, ◌+◌, ◌%◌, arith}
use Rattle.proc_alignment.proofs.MaskLaws.{masked}
use Rattle.proc_alignment.proofs.is_masked.Goals as goal

pub returns : goal.returns
returns c =
    let a = c.args in
    let below = (a.alignment + 4294967295) % 4294967296 in
    let next : (below + 1) % 4294967296 ≡ a.alignment = omega (arith, c.ranges.alignment) in
    masked a.alignment a.n below (omega (arith, c.ranges.n)) (omega arith) next
