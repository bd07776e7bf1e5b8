use Rattle.wgsl_types.proofs.close_array.Goals as goal

pub returns : goal.returns
returns c = λ s. let m = rw c.in_ok-measure.ensures.ok_part at c.array_measure.ensures in rw m.0 (rw (c.array-w.ensures, c.is_some.ensures, m.1, m.2) at (c.make_type.ensures s))
