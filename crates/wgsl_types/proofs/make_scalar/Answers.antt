use Rattle.wgsl_types.proofs.make_scalar.Goals as goal

pub returns : goal.returns
returns c = λ s. rw (c.scalar_shape-shape.ensures, c.scalar_record-w.ensures) at (c.make_type.ensures s)
