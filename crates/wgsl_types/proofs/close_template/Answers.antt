use Rattle.wgsl_types.proofs.close_template.Goals as goal

pub returns : goal.returns
returns c = rw (← c.skipping-close.ensures, c.expect.ensures, c.in_ok-at.was) (rw (c.template_shape-shape.ensures, c.template_record-w.ensures) at (c.make_type.ensures c.args.s.now))
