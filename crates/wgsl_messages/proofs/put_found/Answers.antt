use Rattle.wgsl_messages.proofs.put_found.Goals as goal

pub returns-in-None : goal.returns-in-None
returns-in-None c = rw (c.in-Ok.is, c.in-None.is) c.put_text-in-None.ensures
