use Rattle.valid_member_bounds.proofs.is_member_data.Goals as goal

pub returns : goal.returns
returns c = rw (c.is_creation_resolved.ensures, c.is_data.ensures)
