use Rattle.valid_type_info.specs.TypeInfo.{words_of}
use Rattle.valid_type_rows.proofs.put.Goals as goal

pub returns : goal.returns
unfolding words_of
returns c = c.put_row.ensures
