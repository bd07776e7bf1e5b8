use Rattle.ir_records.specs.Record.{type_inner}
use Rattle.valid_type_flags.proofs.KindLaws.{external_by_words}
use Rattle.valid_type_flags.proofs.is_external_image.Goals as goal

pub returns : goal.returns
unfolding type_inner
returns c = rw (c.is_external.ensures, c.type_word-class.ensures, c.is_of_kind.ensures) (external_by_words _ _ _ _ _ _)
