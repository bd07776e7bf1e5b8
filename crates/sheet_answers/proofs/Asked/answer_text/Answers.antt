-- `sheet_answers::Asked::answer_text` meets its contract, by what the reader of a text answers. Assumes nothing.
use Rattle.sheet_answers.proofs.TextLaws.{no_types_is, no_members_is, says_records, says_refusal}
use Rattle.sheet_answers.proofs.Asked.answer_text.Goals as goal

pub returns-in-Ok : goal.returns-in-Ok
returns-in-Ok g c =
    let read = c.read_at in
    let said = c.answer_records.ensures in
    let e = c.in-Ok.ensures in (
      said.0,
      says_records _ _ _ _ _ _ _ no_types_is no_members_is read.result c.in-Ok.records said.0 c.in-Ok.is read.ensures.result_value read.ensures.types_after
          read.ensures.members_after (rw (c.made.ensures, c.made-in-Ok.ensures) at said.1),
      said.2,
    )

pub returns-in-Err : goal.returns-in-Err
returns-in-Err g c =
    let read = c.read_at in
    let said = c.put_text.ensures in (
      _,
      says_refusal _ _ _ _ _ read.new.types read.new.members no_types_is no_members_is read.result c.in-Err.refusal said.0 c.in-Err.is read.ensures.result_value
          said.1,
      (c.args.out.now.markup, said.2),
    )
