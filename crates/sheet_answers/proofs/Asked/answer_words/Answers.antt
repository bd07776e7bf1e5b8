-- `sheet_answers::Asked::answer_words` meets its contract, by what the reader of a module answers. Assumes nothing.
use mathlib.Core.Path.{refl}
use Rattle.sheet_answers.proofs.TextLaws.{no_types_is, no_members_is}
use Rattle.sheet_answers.proofs.WordLaws.{says_section, says_fault}
use Rattle.sheet_answers.proofs.Asked.answer_words.Goals as goal

pub returns-in-Ok : goal.returns-in-Ok
returns-in-Ok g c =
    let read = c.read_module in
    let said =
    c.answer_section.ensures (c.args.words.now) (c.args.bytes.now) _
    record { words-are = refl; bytes-are = refl; types-are = c.made.ensures; places = c.type_places.ensures } in (
      said.0,
      says_section _ _ _ _ _ _ read.new.types read.new.members no_types_is no_members_is read.result c.in-Ok.records said.0 c.in-Ok.is read.ensures.0
          read.ensures.1 read.ensures.2 (rw c.made-members.ensures at said.1),
      said.2,
    )

pub returns-in-Err : goal.returns-in-Err
returns-in-Err g c =
    let read = c.read_module in (
      _,
      says_fault _ _ _ _ _ _ read.new.types read.new.members no_types_is no_members_is read.result c.in-Err.fault c.in-Err.is read.ensures.0,
      (c.args.out.now.markup, c.put_module.ensures),
    )
