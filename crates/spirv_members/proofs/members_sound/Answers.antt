-- `spirv_members::members_sound` meets its contract. Assumes nothing.
use mathlib.Core.Path.{refl, ◌∙◌}
use borrow.Author.Tests.{tests}
use Rattle.std.proofs.Common.{rules, arith}
use Rattle.std.proofs.lemmas.Iterator.{YieldsList-from_range}
use Rattle.std.proofs.lemmas.Iterator.Search.{all_from_yields_List}
use Rattle.spirv_members.specs.Members.{member_sound}
use Rattle.spirv_members.proofs.MemberLaws.{all_sound}
use Rattle.spirv_members.proofs.members_sound.Goals as goal

pub returns : goal.returns
returns c =
    let a = c.args in
    let f = member_sound a.place.input.words.now a.place.at in
    all_from_yields_List f _ _ c.all.result c.all.ensures.ran (YieldsList-from_range 0 a.n a.n refl (omega arith)) (λ x b q k. search (rules, tests))
    ∙ all_sound a.place.input.words.now a.place.at a.n
