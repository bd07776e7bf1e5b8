-- `sheet_identifiers::put_member` meets its contract: the names before it are compared. Assumes nothing.
use mathlib.Core.Path.{◌≡◌, refl, sym, ◌∙◌, ap, subst}
use mathlib.Core.Bool.{Bool, ◌&&◌}
use Rattle.std.proofs.Common.{rules, tests, arith}
use Rattle.std.proofs.lemmas.Iterator.{YieldsList-from_range}
use Rattle.std.proofs.lemmas.Iterator.Search.{any_from_yields_List}
use Rattle.sheet_names.specs.Names.{member_name}
use Rattle.program_output.specs.Bytes.{ascii}
use Rattle.sheet_output.specs.Written.{Writes}
use Rattle.sheet_identifiers.specs.Identifiers.{has_identifier, is_same, is_earlier}
use Rattle.sheet_identifiers.proofs.AloneLaws.{stands_alone, made_member}
use Rattle.sheet_identifiers.proofs.IdentifierLaws.{lent_name, earlier_counts}
use Rattle.sheet_identifiers.proofs.put_member.Goals as goal
use Rattle.sheet_identifiers.proofs.put_member.Goals.{then-has_identifier, else-has_identifier}

pub returns-clause-written : goal.returns-clause-written
returns-clause-written g c =
    let sheet = c.args.member.of.sheet in
    let j = c.args.member.j in
    let name = member_name sheet.text.now sheet.names.now sheet.types.now c.args.member.of.i in
    let named = lent_name (name j) c.name-name.result c.name-name.ensures in
    let has = rw named at c.has_identifier.ensures in
    let before = is_earlier name j in
    let earlier : c.if-has_identifier.earlier ≡ has_identifier (name j) && before = elim c.if-has_identifier.branch [
      | then-has_identifier w ↦
          w.earlier-is
          ∙ any_from_yields_List (λ k. is_same (name k) (name j)) _ _ _ w.any-earlier.ensures.ran
          (YieldsList-from_range 0 j j refl (omega arith)) (λ x b q k. search (rules, tests))
          ∙ sym (ap (λ (t : Bool). t && before) (sym has ∙ w.if-has_identifier.true))
      | else-has_identifier w ↦ w.earlier-is ∙ w.if-has_identifier.false ∙ sym (ap (λ (t : Bool). t && before) (sym has ∙ w.if-has_identifier.false))
    ] in
    let written = rw (named, earlier) at c.put_name.ensures in
    subst (λ bytes. Writes g.W.Write.contents c.args.out.now bytes c.put_name.new.out) (earlier_counts (name j) before (ascii "member_") j) written

pub returns-clause-alone : goal.returns-clause-alone
returns-clause-alone g c k h e =
    let sheet = c.args.member.of.sheet in
    let name = member_name sheet.text.now sheet.names.now sheet.types.now c.args.member.of.i in
    stands_alone name (ascii "member_") made_member k c.args.member.j h (omega arith) e
