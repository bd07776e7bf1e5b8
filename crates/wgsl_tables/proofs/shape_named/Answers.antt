use Rattle.std.proofs.Common.{refl, ◌∙◌, rules}
use borrow.Author.Tests.{tests}
use Rattle.std.proofs.lemmas.Iterator.Adapters.{YieldsList-from_rev_slice}
use Rattle.std.proofs.lemmas.Iterator.Search.{find_from_yields_List}
use Rattle.wgsl_names.specs.Names.{same}
use Rattle.wgsl_tables.specs.Tables.{name_in}
use Rattle.wgsl_tables.proofs.TableLaws.{lookup_last}
use Rattle.wgsl_tables.proofs.shape_named.Goals as goal

pub returns-in_err-named : goal.returns-in_err-named
returns-in_err-named c =
    let a = c.args in
    let found = find_from_yields_List (λ n. same a.w.now (name_in a.s.now n.name.start n.name.end)) _ _ _ c.find.ensures.ran (YieldsList-from_rev_slice a.structs.now cc) (λ x b q k. search (rules, tests)) in
    let f = rw c.in_err-named.was at found in
    lookup_last a.s.now a.w.now a.structs.now ∙ rw (c.from_residual.ensures, ← f) refl

pub returns : goal.returns
returns c =
    let a = c.args in
    let found = find_from_yields_List (λ n. same a.w.now (name_in a.s.now n.name.start n.name.end)) _ _ _ c.find.ensures.ran (YieldsList-from_rev_slice a.structs.now cc) (λ x b q k. search (rules, tests)) in
    let f = rw c.in_ok-named.was at found in
    lookup_last a.s.now a.w.now a.structs.now ∙ rw (← f) refl
