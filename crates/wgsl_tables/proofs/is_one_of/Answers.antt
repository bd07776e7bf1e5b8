use Rattle.std.proofs.Common.{◌∙◌, rules}
use borrow.Author.Tests.{tests}
use Rattle.std.proofs.lemmas.Iterator.{YieldsList-from_slice}
use Rattle.std.proofs.lemmas.Iterator.Search.{any_from_yields_List}
use Rattle.wgsl_names.specs.Names.{same}
use Rattle.wgsl_tables.specs.Tables.{name_in}
use Rattle.wgsl_tables.proofs.TableLaws.{one_of_any}
use Rattle.wgsl_tables.proofs.is_one_of.Goals as goal

pub returns : goal.returns
returns c =
    any_from_yields_List (λ n. same c.args.w.now (name_in c.args.s.now n.start n.end)) _ _ _ c.any.ensures.ran (YieldsList-from_slice c.args.names.now cc) (λ x b q k. search (rules, tests))
    ∙ one_of_any c.args.s.now c.args.w.now c.args.names.now
