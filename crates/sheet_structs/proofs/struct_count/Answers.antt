-- `sheet_structs::struct_count` meets its contract: the structs are counted by the library's filter. Assumes nothing.
use mathlib.Core.Path.{◌∙◌}
use borrow.Author.Tests.{tests}
use Rattle.std.specs.List.{range_with_len}
use Rattle.std.proofs.Common.{rules, arith}
use Rattle.std.proofs.lemmas.List.Sums.{length-filter}
use Rattle.std.proofs.lemmas.Iterator.{YieldsList-from_range}
use Rattle.std.proofs.lemmas.Iterator.Consumers.{count_from_yields_List, YieldsList-from_filter}
use Rattle.ir_records.specs.Fields.{most_types}
use Rattle.sheet_names.specs.Text.{is_struct}
use Rattle.sheet_structs.proofs.struct_count.Goals as goal

pub returns : goal.returns
returns c =
    let is = is_struct c.args.sheet.types.now in
    let types = YieldsList-from_range 0 most_types most_types c.filter.ensures.source (omega arith) in
    count_from_yields_List c.filter.result c.count.result c.count.ensures.ran
    (YieldsList-from_filter _ is types c.filter.ensures.closure (λ x r q k. search (rules, tests)))
    ∙ length-filter is (range_with_len 0 most_types)
