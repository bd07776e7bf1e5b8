use mathlib.Core.Path.{refl, ap, ◌∙◌}
use Prim.Native.Nat.{ℕ}
use Rattle.std.specs.Prelude.{min}
use Rattle.std.proofs.Common.{rules, arith}
use Rattle.std.proofs.lemmas.Iterator.{YieldsList-from_range}
use Rattle.std.proofs.lemmas.Iterator.Consumers.{fold_from_yields_List}
use Rattle.sheet_table.specs.Width.{head_length, most_name}
use Rattle.sheet_table.proofs.WidthLaws.{wider, fold_names}
use Rattle.sheet_table.proofs.name_width.Goals as goal

pub returns : goal.returns
returns c =
    let sheet = c.args.t.sheet in
    let longest =
    fold_from_yields_List _ (wider sheet.text.now sheet.names.now sheet.types.now c.args.t.i) head_length c.fold.result c.fold.ensures.ran (YieldsList-from_range 0 c.args.count c.args.count refl (omega arith)) (λ d x b q k. search rules)
    ∙ fold_names sheet.text.now sheet.names.now sheet.types.now c.args.t.i c.args.count in
    c.min.ensures ∙ ap (λ (width : ℕ). min width most_name) longest
