-- `sheet_output::Writer::put_name` meets its contract: the name as it is, or each byte after those before it. Assumes nothing.
use mathlib.Core.Path.{◌≡◌, ap, sym, ◌∙◌, subst}
use native.Mathlib.Numerals.{add-one}
use native.Mathlib.Omega.{arith}
use Rattle.std.proofs.Common.{rules}
use lib.ListN.{take, get_or}
use lib.Seq.{take-suc}
use Rattle.sheet_output.proofs.WritesLaws.{writes_none, writes_both, name_more, plain_name}
use Rattle.sheet_output.specs.declared.Markup.{Markup}
use Rattle.sheet_output.specs.declared.Markup.TheVariants as markup
use Rattle.sheet_output.specs.Written.{Writes, name_bytes, mark_bytes}
use Rattle.sheet_output.proofs.Writer.put_name.Goals as goal

pub loop-b-init : goal.loop-b-init
unfolding name_bytes
loop-b-init g c = writes_none g.W.Write.contents c.args.self.now

pub loop-b-preserved : goal.loop-b-preserved
loop-b-preserved g c =
    let l = c.loop-b in
    let m = c.args.self.now.markup in
    let name = c.args.name.now in
    let b = get_or name l.b-index 0 in
    let same = ap (λ (x : Markup). mark_bytes x b) (sym l.invariant.marks) in
    rw (add-one, take-suc name l.b-index 0 (omega arith), name_more m (take l.b-index name) b, same) (writes_both g.W.Write.contents l.invariant c.put_mark.ensures)

pub returns-then-eq-fits : goal.returns-then-eq-fits
returns-then-eq-fits g c =
    let name = c.args.name.now in
    let plain : c.args.self.now.markup ≡ markup.Plain = search rules in
    let same = ap (λ (m : Markup). name_bytes m name) plain ∙ plain_name name in
    subst (λ bytes. Writes g.W.Write.contents c.args.self.now bytes c.put_text.new.self) (sym same) c.put_text.ensures
