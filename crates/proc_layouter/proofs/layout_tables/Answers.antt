use Rattle.std.proofs.Common.{rules, Err, ◌≡◌, ◌∙◌, sym, ap, refl}
use Rattle.ir_records.specs.Table.{also}
use Rattle.ir_records.specs.Refusal.{outcome_of}
use Rattle.ir_records.proofs.RefusalLaws.{no_refusal}
use Rattle.proc_layouter.proofs.LayoutLaws.{all_accepted, also_layouts}
use Rattle.proc_layouter.proofs.layout_tables.Goals as goal

-- a refusal of numbers 2 and 3 comes before the one found
pub returns-in_err-records_ok-clause-value : goal.returns-in_err-records_ok-clause-value
returns-in_err-records_ok-clause-value c =
    let a = c.args in
    let same : c.from_residual.result ≡ Err c.in_err-records_ok.field-0.0 = search rules in
    let f = c.layout_all-found.result in
    let first : also (outcome_of c.records_ok.result) (outcome_of f) ≡ outcome_of c.records_ok.result = rw c.in_err-records_ok.was refl in
    ap outcome_of (same ∙ sym c.in_err-records_ok.was) ∙ sym first
    ∙ rw (c.records_ok.ensures, c.layout_all-found.ensures.value, c.requires.n_value) (also_layouts a.types.now a.members.now)

pub returns-in_ok-records_ok-clause-value : goal.returns-in_ok-records_ok-clause-value
returns-in_ok-records_ok-clause-value c =
    let a = c.args in
    let f = c.layout_all-found.result in
    let first : also (outcome_of c.records_ok.result) (outcome_of f) ≡ outcome_of f = rw c.in_ok-records_ok.was refl in
    sym first ∙ rw (c.records_ok.ensures, c.layout_all-found.ensures.value, c.requires.n_value) (also_layouts a.types.now a.members.now)

pub returns-else-is_err-clause-value : goal.returns-else-is_err-clause-value
returns-else-is_err-clause-value c =
    let a = c.args in
    let f = c.layout_all-found in
    let accepted = no_refusal f.result (sym c.is_err.ensures.value ∙ c.if-is_err.false) in
    accepted ∙ sym (all_accepted a.types.now a.members.now (rw c.requires.n_value at (sym f.ensures.value ∙ accepted)))
