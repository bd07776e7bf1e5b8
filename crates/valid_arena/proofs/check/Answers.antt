use Rattle.std.proofs.Common.{rules, Err}
use Rattle.ir_records.specs.Refusal.{outcome_of}
use Rattle.ir_records.proofs.RefusalLaws.{refused_lengths}
use mathlib.Core.Path.{◌≡◌, sym, ap, ◌∙◌}
use Rattle.valid_arena.proofs.CheckLaws.{laid_out, unknown_untouched, pair_answer, pair-words, refused_same}
use Rattle.valid_arena.proofs.check.Goals as goal

pub returns-in_err-capabilities_known : goal.returns-in_err-capabilities_known
returns-in_err-capabilities_known c =
    let a = c.args in
    let unknown = c.in_err-capabilities_known.ensures in
    let untouched = unknown_untouched a.rule a.capabilities a.types.now a.members.now a.rows.now unknown.1 in
    record { value = refused_lengths _ _ (search rules) unknown.0 ∙ sym untouched.0; rows_after = sym untouched.1 }

pub returns-in_err-layout : goal.returns-in_err-layout
returns-in_err-layout c =
    let a = c.args in let ts = a.types.now in let ms = a.members.now in let rows = a.rows.now in
    let known = c.in_ok-capabilities_known.ensures in
    let refused : c.from_residual-in_err-layout.result ≡ Err c.in_err-layout.field-0.0 = search rules in
    let same = refused_same a.rule a.capabilities ts ms rows known _ _ _ _ (sym c.layout.ensures.value ∙ ap outcome_of c.in_err-layout.was) in
    record { value = ap outcome_of refused ∙ sym same.0; rows_after = c.layout.ensures.rows_after ∙ sym same.1 }

pub returns : goal.returns
returns c =
    let a = c.args in let ts = a.types.now in let ms = a.members.now in let rows = a.rows.now in
    let laid = c.layout in
    let l = laid_out ts ms rows (sym laid.ensures.value ∙ ap outcome_of c.in_ok-layout.was) in
    let known = c.in_ok-capabilities_known.ensures in
    let judged = rw laid.ensures.rows_after at c.judge.ensures in
    record { value = judged.value ∙ pair_answer a.rule a.capabilities known ts ms rows l; rows_after = judged.rows_after ∙ pair-words a.rule a.capabilities known ts ms rows l }
