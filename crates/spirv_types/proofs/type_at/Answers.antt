-- `spirv_types::type_at` meets its contract: the freshness of the id is tested last. Assumes nothing.
use borrow.Author.Rules.{rules}
use mathlib.Core.Path.{◌≡◌, sym, ap, ◌∙◌}
use mathlib.Core.Bool.{Bool, true}
use Rattle.std.specs.Prelude.{Err}
use Rattle.ir_records.specs.Result.{ok}
use Rattle.spirv_words.specs.Module.{opcode}
use Rattle.spirv_types.specs.Types.{is_fresh, type_at}
use Rattle.spirv_types.proofs.TypeLaws.{late, type_late}
use Rattle.spirv_types.proofs.type_at.Goals as goal

pub returns-in_err-typed : goal.returns-in_err-typed
unfolding type_at
returns-in_err-typed c = λ ms e.
    let k = c.args.known in
    let ws = k.place.input.words.now in
    let at = k.place.at in
    let same : c.from_residual.result ≡ Err c.in_err-typed.field-0.0 = search rules in
    rw same
    (ap (late (is_fresh ws at)) c.in_err-typed.ensures
    ∙ type_late ws k.tables.types.now ms k.tables.alignments.now at (is_fresh ws at) k.whole k.rows e (opcode ws at))

pub returns-in_err-check_fresh : goal.returns-in_err-check_fresh
unfolding type_at
returns-in_err-check_fresh c = λ ms e.
    let k = c.args.known in
    let ws = k.place.input.words.now in
    let at = k.place.at in
    let same : c.from_residual-in_err-check_fresh.result ≡ Err c.in_err-check_fresh.field-0.0 = search rules in
    let told = c.in_err-check_fresh.ensures in
    rw (same, told.0)
    (ap (λ (f : Bool). late f (ok c.in_ok-typed.typed)) (sym told.1)
    ∙ ap (late (is_fresh ws at)) c.in_ok-typed.ensures
    ∙ type_late ws k.tables.types.now ms k.tables.alignments.now at (is_fresh ws at) k.whole k.rows e (opcode ws at))

pub returns : goal.returns
unfolding type_at
returns c = λ ms e.
    let k = c.args.known in
    let ws = k.place.input.words.now in
    let at = k.place.at in
    let fresh : is_fresh ws at ≡ true = c.in_ok-check_fresh.ensures in
    ap (λ (f : Bool). late f (ok c.in_ok-typed.typed)) (sym fresh)
    ∙ ap (late (is_fresh ws at)) c.in_ok-typed.ensures
    ∙ type_late ws k.tables.types.now ms k.tables.alignments.now at (is_fresh ws at) k.whole k.rows e (opcode ws at)
