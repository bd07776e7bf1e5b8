use mathlib.Core.Path.{◌≡◌, refl, sym, ◌∙◌}
use native.Mathlib.Omega.{arith}
use Prim.Native.Nat.{ℕ}
use Rattle.ir_records.specs.Record.{member_count}
use Rattle.ir_records.proofs.RecordLaws.{sourceless_located}
use Rattle.proc_type_alignment.proofs.with_sources.Goals as goal

pub returns-then-sources-eq0 : goal.returns-then-sources-eq0
returns-then-sources-eq0 c =
    let part = c.args.part.now in
    let none = c.requires c.if-sources-eq0.true in
    rw (sourceless_located part (member_count part) none) record { result_value = refl; sources_told = λ e. none }

pub returns-then-sources_located : goal.returns-then-sources_located
returns-then-sources_located c = rw (sym c.sources_located.ensures ∙ c.if-sources_located.true) record { result_value = refl; sources_told = λ e. let z : ◌≡◌ {A = ℕ} 0 1 = cc in absurd (omega arith) }
