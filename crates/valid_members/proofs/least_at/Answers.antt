use mathlib.Core.Path.{◌≡◌, refl, ◌∙◌, ap}
use Prim.Native.Nat.{ℕ, suc, ◌-◌}
use native.Mathlib.Omega.{arith}
use Rattle.ir_records.specs.Record.{type_inner}
use Rattle.valid_type_info.specs.Verdict.{previous_of}
use Rattle.valid_members_plain.specs.Serving.{least_of}
use Rattle.valid_members.proofs.least_at.Goals as goal

pub returns-then-j-eq0 : goal.returns-then-j-eq0
unfolding previous_of
returns-then-j-eq0 c = rw c.if-j-eq0.true refl

pub least_after-requires : goal.least_after-requires
least_after-requires c =
    let earlier = rw (← c.type_of-t.ensures) at (c.args.s.now.members_earlier (c.args.j - 1) (omega (arith, c.requires, c.if-j-eq0.false))) in
    omega (arith, earlier, c.args.s.now.in_types)

pub returns : goal.returns
unfolding previous_of
returns c =
    let a = c.args in
    let one_more : suc (a.j - 1) ≡ a.j = omega (arith, c.if-j-eq0.false) in
    rw (c.offset_of-offset.ensures, c.type_of-t.ensures) at c.least_after.ensures
    ∙ ap (λ (k : ℕ). least_of a.end (previous_of (type_inner a.s.now.types.now) a.s.now.part.words.now k)) one_more
