-- `wgsl_structs::read_declarations` meets its contract. The invariant: the declarations that are left give what all give, and behind the records nothing
-- changes. Assumes nothing.
use Rattle.std.proofs.lemmas.Result.{err_from_is_err_and}
use Rattle.std.proofs.Common.{◌≡◌, ◌+◌, ◌-◌, length, sym, ap, ◌∙◌, arith}
use Rattle.wgsl_structs.specs.Structs.{declarations_of}
use Rattle.wgsl_structs.specs.Serving.{declarations, declared_in, Declarations, first}
use Rattle.wgsl_structs.proofs.StructLaws.{declarations_step, state_both}
use Rattle.wgsl_structs.proofs.read_declarations.Goals as goal

pub returns-in_default : goal.returns-in_default
returns-in_default c =
    let l = c.loop-turn in
    let s = c.args.s.now in
    let mid = declarations l.structs l.names l.types l.members in
    let step = declarations_step (length s) (length s + 1) l._turn c.args.room (declared_in s mid l.state) c.loop-turn-test.true in
    let t = rw c.in_default.is at c.in_ok-read.ensures in (
      rw (ap (λ (x : Declarations). declared_in s x l.state) t.1) (sym l.invariant.0 ∙ step ∙ rw t.0),
      rw t.1 l.invariant.1,
      rw t.1 l.invariant.2,
    )

pub returns-in_err-read : goal.returns-in_err-read
returns-in_err-read c =
    let l = c.loop-turn in
    let s = c.args.s.now in
    let mid = declarations l.structs l.names l.types l.members in
    let step = declarations_step (length s) (length s + 1) l._turn c.args.room (declared_in s mid l.state) c.loop-turn-test.true in
    let p = err_from_is_err_and c.from_residual.result c.from_residual.ensures.1 in
    rw (p.1, p.2) (sym l.invariant.0 ∙ step ∙ rw c.in_err-read.ensures)

pub loop-turn-preserved : goal.loop-turn-preserved
loop-turn-preserved c =
    let l = c.loop-turn in
    let s = c.args.s.now in
    let mid = declarations l.structs l.names l.types l.members in
    let step = declarations_step (length s) (length s + 1) l._turn c.args.room (declared_in s mid l.state) c.loop-turn-test.true in
    let was = declarations c.args.structs.now c.args.names.now c.args.types.now c.args.members.now in
    let is = declarations c.declaration_at.new.structs c.declaration_at.new.names c.declaration_at.new.types c.declaration_at.new.members in
    let t = rw c.in-Some.is at c.in_ok-read.ensures in (
      sym (sym l.invariant.0 ∙ step ∙ rw t.0),
      t.1,
      state_both was mid is first l.state c.in-Some.next l.invariant.2 t.2,
    )

pub returns : goal.returns
unfolding declarations_of
returns c =
    let l = c.loop-turn in
    let none_left : length c.args.s.now + 1 - l._turn ≡ 0 = omega (arith, c.loop-turn-test.false) in
    rw c.of.ensures (sym (rw none_left at l.invariant.0))
