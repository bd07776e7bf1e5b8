-- `spirv_ids::giver_of` meets its contract. The invariant: what is found of those that are left is what is found, and how many types are read before them.
-- Assumes nothing.
use mathlib.Core.Path.{◌≡◌, refl, sym, ◌∙◌}
use mathlib.Core.Bool.{Bool, true, false}
use native.Mathlib.Omega.{arith}
use mir.Val.{bool_byte}
use Rattle.ir_records.specs.Result.{pick}
use Rattle.spirv_words.specs.Module.{opcode, is_read}
use Rattle.spirv_ids.proofs.CountLaws.{counting_starts, counting_few, counting_here, counting_goes, counting_ends}
use Rattle.spirv_ids.proofs.giver_of.Goals as goal

one_is : (b : Bool) → bool_byte b ≡ pick b 1 0
one_is true = refl
one_is false = refl

pub loop-p-init : goal.loop-p-init
loop-p-init c =
    let a = c.args in
    rw c.into_iter-p-iterator.ensures.into_iter_gives (counting_starts a.place.input.words.now a.place.at a.id a.place.input.from a.place.input.gives)

pub returns-then-is_giver : goal.returns-then-is_giver
returns-then-is_giver c =
    let a = c.args in
    counting_here a.place.input.words.now a.place.at a.id _ _ _ (rw c.in-Some.ensures.steps at c.loop-p.invariant) (sym c.is_giver.ensures ∙ c.if-is_giver.true)

pub overflow_add-number : goal.overflow_add-number
overflow_add-number c =
    let a = c.args in
    let few = counting_few a.place.input.words.now a.place.at a.id _ _ _ (rw c.in-Some.ensures.steps at c.loop-p.invariant) in
    let e = rw (c.is_read.ensures, c.opcode_of.ensures) at c.from-number.ensures in
    omega (arith, e, one_is (is_read (opcode a.place.input.words.now c.in-Some.p)), few, a.place.few)

pub loop-p-preserved : goal.loop-p-preserved
loop-p-preserved c =
    let a = c.args in
    let e = rw (c.is_read.ensures, c.opcode_of.ensures) at c.from-number.ensures in
    let n = c.loop-p.number in
    counting_goes a.place.input.words.now a.place.at a.id n c.in-Some.p _ (rw c.in-Some.ensures.steps at c.loop-p.invariant) (sym c.is_giver.ensures ∙ c.if-is_giver.false) _
    (omega (arith, e, one_is (is_read (opcode a.place.input.words.now c.in-Some.p))))

pub returns : goal.returns
returns c =
    let a = c.args in
    counting_ends a.place.input.words.now a.place.at a.id _ (rw c.in-None.ensures.steps.0 at c.loop-p.invariant)
