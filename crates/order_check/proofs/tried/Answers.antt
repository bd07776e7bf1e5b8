-- `order_check::tried` meets its contract: what is put back is what was kept. Assumes nothing.
use mathlib.Core.Path.{◌≡◌, refl, sym, ap, ◌∙◌}
use mathlib.Core.List.{List}
use Prim.Native.Nat.{ℕ, ◌+◌, ◌-◌, ◌*◌, ◌≤◌}
use native.Mathlib.Omega.{arith}
use borrow.Rule.Slice.PartMut.{put_mid}
use lib.ListN.{length, take, drop, replicate, length-drop}
use lib.Seq.{length-take-le}
use Rattle.std.proofs.Common.{rules}
use Rattle.std.specs.List.{between}
use Rattle.std.proofs.lemmas.List.{drop-take}
use Rattle.std.proofs.lemmas.Slice.{between_is, between_from_start}
use Rattle.order_numbers.specs.Order.{member_at}
use Rattle.order_struct.specs.Struct.{struct_record, member_rows}
use Rattle.order_struct.proofs.PutLaws.{rows_length}
use Rattle.order_check.proofs.KeepLaws.{refused-kept, front-kept, restored}
use Rattle.order_check.proofs.tried.Goals as goal

pub returns-then-is_err-clause-types_after : goal.returns-then-is_err-clause-types_after
returns-then-is_err-clause-types_after c =
    let a = c.args in
    let types = a.types.now in
    let at = a.n * 6 in
    let h : at + 6 ≤ length types = c.requires.type_in_bounds in
    let words = c.copy_from_slice-then-is_err.new.self in
    let kept : words ≡ take 6 (drop at types) = c.copy_from_slice-then-is_err.ensures.after ∙ c.copy_from_slice.ensures.after ∙ between_is types at (at + 6) ∙ drop-take at 6 types in
    let some : at + 6 - at ≡ 6 = omega arith in
    ap (λ (x : List ℕ). put_mid at (at + 6 - at) x words) c.put_struct.ensures.types_after
    ∙ restored types (struct_record a.m a.order.n a.span) words at 6 (at + 6 - at) some refl h kept
    ∙ sym (refused-kept c.check-checked.result _ types (sym c.is_err.ensures.value ∙ c.if-is_err.true))

pub returns-then-is_err-clause-members_after : goal.returns-then-is_err-clause-members_after
returns-then-is_err-clause-members_after c =
    let a = c.args in
    let members = a.members.now in
    let at = a.m * 4 in
    let n = a.order.n * 4 in
    let h : at + n ≤ length members = omega (arith, c.requires.rows_in_bounds) in
    let copied = c.copy_from_slice-2.new.self in
    let first : copied ≡ take n (drop at members) = c.copy_from_slice-2.ensures.after ∙ between_is members at (at + n) ∙ drop-take at n members in
    let long : length copied ≡ n = rw first (length-take-le n (drop at members) (rw length-drop (omega arith))) in
    let words = c.copy_from_slice-then-is_err-2.new.self in
    let was : words ≡ between 0 n (put_mid 0 n (replicate 28 0) copied) = search rules in
    let kept : words ≡ take n (drop at members) = was ∙ between_from_start (put_mid 0 n (replicate 28 0) copied) n ∙ front-kept (replicate 28 0) copied n n long ∙ first in
    let some : at + n - at ≡ n = omega arith in
    ap (λ (x : List ℕ). put_mid at (at + n - at) x words) c.put_struct.ensures.members_after
    ∙ restored members (member_rows a.rows.now a.wanted.now a.order.n (member_at a.order.n a.order.number)) words at n (at + n - at) some (rows_length a.rows.now a.wanted.now (member_at a.order.n a.order.number) a.order.n) h kept
    ∙ sym (refused-kept c.check-checked.result _ members (sym c.is_err.ensures.value ∙ c.if-is_err.true))
