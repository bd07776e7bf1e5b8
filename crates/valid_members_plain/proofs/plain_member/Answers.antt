use mathlib.Core.Path.{◌≡◌, sym, ◌∙◌}
use Rattle.std.proofs.Common.{rules}
use Prim.Native.Nat.{◌+◌}
use native.Mathlib.Omega.{arith}
use Rattle.ir_records.specs.Record.{type_inner}
use Rattle.valid_type_info.specs.TypeInfo.{rows_in}
use Rattle.valid_members_plain.proofs.PlainLaws.{apart, storage_kept, bounds-step, uniform_by, still_failed, storage_step}
use Rattle.valid_members_plain.proofs.plain_member.Goals as goal

pub returns : goal.returns
unfolding rows_in
returns c = λ rule u count j before failed e.
    let a = c.args in
    let fits = c.ranges in
    let row = rows_in a.s.now.before.rows.now a.t in
    let this = type_inner a.s.now.types.now a.t in
    let plain = rw c.word-flags.ensures at (sym c.is_plain.ensures ∙ c.if-not-is_plain.false) in
    let end : c.end_of-end.result ≡ a.offset + row.size = rw c.word.ensures at c.end_of-end.ensures in
    let inside = rw end at c.if-s-end.false in
    let clear = apart a.state.end a.offset a.s.now.before.i j before (rw e c.if-offset-state.false) (omega (arith, fits.offset)) in
    let kept = sym c.keeps.ensures ∙ c.if-not-keeps.false in
    let keeps = storage_kept a.state.uniform row a.offset kept in (
      rw (end, c.both.ensures, c.word-flags.ensures) (bounds-step this row a.s.now.before.i count a.s.now.span j a.t a.offset before a.state plain clear inside (search rules)),
      rw c.uniform_after.ensures (uniform_by this row a.s.now.before.i count a.s.now.span j a.t a.offset before a.state plain a.state.uniform rule u failed clear kept),
      rw c.uniform_after.ensures (still_failed a.state.uniform _ u failed),
      rw (c.max.ensures, c.word-2.ensures) (storage_step this row a.s.now.before.i count a.s.now.span j a.t a.offset before a.state plain keeps.storage_ok keeps.storage),
      keeps.immediates,
      sym c.least_after.ensures,
    )
