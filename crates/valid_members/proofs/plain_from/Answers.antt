use Rattle.ir_records.specs.Record.{type_inner}
use Rattle.valid_type_info.specs.TypeInfo.{rows_in}
use Rattle.valid_type_info.specs.Verdict.{least_for}
use mathlib.Core.Path.{sym}
use Rattle.valid_members.specs.Serving.{alignment_of}
use Rattle.valid_members_plain.specs.Serving.{uniform_so_far}
use Rattle.valid_members.proofs.StateLaws.{plain_before, plain_state}
use Rattle.valid_members.proofs.plain_from.Goals as goal

pub returns : goal.returns
returns c =
    let a = c.args in
    let pre = c.requires in
    let p = c.plain_members-reached in record {
      taken_le_taken = p.ensures.taken_le_taken;
      taken_le_count = p.ensures.taken_le_count;
      taken_value = λ rule e.
          let fits = pre.uniform_value in
          let u = alignment_of a.from.state.uniform in
          let inner = type_inner a.s.now.types.now in
          let rows = rows_in a.s.now.before.rows.now in
          let from = plain_before (least_for rule) inner rows a.s.now.before.i a.s.now.part.count a.s.now.span a.s.now.part.words.now a.from.taken a.from.state (uniform_so_far u a.from.state.uniform) e (sym fits.0) pre.storage_value in
          let after = p.ensures.plain_after rule a.from.state.uniform a.from.state.immediates (rw c.from_state.ensures fits.1) (rw c.from_state.ensures from) in
          rw (c.carried.ensures, c.uniform_so_far-uniform.ensures) (plain_state (least_for rule) inner rows a.s.now.before.i a.s.now.part.count a.s.now.span a.s.now.part.words.now p.result.taken p.result.state (uniform_so_far p.result.state.uniform a.from.state.uniform) a.from.state.immediates after);
    }
