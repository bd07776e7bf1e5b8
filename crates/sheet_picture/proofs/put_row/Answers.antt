-- `sheet_picture::put_row` meets its contract: the runs of the row, one after the other. Assumes nothing.
use mathlib.Core.Path.{sym, ◌∙◌}
use mathlib.Core.Logic.{inl, inr}
use Prim.Native.Nat.{◌+◌, ◌-◌}
use Rattle.sheet_output.proofs.WritesLaws.{writes_both, writes_then}
use Rattle.sheet_picture.specs.Picture.{drawn_as, runs_of, runs_text}
use Rattle.sheet_picture.proofs.PictureLaws.{other_told, same_told, drawing_starts, drawing_goes_on, drawing_puts, drawing_ends}
use Rattle.sheet_picture.proofs.put_row.Goals as goal
use Rattle.sheet_picture.proofs.put_row.Goals.{then-next-limit, then-next-limit-via-then-next-limit}
use Rattle.sheet_picture.proofs.put_row.Goals.{then-next-limit-via-else-next-limit+then-ne, else-next-limit+else-ne}

pub loop-b-init : goal.loop-b-init
loop-b-init g c = drawing_starts g.W.Write.contents c.args.t.sheet c.args.t.i c.args.from c.args.limit c.put_with.new.self

pub loop-b-preserved : goal.loop-b-preserved
loop-b-preserved g c =
    let k = g.W.Write.contents in
    let l = c.loop-b in
    let a = c.args in
    let b = l.b in
    let member = drawn_as a.t.sheet a.t.i b in
    let next = drawn_as a.t.sheet a.t.i (b + 1) in
    let here = c.drawn_as-member.ensures in
    elim c.if-next-limit.branch [
      | then-next-limit w ↦
          let put = rw (here, w.gap.ensures) at w.put_run.ensures in
          let puts = drawing_puts k a.t.sheet a.t.i a.from a.limit _ l.out w.put_run.new.out l.start b l.invariant c.loop-b-test.true in
          elim w.then-next-limit.branch [
            | then-next-limit-via-then-next-limit v ↦ rw (w.out-is, w.start-is) (puts (inl v.if-next-limit.true) put)
            | then-next-limit-via-else-next-limit+then-ne v ↦
                let other = rw (v.drawn_as.ensures, here) at (sym v.ne.ensures ∙ v.if-ne.true) in
                rw (w.out-is, w.start-is) (puts (inr (other_told next member other)) put)
          ]
      | else-next-limit+else-ne w ↦
          let alike = same_told next member (rw (w.drawn_as.ensures, here) at (sym w.ne.ensures ∙ w.if-ne.false)) in
          let kept = drawing_goes_on k a.t.sheet a.t.i a.from a.limit _ l.out l.start b l.invariant in
          rw (w.out-is, w.start-is) (kept c.loop-b-test.true w.if-next-limit.false alike)
    ]

pub returns : goal.returns
returns g c =
    let k = g.W.Write.contents in
    let a = c.args in
    let l = c.loop-b in
    let runs = drawing_ends k a.t.sheet a.t.i a.from a.limit _ l.out l.start l.b l.invariant c.loop-b-test.false in
    let row = writes_then k (λ m. runs_text m a.t.sheet a.t.i (runs_of (drawn_as a.t.sheet a.t.i) (a.limit - a.from) a.from)) c.put_with.ensures runs in
    writes_both k row c.put_text.ensures
