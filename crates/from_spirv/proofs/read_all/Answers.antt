-- `from_spirv::read_all` meets its contract: what came is held after what was held. Assumes nothing.
use mathlib.Core.Path.{◌≡◌, refl}
use Rattle.std.specs.Prelude.{Ok, Err}
use Rattle.std.proofs.Common.{rules, arith}
use Rattle.from_spirv.proofs.HeldLaws.{held_none, held_more, held_on}
use Rattle.from_spirv.proofs.read_all.Goals as goal

pub loop-now-init : goal.loop-now-init
loop-now-init g c = (omega arith, refl, held_none (g.S.Read.remaining c.args.source.now) c.args.words.now)

pub returns-in_err-now-clause-words : goal.returns-in_err-now-clause-words
returns-in_err-now-clause-words g c =
    let l = c.loop-now in
    let left = g.S.Read.remaining in
    let now = c.read_more.new in
    let e = c.in_err-now.field-0.0 in
    let same : c.from_residual.result ≡ Err e = search rules in
    rw same
    (held_more (left c.args.source.now) (left l.source) (left now.source) c.args.words.now l.words now.words l.held l.invariant.1 l.invariant.2
    (Err e) c.in_err-now.ensures.words)

pub returns-then-now-held-clause-words : goal.returns-then-now-held-clause-words
returns-then-now-held-clause-words g c =
    let l = c.loop-now in
    let left = g.S.Read.remaining in
    let now = c.read_more.new in
    held_more (left c.args.source.now) (left l.source) (left now.source) c.args.words.now l.words now.words l.held l.invariant.1 l.invariant.2
    (Ok c.in_ok-now.now) c.in_ok-now.ensures.words

pub loop-now-preserved : goal.loop-now-preserved
loop-now-preserved g c =
    let l = c.loop-now in
    let left = g.S.Read.remaining in
    let now = c.read_more.new in
    let held =
    held_more (left c.args.source.now) (left l.source) (left now.source) c.args.words.now l.words now.words l.held l.invariant.1 l.invariant.2
    (Ok c.in_ok-now.now) c.in_ok-now.ensures.words in
    (search rules, search rules, held_on (left c.args.source.now) (left now.source) c.args.words.now now.words c.in_ok-now.now held)
