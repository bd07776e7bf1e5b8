-- `wgsl_tokens::line_end` meets its contract. The invariant: the tokens from `at` on are those from i on. Assumes nothing.
use mathlib.Core.Path.{◌≡◌, sym, ◌∙◌}
use native.Mathlib.Omega.{arith}
use lib.ListN.{length}
use Rattle.wgsl_tokens.proofs.GapLaws.{line_ends, line_more, line_bad, line_done}
use borrow.Author.Rules.{rules}
use Rattle.wgsl_tokens.proofs.line_end.Goals as goal

pub returns-then-not-is_ascii : goal.returns-then-not-is_ascii
returns-then-not-is_ascii c =
    let l = c.loop-i in
    let b = line_bad c.args.s.now l.i c.loop-i-test.true (sym c.is_ascii.ensures ∙ c.if-not-is_ascii.true) in
    (b.0, l.invariant ∙ b.1)

pub returns-then-ends_line : goal.returns-then-ends_line
returns-then-ends_line c =
    let l = c.loop-i in
    let t = c.loop-i-test.true in
    (search rules, search rules, l.invariant ∙ line_ends c.args.s.now l.i t (sym c.is_ascii.ensures ∙ c.if-not-is_ascii.false) (sym c.ends_line.ensures ∙ c.if-ends_line.true))

pub loop-i-preserved : goal.loop-i-preserved
loop-i-preserved c =
    let l = c.loop-i in
    let t = c.loop-i-test.true in
    l.invariant ∙ line_more c.args.s.now l.i t (sym c.is_ascii.ensures ∙ c.if-not-is_ascii.false) (sym c.ends_line.ensures ∙ c.if-ends_line.false)

pub returns : goal.returns
returns c =
    let l = c.loop-i in
    let s = c.args.s.now in
    let all : l.i ≡ length s = omega arith in
    (search rules, search rules, rw all at (l.invariant ∙ line_done s l.i c.loop-i-test.false))
