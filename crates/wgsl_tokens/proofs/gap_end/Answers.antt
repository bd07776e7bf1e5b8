use mathlib.Core.Path.{sym, ◌∙◌}
use Prim.Native.Nat.{◌+◌}
use native.Mathlib.Omega.{arith}
use lib.ListN.{get_or}
use Rattle.wgsl_tokens.specs.Tokens.{code, line, block, is_blank, opens_line, opens_block}
use Rattle.wgsl_tokens.proofs.GapLaws.{gap_blank, gap_line, gap_block, gap_later, third}
use borrow.Author.Rules.{rules}
use Rattle.wgsl_tokens.proofs.gap_end.Goals as goal

pub returns-then-is_blank : goal.returns-then-is_blank
returns-then-is_blank c = (search rules, search rules, gap_blank c.args.s.now c.args.at c.requires.0 (sym c.is_blank.ensures ∙ c.if-is_blank.true))

pub returns-then-opens_line : goal.returns-then-opens_line
returns-then-opens_line c =
    let s = c.args.s.now in
    let at = c.args.at in
    let b = sym c.is_blank.ensures ∙ c.if-is_blank.false in
    let l = rw c.byte_at-next.ensures at (sym c.opens_line.ensures ∙ c.if-opens_line.true) in
    gap_later (code 0) line s at (at + 1) c.line_end.result (omega arith) (gap_line s at c.requires.0 b l) c.line_end.ensures

pub returns : goal.returns
returns c =
    let s = c.args.s.now in
    let at = c.args.at in
    let b = sym c.is_blank.ensures ∙ c.if-is_blank.false in
    let l = rw c.byte_at-next.ensures at (sym c.opens_line.ensures ∙ c.if-opens_line.false) in
    let o = third (is_blank (get_or s at 0)) (opens_line (get_or s at 0) (get_or s (at + 1) 0)) (opens_block (get_or s at 0) (get_or s (at + 1) 0)) c.requires.1 b l in
    gap_later (code 0) (block 0 1) s at (at + 2) c.block_end.result (omega arith) (gap_block s at c.requires.0 b l o) c.block_end.ensures
