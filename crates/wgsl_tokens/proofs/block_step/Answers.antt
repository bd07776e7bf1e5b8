use mathlib.Core.Path.{sym, ◌∙◌}
use native.Mathlib.Omega.{arith}
use Rattle.wgsl_tokens.proofs.GapLaws.{block_bad, block_last, block_closes, block_opens, block_more, closes_inside, opens_inside}
use borrow.Author.Rules.{rules}
use Rattle.wgsl_tokens.proofs.block_step.Goals as goal

pub returns-then-not-is_ascii : goal.returns-then-not-is_ascii
returns-then-not-is_ascii c = block_bad c.args.s.now c.args.at c.requires.0 c.args.depth (sym c.is_ascii.ensures ∙ c.if-not-is_ascii.true)

pub returns-then-depth-eq1 : goal.returns-then-depth-eq1
returns-then-depth-eq1 c =
    let s = c.args.s.now in
    let a = sym c.is_ascii.ensures ∙ c.if-not-is_ascii.false in
    let shut = rw c.byte_at-next.ensures at (sym c.closes_block.ensures ∙ c.if-closes_block.true) in
    let two = closes_inside s c.args.at shut in
    (search rules, omega arith, block_last s c.args.at c.requires.0 c.args.depth a shut c.if-depth-eq1.true)

pub returns-then-closes_block : goal.returns-then-closes_block
returns-then-closes_block c =
    let s = c.args.s.now in
    let a = sym c.is_ascii.ensures ∙ c.if-not-is_ascii.false in
    let shut = rw c.byte_at-next.ensures at (sym c.closes_block.ensures ∙ c.if-closes_block.true) in
    let two = closes_inside s c.args.at shut in
    (search rules, omega arith, search rules, search rules, block_closes s c.args.at c.requires.0 c.args.depth a shut c.if-depth-eq1.false)

pub returns-then-opens_block : goal.returns-then-opens_block
returns-then-opens_block c =
    let s = c.args.s.now in
    let a = sym c.is_ascii.ensures ∙ c.if-not-is_ascii.false in
    let shut = rw c.byte_at-next.ensures at (sym c.closes_block.ensures ∙ c.if-closes_block.false) in
    let opens = rw c.byte_at-next.ensures at (sym c.opens_block.ensures ∙ c.if-opens_block.true) in
    let two = opens_inside s c.args.at opens in
    (search rules, omega arith, search rules, search rules, block_opens s c.args.at c.requires.0 c.args.depth a shut opens)

pub returns : goal.returns
returns c =
    let s = c.args.s.now in
    let a = sym c.is_ascii.ensures ∙ c.if-not-is_ascii.false in
    let shut = rw c.byte_at-next.ensures at (sym c.closes_block.ensures ∙ c.if-closes_block.false) in
    let no_more = rw c.byte_at-next.ensures at (sym c.opens_block.ensures ∙ c.if-opens_block.false) in
    (search rules, search rules, search rules, search rules, block_more s c.args.at c.requires.0 c.args.depth a shut no_more)
