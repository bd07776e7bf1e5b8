-- `sheet_names::from_text` meets its contract. The invariant: the tokens that are left give what all do. Assumes nothing.
use Rattle.std.proofs.Common.{refl, subst, Ok}
use Rattle.wgsl_tokens.specs.Lexed.{LexedAt}
use Rattle.sheet_names.proofs.WalkLaws.{walk_starts, walk_goes, walk_ends}
use Rattle.sheet_names.proofs.NameLaws.{text_named}
use Rattle.sheet_names.proofs.from_text.Goals as goal

pub loop-token-init : goal.loop-token-init
loop-token-init c = rw (c.into_iter-token-iterator.ensures.into_iter_gives, c.new-walk.ensures) (refl, walk_starts c.args.text c.args.types)

pub loop-token-preserved : goal.loop-token-preserved
loop-token-preserved c =
    let l = c.loop-token in
    let s = c.in-Some.ensures.steps in
    let here = subst (λ text. LexedAt text l.token-iterator.at (Ok c.in-Some.token)) l.invariant.0 s.0 in
    rw (s.1, s.2, c.pass_token.ensures)
    (l.invariant.0, walk_goes c.args.text.now c.args.types.now l.walk l.token-iterator.at c.in-Some.token here l.invariant.1)

pub returns-clause-places : goal.returns-clause-places
returns-clause-places c =
    let l = c.loop-token in
    let over = rw l.invariant.0 at c.in-None.ensures.steps.1 in
    walk_ends c.args.text.now c.args.types.now l.walk l.token-iterator.at over l.invariant.1

pub returns-clause-named : goal.returns-clause-named
returns-clause-named c =
    let places = returns-clause-places c in
    text_named c.args.text.now c.args.types.now places.0 c.loop-token.walk.names places.1 places.2
