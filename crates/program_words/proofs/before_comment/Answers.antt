use native.Mathlib.Omega.{arith}
use borrow.Author.Rules.{rules}
use mathlib.Core.Path.{◌≡◌}
use Rattle.program_words.specs.Words.{in_text, run_of, before_comment}
use Rattle.program_words.proofs.before_comment.Goals as goal

pub returns : goal.returns
unfolding before_comment
returns c =
    let e : c.run_end-end.result ≡ run_of in_text c.args.line.now = omega (arith, c.run_end-end.ensures.value in_text (λ b r told. search rules)) in
    rw e
