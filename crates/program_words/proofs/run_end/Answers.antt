-- `program_words::run_end` meets its contract: the run ends at the first byte that fails the test. Assumes nothing.
use Rattle.std.proofs.Common.{◌≡◌, ◌+◌, ◌-◌, ◌∙◌, arith, ap, not, length, take, drop, length-drop, ℕ, rules}
use lib.Seq.{take_all}
use Rattle.std.specs.List.{position}
use Rattle.std.proofs.lemmas.Iterator.{YieldsList-from_slice}
use Rattle.std.proofs.lemmas.Iterator.Search.{position_from_yields_List}
use Rattle.program_words.specs.Words.{run_of}
use Rattle.program_words.proofs.WordLaws.{run_found}
use Rattle.program_words.proofs.run_end.Goals as goal

pub returns-clause-value : goal.returns-clause-value
returns-clause-value g c = λ p tells.
    let a = c.args in
    let rest = drop a.at a.s.now in
    let all : take (length a.s.now - a.at) rest ≡ rest = take_all (length a.s.now - a.at) rest (omega (arith, length-drop a.at a.s.now)) in
    let found : c.position.result ≡ position (λ b. not (p b)) rest =
    position_from_yields_List (λ b. not (p b)) c.position.new.self _ c.position.result c.position.ensures.ran (YieldsList-from_slice rest (c.iter.ensures.rest ∙ all)) (λ x b q k. search (rules, tells)) in
    let n : c.unwrap_or-length.result ≡ run_of p rest = rw (c.unwrap_or-length.ensures, all, found) (run_found p rest) in
    ap (λ (k : ℕ). a.at + k) n
