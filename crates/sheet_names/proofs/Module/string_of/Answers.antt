-- `sheet_names::Module::string_of` meets its contract: the bytes of its words up to a byte 0. Assumes nothing.
use Rattle.std.proofs.Common.{rules, sym, ◌∙◌, ap, eqb, ℕ, Bool, ◌+◌, ◌*◌}
use Rattle.std.proofs.lemmas.Iterator.{YieldsList-from_slice}
use Rattle.std.proofs.lemmas.Iterator.Search.{position_from_yields_List}
use Rattle.sheet_names.specs.Names.{part_of}
use Rattle.sheet_names.specs.Module.{string_in}
use Rattle.sheet_names.proofs.StringLaws.{until_or_all, string_here}
use Rattle.sheet_names.proofs.Module.string_of.Goals as goal

pub returns : goal.returns
returns c =
    let m = c.args.self in
    let ws = c.in_ok-words.words.now in
    let test : ℕ → Bool = λ b. eqb b 0 in
    let part = c.in_ok-words.ensures.lookup.0 in
    let found = position_from_yields_List test _ _ c.position.result c.position.ensures.ran
    (YieldsList-from_slice ws (c.iter.ensures.rest)) (λ x b q k. search rules) in
    let until = c.unwrap_or-length.ensures ∙ until_or_all test ws c.position.result found in
    let start = c.in_ok-start.ensures.1 ∙ ap (λ (n : ℕ). n * 4) c.in_ok-checked_add.ensures.1 in
    let end = c.in_ok-checked_mul.ensures.1 ∙ ap (λ (n : ℕ). n * 4) (c.in_ok-next.ensures.1 ∙ ap (λ (n : ℕ). c.args.at + n) c.word_count.ensures.0) in
    let here = string_here m.bytes.now c.in_ok-start.start c.in_ok-checked_mul.field-0 ws c.unwrap_or-length.result
    part.0 part.1 part.2 (sym c.if-is_empty.ensures) until in
    here
    ∙ ap (λ (s : ℕ). string_in s (part_of m.bytes.now s c.in_ok-checked_mul.field-0)) start
    ∙ ap (λ (e : ℕ). string_in ((c.args.at + c.args.k) * 4) (part_of m.bytes.now ((c.args.at + c.args.k) * 4) e)) end
