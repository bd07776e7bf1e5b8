-- `sheet_structs::Form::put_start` meets its contract: one after the other. Assumes nothing.
use Rattle.sheet_output.specs.Written.{lent}
use Rattle.sheet_output.proofs.WritesLaws.{writes_both, writes_then}
use Rattle.sheet_types.specs.Text.{file_text}
use Rattle.sheet_structs.proofs.Form.put_start.Goals as goal

pub returns-in-Text : goal.returns-in-Text
returns-in-Text g c =
    let k = g.W.Write.contents in
    let named = writes_then k (λ m. file_text m (lent c.args.name)) c.put_text.ensures c.put_file.ensures in
    rw c.in-Text.is (writes_both k named c.put_text-in-Text.ensures)

pub returns-in-C : goal.returns-in-C
returns-in-C g c = rw c.in-C.is c.put_text-in-C.ensures

pub returns-in-Rust : goal.returns-in-Rust
returns-in-Rust g c = rw c.in-Rust.is c.put_text-in-Rust.ensures

pub returns-in-Page : goal.returns-in-Page
returns-in-Page g c =
    let k = g.W.Write.contents in
    let named = writes_then k (λ m. file_text m (lent c.args.name)) c.put_text-in-Page.ensures c.put_file-in-Page.ensures in
    rw c.in-Page.is (writes_both k named c.put_text-in-Page-2.ensures)
