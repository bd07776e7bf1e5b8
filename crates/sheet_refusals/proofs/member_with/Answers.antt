-- `sheet_refusals::member_with` meets its contract: the searches go over the rows and the structs in their order. Assumes nothing.
use Rattle.std.proofs.Common.{rules, refl, sym, ◌∙◌, ap, arith, leb, ℕ, Bool}
use Rattle.std.proofs.lemmas.Iterator.{YieldsList-from_range}
use Rattle.std.proofs.lemmas.Iterator.Search.{find_from_yields_List}
use Rattle.ir_records.specs.Record.{member_type}
use Rattle.sheet_refusals.specs.Named.{has_row, part_of, part_at}
use Rattle.sheet_names.proofs.SearchLaws.{found_between}
use Rattle.sheet_refusals.proofs.member_with.Goals as goal

pub returns-in_err-row : goal.returns-in_err-row
returns-in_err-row c =
    let s = c.args.sheet in
    let test : ℕ → Bool = λ row. leb c.args.ty (member_type s.members.now row) in
    let row = found_between test 0 4096 c.find.result
    (find_from_yields_List test _ _ c.find.result c.find.ensures.ran (YieldsList-from_range 0 4096 4096 refl (omega arith)) (λ x b q k. search rules)) in
    rw c.from_residual.ensures (ap (part_of s.types.now) (sym row ∙ c.in_err-row.was))

pub returns-in_err-i : goal.returns-in_err-i
returns-in_err-i c =
    let s = c.args.sheet in
    let test : ℕ → Bool = λ row. leb c.args.ty (member_type s.members.now row) in
    let row = found_between test 0 4096 c.find.result
    (find_from_yields_List test _ _ c.find.result c.find.ensures.ran (YieldsList-from_range 0 4096 4096 refl (omega arith)) (λ x b q k. search rules)) in
    let has : ℕ → Bool = λ i. has_row s.types.now i c.in_ok-row.row in
    let struct = found_between has 0 1024 c.find-2.result
    (find_from_yields_List has _ _ c.find-2.result c.find-2.ensures.ran (YieldsList-from_range 0 1024 1024 refl (omega arith)) (λ x b q k. search rules)) in
    rw c.from_residual-in_err-i.ensures
    (ap (part_of s.types.now) (sym row ∙ c.in_ok-row.was) ∙ ap (part_at s.types.now c.in_ok-row.row) (sym struct ∙ c.in_err-i.was))

pub returns : goal.returns
returns c =
    let s = c.args.sheet in
    let test : ℕ → Bool = λ row. leb c.args.ty (member_type s.members.now row) in
    let row = found_between test 0 4096 c.find.result
    (find_from_yields_List test _ _ c.find.result c.find.ensures.ran (YieldsList-from_range 0 4096 4096 refl (omega arith)) (λ x b q k. search rules)) in
    let has : ℕ → Bool = λ i. has_row s.types.now i c.in_ok-row.row in
    let struct = found_between has 0 1024 c.find-2.result
    (find_from_yields_List has _ _ c.find-2.result c.find-2.ensures.ran (YieldsList-from_range 0 1024 1024 refl (omega arith)) (λ x b q k. search rules)) in
    let m = c.member.ensures in
    let t = c.type_at-t.ensures in
    rw (m.of, m.j, c.saturating_sub.ensures, c.word.ensures, t.sheet, t.i)
    (ap (part_of s.types.now) (sym row ∙ c.in_ok-row.was) ∙ ap (part_at s.types.now c.in_ok-row.row) (sym struct ∙ c.in_ok-i.was), refl)
