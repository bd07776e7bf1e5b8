-- `sheet_counts::Counts::judge` meets its contract: judging what was judged changes no row, and each turn counts the slots of one type more.
-- Assumes nothing.
use mathlib.Core.Path.{◌≡◌, refl, sym, ◌∙◌, ap}
use native.Mathlib.Omega.{arith}
use lib.ListN.{length, length-set}
use Rattle.std.specs.Prelude.{None}
use Rattle.place_report.specs.Report.{report_rows}
use Rattle.valid_arena.specs.Arena.{arena_words}
use Rattle.sheet_counts.specs.Counts.{is_asked, slots_of, Counted}
use Rattle.sheet_counts.proofs.AgainLaws.{rows_stay, report_stays}
use Rattle.sheet_counts.proofs.SlotsLaws.{one_more}
use Rattle.sheet_counts.proofs.Counts.judge.Goals as goal

pub loop-i-init : goal.loop-i-init
loop-i-init c =
    let a = c.args in let ts = a.records.types.now in let ms = a.records.members.now in let was = a.self.now in
    record {
      rows =
          c.report.ensures.rows_after
          ∙ ap (λ x. report_rows a.rule a.capabilities ts ms x was.report) c.judge.ensures.rows_after
          ∙ report_stays a.rule a.capabilities ts ms was.rows was.report;
      report = refl;
      long = refl;
      counted = λ j h l. absurd (omega (arith, h));
    }

pub loop-i-preserved : goal.loop-i-preserved
loop-i-preserved c =
    let a = c.args in let ts = a.records.types.now in let ms = a.records.members.now in
    let inv = c.loop-i.invariant in let s = c.slots_of.ensures in let i = c.loop-i.i in let is = c.slots_of.new.self in
    let words = arena_words a.rule a.capabilities ts ms a.self.now.rows in
    let left = rw inv.rows at s.rows in
    let rows : is.rows ≡ words = left ∙ rows_stay a.rule a.capabilities ts ms a.self.now.rows (is_asked ts words i) in
    let same : is.rows ≡ c.loop-i.self.rows = rows ∙ sym inv.rows in
    let value = s.value ∙ ap (λ r. slots_of a.capabilities a.records r i) (sym same) in
    let before : Counted (slots_of a.capabilities a.records is.rows) i is.slots is.slots = λ j h l. rw (s.slots, same) (inv.counted j h (rw s.slots at l)) in
    let more = one_more (slots_of a.capabilities a.records is.rows) is.slots None c.slots_of.result i value before in
    record {
      rows = rows;
      report = s.report ∙ inv.report;
      long = length-set is.slots i c.slots_of.result ∙ ap length s.slots ∙ inv.long;
      counted = λ j h l. more j h (omega (arith, l, length-set is.slots i c.slots_of.result));
    }
