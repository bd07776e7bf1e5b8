-- What is answered, by what the calls below answered.
-- Assumes nothing.
use mathlib.Core.Path.{◌≡◌, refl, sym, ◌∙◌, ap}
use mathlib.Core.List.{List, []}
use Prim.Native.Nat.{ℕ, ◌+◌}
use lib.ListN.{length}
use Rattle.std.specs.Prelude.{Option, None, Result, Ok, Err}
use Rattle.ir_records.specs.declared.Refusal.{Refusal}
use Rattle.valid_type_info.specs.declared.UniformRule.{UniformRule}
use Rattle.place_report.specs.Report.{report_answer, report_rows}
use Rattle.order_call.specs.Answer.{OrderAnswer, order_answer_of}
use Rattle.order_call.specs.declared.OrderedStruct.{OrderedStruct}
use Rattle.order_words.specs.Words.{found_words}
use Rattle.program_arguments.specs.declared.Reason.{Reason}
use Rattle.program_lines.specs.Line.{Line, line_in}
use Rattle.program_lines.specs.declared.Change.{Change}
use Rattle.program_lines.specs.declared.Change.TheVariants as change
use Rattle.program_lines.specs.Said.{change_said}
use Rattle.program_output.specs.declared.Output.{Output}
use Rattle.program_output.specs.Bytes.{Adds, ascii, words_line, report_lines}
use Rattle.program_commands.specs.declared.Session.{Session}
use Rattle.program_commands.specs.Commands.{part_of, types_held, rows_held, held_after}
use Rattle.program_answers.specs.Answered.{Held, Answered, answered, after_reading, types_of, members_of, with_rows, no_report, own_report, report_bytes, after_report, arena_left, left_by, with_order, after_order, after_change, after_line}

-- the bytes by another name
pub same_bytes : {was is : Output} {x y : List ℕ} → x ≡ y → Adds was x is → Adds was y is
same_bytes e p = rw (sym e) p

pub same_lines : {was is : Output} {report own : List ℕ} → report ≡ own → Adds was (report_lines report) is → Adds was (report_lines own) is
same_lines e p = same_bytes (ap report_lines e) p

-- what a change says
pub change_told : (c : Change) (h : Held) → after_line (change_said c) h ≡ after_change c h
change_told (change.Capabilities word) h = refl
change_told (change.Rule word) h = refl
change_told (change.TypeRecord w) h = refl
change_told (change.MemberRecord m) h = refl
change_told change.Pass h = refl
change_told change.Clear h = refl

-- by the rule of a session
module _ (h : Held) {rule : UniformRule} (e : h.session.rule ≡ Ok rule) where
  pub report_held : (after_report h).held ≡ with_rows (report_rows rule h.session.capabilities (types_of h) (members_of h) h.rows no_report) h
  unfolding after_report
  report_held = rw e refl

  pub report_told : (after_report h).bytes ≡ report_bytes (report_answer h.session.capabilities (types_of h) (members_of h) h.rows no_report) (own_report h)
  unfolding after_report
  report_told = rw e refl

  -- a line that orders, by what the call leaves
  module _ (span : ℕ) (given : List ℕ) where
    order_by : after_order span given h ≡ with_order given h (left_by rule span given h) (left_by rule span given h).answer
    unfolding after_order
    order_by = rw e refl

    abbrev by_call : OrderAnswer → Answered
    by_call o = with_order given h (left_by rule span given h) o

    -- the arena and the rows as the call leaves them
    module _ (arena rows : List ℕ) (all : arena ≡ arena_left (left_by rule span given h)) (w : rows ≡ (left_by rule span given h).rows) where
      abbrev left : Session → Held
      left s = record { session = s; arena = arena_left (left_by rule span given h); rows = (left_by rule span given h).rows }

      kept : (s : Session) → record { session = s; arena = arena; rows = rows } ≡ left s
      kept s = rw (all, w) refl

      pub order_refused : (r : Refusal) → order_answer_of (Err r) ≡ (left_by rule span given h).answer
          → record { session = h.session; arena = arena; rows = rows } ≡ (after_order span given h).held
      order_refused r a = kept h.session ∙ ap (λ (o : OrderAnswer). (by_call o).held) a ∙ sym (ap (λ (x : Answered). x.held) order_by)

      pub order_found : (o : OrderedStruct) (s : Session) → order_answer_of (Ok o) ≡ (left_by rule span given h).answer
          → s ≡ held_after (types_held h.session) (rows_held h.session) (length given) h.session
          → record { session = s; arena = arena; rows = rows } ≡ (after_order span given h).held
      order_found o s a same = kept s ∙ ap left same ∙ ap (λ (o : OrderAnswer). (by_call o).held) a ∙ sym (ap (λ (x : Answered). x.held) order_by)

    pub order_told : (o : OrderedStruct) → order_answer_of (Ok o) ≡ (left_by rule span given h).answer → o.order.n ≡ length given
        → words_line (ascii "order") (part_of (found_words (o.order.n) (order_answer_of (Ok o))) 0 (length given + 2)) ≡ (after_order span given h).bytes
    order_told o a n =
        ap (λ (k : ℕ). words_line (ascii "order") (part_of (found_words k (order_answer_of (Ok o))) 0 (length given + 2))) n
        ∙ ap (λ (o : OrderAnswer). (by_call o).bytes) a
        ∙ sym (ap (λ (x : Answered). x.bytes) order_by)

-- a line that says nothing, and one that cannot be read
module _ (line : List ℕ) (h : Held) where
  pub none_told : Ok None ≡ line_in line → [] ≡ (answered line h).bytes
  unfolding answered
  none_told e = ap (λ (r : Result (Option Line) Reason). (after_reading r h).bytes) e

  pub wrong_told : (reason : Reason) → Err reason ≡ line_in line → [] ≡ (answered line h).bytes
  unfolding answered
  wrong_told reason e = ap (λ (r : Result (Option Line) Reason). (after_reading r h).bytes) e
