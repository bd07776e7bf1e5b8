-- The answer to a line: the session, its arena and its rows after it, and the bytes that are put.
-- Assumes nothing.
use Rattle.std.specs.Prelude.{List, [], ◌∷◌, ◌++◌, ℕ, ◌+◌, ◌*◌, length, take, drop, replicate, Option, Some, None, Result, Ok, Err}
use Rattle.ir_records.specs.Record.{type_count, struct_members}
use Rattle.ir_records.specs.Fields.{row_words}
use Rattle.ir_records.specs.Outcome.{Outcome}
use Rattle.ir_records.specs.Refusal.{number_of}
use Rattle.ir_records.specs.declared.Refusal.{Refusal}
use Rattle.proc_layouter.specs.Layouter.{layout_answer, layout_words}
use Rattle.valid_type_info.specs.declared.UniformRule.{UniformRule}
use Rattle.valid_arena.specs.Arena.{arena_answer, arena_words}
use Rattle.immediates_ranges.specs.Slots.{range_slots, part_answer}
use Rattle.immediates_slots.specs.Immediates.{slots_answer}
use Rattle.immediates_pass.specs.Pass.{tried, SetRange, Choose, Dispatch}
use Rattle.place_lookup.specs.Answer.{PlaceAnswer}
use Rattle.place_lookup.specs.Answer as found
use Rattle.place_lookup.specs.Place.{lookup_answer}
use Rattle.place_short.specs.Short.{short_lookup, short_words}
use Rattle.place_report.specs.Answer.{ReportAnswer}
use Rattle.place_report.specs.Answer as counted
use Rattle.place_report.specs.Report.{report_width, report_answer, report_rows, report_words}
use Rattle.proc_plain_types.specs.PlainTypes.{PlainAnswer, plain_answer}
use Rattle.proc_plain_types.specs.PlainTypes as plain
use Rattle.order_call.specs.Answer.{OrderAnswer}
use Rattle.order_call.specs.Answer as order
use Rattle.order_call.specs.Call.{Left, ordered}
use Rattle.order_words.specs.Words.{found_words}
use Rattle.program_arguments.specs.declared.Reason.{Reason}
use Rattle.program_lines.specs.Line.{Line, line_in}
use Rattle.program_lines.specs.Line as line
use Rattle.program_lines.specs.declared.Change.{Change}
use Rattle.program_lines.specs.declared.Change.TheVariants as change
use Rattle.program_output.specs.declared.Stop.TheVariants as stop
use Rattle.program_output.specs.Bytes.{ascii, words_line}
use Rattle.program_output.specs.Answers.{refusal_line, outcome_lines, slots_line, place_line, totals_lines, step_line, dispatch_lines}
use Rattle.program_commands.specs.declared.Session.{Session}
use Rattle.program_commands.specs.Commands.{started, part_of, types_held, rows_held, with_pass, stopped, held_after, changed, arena_after}
use Rattle.program_answers.specs.declared.Program.{Program}

-- what a session keeps from line to line
pub record Held : Type 0 where
  pub session : Session
  pub arena : List ℕ
  pub rows : List ℕ

abbrev pub held : Program → Held
held p = record { session = p.session; arena = p.arena; rows = p.rows }

-- before the first line: the started session, and zeros
abbrev pub begun : Held
begun = record { session = started; arena = replicate 22528 0; rows = replicate 14336 0 }

-- what is held after a line, and the bytes of its answer
pub record Answered : Type 0 where
  pub held : Held
  pub bytes : List ℕ

-- ---- parts of what is held
-- the types and the member rows of the arena, which hold its first words and those from word 6144 on
abbrev pub types_of : Held → List ℕ
types_of h = part_of h.arena 0 h.session.types

abbrev pub members_of : Held → List ℕ
members_of h = part_of h.arena 6144 h.session.members

-- of rows, those of the types that the arena holds
abbrev pub own_rows : Held → (rows : List ℕ) → List ℕ
own_rows h rows = part_of rows 0 (type_count (types_of h) * row_words)

-- what is held with other rows, or with another session
abbrev pub with_rows : List ℕ → Held → Held
with_rows rows h = record h { rows = rows }

abbrev pub with_session : Session → Held → Held
with_session session h = record h { session = session }

-- ---- refusals
-- the line of a refusal
abbrev pub line_for : Refusal → List ℕ
line_for r = refusal_line (number_of r.fault) r.ty r.member r.detail

-- what is asked by the uniform rule: a rule that is none is refused with its refusal, and nothing changes
abbrev pub by_rule_or : Result UniformRule Refusal → Held → (UniformRule → Answered) → Answered
by_rule_or (Ok rule) h answer = answer rule
by_rule_or (Err refusal) h answer = record { held = h; bytes = line_for refusal }

abbrev pub by_rule : Held → (UniformRule → Answered) → Answered
by_rule h answer = by_rule_or h.session.rule h answer

-- ---- changes, which put no bytes
-- a setting or a record of a line
abbrev pub after_change : Change → Held → Answered
after_change c h = record { held = record { session = changed c h.session; arena = arena_after c h.session h.arena; rows = h.rows }; bytes = [] }

-- a line that cannot be read stops the session
abbrev pub after_stop : Reason → Held → Answered
after_stop reason h = record { held = with_session (stopped (stop.Line reason) h.session) h; bytes = [] }

-- a line with no word
abbrev pub unchanged : Held → Answered
unchanged h = record { held = h; bytes = [] }

-- ---- queries
-- an answer with the rows that it leaves: of an accepted arena the rows of its types are put, and else the refusal
abbrev pub with_outcome : Held → Outcome → (rows : List ℕ) → Answered
with_outcome h outcome rows = record { held = with_rows rows h; bytes = outcome_lines outcome (own_rows h rows) }

-- the layout, by no rule
unfoldable pub after_layout : Held → Answered
after_layout h = with_outcome h (layout_answer (types_of h) (members_of h) h.rows) (layout_words (types_of h) (members_of h) h.rows)

-- what the arena check leaves in the rows
abbrev pub rows_by : UniformRule → Held → List ℕ
rows_by rule h = arena_words rule h.session.capabilities (types_of h) (members_of h) h.rows

-- judging answers as the arena check does
unfoldable pub after_check : Held → Answered
after_check h = by_rule h (λ rule. with_outcome h (arena_answer h.session.capabilities (types_of h) (members_of h) h.rows) (rows_by rule h))

-- the member rows of a struct
unfoldable pub after_members : (ty : ℕ) → Held → Answered
after_members ty h = record { held = h; bytes = words_line (ascii "members") (struct_members (types_of h) (members_of h) ty) }

-- the slots of a type from an offset on
unfoldable pub after_slots : (ty offset : ℕ) → Held → Answered
after_slots ty offset h =
    by_rule h
    (λ rule.
    record {
      held = with_rows (rows_by rule h) h;
      bytes = slots_line (slots_answer h.session.capabilities (types_of h) (members_of h) h.rows ty offset);
    })

-- the slots of a range, by no arena
unfoldable pub after_range : (offset size : ℕ) → Held → Answered
after_range offset size h = record { held = h; bytes = slots_line (part_answer (range_slots offset size)) }

-- the byte and the leaf that steps lead to
abbrev pub place_bytes : PlaceAnswer → List ℕ
place_bytes (found.Found byte leaf) = place_line byte leaf
place_bytes (found.Refused number ty member detail) = refusal_line number ty member detail

-- by the rows
unfoldable pub after_place : (start : ℕ) (steps : List ℕ) → Held → Answered
after_place start steps h =
    by_rule h
    (λ rule.
    record {
      held = with_rows (rows_by rule h) h;
      bytes = place_bytes (lookup_answer h.session.capabilities (types_of h) (members_of h) h.rows start steps);
    })

-- by three words a type, which take the first words of the rows: no rule is asked, but one that is none is refused
unfoldable pub after_short : (start : ℕ) (steps : List ℕ) → Held → Answered
after_short start steps h =
    by_rule h
    (λ _.
    record {
      held = with_rows (short_words h.session.capabilities (types_of h) (members_of h) h.rows) h;
      bytes = place_bytes (short_lookup h.session.capabilities (types_of h) (members_of h) h.rows start steps);
    })

-- the totals, and then two words of the report for each type
abbrev pub report_bytes : ReportAnswer → List ℕ → List ℕ
report_bytes (counted.Totals carried wasted) report = totals_lines carried wasted report
report_bytes (counted.Refused number ty member detail) report = refusal_line number ty member detail

-- the report begins with zeros
abbrev pub no_report : List ℕ
no_report = replicate 2048 0

-- its words of the types that the arena holds
abbrev pub own_report : Held → List ℕ
own_report h =
    part_of (report_words h.session.capabilities (types_of h) (members_of h) h.rows no_report) 0 (type_count (types_of h) * report_width)

unfoldable pub after_report : Held → Answered
after_report h =
    by_rule h
    (λ rule.
    record {
      held = with_rows (report_rows rule h.session.capabilities (types_of h) (members_of h) h.rows no_report) h;
      bytes = report_bytes (report_answer h.session.capabilities (types_of h) (members_of h) h.rows no_report) (own_report h);
    })

-- a plain type, by no arena
abbrev pub plain_bytes : PlainAnswer → List ℕ
plain_bytes (plain.Found size alignment step) = words_line (ascii "plain") (size ∷ alignment ∷ step ∷ [])
plain_bytes (plain.Refused number ty member detail) = refusal_line number ty member detail

unfoldable pub after_plain : (shape width : ℕ) → Held → Answered
after_plain shape width h = record { held = h; bytes = plain_bytes (plain_answer shape width) }

-- ---- steps of the pass, which a refused one leaves
-- the slots that are set then
unfoldable pub after_set : (offset size : ℕ) → Held → Answered
after_set offset size h =
    let t = tried h.session.pass (SetRange offset size) in
    record { held = with_session (with_pass t.pass h.session) h; bytes = step_line (ascii "set") t.pass.set t.outcome }

-- a pipeline is chosen by its type: the slots that it needs
unfoldable pub after_choose : (ty : ℕ) → Held → Answered
after_choose ty h =
    let t = tried h.session.pass (Choose h.session.capabilities (types_of h) (members_of h) h.rows ty) in
    by_rule h
    (λ rule.
    record {
      held = record { session = with_pass t.pass h.session; arena = h.arena; rows = rows_by rule h };
      bytes = step_line (ascii "needs") t.pass.needed t.outcome;
    })

-- whether the pass may be dispatched, or the slots that are missing
unfoldable pub after_run : Held → Answered
after_run h = let t = tried h.session.pass Dispatch in record { held = h; bytes = dispatch_lines t.outcome t.missing }

-- ---- orders
-- the arena that a call leaves: the types and then the members
abbrev pub arena_left : Left → List ℕ
arena_left left = left.types ++ left.members

-- a struct that is found is one type more, with its member rows, and is put with the places of its members
abbrev pub with_order : (given : List ℕ) → Held → Left → OrderAnswer → Answered
with_order given h left (order.Found ty span number) =
    record {
      held = record {
        session = held_after (types_held h.session) (rows_held h.session) (length given) h.session;
        arena = arena_left left;
        rows = left.rows;
      };
      bytes = words_line (ascii "order") (part_of (found_words (length given) (order.Found ty span number)) 0 (length given + 2));
    }
with_order given h left (order.Refused number ty member detail) =
    record { held = record { session = h.session; arena = arena_left left; rows = left.rows }; bytes = refusal_line number ty member detail }

-- an order over the types and the members of an arena, of which n and m are held
abbrev pub left_in : UniformRule → (c : ℕ) (arena : List ℕ) (n m : ℕ) (rows given : List ℕ) (span : ℕ) → Left
left_in rule c arena n m rows given span = ordered rule c (take 6144 arena) n (drop 6144 arena) m rows given span

abbrev pub left_by : UniformRule → (span : ℕ) (given : List ℕ) → Held → Left
left_by rule span given h = left_in rule h.session.capabilities h.arena (types_held h.session) (rows_held h.session) h.rows given span

-- a struct of the types that are given, in their first order that has at most this span
unfoldable pub after_order : (span : ℕ) (given : List ℕ) → Held → Answered
after_order span given h = by_rule h (λ rule. with_order given h (left_by rule span given h) (left_by rule span given h).answer)

-- ---- a line that is read
abbrev pub after_line : Line → Held → Answered
after_line (line.Capabilities word) h = after_change (change.Capabilities word) h
after_line (line.Rule word) h = after_change (change.Rule word) h
after_line (line.TypeRecord kind a b c d e) h = after_change (change.TypeRecord (record { kind = kind; a = a; b = b; c = c; d = d; e = e })) h
after_line (line.MemberRecord ty offset location source) h =
    after_change (change.MemberRecord (record { ty = ty; offset = offset; location = location; source = source })) h
after_line line.Pass h = after_change change.Pass h
after_line line.Clear h = after_change change.Clear h
after_line line.Layout h = after_layout h
after_line line.Judge h = after_check h
after_line line.Check h = after_check h
after_line (line.Members ty) h = after_members ty h
after_line (line.Slots ty offset) h = after_slots ty offset h
after_line (line.Range offset size) h = after_range offset size h
after_line (line.Place start steps) h = after_place start steps h
after_line (line.Short start steps) h = after_short start steps h
after_line line.Report h = after_report h
after_line (line.Plain shape width) h = after_plain shape width h
after_line (line.SetRange offset size) h = after_set offset size h
after_line (line.Choose ty) h = after_choose ty h
after_line line.Run h = after_run h
after_line (line.Order span given) h = after_order span given h

-- ---- a line of bytes: with no word it changes nothing, and one that cannot be read stops the session
abbrev pub after_reading : Result (Option Line) Reason → Held → Answered
after_reading (Ok None) h = unchanged h
after_reading (Ok (Some read)) h = after_line read h
after_reading (Err reason) h = after_stop reason h

unfoldable pub answered : (line : List ℕ) → Held → Answered
answered bytes h = after_reading (line_in bytes) h
