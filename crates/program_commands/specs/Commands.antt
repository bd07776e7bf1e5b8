-- The state of a session, and what a line makes of it and of the arena.
-- Assumes nothing.
use Rattle.std.specs.Prelude.{Bool, true, false, List, [], ◌∷◌, ℕ, ◌+◌, ◌-◌, ◌*◌, ◌/◌, ltb, length, take, drop, Option, Some, None, Ok}
use Rattle.std.proofs.lemmas.List.Edits.{sets}
use Rattle.ir_records.specs.Result.{pick}
use Rattle.valid_type_info.specs.declared.UniformRule.TheVariants.{Older}
use Rattle.valid_rule_word.specs.RuleWord.{named}
use Rattle.immediates_pass.specs.Pass.{begin}
use Rattle.immediates_pass.specs.declared.Pass.{Pass}
use Rattle.program_input.specs.declared.ReadError.TheVariants as error
use Rattle.program_lines.specs.declared.Change.{Change}
use Rattle.program_lines.specs.declared.Change.TheVariants as change
use Rattle.program_output.specs.declared.Stop.{Stop}
use Rattle.program_output.specs.declared.Stop.TheVariants as stop
use Rattle.program_output.specs.Answers.{stop_line}
use Rattle.program_commands.specs.declared.State.{State}
use Rattle.program_commands.specs.declared.State.TheVariants as state
use Rattle.program_commands.specs.declared.Session.{Session}

-- nothing is set, the arena is empty, line 1
abbrev pub started : Session
started = record { capabilities = 0; rule = Ok Older; types = 0; members = 6144; pass = begin; line = 1; state = state.Reading }

-- the words from start up to end; none where they are not all there
unfoldable pub part_of : List ℕ → (start end : ℕ) → List ℕ
part_of ws start end = pick (ltb (length ws) end) [] (pick (ltb end start) [] (take (end - start) (drop start ws)))

-- how many types and how many member rows the arena holds
abbrev pub types_held : Session → ℕ
types_held s = pick (ltb 6144 s.types) 0 (s.types / 6)

abbrev pub rows_held : Session → ℕ
rows_held s = pick (ltb 22528 s.members) 0 (pick (ltb s.members 6144) 0 ((s.members - 6144) / 4))

-- ---- the session with some fields changed
abbrev pub with_capabilities : ℕ → Session → Session
with_capabilities n s = record s { capabilities = n }

abbrev pub with_rule : ℕ → Session → Session
with_rule n s = record s { rule = named n }

abbrev pub with_tables : (types members : ℕ) → Session → Session
with_tables types members s = record s { types = types; members = members }

abbrev pub with_pass : Pass → Session → Session
with_pass p s = record s { pass = p }

abbrev pub stopped : Stop → Session → Session
stopped why s = record s { state = state.Stopped why }

-- empty, with capability word 0 and the older rule; the pass stays
abbrev pub cleared : Session → Session
cleared s = record s { capabilities = 0; rule = Ok Older; types = 0; members = 6144 }

-- ---- a record more behind those of a table that ends at `limit` at the latest
unfoldable pub end_after : (limit more end : ℕ) → Option ℕ
end_after limit more end = pick (ltb (limit - more) end) None (Some (end + more))

unfoldable pub appended : (limit : ℕ) → List ℕ → (end : ℕ) → List ℕ → List ℕ
appended limit words end arena = pick (ltb (limit - length words) end) arena (sets arena end words)

-- six words of a type below word 6144, four of a member below word 22528, or the session stops
abbrev pub with_types : Option ℕ → Session → Session
with_types None s = stopped stop.TypesFull s
with_types (Some end) s = with_tables end s.members s

abbrev pub with_members : Option ℕ → Session → Session
with_members None s = stopped stop.MembersFull s
with_members (Some end) s = with_tables s.types end s

-- one type and `more` member rows after n types and m rows
abbrev pub held_after : (n m more : ℕ) → Session → Session
held_after n m more s = with_tables ((n + 1) * 6) (pick (ltb more 8) (6144 + (m + more) * 4) s.members) s

-- ---- what a line makes of the session
abbrev pub changed : Change → Session → Session
changed (change.Capabilities n) s = with_capabilities n s
changed (change.Rule n) s = with_rule n s
changed (change.TypeRecord w) s = with_types (end_after 6144 6 s.types) s
changed (change.MemberRecord m) s = with_members (end_after 22528 4 s.members) s
changed change.Pass s = with_pass begin s
changed change.Clear s = cleared s

-- and of the arena
abbrev pub arena_after : Change → Session → List ℕ → List ℕ
arena_after (change.Capabilities n) s arena = arena
arena_after (change.Rule n) s arena = arena
arena_after (change.TypeRecord w) s arena = appended 6144 (w.kind ∷ w.a ∷ w.b ∷ w.c ∷ w.d ∷ w.e ∷ []) s.types arena
arena_after (change.MemberRecord m) s arena = appended 22528 (m.ty ∷ m.offset ∷ m.location ∷ m.source ∷ []) s.members arena
arena_after change.Pass s arena = arena
arena_after change.Clear s arena = arena

-- ---- the line that says why a session stops, where it does
abbrev pub bytes_at : (line : ℕ) → State → List ℕ
bytes_at line state.Reading = []
bytes_at line state.Ended = []
bytes_at line (state.Stopped why) = stop_line line why

abbrev pub stop_bytes : Session → List ℕ
stop_bytes s = bytes_at s.line s.state

-- ---- after a write of the answers that wait: where it failed the session stops
abbrev pub after_write : Bool → Session → Session
after_write true s = s
after_write false s = stopped (stop.Input error.Failed) s
