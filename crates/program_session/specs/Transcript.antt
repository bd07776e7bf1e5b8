-- The transcript of a session: from the bytes of the input to the bytes of the output.
-- Assumes nothing.
use Rattle.std.specs.Prelude.{◌≡◌, Bool, true, false, cond, List, [], ◌∷◌, ◌++◌, ℕ, ◌+◌, ◌%◌, ◌≤◌, eqb, ltb, length, Option, IfSome, ⊤}
use Rattle.std.specs.Io.KnownBytes.{Appends}
use Rattle.program_input.specs.declared.ReadError.TheVariants as error
use Rattle.program_output.specs.declared.Stop.TheVariants as stop
use Rattle.program_commands.specs.declared.State.{State}
use Rattle.program_commands.specs.declared.State.TheVariants as state
use Rattle.program_commands.specs.Commands.{stopped, stop_bytes}
use Rattle.program_answers.specs.Answered.{Held, Answered, begun, with_session, answered}

-- ---- the lines of the input, each up to a newline, 10; `front` is what stands of the first line already
unfoldable pub lines_after : (front : List ℕ) → List ℕ → List (List ℕ)
lines_after front [] = []
lines_after front (b ∷ bytes) = cond (eqb b 10) (front ∷ lines_after [] bytes) (lines_after (front ++ (b ∷ [])) bytes)

abbrev pub lines : List ℕ → List (List ℕ)
lines bytes = lines_after [] bytes

-- the bytes after the last newline
unfoldable pub rest_after : (front : List ℕ) → List ℕ → List ℕ
rest_after front [] = front
rest_after front (b ∷ bytes) = cond (eqb b 10) (rest_after [] bytes) (rest_after (front ++ (b ∷ [])) bytes)

abbrev pub rest : List ℕ → List ℕ
rest bytes = rest_after [] bytes

-- ---- a line of more than 65,535 bytes stops the session; any other is answered
abbrev pub too_long : Held → Answered
too_long h = record { held = with_session (stopped (stop.Input error.Long) h.session) h; bytes = [] }

unfoldable pub answered_within : (line : List ℕ) → Held → Answered
answered_within line h = cond (ltb 65535 (length line)) (too_long h) (answered line h)

-- ---- line by line, up to one at which the session stops: only one that reads goes on
abbrev pub stops : State → Bool
stops state.Reading = false
stops state.Ended = true
stops (state.Stopped why) = true

abbrev pub has_stopped : Held → Bool
has_stopped h = stops (h.session.state)

-- the number of the next line, which begins again at 0 after 2 to the 64
abbrev pub next_line : Held → Held
next_line h = with_session (record h.session { line = (h.session.line + 1) % 18446744073709551616 }) h

-- after the first of some lines, and after all of them
abbrev pub unless_stopped : Held → (Held → Held) → Held
unless_stopped h go = cond (has_stopped h) h (go (next_line h))

unfoldable pub after_lines : List (List ℕ) → Held → Held
after_lines [] h = h
after_lines (line ∷ more) h = unless_stopped (answered_within line h).held (after_lines more)

-- what is answered
abbrev pub then_said : Held → (Held → List ℕ) → List ℕ
then_said h go = cond (has_stopped h) [] (go (next_line h))

unfoldable pub said : List (List ℕ) → Held → List ℕ
said [] h = []
said (line ∷ more) h = (answered_within line h).bytes ++ then_said (answered_within line h).held (said more)

-- ---- all that is answered from here on: a newline ends the last line; a session that stops says where and why
abbrev pub all_lines : List ℕ → List (List ℕ)
all_lines bytes = lines (bytes ++ (10 ∷ []))

unfoldable pub transcript_from : Held → List ℕ → List ℕ
transcript_from h bytes = said (all_lines bytes) h ++ stop_bytes (after_lines (all_lines bytes) h).session

abbrev pub transcript : (input : List ℕ) → List ℕ
transcript input = transcript_from begun input

-- ---- how the session ends: with the input, or where it stops
abbrev pub at_end : State → State
at_end state.Reading = state.Ended
at_end state.Ended = state.Ended
at_end (state.Stopped why) = state.Stopped why

unfoldable pub end_from : Held → List ℕ → State
end_from h bytes = at_end ((after_lines (all_lines bytes) h).session.state)

abbrev pub ending : (input : List ℕ) → State
ending input = end_from begun input

-- What a session writes and how it ends, where it is known what its source holds and what was written before. A read or a write that failed ends it
-- too, and the turns are counted, so that an input of 18,446,744,073,709,551,615 bytes or more may not be read to its end.
abbrev pub Tells : State → (was is : Option (List ℕ)) → (input : List ℕ) → Type 0
Tells state.Reading was is input = 18446744073709551615 ≤ length input
Tells state.Ended was is input = Appends was is (transcript input) × (ending input ≡ state.Ended)
Tells (state.Stopped (stop.Input error.Failed)) was is input = ⊤
Tells (state.Stopped why) was is input = Appends was is (transcript input) × (ending input ≡ state.Stopped why)

abbrev pub Answers : State → (source was is : Option (List ℕ)) → Type 0
Answers state source was is = IfSome source (Tells state was is)
