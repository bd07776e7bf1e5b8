-- Serves the contracts of functions inside the library: it adds nothing to what the other files say, and a reader may skip it.
-- Assumes nothing.
use Rattle.std.specs.Prelude.{◌≡◌, Bool, true, false, cond, not, ◌&&◌, List, [], ◌++◌, ℕ, ◌<◌, length, Option, Some, IfSome}
use Rattle.std.specs.Io.KnownBytes.{Appends}
use Rattle.program_input.specs.declared.ReadError.TheVariants as error
use Rattle.program_output.specs.declared.Output.{Output}
use Rattle.program_output.specs.declared.Stop.TheVariants as stop
use Rattle.program_output.specs.Written.{Sends}
use Rattle.program_commands.specs.declared.State.{State}
use Rattle.program_commands.specs.declared.State.TheVariants as state
use Rattle.program_commands.specs.Commands.{stop_bytes}
use Rattle.program_answers.specs.Answered.{Held, with_session}
use Rattle.program_session.specs.Transcript.{lines, rest, has_stopped, transcript_from, end_from}

-- no newline stands in them
abbrev pub Unended : List ℕ → Type 0
Unended front = (lines front ≡ []) × (rest front ≡ front)

-- after the last lines a session that reads has ended
abbrev pub ended_if : (last : Bool) → Held → Held
ended_if last h = cond (last && not (has_stopped h)) (with_session (record h.session { state = state.Ended }) h) h

-- what stays of the input after its lines: none where the session stops
abbrev pub kept : Held → List ℕ → List ℕ
kept h input = cond (has_stopped h) [] (rest input)

-- a read or a write failed
abbrev pub failed_at : State → Bool
failed_at state.Reading = false
failed_at state.Ended = false
failed_at (state.Stopped (stop.Input error.Failed)) = true
failed_at (state.Stopped why) = false

abbrev pub has_failed : Held → Bool
has_failed h = failed_at (h.session.state)

-- The session reads on: fewer bytes are left, and after those that were said the transcript goes on with what is kept and what is left.
pub record Onward (h : Held) (front input said : List ℕ) (after : Held) (kept : List ℕ) (source : Option (List ℕ)) : Type 0 where
  pub more : List ℕ
  pub has : source ≡ Some more
  pub fewer : length more < length input
  pub says : transcript_from h (front ++ input) ≡ said ++ transcript_from after (kept ++ more)
  pub ends : end_from h (front ++ input) ≡ end_from after (kept ++ more)

-- or what was said is the whole transcript, and the session has ended
abbrev pub Says : (h : Held) (front input said : List ℕ) (after : Held) (kept : List ℕ) (source : Option (List ℕ)) → (stopped : Bool) → Type 0
Says h front input said after kept source false = Onward h front input said after kept source
Says h front input said after kept source true = (transcript_from h (front ++ input) ≡ said) × (end_from h (front ++ input) ≡ after.session.state)

-- after one read, where it is known what the source held: the bytes are sent, and the line that says why the session stops is not yet
pub record Heard (h : Held) (front : List ℕ) (source written : Option (List ℕ)) (was : Output) (after : Held) (kept : List ℕ) (left writes : Option (List ℕ))
    (is : Output) : Type 0 where
  pub bytes : List ℕ
  pub sends : Sends written was bytes writes is
  pub says : has_failed after ≡ false → IfSome source (λ input. Says h front input (bytes ++ stop_bytes after.session) after kept left (has_stopped after))

-- the same once all is written
pub record Turned (h : Held) (front : List ℕ) (source written : Option (List ℕ)) (after : Held) (kept : List ℕ) (left writes : Option (List ℕ)) : Type 0 where
  pub bytes : List ℕ
  pub appends : has_failed after ≡ false → Appends written writes bytes
  pub says : has_failed after ≡ false → IfSome source (λ input. Says h front input bytes after kept left (has_stopped after))
