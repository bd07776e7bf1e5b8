-- A session's turns one after the other: what was written so far and what is left make up the transcript.
-- Assumes nothing.
use Rattle.std.proofs.Common.{◌≡◌, refl, sym, ◌∙◌, ap, ℕ, ◌+◌, ◌≤◌, Bool, true, false, List, [], ◌++◌, length, take, append_assoc, append-nil, Option, Some, None, IfSome, inl, inr, true≢false, arith}
use Rattle.std.specs.Io.KnownBytes.{Appends}
use Rattle.std.proofs.KnownBytes.{Appends-nil, Appends-trans}
use Rattle.program_input.specs.declared.ReadError.TheVariants as error
use Rattle.program_output.specs.declared.Output.{Output}
use Rattle.program_output.specs.declared.Stop.TheVariants as stop
use Rattle.program_output.specs.Bytes.{room}
use Rattle.program_output.specs.Written.{total, Sends}
use Rattle.program_commands.specs.declared.Session.{Session}
use Rattle.program_commands.specs.declared.State.{State}
use Rattle.program_commands.specs.declared.State.TheVariants as state
use Rattle.program_commands.specs.Commands.{started, after_write, stop_bytes}
use Rattle.std.specs.Prelude.{replicate}
use Rattle.program_answers.specs.Answered.{Held, begun, with_session}
use Rattle.program_session.specs.Transcript.{stops, has_stopped, transcript_from, transcript, end_from, ending, Tells, Answers}
use Rattle.program_session.specs.Serving.{failed_at, has_failed, Onward, Heard, Turned}

-- ---- all that was sent is written
module _ (was is : Output) (bytes more : List ℕ) (none : was.end ≡ 0) where
  joins : (w v u : Option (List ℕ)) → Appends (total w was) (total v is) bytes → Appends v u (take (is.end) (is.bytes) ++ more) → Appends w u (bytes ++ more)
  joins None v u p q = tt
  joins (Some x) None u p q = absurd p
  joins (Some x) (Some y) None p q = absurd q
  joins (Some x) (Some y) (Some z) p q =
      let waits = take (is.end) (is.bytes) in
      let nothing : x ++ take (was.end) (was.bytes) ≡ x = ap (λ (n : ℕ). x ++ take n (was.bytes)) none ∙ append-nil x in
      q ∙ sym (append_assoc y waits more) ∙ ap (λ (l : List ℕ). l ++ more) (p ∙ ap (λ (l : List ℕ). l ++ bytes) nothing) ∙ append_assoc x bytes more

  pub written_all : (w v u : Option (List ℕ)) → Sends w was bytes v is → length was.bytes ≡ room → is.end ≤ room
      → Appends v u (take (is.end) (is.bytes) ++ more) → Appends w u (bytes ++ more)
  written_all w v u sent full fits p = elim (sent.sends full) [
    | inl lost ↦ absurd (omega (arith, lost, fits))
    | inr all ↦ joins w v u all p
  ]

-- ---- a turn is what was heard, and the write of it
module _ (h after : Held) (front keeps : List ℕ) (source left w v u : Option (List ℕ)) (was is : Output)
    (heard : Heard h front source w was after keeps left v is)
    (none : was.end ≡ 0) (full : length was.bytes ≡ room) where
  abbrev Wrote : Bool → Type 0
  Wrote written = written ≡ true → length is.bytes ≡ room → (is.end ≤ room) × Appends v u (take (is.end) (is.bytes) ++ stop_bytes after.session)

  turned_by : (written : Bool) → Wrote written → Turned h front source w (with_session (after_write written after.session) after) keeps left u
  turned_by true wrote =
      let p = wrote refl (heard.sends.keeps ∙ full) in
      record {
        bytes = heard.bytes ++ stop_bytes after.session;
        appends = λ unfailed. written_all was is heard.bytes (stop_bytes after.session) none w v u heard.sends full p.0 p.1;
        says = heard.says;
      }
  turned_by false wrote =
      record {
        bytes = [];
        appends = λ unfailed. absurd (true≢false unfailed);
        says = λ unfailed. absurd (true≢false unfailed);
      }

  pub turned : (written : Bool) (session : Session) → session ≡ after_write written after.session → Wrote written
      → Turned h front source w (with_session session after) keeps left u
  turned written session e wrote = rw e (turned_by written wrote)

-- ---- the turns of a session
-- so many turns were made, and each took a byte or more
pub record Left (input : List ℕ) (written : Option (List ℕ)) (turns : ℕ) (h : Held) (front : List ℕ) (source writes : Option (List ℕ)) : Type 0 where
  pub more : List ℕ
  pub has : source ≡ Some more
  pub fewer : turns + length more ≤ length input
  pub bytes : List ℕ
  pub appends : Appends written writes bytes
  pub says : transcript input ≡ bytes ++ transcript_from h (front ++ more)
  pub ends : ending input ≡ end_from h (front ++ more)

abbrev pub Running : (all written : Option (List ℕ)) (turns : ℕ) → Held → List ℕ → (source writes : Option (List ℕ)) → Type 0
Running all written turns h front source writes = IfSome all (λ input. Left input written turns h front source writes)

pub starts : (all written : Option (List ℕ)) → Running all written 0 begun [] all written
starts None written = tt
starts (Some input) written =
    record {
      more = input;
      has = refl;
      fewer = omega arith;
      bytes = [];
      appends = Appends-nil written;
      says = refl;
      ends = refl;
    }

unfailed_at : (s : State) → stops s ≡ false → failed_at s ≡ false
unfailed_at state.Reading e = refl
unfailed_at state.Ended e = refl
unfailed_at (state.Stopped why) e = absurd (true≢false e)

module _ (written : Option (List ℕ)) (turns : ℕ) (h after : Held) (front keeps : List ℕ) (source left writes wrote : Option (List ℕ))
    (turn : Turned h front source writes after keeps left wrote) where
  goes_in : (input : List ℕ) → Left input written turns h front source writes → has_stopped after ≡ false
      → Left input written (turns + 1) after keeps left wrote
  goes_in input p e =
      let unfailed = unfailed_at (after.session.state) e in
      let says : Onward h front p.more turn.bytes after keeps left = rw (p.has, e) at (turn.says unfailed) in
      record {
        more = says.more;
        has = says.has;
        fewer = omega (arith, p.fewer, says.fewer);
        bytes = p.bytes ++ turn.bytes;
        appends = Appends-trans _ _ _ _ _ p.appends (turn.appends unfailed);
        says = p.says ∙ ap (λ (l : List ℕ). p.bytes ++ l) says.says ∙ sym (append_assoc p.bytes turn.bytes _);
        ends = p.ends ∙ says.ends;
      }

  pub goes : (all : Option (List ℕ)) → Running all written turns h front source writes → has_stopped after ≡ false
      → Running all written (turns + 1) after keeps left wrote
  goes None p e = tt
  goes (Some input) p e = goes_in input p e

  abbrev Whole : List ℕ → State → Type 0
  Whole input s = Appends written wrote (transcript input) × (ending input ≡ s)

  whole : (input : List ℕ) → Left input written turns h front source writes → has_stopped after ≡ true → has_failed after ≡ false
      → Whole input (after.session.state)
  whole input p e unfailed =
      let says : (transcript_from h (front ++ p.more) ≡ turn.bytes) × (end_from h (front ++ p.more) ≡ after.session.state) = rw (p.has, e) at
      (turn.says unfailed) in
      (rw (p.says, says.0) (Appends-trans _ _ _ _ _ p.appends (turn.appends unfailed)), p.ends ∙ says.1)

  tells : (s : State) (input : List ℕ) → stops s ≡ true → (failed_at s ≡ false → Whole input s) → Tells s written wrote input
  tells state.Reading input e p = absurd (true≢false (sym e))
  tells state.Ended input e p = p refl
  tells (state.Stopped (stop.Input error.Long)) input e p = p refl
  tells (state.Stopped (stop.Input error.Failed)) input e p = tt
  tells (state.Stopped stop.TypesFull) input e p = p refl
  tells (state.Stopped stop.MembersFull) input e p = p refl
  tells (state.Stopped (stop.Line reason)) input e p = p refl

  pub ends : (all : Option (List ℕ)) → Running all written turns h front source writes → has_stopped after ≡ true
      → Answers (after.session.state) all written wrote
  ends None p e = tt
  ends (Some input) p e = tells (after.session.state) input e (whole input p e)

pub too_many : (all written : Option (List ℕ)) (turns : ℕ) (h : Held) (front : List ℕ) (source writes : Option (List ℕ))
    → Running all written turns h front source writes
    → 18446744073709551615 ≤ turns → Answers state.Reading all written writes
too_many None written turns h front source writes p many = tt
too_many (Some input) written turns h front source writes p many = omega (arith, p.fewer, many)

pub reading_at : (s : State) → stops s ≡ false → s ≡ state.Reading
reading_at state.Reading e = refl
reading_at state.Ended e = absurd (true≢false e)
reading_at (state.Stopped why) e = absurd (true≢false e)

-- what a program holds at first
pub begins : (s : Session) (arena rows : List ℕ) → s ≡ started → arena ≡ replicate 22528 0 → rows ≡ replicate 14336 0
    → record { session = s; arena = arena; rows = rows } ≡ begun
begins s arena rows p q r = rw (p, q, r) refl
