-- What one read gives: the bytes that are answered, those that are kept, and the transcript by both.
-- Assumes nothing.
use Rattle.std.proofs.Common.{◌≡◌, refl, sym, ◌∙◌, ap, ap₂, subst, ℕ, ◌+◌, ◌-◌, ◌<◌, ◌≤◌, Bool, true, false, cond, List, [], ◌∷◌, ◌++◌, length, take, drop, get_or, append_assoc, append-nil, length-append, length-drop, length-take-le, take-add, drop-cons, Option, Some, None, IfSome, true≢false, arith}
use Rattle.std.proofs.lemmas.List.{drop-take}
use Rattle.program_input.specs.declared.ReadError.{ReadError}
use Rattle.program_input.specs.declared.ReadError.TheVariants as error
use Rattle.program_input.specs.Input.{ReadMore, CameIn, ended_or_more, error_of}
use Rattle.program_output.specs.declared.Output.{Output}
use Rattle.program_output.specs.declared.Stop.TheVariants as stop
use Rattle.program_output.specs.Written.{Sends}
use Rattle.program_output.proofs.SendsLaws.{sends_none}
use Rattle.program_commands.specs.declared.State.{State}
use Rattle.program_commands.specs.declared.State.TheVariants as state
use Rattle.program_commands.specs.Commands.{stopped, bytes_at, stop_bytes}
use Rattle.program_answers.specs.Answered.{Held, with_session}
use Rattle.program_session.specs.Transcript.{lines, rest, stops, has_stopped, after_lines, said, transcript_from, at_end, end_from}
use Rattle.program_session.specs.Serving.{Unended, ended_if, kept, Says, Heard}
use Rattle.program_session.proofs.LineLaws.{nl, unended, unended_nil, rest_short, rest_stands}
use Rattle.program_session.proofs.TranscriptLaws.{stays, reads_on, stops_within, at_the_end, too_long_there}

-- ---- what is kept of the buffer
within_by : (t : Bool) (h : Held) (input : List ℕ) (left : ℕ) → has_stopped h ≡ t → left ≡ cond (has_stopped h) 0 (length (rest input)) → left ≤ length input
within_by true h input left e is = omega (arith, rw e at is)
within_by false h input left e is = omega (arith, rw e at is, rest_short input)

pub left_within : (h : Held) (was : List ℕ) (end left : ℕ) → end ≤ length was → left ≡ cond (has_stopped h) 0 (length (rest (take end was))) → left ≤ end
left_within h was end left fits is =
    omega (arith, within_by (has_stopped h) h (take end was) left refl is, length-take-le end was fits)

rest_at : (was : List ℕ) (end left : ℕ) → end ≤ length was → left ≡ length (rest (take end was)) → take left (drop (end - left) was) ≡ rest (take end was)
rest_at was end left fits is =
    let input = take end was in
    let whole : length input ≡ end = length-take-le end was fits in
    let short : left ≤ end = omega (arith, is, whole, rest_short input) in
    let sum : (end - left) + left ≡ end = omega (arith, short) in
    sym (drop-take (end - left) left was)
    ∙ ap (λ (n : ℕ). drop (end - left) (take n was)) sum
    ∙ ap (λ (n : ℕ). drop n input) (omega (arith, whole, is))
    ∙ rest_stands input

kept_by : (t : Bool) (h : Held) (was now : List ℕ) (end left : ℕ) → has_stopped h ≡ t → end ≤ length was
    → left ≡ cond (has_stopped h) 0 (length (rest (take end was)))
    → take left now ≡ take left (drop (end - left) was) → take left now ≡ kept h (take end was)
kept_by true h was now end left e fits is same =
    let none : left ≡ 0 = rw e at is in
    rw (none, e) refl
kept_by false h was now end left e fits is same = rw e (same ∙ rest_at was end left fits (rw e at is))

pub left_kept : (h : Held) (was now : List ℕ) (end left : ℕ) → end ≤ length was → left ≡ cond (has_stopped h) 0 (length (rest (take end was)))
    → take (end - (end - left)) now ≡ take (end - (end - left)) (drop (end - left) was) → take left now ≡ kept h (take end was)
left_kept h was now end left fits is same =
    let n : end - (end - left) ≡ left = omega (arith, left_within h was end left fits is) in
    kept_by (has_stopped h) h was now end left refl fits is (rw n at same)

-- ---- a session that ends with its input
ends_there : (s : State) → stops s ≡ false → at_end s ≡ state.Ended
ends_there state.Reading e = refl
ends_there state.Ended e = refl
ends_there (state.Stopped why) e = absurd (true≢false e)

silent : (n : ℕ) (s : State) → stops s ≡ false → bytes_at n s ≡ []
silent n state.Reading e = refl
silent n state.Ended e = refl
silent n (state.Stopped why) e = absurd (true≢false e)

ended_by : (t : Bool) (h : Held) → has_stopped h ≡ t
    → (has_stopped (ended_if true h) ≡ true) × (stop_bytes (ended_if true h).session ≡ stop_bytes h.session)
    × (at_end (h.session.state) ≡ (ended_if true h).session.state)
ended_by true h e = rw e (e, refl, stays (h.session.state) e)
ended_by false h e = rw e (refl, sym (silent (h.session.line) (h.session.state) e), ends_there (h.session.state) e)

-- ---- what is answered of a read
joined : (was now : List ℕ) (front end : ℕ) → front ≤ end → take front now ≡ take front was
    → take end now ≡ take front was ++ take (end - front) (drop front now)
joined was now front end within same =
    let sum : front + (end - front) ≡ end = omega (arith, within) in
    ap (λ (n : ℕ). take n now) (sym sum) ∙ take-add front (end - front) now ∙ ap (λ (l : List ℕ). l ++ take (end - front) (drop front now)) same

with_newline : (was now : List ℕ) (front : ℕ) → front < length now → get_or now front 0 ≡ 10 → take front now ≡ take front was
    → take (front + 1) now ≡ take front was ++ nl
with_newline was now front within is same =
    let one : take 1 (drop front now) ≡ nl = ap (λ (l : List ℕ). take 1 l) (drop-cons now front 0 within) ∙ ap (λ (b : ℕ). b ∷ []) is in
    take-add front 1 now ∙ ap₂ (λ (k l : List ℕ). k ++ l) same one

unended_kept : (t : Bool) (h : Held) (input : List ℕ) → has_stopped h ≡ t → Unended (kept h input)
unended_kept true h input e = rw e unended_nil
unended_kept false h input e = rw e (unended input)

module _ (h : Held) (was now : List ℕ) (front end : ℕ) (reads : has_stopped h ≡ false) (long : length now ≡ length was) where
  abbrev input : List ℕ
  input = take end now

  abbrev first : List ℕ
  first = take front was

  abbrev then : Held
  then = after_lines (lines (take end now)) h

  abbrev Answer : (last : Bool) (xs : List ℕ) (left : Option (List ℕ)) → Type 0
  Answer last xs left =
      Says h first xs (said (lines input) h ++ stop_bytes (ended_if last then).session) (ended_if last then) (kept then input) left
      (has_stopped (ended_if last then))

  -- there may be more of the input
  goes_by : (t : Bool) → has_stopped then ≡ t → (xs ys : List ℕ) → first ++ xs ≡ input ++ ys → length ys < length xs → Answer false xs (Some ys)
  goes_by true e xs ys all fewer =
      let p = stops_within input ys h reads e in
      rw e (ap (λ (l : List ℕ). transcript_from h l) all ∙ p.0, ap (λ (l : List ℕ). end_from h l) all ∙ p.1)
  goes_by false e xs ys all fewer =
      let none = silent (then.session.line) (then.session.state) e in
      let p = reads_on input ys h reads e in
      let same = sym (append-nil (said (lines input) h)) ∙ ap (λ (l : List ℕ). said (lines input) h ++ l) (sym none) in
      rw e (record {
        more = ys;
        has = refl;
        fewer = fewer;
        says = ap (λ (l : List ℕ). transcript_from h l) all ∙ p.0 ∙ ap (λ (l : List ℕ). l ++ transcript_from then (rest input ++ ys)) same;
        ends = ap (λ (l : List ℕ). end_from h l) all ∙ p.1;
      })

  -- the input has ended
  ends_with : (xs : List ℕ) (left : Option (List ℕ)) → xs ≡ [] → input ≡ first ++ nl → Answer true xs left
  ends_with xs left none is =
      let e = ended_by (has_stopped then) then refl in
      let whole = ap (λ (l : List ℕ). transcript_from h (first ++ l)) none ∙ (at_the_end first h).0 in
      let end_all = ap (λ (l : List ℕ). end_from h (first ++ l)) none ∙ (at_the_end first h).1 in
      let end_same = ap (λ (l : List ℕ). at_end ((after_lines (lines l) h).session.state)) (sym is) in
      let same = ap (λ (l : List ℕ). said (lines l) h ++ stop_bytes (after_lines (lines l) h).session) (sym is) in
      let silence = ap (λ (l : List ℕ). said (lines input) h ++ l) (sym e.1) in
      rw e.0 (whole ∙ same ∙ silence, end_all ∙ end_same ∙ e.2)

  module _ (within : front ≤ length was) (xs ys : List ℕ) where
    by_last : (last : Bool) → ReadMore was front now end (ended_or_more last) → CameIn (Some xs) (Some ys) front now (record { end = end; last = last })
        → Answer last xs (Some ys)
    by_last true more came =
        let m = more.ended refl in
        let fits : front < length now = omega (arith, m.0, more.within, long) in
        ends_with xs (Some ys) (came.0 ∙ came.1 refl) (ap (λ (n : ℕ). take n now) m.0 ∙ with_newline was now front fits m.1 (more.keeps within))
    by_last false more came =
        let some = more.more refl in
        let new = take (end - front) (drop front now) in
        let size : length new ≡ end - front = length-take-le (end - front) (drop front now) (omega (arith, length-drop front now, more.within, long)) in
        let all = ap (λ (l : List ℕ). first ++ l) came.0 ∙ sym (append_assoc first new ys)
        ∙ ap (λ (l : List ℕ). l ++ ys) (sym (joined was now front end (omega (arith, some)) (more.keeps within))) in
        goes_by (has_stopped then) refl xs ys all (omega (arith, some, size, ap length came.0, length-append new ys))

  says_all : (last : Bool) → front ≤ length was → ReadMore was front now end (ended_or_more last) → (source left : Option (List ℕ))
      → CameIn source left front now (record { end = end; last = last }) → IfSome source (λ xs. Answer last xs left)
  says_all last within more None left came = tt
  says_all last within more (Some xs) None came = absurd came.0
  says_all last within more (Some xs) (Some ys) came = by_last within xs ys last more came

  -- what was read is answered
  pub heard_all : (last : Bool) → front ≤ length was → ReadMore was front now end (ended_or_more last)
      → (source left written writes : Option (List ℕ)) (out is : Output)
      → CameIn source left front now (record { end = end; last = last }) → (after : Held) → after ≡ ended_if last then → (keeps : List ℕ)
      → keeps ≡ kept then input
      → Sends written out (said (lines input) h) writes is → Heard h first source written out after keeps left writes is
  heard_all last within more source left written writes out is came after is_after keeps is_kept sent =
      rw (is_after, is_kept) (record {
        bytes = said (lines input) h;
        sends = sent;
        says = λ unfailed. says_all last within more source left came;
      })

  pub unended_all : (keeps : List ℕ) → keeps ≡ kept then input → Unended keeps
  unended_all keeps is = subst Unended (sym is) (unended_kept (has_stopped then) then input refl)

-- nothing was read
module _ (h : Held) (was now : List ℕ) (front : ℕ) (source left written : Option (List ℕ)) (out : Output) (reads : has_stopped h ≡ false)
    (room : length was ≡ 65536) where
  whole_of : (xs : Option (List ℕ)) → Unended (take front was) → 65536 ≤ front → front ≤ 65536
      → IfSome xs (λ l. (transcript_from h (take front was ++ l) ≡ stop_bytes (stopped (stop.Input error.Long) h.session))
      × (end_from h (take front was ++ l) ≡ state.Stopped (stop.Input error.Long)))
  whole_of None u above below = tt
  whole_of (Some xs) u above below = too_long_there (take front was) xs h u (omega (arith, above, length-take-le front was (omega (arith, room, below)))) reads

  pub heard_none : (e : ReadError) → front ≤ 65536 → Unended (take front was) → ReadMore was front now 0 (error_of e)
      → Heard h (take front was) source written out (with_session (stopped (stop.Input e) h.session) h) [] left written out
  heard_none error.Long fits u more =
      record {
        bytes = [];
        sends = sends_none written out;
        says = λ unfailed. whole_of source u (omega (arith, more.long refl, room)) fits;
      }
  heard_none error.Failed fits u more =
      record {
        bytes = [];
        sends = sends_none written out;
        says = λ unfailed. absurd (true≢false unfailed);
      }
