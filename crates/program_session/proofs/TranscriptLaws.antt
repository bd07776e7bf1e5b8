-- The transcript of an input by its first part and what comes after it.
-- Assumes nothing.
use Rattle.std.proofs.Common.{◌≡◌, refl, sym, ◌∙◌, ap, ℕ, ◌<◌, ◌≤◌, Bool, true, false, cond, eqb, List, [], ◌∷◌, ◌++◌, length, append_assoc, append-nil, length-append, lt-ltb, le-ltb, arith, true≢false}
use Rattle.program_input.specs.declared.ReadError.TheVariants as error
use Rattle.program_output.specs.declared.Stop.TheVariants as stop
use Rattle.program_commands.specs.declared.State.{State}
use Rattle.program_commands.specs.declared.State.TheVariants as state
use Rattle.program_commands.specs.Commands.{stopped, stop_bytes}
use Rattle.program_answers.specs.Answered.{Held, Answered, answered}
use Rattle.program_session.specs.Transcript.{lines_after, lines, rest, too_long, answered_within, has_stopped, next_line, after_lines, said, transcript_from, at_end, stops, end_from}
use Rattle.program_session.specs.Serving.{Unended}
use Rattle.program_session.proofs.LineLaws.{nl, lines_split, after_unended}

-- ---- one line
abbrev pub by_line : List ℕ → Held → Held
by_line line h = (answered_within line h).held

pub short_line : (line : List ℕ) (h : Held) → length line ≤ 65535 → answered_within line h ≡ answered line h
unfolding answered_within
short_line line h e = rw (le-ltb 65535 (length line) e) refl

pub long_line : (line : List ℕ) (h : Held) → 65535 < length line → answered_within line h ≡ too_long h
unfolding answered_within
long_line line h e = rw (lt-ltb 65535 (length line) e) refl

module _ (line : List ℕ) (more : List (List ℕ)) (h : Held) where
  pub stops_there : has_stopped (by_line line h) ≡ true → (after_lines (line ∷ more) h ≡ by_line line h)
      × (said (line ∷ more) h ≡ (answered_within line h).bytes)
  unfolding after_lines said
  stops_there e = rw e (refl, append-nil _)

  pub goes_on : has_stopped (by_line line h) ≡ false
      → (after_lines (line ∷ more) h ≡ after_lines more (next_line (by_line line h)))
      × (said (line ∷ more) h ≡ (answered_within line h).bytes ++ said more (next_line (by_line line h)))
  unfolding after_lines said
  goes_on e = rw e (refl, refl)

-- ---- some lines and others after them
abbrev pub Follows : List (List ℕ) → List (List ℕ) → Held → Type 0
Follows xs ys h =
    (after_lines (xs ++ ys) h ≡ cond (has_stopped (after_lines xs h)) (after_lines xs h) (after_lines ys (after_lines xs h)))
    × (said (xs ++ ys) h ≡ said xs h ++ cond (has_stopped (after_lines xs h)) [] (said ys (after_lines xs h)))

follows_by : (x : List ℕ) (xs ys : List (List ℕ)) (h : Held) (t : Bool) → has_stopped (by_line x h) ≡ t
    → (has_stopped (by_line x h) ≡ false → Follows xs ys (next_line (by_line x h))) → Follows (x ∷ xs) ys h
unfolding after_lines said
follows_by x xs ys h true e later = rw (e, e) (refl, sym (append-nil _))
follows_by x xs ys h false e later =
    let p = later e in
    let bytes = (answered_within x h).bytes in
    rw e (p.0, ap (λ (l : List ℕ). bytes ++ l) p.1 ∙ sym (append_assoc bytes _ _))

pub follows : (xs ys : List (List ℕ)) (h : Held) → has_stopped h ≡ false → Follows xs ys h
unfolding after_lines said
follows [] ys h e = rw e (refl, refl)
follows (x ∷ xs) ys h e = follows_by x xs ys h (has_stopped (by_line x h)) refl (follows xs ys (next_line (by_line x h)))

-- ---- the transcript
pub stays : (s : State) → stops s ≡ true → at_end s ≡ s
stays state.Reading e = absurd (true≢false (sym e))
stays state.Ended e = refl
stays (state.Stopped why) e = refl

parted : (bs more : List ℕ) → lines ((bs ++ more) ++ nl) ≡ lines bs ++ lines ((rest bs ++ more) ++ nl)
parted bs more =
    ap (λ (l : List ℕ). lines l) (append_assoc bs more nl)
    ∙ lines_split bs (more ++ nl)
    ∙ ap (λ (l : List ℕ). lines bs ++ lines l) (sym (append_assoc (rest bs) more nl))

module _ (bs more : List ℕ) (h : Held) (reads : has_stopped h ≡ false) where
  abbrev later : List (List ℕ)
  later = lines ((rest bs ++ more) ++ nl)

  pub reads_on : has_stopped (after_lines (lines bs) h) ≡ false
      → (transcript_from h (bs ++ more) ≡ said (lines bs) h ++ transcript_from (after_lines (lines bs) h) (rest bs ++ more))
      × (end_from h (bs ++ more) ≡ end_from (after_lines (lines bs) h) (rest bs ++ more))
  unfolding transcript_from end_from
  reads_on e =
      let p = follows (lines bs) later h reads in
      rw (parted bs more, rw e at p.0, rw e at p.1) (append_assoc (said (lines bs) h) _ _, refl)

  pub stops_within : has_stopped (after_lines (lines bs) h) ≡ true
      → (transcript_from h (bs ++ more) ≡ said (lines bs) h ++ stop_bytes (after_lines (lines bs) h).session)
      × (end_from h (bs ++ more) ≡ (after_lines (lines bs) h).session.state)
  unfolding transcript_from end_from
  stops_within e =
      let p = follows (lines bs) later h reads in
      rw (parted bs more, rw e at p.0, rw e at p.1, append-nil (said (lines bs) h)) (refl, stays ((after_lines (lines bs) h).session.state) e)

-- at the end of the input a newline ends the last line
pub at_the_end : (bs : List ℕ) (h : Held)
    → (transcript_from h (bs ++ []) ≡ said (lines (bs ++ nl)) h ++ stop_bytes (after_lines (lines (bs ++ nl)) h).session)
    × (end_from h (bs ++ []) ≡ at_end ((after_lines (lines (bs ++ nl)) h).session.state))
unfolding transcript_from end_from
at_the_end bs h = rw (append-nil bs) (refl, refl)

-- ---- a line that is too long
record Begins (f bs : List ℕ) : Type 0 where
  first : List ℕ
  more : List (List ℕ)
  is : lines_after f (bs ++ nl) ≡ (f ++ first) ∷ more

begins_by : (f bs : List ℕ) (b : ℕ) (t : Bool) → eqb b 10 ≡ t → Begins (f ++ (b ∷ [])) bs → Begins f (b ∷ bs)
unfolding lines_after
begins_by f bs b true e later = record { first = []; more = lines (bs ++ nl); is = rw e (ap (λ (l : List ℕ). l ∷ lines (bs ++ nl)) (sym (append-nil f))) }
begins_by f bs b false e later =
    record {
      first = b ∷ later.first;
      more = later.more;
      is = rw e (later.is ∙ ap (λ (l : List ℕ). l ∷ later.more) (append_assoc f (b ∷ []) later.first));
    }

begins : (f bs : List ℕ) → Begins f bs
unfolding lines_after
begins f [] = record { first = []; more = []; is = ap (λ (l : List ℕ). l ∷ []) (sym (append-nil f)) }
begins f (b ∷ bs) = begins_by f bs b (eqb b 10) refl (begins (f ++ (b ∷ [])) bs)

pub too_long_there : (front more : List ℕ) (h : Held) → Unended front → 65535 < length front → has_stopped h ≡ false
    → (transcript_from h (front ++ more) ≡ stop_bytes (stopped (stop.Input error.Long) h.session))
    × (end_from h (front ++ more) ≡ state.Stopped (stop.Input error.Long))
unfolding transcript_from end_from
too_long_there front more h u long reads =
    let b = begins front more in
    let all = ap (λ (l : List ℕ). lines l) (append_assoc front more nl) ∙ (after_unended front (more ++ nl) u).0 ∙ b.is in
    let line = front ++ b.first in
    let is = long_line line h (omega (arith, length-append front b.first)) in
    let there = stops_there line b.more h (ap (λ (a : Answered). has_stopped a.held) is) in
    let after = there.0 ∙ ap (λ (a : Answered). a.held) is in
    let none = there.1 ∙ ap (λ (a : Answered). a.bytes) is in
    rw (all, after, none) (refl, refl)
