-- The lines of an input answered one after the other: what a loop over them keeps.
-- Assumes nothing.
use Rattle.std.proofs.Common.{◌≡◌, refl, sym, ◌∙◌, ap, subst, ℕ, ◌+◌, ◌<◌, ◌≤◌, true, false, List, [], ◌∷◌, ◌++◌, length, take, drop, append_assoc, append-nil, length-drop, length-take-le, Option, arith}
use Rattle.program_words.specs.Words.{run_of}
use Rattle.program_output.specs.declared.Output.{Output}
use Rattle.program_output.specs.Written.{Sends}
use Rattle.program_output.proofs.SendsLaws.{sends_none, sends_both}
use Rattle.program_answers.specs.Answered.{Held, answered}
use Rattle.program_session.specs.Transcript.{lines, rest, answered_within, has_stopped, next_line, after_lines, said}
use Rattle.program_session.proofs.LineLaws.{in_line, run_within, splits, lineless}
use Rattle.program_session.proofs.TranscriptLaws.{short_line, stops_there, goes_on}

module _ (start : Held) (was : Output) (written : Option (List ℕ)) (input : List ℕ) where
  -- what is answered and what is left, `left`, are the whole input
  pub record Answering (h : Held) (is : Output) (writes : Option (List ℕ)) (left : List ℕ) (end : ℕ) : Type 0 where
    pub after : after_lines (lines input) start ≡ after_lines (lines left) h
    pub bytes : List ℕ
    pub sends : Sends written was bytes writes is
    pub says : said (lines input) start ≡ bytes ++ said (lines left) h
    pub keeps : rest input ≡ rest left
    pub reads : has_stopped h ≡ false
    pub short : length left ≤ 65536
    pub first : end ≡ run_of in_line left

  -- all is answered
  pub record Done (h : Held) (is : Output) (writes : Option (List ℕ)) : Type 0 where
    pub after : h ≡ after_lines (lines input) start
    pub sends : Sends written was (said (lines input) start) writes is

  pub starts : (end : ℕ) → has_stopped start ≡ false → length input ≤ 65536 → end ≡ run_of in_line input → Answering start was written input end
  starts end reads short first =
      record {
        after = refl;
        bytes = [];
        sends = sends_none written was;
        says = refl;
        keeps = refl;
        reads = reads;
        short = short;
        first = first;
      }

  module _ (h : Held) (is : Output) (writes : Option (List ℕ)) (left : List ℕ) (end : ℕ) (p : Answering h is writes left end) where
    -- no newline is left
    pub ends : length left ≤ end → Done h is writes × (length left ≡ length (rest input))
    unfolding after_lines said
    ends above =
        let q = lineless [] left (omega (arith, p.first, run_within left, above)) in
        let none : said (lines left) h ≡ [] = rw q.0 refl in
        let same : after_lines (lines left) h ≡ h = rw q.0 refl in (
          record {
            after = sym (p.after ∙ same);
            sends = subst (λ (l : List ℕ). Sends written was l writes is) (sym (p.says ∙ ap (λ (l : List ℕ). p.bytes ++ l) none ∙ append-nil p.bytes)) p.sends;
          },
          ap length (sym (p.keeps ∙ q.1)),
        )

    module _ (below : end < length left) (then : Held) (out : Output) (writes2 : Option (List ℕ)) (is_after : then ≡ (answered (take end left) h).held)
        (sent : Sends writes is (answered (take end left) h).bytes writes2 out) where
      line : List ℕ
      line = take end left

      within : length (take end left) ≤ 65535
      within = omega (arith, length-take-le end left (omega (arith, below)), below, p.short)

      at_line : lines left ≡ take end left ∷ lines (drop (end + 1) left)
      at_line = rw p.first ((splits [] left (omega (arith, p.first, below))).0)

      by_answer : then ≡ (answered_within (take end left) h).held
      by_answer = rw (short_line (take end left) h within) is_after

      bytes_sent : Sends writes is (answered_within (take end left) h).bytes writes2 out
      bytes_sent = rw (short_line (take end left) h within) sent

      -- the session stops at the line
      pub stops : has_stopped then ≡ true → Done then out writes2
      stops e =
          let q = stops_there (take end left) (lines (drop (end + 1) left)) h (ap has_stopped (sym by_answer) ∙ e) in
          let all = ap (λ (l : List (List ℕ)). after_lines l h) at_line ∙ q.0 in
          let bytes = ap (λ (l : List (List ℕ)). said l h) at_line ∙ q.1 in
          record {
            after = by_answer ∙ sym (p.after ∙ all);
            sends = subst (λ (l : List ℕ). Sends written was l writes2 out) (sym (p.says ∙ ap (λ (l : List ℕ). p.bytes ++ l) bytes))
                (sends_both p.sends bytes_sent);
          }

      -- it goes on
      pub goes : has_stopped then ≡ false → (end2 : ℕ) → end2 ≡ run_of in_line (drop (end + 1) left)
          → Answering (next_line then) out writes2 (drop (end + 1) left) end2
      goes e end2 first =
          let more = drop (end + 1) left in
          let q = goes_on (take end left) (lines more) h (ap has_stopped (sym by_answer) ∙ e) in
          let one = (answered_within (take end left) h).bytes in
          record {
            after = p.after ∙ ap (λ (l : List (List ℕ)). after_lines l h) at_line ∙ rw by_answer q.0;
            bytes = p.bytes ++ one;
            sends = sends_both p.sends bytes_sent;
            says = p.says ∙ ap (λ (l : List ℕ). p.bytes ++ l) (ap (λ (l : List (List ℕ)). said l h) at_line ∙ rw by_answer q.1)
                ∙ sym (append_assoc p.bytes one _);
            keeps = p.keeps ∙ rw p.first ((splits [] left (omega (arith, p.first, below))).1);
            reads = e;
            short = omega (arith, length-drop (end + 1) left, p.short);
            first = first;
          }
