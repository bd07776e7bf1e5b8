-- What is written of a file, and that it reaches the sink whole.
-- Assumes nothing.
use mathlib.Core.Path.{◌≡◌, sym, ◌∙◌, ap}
use mathlib.Core.List.{List, [], ◌++◌, append-nil}
use mathlib.Core.Logic.{inl, inr}
use Prim.Native.Nat.{ℕ, ◌<◌}
use lib.ListN.{length, take}
use Rattle.std.specs.Prelude.{Bool, true, false, Option, None, Some}
use Rattle.std.proofs.lemmas.Bool.{false≢true}
use Rattle.std.specs.Io.KnownBytes.{Appends, append_known}
use Rattle.program_output.specs.declared.Output.{Output}
use Rattle.program_output.specs.Bytes.{room}
use Rattle.program_output.specs.Written.{Sends}
use Rattle.sheet_output.specs.declared.Writer.{Writer}
use Rattle.sheet_output.specs.declared.Markup.{Markup}
use Rattle.sheet_structs.specs.Forms.{markup_of}
use Rattle.sheet_answers.specs.Bytes.{is_module}
use Rattle.sheet_answers.specs.Answers.{SaysOfText, SaysOfModule, SaysOf}
use Rattle.sheet_answers.specs.declared.Asked.{Asked}

module _ (asked : Asked) (m : Markup) (bytes said : List ℕ) (marks : m ≡ markup_of asked.form) where
  pub says_module : is_module bytes ≡ true → SaysOfModule asked m bytes said → SaysOf asked bytes said
  says_module e p = rw (e, ← marks) p

  pub says_text : is_module bytes ≡ false → SaysOfText asked m bytes said → SaysOf asked bytes said
  says_text e p = rw (e, ← marks) p

-- what was written and what waited is all that is written
all_written : (w u v : Option (List ℕ)) (waits x : List ℕ) → Appends (append_known w []) (append_known u waits) x → Appends u v waits → Appends w v x
all_written None u v waits x p q = tt
all_written (Some a) None v waits x p q = absurd p
all_written (Some a) (Some b) None waits x p q = absurd q
all_written (Some a) (Some b) (Some c) waits x p q = q ∙ p ∙ ap (λ l. l ++ x) (append-nil a)

-- what was sent from an empty buffer is all that is written, where that could be
pub sent_whole : (w u v : Option (List ℕ)) (a b : Output) (x : List ℕ) → Sends w a x u b → a.end ≡ 0 → length a.bytes ≡ room
    → (r : Bool) → (room < b.end → r ≡ false) → (r ≡ true → Appends u v (take (b.end) (b.bytes))) → r ≡ true → Appends w v x
sent_whole w u v a b x p none full r past written e =
    elim (p.sends full) [
      | inl lost ↦ absurd (false≢true (sym (past lost) ∙ e))
      | inr all ↦
          let nothing : take (a.end) (a.bytes) ≡ [] = ap (λ (n : ℕ). take n (a.bytes)) none in
          all_written w u v (take (b.end) (b.bytes)) x (rw nothing at all) (written e)
    ]

-- the writer began as one of an empty buffer and of this sink, which is v at the end
pub writer_whole : {W : Type 0} (k : W → Option (List ℕ)) (a b : Writer W) (output : Output) (sink last v : W) (x : List ℕ)
    → Sends (k (a.to.now)) (a.out.now) x (k (b.to.now)) (b.out.now) → a.out.now ≡ output → a.to.now ≡ sink → output.end ≡ 0 → length (output.bytes) ≡ room
    → (r : Bool) → (room < b.out.now.end → r ≡ false) → (r ≡ true → Appends (k (b.to.now)) (k last) (take (b.out.now.end) (b.out.now.bytes)))
    → v ≡ last → r ≡ true → Appends (k sink) (k v) x
writer_whole k a b output sink last v x p buffer to none full r past written is h =
    rw (is, ← to)
    (sent_whole (k (a.to.now)) (k (b.to.now)) (k last) (a.out.now) (b.out.now) x p (ap (λ o. o.end) buffer ∙ none)
    (ap (λ o. length (o.bytes)) buffer ∙ full) r past written h)
