-- `wgsl_messages::put_token` meets its contract: nothing, or one after the other. Assumes nothing.
use mathlib.Core.Path.{◌≡◌, refl}
use mathlib.Core.List.{List, []}
use mathlib.Core.Logic.{◌⊎◌, inl, inr}
use Prim.Native.Nat.{ℕ, ◌<◌}
use lib.Dec.{ltb}
use lib.ListN.{length}
use borrow.Author.Tests.{lt-ltb, le-ltb}
use Rattle.ir_records.proofs.ResultLaws.{pick_alike}
use Rattle.program_output.proofs.PutLaws.{puts_none, puts_both}
use Rattle.wgsl_messages.specs.Message.{token_text}
use Rattle.wgsl_messages.proofs.put_token.Goals as goal

-- two positions that are no part of the text
no_token : (text : List ℕ) (start end : ℕ) → (end < start) ⊎ (length text < end) → token_text text start end ≡ []
unfolding token_text
no_token text start end (inl h) = rw (lt-ltb end start h)
no_token text start end (inr h) = rw (lt-ltb (length text) end h) (pick_alike (λ (x : List ℕ). x) [] (ltb end start) [] [] refl refl)

pub returns-in-Some : goal.returns-in-Some
unfolding token_text
returns-in-Some c =
    let t = c.in-Some.ensures.lookup.0 in
    rw (le-ltb _ _ t.0, le-ltb _ _ t.1)
    (puts_both (puts_both c.put_text.ensures (rw t.2 at c.put_text-in-Some.ensures)) c.put_text-in-Some-2.ensures)

pub returns-in_default : goal.returns-in_default
returns-in_default c = rw (no_token c.args.text.now c.args.start c.args.end c.in_default.ensures.lookup.0) (puts_none _ _)
