-- What was written where the write did not fail.
-- Assumes nothing.
use mathlib.Core.Path.{◌≡◌, ap}
use mathlib.Core.List.{List, [], ◌++◌}
use mathlib.Core.Logic.{inl, inr}
use Prim.Native.Nat.{ℕ, ◌≤◌, ◌<◌}
use native.Mathlib.Decide.{dec_le}
use native.Mathlib.Omega.{arith}
use lib.ListN.{length, take}
use Rattle.std.specs.Prelude.{false, Option, Some, Result, Ok, Err, OnOk}
use Rattle.std.specs.Result.{is_err}
use Rattle.std.specs.Io.KnownBytes.{Appends}
use Rattle.std.proofs.lemmas.Bool.{false≢true}
use Rattle.program_output.specs.declared.Output.{Output}
use Rattle.program_output.specs.declared.WriteError.{WriteError}
use Rattle.program_output.specs.declared.WriteError.TheVariants as error
use Rattle.program_output.specs.Bytes.{room, Adds}
use Rattle.program_output.proofs.SendsLaws.{sends_adds}

module _ (w v : Option (List ℕ)) (was mid : Output) (x : List ℕ) (put : Adds was x mid) (full : length was.bytes ≡ room) where
  pub flushed : (r : Result (Unit {0}) WriteError) → is_err r ≡ false → (room < mid.end → r ≡ Err error.NoRoom)
      → OnOk r (Appends w v (take (mid.end) (mid.bytes))) → Appends w v (take (was.end) (was.bytes) ++ x)
  flushed (Ok done) e past written = elim ((sends_adds (Some []) put).sends full) [
    | inl lost ↦ absurd (false≢true (ap is_err (past lost)))
    | inr all ↦ rw all at written
  ]
  flushed (Err why) e past written = absurd (cc)

-- all that waited had room then
pub fitted : (was mid : Output) (x : List ℕ) → Adds was x mid → (r : Result (Unit {0}) WriteError) → is_err r ≡ false
    → (room < mid.end → r ≡ Err error.NoRoom) → was.end ≤ room
fitted was mid x put (Ok done) e past = elim (dec_le (was.end) room) [
  | yes fits ↦ fits
  | no lost ↦ absurd (false≢true (ap is_err (past (omega (arith, put.ends, lost)))))
]
fitted was mid x put (Err why) e past = absurd (cc)
