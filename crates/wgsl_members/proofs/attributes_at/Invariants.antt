-- `wgsl_members::attributes_at` meets its contract. The invariant: what is left gives what the whole gives. Assumes nothing.
use mathlib.Core.Path.{◌≡◌}
use Prim.Native.Nat.{◌-◌}
use lib.ListN.{length}
use Rattle.wgsl_tokens.specs.Tokens.{from}
use Rattle.wgsl_members.specs.Members.{attributes, attributes_of}
use Rattle.std.specs.Prelude.{Ok, None}
use Rattle.wgsl_members.proofs.attributes_at.Given as goal

abbrev pub invariant-loop-turn : goal.invariant-loop-turn
invariant-loop-turn l = attributes_of (length l.s - l._turn) l.given (from l.s l.next) ≡ attributes_of (length l.s) (attributes (Ok None) (Ok None)) (from l.s l.at)
