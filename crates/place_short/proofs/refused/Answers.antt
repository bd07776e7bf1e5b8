use Rattle.ir_records.specs.Refusal.{refused_by}
use mathlib.Core.Path.{ap, ◌∙◌}
use mathlib.Core.List.{List, ◌++◌}
use Prim.Native.Nat.{ℕ, ◌*◌}
use native.Mathlib.Omega.{arith}
use lib.ListN.{replicate}
use Rattle.std.specs.Prelude as std
use Rattle.std.specs.Option.{unwrap_or}
use Rattle.ir_records.specs.Outcome.{Outcome}
use Rattle.ir_records.specs.Table.{also}
use Rattle.ir_records.specs.declared.Refusal.{Refusal}
use Rattle.place_short.proofs.RefusedLaws.{earlier}
use Rattle.place_short.proofs.refused.Goals as goal

pub clear-requires : goal.clear-requires
clear-requires c = omega (arith, c.requires, c.layout_all-before.auto.words)

pub returns : goal.returns
returns c =
    let before = c.layout_all-before in
    record {
      value = ap refused_by (c.unwrap_or.ensures ∙ ap (λ (r : std.Option Refusal). unwrap_or r c.args.found) c.err.ensures.value)
          ∙ earlier before.result c.args.found ∙ ap (λ (o : Outcome). also o (refused_by c.args.found)) before.ensures.value;
      words_after = c.clear.ensures ∙ ap (λ (words : List ℕ). replicate (c.args.arena.n * 3) 0 ++ words) before.ensures.words_unchanged;
    }
