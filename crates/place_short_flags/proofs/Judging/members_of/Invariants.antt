-- `place_short_flags::members_of` meets its contract. The invariant: bounds and previous are what the definitions have after j members, and where
-- sources is 0 none of them has a blend source. Assumes nothing.
use mathlib.Core.Path.{◌≡◌}
use Rattle.ir_records.specs.Result.{ok}
use Rattle.ir_records.specs.Record.{type_inner, Sourceless}
use Rattle.valid_type_info.specs.Verdict.{previous_of}
use Rattle.valid_member_bounds.specs.MemberBounds.{bounds_after}
use Rattle.place_short_flags.specs.ShortFlags.{short_sizes, short_flags}
use Rattle.place_short_flags.proofs.Judging.members_of.Given as goal

abbrev pub invariant-loop-j : goal.invariant-loop-j
invariant-loop-j l =
    (bounds_after (type_inner l.self.types.now) (short_sizes l.self.words.now) (short_flags l.self.words.now) l.part.count l.span l.part.words.now l.j ≡ ok l.bounds)
    × (l.previous ≡ previous_of (type_inner l.self.types.now) l.part.words.now l.j)
    × (l.sources ≡ 0 → Sourceless l.part.words.now l.j)
