-- One member more, and a gap that is there or is not.
-- Assumes nothing.
use mathlib.Core.Path.{◌≡◌, refl}
use mathlib.Core.List.{List, [], ◌++◌}
use Prim.Native.Nat.{ℕ, ◌+◌, ◌-◌, ◌<◌, ◌≤◌}
use native.Mathlib.Omega.{arith}
use native.Mathlib.Numerals.{add-one}
use borrow.Author.Tests.{lt-ltb, le-ltb}
use Rattle.std.specs.Prelude.{max, Option, None, Some, MatchOption}
use Rattle.ir_records.specs.Record.{member_type, member_offset}
use Rattle.sheet_output.specs.declared.Unused.{Unused}
use Rattle.sheet_lines.specs.Lines.{GapText, MemberText, gap_before, last_gap, member_end, furthest_end, member_lines}

-- some bytes from the end of one part to the start of the next
abbrev pub LiesBetween : Unused → (end start : ℕ) → Type 0
LiesBetween u end start = (u.start ≡ end) × (0 < u.bytes) × (u.bytes ≡ start - end)

module _ (gap : GapText) (end start : ℕ) where
  pub gap_there : (u : Unused) → LiesBetween u end start → gap_before gap end start ≡ gap u.start u.bytes
  gap_there u h = rw (h.0, h.2, lt-ltb end start (omega (arith, h.1, h.2)))

  pub gap_none : start ≤ end → gap_before gap end start ≡ []
  gap_none h = rw (le-ltb end start h)

module _ (gap : GapText) (before : ℕ) where
  pub last_there : (end : Option ℕ) (u : Unused) → MatchOption end ⊥ (LiesBetween u before) → last_gap gap before end ≡ gap u.start u.bytes
  last_there (Some end) u h = gap_there gap before end u h
  last_there None u h = absurd h

  pub last_none : (end : Option ℕ) → MatchOption end (Unit {0}) (λ end. end ≤ before) → last_gap gap before end ≡ []
  last_none (Some end) h = gap_none gap before end h
  last_none None h = refl

module _ (part rows : List ℕ) (j : ℕ) where
  pub end_more : furthest_end part rows (j + 1) ≡ max (furthest_end part rows j) (member_end part rows j)
  unfolding furthest_end
  end_more = rw add-one

  pub lines_more : (gap : GapText) (member : MemberText)
      → member_lines gap member part rows (j + 1)
      ≡ member_lines gap member part rows j
      ++ gap_before gap (furthest_end part rows j) (member_offset part j)
      ++ member j (member_type part j) (member_offset part j)
  unfolding member_lines
  lines_more gap member = rw add-one
