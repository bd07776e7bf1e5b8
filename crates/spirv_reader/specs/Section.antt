-- The module that begins at a position of a list of words: what its reading answers, and what the lent tables hold then (spirv_read: Read).
-- Assumes nothing.
use Rattle.std.specs.Prelude.{List, ℕ, drop}
use Rattle.spirv_read.specs.Section.{Section}
use Rattle.spirv_read.specs.Read.{read_into, section_of, types_after, members_after}

abbrev pub section_at : (ws : List ℕ) (at : ℕ) (ts ms : List ℕ) → Section
section_at ws at ts ms = section_of (read_into (drop at ws) ts ms)

abbrev pub types_at : (ws : List ℕ) (at : ℕ) (ts ms : List ℕ) → List ℕ
types_at ws at ts ms = types_after (read_into (drop at ws) ts ms) ts

abbrev pub members_at : (ws : List ℕ) (at : ℕ) (ts ms : List ℕ) → List ℕ
members_at ws at ts ms = members_after (read_into (drop at ws) ts ms) ms
