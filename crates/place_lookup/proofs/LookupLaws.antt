-- Laws of the lookup: the arena that it is left with once the check accepts.
-- Assumes nothing.
use mathlib.Core.Path.{◌≡◌, refl}
use mathlib.Core.Bool.{Bool, true, false, ◌&&◌}
use mathlib.Core.List.{List}
use Prim.Native.Nat.{ℕ, ◌*◌, ◌/◌, ◌%◌}
use native.Mathlib.Nat.{le_refl}
use native.Mathlib.Omega.{arith}
use lib.Dec.{T, eqb, leb}
use lib.ListN.{length}
use borrow.Author.Tests.{le-leb}
use Rattle.ir_records.specs.Result.{pick}
use Rattle.ir_records.specs.Record.{type_count, type_words, member_words, decoded}
use Rattle.ir_records.specs.Fields.{most_types, most_members, row_words, tables_fit, capabilities_known}
use Rattle.ir_records.specs.Outcome.{Accepted, Refused}
use Rattle.ir_records.proofs.ResultLaws.{T_true, and_left}
use Rattle.ir_records.proofs.RecordLaws.{tables_fitting}
use Rattle.valid_arena.specs.Arena.{arena_outcome, arena_answer, arena}
use Rattle.valid_arena.proofs.ArenaLaws.{arena_parts, accepted_types}
use Rattle.place_descent.specs.Serving.{Descends}
use Rattle.place_lookup.proofs.ByteLaws.{accepted_descends}

-- ---- an arena that is accepted with the lent rows is accepted
-- tables that fit fit with as many rows as needed
fits_exactly : (t m r : ℕ) → T (tables_fit t m r) → tables_fit t m (t / type_words * row_words) ≡ true
unfolding tables_fit
fits_exactly t m r h =
    let before = eqb (t % type_words) 0 && leb t (most_types * type_words) && eqb (m % member_words) 0 && leb m (most_members * member_words) in
    rw (le-leb (t / type_words * row_words) (t / type_words * row_words) (le_refl _), T_true before (and_left before (leb (t / type_words * row_words) r) h)) refl

pub answer_accepted : (c : ℕ) (ts ms rows : List ℕ) → arena_answer c ts ms rows ≡ Accepted → arena c ts ms ≡ Accepted
unfolding arena_answer arena
answer_accepted c ts ms rows e = go (capabilities_known c) (tables_fit (length ts) (length ms) (length rows)) refl refl e
  where
    go : (a b : Bool) → capabilities_known c ≡ a → tables_fit (length ts) (length ms) (length rows) ≡ b
        → pick (a && b) (arena_outcome c ts ms) (Refused 1 0 0 0) ≡ Accepted → arena c ts ms ≡ Accepted
    go true true p q o = rw (p, fits_exactly (length ts) (length ms) (length rows) (rw q tt)) o
    go true false p q o = let z : ◌≡◌ {A = ℕ} 0 1 = cc in absurd (omega arith)
    go false b p q o = let z : ◌≡◌ {A = ℕ} 0 1 = cc in absurd (omega arith)

-- ---- an accepted arena descends
pub arena_descends : (c : ℕ) (ts ms : List ℕ) → arena c ts ms ≡ Accepted → Descends (decoded ts ms) (type_count ts)
arena_descends c ts ms e =
    let f = tables_fitting (length ts) (length ms) (type_count ts * row_words) (T_true _ (arena_parts c ts ms e).fits) in
    accepted_descends c (decoded ts ms) (type_count ts) (accepted_types c ts ms e) f.types
