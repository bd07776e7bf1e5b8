-- What a refusal of one type, or of all records, leaves.
-- Assumes nothing.
use Rattle.std.specs.Prelude as std
use mathlib.Core.Path.{◌≡◌, refl, sym, ap}
use mathlib.Core.List.{List, ◌++◌}
use Prim.Native.Nat.{ℕ, ◌*◌}
use lib.ListN.{drop, replicate}
use Rattle.ir_records.specs.Result.{Result, and_then}
use Rattle.ir_records.specs.Record.{type_count}
use Rattle.ir_records.specs.Fields.{record_at}
use Rattle.ir_records.specs.Table.{outcome_at, also, first_refusal}
use Rattle.ir_records.specs.Outcome.{Outcome, Accepted, Refused}
use Rattle.ir_records.specs.Refusal.{judged, outcome_of, refused_by, at_type}
use Rattle.ir_records.specs.declared.TypeRefusal.{TypeRefusal}
use Rattle.ir_records.specs.declared.Refusal.{Refusal}
use Rattle.ir_records.proofs.RefusalLaws.{IsRefused}
use Rattle.valid_arena.specs.Arena.{arena_outcome}
use Rattle.place_short_layout.specs.ShortRows.{short_width}
use Rattle.place_short.specs.Short.{scratch_after}
use Rattle.std.specs.Option.{unwrap_or}
use Rattle.std.specs.Result.{result_err}
use Rattle.place_short.specs.Serving.{written_after}
use Rattle.place_short.proofs.OutcomeLaws.{arena_records}

-- a refused type is the answer, whatever would have followed
pub stopped : {A B : Type 0} (r : std.Result A TypeRefusal) (i : ℕ) (e : Refusal) (rest : A → Result B) → at_type r i ≡ std.Err e
    → outcome_of {A = Unit {0}} (std.Err e) ≡ outcome_at i (and_then (judged r) rest)
stopped (std.Ok a) i e rest h = cc
stopped (std.Err f) i e rest h = sym (ap outcome_of h)

-- and nothing is written
pub unwritten : {A : Type 0} (r : std.Result A TypeRefusal) (i : ℕ) (e : Refusal) (rest : A → Result (List ℕ)) → at_type r i ≡ std.Err e
    → (at : ℕ) (words : List ℕ) → written_after (and_then (judged r) rest) at words ≡ words
unwritten (std.Ok a) i e rest h at words = cc
unwritten (std.Err f) i e rest h at words = refl

-- a refusal of the records is the arena's
pub refused_records : (c : ℕ) (ts ms : List ℕ) (o : Outcome) → IsRefused o → o ≡ first_refusal (record_at ts ms) (type_count ts) → o ≡ arena_outcome c ts ms
refused_records c ts ms Accepted h e = absurd h
refused_records c ts ms (Refused number ty member detail) h e = sym (arena_records c ts ms (sym e))

-- a refusal leaves zeros, whichever it is
pub zero_scratch : (o : Outcome) → IsRefused o → (c : ℕ) (ts ms : List ℕ) (n : ℕ) (words : List ℕ)
    → scratch_after o c ts ms n words ≡ replicate (n * short_width) 0 ++ drop (n * short_width) words
zero_scratch Accepted h c ts ms n words = absurd h
zero_scratch (Refused number ty member detail) h c ts ms n words = refl

pub refused_scratch : (first second : Outcome) (c : ℕ) (ts ms : List ℕ) (n : ℕ) (words : List ℕ) → IsRefused second
    → scratch_after (also first second) c ts ms n words ≡ replicate (n * short_width) 0 ++ drop (n * short_width) words
refused_scratch Accepted second c ts ms n words h = zero_scratch second h c ts ms n words
refused_scratch (Refused number ty member detail) second c ts ms n words h = refl

-- a refusal that comes first, or the one that was found
pub earlier : {A : Type 0} (r : std.Result A Refusal) (found : Refusal) → refused_by (unwrap_or (result_err r) found) ≡ also (outcome_of r) (refused_by found)
earlier (std.Ok a) found = refl
earlier (std.Err e) found = refl
