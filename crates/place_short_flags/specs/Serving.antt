-- Serves the contracts of functions inside the library: it adds nothing to what the other files say, and a reader may skip it.
-- Assumes nothing.
use Rattle.std.specs.Prelude as std
use Rattle.ir_records.specs.Refusal.{number_of}
use Rattle.ir_records.specs.declared.TypeRefusal.{TypeRefusal}
use Rattle.std.specs.Prelude.{false, List, ◌≡◌, ℕ, Option}
use Rattle.ir_records.specs.Result.{Result, err, ok, require}
use Rattle.ir_records.specs.Record.{member_count, Sourceless}
use Rattle.ir_records.specs.Record.{array_kind}
use Rattle.valid_flags.specs.Flags.{is_sized_data, array_flags}
use Rattle.valid_flags.specs.Serving.{flags_over_base}
use Rattle.place_short_flags.specs.declared.Taken.{Taken}
use Rattle.valid_member_bounds.specs.declared.Bounds.{Bounds}

-- what the code answers of all members
abbrev pub taken_result : std.Result Taken TypeRefusal → Result Bounds
taken_result (std.Ok t) = ok t.bounds
taken_result (std.Err r) = err (number_of r.fault) r.member r.detail

-- no member has a blend source where the answer says so
abbrev pub SourcesKnown : (members : List ℕ) → std.Result Taken TypeRefusal → Type 0
SourcesKnown members (std.Ok t) = t.sourced ≡ false → Sourceless members (member_count members)
SourcesKnown members (std.Err r) = Unit {0}

-- the flags of an array over a base with these, or number 15
abbrev pub array_by : (size : Option ℕ) (base : ℕ) → Result ℕ
array_by size base = require (is_sized_data base) 15 0 0 (ok (flags_over_base array_kind size base))
