-- Serves the contracts of functions inside the library: it adds nothing to what the other files say, and a reader may skip it.
-- Assumes nothing.
use Rattle.std.specs.Prelude.{Bool, ◌&&◌, ℕ}
use Rattle.valid_flags.specs.Flags.{bit, data_bit, sized_bit, host_shareable_bit, creation_resolved_bit}
use Rattle.valid_type_info.specs.declared.Verdict.{Verdict}
use Rattle.valid_type_info.specs.declared.Row.{Row}
use Rattle.valid_type_info.specs.declared.Distance.{Distance}
use Rattle.valid_type_info.specs.Verdict.{share_verdict, member_verdict, unsized_verdict}
use Rattle.valid_type_info.specs.Serving.{after_distance}

-- the uniform verdict by the distance that the code has
abbrev pub uniform_by : (least : ℕ) → Distance → (i j t offset : ℕ) → Row → Verdict → Verdict
uniform_by least d i j t offset r so_far =
    unsized_verdict (bit r.flags sized_bit) i j
    (after_distance least d i j offset (member_verdict i j offset (share_verdict (bit r.flags host_shareable_bit) t so_far) r.uniform))

-- the flags of a plain member
abbrev pub is_plain : (flags : ℕ) → Bool
is_plain flags = bit flags data_bit && bit flags sized_bit && bit flags host_shareable_bit && bit flags creation_resolved_bit
