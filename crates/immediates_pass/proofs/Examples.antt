-- Ranges and dispatches, computed.
-- Assumes nothing.
use mathlib.Core.Path.{◌≡◌, refl}
use mathlib.Core.Bool.{true, false}
use mathlib.Core.List.{[], ◌∷◌}
use Rattle.ir_records.specs.Outcome as outcome
use Rattle.immediates_ranges.specs.Answer as answer
use Rattle.immediates_ranges.specs.Slots.{covers, covers_all, mask_of, range_slots, contains_below}
use Rattle.immediates_pass.specs.declared.Pass.{Pass}
use Rattle.immediates_pass.specs.Pass.{Tried}
use Rattle.immediates_pass.specs.Pass.{range_answer, SetRange, Dispatch, tried}
use Rattle.immediates_pass.specs.History.{after}

-- an empty range at a multiple of 4, and at none; 25; 37 before 25; the last slot; a size that is no multiple of 4
ranges : (range_answer 300 0 ≡ answer.Slots 0 0) × (range_answer 301 0 ≡ answer.Refused 37 0 0 0) × (range_answer 256 4 ≡ answer.Refused 25 0 0 0) × (range_answer 257 4 ≡ answer.Refused 37 0 0 0) × (range_answer 252 4 ≡ answer.Slots 9223372036854775808 0) × (range_answer 4 2 ≡ answer.Refused 37 0 0 0)
unfolding range_slots covers covers_all mask_of
ranges = (refl, refl, refl, refl, refl, refl)

-- a slot set and no pipeline
no_pipeline : ◌≡◌ {A = Tried} (tried (after (SetRange 0 4 ∷ [])) Dispatch) (record { pass = record { set = 1; needed = 0; chosen = false }; outcome = outcome.Refused 36 0 0 0; missing = 0 })
unfolding range_slots covers covers_all mask_of contains_below
no_pipeline = refl

-- three slots needed: one set, then all
one_set : Pass
one_set = record { set = 1; needed = 7; chosen = true }

some_missing : tried one_set Dispatch ≡ record { pass = one_set; outcome = outcome.Refused 36 0 0 0; missing = 6 }
unfolding one_set mask_of contains_below
some_missing = refl

all_set : (tried (tried one_set (SetRange 4 8)).pass Dispatch).outcome ≡ outcome.Accepted
unfolding one_set range_slots covers covers_all mask_of contains_below
all_set = refl
