-- The distance rule by either rule on uniform verdicts: where there is distance enough it leaves the verdict as it is, and so it does wherever the minimum
-- alignment is that of storage. Here alone the two rules are told apart.
-- Assumes nothing.
use mathlib.Core.Path.{◌≡◌, refl, ◌∙◌}
use mathlib.Core.Bool.{true, false}
use Prim.Native.Nat.{ℕ, ◌+◌, ◌-◌}
use lib.Dec.{leb}
use Rattle.proc_alignment.specs.Alignment.{Power, round_up}
use Rattle.valid_type_info.specs.declared.Verdict.{Verdict}
use Rattle.valid_type_info.specs.declared.UniformRule.{UniformRule}
use Rattle.valid_type_info.specs.declared.UniformRule.TheVariants.{Older, Newer}
use Rattle.valid_type_info.specs.declared.Distance.TheVariants.{Short}
use Rattle.std.specs.Prelude.{Option, Result, Ok, Err, OkIff}
use Rattle.std.specs.Result.{result_ok}
use Rattle.std.proofs.lemmas.Option.{none-some, same_Some}
use Rattle.valid_type_info.specs.declared.PreviousStruct.{PreviousStruct}
use Rattle.std.specs.Prelude.{None, Some}
use Rattle.valid_type_info.specs.Verdict.{min_uniform, min_storage, least_for, distance_verdict}
use Rattle.valid_type_info.specs.Serving.{after_distance}

-- by the minimum alignment of storage no distance is asked
pub no_distance : (i j offset : ℕ) (previous : Option PreviousStruct) (v : Verdict) → distance_verdict min_storage i j offset previous v ≡ v
unfolding distance_verdict
no_distance i j offset None v = refl
no_distance i j offset (Some before) v = refl

-- the minimum alignment of a rule is a power of two
pub least_power : (rule : UniformRule) → Power (least_for rule)
least_power Older = record { exponent = 4; is = refl }
least_power Newer = record { exponent = 0; is = refl }

-- a distance of the span rounded up to 16 is enough
pub distance_enough : (rule : UniformRule) (i j offset span at : ℕ) (v : Verdict) → leb (round_up min_uniform span) (offset - at) ≡ true
    → distance_verdict (least_for rule) i j offset (Some (record { span = span; offset = at })) v ≡ v
unfolding distance_verdict
distance_enough Older i j offset span at v h = rw h refl
distance_enough Newer i j offset span at v h = refl

-- where it is short, the verdict is what the code makes of it
pub distance_short : (rule : UniformRule) (i j offset span at : ℕ) (v : Verdict) → leb (round_up min_uniform span) (offset - at) ≡ false
    → after_distance (least_for rule) (Short (at + round_up min_uniform span)) i j offset v ≡ distance_verdict (least_for rule) i j offset (Some (record { span = span; offset = at })) v
unfolding distance_verdict
distance_short Older i j offset span at v h = rw h refl
distance_short Newer i j offset span at v h = refl

-- what a conversion says whose value is asked for
pub converted : {E : Type 0} (r : Result ℕ E) (P : Type 0) (v n : ℕ) → OkIff r P v → Some n ≡ result_ok r → P × (n ≡ v)
converted (Ok x) P v n h e = (h.0, same_Some n x e ∙ h.1)
converted (Err x) P v n h e = cc

pub not_converted : {E : Type 0} (r : Result ℕ E) (P : Type 0) (v : ℕ) → OkIff r P v → None ≡ result_ok r → ¬ P
not_converted (Ok x) P v h e = absurd (none-some x e)
not_converted (Err x) P v h e = h
