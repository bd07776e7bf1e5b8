-- The theorem and 02's own wording of it, on one library under two numberings.
-- Assumes nothing.
use mathlib.Core.Path.{◌≡◌, refl, sym, ◌∙◌, ap}
use mathlib.Core.List.{[], ◌∷◌}
use Prim.Native.Nat.{ℕ, zero, suc, ◌<◌}
use native.Mathlib.Omega.{arith}
use lib.ListN.{get_or}
use Rattle.ir_records.specs.Record.{decoded, type_inner, inner_of}
use Rattle.valid_type_info.specs.declared.UniformRule.{UniformRule}
use Rattle.valid_renaming.specs.Renaming.{Reaches, itself, pointed, bound, OneToOne, AnswersAgree}
use Rattle.valid_renaming.proofs.RenamingProof.{renaming, one_to_one_renaming, reached_agree, binding_arrays_earlier}
use Rattle.valid_renaming.proofs.Arenas.{types, members, types', members', f, accepted, accepted', reached_below, reached}

-- the binding array
pub binding_array : (rule : UniformRule) → AnswersAgree f rule 0 1 types members types' members' 7
binding_array rule = renaming f rule 0 1 types members types' members' 7 accepted accepted' reached

-- the struct with the runtime tail, which the pointer of the binding array points to
tail_reached : Reaches (decoded types members) 7 5
unfolding type_inner inner_of
tail_reached = bound refl (pointed refl itself)

pub tail : (rule : UniformRule) → AnswersAgree f rule 0 1 types members types' members' 5
tail rule = renaming f rule 0 1 types members types' members' 5 accepted accepted' (reached_agree f 0 types members types' members' 7 5 accepted reached tail_reached)

-- the way back
back : ℕ → ℕ
back k = get_or (0 ∷ 0 ∷ 0 ∷ 2 ∷ 1 ∷ 3 ∷ 4 ∷ 5 ∷ 6 ∷ 7 ∷ []) k 0

back_of : (k : ℕ) → k < 8 → back (f k) ≡ k
unfolding back
back_of zero h = refl
back_of (suc zero) h = refl
back_of (suc (suc zero)) h = refl
back_of (suc (suc (suc zero))) h = refl
back_of (suc (suc (suc (suc zero)))) h = refl
back_of (suc (suc (suc (suc (suc zero))))) h = refl
back_of (suc (suc (suc (suc (suc (suc zero)))))) h = refl
back_of (suc (suc (suc (suc (suc (suc (suc zero))))))) h = refl
back_of (suc (suc (suc (suc (suc (suc (suc (suc k)))))))) h = absurd (omega arith)

-- the renaming is one-to-one, and the binding array names an earlier type in both
pub distinct : OneToOne f (decoded types members) 7
distinct =
    record {
      distinct = λ k l r q e. sym (back_of k (reached_below k r)) ∙ ap back e ∙ back_of l (reached_below l q);
      earlier = λ k base form count r e.
          let b = binding_arrays_earlier f 0 1 types members types' members' 7 accepted accepted' reached k base form count r e in (λ _. b.1, λ _. b.0);
    }

pub as_02_says : (rule : UniformRule) → AnswersAgree f rule 0 1 types members types' members' 7
as_02_says rule = one_to_one_renaming f rule 0 1 types members types' members' 7 accepted accepted' reached distinct
