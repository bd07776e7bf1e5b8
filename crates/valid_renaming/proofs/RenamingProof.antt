-- 02, E13, proved.
-- Assumes nothing.
use mathlib.Core.Path.{◌≡◌, sym, ◌∙◌, ap}
use mathlib.Core.List.{List}
use Prim.Native.Nat.{ℕ, ◌<◌}
use native.Mathlib.Omega.{arith}
use lib.Bits.{bit_or}
use Rattle.ir_records.specs.Record.{decoded, type_count, type_inner}
use Rattle.ir_records.specs.Outcome.{Accepted}
use Rattle.ir_records.specs.declared.NonData.TheVariants.{Pointer, BindingArray}
use Rattle.ir_records.specs.declared.TypeInner.TheVariants.{Other}
use Rattle.valid_flags.proofs.BitLaws.{bit_or_left, bit_or_right}
use Rattle.valid_type_info.specs.declared.UniformRule.TheVariants.{Older}
use Rattle.valid_type_info.specs.Verdict.{least_for}
use Rattle.valid_arena.specs.Arena.{arena}
use Rattle.valid_arena.proofs.AcceptedLaws.{row_more, accepted_more}
use Rattle.valid_arena.proofs.ArenaLaws.{accepted_types, arena_pointer_base, arena_binding_array_base}
use Rattle.place_descent.proofs.WalkLaws.{place_from}
use Rattle.valid_renaming.specs.Renaming.{Reaches, itself, renamed_inner, renamed_row, renamed_place, ReachedAgree, Renaming, OneToOneRenaming}
use Rattle.valid_renaming.proofs.ReachLaws.{Closed, reaches_on, reaches_earlier}
use Rattle.valid_renaming.proofs.RowRenamed.{same}
use Rattle.valid_renaming.proofs.WalksRenamed.{slots_renamed, place_renamed}

-- both arenas are accepted with all capabilities of either, and their rows stay
pub renaming : Renaming
renaming f rule c c' ts ms ts' ms' t a a' r =
    let types = decoded ts ms in
    let types' = decoded ts' ms' in
    let n = type_count ts in
    let n' = type_count ts' in
    let d = bit_or c c' in
    let acc = accepted_types c ts ms a in
    let acc' = accepted_types c' ts' ms' a' in
    let both = accepted_more c types n acc d (bit_or_left c c') in
    let both' = accepted_more c' types' n' acc' d (bit_or_right c c') in
    let closed : Closed f types types' n' t = λ k q. (r.within' k q, r.agree k q) in
    record {
      rows =
          row_more c' types' n' acc' d (bit_or_right c c') (least_for rule) (f t) (r.within' t itself)
          ∙ (same f (least_for rule) d types types' n n' both both' t r.within closed).1
          ∙ ap (renamed_row f) (sym (row_more c types n acc d (bit_or_left c c') (least_for rule) t r.within));
      slots = slots_renamed f types types' n' d n both both' t r.within closed;
      places = λ steps.
          place_from ts' ms' (f t) (r.within' t itself) steps
          ∙ place_renamed f types types' n' steps t 0 closed
          ∙ ap (renamed_place f) (sym (place_from ts ms t r.within steps));
    }

-- what a type of an accepted arena reaches is a type of the arena
reached_within : (c : ℕ) (ts ms : List ℕ) (t k : ℕ) → arena c ts ms ≡ Accepted → t < type_count ts → Reaches (decoded ts ms) t k → k < type_count ts
reached_within c ts ms t k a h q = let l = reaches_earlier c (decoded ts ms) (type_count ts) (accepted_types c ts ms a) q h in omega arith

-- each record that a reached type reaches agrees too
pub reached_agree : (f : ℕ → ℕ) (c : ℕ) (ts ms ts' ms' : List ℕ) (t k : ℕ) → arena c ts ms ≡ Accepted
    → ReachedAgree f ts ms ts' ms' t → Reaches (decoded ts ms) t k → ReachedAgree f ts ms ts' ms' k
reached_agree f c ts ms ts' ms' t k a r q =
    record {
      within = reached_within c ts ms t k a r.within q;
      within' = λ l p. r.within' l (reaches_on q p);
      agree = λ l p. r.agree l (reaches_on q p);
    }

-- 02's condition on binding arrays holds of itself: in both arenas each one that is reached names an earlier type
pub binding_arrays_earlier : (f : ℕ → ℕ) (c c' : ℕ) (ts ms ts' ms' : List ℕ) (t : ℕ) → arena c ts ms ≡ Accepted → arena c' ts' ms' ≡ Accepted
    → ReachedAgree f ts ms ts' ms' t → (k base form count : ℕ) → Reaches (decoded ts ms) t k → type_inner ts k ≡ Other (BindingArray base form count)
    → (base < k) × (f base < f k)
binding_arrays_earlier f c c' ts ms ts' ms' t a a' r k base form count q e =
    let h = reached_within c ts ms t k a r.within q in (
      (arena_binding_array_base Older c ts ms a k h base form count e).0,
      (arena_binding_array_base Older c' ts' ms' a' (f k) (r.within' k q) (f base) form count ((r.agree k q).inner ∙ ap (renamed_inner f) e)).0,
    )

-- and so does each pointer
pub pointers_earlier : (f : ℕ → ℕ) (c c' : ℕ) (ts ms ts' ms' : List ℕ) (t : ℕ) → arena c ts ms ≡ Accepted → arena c' ts' ms' ≡ Accepted
    → ReachedAgree f ts ms ts' ms' t → (k base space : ℕ) → Reaches (decoded ts ms) t k → type_inner ts k ≡ Other (Pointer base space)
    → (base < k) × (f base < f k)
pointers_earlier f c c' ts ms ts' ms' t a a' r k base space q e =
    let h = reached_within c ts ms t k a r.within q in (
      (arena_pointer_base Older c ts ms a k h base space e).0,
      (arena_pointer_base Older c' ts' ms' a' (f k) (r.within' k q) (f base) space ((r.agree k q).inner ∙ ap (renamed_inner f) e)).0,
    )

-- in 02's own words
pub one_to_one_renaming : OneToOneRenaming
one_to_one_renaming f rule c c' ts ms ts' ms' t a a' r one = renaming f rule c c' ts ms ts' ms' t a a' r
