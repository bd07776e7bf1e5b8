-- The bytes carried and the bytes wasted: their sum, and the leaves.
-- Assumes nothing.
use mathlib.Core.Path.{◌≡◌}
use Prim.Native.Nat.{ℕ, ◌+◌}
use native.Mathlib.Nat.{sub-zero}
use native.Mathlib.Omega.{arith}
use Rattle.ir_records.specs.Record.{Decoded, decoded, type_count}
use Rattle.proc_type_methods.specs.TypeMethods.{size_of}
use Rattle.valid_arena.proofs.ArenaLaws.{accepted_types}
use Rattle.place_descent.specs.Place.{step_in, leaf_in}
use Rattle.place_descent.proofs.WalkLaws.{way, place_of_way, place_found, place_started}
use Rattle.place_carried.specs.Carried.{in_leaf, carried, wasted}
use Rattle.place_carried.specs.Leaves.{CarriedAndWasted}
use Rattle.place_carried.proofs.CountLaws.{count_not}
use Rattle.place_carried.proofs.LeafLaws.{held, has}
use Rattle.place_carried.proofs.NarrowLaws.{strides_wide, strides_narrow}

sum_is_size : (types : ℕ → Decoded) (t : ℕ) → carried types t + wasted types t ≡ size_of (types t).inner
unfolding carried wasted
sum_is_size types t = count_not (in_leaf types t) (size_of (types t).inner)

pub carried_and_wasted : CarriedAndWasted
carried_and_wasted =
    record {
      both = sum_is_size;
      is_leaf = λ rule c ts ms a t l k e.
          let h = held rule c (decoded ts ms) (type_count ts) (accepted_types c ts ms a) t l 0 k e in
          record {
            in_leaf =
                record {
                  leaf = record { steps = h.steps; byte = h.byte; ty = h.leaf; place = place_of_way ts ms t l h.way };
                  has = (omega (arith, h.from), omega (arith, h.below));
                };
            firsts = h.firsts;
          };
      every_leaf = λ rule c ts ms a t k i.
          let p = i.in_leaf.leaf in
          let in_it = i.in_leaf.has in
          let w = way (step_in (decoded ts ms)) (leaf_in (decoded ts ms)) p.steps t 0 p.byte p.ty (place_found ts ms t p.steps p.byte p.ty p.place) in
          rw sub-zero at
          (has rule c (decoded ts ms) (type_count ts) (accepted_types c ts ms a) w (place_started ts ms t p.steps p.byte p.ty p.place) i.firsts k in_it.0 in_it.1);
      wide = λ rule c ts ms a t l e. strides_wide rule c (decoded ts ms) (type_count ts) (accepted_types c ts ms a) t l e;
      not_wide = λ rule c ts ms a t l e. strides_narrow rule c (decoded ts ms) (type_count ts) (accepted_types c ts ms a) t l e;
    }
