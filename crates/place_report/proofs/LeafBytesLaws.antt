-- What the code works out for a host-shareable type from those before it is what the definition says: the bytes carried, or that it is narrow.
-- Assumes nothing.
use mathlib.Core.Path.{◌≡◌, refl, sym, ap, ◌∙◌}
use mathlib.Core.Bool.{Bool, true, false, ◌||◌}
use mathlib.Core.List.{List}
use Prim.Native.Nat.{ℕ, zero, suc, ◌+◌, ◌*◌, ◌<◌}
use native.Mathlib.Nat.{one-mul}
use native.Mathlib.Omega.{arith}
use lib.Dec.{T, ltb}
use Rattle.ir_records.specs.Result.{pick}
use Rattle.ir_records.specs.Record.{Decoded, member_type}
use Rattle.ir_records.specs.declared.TypeInner.{TypeInner}
use Rattle.ir_records.specs.declared.TypeInner.TheVariants.{Plain, Array, RuntimeArray, Struct, Other}
use Rattle.proc_type_methods.specs.TypeMethods.{size_of}
use Rattle.valid_flags.specs.Flags.{bit, host_shareable_bit}
use Rattle.valid_flags.proofs.BitLaws.{bit-and}
use Rattle.valid_type_info.specs.declared.UniformRule.{UniformRule}
use Rattle.valid_type_info.specs.Verdict.{least_for}
use Rattle.valid_arena.specs.Arena.{row}
use Rattle.valid_arena.proofs.AcceptedLaws.{AcceptedTypes, plain-row, array_row, runtime_array_row, struct_row, struct_member, member_earlier}
use Rattle.place_carried.specs.Count.{some, sum}
use Rattle.place_carried.specs.Carried.{narrow_of, carried, narrow}
use Rattle.place_carried.specs.Serving.{leaf_carried}
use Rattle.place_carried.proofs.SumLaws.{size-of, carried_leaf, carried_array, carried_runtime_array, carried_struct, carried_other}
use Rattle.place_carried.proofs.NarrowLaws.{narrow_is, narrow_array, narrow_runtime_array, narrow-struct, strides_wide}
use Rattle.std.specs.Prelude.{Option, Some, None}
use Rattle.place_report.specs.Serving.{times, plus, array_bytes, members_bytes, leaf_bytes_of, leaf_bytes}

-- where a type is narrow, and where it is not
bytes_narrow : (types : ℕ → Decoded) (t : ℕ) → narrow types t ≡ true → None ≡ leaf_bytes types t
bytes_narrow types t e = rw e refl

bytes_carried : (types : ℕ → Decoded) (t bytes : ℕ) → narrow types t ≡ false → carried types t ≡ bytes → Some bytes ≡ leaf_bytes types t
bytes_carried types t bytes e q = rw (e, q) refl

-- an array's
array_bytes_is : (types : ℕ → Decoded) (t base count stride : ℕ) → narrow types t ≡ (ltb stride (size_of (types base).inner) || narrow types base)
    → (narrow types t ≡ false → carried types t ≡ count * carried types base)
    → array_bytes count stride (size_of (types base).inner) (leaf_bytes types base) ≡ leaf_bytes types t
array_bytes_is types t base count stride n c = go (ltb stride (size_of (types base).inner)) (narrow types base) n
  where
    go : (x y : Bool) → narrow types t ≡ (x || y) → pick x None (times count (pick y None (Some (carried types base)))) ≡ leaf_bytes types t
    go true y n = bytes_narrow types t n
    go false true n = bytes_narrow types t n
    go false false n = bytes_carried types t (count * carried types base) n (c n)

-- the members'
plus_bytes : (x y : Bool) (a b : ℕ) → plus (pick x None (Some a)) (pick y None (Some b)) ≡ pick (x || y) None (Some (a + b))
plus_bytes true y a b = refl
plus_bytes false true a b = refl
plus_bytes false false a b = refl

members_bytes_is : (types : ℕ → Decoded) (earlier : ℕ → Option ℕ) (members : List ℕ) (j : ℕ) → ((i : ℕ) → i < j → earlier (member_type members i) ≡ leaf_bytes types (member_type members i))
    → members_bytes earlier members j ≡ pick (some (λ i. narrow types (member_type members i)) j) None (Some (sum (λ i. carried types (member_type members i)) j))
unfolding members_bytes some sum
members_bytes_is types earlier members zero h = refl
members_bytes_is types earlier members (suc j) h =
    rw (members_bytes_is types earlier members j (λ i l. h i (omega arith)), h j (omega arith))
    (plus_bytes (some (λ i. narrow types (member_type members i)) j) (narrow types (member_type members j)) (sum (λ i. carried types (member_type members i)) j) (carried types (member_type members j)))

module _ (rule : UniformRule) (c : ℕ) (types : ℕ → Decoded) (n : ℕ) (acc : AcceptedTypes c types n) where
  abbrev pub Shareable : ℕ → Type 0
  Shareable t = T (bit (row (least_for rule) c types t).flags host_shareable_bit)

  module _ (size : ℕ → ℕ) (earlier : ℕ → Option ℕ) (t : ℕ) (l : t < n) (o : Shareable t) (sizes : (u : ℕ) → u < t → size u ≡ (row (least_for rule) c types u).size)
      (before : (u : ℕ) → u < t → Shareable u → earlier u ≡ leaf_bytes types u) where
    pub leaf_bytes_is : (this : TypeInner) → (types t).inner ≡ this → (own : ℕ) → own ≡ (row (least_for rule) c types t).size → leaf_bytes_of size earlier this (types t).members own ≡ leaf_bytes types t
    unfolding leaf_bytes_of narrow_of
    leaf_bytes_is (Plain leaf) e own q =
        ap (λ (s : ℕ). Some (leaf_carried leaf s)) (q ∙ (plain-row (least_for rule) c types n acc t l leaf e).size)
        ∙ bytes_carried types t _ (narrow_is types t (Plain leaf) e) (carried_leaf rule c types n acc t l leaf e)
    leaf_bytes_is (Array base count stride) e own q =
        let a = array_row (least_for rule) c types n acc t l base count stride e in
        let b = a.0 in
        let s = size-of rule c types n acc base (omega arith) (types base).inner refl in
        let h = (bit-and (row (least_for rule) c types base).flags 247 host_shareable_bit (rw a.1.flags at o)).0 in
        rw (before base b h, sizes base b ∙ s)
        (array_bytes_is types t base count stride (narrow_array types t base count stride e b)
        (λ f. carried_array rule c types n acc t l (strides_wide rule c types n acc t l f) base count stride e))
    leaf_bytes_is (RuntimeArray base stride) e own q =
        let a = runtime_array_row (least_for rule) c types n acc t l base stride e in
        let b = a.0 in
        let s = size-of rule c types n acc base (omega arith) (types base).inner refl in
        let h = (bit-and (row (least_for rule) c types base).flags 149 host_shareable_bit (rw a.1.flags at o)).0 in
        rw (before base b h, sizes base b ∙ s)
        (array_bytes_is types t base 1 stride (narrow_runtime_array types t base stride e b)
        (λ f. carried_runtime_array rule c types n acc t l (strides_wide rule c types n acc t l f) base stride e ∙ sym (one-mul (carried types base))))
    leaf_bytes_is (Struct count span) e own q =
        let members = (types t).members in
        let b = member_earlier (least_for rule) c types n acc t l count span e in
        let r = struct_row (least_for rule) c types n acc t l count span e in
        members_bytes_is types earlier members count
        (λ i k. before (member_type members i) (b i k) ((struct_member (least_for rule) c types n acc t l count span e i k).flag host_shareable_bit (rw (r.flags host_shareable_bit refl) at o)))
        ∙ go (some (λ i. narrow types (member_type members i)) count) (narrow-struct types t count span e b)
      where
        go : (x : Bool) → narrow types t ≡ x → pick x None (Some (sum (λ i. carried types (member_type (types t).members i)) count)) ≡ leaf_bytes types t
        go true f = bytes_narrow types t f
        go false f = bytes_carried types t _ f (carried_struct rule c types n acc t l (strides_wide rule c types n acc t l f) o count span e)
    leaf_bytes_is (Other x) e own q = bytes_carried types t 0 (narrow_is types t (Other x) e) (carried_other rule c types n acc t x e)
