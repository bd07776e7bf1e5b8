-- 02, E8: what WGSL's uniform_buffer_standard_layout asks of the address space uniform: the storage constraints, and that no member is runtime-sized.
-- Assumes nothing.
use Rattle.w3c_agreement.specs.Placed.{Placed, plain, array, runtime_array, struct, PlacedMembers, last, member, storage, FixedMembers, Constraints}

-- no member is a runtime-sized array, in the type and all that it contains
unfoldable mutual
  pub NoneRuntime : Placed → Type 0
  NoneRuntime (plain p) = Unit {0}
  NoneRuntime (array element count stride) = NoneRuntime element
  NoneRuntime (runtime_array element stride) = NoneRuntime element
  NoneRuntime (struct members span) = FixedMembers members × AllNoneRuntime members

  pub AllNoneRuntime : PlacedMembers → Type 0
  AllNoneRuntime (last type offset) = NoneRuntime type
  AllNoneRuntime (member type offset rest) = NoneRuntime type × AllNoneRuntime rest

abbrev pub StandardLayout : Placed → Type 0
StandardLayout type = Constraints type storage × NoneRuntime type
