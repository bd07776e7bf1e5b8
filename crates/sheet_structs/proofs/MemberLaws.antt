-- The text of a member that is written, by the parts of the member.
-- Assumes nothing.
use mathlib.Core.Path.{◌≡◌, subst₂}
use mathlib.Core.List.{List}
use Prim.Native.Nat.{ℕ}
use Rattle.std.specs.Prelude.{Option}
use Rattle.sheet_names.specs.declared.Sheet.{Sheet}
use Rattle.sheet_names.specs.declared.Member.{Member}
use Rattle.sheet_output.specs.declared.Writer.{Writer}
use Rattle.sheet_output.specs.Written.{Writes}
use Rattle.sheet_structs.specs.Structs.{of_member}

module _ {W : Type 0} (k : W → Option (List ℕ)) (text : Member → List ℕ) (member : Member) {sheet : Sheet} {i : ℕ} where
  pub writes_member : {was is : Writer W} → member.of.sheet ≡ sheet → member.of.i ≡ i → Writes k was (text member) is
      → Writes k was (of_member text sheet i member.j member.ty member.offset) is
  writes_member {was} {is} of same written =
      subst₂
      (λ s n. Writes k was (text (record { of = record { sheet = s; i = n }; j = member.j; ty = member.ty; offset = member.offset })) is)
      of same written
