-- Serves the contracts of functions inside the library: it adds nothing to what the other files say, and a reader may skip it.
-- Assumes nothing.
use Rattle.std.specs.Prelude.{◌≡◌, Bool, List, ℕ, suc, ◌<◌, ◌^◌, eqb, Option, Some, None}
use Rattle.ir_records.specs.Result.{Result, pick, and_then}
use Rattle.ir_records.specs.declared.TypeInner.{TypeInner}
use Rattle.valid_blend.specs.declared.BlendFault.{BlendFault}
use Rattle.valid_blend.specs.declared.BlendFault.TheVariants.{InvalidBlendSrcIndex, BindingCollisionBlendSrc, InvalidBlendSrcWithOtherBindings, BlendSrcOutputTypeMismatch, NotIoShareableType, IncompleteBlendSrcUsage}
use Rattle.valid_blend.specs.Blend.{sources_after, struct_blend}

-- all rules of blend sources
abbrev pub blended_flags : (dual : Bool) (inner : ℕ → TypeInner) (flags : ℕ → ℕ) (members : List ℕ) (count left : ℕ) → Result ℕ
blended_flags dual inner flags members count left = and_then (sources_after dual members count) (λ _. struct_blend inner flags members count left)

-- how many members' blend sources come before a number of a member: 17 is asked first
abbrev pub sources_before : (number member : ℕ) → ℕ
sources_before number member = pick (eqb number 17) member (suc member)

-- a member's number as `source_at` has it
abbrev pub plus_one : Option ℕ → ℕ
plus_one (Some j) = suc j
plus_one None = 0

-- the detail of number 34
abbrev pub detail_of : BlendFault → ℕ
detail_of InvalidBlendSrcIndex = 1
detail_of BindingCollisionBlendSrc = 2
detail_of InvalidBlendSrcWithOtherBindings = 3
detail_of BlendSrcOutputTypeMismatch = 4
detail_of NotIoShareableType = 5
detail_of IncompleteBlendSrcUsage = 6

-- what a closure answers of a type is a number of it
abbrev pub Gives : (post : ℕ → ℕ → Type 0) (number : ℕ → ℕ) → Type 0
Gives post number = (t r : ℕ) → t < 2 ^ 32 → post t r → r ≡ number t
