-- 01 and 02, 'The refusal': the numbers, and what the answers of the code say.
-- Assumes nothing.
use Rattle.std.specs.Prelude.{◌≡◌, Bool, true, false, ℕ}
use Rattle.std.specs.Prelude as std
use Rattle.ir_records.specs.Result.{Result, err, ok}
use Rattle.ir_records.specs.Outcome.{Outcome, Accepted, Refused}
use Rattle.ir_records.specs.declared.Fault.{Fault}
use Rattle.ir_records.specs.declared.Fault.TheVariants.{TableLength, FieldOutside, BaseOutside, TooLarge, InvalidArrayElementType, InvalidStructMemberType, NonPowerOfTwoWidth, MissingCapability, InvalidWidth, AbstractScalar, MatrixElementNotFloat, InvalidAtomicWidth, InvalidPointerBase, InvalidPointerToUnsized, InvalidArrayBaseType, EmptyStruct, InvalidData, MemberOverlap, MemberOutOfBounds, InvalidDynamicArray, StructSum, UnsupportedImageType, BindingArrayBaseTypeNotStruct, BindingArrayBaseExternalTextures, PastImmediates, NoSuchType, NarrowStride, ModuleHeader, ModuleType, ModuleOrder, Grammar, Name, Attribute, InvalidBlendSrc, NoOrder, Dispatch, PassRange}
use Rattle.ir_records.specs.declared.TypeRefusal.{TypeRefusal}
use Rattle.ir_records.specs.declared.Refusal.{Refusal}

-- the number of each fault
abbrev pub number_of : Fault → ℕ
number_of TableLength = 1
number_of FieldOutside = 2
number_of BaseOutside = 3
number_of TooLarge = 4
number_of InvalidArrayElementType = 5
number_of InvalidStructMemberType = 6
number_of NonPowerOfTwoWidth = 7
number_of MissingCapability = 8
number_of InvalidWidth = 9
number_of AbstractScalar = 10
number_of MatrixElementNotFloat = 11
number_of InvalidAtomicWidth = 12
number_of InvalidPointerBase = 13
number_of InvalidPointerToUnsized = 14
number_of InvalidArrayBaseType = 15
number_of EmptyStruct = 16
number_of InvalidData = 17
number_of MemberOverlap = 18
number_of MemberOutOfBounds = 19
number_of InvalidDynamicArray = 20
number_of StructSum = 21
number_of UnsupportedImageType = 22
number_of BindingArrayBaseTypeNotStruct = 23
number_of BindingArrayBaseExternalTextures = 24
number_of PastImmediates = 25
number_of NoSuchType = 26
number_of NarrowStride = 27
number_of ModuleHeader = 28
number_of ModuleType = 29
number_of ModuleOrder = 30
number_of Grammar = 31
number_of Name = 32
number_of Attribute = 33
number_of InvalidBlendSrc = 34
number_of NoOrder = 35
number_of Dispatch = 36
number_of PassRange = 37

abbrev pub type_refusal : Fault → (member detail : ℕ) → TypeRefusal
type_refusal fault member detail = record { fault = fault; member = member; detail = detail }

abbrev pub refusal : Fault → (ty member detail : ℕ) → Refusal
refusal fault ty member detail = record { fault = fault; ty = ty; member = member; detail = detail }

-- what the judgement of one type gives
abbrev pub judged : {A : Type 0} → std.Result A TypeRefusal → Result A
judged (std.Ok a) = ok a
judged (std.Err r) = err (number_of r.fault) r.member r.detail

-- a refusal as the answer of an arena call
abbrev pub refused_by : Refusal → Outcome
refused_by r = Refused (number_of r.fault) r.ty r.member r.detail

-- the answer of an arena call
abbrev pub outcome_of : {A : Type 0} → std.Result A Refusal → Outcome
outcome_of (std.Ok a) = Accepted
outcome_of (std.Err r) = refused_by r

-- a refusal just where a test says false
abbrev pub RefusedUnless : {E : Type 0} → std.Result (Unit {0}) E → (refused : E) → (fit : Bool) → Type 0
RefusedUnless told refused fit = std.MatchResult told (λ _. fit ≡ true) (λ r. (r ≡ refused) × (fit ≡ false))

-- number 1 just where a test of lengths, or of the capability word, says false
abbrev pub LengthsTold : std.Result (Unit {0}) Refusal → (fit : Bool) → Type 0
LengthsTold told fit = RefusedUnless told (refusal TableLength 0 0 0) fit

-- the judgement of one type as an answer about it
abbrev pub at_type : {A : Type 0} → std.Result A TypeRefusal → ℕ → std.Result A Refusal
at_type (std.Ok a) ty = std.Ok a
at_type (std.Err r) ty = std.Err (refusal r.fault ty r.member r.detail)
