-- The layout sheet: what refusals, capabilities and instructions are called.
-- Assumes nothing.
use Rattle.std.specs.Prelude.{List, [], ◌∷◌, ◌++◌, ℕ, ◌-◌, eqb, ltb, slice_get, Option, None, Some}
use Rattle.std.specs.Option.{unwrap_or}
use Rattle.ir_records.specs.Result.{pick}
use Rattle.ir_records.specs.Refusal.{number_of}
use Rattle.ir_records.specs.declared.Fault.{Fault}
use Rattle.ir_records.specs.declared.Fault.TheVariants as fault
use Rattle.program_output.specs.Bytes.{ascii, decimal, newline}

-- ---- lines
-- a text and the end of its line, where there is one
abbrev pub line : Option (List ℕ) → List ℕ
line None = []
line (Some text) = text ++ newline

-- ---- refusals
-- what a fault means; those of orders and passes have no sheet
unfoldable pub meaning : Fault → Option (List ℕ)
meaning fault.TableLength = Some (ascii "there are more than 1024 types or 4096 members, or the capability word has a bit above 13")
meaning fault.FieldOutside = Some (ascii "a field of a record lies outside its set")
meaning fault.BaseOutside = Some (ascii "a pointer or binding array has a base that is no type")
meaning fault.TooLarge = Some (ascii "an array has more than 2147483647 elements or bytes")
meaning fault.InvalidArrayElementType = Some (ascii "an array's element is no earlier type")
meaning fault.InvalidStructMemberType = Some (ascii "a struct's member is no earlier type")
meaning fault.NonPowerOfTwoWidth = Some (ascii "a scalar's width is no power of two")
meaning fault.MissingCapability = Some (ascii "a capability is missing")
meaning fault.InvalidWidth = Some (ascii "a scalar has a width that its kind may not have")
meaning fault.AbstractScalar = Some (ascii "a scalar is abstract")
meaning fault.MatrixElementNotFloat = Some (ascii "a matrix has elements that are no floats")
meaning fault.InvalidAtomicWidth = Some (ascii "an atomic has a scalar kind and width that no atomic may have")
meaning fault.InvalidPointerBase = Some (ascii "a pointer's base is no data")
meaning fault.InvalidPointerToUnsized = Some (ascii "a pointer to an unsized type stands in another address space than storage")
meaning fault.InvalidArrayBaseType = Some (ascii "an array's element is a type that cannot be an element")
meaning fault.EmptyStruct = Some (ascii "a struct has no members")
meaning fault.InvalidData = Some (ascii "a member is no data")
meaning fault.MemberOverlap = Some (ascii "a member overlaps the one before")
meaning fault.MemberOutOfBounds = Some (ascii "a member ends past the struct's size")
meaning fault.InvalidDynamicArray = Some (ascii "a runtime-sized array is not the last member")
meaning fault.StructSum = Some (ascii "a struct's sum or difference leaves 32 bits")
meaning fault.UnsupportedImageType = Some (ascii "an image is arrayed and 3D, or external and arrayed or not 2D")
meaning fault.BindingArrayBaseTypeNotStruct = Some (ascii "a binding array's base is data and no struct")
meaning fault.BindingArrayBaseExternalTextures = Some (ascii "a binding array's base is an external image")
meaning fault.PastImmediates = Some (ascii "a part ends past byte 256")
meaning fault.NoSuchType = Some (ascii "there is no such type or place")
meaning fault.NarrowStride = Some (ascii "a host-shareable struct reaches an array with a stride below its element's size")
meaning fault.ModuleHeader = Some (ascii "the module's header is short or has another magic number, or a word count is 0, past the end or too small")
meaning fault.ModuleType = Some (ascii "the module refers to a type that is not read, has a width, signedness, encoding or number of parts that is not supported, or stores a matrix otherwise")
meaning fault.ModuleOrder = Some (ascii "an id of the module is missing, given twice or of the wrong sort, a size leaves 32 bits, or an Offset, an ArrayStride or an array's length is not in order")
meaning fault.Grammar = Some (ascii "the text is not what is read: struct declarations and semicolons, with types at most 32 deep")
meaning fault.Name = Some (ascii "a type's name is unknown or repeated, or a member's name is repeated in its struct")
meaning fault.Attribute = Some (ascii "an attribute is one that WGSL forbids, an array's count is 0, or a number or a placement is above 4294967295")
meaning fault.InvalidBlendSrc = Some (ascii "the blend sources of a struct's members are refused")
meaning fault.NoOrder = None
meaning fault.Dispatch = None
meaning fault.PassRange = None

-- the number of a fault, and its meaning with the end of the line
abbrev pub fault_text : Fault → List ℕ
fault_text fault = ascii "refused " ++ decimal (number_of fault) ++ ascii ": " ++ line (meaning fault)

-- ---- capabilities
-- the bits of the capability word, from 0 on
unfoldable pub capabilities : List (List ℕ)
capabilities =
    ascii "FLOAT64, --capabilities 1"
    ∷ ascii "SHADER_FLOAT16, --capabilities 2"
    ∷ ascii "SHADER_INT16, --capabilities 4"
    ∷ ascii "SHADER_INT64, --capabilities 8"
    ∷ ascii "SHADER_FLOAT32_ATOMIC, --capabilities 16"
    ∷ ascii "SHADER_INT64_ATOMIC_MIN_MAX, --capabilities 32"
    ∷ ascii "SHADER_INT64_ATOMIC_ALL_OPS, --capabilities 64"
    ∷ ascii "COOPERATIVE_MATRIX, --capabilities 128"
    ∷ ascii "CUBE_ARRAY_TEXTURES, --capabilities 256"
    ∷ ascii "TEXTURE_EXTERNAL, --capabilities 512"
    ∷ ascii "RAY_QUERY, --capabilities 1024"
    ∷ ascii "RAY_TRACING_PIPELINE, --capabilities 2048"
    ∷ ascii "RAY_HIT_VERTEX_POSITION, --capabilities 4096"
    ∷ ascii "DUAL_SOURCE_BLENDING, --capabilities 8192"
    ∷ []

abbrev pub capability_text : (bit : ℕ) → List ℕ
capability_text bit = line (slice_get capabilities bit)

-- ---- instructions
-- the types among the instructions, from OpTypeVoid, 19, on
unfoldable pub type_instructions : List (List ℕ)
type_instructions =
    ascii "OpTypeVoid"
    ∷ ascii "OpTypeBool"
    ∷ ascii "OpTypeInt"
    ∷ ascii "OpTypeFloat"
    ∷ ascii "OpTypeVector"
    ∷ ascii "OpTypeMatrix"
    ∷ ascii "OpTypeImage"
    ∷ ascii "OpTypeSampler"
    ∷ ascii "OpTypeSampledImage"
    ∷ ascii "OpTypeArray"
    ∷ ascii "OpTypeRuntimeArray"
    ∷ ascii "OpTypeStruct"
    ∷ ascii "OpTypeOpaque"
    ∷ ascii "OpTypePointer"
    ∷ ascii "OpTypeFunction"
    ∷ ascii "OpTypeEvent"
    ∷ ascii "OpTypeDeviceEvent"
    ∷ ascii "OpTypeReserveId"
    ∷ ascii "OpTypeQueue"
    ∷ ascii "OpTypePipe"
    ∷ []

abbrev pub type_instruction : (op : ℕ) → Option (List ℕ)
type_instruction op = pick (ltb op 19) None (slice_get type_instructions (op - 19))

-- an instruction by its opcode, or its number
abbrev pub instruction_name : (op : ℕ) → Option (List ℕ)
instruction_name op =
    pick (eqb op 43) (Some (ascii "OpConstant"))
    (pick (eqb op 71) (Some (ascii "OpDecorate"))
    (pick (eqb op 72) (Some (ascii "OpMemberDecorate"))
    (type_instruction op)))

abbrev pub instruction_text : (op : ℕ) → List ℕ
instruction_text op = unwrap_or (instruction_name op) (ascii "opcode " ++ decimal op) ++ newline
