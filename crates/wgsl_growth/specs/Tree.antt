-- 02, E7: the WGSL types that a text denotes: its grammar read into the trees of the crate w3c, with no record made and nothing placed. What WGSL does
-- not have, a matrix of no float or an atomic of no integer, denotes no type, and neither does what it is part of.
-- Assumes nothing.
use Rattle.std.specs.Prelude.{List, [], ◌∷◌, ℕ, zero, suc, ◌+◌, eqb, length}
use Rattle.std.specs.Prelude as std
use Rattle.std.proofs.Math.Option.{Option, none, some}
use Rattle.ir_records.specs.Result.{pick}
use Rattle.w3c_agreement.specs.Plain as plain
use Rattle.w3c_agreement.specs.Wgsl as wgsl
use Rattle.w3c_agreement.specs.Wgsl.{WgslType}
use Rattle.wgsl_tokens.specs.Tokens.{Token, word, number, large, mark, bad, code, tokens}
use Rattle.wgsl_names.specs.Names.{same, struct_word, predeclared}
use Rattle.wgsl_names.specs.declared.Scalar.{Scalar}
use Rattle.wgsl_names.specs.declared.Scalar.TheVariants.{Bool as BoolScalar, I32, U32, F32, F16}
use Rattle.wgsl_names.specs.declared.Dimension.{Dimension}
use Rattle.wgsl_names.specs.declared.Dimension.TheVariants.{Two, Three, Four}
use Rattle.wgsl_names.specs.declared.Template.{Template}
use Rattle.wgsl_names.specs.declared.Template.TheVariants.{Vector, Matrix, Atomic}
use Rattle.wgsl_names.specs.declared.TypeName.{TypeName}
use Rattle.wgsl_names.specs.declared.TypeName.TheVariants as name
use Rattle.wgsl_grammar.specs.Grammar.{Reading, refused, read, and_then, expect, skipping, name_of}
use Rattle.wgsl_placement.specs.Placement.{Count}
use Rattle.wgsl_types.specs.Types.{most_depth, scalar_of, count_of}
use Rattle.wgsl_members.specs.Members.{Given, attributes, attributes_of}
use Rattle.wgsl_members.specs.declared.Attributes.{Attributes}
use Rattle.wgsl_structs.specs.Structs.{MemberEnd, stops, closes, goes, member_end}

-- ---- types
abbrev pub mapped : {A B : Type 0} → (A → B) → Option A → Option B
mapped f none = none
mapped f (some a) = some (f a)

abbrev pub scalar_tree : Scalar → plain.Scalar
scalar_tree BoolScalar = plain.bool
scalar_tree I32 = plain.integer plain.i32
scalar_tree U32 = plain.integer plain.u32
scalar_tree F32 = plain.float plain.f32
scalar_tree F16 = plain.float plain.f16

abbrev pub dimension_tree : Dimension → plain.Dimension
dimension_tree Two = plain.two
dimension_tree Three = plain.three
dimension_tree Four = plain.four

-- matrices are of floats, atomics of integers
abbrev pub float_of : Scalar → Option plain.Float
float_of BoolScalar = none
float_of I32 = none
float_of U32 = none
float_of F32 = some plain.f32
float_of F16 = some plain.f16

abbrev pub integer_of : Scalar → Option plain.Integer
integer_of BoolScalar = none
integer_of I32 = some plain.i32
integer_of U32 = some plain.u32
integer_of F32 = none
integer_of F16 = none

abbrev pub template_tree : Template → Scalar → Option WgslType
template_tree (Vector n) s = some (wgsl.plain (plain.vector (dimension_tree n) (scalar_tree s)))
template_tree (Matrix columns rows) s = mapped (λ f. wgsl.plain (plain.matrix (dimension_tree columns) (dimension_tree rows) f)) (float_of s)
template_tree Atomic s = mapped (λ i. wgsl.plain (plain.atomic i)) (integer_of s)

abbrev pub array_tree : Count → Option WgslType → Option WgslType
array_tree (std.Some n) x = mapped (λ type. wgsl.array type n) x
array_tree std.None x = mapped (λ type. wgsl.runtime_array type) x

-- k where the attribute is given once
abbrev pub option_of : Given → Option ℕ
option_of (std.Ok std.None) = none
option_of (std.Ok (std.Some k)) = some k
option_of (std.Err x) = none

-- the last member, and one before others
abbrev pub last_tree : Attributes → Option WgslType → Option wgsl.Members
last_tree a x = mapped (λ type. wgsl.last type (option_of a.align) (option_of a.size)) x

abbrev pub member_tree : Attributes → Option WgslType → Option wgsl.Members → Option wgsl.Members
member_tree a none rest = none
member_tree a (some type) none = none
member_tree a (some type) (some rest) = some (wgsl.member type (option_of a.align) (option_of a.size) rest)

-- ---- read from tokens
pub record TreeAt : Type 0 where
  pub tree : Option WgslType
  pub rest : List Token

abbrev pub tree_at : Option WgslType → List Token → TreeAt
tree_at tree rest = record { tree = tree; rest = rest }

pub record NamedTree : Type 0 where
  pub name : List ℕ
  pub tree : Option WgslType

unfoldable pub tree_named : List ℕ → List NamedTree → Option (Option WgslType)
tree_named w [] = none
tree_named w (n ∷ ns) = pick (same w n.name) (some n.tree) (tree_named w ns)

abbrev pub template_of_tree : Template → Option Scalar → List Token → Reading TreeAt
template_of_tree t none ts = refused 31
template_of_tree t (some s) ts = and_then (expect 62 (skipping 44 ts)) (λ rest. read (tree_at (template_tree t s) rest))

unfoldable pub template_read : (left : ℕ) → Template → List Token → Reading TreeAt
template_read zero t ts = refused 31
template_read (suc left) t ts = and_then (name_of ts) (λ n. template_of_tree t (scalar_of (predeclared n.name)) n.rest)

-- after the element
unfoldable pub array_read : Option WgslType → List Token → Reading TreeAt
array_read x ts = and_then (count_of ts) (λ c. read (tree_at (array_tree c.count x) c.rest))

abbrev pub type_read : (inner : List Token → Reading TreeAt) → (left : ℕ) → std.Option TypeName → Option (Option WgslType) → List Token → Reading TreeAt
type_read inner left (std.Some (name.OfScalar s)) found ts = read (tree_at (some (wgsl.plain (plain.scalar (scalar_tree s)))) ts)
type_read inner left (std.Some (name.OfTemplate t)) found ts = and_then (expect 60 ts) (λ ts. template_read left t ts)
type_read inner left (std.Some name.Array) found ts = and_then (expect 60 ts) (λ ts. and_then (inner ts) (λ e. array_read e.tree e.rest))
type_read inner left std.None (some x) ts = read (tree_at x ts)
type_read inner left std.None none ts = refused 32

unfoldable pub type_tree : (left : ℕ) → List NamedTree → List Token → Reading TreeAt
type_tree zero trees ts = refused 31
type_tree (suc left) trees ts = and_then (name_of ts) (λ n. type_read (type_tree left trees) left (predeclared n.name) (tree_named n.name trees) n.rest)

-- ---- members
pub record FieldAt : Type 0 where
  pub attributes : Attributes
  pub tree : Option WgslType
  pub rest : List Token

unfoldable pub typed_field : List NamedTree → Attributes → List Token → Reading FieldAt
typed_field trees a ts = and_then (type_tree most_depth trees ts) (λ t. read (record { attributes = a; tree = t.tree; rest = t.rest }))

unfoldable pub named_field : List NamedTree → Attributes → List Token → Reading FieldAt
named_field trees a ts = and_then (name_of ts) (λ n. and_then (expect 58 n.rest) (λ ts. typed_field trees a ts))

unfoldable pub field_tree : (turns : ℕ) → List NamedTree → List Token → Reading FieldAt
field_tree turns trees ts = and_then (attributes_of turns (attributes (std.Ok std.None) (std.Ok std.None)) ts) (λ a. named_field trees a.given a.rest)

pub record FieldsAt : Type 0 where
  pub tree : Option wgsl.Members
  pub rest : List Token

abbrev pub fields_at : Option wgsl.Members → List Token → FieldsAt
fields_at tree rest = record { tree = tree; rest = rest }

abbrev pub fields_after : MemberEnd → FieldAt → (List Token → Reading FieldsAt) → Reading FieldsAt
fields_after (stops n) f more = refused n
fields_after (closes ts) f more = read (fields_at (last_tree f.attributes f.tree) ts)
fields_after (goes ts) f more = and_then (more ts) (λ m. read (fields_at (member_tree f.attributes f.tree m.tree) m.rest))

unfoldable pub fields_tree : (turns left : ℕ) → List NamedTree → List Token → Reading FieldsAt
fields_tree turns zero trees ts = refused 31
fields_tree turns (suc left) trees ts =
    and_then (field_tree turns trees ts) (λ f. fields_after (member_end f.rest) f (λ ts. fields_tree turns left trees ts))

-- ---- structs
pub record TreesAt : Type 0 where
  pub trees : List NamedTree
  pub rest : List Token

abbrev pub trees_at : List NamedTree → List Token → TreesAt
trees_at trees rest = record { trees = trees; rest = rest }

abbrev pub named_tree : (name : List ℕ) → Option wgsl.Members → NamedTree
named_tree name members = record { name = name; tree = mapped (λ m. wgsl.struct m) members }

unfoldable pub body_tree : (turns : ℕ) → List NamedTree → (name : List ℕ) → List Token → Reading TreesAt
body_tree turns trees name ts = and_then (fields_tree turns turns trees ts) (λ m. read (trees_at (named_tree name m.tree ∷ trees) m.rest))

unfoldable pub struct_tree : (turns : ℕ) → List NamedTree → List Token → Reading TreesAt
struct_tree turns trees ts = and_then (name_of ts) (λ n. and_then (expect 123 n.rest) (λ ts. body_tree turns trees n.name ts))

-- ---- declarations
pub data DeclarationTree : Type 0 where
  finished : DeclarationTree
  wrong : (number : ℕ) → DeclarationTree
  further : TreesAt → DeclarationTree

abbrev pub trees_by : Reading TreesAt → DeclarationTree
trees_by (refused n) = wrong n
trees_by (read t) = further t

abbrev pub declaration_tree : (turns : ℕ) → List NamedTree → List Token → DeclarationTree
declaration_tree turns trees [] = finished
declaration_tree turns trees (mark c ∷ ts) = pick (eqb c 59) (further (trees_at trees ts)) (wrong 31)
declaration_tree turns trees (word w ∷ ts) = pick (same w struct_word) (trees_by (struct_tree turns trees ts)) (wrong 31)
declaration_tree turns trees (number n ∷ ts) = wrong 31
declaration_tree turns trees (large ∷ ts) = wrong 31
declaration_tree turns trees (bad ∷ ts) = wrong 31

abbrev pub trees_after : DeclarationTree → List NamedTree → (TreesAt → Reading (List NamedTree)) → Reading (List NamedTree)
trees_after finished trees more = read trees
trees_after (wrong n) trees more = refused n
trees_after (further t) trees more = more t

unfoldable pub declarations_tree : (turns left : ℕ) → List NamedTree → List Token → Reading (List NamedTree)
declarations_tree turns zero trees ts = refused 31
declarations_tree turns (suc left) trees ts =
    trees_after (declaration_tree turns trees ts) trees (λ t. declarations_tree turns left t.trees t.rest)

-- the structs of a text, the last one first, by name: what each denotes
unfoldable pub trees_of : List ℕ → Reading (List NamedTree)
trees_of s = declarations_tree (length s) (length s + 1) [] (tokens (code 0) s)
