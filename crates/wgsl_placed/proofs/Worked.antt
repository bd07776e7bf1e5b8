-- The worked layouts of the W3C WGSL specification (structs A and B), computed by the definition from their text: every record, offset, alignment and size.
-- Assumes nothing.
use mathlib.Core.Path.{◌≡◌, refl, sym, ◌∙◌}
use mathlib.Core.Bool.{true}
use mathlib.Core.List.{List, [], ◌∷◌, ◌++◌}
use mathlib.Core.Option.{none, some}
use Prim.Native.Nat.{ℕ}
use Rattle.ir_records.specs.Record.{Decoded, decoded}
use Rattle.program_words.specs.Words.{run_of}
use Rattle.program_words.specs.Number.{all_digits, decimal, number_of}
use Rattle.w3c_agreement.specs.Plain.{scalar, vector, integer, float, i32, f32, Dimension, two, three}
use Rattle.w3c_agreement.specs.Wgsl.{WgslType, plain, array, struct, last, member}
use Rattle.wgsl_tokens.specs.Tokens.{word_of, digits_of, code_step, step_of, tokens}
use Rattle.wgsl_names.specs.Names.{same, first_keyword, middle_keyword, last_keyword, is_keyword, matrix_named, vector_named, predeclared}
use Rattle.wgsl_grammar.specs.Grammar.{Reading, read}
use Rattle.wgsl_placement.specs.Placement.{shape}
use Rattle.wgsl_tables.specs.Tables.{Named, is_one_of, lookup}
use Rattle.wgsl_types.specs.Types.{make_type, template_type, number_count, comma_count, count_of, array_of, type_after, type_of}
use Rattle.wgsl_members.specs.Members.{attributes_of, with_member, typed_member, named_member, member_of}
use Rattle.wgsl_structs.specs.Structs.{member_end, members_of, with_struct, struct_body, struct_of, declarations_of}
use Rattle.wgsl_read.specs.Text.{text_of}
use Rattle.wgsl_growth.specs.Tree.{NamedTree, tree_named, template_read, array_read, type_tree, typed_field, named_field, field_tree, fields_tree, body_tree, struct_tree, declarations_tree, trees_of}
use Rattle.wgsl_growth.proofs.InductionLaws.{extends_same}
use Rattle.wgsl_placed.specs.Denoted.{Measured}
use Rattle.wgsl_placed.proofs.DenotedProof.{text_denoted}

-- "struct A { u: f32, v: f32, w: vec2<f32>, x: f32 }\n"
abbrev pub text_a : List ℕ
text_a = 115 ∷ 116 ∷ 114 ∷ 117 ∷ 99 ∷ 116 ∷ 32 ∷ 65 ∷ 32 ∷ 123 ∷ 32 ∷ 117 ∷ 58 ∷ 32 ∷ 102 ∷ 51 ∷ 50 ∷ 44 ∷ 32 ∷ 118 ∷ 58 ∷ 32 ∷ 102 ∷ 51 ∷ 50 ∷ 44 ∷ 32 ∷ 119 ∷ 58 ∷ 32 ∷ 118 ∷ 101 ∷ 99 ∷ 50 ∷ 60 ∷ 102 ∷ 51 ∷ 50 ∷ 62 ∷ 44 ∷ 32 ∷ 120 ∷ 58 ∷ 32 ∷ 102 ∷ 51 ∷ 50 ∷ 32 ∷ 125 ∷ 10 ∷ []

-- "struct B { a: vec2<f32>, b: vec3<f32>, c: f32, d: f32,\n e: A, f: vec3<f32>, g: array<A, 3>, h: i32 }\n"
abbrev pub text_b : List ℕ
text_b =
    115 ∷ 116 ∷ 114 ∷ 117 ∷ 99 ∷ 116 ∷ 32 ∷ 66 ∷ 32 ∷ 123 ∷ 32 ∷ 97 ∷ 58 ∷ 32 ∷ 118 ∷ 101 ∷ 99 ∷ 50 ∷ 60 ∷ 102 ∷ 51 ∷ 50 ∷ 62 ∷ 44 ∷ 32 ∷ 98 ∷ 58 ∷ 32 ∷ 118 ∷ 101 ∷ 99 ∷ 51 ∷ 60 ∷ 102 ∷ 51 ∷ 50 ∷ 62 ∷ 44 ∷ 32 ∷ 99 ∷ 58 ∷ 32 ∷ 102 ∷ 51 ∷ 50 ∷ 44 ∷ 32 ∷ 100 ∷ 58 ∷ 32 ∷ 102 ∷ 51 ∷ 50 ∷ 44 ∷ 10
    ∷ 32 ∷ 101 ∷ 58 ∷ 32 ∷ 65 ∷ 44 ∷ 32 ∷ 102 ∷ 58 ∷ 32 ∷ 118 ∷ 101 ∷ 99 ∷ 51 ∷ 60 ∷ 102 ∷ 51 ∷ 50 ∷ 62 ∷ 44 ∷ 32 ∷ 103 ∷ 58 ∷ 32 ∷ 97 ∷ 114 ∷ 114 ∷ 97 ∷ 121 ∷ 60 ∷ 65 ∷ 44 ∷ 32 ∷ 51 ∷ 62 ∷ 44 ∷ 32 ∷ 104 ∷ 58 ∷ 32 ∷ 105 ∷ 51 ∷ 50 ∷ 32 ∷ 125 ∷ 10 ∷ []

-- the type records of A: u, v, the f32 of w, w, x; members from 0 on, four of them, and SizeOf(A) = 24
abbrev pub types_a : List ℕ
types_a = 0 ∷ 2 ∷ 4 ∷ 0 ∷ 0 ∷ 0 ∷ 0 ∷ 2 ∷ 4 ∷ 0 ∷ 0 ∷ 0 ∷ 0 ∷ 2 ∷ 4 ∷ 0 ∷ 0 ∷ 0 ∷ 1 ∷ 2 ∷ 2 ∷ 4 ∷ 0 ∷ 0 ∷ 0 ∷ 2 ∷ 4 ∷ 0 ∷ 0 ∷ 0 ∷ 8 ∷ 0 ∷ 4 ∷ 24 ∷ 0 ∷ 0 ∷ []

-- of B: the f32 of a, a, the f32 of b, b, c, d, the f32 of f, f; g, three of type 5 with StrideOf 24; h; members from 4 on, eight of them, and SizeOf(B) = 160
abbrev pub types_b : List ℕ
types_b = 0 ∷ 2 ∷ 4 ∷ 0 ∷ 0 ∷ 0 ∷ 1 ∷ 2 ∷ 2 ∷ 4 ∷ 0 ∷ 0 ∷ 0 ∷ 2 ∷ 4 ∷ 0 ∷ 0 ∷ 0 ∷ 1 ∷ 3 ∷ 2 ∷ 4 ∷ 0 ∷ 0 ∷ 0 ∷ 2 ∷ 4 ∷ 0 ∷ 0 ∷ 0 ∷ 0 ∷ 2 ∷ 4 ∷ 0 ∷ 0 ∷ 0 ∷ 0 ∷ 2 ∷ 4 ∷ 0 ∷ 0 ∷ 0 ∷ 1 ∷ 3 ∷ 2 ∷ 4 ∷ 0 ∷ 0 ∷ 7 ∷ 5 ∷ 0 ∷ 3 ∷ 24 ∷ 0 ∷ 0 ∷ 0 ∷ 4 ∷ 0 ∷ 0 ∷ 0 ∷ 8 ∷ 4 ∷ 8 ∷ 160 ∷ 0 ∷ 0 ∷ []

-- the member records of A: offsets 0, 4, 8, 16
abbrev pub members_a : List ℕ
members_a = 0 ∷ 0 ∷ 0 ∷ 0 ∷ 1 ∷ 4 ∷ 0 ∷ 0 ∷ 3 ∷ 8 ∷ 0 ∷ 0 ∷ 4 ∷ 16 ∷ 0 ∷ 0 ∷ []

-- of B: offsets 0, 16, 28, 32, 40, 64, 80, 152
abbrev pub members_b : List ℕ
members_b = 7 ∷ 0 ∷ 0 ∷ 0 ∷ 9 ∷ 16 ∷ 0 ∷ 0 ∷ 10 ∷ 28 ∷ 0 ∷ 0 ∷ 11 ∷ 32 ∷ 0 ∷ 0 ∷ 5 ∷ 40 ∷ 0 ∷ 0 ∷ 13 ∷ 64 ∷ 0 ∷ 0 ∷ 14 ∷ 80 ∷ 0 ∷ 0 ∷ 15 ∷ 152 ∷ 0 ∷ 0 ∷ []

-- AlignOf(A) = 8, SizeOf(A) = 24
abbrev pub named_a : Named
named_a = record { name = 65 ∷ []; shape = shape 5 24 8 true }

-- AlignOf(B) = 16, SizeOf(B) = 160
abbrev pub named_b : Named
named_b = record { name = 66 ∷ []; shape = shape 16 160 16 true }

-- struct A, in tables of six type and four member records
pub worked_a : text_of 36 16 text_a
    ≡ read (record { types = record { made = 6; words = types_a }; members = record { made = 4; words = members_a }; structs = named_a ∷ []; rest = [] })
unfolding text_of declarations_of struct_of struct_body with_struct members_of member_end member_of named_member typed_member with_member attributes_of type_of type_after template_type array_of count_of comma_count number_count make_type lookup is_one_of predeclared vector_named matrix_named is_keyword first_keyword middle_keyword last_keyword same tokens step_of code_step word_of digits_of run_of all_digits decimal number_of
worked_a = refl

-- structs A and B, in tables of seventeen type and twelve member records
pub worked_b : text_of 102 48 (text_a ++ text_b)
    ≡ read (record { types = record { made = 17; words = types_a ++ types_b }; members = record { made = 12; words = members_a ++ members_b }; structs = named_b ∷ named_a ∷ []; rest = [] })
unfolding text_of declarations_of struct_of struct_body with_struct members_of member_end member_of named_member typed_member with_member attributes_of type_of type_after template_type array_of count_of comma_count number_count make_type lookup is_one_of predeclared vector_named matrix_named is_keyword first_keyword middle_keyword last_keyword same tokens step_of code_step word_of digits_of run_of all_digits decimal number_of
worked_b = refl

-- ---- the types that the text denotes, and that these are placed so
abbrev scalar_f32 : WgslType
scalar_f32 = plain (scalar (float f32))

abbrev vector_f32 : Dimension → WgslType
vector_f32 n = plain (vector n (float f32))

abbrev pub struct_a : WgslType
struct_a = struct (member scalar_f32 none none (member scalar_f32 none none (member (vector_f32 two) none none (last scalar_f32 none none))))

abbrev pub struct_b : WgslType
struct_b =
    struct
    (member (vector_f32 two) none none
    (member (vector_f32 three) none none
    (member scalar_f32 none none
    (member scalar_f32 none none
    (member struct_a none none
    (member (vector_f32 three) none none
    (member (array struct_a 3) none none
    (last (plain (scalar (integer i32))) none none))))))))

abbrev trees_ab : List NamedTree
trees_ab = record { name = 66 ∷ []; tree = some struct_b } ∷ record { name = 65 ∷ []; tree = some struct_a } ∷ []

worked_trees : trees_of (text_a ++ text_b) ≡ read trees_ab
unfolding trees_of declarations_tree struct_tree body_tree fields_tree member_end field_tree named_field typed_field attributes_of type_tree template_read array_read count_of comma_count number_count tree_named predeclared vector_named matrix_named is_keyword first_keyword middle_keyword last_keyword same tokens step_of code_step word_of digits_of run_of all_digits decimal number_of
worked_trees = refl

abbrev tables : ℕ → Decoded
tables = decoded (types_a ++ types_b) (members_a ++ members_b)

pub worked_placed : Measured tables named_a.shape struct_a × Measured tables named_b.shape struct_b
worked_placed =
    let all =
    text_denoted 102 48 (text_a ++ text_b)
    (record { types = record { made = 17; words = types_a ++ types_b }; members = record { made = 12; words = members_a ++ members_b }; structs = named_b ∷ named_a ∷ []; rest = [] }) worked_b
    (types_a ++ types_b) (members_a ++ members_b) (extends_same (types_a ++ types_b)) (extends_same (members_a ++ members_b)) in
    let both : ◌≡◌ {A = Reading (List NamedTree)} (read all.0) (read trees_ab) = sym all.1 ∙ worked_trees in
    let same : all.0 ≡ trees_ab = cc in
    let named = rw same at all.2 in
    (named.2.1, named.1)
