-- `wgsl_names::predeclared` meets its contract: the bytes that an arm tests are the word. Assumes nothing.
use mathlib.Core.List.{[], ◌∷◌}
use native.Mathlib.Omega.{arith}
use Rattle.std.proofs.lemmas.Slice.Eq.{text_from_reads}
use Rattle.wgsl_names.specs.Names.{same, predeclared, vector_named, matrix_named}
use Rattle.wgsl_names.proofs.predeclared.Goals as goal

pub returns-in-atomic : goal.returns-in-atomic
unfolding same predeclared vector_named matrix_named
returns-in-atomic c = rw (text_from_reads c.args.w.now (97 ∷ 116 ∷ 111 ∷ 109 ∷ 105 ∷ 99 ∷ []) (omega arith) (omega arith, (omega arith, (omega arith, (omega arith, (omega arith, (omega arith, tt)))))))

pub returns-in-mat2x2 : goal.returns-in-mat2x2
unfolding same predeclared vector_named matrix_named
returns-in-mat2x2 c = rw (text_from_reads c.args.w.now (109 ∷ 97 ∷ 116 ∷ 50 ∷ 120 ∷ 50 ∷ []) (omega arith) (omega arith, (omega arith, (omega arith, (omega arith, (omega arith, (omega arith, tt)))))))

pub returns-in-mat2x3 : goal.returns-in-mat2x3
unfolding same predeclared vector_named matrix_named
returns-in-mat2x3 c = rw (text_from_reads c.args.w.now (109 ∷ 97 ∷ 116 ∷ 50 ∷ 120 ∷ 51 ∷ []) (omega arith) (omega arith, (omega arith, (omega arith, (omega arith, (omega arith, (omega arith, tt)))))))

pub returns-in-mat2x4 : goal.returns-in-mat2x4
unfolding same predeclared vector_named matrix_named
returns-in-mat2x4 c = rw (text_from_reads c.args.w.now (109 ∷ 97 ∷ 116 ∷ 50 ∷ 120 ∷ 52 ∷ []) (omega arith) (omega arith, (omega arith, (omega arith, (omega arith, (omega arith, (omega arith, tt)))))))

pub returns-in-mat3x2 : goal.returns-in-mat3x2
unfolding same predeclared vector_named matrix_named
returns-in-mat3x2 c = rw (text_from_reads c.args.w.now (109 ∷ 97 ∷ 116 ∷ 51 ∷ 120 ∷ 50 ∷ []) (omega arith) (omega arith, (omega arith, (omega arith, (omega arith, (omega arith, (omega arith, tt)))))))

pub returns-in-mat3x3 : goal.returns-in-mat3x3
unfolding same predeclared vector_named matrix_named
returns-in-mat3x3 c = rw (text_from_reads c.args.w.now (109 ∷ 97 ∷ 116 ∷ 51 ∷ 120 ∷ 51 ∷ []) (omega arith) (omega arith, (omega arith, (omega arith, (omega arith, (omega arith, (omega arith, tt)))))))

pub returns-in-mat3x4 : goal.returns-in-mat3x4
unfolding same predeclared vector_named matrix_named
returns-in-mat3x4 c = rw (text_from_reads c.args.w.now (109 ∷ 97 ∷ 116 ∷ 51 ∷ 120 ∷ 52 ∷ []) (omega arith) (omega arith, (omega arith, (omega arith, (omega arith, (omega arith, (omega arith, tt)))))))

pub returns-in-mat4x2 : goal.returns-in-mat4x2
unfolding same predeclared vector_named matrix_named
returns-in-mat4x2 c = rw (text_from_reads c.args.w.now (109 ∷ 97 ∷ 116 ∷ 52 ∷ 120 ∷ 50 ∷ []) (omega arith) (omega arith, (omega arith, (omega arith, (omega arith, (omega arith, (omega arith, tt)))))))

pub returns-in-mat4x3 : goal.returns-in-mat4x3
unfolding same predeclared vector_named matrix_named
returns-in-mat4x3 c = rw (text_from_reads c.args.w.now (109 ∷ 97 ∷ 116 ∷ 52 ∷ 120 ∷ 51 ∷ []) (omega arith) (omega arith, (omega arith, (omega arith, (omega arith, (omega arith, (omega arith, tt)))))))

pub returns-in-mat4x4 : goal.returns-in-mat4x4
unfolding same predeclared vector_named matrix_named
returns-in-mat4x4 c = rw (text_from_reads c.args.w.now (109 ∷ 97 ∷ 116 ∷ 52 ∷ 120 ∷ 52 ∷ []) (omega arith) (omega arith, (omega arith, (omega arith, (omega arith, (omega arith, (omega arith, tt)))))))
