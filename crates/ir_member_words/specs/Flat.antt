-- 01, 'Shapes that must change': members as a lent run of member records, and the member words that they stand for.
-- Assumes nothing.
use Rattle.std.specs.Prelude.{ℕ, List, [], ◌∷◌}
use Rattle.ir_member_words.specs.declared.Member.{Member}

-- the words of the records, one record after the other, type, offset, location, blend source
unfoldable pub flat : List Member → List ℕ
flat [] = []
flat (m ∷ ms) = m.ty ∷ m.offset ∷ m.location ∷ m.source ∷ flat ms
