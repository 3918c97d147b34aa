-- words: lists of bytes
use Rattle.std.specs.Prelude.{ℕ, suc, Bool, true, false, ◌&&◌, List, [], ◌∷◌, ◌==◌}

-- how many leading bytes two words share
unfoldable pub shared : List ℕ → List ℕ → ℕ
shared [] t = 0
shared (a ∷ s) [] = 0
shared (a ∷ s) (b ∷ t) = elim (a == b) [ true ↦ suc (shared s t) | false ↦ 0 ]

unfoldable pub same_word : List ℕ → List ℕ → Bool
same_word [] [] = true
same_word [] (b ∷ t) = false
same_word (a ∷ s) [] = false
same_word (a ∷ s) (b ∷ t) = a == b && same_word s t
