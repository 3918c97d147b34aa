-- how many leading bytes two lists share, in the library's words
use Rattle.std.proofs.Common.{◌≡◌, ℕ, suc, ◌+◌, cond, Bool, true, false, eqb, List, [], ◌∷◌, refl, arith}
use Rattle.std.specs.List.{common_prefix_len}
use Rattle.rules.specs.Words.{shared}

counted : (agree : Bool) (m n : ℕ) → m ≡ n → ◌≡◌ {A = ℕ} (elim agree [ true ↦ suc m | false ↦ 0 ]) (cond agree (1 + n) 0)
counted true m n e = omega arith
counted false m n e = refl

pub shared_is : (a b : List ℕ) → shared a b ≡ common_prefix_len eqb a b
unfolding shared
shared_is [] b = refl
shared_is (x ∷ a) [] = refl
shared_is (x ∷ a) (y ∷ b) = counted (eqb x y) (shared a b) (common_prefix_len eqb a b) (shared_is a b)
