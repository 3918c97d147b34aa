-- the values of rows with their tickets
use Rattle.std.proofs.Common.{◌≡◌, ℕ, zero, suc, ◌<◌, cond, eqb, List, [], ◌∷◌, ◌++◌, length, set, Option, sym, refl, ap, ◌∙◌, arith}
use Rattle.std.proofs.lemmas.Bool.{eq-eqb, ne_eqb}
use Rattle.rules.specs.Book.{Row, row_at}
use Rattle.rules.specs.Calls.{with_value}
use Rattle.dictionary.specs.Shows.{value_with}

module _ {V : Type 0} where
  -- no ticket is two rows'
  abbrev pub Apart : List (Row V) → Type 0
  Apart rows = (j k : ℕ) → j < length rows → k < length rows → (row_at rows j).ticket ≡ (row_at rows k).ticket → j ≡ k

  rest_apart : (r : Row V) (rs : List (Row V)) → Apart (r ∷ rs) → Apart rs
  rest_apart r rs a j k hj hk e = omega (arith, a (suc j) (suc k) (omega arith) (omega arith) e)

  first_apart : (r : Row V) (rs : List (Row V)) → Apart (r ∷ rs) → (j : ℕ) → j < length rs → r.ticket ≡ (row_at rs j).ticket → ⊥
  first_apart r rs a j h e = omega (arith, a 0 (suc j) (omega arith) (omega arith) e)

  here : (r : Row V) (rs : List (Row V)) (n : ℕ) → r.ticket ≡ n → value_with (r ∷ rs) n ≡ r.value
  unfolding value_with
  here r rs n e = rw (eq-eqb r.ticket n e, value_with) refl

  there : (r : Row V) (rs : List (Row V)) (n : ℕ) → (r.ticket ≡ n → ⊥) → value_with (r ∷ rs) n ≡ value_with rs n
  unfolding value_with
  there r rs n d = rw (ne_eqb r.ticket n d, value_with) refl

  pub value_at : (rows : List (Row V)) → Apart rows → (j : ℕ) → j < length rows → value_with rows (row_at rows j).ticket ≡ (row_at rows j).value
  value_at [] a j h = absurd (omega arith)
  value_at (r ∷ rs) a zero h = here r rs r.ticket refl
  value_at (r ∷ rs) a (suc j) h = there r rs _ (first_apart r rs a j (omega arith)) ∙ value_at rs (rest_apart r rs a) j (omega arith)

  -- row j with another value
  abbrev pub revalue : List (Row V) → ℕ → Option V → List (Row V)
  revalue rows j value = set rows j (with_value (row_at rows j) value)

  pub revalued : (rows : List (Row V)) → Apart rows → (j : ℕ) (value : Option V) → j < length rows → value_with (revalue rows j value) (row_at rows j).ticket ≡ value
  revalued [] a j value h = absurd (omega arith)
  revalued (r ∷ rs) a zero value h = here (with_value r value) rs r.ticket refl
  revalued (r ∷ rs) a (suc j) value h = there r (revalue rs j value) _ (first_apart r rs a j (omega arith)) ∙ revalued rs (rest_apart r rs a) j value (omega arith)

  pub other_value : (rows : List (Row V)) (j : ℕ) (value : Option V) (n : ℕ) → ((row_at rows j).ticket ≡ n → ⊥) → value_with (revalue rows j value) n ≡ value_with rows n
  unfolding value_with
  other_value [] j value n d = refl
  other_value (r ∷ rs) zero value n d = there (with_value r value) rs n d ∙ sym (there r rs n d)
  other_value (r ∷ rs) (suc j) value n d = ap (λ (z : Option V). cond (eqb r.ticket n) r.value z) (other_value rs j value n d)

  -- a row more
  pub last_value : (rows : List (Row V)) (y : Row V) → ((j : ℕ) → j < length rows → (row_at rows j).ticket ≡ y.ticket → ⊥) → value_with (rows ++ (y ∷ [])) y.ticket ≡ y.value
  last_value [] y d = here y [] y.ticket refl
  last_value (r ∷ rs) y d = there r (rs ++ (y ∷ [])) y.ticket (d 0 (omega arith)) ∙ last_value rs y (λ j h. d (suc j) (omega arith))

  pub before_last : (rows : List (Row V)) (y : Row V) (n : ℕ) → (y.ticket ≡ n → ⊥) → value_with (rows ++ (y ∷ [])) n ≡ value_with rows n
  unfolding value_with
  before_last [] y n d = there y [] n d
  before_last (r ∷ rs) y n d = ap (λ (z : Option V). cond (eqb r.ticket n) r.value z) (before_last rs y n d)
