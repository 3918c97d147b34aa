-- a part of a list that is overwritten, element by element
use Rattle.std.proofs.Common.{◌≡◌, ℕ, ◌+◌, ◌<◌, ◌≤◌, List, length, get_or, rules}
use borrow.Rule.Slice.PartMut.{put_mid}
use Rattle.std.proofs.lemmas.List.{places}

module _ (a k : ℕ) (xs ys : List ℕ) (inside : a ≤ length xs) where
  pub part_here : (j : ℕ) → j < length ys → get_or (put_mid a k xs ys) (a + j) 0 ≡ get_or ys j 0
  part_here j h = search (rules, places)

  pub part_below : (i : ℕ) → i < a → get_or (put_mid a k xs ys) i 0 ≡ get_or xs i 0
  part_below i h = search (rules, places)

  pub part_above : (i : ℕ) → length ys ≡ k → a + k ≤ i → get_or (put_mid a k xs ys) i 0 ≡ get_or xs i 0
  part_above i e h = search (rules, places)
