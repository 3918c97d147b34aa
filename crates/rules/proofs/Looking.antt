-- one turn of looking, by what it meets
use Rattle.std.proofs.Common.{◌≡◌, ℕ, suc, ◌+◌, ◌-◌, ◌/◌, true, false, List, get_or, drop, Some, None, sym, refl, ap, ◌∙◌, subst}
use Rattle.rules.specs.declared.step.Step.{Step}
use Rattle.rules.specs.Steps.{size, branch_symbol}
use Rattle.rules.specs.Words.{shared, same_word}
use Rattle.rules.specs.Tree.{Tree, label_of, child, Down, down, there, lacks, look_from}

-- how much of a word a node's label shares
abbrev pub meet : Tree → ℕ → List ℕ → ℕ
meet t u s = shared s (label_of t u)

-- where the step children down to the place i of a label lead
abbrev pub reach : Step → Tree → ℕ → ℕ → Down
reach step t u i = down step t.edges (i / size step) u

module _ (step : Step) where
  -- the label is all that is left of the word
  pub look_there : (t : Tree) (f u : ℕ) (s : List ℕ) (m : ℕ) → same_word s (label_of t u) ≡ true → look_from step t (suc f) u s m ≡ there u m
  unfolding look_from
  look_there t f u s m e = rw (e, look_from) refl

  short_turn : (t : Tree) (f u : ℕ) (s : List ℕ) (m k : ℕ) → same_word s (label_of t u) ≡ false → (reach step t u (meet t u s)).missing ≡ suc k
      → look_from step t (suc f) u s m ≡ lacks (reach step t u (meet t u s)).node (suc k) (branch_symbol step (get_or s (meet t u s) 0) (meet t u s)) (drop (suc (meet t u s)) s) (m + (meet t u s / size step - suc k))
  unfolding look_from
  short_turn t f u s m k n d = rw (n, d, look_from) refl

  pub none_turn : (t : Tree) (f u : ℕ) (s : List ℕ) (m : ℕ) → same_word s (label_of t u) ≡ false → (reach step t u (meet t u s)).missing ≡ 0
      → child t.edges (reach step t u (meet t u s)).node (branch_symbol step (get_or s (meet t u s) 0) (meet t u s)) ≡ None
      → look_from step t (suc f) u s m ≡ lacks (reach step t u (meet t u s)).node 0 (branch_symbol step (get_or s (meet t u s) 0) (meet t u s)) (drop (suc (meet t u s)) s) (m + meet t u s / size step)
  unfolding look_from
  none_turn t f u s m n d c = rw (n, d, c, look_from) refl

  next_turn : (t : Tree) (f u : ℕ) (s : List ℕ) (m w : ℕ) → same_word s (label_of t u) ≡ false → (reach step t u (meet t u s)).missing ≡ 0
      → child t.edges (reach step t u (meet t u s)).node (branch_symbol step (get_or s (meet t u s) 0) (meet t u s)) ≡ Some w
      → look_from step t (suc f) u s m ≡ look_from step t f w (drop (suc (meet t u s)) s) (m + meet t u s / size step + 1)
  unfolding look_from
  next_turn t f u s m w n d c = rw (n, d, c, look_from) refl

  -- steps are missing
  pub look_short : (t : Tree) (f u : ℕ) (s : List ℕ) (m i v k : ℕ) → meet t u s ≡ i → same_word s (label_of t u) ≡ false
      → reach step t u i ≡ record { node = v; missing = suc k }
      → look_from step t (suc f) u s m ≡ lacks v (suc k) (branch_symbol step (get_or s i 0) i) (drop (suc i) s) (m + (i / size step - suc k))
  look_short t f u s m i v k e n = subst
      (λ (z : ℕ). reach step t u z ≡ record { node = v; missing = suc k } → look_from step t (suc f) u s m ≡ lacks v (suc k) (branch_symbol step (get_or s z 0) z) (drop (suc z) s) (m + (z / size step - suc k))) e
      (λ d. short_turn t f u s m k n (ap (λ (x : Down). x.missing) d)
      ∙ ap (λ (x : Down). lacks x.node (suc k) (branch_symbol step (get_or s (meet t u s) 0) (meet t u s)) (drop (suc (meet t u s)) s) (m + (meet t u s / size step - suc k))) d)

  -- the child by the symbol is missing
  pub look_none : (t : Tree) (f u : ℕ) (s : List ℕ) (m i v : ℕ) → meet t u s ≡ i → same_word s (label_of t u) ≡ false
      → reach step t u i ≡ record { node = v; missing = 0 } → child t.edges v (branch_symbol step (get_or s i 0) i) ≡ None
      → look_from step t (suc f) u s m ≡ lacks v 0 (branch_symbol step (get_or s i 0) i) (drop (suc i) s) (m + i / size step)
  look_none t f u s m i v e n = subst
      (λ (z : ℕ). reach step t u z ≡ record { node = v; missing = 0 } → child t.edges v (branch_symbol step (get_or s z 0) z) ≡ None
      → look_from step t (suc f) u s m ≡ lacks v 0 (branch_symbol step (get_or s z 0) z) (drop (suc z) s) (m + z / size step)) e
      (λ d c. none_turn t f u s m n (ap (λ (x : Down). x.missing) d)
      (subst (λ (x : Down). child t.edges x.node (branch_symbol step (get_or s (meet t u s) 0) (meet t u s)) ≡ None) (sym d) c)
      ∙ ap (λ (x : Down). lacks x.node 0 (branch_symbol step (get_or s (meet t u s) 0) (meet t u s)) (drop (suc (meet t u s)) s) (m + meet t u s / size step)) d)

  -- looking goes on at the child
  pub look_next : (t : Tree) (f u : ℕ) (s : List ℕ) (m i v w : ℕ) → meet t u s ≡ i → same_word s (label_of t u) ≡ false
      → reach step t u i ≡ record { node = v; missing = 0 } → child t.edges v (branch_symbol step (get_or s i 0) i) ≡ Some w
      → look_from step t (suc f) u s m ≡ look_from step t f w (drop (suc i) s) (m + i / size step + 1)
  look_next t f u s m i v w e n = subst
      (λ (z : ℕ). reach step t u z ≡ record { node = v; missing = 0 } → child t.edges v (branch_symbol step (get_or s z 0) z) ≡ Some w
      → look_from step t (suc f) u s m ≡ look_from step t f w (drop (suc z) s) (m + z / size step + 1)) e
      (λ d c. next_turn t f u s m w n (ap (λ (x : Down). x.missing) d)
      (subst (λ (x : Down). child t.edges x.node (branch_symbol step (get_or s (meet t u s) 0) (meet t u s)) ≡ Some w) (sym d) c))
