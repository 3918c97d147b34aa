-- going round the slots, onward from a home and back to it
use Rattle.std.proofs.Common.{◌≡◌, ℕ, ◌+◌, ◌-◌, ◌%◌, ◌<◌, ◌≤◌, ◌⊎◌, ap, ◌∙◌, inl, inr, mod-eq_of_lt, arith}
use native.Mathlib.Nat.{mod-add-mod, add-mod_right, mod-eq-sub-mod}
use Rattle.std.proofs.lemmas.Bool.{cases_lt}
use Rattle.compact_map.specs.Layout.{onward}
use Rattle.compact_map.specs.Table.{homeward}

pub onward_homeward : (m i d : ℕ) → i < m → d < m → onward m (homeward m i d) d ≡ i
onward_homeward m i d hi hd =
    mod-add-mod (i + m - d) m d ∙ ap (λ (x : ℕ). x % m) (let e : i + m - d + d ≡ i + m = omega arith in e) ∙ add-mod_right i m ∙ mod-eq_of_lt hi

onward_low : (m home d : ℕ) → home + d < m → onward m home d ≡ home + d
onward_low m home d l = mod-eq_of_lt l

onward_high : (m home d : ℕ) → m ≤ home + d → home + d - m < m → onward m home d ≡ home + d - m
onward_high m home d l k = mod-eq-sub-mod l ∙ mod-eq_of_lt k

pub homeward_onward : (m home d : ℕ) → home < m → d < m → homeward m (onward m home d) d ≡ home
homeward_onward m home d h l = pick (cases_lt (home + d) m)
  where
    pick : (home + d < m) ⊎ (m ≤ home + d) → homeward m (onward m home d) d ≡ home
    pick (inl k) =
        ap (λ (x : ℕ). homeward m x d) (onward_low m home d k) ∙ ap (λ (x : ℕ). x % m) (let e : home + d + m - d ≡ home + m = omega arith in e)
        ∙ add-mod_right home m ∙ mod-eq_of_lt h
    pick (inr k) =
        ap (λ (x : ℕ). homeward m x d) (onward_high m home d k (omega arith)) ∙ ap (λ (x : ℕ). x % m) (let e : home + d - m + m - d ≡ home = omega arith in e)
        ∙ mod-eq_of_lt h

-- two ways of different lengths end apart
pub onward_apart : (m home : ℕ) → home < m → (i j : ℕ) → i < m → j < m → onward m home i ≡ onward m home j → i ≡ j
onward_apart m home h i j hi hj e = pick (cases_lt (home + i) m) (cases_lt (home + j) m)
  where
    pick : (home + i < m) ⊎ (m ≤ home + i) → (home + j < m) ⊎ (m ≤ home + j) → i ≡ j
    pick (inl a) (inl b) = omega (arith, onward_low m home i a, onward_low m home j b)
    pick (inl a) (inr b) = omega (arith, onward_low m home i a, onward_high m home j b (omega arith))
    pick (inr a) (inl b) = omega (arith, onward_high m home i a (omega arith), onward_low m home j b)
    pick (inr a) (inr b) = omega (arith, onward_high m home i a (omega arith), onward_high m home j b (omega arith))
