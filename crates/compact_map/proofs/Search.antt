-- a search from a home on
use Rattle.std.proofs.Common.{◌≡◌, ℕ, ◌+◌, ◌*◌, ◌/◌, ◌^◌, ◌<◌, ◌≤◌, ◌⊎◌, Some, sym, refl, ap, ◌∙◌, subst, inl, inr, mod-lt, arith}
use Rattle.std.proofs.lemmas.Bool.{cases_order}
use Rattle.compact_map.specs.Slots.{quotient_in, displacement_in, number_in}
use Rattle.compact_map.specs.Layout.{onward}
use Rattle.compact_map.specs.Table.{Taken, Holds, Full, Finds, homeward}
use Rattle.compact_map.proofs.Rounds.{onward_homeward, homeward_onward}

-- none of the d slots that a search has passed has the home and the quotient
abbrev pub Passed : ℕ → (ℕ → ℕ) → ℕ → ℕ → ℕ → Type 0
Passed m S home q d = (j : ℕ) → j < d → quotient_in (S (onward m home j)) ≡ q → displacement_in (S (onward m home j)) ≡ j → ⊥

-- what holds them lies as far on as its displacement says
held_at : (m : ℕ) (S : ℕ → ℕ) (home q i : ℕ) → Holds m S home q i → displacement_in (S i) < m → onward m home (displacement_in (S i)) ≡ i
held_at m S home q i h s = ap (λ (x : ℕ). onward m x (displacement_in (S i))) (sym h.home_is) ∙ onward_homeward m i (displacement_in (S i)) h.inside s

pub none_passed : (m : ℕ) (S : ℕ → ℕ) (home q d i : ℕ) → Passed m S home q d → Holds m S home q i → displacement_in (S i) < m → displacement_in (S i) < d → ⊥
none_passed m S home q d i passed h s l =
    passed (displacement_in (S i)) l (subst (λ (x : ℕ). quotient_in (S x) ≡ q) (sym (held_at m S home q i h s)) h.quotient_is)
    (ap (λ (x : ℕ). displacement_in (S x)) (held_at m S home q i h s))

-- an empty slot ends a search
pub none_left : (m : ℕ) (S : ℕ → ℕ) (home q d : ℕ) → Full m S → Passed m S home q d → (Taken (S (onward m home d)) → ⊥) → (i : ℕ) → Holds m S home q i → ⊥
none_left m S home q d full passed empty i h = pick (cases_order (displacement_in (S i)) d)
  where
    s : displacement_in (S i) < m
    s = full.short i h.inside h.taken

    pick : (displacement_in (S i) ≡ d) ⊎ ((displacement_in (S i) < d) ⊎ (d < displacement_in (S i))) → ⊥
    pick (inr (inl l)) = none_passed m S home q d i passed h s l
    pick (inl l) = empty (subst (λ (x : ℕ). Taken (S x)) (sym (held_at m S home q i h s) ∙ ap (onward m home) l) h.taken)
    pick (inr (inr l)) = empty (subst (λ (x : ℕ). Taken (S (onward m x d))) h.home_is (full.way i h.inside h.taken d l))

-- what a slot's head tells
module _ (w q d : ℕ) (short : w / 2 ^ 19 < 2 ^ 29) (near : d < 2 ^ 15) where
  head_taken : w / 2 ^ 19 ≡ 2 ^ 28 + q * 2 ^ 15 + d → Taken w
  head_taken e = omega arith

  head_quotient : w / 2 ^ 19 ≡ 2 ^ 28 + q * 2 ^ 15 + d → quotient_in w ≡ q
  head_quotient e = omega arith

  head_displacement : w / 2 ^ 19 ≡ 2 ^ 28 + q * 2 ^ 15 + d → displacement_in w ≡ d
  head_displacement e = omega arith

-- a slot with this head, as far on from the home as it says, is the one
pub found : (m : ℕ) (S : ℕ → ℕ) (home q d i : ℕ) → home < m → d < m → m ≤ 2 ^ 15 → i ≡ onward m home d → S i / 2 ^ 19 < 2 ^ 29 → S i / 2 ^ 19 ≡ 2 ^ 28 + q * 2 ^ 15 + d
    → Finds m S home q (Some (number_in (S i)))
found m S home q d i h l most at short e = (
  i,
  (
    record {
      inside = subst (λ (x : ℕ). x < m) (sym at) (mod-lt (home + d) (omega arith));
      taken = head_taken (S i) q d short (omega arith) e;
      home_is = ap (homeward m i) (head_displacement (S i) q d short (omega arith) e) ∙ ap (λ (x : ℕ). homeward m x d) at ∙ homeward_onward m home d h l;
      quotient_is = head_quotient (S i) q d short (omega arith) e;
    },
    refl,
  ),
)
