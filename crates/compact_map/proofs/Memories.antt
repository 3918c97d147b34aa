-- the lent bytes as a whole
use Rattle.std.proofs.Common.{◌≡◌, ℕ, zero, suc, ◌+◌, ◌-◌, ◌*◌, ◌^◌, ◌<◌, ◌≤◌, List, length, get_or, Some, None, Option, sym, refl, ap, ◌∙◌, ap₂, inl, inr, arith}
use lib.Pow.{pow-lt}
use Rattle.std.proofs.lemmas.List.FromFn.{fill_by_all}
use Rattle.std.proofs.lemmas.Bool.{cases_order}
use Rattle.rules.specs.declared.step.Step.TheVariants.{By32}
use Rattle.parts.specs.Maps.{Map}
use Rattle.parts.specs.Sizes.{power_for, PowerOf, rooms_after, rooms_to}
use Rattle.parts.proofs.Powers.{power_of}
use Rattle.compact_map.specs.Layout.{key_of}
use Rattle.compact_map.specs.Memory.{set_start, laid_byte, laid_bytes, memory_for, memory_of}
use Rattle.compact_map.specs.Table.{Filled}
use Rattle.compact_map.specs.Meaning.{capacity, edges_for}
use Rattle.compact_map.proofs.Edges.{edges_length, key_back}
use Rattle.compact_map.proofs.Filled.{filled_as}

pow_one : (a b : ℕ) → 2 ^ a ≡ 2 ^ b → a ≡ b
pow_one a b e = elim (cases_order a b) [
  | inl h ↦ h
  | inr h ↦ elim h [ inl l ↦ let p : 2 ^ a < 2 ^ b = pow-lt l in absurd (omega arith) | inr l ↦ let p : 2 ^ b < 2 ^ a = pow-lt l in absurd (omega arith) ]
]

-- the size that memory has is the one that is found
size_is : (n top : ℕ) → 4 ≤ top → top ≤ 15 → n ≡ 14 * 2 ^ top → power_for n 14 ≡ Some top
size_is n top a b e = pick (power_for n 14) (power_of n 14)
  where
    pick : (o : Option ℕ) → PowerOf n 14 o → o ≡ Some top
    pick (Some k) h = ap Some (pow_one k top (let q : 2 ^ k ≡ 2 ^ top = omega (arith, h.0) in q))
    pick None h = absurd (h top a b e)

pub size_none : (n : ℕ) → ((k : ℕ) → 4 ≤ k → k ≤ 15 → n ≡ 14 * 2 ^ k → ⊥) → power_for n 14 ≡ None
size_none n f = pick (power_for n 14) (power_of n 14)
  where
    pick : (o : Option ℕ) → PowerOf n 14 o → o ≡ None
    pick (Some k) h = absurd (f k h.1 h.2 h.0)
    pick None h = refl

rooms_length : (k more : ℕ) → length (rooms_after capacity k more) ≡ more
unfolding rooms_after
rooms_length k zero = refl
rooms_length k (suc more) = ap suc (rooms_length (suc k) more)

-- the map of n nodes with the keys K, of whose rooms that of 2 ^ l slots is current
abbrev pub map_of : (ℕ → ℕ) → ℕ → ℕ → ℕ → Map
map_of K n l top = record { edges = edges_for By32 K n; room = capacity (2 ^ l); coming = rooms_to capacity l top }

-- memory of a size that is taken
pub memory_is : (l large top : ℕ) (K : ℕ → ℕ) (n : ℕ) (old new : List ℕ) → set_start l large + 6 * 2 ^ l ≤ 12 * large → large ≡ 2 ^ top → 4 ≤ top → top ≤ 15 → l ≤ top
    → length old ≡ 14 * large → length new ≡ length old → Filled By32 l large K n old new → new ≡ memory_of By32 (map_of K n l top) old
memory_is l large top K n old new fits wide low high in-rooms long same filled =
    fill_by_all (λ (k : ℕ). laid_byte By32 l large (key_of By32 (edges_for By32 K n)) (length (edges_for By32 K n)) (get_or old k 0) k) new (length old) 0 same (λ k h. each k)
    ∙ ap₂ (λ (x y : ℕ). laid_bytes By32 x y (edges_for By32 K n) old) (let e : l ≡ top - length (rooms_to capacity l top) = omega (arith, rooms_length l (top - l)) in e) wide
    ∙ ap (λ (o : Option ℕ). memory_for By32 o (map_of K n l top) old) (sym (size_is (length old) top low high (long ∙ ap (λ (x : ℕ). 14 * x) wide)))
  where
    each : (k : ℕ) → get_or new k 0 ≡ laid_byte By32 l large (key_of By32 (edges_for By32 K n)) (length (edges_for By32 K n)) (get_or old k 0) k
    each k =
        filled_as l large fits K (key_of By32 (edges_for By32 K n)) n old new (λ v a b. sym (key_back K n v a b)) filled k
        ∙ ap (λ (x : ℕ). laid_byte By32 l large (key_of By32 (edges_for By32 K n)) x (get_or old k 0) k) (sym (edges_length K n))

-- and of one that is refused
pub memory_kept : (m : Map) (old : List ℕ) → ((k : ℕ) → 4 ≤ k → k ≤ 15 → length old ≡ 14 * 2 ^ k → ⊥) → old ≡ memory_of By32 m old
memory_kept m old f = ap (λ (o : Option ℕ). memory_for By32 o m old) (sym (size_none (length old) f))
