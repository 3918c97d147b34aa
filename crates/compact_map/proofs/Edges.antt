-- the edges that keys mean
use Rattle.std.proofs.Common.{◌≡◌, ℕ, zero, suc, ◌+◌, ◌-◌, ◌*◌, ◌/◌, ◌%◌, ◌<◌, ◌≤◌, List, [], ◌∷◌, ◌++◌, map, length, Some, None, sym, refl, ap, ◌∙◌, subst, ap₂, arith}
use Rattle.std.specs.List.{range_with_len}
use Rattle.std.proofs.lemmas.List.FromFn.{length-map-range_with_len, get_or-map-range_with_len, map-range_with_len_more}
use Rattle.rules.specs.declared.step.Step.TheVariants.{By32}
use Rattle.rules.specs.Tree.{Edge, edge_of, child}
use Rattle.parts.specs.Maps.{MapFacts, Rising}
use Rattle.parts.proofs.Children.{child_none, child_some, no_child}
use Rattle.compact_map.specs.Layout.{key_of}
use Rattle.compact_map.specs.Table.{Keys}
use Rattle.compact_map.specs.Meaning.{edge_for, edges_for}

pub edges_length : (K : ℕ → ℕ) (n : ℕ) → length (edges_for By32 K n) ≡ n
edges_length K n = length-map-range_with_len (edge_for By32 K) 1 n

pub edge_at : (K : ℕ → ℕ) (n v : ℕ) → 0 < v → v ≤ n → edge_of (edges_for By32 K n) v ≡ edge_for By32 K v
edge_at K n v z h = get_or-map-range_with_len (edge_for By32 K) 1 n (v - 1) v _ (omega arith) (omega arith)

-- the key of a node is the key that it was read from
pub key_back : (K : ℕ → ℕ) (n v : ℕ) → 0 < v → v ≤ n → key_of By32 (edges_for By32 K n) v ≡ K v
key_back K n v z h =
    ap (λ (x : Edge). 8192 * x.parent + x.symbol) (edge_at K n v z h) ∙ (let e : 8192 * (K v / 8192) + K v % 8192 ≡ K v = omega arith in e)

-- what holds of the map of these edges
pub map_facts : (K : ℕ → ℕ) (n room : ℕ) (coming : List ℕ) → Keys By32 K n → n < room → Rising room coming
    → MapFacts By32 (record { edges = edges_for By32 K n; room = room; coming = coming })
map_facts K n room coming keys fits rising = record {
  parents = λ v a b. let l : v ≤ n = omega (arith, edges_length K n) in subst (λ (x : Edge). x.parent < v) (sym (edge_at K n v a l)) (keys.down v a l);
  symbols = λ v a b. let l : v ≤ n = omega (arith, edges_length K n) in subst (λ (x : Edge). x.symbol < 8192) (sym (edge_at K n v a l)) (let q : K v % 8192 < 8192 = omega arith in q);
  distinct = λ v w a b c d e.
      let l : v ≤ n = omega (arith, edges_length K n) in
      let m : w ≤ n = omega (arith, edges_length K n) in
      let q : edge_for By32 K v ≡ edge_for By32 K w = sym (edge_at K n v a l) ∙ e ∙ edge_at K n w c m in
      let up : K v / 8192 ≡ K w / 8192 = ap (λ (x : Edge). x.parent) q in
      let symbol : K v % 8192 ≡ K w % 8192 = ap (λ (x : Edge). x.symbol) q in
      keys.apart v w a c l m (omega arith);
  fits = omega (arith, edges_length K n);
  rooms = rising;
}

module _ (K : ℕ → ℕ) (n u c : ℕ) (small : c < 8192) where
  -- the child is the node with the key
  pub child_found : (v room : ℕ) (coming : List ℕ) → MapFacts By32 (record { edges = edges_for By32 K n; room = room; coming = coming }) → 0 < v → v ≤ n → K v ≡ u * 8192 + c
      → child (edges_for By32 K n) u c ≡ Some v
  child_found v room coming facts a b e =
      child_some By32 (record { edges = edges_for By32 K n; room = room; coming = coming }) u c v facts a (omega (arith, edges_length K n))
      (ap (λ (x : Edge). x.parent) (edge_at K n v a b) ∙ (let q : K v / 8192 ≡ u = omega arith in q))
      (ap (λ (x : Edge). x.symbol) (edge_at K n v a b) ∙ (let q : K v % 8192 ≡ c = omega arith in q))

  pub child_absent : ((v : ℕ) → 0 < v → v ≤ n → K v ≡ u * 8192 + c → ⊥) → child (edges_for By32 K n) u c ≡ None
  child_absent f = child_none (edges_for By32 K n) u c (λ v a b p q.
      let l : v ≤ n = omega (arith, edges_length K n) in
      let up : K v / 8192 ≡ u = sym (ap (λ (x : Edge). x.parent) (edge_at K n v a l)) ∙ p in
      let symbol : K v % 8192 ≡ c = sym (ap (λ (x : Edge). x.symbol) (edge_at K n v a l)) ∙ q in
      f v a l (omega arith))

  -- where there is no child, no node has the key
  pub key_fresh : child (edges_for By32 K n) u c ≡ None → (v : ℕ) → 0 < v → v ≤ n → K v ≡ u * 8192 + c → ⊥
  key_fresh e v a b k =
      no_child (edges_for By32 K n) u c e v a (omega (arith, edges_length K n))
      (ap (λ (x : Edge). x.parent) (edge_at K n v a b) ∙ (let q : K v / 8192 ≡ u = omega arith in q))
      (ap (λ (x : Edge). x.symbol) (edge_at K n v a b) ∙ (let q : K v % 8192 ≡ c = omega arith in q))

-- keys that are alike mean the same edges
pub edges_same : (K L : ℕ → ℕ) (n : ℕ) → ((v : ℕ) → 0 < v → v ≤ n → K v ≡ L v) → edges_for By32 K n ≡ edges_for By32 L n
edges_same K L n e = go 1 n (λ v a b. e v a (omega arith))
  where
    keyed : ℕ → Edge
    keyed k = record { parent = k / 8192; symbol = k % 8192 }

    go : (a n : ℕ) → ((v : ℕ) → a ≤ v → v < a + n → K v ≡ L v) → map (edge_for By32 K) (range_with_len a n) ≡ map (edge_for By32 L) (range_with_len a n)
    go a zero e = refl
    go a (suc n) e = ap₂ (λ (x : Edge) (xs : List Edge). x ∷ xs) (ap keyed (e a (omega arith) (omega arith))) (go (a + 1) n (λ v p q. e v (omega arith) (omega arith)))

pub edges_more : (K L : ℕ → ℕ) (n u c : ℕ) → c < 8192 → ((v : ℕ) → 0 < v → v ≤ n → L v ≡ K v) → L (n + 1) ≡ u * 8192 + c
    → edges_for By32 L (n + 1) ≡ edges_for By32 K n ++ (record { parent = u; symbol = c } ∷ [])
edges_more K L n u c h e f =
    map-range_with_len_more (edge_for By32 L) 1 n (n + 1) (omega arith)
    ∙ ap₂ (λ (x : List Edge) (y : Edge). x ++ (y ∷ [])) (edges_same L K n e)
    (let a : L (n + 1) / 8192 ≡ u = omega arith in let b : L (n + 1) % 8192 ≡ c = omega arith in ap₂ edge a b)
  where
    edge : ℕ → ℕ → Edge
    edge x y = record { parent = x; symbol = y }
