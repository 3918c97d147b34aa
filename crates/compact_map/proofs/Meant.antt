-- what the type of a compact map says
use Rattle.std.proofs.Common.{◌≡◌, ℕ, suc, ◌+◌, ◌*◌, ◌/◌, ◌^◌, ◌<◌, ◌≤◌, List, length, Some, None, Ok, Option, sym, refl, ap, ◌∙◌, subst, inl, inr, arith, pow_pos, pow_mono, pow-add}
use Rattle.std.proofs.lemmas.Bool.{cases_lt, cases_eq}
use Rattle.rules.specs.declared.step.Step.TheVariants.{By32}
use Rattle.rules.specs.Tree.{Edge, node_count, child}
use Rattle.parts.specs.Maps.{Map, MapFacts, count_of, asked, with_edge}
use Rattle.parts.specs.Sizes.{rooms_to}
use Rattle.parts.proofs.Powers.{rooms_rising}
use Rattle.parts.proofs.Answered.{asked_in}
use Rattle.compact_map.specs.Hash.{home_of, quotient_of}
use Rattle.compact_map.specs.Memory.{set_start, memory_of}
use Rattle.compact_map.specs.Table.{slot_at, place_at, Finds, Vacant, Keys, key_at, key_in, Filled, Placed, Stored}
use Rattle.compact_map.specs.declared.shape.CompactMap.{CompactMap}
use Rattle.compact_map.specs.Meaning.{capacity, edges_for, bytes_of, keys_of, meaning_of}
use Rattle.compact_map.proofs.HeldKeys.{home_lt, held_key, key_held}
use Rattle.compact_map.proofs.Tables.{TableFacts}
use Rattle.compact_map.proofs.Filled.{filled_as, laid_of, filled_more}
use Rattle.compact_map.proofs.Reading.{laid_facts, laid_vacant, shown, stored, with_key, with_new, with_old, keys_more}
use Rattle.compact_map.proofs.Layouts.{LaidOut, layout_same}
use Rattle.compact_map.proofs.Doubling.{pow_more, other_fits}
use Rattle.compact_map.proofs.Edges.{edges_length, map_facts, child_found, child_absent, key_fresh, edges_same, edges_more}
use Rattle.compact_map.proofs.Memories.{map_of, memory_is, memory_kept}

pub count_is : (c : CompactMap) → node_count (meaning_of c).edges ≡ c.later + 1
count_is c = omega (arith, edges_length (keys_of c) c.later)

-- what the test of a pair tells
pub pair_in_lem : (m : Map) (u c : ℕ) → Ok tt ≡ asked {A = Unit {0}} By32 m u c (Ok tt) → (u < count_of m) × (c < 8192)
pair_in_lem m u c e = asked_in By32 m u c (sym e)

-- the keys in the lent bytes are each node's own, and lead to lower nodes
keys_of_lem : (c : CompactMap) → Keys By32 (keys_of c) c.later
keys_of_lem c = record { apart = λ u v a b x y e. c.apart u v (a, b, x, y, e); down = λ v a b. c.parents v (a, b) }

capacity_more : (m : ℕ) → 0 < m → 9 * m / 10 < 9 * (2 * m) / 10
capacity_more m h = elim (cases_eq m 1) [
  | inl e ↦ subst (λ (x : ℕ). 9 * x / 10 < 9 * (2 * x) / 10) (sym e) (omega arith)
  | inr e ↦ omega arith
]

pub facts_of : (c : CompactMap) → MapFacts By32 (meaning_of c)
facts_of c =
    map_facts (keys_of c) c.later (capacity (2 ^ c.set.log)) (rooms_to capacity c.set.log c.top) (keys_of_lem c) (omega arith)
    (rooms_rising capacity c.set.log c.top c.rooms (λ j a b. grows j) (let p : 2 ^ c.top ≤ 2 ^ 15 = pow_mono c.most in omega arith))
  where
    grows : (j : ℕ) → capacity (2 ^ j) < capacity (2 ^ suc j)
    grows j =
        subst (λ (x : ℕ). capacity (2 ^ j) < capacity x) (sym (pow_more j) ∙ ap (λ (x : ℕ). 2 ^ x) (let e : j + 1 ≡ suc j = omega arith in e))
        (capacity_more (2 ^ j) (pow_pos j))

-- what the bytes hold, where they are in use
module _ (c : CompactMap) (used : 2 < c.set.large) where
  pub within : set_start c.set.log c.set.large + 6 * 2 ^ c.set.log ≤ 12 * c.set.large
  within = omega arith

  pub stored_of : Stored By32 c.set.log c.set.large c.later (bytes_of c)
  stored_of = record { keys = keys_of_lem c; filled = λ k. c.filled k used }

  laid : LaidOut c.set.log (slot_at (bytes_of c) (set_start c.set.log c.set.large)) (place_at (bytes_of c) (12 * c.set.large)) (keys_of c) c.later
  laid = laid_of c.set.log c.set.large within (keys_of c) c.later (bytes_of c) (bytes_of c) c.set.small (omega arith) (keys_of_lem c) stored_of.filled

  pub table_of : TableFacts c.set.log (slot_at (bytes_of c) (set_start c.set.log c.set.large)) (place_at (bytes_of c) (12 * c.set.large)) (c.later + 1)
  table_of =
      laid_facts c.set.log (slot_at (bytes_of c) (set_start c.set.log c.set.large)) (place_at (bytes_of c) (12 * c.set.large)) (keys_of c) c.later c.set.small (omega arith)
      (keys_of_lem c) laid

  pub vacant_of : (key : ℕ) → Vacant (2 ^ c.set.log) (slot_at (bytes_of c) (set_start c.set.log c.set.large)) (home_of By32 c.set.log key)
  vacant_of key =
      laid_vacant c.set.log (slot_at (bytes_of c) (set_start c.set.log c.set.large)) (place_at (bytes_of c) (12 * c.set.large)) (keys_of c) c.later c.set.small (omega arith)
      (keys_of_lem c) laid (home_of By32 c.set.log key) (home_lt c.set.log key)

  -- a search for a key answers the child
  pub child_is : (u s : ℕ) → u ≤ c.later → s < 8192 → (r : Option ℕ)
      → Finds (2 ^ c.set.log) (slot_at (bytes_of c) (set_start c.set.log c.set.large)) (home_of By32 c.set.log (u * 8192 + s)) (quotient_of By32 c.set.log (u * 8192 + s)) r
      → r ≡ child (meaning_of c).edges u s
  child_is u s h small (Some v) (i, (g, e)) =
      sym (child_found (keys_of c) c.later u s small v (meaning_of c).room (meaning_of c).coming (facts_of c)
      (subst (λ (x : ℕ). 0 < x) (sym e) (table_of.low i g.inside g.taken))
      (subst (λ (x : ℕ). x ≤ c.later) (sym e) (omega (arith, table_of.high i g.inside g.taken)))
      (ap (key_at By32 c.set.log (slot_at (bytes_of c) (set_start c.set.log c.set.large))) (ap (place_at (bytes_of c) (12 * c.set.large)) e ∙ table_of.named i g.inside g.taken)
      ∙ held_key c.set.log (u * 8192 + s) (slot_at (bytes_of c) (set_start c.set.log c.set.large)) i c.set.small
      (let p : 2 ^ (13 + c.set.log) ≡ 2 ^ 13 * 2 ^ c.set.log = pow-add 2 13 c.set.log in omega arith) g))
  child_is u s h small None f =
      sym (child_absent (keys_of c) c.later u s small
      (λ v a b e. f (place_at (bytes_of c) (12 * c.set.large) v)
      (key_held c.set.log (u * 8192 + s) (slot_at (bytes_of c) (set_start c.set.log c.set.large)) (place_at (bytes_of c) (12 * c.set.large) v) c.set.small
      (table_of.inside v a (omega arith)) (table_of.taken v a (omega arith)) e)))

-- a call that changes nothing leaves the memory as it is to be
pub memory_same : (c : CompactMap) → bytes_of c ≡ memory_of By32 (meaning_of c) (bytes_of c)
memory_same c = elim (cases_lt 2 c.set.large) [
  | inl used ↦
      memory_is c.set.log c.set.large c.top (keys_of c) c.later (bytes_of c) (bytes_of c) (within c used) c.wide (omega (arith, c.least used)) c.most c.rooms (c.whole used)
      refl (stored_of c used).filled
  | inr h ↦ memory_kept (meaning_of c) (bytes_of c) (λ k a b e. c.refused k (h, a, b, e))
]

-- twice as many slots are there where the last room is not current
pub wider : (c : CompactMap) → c.set.log < c.top → 2 * c.set.slots ≤ c.set.large
wider c n =
    let k : c.set.log + 1 ≤ c.top = omega arith in
    let p : 2 ^ (c.set.log + 1) ≤ 2 ^ c.top = pow_mono k in
    omega (arith, pow_more c.set.log)

-- a node more
module _ (c : CompactMap) (u s : ℕ) (low : u ≤ c.later) (small : s < 8192) (room : c.later + 1 < 9 * c.set.slots / 10) (free : child (meaning_of c).edges u s ≡ None)
    (new : List ℕ) (long : length new ≡ length (bytes_of c)) (placed : Placed By32 c.set.log c.set.large (c.later + 1) (u * 8192 + s) (bytes_of c) new) where
  pub used : 2 < c.set.large
  used = omega arith

  abbrev key : ℕ
  key = u * 8192 + s

  abbrev L : ℕ → ℕ
  L = with_key (keys_of c) c.later key

  plus : suc c.later ≡ c.later + 1
  plus = omega arith

  keys_new : Keys By32 L (suc c.later)
  keys_new = keys_more (keys_of c) c.later key (keys_of_lem c) (omega arith) (λ v a b e. key_fresh (keys_of c) c.later u s small free v a b e)

  filled_new : Filled By32 c.set.log c.set.large L (suc c.later) (bytes_of c) new
  filled_new =
      filled_more c.set.log c.set.large (within c used) L c.later key (bytes_of c) (bytes_of c) new
      (λ i b. (laid c used).slots i b ∙ layout_same c.set.log (keys_of c) L c.later i (λ v p q. sym (with_old (keys_of c) c.later key v q)))
      (sym (with_new (keys_of c) c.later key))
      (filled_as c.set.log c.set.large (within c used) (keys_of c) L c.later (bytes_of c) (bytes_of c) (λ v p q. sym (with_old (keys_of c) c.later key v q)) (stored_of c used).filled)
      (subst (λ (v : ℕ). Placed By32 c.set.log c.set.large v key (bytes_of c) new) (sym plus) placed)

  shown_new : (v : ℕ) → 0 < v → v ≤ suc c.later → key_in By32 new c.set.log c.set.large v ≡ L v
  shown_new = shown c.set.log c.set.large (within c used) L (suc c.later) (bytes_of c) new c.set.small (omega arith) keys_new filled_new

  pub grown_stored : Stored By32 c.set.log c.set.large (c.later + 1) new
  grown_stored =
      subst (λ (n : ℕ). Stored By32 c.set.log c.set.large n new) plus
      (stored c.set.log c.set.large (within c used) L (suc c.later) (bytes_of c) new c.set.small (omega arith) keys_new filled_new)

  pub grown_map : map_of (key_in By32 new c.set.log c.set.large) (c.later + 1) c.set.log c.top ≡ with_edge (meaning_of c) u s
  grown_map = ap edged
      (edges_more (keys_of c) (key_in By32 new c.set.log c.set.large) c.later u s small
      (λ v a b. shown_new v a (omega arith) ∙ with_old (keys_of c) c.later key v b)
      (ap (key_in By32 new c.set.log c.set.large) (sym plus) ∙ shown_new (suc c.later) (omega arith) (omega arith) ∙ with_new (keys_of c) c.later key))
    where
      edged : List Edge → Map
      edged es = record { edges = es; room = capacity (2 ^ c.set.log); coming = rooms_to capacity c.set.log c.top }

  pub grown_memory : new ≡ memory_of By32 (map_of (key_in By32 new c.set.log c.set.large) (c.later + 1) c.set.log c.top) (bytes_of c)
  grown_memory =
      memory_is c.set.log c.set.large c.top (key_in By32 new c.set.log c.set.large) (c.later + 1) (bytes_of c) new (within c used) c.wide (omega (arith, c.least used)) c.most
      c.rooms (c.whole used) long
      (subst (λ (n : ℕ). Filled By32 c.set.log c.set.large (key_in By32 new c.set.log c.set.large) n (bytes_of c) new) plus
      (filled_as c.set.log c.set.large (within c used) L (key_in By32 new c.set.log c.set.large) (suc c.later) (bytes_of c) new (λ v a b. sym (shown_new v a b)) filled_new))

-- twice the slots
module _ (c : CompactMap) (more : c.set.log < c.top) (new : List ℕ) (long : length new ≡ length (bytes_of c))
    (filled : Filled By32 (c.set.log + 1) c.set.large (keys_of c) c.later (bytes_of c) new) where
  used_2 : 2 < c.set.large
  used_2 = omega (arith, wider c more)

  fits : set_start (c.set.log + 1) c.set.large + 6 * 2 ^ (c.set.log + 1) ≤ 12 * c.set.large
  fits = other_fits c.set.log c.set.large (omega (arith, wider c more))

  room : c.later < 2 ^ (c.set.log + 1)
  room = omega (arith, pow_more c.set.log)

  pub doubled_stored : Stored By32 (c.set.log + 1) c.set.large c.later new
  doubled_stored = stored (c.set.log + 1) c.set.large fits (keys_of c) c.later (bytes_of c) new (omega arith) room (keys_of_lem c) filled

  shown_2 : (v : ℕ) → 0 < v → v ≤ c.later → key_in By32 new (c.set.log + 1) c.set.large v ≡ keys_of c v
  shown_2 = shown (c.set.log + 1) c.set.large fits (keys_of c) c.later (bytes_of c) new (omega arith) room (keys_of_lem c) filled

  pub doubled_edges : edges_for By32 (key_in By32 new (c.set.log + 1) c.set.large) c.later ≡ (meaning_of c).edges
  doubled_edges = edges_same (key_in By32 new (c.set.log + 1) c.set.large) (keys_of c) c.later shown_2

  pub doubled_memory : new ≡ memory_of By32 (map_of (key_in By32 new (c.set.log + 1) c.set.large) c.later (c.set.log + 1) c.top) (bytes_of c)
  doubled_memory =
      memory_is (c.set.log + 1) c.set.large c.top (key_in By32 new (c.set.log + 1) c.set.large) c.later (bytes_of c) new fits c.wide (omega (arith, c.least used_2)) c.most
      (omega arith) (c.whole used_2) long
      (filled_as (c.set.log + 1) c.set.large fits (keys_of c) (key_in By32 new (c.set.log + 1) c.set.large) c.later (bytes_of c) new (λ v a b. sym (shown_2 v a b)) filled)
