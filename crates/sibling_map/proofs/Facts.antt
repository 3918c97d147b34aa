-- what the type of a sibling map says
use Rattle.std.proofs.Common.{◌≡◌, ℕ, suc, ◌+◌, ◌^◌, ◌<◌, ◌≤◌, List, length, Ok, sym, ap, subst, inl, inr, arith, pow_mono}
use lib.Pow.{pow-lt}
use Rattle.std.proofs.lemmas.Bool.{cases_eq}
use Rattle.rules.specs.declared.step.Step.TheVariants.{By32}
use Rattle.rules.specs.Steps.{symbol_count}
use Rattle.rules.specs.Tree.{Edge, node_count, edge_of}
use Rattle.parts.specs.Maps.{Map, MapFacts, count_of, asked}
use Rattle.parts.proofs.Powers.{rooms_rising}
use Rattle.parts.proofs.Answered.{asked_in}
use Rattle.parts.proofs.Children.{edge_is}
use Rattle.sibling_map.specs.declared.record.NodeRecord.{NodeRecord}
use Rattle.sibling_map.specs.declared.shape.SiblingMap.{SiblingMap}
use Rattle.sibling_map.specs.Records.{at, edges_in, record_of, Parents, Symbols, Distinct, Laid}
use Rattle.sibling_map.specs.Meaning.{capacity, meaning_of}
use Rattle.sibling_map.proofs.Read.{length_edges, laid_from}

pub count_is : (rs : List NodeRecord) (n : ℕ) → node_count (edges_in rs n) ≡ n + 1
count_is rs n = omega (arith, length_edges rs n)

pub facts_of : (s : SiblingMap) → MapFacts By32 (meaning_of s)
facts_of s = record {
  parents = λ v a b. s.parents v (a, b);
  symbols = λ v a b. s.symbols v (a, b);
  distinct = λ v w a b f g e. s.distinct v w (a, b, f, g, ap (λ (x : Edge). x.parent) e, ap (λ (x : Edge). x.symbol) e);
  fits = omega (arith, s.fits, count_is s.records.now s.later);
  rooms =
      let most : 2 ^ s.top ≤ 2 ^ 15 = pow_mono s.most in
      rooms_rising capacity s.log s.top s.rooms (λ j a b. let h : j < suc j = omega arith in pow-lt h) most;
}

-- what the test of a pair tells
pub pair_in_lem : (s : SiblingMap) (u c : ℕ) → Ok tt ≡ asked {A = Unit {0}} By32 (meaning_of s) u c (Ok tt) → (u < count_of (meaning_of s)) × (c < symbol_count By32)
pair_in_lem s u c e = asked_in By32 (meaning_of s) u c (sym e)

-- a map with a room above 1 uses its records, and each node has one
pub in_use : (s : SiblingMap) → 1 < 2 ^ s.log → 0 < s.top
in_use s h = elim (cases_eq s.top 0) [
  | inl e ↦
      let z : s.log ≡ 0 = omega (arith, s.rooms) in
      let p : 2 ^ s.log ≡ 1 = ap (λ (x : ℕ). 2 ^ x) z in absurd (omega arith)
  | inr d ↦ omega arith
]

pub inside : (s : SiblingMap) (v : ℕ) → 0 < s.top → v < 2 ^ s.log → v < length s.records.now
inside s v used h =
    let w : length s.records.now ≡ 2 ^ s.top = s.whole used in
    let p : 2 ^ s.log ≤ 2 ^ s.top = pow_mono s.rooms in omega arith

-- what a type says of the records and the nodes 1 to n
pub record Held (top : ℕ) (rs : List NodeRecord) (n : ℕ) : Type 0 where
  pub parents : Parents (edges_in rs n)
  pub symbols : Symbols (edges_in rs n)
  pub distinct : Distinct (edges_in rs n)
  pub laid : Laid top rs n

-- the same from what holds of a map with these edges
pub held : (top : ℕ) (rs : List NodeRecord) (n : ℕ) (m : Map) → MapFacts By32 m → edges_in rs n ≡ m.edges
    → ((v : ℕ) → 0 < top → v ≤ n → at rs v ≡ record_of m.edges v) → Held top rs n
held top rs n m facts e each = record {
  parents = subst Parents (sym e) (λ v h. facts.parents v h.0 h.1);
  symbols = subst Symbols (sym e) (λ v h. facts.symbols v h.0 h.1);
  distinct = subst Distinct (sym e)
      (λ v w h. facts.distinct v w h.0 h.1 h.2 h.3 (edge_is (edge_of m.edges v) (edge_of m.edges w) h.4 h.5));
  laid = laid_from top rs n m.edges e each;
}
