-- what is read from records
use Rattle.std.proofs.Common.{◌≡◌, ℕ, zero, suc, ◌+◌, ◌-◌, ◌<◌, ◌≤◌, List, map, length, drop, Some, None, Option, sym, refl, ap, ◌∙◌, inl, inr, arith, length-append, length-drop}
use Rattle.std.specs.List.{range_with_len}
use Rattle.std.proofs.lemmas.List.FromFn.{length-map-range_with_len, get_or-map-range_with_len}
use Rattle.std.proofs.lemmas.List.{ext_get_or, get_or_append_left, get_or-append_right, get_or-drop}
use Rattle.std.proofs.lemmas.Bool.{cases_lt}
use Rattle.rules.specs.Tree.{Edge, node_count, edge_of}
use Rattle.sibling_map.specs.declared.record.NodeRecord.{NodeRecord}
use Rattle.sibling_map.specs.Records.{blank, at, edge_in, edges_in, record_of, laid_out, mark, Same, Laid}

pub length_edges : (rs : List NodeRecord) (n : ℕ) → length (edges_in rs n) ≡ n
length_edges rs n = length-map-range_with_len (edge_in rs) 1 n

pub edge_in_lem : (rs : List NodeRecord) (n v : ℕ) → 0 < v → v ≤ n → edge_of (edges_in rs n) v ≡ edge_in rs v
edge_in_lem rs n v a b = let e : 1 + (v - 1) ≡ v = omega arith in let h : v - 1 < n = omega arith in get_or-map-range_with_len (edge_in rs) 1 n (v - 1) v _ h e

-- records that agree on the nodes from a on have the same edges there
pub map_same : (f g : ℕ → Edge) (a n : ℕ) → ((w : ℕ) → a ≤ w → w < a + n → f w ≡ g w) → map f (range_with_len a n) ≡ map g (range_with_len a n)
map_same f g a zero h = refl
map_same f g a (suc n) h =
    let e : f a ≡ g a = h a (omega arith) (omega arith) in
    let i : map f (range_with_len (a + 1) n) ≡ map g (range_with_len (a + 1) n) = map_same f g (a + 1) n (λ w p q. h w (omega arith) (omega arith)) in
    cc

mark_same : (a b : Option ℕ) → mark a ≡ mark b → a ≡ b
mark_same (Some v) (Some w) e = let k : v ≡ w = omega arith in ap Some k
mark_same (Some v) None e = absurd (omega arith)
mark_same None (Some w) e = absurd (omega arith)
mark_same None None e = refl

record_is : (r s : NodeRecord) → Same r s → r ≡ s
record_is r s h =
    ap (λ (x : ℕ). record { parent = x; symbol = r.symbol; first = r.first; next = r.next }) h.0
    ∙ ap (λ (x : ℕ). record { parent = s.parent; symbol = x; first = r.first; next = r.next }) h.1
    ∙ ap (λ (x : Option ℕ). record { parent = s.parent; symbol = s.symbol; first = x; next = r.next }) (mark_same r.first s.first h.2)
    ∙ ap (λ (x : Option ℕ). record { parent = s.parent; symbol = s.symbol; first = s.first; next = x }) (mark_same r.next s.next h.3)

is_record : (r s : NodeRecord) → r ≡ s → Same r s
is_record r s e = (
  ap (λ (x : NodeRecord). x.parent) e,
  ap (λ (x : NodeRecord). x.symbol) e,
  ap (λ (x : NodeRecord). mark x.first) e,
  ap (λ (x : NodeRecord). mark x.next) e,
)

pub laid_at : (top : ℕ) (rs : List NodeRecord) (n v : ℕ) → Laid top rs n → 0 < top → v ≤ n → at rs v ≡ record_of (edges_in rs n) v
laid_at top rs n v laid used h = record_is (at rs v) (record_of (edges_in rs n) v) (laid v (used, h))

pub laid_from : (top : ℕ) (rs : List NodeRecord) (n : ℕ) (es : List Edge) → edges_in rs n ≡ es
    → ((v : ℕ) → 0 < top → v ≤ n → at rs v ≡ record_of es v) → Laid top rs n
laid_from top rs n es e f v h =
    is_record (at rs v) (record_of (edges_in rs n) v) (f v h.0 h.1 ∙ ap (λ (x : List Edge). record_of x v) (sym e))

-- records that are those of the nodes, and past them as they were
pub laid_out_lem : (es : List Edge) (old rs : List NodeRecord) → length rs ≡ length old → node_count es ≤ length rs
    → ((v : ℕ) → v < node_count es → at rs v ≡ record_of es v) → ((v : ℕ) → node_count es ≤ v → at rs v ≡ at old v) → rs ≡ laid_out es old
laid_out_lem es old rs same whole nodes past = ext_get_or blank rs (laid_out es old) (long ∙ sym total) each
  where
    many : length (map (record_of es) (range_with_len 0 (node_count es))) ≡ node_count es
    many = length-map-range_with_len (record_of es) 0 (node_count es)

    long : length rs ≡ node_count es + (length old - node_count es)
    long = omega arith

    total : length (laid_out es old) ≡ node_count es + (length old - node_count es)
    total = omega (arith, length-append (map (record_of es) (range_with_len 0 (node_count es))) (drop (node_count es) old), length-drop (node_count es) old, many)

    each : (i : ℕ) → i < length rs → at rs i ≡ at (laid_out es old) i
    each i h = elim (cases_lt i (node_count es)) [
      | inl l ↦
          let z : 0 + i ≡ i = omega arith in
          let k : i < length (map (record_of es) (range_with_len 0 (node_count es))) = omega (arith, many) in
          nodes i l ∙ sym (get_or_append_left (map (record_of es) (range_with_len 0 (node_count es))) (drop (node_count es) old) blank i k
          ∙ get_or-map-range_with_len (record_of es) 0 (node_count es) i i blank l z)
      | inr l ↦
          let z : node_count es + (i - node_count es) ≡ i = omega arith in
          past i l ∙ sym (get_or-append_right (map (record_of es) (range_with_len 0 (node_count es))) (drop (node_count es) old) (node_count es) i blank many l
          ∙ get_or-drop (node_count es) old (i - node_count es) blank ∙ ap (at old) z)
    ]
