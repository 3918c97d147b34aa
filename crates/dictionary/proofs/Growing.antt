-- making nodes with their labels, one after another
use Rattle.std.proofs.Common.{◌≡◌, ℕ, zero, suc, ◌+◌, ◌-◌, ◌<◌, ◌≤◌, List, [], ◌∷◌, ◌++◌, length, drop, None, Ok, Err, Result, sym, refl, ap, ◌∙◌, subst, inl, inr, arith, length-drop}
use Rattle.std.proofs.lemmas.List.{length_push}
use Rattle.std.proofs.lemmas.Bool.{lt-ltb, le-ltb, cases_lt}
use Rattle.rules.specs.declared.step.Step.TheVariants.{By32}
use Rattle.rules.specs.Steps.{symbol_count, step_symbol}
use Rattle.rules.specs.Tree.{Edge, Tree, node_count, child, bytes_in, with_node, grow}
use Rattle.rules.proofs.Places.{child_cases}
use Rattle.rules.proofs.Entering.{bytes_push}
use Rattle.rules.proofs.Grow.{edge_old, edge_new}
use Rattle.parts.specs.declared.store.StoreFault.{StoreFault}
use Rattle.parts.specs.Maps.{Map, MapFacts, count_of, with_edge, add_answer, add_next}
use Rattle.parts.specs.Stores.{Store, longest, with_label, appended, append_answer, append_next}
use Rattle.dictionary.specs.Shows.{tree_in}
use Rattle.dictionary.specs.Growth.{CanMake, Made, Closed, CanGrow, Grown}

-- a label more or none, the places stay
appended_places : (l : Store) (s : List ℕ) (from : ℕ) (r : Result (Unit {0}) StoreFault) → (appended l s from r).places ≡ l.places
appended_places l s from (Ok done) = refl
appended_places l s from (Err fault) = refl

pub append_places : (l l' : Store) (s : List ℕ) (from : ℕ) → l' ≡ append_next l s from → l'.places ≡ l.places
unfolding append_next
append_places l l' s from e = ap (λ (z : Store). z.places) e ∙ appended_places l s from (append_answer l s from)

-- the next map and store, where a node and its label can be made
module _ (m : Map) (l : Store) (u c : ℕ) (s : List ℕ) (from : ℕ) (inside : from ≤ length s) (can : CanMake m l u c (drop from s)) where
  pub add_next_lem : add_next By32 m u c ≡ with_edge m u c
  unfolding add_next add_answer
  add_next_lem = rw (lt-ltb u (count_of m) can.inside, lt-ltb c (symbol_count By32) can.symbol, can.free, lt-ltb (count_of m) m.room can.room, add_answer, add_next) refl

  pub append_next_lem : append_next l s from ≡ with_label l (drop from s)
  unfolding append_next append_answer
  append_next_lem =
      let n : length (drop from s) ≡ length s - from = length-drop from s in
      rw (
        le-ltb (length s) from inside,
        le-ltb longest (length s - from) (omega (arith, can.short)),
        lt-ltb (length l.labels) l.places can.place,
        le-ltb l.byte_room (bytes_in l.labels + (length s - from)) (omega (arith, can.bytes)),
        append_answer,
        append_next,
      ) refl

module _ (edges : List Edge) (u c : ℕ) (closed : Closed edges) (h : u < node_count edges) where
  abbrev e : Edge
  e = record { parent = u; symbol = c }

  -- a node just made has no children
  new_childless : (d : ℕ) → child (edges ++ (record { parent = u; symbol = c } ∷ [])) (node_count edges) d ≡ None
  new_childless d = elim (child_cases (edges ++ (e ∷ [])) (node_count edges) d) [
    | inl g ↦ g.0
    | inr g ↦ absurd (elim (cases_lt g.0 (node_count edges)) [
      | inl b ↦ omega (arith, closed g.0 g.3.0 b, g.3.1, ap (λ (z : Edge). z.parent) (edge_old edges e g.0 g.3.0 b))
      | inr b ↦ let q : node_count edges ≡ g.0 = omega (arith, g.1, length_push edges e) in
          omega (arith, g.3.1, ap (λ (z : Edge). z.parent) (edge_new edges e g.0 q))
    ])
  ]

  new_closed : Closed (edges ++ (record { parent = u; symbol = c } ∷ []))
  new_closed v z hv =
      let ln = length_push edges e in
      elim (cases_lt v (node_count edges)) [
        | inl b ↦ omega (arith, closed v z b, ap (λ (x : Edge). x.parent) (edge_old edges e v z b))
        | inr b ↦ let q : node_count edges ≡ v = omega arith in omega (arith, ap (λ (x : Edge). x.parent) (edge_new edges e v q))
      ]

pub closed_of : (m : Map) → MapFacts By32 m → Closed m.edges
closed_of m f v z h = omega (arith, f.parents v z h)

grow_step : (t : Tree) (u k c : ℕ) (rest : List ℕ) → 0 < k → grow By32 t u k c rest ≡ grow By32 (with_node t u (step_symbol By32) []) (node_count t.edges) (k - 1) c rest
unfolding grow
grow_step t u zero c rest h = absurd (omega arith)
grow_step t u (suc k) c rest h = let z : suc k - 1 ≡ k = omega arith in rw (z, grow) refl

grow_last : (t : Tree) (u c : ℕ) (rest : List ℕ) → grow By32 t u 0 c rest ≡ with_node t u c rest
unfolding grow
grow_last t u c rest = refl

module _ (m : Map) (l : Store) (u k c : ℕ) (label : List ℕ) where
  pub can_step : CanGrow m l u k c label → 0 < k → (d : ℕ) → d ≡ step_symbol By32 → CanMake m l u d []
  can_step g h d e = record {
    inside = g.opened.inside;
    symbol = omega arith;
    free = ap (λ (z : ℕ). child m.edges u z) e ∙ g.opened.step h;
    room = omega (arith, g.room);
    short = omega arith;
    place = omega (arith, g.counted, g.room, g.places);
    bytes = omega (arith, g.bytes);
  }

  pub can_last : CanGrow m l u k c label → k ≡ 0 → CanMake m l u c label
  can_last g h = record {
    inside = g.opened.inside;
    symbol = g.symbol;
    free = g.opened.last h;
    room = omega (arith, g.room);
    short = omega (arith, g.short);
    place = omega (arith, g.counted, g.room, g.places);
    bytes = omega (arith, g.bytes);
  }

  can_more : CanGrow m l u k c label → 0 < k → CanGrow (with_edge m u (step_symbol By32)) (with_label l []) (count_of m) (k - 1) c label
  can_more g h =
      let ln = length_push m.edges (record { parent = u; symbol = step_symbol By32 }) in
      let ll = length_push l.labels [] in
      let bb = bytes_push l.labels [] in
      record {
        closed = new_closed m.edges u (step_symbol By32) g.closed g.opened.inside;
        opened = record {
          inside = omega (arith, ln);
          step = λ q. new_childless m.edges u (step_symbol By32) g.closed g.opened.inside (step_symbol By32);
          last = λ q. new_childless m.edges u (step_symbol By32) g.closed g.opened.inside c;
        };
        symbol = g.symbol;
        room = omega (arith, g.room, ln);
        counted = omega (arith, g.counted, ln, ll);
        places = g.places;
        short = g.short;
        bytes = omega (arith, g.bytes, bb);
      }

  -- on the way
  pub record Growing (m' : Map) (l' : Store) (node missing : ℕ) : Type 0 where
    pub can : CanGrow m' l' node missing c label
    pub rest : grow By32 (tree_in m' l') node missing c label ≡ grow By32 (tree_in m l) u k c label
    pub room : m'.room ≡ m.room
    pub coming : m'.coming ≡ m.coming
    pub byte_room : l'.byte_room ≡ l.byte_room
    pub places : l'.places ≡ l.places
    pub count : count_of m' + missing ≡ count_of m + k

  pub growing_first : (missing : ℕ) → missing ≡ k → CanGrow m l u k c label → Growing m l u missing
  growing_first missing e g = rw e (record { can = g; rest = refl; room = refl; coming = refl; byte_room = refl; places = refl; count = refl })

module _ (m : Map) (l : Store) (u k c : ℕ) (label : List ℕ) (m' : Map) (l' : Store) (node missing : ℕ) (g : Growing m l u k c label m' l' node missing) (m'' : Map) (l'' : Store) (r : ℕ) where
  pub growing_more : (fewer : ℕ) → fewer ≡ missing - 1 → 0 < missing → (d : ℕ) → d ≡ step_symbol By32 → Made m' l' node d [] m'' l'' r → Growing m l u k c label m'' l'' r fewer
  growing_more fewer z h d e made =
      let map_is : m'' ≡ with_edge m' node (step_symbol By32) = made.map_is ∙ ap (with_edge m' node) e in
      let store_is : l'' ≡ with_label l' [] = made.store_is in
      let ln = length_push m'.edges (record { parent = node; symbol = step_symbol By32 }) in
      rw z (subst (λ (z : Map). Growing m l u k c label z l'' r (missing - 1)) (sym map_is)
      (subst (λ (z : Store). Growing m l u k c label (with_edge m' node (step_symbol By32)) z r (missing - 1)) (sym store_is)
      (subst (λ (z : ℕ). Growing m l u k c label (with_edge m' node (step_symbol By32)) (with_label l' []) z (missing - 1)) (sym made.ticket) (record {
        can = can_more m' l' node missing c label g.can h;
        rest = sym (grow_step (tree_in m' l') node missing c label h) ∙ g.rest;
        room = g.room;
        coming = g.coming;
        byte_room = g.byte_room;
        places = g.places;
        count = omega (arith, g.count, ln);
      }))))

  pub growing_end : missing ≡ 0 → Made m' l' node c label m'' l'' r → Grown m l u k c label m'' l'' r
  growing_end h made =
      subst (λ (z : Map). Grown m l u k c label z l'' r) (sym made.map_is)
      (subst (λ (z : Store). Grown m l u k c label (with_edge m' node c) z r) (sym made.store_is) (record {
        tree = sym (grow_last (tree_in m' l') node c label) ∙ ap (λ (z : ℕ). grow By32 (tree_in m' l') node z c label) (sym h) ∙ g.rest;
        room = g.room;
        coming = g.coming;
        byte_room = g.byte_room;
        places = g.places;
        ticket = omega (arith, g.count, made.ticket);
      }))
