-- the stages of the climb, over map and store
use Rattle.std.proofs.Common.{◌≡◌, ℕ, ◌+◌, ◌-◌, ◌/◌, ◌%◌, ◌<◌, ◌≤◌, true, false, List, [], ◌∷◌, ◌++◌, length, take, drop, set, Ok, Err, sym, refl, ap, ◌∙◌, subst, inl, inr, arith, length-drop}
use lib.Seq.{drop-length}
use Rattle.std.proofs.lemmas.Bool.{lt-ltb, le-ltb, cases_lt, cases_eq, eq-eqb, ne_eqb, both_ways}
use Rattle.tags.specs.declared.refusal.MapFault.{MapFault}
use Rattle.tags.specs.declared.refusal.MapFault.TheVariants.{NoNode}
use Rattle.rules.specs.declared.step.Step.TheVariants.{By32}
use Rattle.rules.specs.Steps.{size, step_symbol}
use Rattle.rules.specs.Tree.{edge_of, climb}
use Rattle.rules.specs.Book.{Row, word}
use Rattle.rules.specs.Laws.{IsTicket}
use Rattle.rules.proofs.Turns.{Full, not_blank}
use Rattle.rules.proofs.Agreement.{agrees}
use Rattle.rules.proofs.Climbing.{Climbing, climb_room, climb_first, Topped, climb_top, climb_step, Passed, climb_row, climbs}
use Rattle.parts.specs.Maps.{Map, MapFacts, count_of, up_answer}
use Rattle.parts.specs.Stores.{Store, label_at}
use Rattle.dictionary.specs.Shows.{tree_in}
use Rattle.dictionary.specs.Spelling.{of_row, Ticketed}
use Rattle.dictionary.proofs.Answered.{ok_is, err_not, ok_not}
use Rattle.dictionary.proofs.Standing.{struck_rows, held_rows}
use Rattle.std.proofs.lemmas.List.{drop-set}

-- the parent and the symbol of a node
pub record UpIs (m : Map) (v p c : ℕ) : Type 0 where
  pub low : 0 < v
  pub high : v < count_of m
  pub parent : p ≡ (edge_of m.edges v).parent
  pub symbol : c ≡ (edge_of m.edges v).symbol

pub up_is : (m : Map) (v : ℕ) (q : ℕ × ℕ) → Ok q ≡ up_answer m v → UpIs m v q.0 q.1
unfolding up_answer
up_is m v q e = elim (cases_eq v 0) [
  | inl z ↦ absurd (let f : up_answer m v ≡ Err NoNode = rw (eq-eqb v 0 z, up_answer) refl in ok_not (e ∙ f))
  | inr z ↦ elim (cases_lt v (count_of m)) [
    | inr h ↦ absurd (let f : up_answer m v ≡ Err NoNode = rw (ne_eqb v 0 z, le-ltb v (count_of m) h, up_answer) refl in ok_not (e ∙ f))
    | inl h ↦
        let f : up_answer m v ≡ Ok ((edge_of m.edges v).parent, (edge_of m.edges v).symbol) = rw (ne_eqb v 0 z, lt-ltb v (count_of m) h, up_answer) refl in
        let g : q ≡ ((edge_of m.edges v).parent, (edge_of m.edges v).symbol) = ok_is (e ∙ f) in
        record { low = omega arith; high = h; parent = ap (λ (k : ℕ × ℕ). k.0) g; symbol = ap (λ (k : ℕ × ℕ). k.1) g }
  ]
]

pub up_err : (m : Map) (v : ℕ) (f : MapFault) → Err f ≡ up_answer m v → v < count_of m → v ≡ 0
unfolding up_answer
up_err m v f e h = elim (cases_eq v 0) [
  | inl z ↦ z
  | inr z ↦ absurd (let g : up_answer m v ≡ Ok ((edge_of m.edges v).parent, (edge_of m.edges v).symbol) = rw (ne_eqb v 0 z, lt-ltb v (count_of m) h, up_answer) refl in err_not (e ∙ g))
]

pub parent_less : (m : Map) (v p c : ℕ) → MapFacts By32 m → UpIs m v p c → p < v
parent_less m v p c f u = omega (arith, u.parent, f.parents v u.low u.high)

-- a symbol tells a byte
pub byte_small : (m : Map) (v p c b : ℕ) → MapFacts By32 m → UpIs m v p c → b ≡ c / size By32 → b < 256
byte_small m v p c b f u e = omega (arith, u.symbol, f.symbols v u.low u.high)

-- whether a number is a row's node
module _ (m : Map) (l : Store) (v : ℕ) where
  pub of_none : length l.labels ≤ v → false ≡ of_row m l v
  of_none h = rw (le-ltb v (length l.labels) h) refl

  pub of_top : v < length l.labels → v ≡ 0 → true ≡ of_row m l v
  of_top h z = rw (lt-ltb v (length l.labels) h, eq-eqb v 0 z) refl

  pub of_plain : v < length l.labels → (0 < v → (edge_of m.edges v).symbol ≡ step_symbol By32 → ⊥) → of_row m l v ≡ true
  of_plain h n = elim (cases_eq v 0) [
    | inl z ↦ sym (of_top h z)
    | inr d ↦ rw (lt-ltb v (length l.labels) h, ne_eqb v 0 d, ne_eqb (edge_of m.edges v).symbol (step_symbol By32) (n (omega arith))) refl
  ]

  -- such a node has a label, and hangs by no step
  pub of_row_lem : of_row m l v ≡ true → (v < length l.labels) × (0 < v → (edge_of m.edges v).symbol ≡ step_symbol By32 → ⊥)
  of_row_lem e = elim (cases_lt v (length l.labels)) [
    | inr h ↦ absurd (both_ways _ (sym (of_none h)) e)
    | inl h ↦ (
      h,
      λ z s.
          let n : v ≡ 0 → ⊥ = λ q. omega arith in
          let f : of_row m l v ≡ false = rw (lt-ltb v (length l.labels) h, ne_eqb v 0 n, eq-eqb (edge_of m.edges v).symbol (step_symbol By32) s) refl in
          both_ways _ f e,
    )
  ]

module _ (m : Map) (l : Store) (ticket : ℕ) (t : Ticketed m l ticket) where
  abbrev rows : List (Row ℕ)
  rows = struck_rows t.tags

  pub held : Full By32 (tree_in m l) (struck_rows t.tags)
  held = not_blank By32 (tree_in m l) rows (held_rows m l t.tags t.holds) (omega (arith, (of_row_lem m l ticket t.row).0))

  -- the row with the ticket
  pub ticketed : IsTicket (struck_rows t.tags) ticket
  ticketed =
      let r = of_row_lem m l ticket t.row in
      let inside : ticket < count_of m = omega (arith, r.0, held.tr.labels_count, held.tr.edges_count) in
      elim ((agrees By32 (tree_in m l) rows (held_rows m l t.tags t.holds) (63 ∷ []) (omega arith, omega arith, tt)).kinds held.full ticket inside) [
        | inl k ↦ k.0
        | inr k ↦ absurd (r.1 k.0.0 k.0.1)
      ]

  abbrev pub row : ℕ
  row = ticketed.0

  spells : climb By32 (tree_in m l) ticket ≡ word rows row
  spells =
      subst (λ (v : ℕ). climb By32 (tree_in m l) v ≡ word rows row) ticketed.2 (climbs By32 (tree_in m l) rows held.places held.tr held.ok row ticketed.1)

  word_short : length (word rows row) ≤ 201
  word_short = omega (arith, ap (λ (z : List ℕ). length z) spells, t.short)

  pub ticket_labelled : ticket < length l.labels
  ticket_labelled = (of_row_lem m l ticket t.row).0

  -- from `end` on the word is laid, and i bytes of the node's label come before
  abbrev pub Climbs : ℕ → ℕ → List ℕ → Type 0
  Climbs node i spelt = Climbing By32 (struck_rows t.tags) held.places row node i spelt

  pub first_stage : (w : List ℕ) (i : ℕ) → i ≡ length (label_at l ticket) → Climbs ticket i (drop (length w) w)
  first_stage w i e =
      let c = climb_first By32 (tree_in m l) rows held.places held.tr held.ok row ticketed.1 in
      rw (e, drop-length w) (subst (λ (q : ℕ). Climbs q (length (label_at l q)) []) ticketed.2 c)

  module _ (w : List ℕ) (lw : length w ≡ 201) (end : ℕ) (le : end ≤ 201) (node i : ℕ) (c : Climbs node i (drop end w)) where
    pub stage_room : i ≤ end
    stage_room = omega (arith, climb_room By32 rows held.places row node i (drop end w) c, word_short, length-drop end w)

    pub stage_inside : node < count_of m
    stage_inside = omega (arith, c.inside, held.tr.edges_count)

    pub stage_labelled : node < length l.labels
    stage_labelled = omega (arith, c.inside, held.tr.labels_count)

    topped : node ≡ 0 → Topped By32 (tree_in m l) rows held.places held.tr held.ok row node i (drop end w) c
    topped z = climb_top By32 (tree_in m l) rows held.places held.tr held.ok row node i (drop end w) c z

    pub top_enough : node ≡ 0 → i ≤ length (label_at l node)
    top_enough z = (topped z).enough

    pub top_stage : node ≡ 0 → take i (label_at l node) ++ drop end w ≡ climb By32 (tree_in m l) ticket
    top_stage z = (topped z).all ∙ sym spells

    module _ (p s : ℕ) (is : UpIs m node p s) (d : ℕ) (d_is : d ≡ step_symbol By32) where
      pub step_stage : s ≡ d → (n : ℕ) → n ≡ size By32 → Climbs p (i + n) (drop end w)
      step_stage e n n-is =
          let c' = climb_step By32 (tree_in m l) rows held.places held.tr held.ok row node i (drop end w) c is.low (sym is.symbol ∙ e ∙ d_is) in
          rw (n-is, is.parent) c'

      -- the node is a row's
      module _ (n : s ≡ d → ⊥) where
        passed : Passed By32 (tree_in m l) rows held.places held.tr held.ok row node i (drop end w) c
        passed = climb_row By32 (tree_in m l) rows held.places held.tr held.ok row node i (drop end w) c is.low (λ e. n (is.symbol ∙ e ∙ sym d_is))

        pub row_enough : i ≤ length (label_at l node)
        row_enough = passed.enough

        -- w' has the label's bytes before the place `end`, from r on; b is the byte of the symbol, and k its place
        module _ (w' : List ℕ) (lw' : length w' ≡ 201) (r : ℕ) (re : r + i ≡ end) (laid : drop r w' ≡ take i (label_at l node) ++ drop end w)
            (b k : ℕ) (b-is : b ≡ s / size By32) (k_is : k ≡ s % size By32) where
          next_spelt : Climbs p k (b ∷ drop r w')
          next_spelt = rw (laid, b-is, k_is, is.parent, is.symbol) passed.next

          pub row_some : 0 < r
          row_some = omega (arith, climb_room By32 rows held.places row p k (b ∷ drop r w') next_spelt, word_short, length-drop r w')

          pub row_stage : Climbs p k (drop (r - 1) (set w' (r - 1) b))
          row_stage =
              let z : (r - 1) + 1 ≡ r = omega (arith, row_some) in
              let e : drop (r - 1) (set w' (r - 1) b) ≡ b ∷ drop r w' = drop-set w' (r - 1) b (omega (arith, row_some)) ∙ ap (λ (q : ℕ). b ∷ drop q w') z in
              rw e next_spelt
