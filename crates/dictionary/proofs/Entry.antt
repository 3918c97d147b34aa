-- entering a tag: what the book answers, and what is shown after it
use Rattle.std.proofs.Common.{◌≡◌, ℕ, ◌+◌, ◌-◌, ◌<◌, ◌≤◌, ◌⊎◌, List, [], ◌∷◌, ◌++◌, length, get_or, set, Some, None, Ok, Err, Option, Result, sym, refl, ap, ◌∙◌, subst, inl, inr, arith, length-drop, length-set, get_or-set_other, get_or-set_same}
use Rattle.std.proofs.lemmas.List.{map_push}
use Rattle.std.proofs.lemmas.Bool.{lt-ltb, le-ltb, cases_lt, cases_eq}
use Rattle.tags.specs.declared.refusal.Refusal.{Refusal}
use Rattle.tags.specs.declared.refusal.Refusal.TheVariants.{RowHolds, NoNodeRoom, NoByteRoom}
use Rattle.tags.specs.Tags.{tag_refusal, spelled}
use Rattle.rules.specs.declared.step.Step.{Step}
use Rattle.rules.specs.declared.step.Step.TheVariants.{By32}
use Rattle.rules.specs.declared.answers.Held.{Held}
use Rattle.rules.specs.Tree.{Tree, lacks, look_for, enter_tag, tree_of, bytes_in}
use Rattle.rules.specs.Book.{Row, first_row, row_at, most, nodes, row_bytes, label_bytes, needs_of, later_row, next_row, absent_moves, row_of, Arrival, tags_of}
use Rattle.rules.specs.Calls.{Book, Turn, with_rows, enter_old, enter_new, enter}
use Rattle.rules.specs.Laws.{AbsentBelow, last_symbol, last_label}
use Rattle.rules.proofs.Entering.{enter_new_lem}
use Rattle.rules.proofs.Together.{tree_last, next_later}
use Rattle.rules.proofs.Finds.{next_arrival, push_sound}
use Rattle.parts.specs.Maps.{Map, MapFacts, count_of, last_of, last_room, Rising}
use Rattle.parts.specs.Stores.{Store, longest, with_label, append_answer, append_next}
use Rattle.dictionary.specs.declared.descent.Gap.{Gap}
use Rattle.dictionary.specs.declared.descent.Place.{Place}
use Rattle.dictionary.specs.Shows.{tree_in, value_with, held_with, Shows}
use Rattle.dictionary.specs.Looks.{BoundedGap, Bounded, Looked, Open, OpenGap, Opened}
use Rattle.dictionary.specs.Growth.{room_answer, CanGrow, Grown}
use Rattle.dictionary.proofs.Answered.{err_not, ok_not}
use Rattle.dictionary.proofs.Fresh.{nil_of}
use Rattle.dictionary.proofs.Checked.{formed, form_short}
use Rattle.dictionary.proofs.Shelved.{last_value, before_last}
use Rattle.dictionary.proofs.Shown.{up_to_last, agree, no_rows, some_rows, ticket_in, in_last, Here, none_of}
use Rattle.dictionary.proofs.Finding.{looked_here, lacks_at}
use Rattle.dictionary.proofs.Taking.{Did, did_refuse, did_take, checked_bad, checked_fine}
use Rattle.dictionary.proofs.Growing.{closed_of}

-- rooms have at most 32,768 nodes
pub room_small : (room : ℕ) (coming : List ℕ) → Rising room coming → room ≤ 32768
room_small room [] h = h
room_small room (next ∷ coming) h = omega (arith, h.0, room_small next coming h.1)

no_room : (m : Map) (l : Store) (nodes : ℕ) (label : List ℕ) (why : Refusal) → Err why ≡ room_answer m l nodes label
    → ((m.room < count_of m + nodes) × (why ≡ NoNodeRoom)) ⊎ ((count_of m + nodes ≤ m.room) × (l.byte_room < bytes_in l.labels + length label) × (why ≡ NoByteRoom))
no_room m l nodes label why e = elim (cases_lt m.room (count_of m + nodes)) [
  | inl h ↦ (let q : room_answer m l nodes label ≡ Err NoNodeRoom = rw (lt-ltb m.room (count_of m + nodes) h) refl in let z = e ∙ q in inl (h, cc))
  | inr h ↦ elim (cases_lt l.byte_room (bytes_in l.labels + length label)) [
    | inl k ↦
        let q : room_answer m l nodes label ≡ Err NoByteRoom = rw (le-ltb m.room (count_of m + nodes) h, lt-ltb l.byte_room (bytes_in l.labels + length label) k) refl in
        let z = e ∙ q in
        inr (h, k, cc)
    | inr k ↦ absurd (let q : room_answer m l nodes label ≡ Ok tt = rw (le-ltb m.room (count_of m + nodes) h, le-ltb l.byte_room (bytes_in l.labels + length label) k) refl in err_not (e ∙ q))
  ]
]

has_room : (m : Map) (l : Store) (nodes : ℕ) (label : List ℕ) → Ok tt ≡ room_answer m l nodes label → (count_of m + nodes ≤ m.room) × (bytes_in l.labels + length label ≤ l.byte_room)
has_room m l nodes label e = elim (cases_lt m.room (count_of m + nodes)) [
  | inl h ↦ absurd (let q : room_answer m l nodes label ≡ Err NoNodeRoom = rw (lt-ltb m.room (count_of m + nodes) h) refl in ok_not (e ∙ q))
  | inr h ↦ elim (cases_lt l.byte_room (bytes_in l.labels + length label)) [
    | inl k ↦ absurd (
        let q : room_answer m l nodes label ≡ Err NoByteRoom = rw (le-ltb m.room (count_of m + nodes) h, lt-ltb l.byte_room (bytes_in l.labels + length label) k) refl in
        ok_not (e ∙ q))
    | inr k ↦ (h, k)
  ]
]

module _ {V : Type 0} where
  held_some : (u : ℕ) (row : Held V) (o : Option V) → Some row ≡ held_with u o → o ≡ Some row.value
  held_some u row None e = absurd (let z : ◌≡◌ {A = ℕ} 0 1 = cc in omega arith)
  held_some u row (Some value) e = let h : row ≡ record { ticket = u; value = value } = cc in ap (λ (z : Held V). Some z.value) (sym h)

  held_none : (u : ℕ) (o : Option V) → ◌≡◌ {A = Option (Held V)} None (held_with u o) → o ≡ None
  held_none u None e = refl
  held_none u (Some value) e = absurd (let z : ◌≡◌ {A = ℕ} 0 1 = cc in omega arith)

pub did_bad : {V : Type 0} (m : Map) (l : Store) (s : List (Option V)) (b : Book V) → Shows m l s b → (tag : List ℕ) (value : V) (why : Refusal) → tag_refusal tag ≡ Some why → Did m l s (enter b tag value) (Err why)
unfolding enter
did_bad m l s b sh tag value why e = did_refuse m l s b sh (enter b tag value) why (checked_bad b (tag_refusal tag) why e _)

module _ {V : Type 0} (m : Map) (l : Store) (s : List (Option V)) (b : Book V) (sh : Shows m l s b) (facts : MapFacts By32 m) (tag : List ℕ) (fine : tag_refusal tag ≡ None) (value : V) where
  abbrev rows : List (Row V)
  rows = b.rows

  -- the row that the tag would get
  abbrev y : Row V
  y = next_row b.step b.rows tag (Some value)

  abbrev arrival : Arrival V
  arrival = record { tag = tag; value = Some value }

  y_arrival : ◌≡◌ {A = Arrival V} (record { tag = y.tag; value = y.value }) arrival
  y_arrival = next_arrival b.step rows arrival

  y_tag : y.tag ≡ tag
  y_tag = ap (λ (a : Arrival V). a.tag) y_arrival

  enter_turn : enter b tag value ≡ (elim (row_of rows tag) as (λ _. Turn (Result ℕ Refusal) V) [ Some j ↦ enter_old b j value | None ↦ enter_new b y ])
  unfolding enter
  enter_turn = checked_fine b (tag_refusal tag) fine _

  -- w is the spelled form, as the code has it
  module _ (w : List ℕ) (is : w ≡ spelled tag) (some : 0 < length l.labels) (r : Place) (looked : Looked m l w r) (u : ℕ) (at : r.end ≡ Ok u) where
    here : Here m l s b sh facts tag u r.moves
    here = looked_here m l s b sh tag fine w is some r looked facts u at

    pub did_hold : (row : Held V) → Some row ≡ held_with u (get_or s u None) → Did m l s (enter b tag value) (Err RowHolds)
    unfolding enter_old
    did_hold row e =
        let o : (row_at rows here.row).value ≡ Some row.value = here.value ∙ held_some u row _ e in
        did_refuse m l s b sh (enter b tag value) RowHolds (enter_turn ∙ (rw here.is (rw (o, enter_old) refl)))

    pub did_again : None ≡ held_with u (get_or s u None) → (s' : List (Option V)) → s' ≡ set s u (Some value) → Did m l s' (enter b tag value) (Ok u)
    unfolding enter_old
    did_again e s' q =
        let o : (row_at rows here.row).value ≡ None = here.value ∙ held_none u _ e in
        did_take m l s b sh facts (enter b tag value) here.row here.in_rows (Some value) (enter_turn ∙ (rw here.is (rw (o, enter_old) refl))) u here.ticket s' q

  -- a tag in no row
  module _ (none : row_of rows tag ≡ None) where
    new_turn : enter b tag value ≡ enter_new b y
    new_turn = enter_turn ∙ (rw none refl)

    did_6 : b.room < nodes rows + y.needs → Did m l s (enter b tag value) (Err NoNodeRoom)
    unfolding enter_new
    did_6 h = did_refuse m l s b sh (enter b tag value) NoNodeRoom (new_turn ∙ (rw (lt-ltb b.room (nodes rows + y.needs) h, enter_new) refl))

    did_7 : nodes rows + y.needs ≤ b.room → b.byte_room < label_bytes rows + row_bytes y → Did m l s (enter b tag value) (Err NoByteRoom)
    unfolding enter_new
    did_7 h g = did_refuse m l s b sh (enter b tag value) NoByteRoom
        (new_turn ∙ (rw (le-ltb b.room (nodes rows + y.needs) h, lt-ltb b.byte_room (label_bytes rows + row_bytes y) g, enter_new) refl))

    module _ (h : nodes rows + y.needs ≤ b.room) (g : label_bytes rows + row_bytes y ≤ b.byte_room) where
      in_turn : enter b tag value ≡ record { answer = Ok y.ticket; next = with_rows b (rows ++ (y ∷ [])) }
      unfolding enter_new
      in_turn = new_turn ∙ (rw (le-ltb b.room (nodes rows + y.needs) h, le-ltb b.byte_room (label_bytes rows + row_bytes y) g, enter_new) refl)

      -- the new row is shown
      module _ (m' : Map) (l' : Store) (r : ℕ) (tree : tree_in m' l' ≡ enter_tag By32 (tree_in m l) tag) (er : m'.room ≡ m.room) (ec : m'.coming ≡ m.coming)
          (eb : l'.byte_room ≡ l.byte_room) (ep : l'.places ≡ l.places) (ticket : y.ticket ≡ r) (low : r < m.room) (old : (j : ℕ) → j < length rows → (row_at rows j).ticket < r) where
        tags_push : tags_of (rows ++ (y ∷ [])) ≡ tags_of rows ++ (tag ∷ [])
        tags_push = map_push _ rows y ∙ ap (λ (z : List ℕ). tags_of rows ++ (z ∷ [])) y_tag

        values_push : (n : ℕ) → n < length (set s r (Some value)) → get_or (set s r (Some value)) n None ≡ value_with (rows ++ (y ∷ [])) n
        values_push n k = elim (cases_eq n r) [
          | inl q ↦
              let v : value_with (rows ++ (y ∷ [])) y.ticket ≡ y.value = last_value rows y (λ j hj e. omega (arith, old j hj)) in
              rw (q, get_or-set_same s r (Some value) None (in_last m l s b sh facts r low), ← ticket) (sym (v ∙ ap (λ (a : Arrival V). a.value) y_arrival))
          | inr d ↦ get_or-set_other s r n (Some value) None d ∙ sh.values n (omega (arith, length-set s r (Some value))) ∙ sym (before_last rows y n (λ q. d (sym q ∙ ticket)))
        ]

        push_shows : Shows m' l' (set s r (Some value)) (with_rows b (rows ++ (y ∷ [])))
        push_shows =
            let last-same : last_room m' ≡ last_room m = ap (λ (z : ℕ). last_of z m'.coming) er ∙ ap (λ (z : List ℕ). last_of m.room z) ec in
            record {
              sound = push_sound b arrival sh.sound (formed tag fine) none g;
              step = sh.step;
              tree = tree ∙ ap (λ (t : Tree). enter_tag By32 t tag) sh.tree ∙ sym (tree_last By32 (tags_of rows) tag) ∙ ap (tree_of By32) (sym tags_push);
              values = values_push;
              room = er ∙ sh.room;
              coming = ec ∙ sh.coming;
              byte_room = eb ∙ sh.byte_room;
              label_places = omega (arith, last-same, ep, sh.label_places);
              value_places = omega (arith, last-same, sh.value_places, length-set s r (Some value));
            }

        did_push : (s' : List (Option V)) → s' ≡ set s r (Some value) → Did m' l' s' (enter b tag value) (Ok r)
        did_push s' es =
            subst (λ (z : List (Option V)). Did m' l' z (enter b tag value) (Ok r)) (sym es)
            (subst (λ (z : Turn (Result ℕ Refusal) V). Did m' l' (set s r (Some value)) z (Ok r)) (sym in_turn) (record { says = ap Ok (sym ticket); shows = push_shows }))

  -- the first tag
  module _ (empty : length l.labels ≡ 0) where
    no : b.rows ≡ []
    no = no_rows m l s b sh empty

    none_first : row_of rows tag ≡ None
    unfolding row_of
    none_first = ap (λ (z : List (Row V)). row_of z tag) no

    y_first : y ≡ first_row tag (Some value)
    unfolding next_row
    y_first = ap (λ (z : List (Row V)). next_row b.step z tag (Some value)) no

    room_first : nodes rows + y.needs ≤ b.room
    unfolding nodes
    room_first = omega (arith, ap (λ (z : List (Row V)). nodes z) no, ap (λ (z : Row V). z.needs) y_first, facts.fits, sh.room)

    bytes_first : label_bytes rows + row_bytes y ≡ length (spelled tag)
    unfolding label_bytes
    bytes_first = omega (arith, ap (λ (z : List (Row V)). label_bytes z) no, ap (λ (z : Row V). row_bytes z) y_first)

    labels_first : l.labels ≡ []
    labels_first = nil_of l.labels empty

    module _ (w : List ℕ) (is : w ≡ spelled tag) where
      same_length : length w ≡ length (spelled tag)
      same_length = ap (λ (z : List ℕ). length z) is

      no_bytes : bytes_in l.labels ≡ 0
      unfolding bytes_in
      no_bytes = ap (λ (z : List (List ℕ)). bytes_in z) labels_first

      pub did_first_refused : (why : Refusal) → Err why ≡ room_answer m l 0 w → Did m l s (enter b tag value) (Err why)
      did_first_refused why e = elim (no_room m l _ _ why e) [
        | inl h ↦ absurd (omega (arith, h.0, facts.fits))
        | inr h ↦ rw h.2 (did_7 none_first room_first (omega (arith, h.1, no_bytes, bytes_first, same_length, sh.byte_room)))
      ]

      append_first : length w ≤ l.byte_room → append_next l w 0 ≡ with_label l (spelled tag)
      unfolding append_next append_answer
      append_first h =
          let bz : bytes_in l.labels ≡ 0 = no_bytes in
          let pl : length l.labels < l.places = omega (arith, facts.fits, up_to_last m.room m.coming facts.rooms, sh.label_places) in
          let a : append_answer l w 0 ≡ Ok tt = rw (
            le-ltb (length w) 0 (omega arith),
            le-ltb longest (length w - 0) (omega (arith, form_short tag w fine is)),
            lt-ltb (length l.labels) l.places pl,
            le-ltb l.byte_room (bytes_in l.labels + (length w - 0)) (omega arith),
            append_answer,
          ) refl in
          rw (a, append_next) (ap (λ (z : List ℕ). with_label l z) is)

      tree_first : tree_in m (with_label l (spelled tag)) ≡ enter_tag By32 (tree_in m l) tag
      unfolding enter_tag
      tree_first =
          let p : enter_tag By32 (tree_in m l) tag ≡ record { edges = m.edges; labels = spelled tag ∷ [] } = rw (labels_first, enter_tag) refl in
          ap (λ (z : List (List ℕ)). record { edges = m.edges; labels = z ++ (spelled tag ∷ []) }) labels_first ∙ sym p

      pub did_first : Ok tt ≡ room_answer m l 0 w → (l' : Store) → l' ≡ append_next l w 0 → (s' : List (Option V)) → s' ≡ set s 0 (Some value)
          → Did m l' s' (enter b tag value) (Ok 0)
      did_first room l' el s' es =
          let h : length w ≤ l.byte_room = omega (arith, (has_room m l _ _ room).1, no_bytes) in
          subst (λ (z : Store). Did m z s' (enter b tag value) (Ok 0)) (sym (el ∙ append_first h))
          (did_push none_first room_first (omega (arith, bytes_first, same_length, sh.byte_room)) m (with_label l (spelled tag)) 0 tree_first refl refl refl refl
          (ap (λ (z : Row V). z.ticket) y_first) (omega (arith, facts.fits)) (λ j hj. absurd (omega (arith, ap (λ (z : List (Row V)). length z) no))) s' es)

  -- a later tag
  module _ (w : List ℕ) (is : w ≡ spelled tag) (some : 0 < length l.labels) (r : Place) (looked : Looked m l w r) (gap : Gap) (at : r.end ≡ Err gap) where
    ends : lacks gap.node gap.missing gap.symbol gap.label.now r.moves ≡ look_for By32 (tree_in m l) tag
    ends = lacks_at m l s b sh tag fine w is some r looked gap at

    none_new : row_of rows tag ≡ None
    none_new = none_of m l s b sh tag (formed tag fine) _ _ _ _ r.moves ends

    full : 0 < length rows
    full = some_rows m l s b sh some

    below : AbsentBelow By32 (tree_in m l) rows tag
    below = (agree m l s b sh tag (formed tag fine)).absent full none_new

    y_is : y ≡ later_row By32 rows tag (Some value)
    y_is = ap (λ (z : Step). next_row z rows tag (Some value)) sh.step ∙ next_later By32 rows tag (Some value) full

    same : lacks gap.node gap.missing gap.symbol gap.label.now r.moves
        ≡ lacks below.node (needs_of By32 rows tag - 1) (last_symbol By32 rows tag) (last_label rows tag) (absent_moves By32 rows tag)
    same = ends ∙ below.ends

    needs_is : y.needs ≡ gap.missing + 1
    unfolding later_row
    needs_is =
        let q = same in
        let e : gap.missing ≡ needs_of By32 rows tag - 1 = cc in
        omega (arith, ap (λ (z : Row V). z.needs) y_is)

    ticket_is : y.ticket ≡ count_of m + gap.missing
    unfolding later_row
    ticket_is = omega (arith, ap (λ (z : Row V). z.ticket) y_is, ap (λ (z : Row V). z.needs) y_is, needs_is, (agree m l s b sh tag (formed tag fine)).count)

    rest_is : length gap.label.now ≡ row_bytes y
    unfolding later_row
    rest_is =
        let q = same in
        let e : gap.label.now ≡ last_label rows tag = cc in
        omega (
          arith,
          ap (λ (z : List ℕ). length z) e,
          length-drop (most (spelled tag) rows + 1) (spelled tag),
          ap (λ (z : Row V). z.start) y_is,
          ap (λ (z : List ℕ). length (spelled z)) y_tag,
        )

    nodes_is : count_of m ≡ nodes rows
    nodes_is = (agree m l s b sh tag (formed tag fine)).count

    bytes_is : bytes_in l.labels ≡ label_bytes rows
    bytes_is = (agree m l s b sh tag (formed tag fine)).bytes

    pub did_new_refused : (why : Refusal) → Err why ≡ room_answer m l (gap.missing + 1) gap.label.now → Did m l s (enter b tag value) (Err why)
    did_new_refused why e = elim (no_room m l _ _ why e) [
      | inl h ↦ rw h.1 (did_6 none_new (omega (arith, h.0, needs_is, nodes_is, sh.room)))
      | inr h ↦ rw h.2 (did_7 none_new (omega (arith, h.0, needs_is, nodes_is, sh.room)) (omega (arith, h.1, rest_is, bytes_is, sh.byte_room)))
    ]

    module _ (room : Ok tt ≡ room_answer m l (gap.missing + 1) gap.label.now) where
      roomy : (count_of m + (gap.missing + 1) ≤ m.room) × (bytes_in l.labels + length gap.label.now ≤ l.byte_room)
      roomy = has_room m l _ _ room

      pub can_grow : Opened m.edges r → Bounded w r → CanGrow m l gap.node gap.missing gap.symbol gap.label.now
      can_grow op bounded =
          let o : Open m.edges gap.node gap.missing gap.symbol = subst (OpenGap m.edges) at op in
          let f : BoundedGap w (Err gap) = subst (BoundedGap w) at bounded.1 in
          record {
            closed = closed_of m facts;
            opened = o;
            symbol = f.1;
            room = omega (arith, roomy.0);
            counted = (agree m l s b sh tag (formed tag fine)).labelled full;
            places = omega (arith, up_to_last m.room m.coming facts.rooms, sh.label_places);
            short = omega (arith, f.2, form_short tag w fine is);
            bytes = roomy.1;
          }

      pub did_new : (m' : Map) (l' : Store) (t : ℕ) → Grown m l gap.node gap.missing gap.symbol gap.label.now m' l' t → (s' : List (Option V)) → s' ≡ set s t (Some value)
          → Did m' l' s' (enter b tag value) (Ok t)
      did_new m' l' t grown s' es =
          did_push none_new (omega (arith, roomy.0, needs_is, nodes_is, sh.room)) (omega (arith, roomy.1, rest_is, bytes_is, sh.byte_room)) m' l' t
          (grown.tree ∙ sym (enter_new_lem By32 m.edges l.labels tag gap.node gap.missing gap.symbol gap.label.now r.moves some (sym ends)))
          grown.room grown.coming grown.byte_room grown.places (ticket_is ∙ sym grown.ticket) (omega (arith, grown.ticket, roomy.0))
          (λ j hj. omega (arith, ticket_in m l s b sh j hj, grown.ticket)) s' es
