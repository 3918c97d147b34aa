-- every find counts the moves of looking in the tree
use Rattle.std.proofs.Common.{◌≡◌, ℕ, ◌+◌, ◌≤◌, ltb, List, [], ◌∷◌, ◌++◌, length, is_some, Some, None, Ok, Err, Option, Result, sym, refl, ap, ◌∙◌, subst, inl, inr, arith}
use lib.Seq.{map-set_same}
use Rattle.std.proofs.lemmas.List.{map_push}
use Rattle.std.proofs.lemmas.Bool.{cases_Bool, cases_eq, ltb-false}
use Rattle.tags.specs.declared.refusal.Refusal.{Refusal}
use Rattle.tags.specs.Tags.{tag_refusal, WellFormed}
use Rattle.rules.specs.declared.step.Step.{Step}
use Rattle.rules.specs.declared.answers.Found.{Found}
use Rattle.rules.specs.Tree.{moves_of, tree_of}
use Rattle.rules.specs.Book.{Row, first_row, row_at, nodes, row_bytes, label_bytes, later_row, next_row, absent_moves, row_of, Arrival, arrive, arrive_all, rows_of, arrivals_of, tags_of}
use Rattle.rules.specs.Calls.{Book, absent, Turn, with_rows, with_value, takes, enter_old, enter_new, enter, on_live_row, find_in, find, double}
use Rattle.rules.specs.Runs.{Request, Enter, Change, Find, Strike, Spell, Double, turn, book_after}
use Rattle.rules.specs.Laws.{AllWellFormed, Agree, arrived_tags, DescentMatchesBook, Sound, TrueFind, FindsCountMoves}
use Rattle.rules.proofs.Together.{label_bytes_push}
use Rattle.rules.proofs.Values.{cases_option, all_struck, bytes_struck, arrive_new, other_values}

all_push : (tags : List (List ℕ)) (tag : List ℕ) → AllWellFormed tags → WellFormed tag → AllWellFormed (tags ++ (tag ∷ []))
all_push [] tag h w = (w, tt)
all_push (t ∷ tags) tag h w = (h.0, all_push tags tag h.1 w)

module _ {V : Type 0} where
  arrive_last : (step : Step) (arrivals : List (Arrival V)) (a : Arrival V) (rows : List (Row V)) → arrive_all step rows (arrivals ++ (a ∷ [])) ≡ arrive step (arrive_all step rows arrivals) a
  unfolding arrive_all
  arrive_last step [] a rows = refl
  arrive_last step (b ∷ arrivals) a rows = arrive_last step arrivals a (arrive step rows b)

  rows_last : (step : Step) (arrivals : List (Arrival V)) (a : Arrival V) → rows_of step (arrivals ++ (a ∷ [])) ≡ arrive step (rows_of step arrivals) a
  unfolding rows_of
  rows_last step arrivals a = arrive_last step arrivals a []

  pub next_arrival : (step : Step) (rows : List (Row V)) (a : Arrival V)
      → ◌≡◌ {A = Arrival V} (record { tag = (next_row step rows a.tag a.value).tag; value = (next_row step rows a.tag a.value).value }) a
  unfolding next_row later_row
  next_arrival step [] a = refl
  next_arrival step (r ∷ rs) a = refl

  -- a row more, of an arrival whose tag is in no row
  pub push_sound : (book : Book V) (a : Arrival V) → Sound book → WellFormed a.tag → row_of book.rows a.tag ≡ None
      → label_bytes book.rows + row_bytes (next_row book.step book.rows a.tag a.value) ≤ book.byte_room
      → Sound (with_rows book (book.rows ++ (next_row book.step book.rows a.tag a.value ∷ [])))
  push_sound book a s w new fits =
      let r : Row V = next_row book.step book.rows a.tag a.value in
      let n = next_arrival book.step book.rows a in
      let arrivals : arrivals_of (book.rows ++ (r ∷ [])) ≡ arrivals_of book.rows ++ (a ∷ []) = map_push _ book.rows r ∙ ap (λ (z : Arrival V). arrivals_of book.rows ++ (z ∷ [])) n in
      let tags : tags_of (book.rows ++ (r ∷ [])) ≡ tags_of book.rows ++ (a.tag ∷ []) = map_push _ book.rows r ∙ ap (λ (z : Arrival V). tags_of book.rows ++ (z.tag ∷ [])) n in
      record {
        rows = sym (ap (rows_of book.step) arrivals ∙ rows_last book.step (arrivals_of book.rows) a ∙ ap (λ (z : List (Row V)). arrive book.step z a) (sym s.rows) ∙ arrive_new book.step book.rows a new);
        tags = rw tags (all_push (tags_of book.rows) a.tag s.tags w);
        bytes = rw (label_bytes_push book.rows r) fits;
      }

  pub takes_sound : (book : Book V) (j : ℕ) (value : Option V) → Sound book → Sound (takes book j value).next
  unfolding takes
  takes_sound book j value s =
      let r : Row V = with_value (row_at book.rows j) value in
      let rows : List (Row V) = (takes book j value).next.rows in
      let same : all_struck book.rows ≡ all_struck rows = sym (map-set_same _ book.rows j r (first_row [] None) refl) in
      let tags : tags_of rows ≡ tags_of book.rows = map-set_same _ book.rows j r (first_row [] None) refl in
      let bytes : label_bytes rows ≡ label_bytes book.rows = sym (bytes_struck rows) ∙ ap label_bytes (sym same) ∙ bytes_struck book.rows in
      record { rows = other_values book.step book.rows rows same s.rows; tags = rw tags s.tags; bytes = rw bytes s.bytes }

  -- a turn by a choice is sound where each choice is
  choice_sound : {A : Type 0} (choice : Option A) (n : Turn (Result ℕ Refusal) V) (f : A → Turn (Result ℕ Refusal) V) → (choice ≡ None → Sound n.next) → ((a : A) → Sound (f a).next)
      → Sound (elim choice as (λ _. Turn (Result ℕ Refusal) V) [ None ↦ n | Some a ↦ f a ]).next
  choice_sound None n f p q = p refl
  choice_sound (Some a) n f p q = q a

  old_sound : (book : Book V) (j : ℕ) (value : V) → Sound book → Sound (enter_old book j value).next
  unfolding enter_old
  old_sound book j value s = choice_sound (row_at book.rows j).value _ _ (λ e. takes_sound book j (Some value) s) (λ held. s)

  new_sound : (book : Book V) (a : Arrival V) → Sound book → WellFormed a.tag → row_of book.rows a.tag ≡ None
      → Sound (enter_new book (next_row book.step book.rows a.tag a.value)).next
  unfolding enter_new
  new_sound book a s w new =
      let r : Row V = next_row book.step book.rows a.tag a.value in
      elim (cases_Bool (ltb book.room (nodes book.rows + r.needs))) [
        | inl f ↦ rw (f, enter_new) s
        | inr f ↦ elim (cases_Bool (ltb book.byte_room (label_bytes book.rows + row_bytes r))) [
          | inl g ↦ rw (f, g, enter_new) s
          | inr g ↦ rw (f, g, enter_new) (push_sound book a s w new (ltb-false book.byte_room (label_bytes book.rows + row_bytes r) g))
        ]
      ]

  enter_sound : (book : Book V) (tag : List ℕ) (value : V) → Sound book → Sound (enter book tag value).next
  unfolding enter
  enter_sound book tag value s =
      choice_sound (tag_refusal tag) _ _
      (λ e. choice_sound (row_of book.rows tag) _ _ (new_sound book (record { tag = tag; value = Some value }) s (ap is_some e)) (λ j. old_sound book j value s))
      (λ why. s)

  live_sound : (book : Book V) (tag : List ℕ) (value : Option V) → Sound book → Sound (on_live_row book tag value).next
  unfolding on_live_row
  live_sound book tag value s =
      choice_sound (tag_refusal tag) _ _
      (λ e. choice_sound (row_of book.rows tag) _ _ (λ f. s) (λ j. choice_sound (row_at book.rows j).value _ _ (λ g. s) (λ held. takes_sound book j value s)))
      (λ why. s)

  pub double_sound : (book : Book V) → Sound book → Sound (double book).next
  unfolding double
  double_sound book s = go book.coming refl
    where
      go : (coming : List ℕ) → book.coming ≡ coming → Sound (double book).next
      go [] e = rw (e, double) s
      go (room ∷ coming) e = rw (e, double) (record { rows = s.rows; tags = s.tags; bytes = s.bytes })

  turn_sound : (book : Book V) (q : Request V) → Sound book → Sound (turn book q).next
  turn_sound book (Enter tag value) = enter_sound book tag value
  turn_sound book (Change tag value) = live_sound book tag (Some value)
  turn_sound book (Find tag) = λ s. s
  turn_sound book (Strike tag) = live_sound book tag None
  turn_sound book (Spell ticket buffer) = λ s. s
  turn_sound book Double = double_sound book

  run_sound : (qs : List (Request V)) (book : Book V) → Sound book → Sound (book_after book qs)
  run_sound [] book s = s
  run_sound (q ∷ qs) book s = run_sound qs (turn book q).next (turn_sound book q s)

  fresh_sound : (book : Book V) → book.rows ≡ [] → Sound book
  unfolding rows_of arrive_all label_bytes
  fresh_sound book e = record { rows = rw e refl; tags = rw e tt; bytes = rw e (omega arith) }

  pub tags_arrived : (rows : List (Row V)) → arrived_tags (arrivals_of rows) ≡ tags_of rows
  tags_arrived [] = refl
  tags_arrived (r ∷ rows) = ap (λ (tags : List (List ℕ)). r.tag ∷ tags) (tags_arrived rows)

  no_moves : (step : Step) (rows : List (Row V)) (tag : List ℕ) → length rows ≡ 0 → absent_moves step rows tag ≡ 0
  unfolding absent_moves
  no_moves step [] tag e = refl
  no_moves step (r ∷ rows) tag e = absurd (omega arith)

module _ {V : Type 0} (law : DescentMatchesBook V) where
  module _ (book : Book V) (s : Sound book) (tag : List ℕ) (w : WellFormed tag) where
    pub agree : Agree book.step (tree_of book.step (tags_of book.rows)) book.rows tag
    agree = rw (tags_arrived book.rows, ← s.rows) at (law book.step (arrivals_of book.rows) (rw (tags_arrived book.rows) s.tags) tag w)

    absent_true : row_of book.rows tag ≡ None → TrueFind book tag (absent (absent_moves book.step book.rows tag))
    absent_true none = elim (cases_eq (length book.rows) 0) [
      | inl e ↦ let z = no_moves book.step book.rows tag e in ((agree.empty e).still ∙ sym z, omega (arith, z))
      | inr n ↦ let a = agree.absent (omega arith) none in (ap moves_of a.ends, a.few)
    ]

    found_true : TrueFind book tag (find_in book.step book.rows tag)
    unfolding find_in
    found_true = elim (cases_option (row_of book.rows tag)) [
      | inl e ↦ rw (e, find_in) (absent_true e)
      | inr k ↦
          let a = agree.found k.0 k.1 in
          elim (cases_option (row_at book.rows k.0).value) [
            | inl e ↦ rw (k.1, e, find_in) (ap moves_of a.ends, a.few)
            | inr v ↦ rw (k.1, v.1, find_in) (a.ends, a.few)
          ]
    ]

  true_find : (book : Book V) → Sound book → (tag : List ℕ) (answer : Found V) → find book tag ≡ Ok answer → TrueFind book tag answer
  unfolding find
  true_find book s tag answer h = elim (cases_option (tag_refusal tag)) [
    | inl e ↦
        let f : find book tag ≡ Ok (find_in book.step book.rows tag) = rw (e, find) refl in
        let z : find_in book.step book.rows tag ≡ answer = cc in
        subst (λ (x : Found V). TrueFind book tag x) z (found_true book s tag (ap is_some e))
    | inr k ↦
        let f : find book tag ≡ Err k.0 = rw (k.1, find) refl in
        let z : ◌≡◌ {A = ℕ} 0 1 = cc in
        absurd (omega arith)
  ]

  pub finds_count_moves : FindsCountMoves V
  finds_count_moves = record { fresh = fresh_sound; kept = λ book qs s. run_sound qs book s; true_finds = true_find }
