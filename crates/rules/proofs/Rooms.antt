-- rooms do not show
use Rattle.std.proofs.Common.{◌≡◌, ℕ, ◌+◌, true, false, ltb, List, [], ◌∷◌, ◌++◌, Some, None, Ok, Err, Option, Result, sym, refl, ap, ◌∙◌, subst, inl, inr}
use Rattle.std.proofs.lemmas.Bool.{cases_Bool, both_ways}
use Rattle.tags.specs.declared.refusal.Refusal.{Refusal}
use Rattle.tags.specs.declared.refusal.Refusal.TheVariants.{NoNodeRoom, NoByteRoom}
use Rattle.tags.specs.Tags.{tag_refusal}
use Rattle.rules.specs.declared.answers.Answer.{Answer}
use Rattle.rules.specs.declared.answers.Answer.TheVariants.{Entered, Changed, Struck}
use Rattle.rules.specs.Book.{Row, row_at, nodes, row_bytes, label_bytes, next_row, row_of}
use Rattle.rules.specs.Calls.{Book, Turn, takes, enter_old, enter_new, enter, on_live_row, find, spell, spell_buffer, double}
use Rattle.rules.specs.Runs.{Request, Enter, Change, Find, Strike, Spell, Double, answer_of, turn, Reply, reply_to, replies, book_after, is_double, but_doubles, replies_but_doubles, Roomy, AllRoomy}
use Rattle.rules.specs.Laws.{Alike, RoomsDoNotShow}

-- a result that is no refusal for want of room
abbrev Fits : Result ℕ Refusal → Type 0
Fits a = (a ≡ Err NoNodeRoom → ⊥) × (a ≡ Err NoByteRoom → ⊥)

module _ {V : Type 0} where
  -- two turns agree, unless one refuses for want of room
  abbrev Agreed : Turn (Result ℕ Refusal) V → Turn (Result ℕ Refusal) V → Type 0
  Agreed t u = Fits t.answer → Fits u.answer → (t.answer ≡ u.answer) × Alike t.next u.next

  -- turns by the same choice agree where each choice does
  choices_agree : {A : Type 0} (choice : Option A) {n m : Turn (Result ℕ Refusal) V} {f g : A → Turn (Result ℕ Refusal) V} → Agreed n m → ((a : A) → Agreed (f a) (g a))
      → Agreed (elim choice [ None ↦ n | Some a ↦ f a ]) (elim choice [ None ↦ m | Some a ↦ g a ])
  choices_agree None p q = p
  choices_agree (Some a) p q = q a

  -- the book in the rooms of another
  module _ (book other : Book V) where
    abbrev moved : Book V
    moved = record { step = book.step; rows = book.rows; room = other.room; coming = other.coming; byte_room = other.byte_room }

    same : Alike book moved
    same = record { step = refl; rows = refl }

    takes_agrees : (j : ℕ) (value : Option V) → Agreed (takes book j value) (takes moved j value)
    unfolding takes
    takes_agrees j value p q = (refl, record { step = refl; rows = refl })

    old_agrees : (j : ℕ) (value : V) → Agreed (enter_old book j value) (enter_old moved j value)
    unfolding enter_old
    old_agrees j value = choices_agree (row_at book.rows j).value (takes_agrees j (Some value)) (λ held p q. (refl, same))

    live_agrees : (tag : List ℕ) (value : Option V) → Agreed (on_live_row book tag value) (on_live_row moved tag value)
    unfolding on_live_row
    live_agrees tag value =
        choices_agree (tag_refusal tag)
        (choices_agree (row_of book.rows tag) (λ p q. (refl, same)) (λ j. choices_agree (row_at book.rows j).value (λ p q. (refl, same)) (λ held. takes_agrees j value)))
        (λ why p q. (refl, same))

  -- a tag in no row, where neither room is wanting
  new_is : (book : Book V) (r : Row V) → Fits (enter_new book r).answer
      → ((enter_new book r).answer ≡ Ok r.ticket) × ((enter_new book r).next.step ≡ book.step) × ((enter_new book r).next.rows ≡ book.rows ++ (r ∷ []))
  unfolding enter_new
  new_is book r p = elim (cases_Bool (ltb book.room (nodes book.rows + r.needs))) [
    | inl f ↦ absurd (p.0 (rw (f, enter_new) refl))
    | inr f ↦ elim (cases_Bool (ltb book.byte_room (label_bytes book.rows + row_bytes r))) [
      | inl g ↦ absurd (p.1 (rw (f, g, enter_new) refl))
      | inr g ↦ rw (f, g, enter_new) (refl, refl, refl)
    ]
  ]

  -- turns that agree, as turns of a run
  says_same : (says : ℕ → Answer V) {t u : Turn (Result ℕ Refusal) V} → Agreed t u → Roomy (answer_of says t.answer) → Roomy (answer_of says u.answer)
      → (◌≡◌ {A = Reply V} (record { answer = answer_of says t.answer; buffer = [] }) (record { answer = answer_of says u.answer; buffer = [] })) × Alike t.next u.next
  says_same says h p q =
      let k = h (λ e. p.0 (ap (answer_of says) e), λ e. p.1 (ap (answer_of says) e)) (λ e. q.0 (ap (answer_of says) e), λ e. q.1 (ap (answer_of says) e)) in
      (ap (λ (a : Result ℕ Refusal). record { answer = answer_of says a; buffer = [] }) k.0, k.1)

  -- a call but double, of the book and of the same in the rooms of another
  module _ (book other : Book V) where
    new_agrees : (r : Row V) → Agreed (enter_new book r) (enter_new (moved book other) r)
    new_agrees r p q =
        let m = new_is book r p in
        let n = new_is (moved book other) r q in
        (m.0 ∙ sym n.0, record { step = m.1 ∙ sym n.1; rows = m.2 ∙ sym n.2 })

    enter_agrees : (tag : List ℕ) (value : V) → Agreed (enter book tag value) (enter (moved book other) tag value)
    unfolding enter
    enter_agrees tag value =
        choices_agree (tag_refusal tag) (choices_agree (row_of book.rows tag) (new_agrees (next_row book.step book.rows tag (Some value))) (λ j. old_agrees book other j value))
        (λ why p q. (refl, same book other))

    -- a call gets the same from both, unless one refuses for want of room
    abbrev Same-reply : Book V → Request V → Type 0
    Same-reply c q = Roomy (turn book q).answer → Roomy (turn c q).answer → (reply_to book q ≡ reply_to c q) × Alike (turn book q).next (turn c q).next

    turn_same : (q : Request V) → is_double q ≡ false → Same-reply (moved book other) q
    unfolding find spell spell_buffer
    turn_same (Enter tag value) n = says_same Entered (enter_agrees tag value)
    turn_same (Change tag value) n = says_same Changed (live_agrees book other tag (Some value))
    turn_same (Find tag) n = λ p q. (refl, same book other)
    turn_same (Strike tag) n = says_same Struck (live_agrees book other tag None)
    turn_same (Spell ticket buffer) n = λ p q. (refl, same book other)
    turn_same Double n = absurd (both_ways true n refl)

    alike_same : Alike book other → (q : Request V) → is_double q ≡ false → Same-reply other q
    alike_same a q n = subst (λ (c : Book V). Same-reply c q) (rw (a.step, a.rows) refl) (turn_same q n)

  self : (book : Book V) → Alike book book
  self book = record { step = refl; rows = refl }

  turned : {book other : Book V} → Alike book other → Alike other book
  turned a = record { step = sym a.step; rows = sym a.rows }

  joined : {book other third : Book V} → Alike book other → Alike other third → Alike book third
  joined a b = record { step = a.step ∙ b.step; rows = a.rows ∙ b.rows }

  double_alike : (book : Book V) → Alike book (double book).next
  unfolding double
  double_alike book = go book.coming refl
    where
      go : (coming : List ℕ) → book.coming ≡ coming → Alike book (double book).next
      go [] e = rw (e, double) (record { step = refl; rows = refl })
      go (room ∷ coming) e = rw (e, double) (record { step = refl; rows = refl })

  -- calls but double lead from the book to the end, with these replies, where before each call the rooms may change
  abbrev Leads : List (Request V) → Book V → List (Reply V) → Book V → Type 0
  Leads [] book rs end = (rs ≡ []) × Alike book end
  Leads (q ∷ qs) book rs end = (c : Book V) × (rest : List (Reply V)) × Alike book c × (is_double q ≡ false) × Roomy (turn c q).answer × (rs ≡ reply_to c q ∷ rest) × Leads qs (turn c q).next rest end

  from_alike : (qs : List (Request V)) (book other : Book V) (rs : List (Reply V)) (end : Book V) → Alike book other → Leads qs other rs end → Leads qs book rs end
  from_alike [] book other rs end a k = (k.0, joined a k.1)
  from_alike (q ∷ qs) book other rs end a k = (k.0, k.1, joined a k.2, k.3, k.4, k.5, k.6)

  run_leads : (qs : List (Request V)) (book : Book V) → AllRoomy (replies book qs) → Leads (but_doubles qs) book (replies_but_doubles book qs) (book_after book qs)
  run_leads [] book p = (refl, self book)
  run_leads (Enter tag value ∷ qs) book p = (book, _, self book, refl, p.0, refl, run_leads qs _ p.1)
  run_leads (Change tag value ∷ qs) book p = (book, _, self book, refl, p.0, refl, run_leads qs _ p.1)
  run_leads (Find tag ∷ qs) book p = (book, _, self book, refl, p.0, refl, run_leads qs _ p.1)
  run_leads (Strike tag ∷ qs) book p = (book, _, self book, refl, p.0, refl, run_leads qs _ p.1)
  run_leads (Spell ticket buffer ∷ qs) book p = (book, _, self book, refl, p.0, refl, run_leads qs _ p.1)
  run_leads (Double ∷ qs) book p = from_alike (but_doubles qs) book (double book).next _ _ (double_alike book) (run_leads qs _ p.1)

  -- the same calls from alike books lead to the same
  leads_same : (qs : List (Request V)) (book other : Book V) (rs ss : List (Reply V)) (end last : Book V) → Alike book other
      → Leads qs book rs end → Leads qs other ss last → (rs ≡ ss) × Alike end last
  leads_same [] book other rs ss end last a k l = (k.0 ∙ sym l.0, joined (turned k.1) (joined a l.1))
  leads_same (q ∷ qs) book other rs ss end last a k l =
      let t = alike_same k.0 l.0 (joined (turned k.2) (joined a l.2)) q k.3 k.4 l.4 in
      let h = leads_same qs _ _ k.1 l.1 end last t.1 k.6 l.6 in
      let e = t.0 in
      let f = h.0 in
      let x = k.5 in
      let y = l.5 in
      (cc, h.1)

  pub rooms_do_not_show : RoomsDoNotShow V
  rooms_do_not_show book other qs ps a e p r = leads_same (but_doubles ps) book other _ _ _ _ a (rw e at (run_leads qs book p)) (run_leads ps other r)
