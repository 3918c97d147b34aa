-- a live row takes a value or is struck, and the room is doubled
use Rattle.std.proofs.Common.{◌≡◌, ℕ, ◌<◌, ◌⊎◌, List, [], ◌∷◌, length, set, Some, None, Ok, Err, Option, Result, MatchResult, IsErrAnd, sym, refl, ap, ◌∙◌, subst, inl, inr, arith, length-set, get_or-set_other, get_or-set_same}
use lib.Seq.{map-set_same}
use Rattle.std.proofs.lemmas.Bool.{cases_eq}
use Rattle.std.proofs.lemmas.Result.{err_from_is_err_and}
use Rattle.tags.specs.declared.refusal.MapFault.{MapFault}
use Rattle.tags.specs.declared.refusal.MapFault.TheVariants.{LastRoom}
use Rattle.tags.specs.declared.refusal.Refusal.{Refusal}
use Rattle.tags.specs.declared.refusal.Refusal.TheVariants.{NoLiveRow, NoNextRoom}
use Rattle.tags.specs.Tags.{tag_refusal}
use Rattle.rules.specs.declared.step.Step.TheVariants.{By32}
use Rattle.rules.specs.declared.answers.Found.{Found}
use Rattle.rules.specs.declared.answers.Held.{Held}
use Rattle.rules.specs.Tree.{tree_of}
use Rattle.rules.specs.Book.{first_row, row_at, absent_moves, row_of, tags_of}
use Rattle.rules.specs.Calls.{Book, holds, absent, Turn, refuses, with_value, takes, on_live_row, find_in, find, double}
use Rattle.rules.proofs.Rows.{row_is}
use Rattle.rules.proofs.Values.{cases_option}
use Rattle.rules.proofs.Finds.{takes_sound, double_sound}
use Rattle.parts.specs.Maps.{Map, MapFacts, last_of, double_answer, double_next}
use Rattle.parts.specs.Stores.{Store}
use Rattle.dictionary.specs.Shows.{Shows, Extent}
use Rattle.dictionary.proofs.Answered.{ok_is, err_not, ok_not}
use Rattle.dictionary.proofs.Shelved.{revalued, other_value}
use Rattle.dictionary.proofs.Finding.{find_fine}
use Rattle.dictionary.proofs.Shown.{tickets_apart, ticket_shelved}

-- a place set keeps the extent
pub set_extent : {V : Type 0} (places places' : ℕ) (s s' : List (Option V)) (n : ℕ) (value : Option V) → places' ≡ places → s' ≡ set s n value
    → ◌≡◌ {A = Extent} (record { labels = places'; values = length s' }) (record { labels = places; values = length s })
set_extent places places' s s' n value p e = let q : length s' ≡ length s = ap length e ∙ length-set s n value in cc

-- a call's answer is its turn's, and the book after it is shown
pub record Did {V : Type 0} (m : Map) (l : Store) (s : List (Option V)) (turn : Turn (Result ℕ Refusal) V) (answer : Result ℕ Refusal) : Type 0 where
  pub says : answer ≡ turn.answer
  pub shows : Shows m l s turn.next

module _ {V : Type 0} (m : Map) (l : Store) (s : List (Option V)) (b : Book V) (sh : Shows m l s b) where
  pub did_refuse : (turn : Turn (Result ℕ Refusal) V) (why : Refusal) → turn ≡ refuses b why → Did m l s turn (Err why)
  did_refuse turn why e = subst (λ (z : Turn (Result ℕ Refusal) V). Did m l s z (Err why)) (sym e) (record { says = refl; shows = sh })

  -- row j takes a value at its ticket
  takes_shows : MapFacts By32 m → (j : ℕ) → j < length b.rows → (value : Option V) (t : ℕ) → (row_at b.rows j).ticket ≡ t → Shows m l (set s t value) (takes b j value).next
  unfolding takes
  takes_shows f j h value t e =
      let tags : tags_of (takes b j value).next.rows ≡ tags_of b.rows = map-set_same _ b.rows j (with_value (row_at b.rows j) value) (first_row [] None) refl in
      record {
        sound = takes_sound b j value sh.sound;
        step = sh.step;
        tree = sh.tree ∙ ap (tree_of By32) (sym tags);
        values = λ n k. elim (cases_eq n t) [
          | inl q ↦ rw (q, get_or-set_same s t value None (omega (arith, ticket_shelved m l s b sh f j h)), ← e) (sym (revalued b.rows (tickets_apart m l s b sh) j value h))
          | inr d ↦ get_or-set_other s t n value None d ∙ sh.values n (omega (arith, length-set s t value)) ∙ sym (other_value b.rows j value n (λ q. d (sym q ∙ e)))
        ];
        room = sh.room;
        coming = sh.coming;
        byte_room = sh.byte_room;
        label_places = sh.label_places;
        value_places = omega (arith, sh.value_places, length-set s t value);
      }

  pub did_take : MapFacts By32 m → (turn : Turn (Result ℕ Refusal) V) (j : ℕ) → j < length b.rows → (value : Option V) → turn ≡ takes b j value → (t : ℕ) → (row_at b.rows j).ticket ≡ t
      → (s' : List (Option V)) → s' ≡ set s t value → Did m l s' turn (Ok t)
  unfolding takes
  did_take f turn j h value q t e s' es =
      subst (λ (z : List (Option V)). Did m l z turn (Ok t)) (sym es)
      (subst (λ (z : Turn (Result ℕ Refusal) V). Did m l (set s t value) z (Ok t)) (sym q)
      (record { says = ap Ok (sym e); shows = takes_shows f j h value t e }))

-- a tag that the check refuses, or passes
pub checked_bad : {V : Type 0} (b : Book V) (o : Option Refusal) (why : Refusal) → o ≡ Some why → (turn : Turn (Result ℕ Refusal) V)
    → (elim o as (λ _. Turn (Result ℕ Refusal) V) [ Some other ↦ refuses b other | None ↦ turn ]) ≡ refuses b why
checked_bad b None why e turn = absurd (let z : ◌≡◌ {A = ℕ} 0 1 = cc in omega arith)
checked_bad b (Some other) why e turn = let z : other ≡ why = cc in ap (refuses b) z

pub checked_fine : {V : Type 0} (b : Book V) (o : Option Refusal) → o ≡ None → (turn : Turn (Result ℕ Refusal) V)
    → (elim o as (λ _. Turn (Result ℕ Refusal) V) [ Some why ↦ refuses b why | None ↦ turn ]) ≡ turn
checked_fine b None e turn = refl
checked_fine b (Some why) e turn = absurd (let z : ◌≡◌ {A = ℕ} 0 1 = cc in omega arith)

module _ {V : Type 0} (b : Book V) (tag : List ℕ) where
  -- what a find answers, and what a call on a live row does
  data Lives : Type 0 where
    bad : (why : Refusal) → find b tag ≡ Err why → ((value : Option V) → on_live_row b tag value ≡ refuses b why) → Lives
    dead : (moves : ℕ) → find b tag ≡ Ok (absent moves) → ((value : Option V) → on_live_row b tag value ≡ refuses b NoLiveRow) → Lives
    alive : (j : ℕ) (held : V) → j < length b.rows → find b tag ≡ Ok (holds (row_at b.rows j).ticket held (row_at b.rows j).moves)
        → ((value : Option V) → on_live_row b tag value ≡ takes b j value) → Lives

  live_turn : tag_refusal tag ≡ None → (value : Option V) → on_live_row b tag value ≡ (elim (row_of b.rows tag) as (λ _. Turn (Result ℕ Refusal) V) [
    | None ↦ refuses b NoLiveRow
    | Some j ↦ elim (row_at b.rows j).value as (λ _. Turn (Result ℕ Refusal) V) [ None ↦ refuses b NoLiveRow | Some held ↦ takes b j value ]
  ])
  unfolding on_live_row
  live_turn fine value = checked_fine b (tag_refusal tag) fine _

  lives : Lives
  unfolding find find_in on_live_row
  lives = elim (cases_option (tag_refusal tag)) [
    | inr why ↦ bad why.0 (rw (why.1, find) refl) (λ value. checked_bad b (tag_refusal tag) why.0 why.1 _)
    | inl fine ↦ elim (cases_option (row_of b.rows tag)) [
      | inl none ↦ dead (absent_moves b.step b.rows tag) (find_fine b tag fine ∙ ap Ok (rw (none, find_in) refl)) (λ value. live_turn fine value ∙ (rw none refl))
      | inr j ↦ elim (cases_option (row_at b.rows j.0).value) [
        | inl struck ↦ dead (row_at b.rows j.0).moves (find_fine b tag fine ∙ ap Ok (rw (j.1, struck, find_in) refl)) (λ value. live_turn fine value ∙ (rw j.1 (rw struck refl)))
        | inr held ↦ alive j.0 held.0 (row_is b.rows tag j.0 j.1).0 (find_fine b tag fine ∙ ap Ok (rw (j.1, held.1, find_in) refl))
            (λ value. live_turn fine value ∙ (rw j.1 (rw held.1 refl)))
      ]
    ]
  ]

  -- the answer of a call on a live row, from what find answers
  pub held_answer : (found : Found V) → Ok found ≡ find b tag → (row : Held V) → found.held ≡ Some row → Ok row.ticket ≡ (on_live_row b tag None).answer
  unfolding takes
  held_answer found e row r = go lives
    where
      holding : (o : Option (Held V)) (k : ℕ) → Ok (record { held = o; moves = k }) ≡ find b tag → Some row ≡ o
      holding o k q = r' (ok_is (e ∙ sym q))
        where
          r' : found ≡ record { held = o; moves = k } → Some row ≡ o
          r' z = sym r ∙ ap (λ (y : Found V). y.held) z

      go : Lives → Ok row.ticket ≡ (on_live_row b tag None).answer
      go (bad why q f) = absurd (ok_not (e ∙ q))
      go (dead moves q f) = absurd (let h = holding None moves (sym q) in let z : ◌≡◌ {A = ℕ} 0 1 = cc in omega arith)
      go (alive j v h q f) =
          let c = holding _ _ (sym q) in
          let d : row ≡ record { ticket = (row_at b.rows j).ticket; value = v } = cc in
          ap (λ (z : Held V). Ok z.ticket) d ∙ sym (ap (λ (z : Turn (Result ℕ Refusal) V). z.answer) (f None))

  pub absent_answer : (found : Found V) → Ok found ≡ find b tag → found.held ≡ None → Err NoLiveRow ≡ (on_live_row b tag None).answer
  absent_answer found e n = go lives
    where
      go : Lives → Err NoLiveRow ≡ (on_live_row b tag None).answer
      go (bad why q f) = absurd (ok_not (e ∙ q))
      go (dead moves q f) = sym (ap (λ (z : Turn (Result ℕ Refusal) V). z.answer) (f None))
      go (alive j v h q f) = absurd (let c = sym n ∙ ap (λ (y : Found V). y.held) (ok_is (e ∙ q)) in let z : ◌≡◌ {A = ℕ} 0 1 = cc in omega arith)

  pub refused_answer : (why : Refusal) → Err why ≡ find b tag → Err why ≡ (on_live_row b tag None).answer
  refused_answer why e = go lives
    where
      go : Lives → Err why ≡ (on_live_row b tag None).answer
      go (bad other q f) = let c = e ∙ q in let d : why ≡ other = cc in ap Err d ∙ sym (ap (λ (z : Turn (Result ℕ Refusal) V). z.answer) (f None))
      go (dead moves q f) = absurd (err_not (e ∙ q))
      go (alive j v h q f) = absurd (err_not (e ∙ q))

module _ {V : Type 0} (m : Map) (l : Store) (s : List (Option V)) (b : Book V) (sh : Shows m l s b) (tag : List ℕ) (value : Option V) where
  pub did_live : MapFacts By32 m → (t : ℕ) → Ok t ≡ (on_live_row b tag None).answer → (s' : List (Option V)) → s' ≡ set s t value → Did m l s' (on_live_row b tag value) (Ok t)
  unfolding takes
  did_live f t e s' es = go (lives b tag)
    where
      go : Lives b tag → Did m l s' (on_live_row b tag value) (Ok t)
      go (bad why q g) = absurd (ok_not (e ∙ ap (λ (z : Turn (Result ℕ Refusal) V). z.answer) (g None)))
      go (dead moves q g) = absurd (ok_not (e ∙ ap (λ (z : Turn (Result ℕ Refusal) V). z.answer) (g None)))
      go (alive j v h q g) = did_take m l s b sh f (on_live_row b tag value) j h value (g value) t (ok_is (sym (e ∙ ap (λ (z : Turn (Result ℕ Refusal) V). z.answer) (g None)))) s' es

  pub did_dead : (why : Refusal) → Err why ≡ (on_live_row b tag None).answer → Did m l s (on_live_row b tag value) (Err why)
  unfolding takes
  did_dead why e = go (lives b tag)
    where
      go : Lives b tag → Did m l s (on_live_row b tag value) (Err why)
      go (bad other q g) =
          let c = e ∙ ap (λ (z : Turn (Result ℕ Refusal) V). z.answer) (g None) in
          let d : other ≡ why = cc in
          did_refuse m l s b sh (on_live_row b tag value) why (g value ∙ ap (refuses b) d)
      go (dead moves q g) =
          let c = e ∙ ap (λ (z : Turn (Result ℕ Refusal) V). z.answer) (g None) in
          let d : NoLiveRow ≡ why = cc in
          did_refuse m l s b sh (on_live_row b tag value) why (g value ∙ ap (refuses b) d)
      go (alive j v h q g) = absurd (err_not (e ∙ ap (λ (z : Turn (Result ℕ Refusal) V). z.answer) (g None)))

cases_list : {X : Type 0} (xs : List X) → (xs ≡ []) ⊎ ((x : X) × (ys : List X) × (xs ≡ x ∷ ys))
cases_list [] = inl refl
cases_list (x ∷ xs) = inr (x, xs, refl)

double_last : {V : Type 0} (b : Book V) → b.coming ≡ [] → double b ≡ refuses b (NoNextRoom LastRoom)
unfolding double
double_last {V} b e = go b.coming e
  where
    go : (coming : List ℕ) → coming ≡ [] → elim coming as (λ _. Turn (Result ℕ Refusal) V) [
      | [] ↦ refuses b (NoNextRoom LastRoom)
      | room ∷ more ↦ record { answer = Ok room; next = record { step = b.step; rows = b.rows; room = room; coming = more; byte_room = b.byte_room } }
    ] ≡ refuses b (NoNextRoom LastRoom)
    go [] q = refl
    go (room ∷ more) q = absurd (omega (arith, ap (λ (z : List ℕ). length z) q))

module _ {V : Type 0} (m : Map) (l : Store) (s : List (Option V)) (b : Book V) (sh : Shows m l s b) (m' : Map) (e : m' ≡ double_next m) where
  did_room : (r : ℕ) → Ok r ≡ double_answer m → Did m' l s (double b) (Ok r)
  unfolding double
  did_room r a = elim (cases_list m.coming) [
    | inl q ↦ absurd (let f : double_answer m ≡ Err LastRoom = rw q refl in ok_not (a ∙ f))
    | inr q ↦
        let bq : b.coming ≡ q.0 ∷ q.1 = sym sh.coming ∙ q.2 in
        let f : double_answer m ≡ Ok q.0 = rw q.2 refl in
        let n : m' ≡ record { edges = m.edges; room = q.0; coming = q.1 } = e ∙ (rw q.2 refl) in
        let t : double b ≡ record { answer = Ok q.0; next = record { step = b.step; rows = b.rows; room = q.0; coming = q.1; byte_room = b.byte_room } } = rw (bq, double) refl in
        let same-last = ap (λ (z : List ℕ). last_of m.room z) q.2 in
        let so = double_sound b sh.sound in
        subst (λ (z : Map). Did z l s (double b) (Ok r)) (sym n) (record {
          says = ap Ok (ok_is (a ∙ f)) ∙ sym (ap (λ (z : Turn (Result ℕ Refusal) V). z.answer) t);
          shows = rw t (record {
            sound = rw t at so;
            step = sh.step;
            tree = sh.tree;
            values = sh.values;
            room = refl;
            coming = refl;
            byte_room = sh.byte_room;
            label_places = omega (arith, sh.label_places, same-last);
            value_places = omega (arith, sh.value_places, same-last);
          });
        })
  ]

  pub did_last : (fault : MapFault) → Err fault ≡ double_answer m → Did m' l s (double b) (Err (NoNextRoom fault))
  unfolding double
  did_last fault a = elim (cases_list m.coming) [
    | inr q ↦ absurd (let f : double_answer m ≡ Ok q.0 = rw q.2 refl in err_not (a ∙ f))
    | inl q ↦
        let bq : b.coming ≡ [] = sym sh.coming ∙ q in
        let f : double_answer m ≡ Err LastRoom = rw q refl in
        let c = a ∙ f in
        let same : fault ≡ LastRoom = cc in
        let n : m' ≡ m = e ∙ (rw q refl) in
        let t = double_last b bq in
        subst (λ (z : Map). Did z l s (double b) (Err (NoNextRoom fault))) (sym n) (did_refuse m l s b sh (double b) (NoNextRoom fault) (t ∙ ap (λ (z : MapFault). refuses b (NoNextRoom z)) (sym same)))
  ]

  pub did_double : (r : Result ℕ MapFault) → r ≡ double_answer m → (answer : Result ℕ Refusal)
      → MatchResult r (λ room. answer ≡ Ok room) (λ fault. IsErrAnd answer (λ why. why ≡ NoNextRoom fault)) → Did m' l s (double b) answer
  did_double (Ok room) a answer h = rw h (did_room room a)
  did_double (Err fault) a answer h = let p = err_from_is_err_and answer h in rw (p.1, p.2) (did_last fault a)
