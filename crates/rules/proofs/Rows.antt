-- what holds of the book's rows, and which row a descent passes to next
use Rattle.std.proofs.Common.{◌≡◌, ℕ, zero, suc, ◌+◌, ◌/◌, ◌<◌, ◌≤◌, true, false, eqb, ◌⊎◌, List, [], ◌∷◌, length, get_or, Some, None, Option, sym, refl, ap, ◌∙◌, subst, inl, inr, arith}
use Rattle.std.proofs.lemmas.Bool.{cases_lt, cases_order, cases_Bool, eq-eqb, ne_eqb, both_ways, le-leb, lt-leb}
use Rattle.tags.specs.Tags.{spelled}
use Rattle.rules.specs.declared.step.Step.{Step}
use Rattle.rules.specs.Steps.{size}
use Rattle.rules.specs.Words.{shared, same_word}
use Rattle.rules.specs.Book.{Row, row_at, word, most, earliest, owns, owner_of, row_of}
use Rattle.rules.proofs.Bytes.{Bytes}
use Rattle.rules.proofs.Shared.{shared_sym, shared_across, shared_more, same_word_is, same_word_self, shared_self}

module _ {V : Type 0} where
  -- the owner's number
  abbrev pub owner_row : Row V → ℕ
  owner_row r = elim r.owner [ None ↦ 0 | Some o ↦ o ]

  abbrev pub Owned : Row V → Type 0
  Owned r = r.owner ≡ Some (owner_row r)

  pub owns_it : (r : Row V) (o : ℕ) → Owned r → owner_row r ≡ o → owns o r ≡ true
  owns_it r o h e = rw h (eq-eqb (owner_row r) o e)

  pub owns_not : (r : Row V) (o : ℕ) → (owner_row r ≡ o → ⊥) → owns o r ≡ false
  owns_not r o = elim r.owner as (λ (w : Option ℕ). (elim w [ None ↦ 0 | Some p ↦ p ] ≡ o → ⊥) → elim w [ None ↦ false | Some p ↦ eqb p o ] ≡ false) [
    | None ↦ λ n. refl
    | Some p ↦ λ n. ne_eqb p o n
  ]

  -- most is a bound that some row meets, and earliest is the first that does
  pub most_bound : (s : List ℕ) (rows : List (Row V)) (j : ℕ) → j < length rows → shared s (word rows j) ≤ most s rows
  unfolding most
  most_bound s [] j h = absurd (omega arith)
  most_bound s (r ∷ rs) zero h = omega arith
  most_bound s (r ∷ rs) (suc j) h = omega (arith, most_bound s rs j (omega arith))

  pub most_met : (s : List ℕ) (rows : List (Row V)) → 0 < length rows → (j : ℕ) × (j < length rows) × (shared s (word rows j) ≡ most s rows)
  unfolding most
  most_met s [] h = absurd (omega arith)
  most_met s (r ∷ []) h = (0, omega arith, omega arith)
  most_met s (r ∷ x ∷ rs) h =
      let k = most_met s (x ∷ rs) (omega arith) in
      elim (cases_lt (shared s (spelled r.tag)) (most s (x ∷ rs))) [
        | inl l ↦ (suc k.0, omega arith, omega (arith, k.2))
        | inr l ↦ (0, omega arith, omega arith)
      ]

  pub earliest_hit : (s : List ℕ) (d : ℕ) (rows : List (Row V)) (j : ℕ) → j < length rows → d ≤ shared s (word rows j) → (earliest s d rows ≤ j) × (d ≤ shared s (word rows (earliest s d rows)))
  unfolding earliest
  earliest_hit s d [] j h e = absurd (omega arith)
  earliest_hit s d (r ∷ rs) zero h e = rw (le-leb d (shared s (spelled r.tag)) e, earliest) (omega arith, e)
  earliest_hit s d (r ∷ rs) (suc j) h e = elim (cases_lt (shared s (spelled r.tag)) d) [
    | inr f ↦ rw (le-leb d (shared s (spelled r.tag)) f, earliest) (omega arith, f)
    | inl n ↦ let k = earliest_hit s d rs j (omega arith) e in rw (lt-leb d (shared s (spelled r.tag)) n, earliest) (omega (arith, k.0), k.1)
  ]

  pub owner_in : (rows : List (Row V)) → 0 < length rows → (tag : List ℕ) → owner_of rows tag < length rows
  owner_in rows full tag =
      let m = most_met (spelled tag) rows full in
      omega (arith, m.1, (earliest_hit (spelled tag) (most (spelled tag) rows) rows m.0 m.1 (omega (arith, m.2))).0)

  most_is : (s : List ℕ) (rows : List (Row V)) (j : ℕ) → j < length rows → ((k : ℕ) → k < length rows → shared s (word rows k) ≤ shared s (word rows j)) → most s rows ≡ shared s (word rows j)
  most_is s rows j h f =
      let m = most_met s rows (omega arith) in
      omega (arith, most_bound s rows j h, m.2, f m.0 m.1)

  earliest_is : (s : List ℕ) (d : ℕ) (rows : List (Row V)) (j : ℕ) → j < length rows → d ≤ shared s (word rows j) → ((k : ℕ) → k < j → shared s (word rows k) < d) → earliest s d rows ≡ j
  earliest_is s d rows j h e f =
      let k = earliest_hit s d rows j h e in
      elim (cases_lt (earliest s d rows) j) [
        | inl l ↦ absurd (omega (arith, f (earliest s d rows) l, k.1))
        | inr l ↦ omega (arith, k.0)
      ]

  -- the first row below n that shares more than p bytes with s, if one does
  pub first_over : (s : List ℕ) (rows : List (Row V)) (p n : ℕ)
      → ((k : ℕ) → k < n → shared s (word rows k) ≤ p) ⊎ ((k : ℕ) × (k < n) × (p < shared s (word rows k)) × ((m : ℕ) → m < k → shared s (word rows m) ≤ p))
  first_over s rows p zero = inl (λ k h. absurd (omega arith))
  first_over s rows p (suc n) = elim (first_over s rows p n) [
    | inr x ↦ inr (x.0, omega (arith, x.1), x.2, x.3)
    | inl f ↦ elim (cases_lt p (shared s (word rows n))) [
      | inl l ↦ inr (n, omega arith, l, f)
      | inr g ↦ inl (λ k h. elim (cases_lt k n) [
        | inl u ↦ f k u
        | inr v ↦ let e : n ≡ k = omega arith in subst (λ (z : ℕ). shared s (word rows z) ≤ p) e g
      ])
    ]
  ]

  -- a tag in no row
  abbrev pub Fresh : List (Row V) → List ℕ → Type 0
  Fresh rows tag = (k : ℕ) → k < length rows → (row_at rows k).tag ≡ tag → ⊥

  fresh_more : (r : Row V) (rs : List (Row V)) (tag : List ℕ) → same_word r.tag tag ≡ false → Fresh rs tag → Fresh (r ∷ rs) tag
  fresh_more r rs tag n f zero h e = both_ways (same_word r.tag tag) n (subst (λ (q : List ℕ). same_word r.tag q ≡ true) e (same_word_self r.tag))
  fresh_more r rs tag n f (suc k) h e = f k (omega arith) e

  -- the row of a tag, or none
  pub row_of_cases : (rows : List (Row V)) (tag : List ℕ)
      → ((row_of rows tag ≡ None) × Fresh rows tag) ⊎ ((j : ℕ) × (row_of rows tag ≡ Some j) × (j < length rows) × ((row_at rows j).tag ≡ tag))
  unfolding row_of
  row_of_cases [] tag = inl (refl, λ k h e. omega arith)
  row_of_cases (r ∷ rs) tag = elim (cases_Bool (same_word r.tag tag)) [
    | inl y ↦ inr (0, rw (y, row_of) refl, omega arith, same_word_is r.tag tag y)
    | inr n ↦ elim (row_of_cases rs tag) [
      | inl c ↦ inl (rw (n, c.0, row_of) refl, fresh_more r rs tag n c.1)
      | inr c ↦ inr (suc c.0, rw (n, c.1, row_of) refl, omega (arith, c.2), c.3)
    ]
  ]

  pub row_is : (rows : List (Row V)) (tag : List ℕ) (j : ℕ) → row_of rows tag ≡ Some j → (j < length rows) × ((row_at rows j).tag ≡ tag)
  row_is rows tag j e = elim (row_of_cases rows tag) [
    | inl c ↦ absurd (let n : None ≡ Some j = sym c.0 ∙ e in let z : ◌≡◌ {A = ℕ} 0 1 = cc in omega arith)
    | inr c ↦ let n : Some c.0 ≡ Some j = sym c.1 ∙ e in let z : c.0 ≡ j = cc in
        subst (λ (q : ℕ). (q < length rows) × ((row_at rows q).tag ≡ tag)) z (c.2, c.3)
  ]

  pub row_none : (rows : List (Row V)) (tag : List ℕ) → row_of rows tag ≡ None → Fresh rows tag
  row_none rows tag e = elim (row_of_cases rows tag) [
    | inl c ↦ c.1
    | inr c ↦ absurd (let n : Some c.0 ≡ None = sym c.1 ∙ e in let z : ◌≡◌ {A = ℕ} 0 1 = cc in omega arith)
  ]

module _ {V : Type 0} (step : Step) where
  -- a row but the first, against those before it
  pub record RowOk (rows : List (Row V)) (j : ℕ) : Type 0 where
    pub owned : Owned (row_at rows j)
    pub before : owner_row (row_at rows j) < j
    pub meets : suc (shared (word rows j) (word rows (owner_row (row_at rows j)))) ≡ (row_at rows j).start
    pub bound : (k : ℕ) → k < j → shared (word rows j) (word rows k) < (row_at rows j).start
    pub prior : (k : ℕ) → k < owner_row (row_at rows j) → suc (shared (word rows j) (word rows k)) < (row_at rows j).start
    pub starts : suc ((row_at rows (owner_row (row_at rows j))).start + (row_at rows j).offset) ≡ (row_at rows j).start
    pub fits : (row_at rows j).start ≤ length (word rows j)
    pub counts : (row_at rows j).moves ≡ (row_at rows (owner_row (row_at rows j))).moves + 1 + (row_at rows j).offset / size step

  -- the first row, and each later one
  pub record BookOk (rows : List (Row V)) : Type 0 where
    pub bytes : (j : ℕ) → j < length rows → Bytes (row_at rows j).tag
    pub start_0 : (row_at rows 0).start ≡ 0
    pub owner_0 : (row_at rows 0).owner ≡ None
    pub moves_0 : (row_at rows 0).moves ≡ 0
    pub ticket_0 : (row_at rows 0).ticket ≡ 0
    pub row : (j : ℕ) → 0 < j → j < length rows → RowOk rows j

  -- no earlier row shares a row's start
  bound_of : (rows : List (Row V)) → BookOk rows → (j k : ℕ) → j < length rows → k < j → shared (word rows j) (word rows k) < (row_at rows j).start
  bound_of rows ok j k h l = (ok.row j (omega arith) h).bound k l

  -- two rows with one tag are one row
  one_tag : (rows : List (Row V)) → BookOk rows → (j k : ℕ) → j < k → k < length rows → (row_at rows j).tag ≡ (row_at rows k).tag → ⊥
  one_tag rows ok j k l h e =
      let r = ok.row k (omega arith) h in
      let w : shared (word rows k) (word rows j) ≡ length (word rows k) = ap (λ (q : List ℕ). shared (word rows k) (spelled q)) e ∙ shared_self (word rows k) in
      omega (arith, r.bound j l, r.fits)

  pub same_row : (rows : List (Row V)) → BookOk rows → (j k : ℕ) → j < length rows → k < length rows → (row_at rows j).tag ≡ (row_at rows k).tag → j ≡ k
  same_row rows ok j k hj hk e = elim (cases_order j k) [
    | inl q ↦ q
    | inr o ↦ elim o [
      | inl l ↦ absurd (one_tag rows ok j k l hk e)
      | inr l ↦ absurd (one_tag rows ok k j l hj (sym e))
    ]
  ]

  -- row j is a holder of the word s: s begins with what j's word has before j's start
  module _ (rows : List (Row V)) (ok : BookOk rows) (s : List ℕ) (j : ℕ) (in_rows : j < length rows) (held : (row_at rows j).start ≤ shared s (word rows j)) where
    -- no row before the holder shares as much with s
    none_before : (k : ℕ) → k < j → shared s (word rows k) < (row_at rows j).start
    none_before k l = omega (arith, bound_of rows ok j k in_rows l, shared_across (word rows j) s (word rows k), shared_sym (word rows j) s)

    -- the earliest row that shares more with s than the holder j is owned by j, and starts right behind
    pub passes : (k : ℕ) → k < length rows → shared s (word rows j) < shared s (word rows k) → ((m : ℕ) → m < k → shared s (word rows m) ≤ shared s (word rows j))
        → (j < k) × (owner_row (row_at rows k) ≡ j) × ((row_at rows k).start ≡ suc (shared s (word rows j)))
    passes k h l f = elim (cases_order k j) [
      | inl e ↦ absurd (let l' : shared s (word rows j) < shared s (word rows j) = subst (λ (z : ℕ). shared s (word rows j) < shared s (word rows z)) e l in omega arith)
      | inr o ↦ elim o [
        | inl b ↦ absurd (omega (arith, none_before k b))
        | inr a ↦
            let r = ok.row k (omega arith) h in
            let o : ℕ = owner_row (row_at rows k) in
            let b = r.before in
            let m = r.meets in
            let bj = r.bound j a in
            let st : (row_at rows k).start ≡ suc (shared s (word rows j)) =
            omega (
              arith,
              f o b,
              shared_across (word rows k) s (word rows j),
              shared_sym (word rows k) s,
              shared_across s (word rows k) (word rows j),
              shared_across s (word rows k) (word rows o),
            ) in
            let w : o ≡ j = elim (cases_order o j) [
              | inl e ↦ e
              | inr x ↦ elim x [
                | inl c ↦ absurd (omega (
                  arith,
                  bound_of rows ok j o in_rows c,
                  shared_across (word rows j) (word rows k) (word rows o),
                  shared_sym (word rows j) (word rows k),
                  shared_across (word rows k) s (word rows j),
                  shared_sym (word rows k) s,
                ))
                | inr c ↦ absurd (omega (arith, r.prior j c, shared_across (word rows k) s (word rows j), shared_sym (word rows k) s))
              ]
            ] in
            (a, w, st)
      ]
    ]

    -- where no row shares more, the holder is the owner
    pub owner_is : ((k : ℕ) → k < length rows → shared s (word rows k) ≤ shared s (word rows j))
        → (most s rows ≡ shared s (word rows j)) × (earliest s (most s rows) rows ≡ j)
    owner_is f =
        let m : most s rows ≡ shared s (word rows j) = most_is s rows j in_rows f in
        (m, earliest_is s (most s rows) rows j in_rows (omega arith) (λ k l. omega (arith, none_before k l)))

    -- a row that the holder owns at the place where s leaves it, by the byte of s, shares more with s
    pub shares_more : (k : ℕ) → 0 < k → k < length rows → owner_row (row_at rows k) ≡ j → (row_at rows j).start + (row_at rows k).offset ≡ shared s (word rows j)
        → shared s (word rows j) < length s → get_or (word rows k) (shared s (word rows j)) 0 ≡ get_or s (shared s (word rows j)) 0
        → shared s (word rows j) < shared s (word rows k)
    shares_more k z h e o l b =
        let r = ok.row k z h in
        let m : suc (shared (word rows k) (word rows j)) ≡ (row_at rows k).start = subst (λ (x : ℕ). suc (shared (word rows k) (word rows x)) ≡ (row_at rows k).start) e r.meets in
        let t : suc ((row_at rows j).start + (row_at rows k).offset) ≡ (row_at rows k).start = subst (λ (x : ℕ). suc ((row_at rows x).start + (row_at rows k).offset) ≡ (row_at rows k).start) e r.starts in
        let c : shared s (word rows j) ≤ shared s (word rows k) = omega (arith, shared_across s (word rows j) (word rows k), shared_sym (word rows j) (word rows k)) in
        shared_more s (word rows k) (shared s (word rows j)) c l (omega (arith, r.fits)) (sym b)
