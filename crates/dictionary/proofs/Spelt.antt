-- spelling a ticket: what the book answers, and what the buffer holds after it
use Rattle.std.proofs.Common.{◌≡◌, ℕ, zero, suc, ◌+◌, ◌-◌, ◌<◌, ◌≤◌, true, false, ◌⊎◌, List, [], ◌∷◌, ◌++◌, length, take, drop, Some, None, Ok, Err, Option, Result, sym, refl, ap, ◌∙◌, inl, inr, arith, length-drop}
use lib.Seq.{take-append_seam}
use Rattle.std.proofs.lemmas.Bool.{cases_eq, eq-eqb, ne_eqb, lt-ltb, le-ltb, both_ways}
use Rattle.tags.specs.declared.refusal.Refusal.{Refusal}
use Rattle.tags.specs.declared.refusal.Refusal.TheVariants.{NoSuchTicket, ShortBuffer}
use Rattle.tags.specs.Tags.{WellFormed, spelled}
use Rattle.tags.proofs.Forms.{few_bytes, length_spelled}
use Rattle.rules.specs.declared.step.Step.TheVariants.{By32}
use Rattle.rules.specs.Tree.{Tree, climb}
use Rattle.rules.specs.Book.{Row, row_at, tags_of}
use Rattle.rules.specs.Calls.{Book, tag_with, spell, spell_buffer}
use Rattle.rules.specs.Laws.{AllWellFormed, TicketOrStep}
use Rattle.rules.proofs.Together.{InStep, blank, both}
use Rattle.rules.proofs.Agreement.{agrees}
use Rattle.rules.proofs.Climbing.{climbs}
use Rattle.parts.specs.Maps.{Map, count_of}
use Rattle.parts.specs.Stores.{Store}
use Rattle.dictionary.specs.Shows.{tree_in, Shows}
use Rattle.dictionary.specs.Spelling.{of_row, Ticketed}
use Rattle.dictionary.proofs.Shown.{holds_rows, step_rows, some_rows, ticket_in}
use Rattle.dictionary.proofs.Ascent.{of_plain, of_row_lem}

module _ {V : Type 0} where
  well_formed : (rows : List (Row V)) → AllWellFormed (tags_of rows) → (j : ℕ) → j < length rows → WellFormed (row_at rows j).tag
  well_formed [] f j h = absurd (omega arith)
  well_formed (r ∷ rs) f zero h = f.0
  well_formed (r ∷ rs) f (suc j) h = well_formed rs f.1 j (omega arith)

  not_there : (r : Row V) (rs : List (Row V)) (n : ℕ) → (r.ticket ≡ n → ⊥) → ((j : ℕ) → j < length rs → (row_at rs j).ticket ≡ n → ⊥)
      → (j : ℕ) → j < length (r ∷ rs) → (row_at (r ∷ rs) j).ticket ≡ n → ⊥
  not_there r rs n d f zero h e = d e
  not_there r rs n d f (suc j) h e = f j (omega arith) e

  -- no row has the ticket, or one has it
  tag_with_cases : (rows : List (Row V)) (n : ℕ)
      → ((tag_with rows n ≡ None) × ((j : ℕ) → j < length rows → (row_at rows j).ticket ≡ n → ⊥))
      ⊎ ((j : ℕ) × (j < length rows) × ((row_at rows j).ticket ≡ n) × (tag_with rows n ≡ Some (row_at rows j).tag))
  unfolding tag_with
  tag_with_cases [] n = inl (refl, λ j h e. omega arith)
  tag_with_cases (r ∷ rs) n = elim (cases_eq r.ticket n) [
    | inl e ↦ inr (0, omega arith, e, rw (eq-eqb r.ticket n e, tag_with) refl)
    | inr d ↦ elim (tag_with_cases rs n) [
      | inl c ↦ inl (rw (ne_eqb r.ticket n d, tag_with) c.0, not_there r rs n d c.1)
      | inr c ↦ inr (suc c.0, omega (arith, c.1), c.2, rw (ne_eqb r.ticket n d, tag_with) c.3)
    ]
  ]

-- what a spell answers and leaves in the buffer is the book's
pub record Spells {V : Type 0} (b : Book V) (ticket : ℕ) (buffer buffer' : List ℕ) (answer : Result ℕ Refusal) : Type 0 where
  pub says : answer ≡ spell b ticket buffer
  pub written : buffer' ≡ spell_buffer b ticket buffer

module _ {V : Type 0} (m : Map) (l : Store) (s : List (Option V)) (b : Book V) (sh : Shows m l s b) where
  pub labels_in : length l.labels ≤ count_of m
  labels_in = go (step_rows m l s b sh)
    where
      go : InStep By32 (tree_in m l) b.rows → length l.labels ≤ count_of m
      go (blank e f) = omega (arith, ap (λ (t : Tree). length t.labels) e)
      go (both full ok places tr bytes) = omega (arith, tr.labels_count, tr.edges_count)

  labels_all : 0 < length b.rows → length l.labels ≡ count_of m
  labels_all h = (agrees By32 (tree_in m l) b.rows (step_rows m l s b sh) (63 ∷ []) (omega arith, omega arith, tt)).labelled h

  kinds : 0 < length b.rows → (v : ℕ) → v < count_of m → TicketOrStep By32 (tree_in m l) b.rows v
  kinds h v k = (agrees By32 (tree_in m l) b.rows (step_rows m l s b sh) (63 ∷ []) (omega arith, omega arith, tt)).kinds h v k

  row_climbs : (j : ℕ) → j < length b.rows → climb By32 (tree_in m l) (row_at b.rows j).ticket ≡ spelled (row_at b.rows j).tag
  row_climbs j h = go (step_rows m l s b sh)
    where
      go : InStep By32 (tree_in m l) b.rows → climb By32 (tree_in m l) (row_at b.rows j).ticket ≡ spelled (row_at b.rows j).tag
      go (blank e f) = absurd (omega (arith, ap (λ (z : List (Row V)). length z) f))
      go (both full ok places tr bytes) = climbs By32 (tree_in m l) b.rows places tr ok j h

  module _ (n : ℕ) where
    row_node : (j : ℕ) → j < length b.rows → (row_at b.rows j).ticket ≡ n → of_row m l n ≡ true
    row_node j h e =
        let inside : n < count_of m = omega (arith, ticket_in m l s b sh j h) in
        of_plain m l n (omega (arith, labels_all (omega arith))) (λ z step. elim (kinds (omega arith) n inside) [
          | inl k ↦ k.1 (z, step)
          | inr k ↦ k.1 (j, h, e)
        ])

    pub spells_8 : false ≡ of_row m l n → (buffer : List ℕ) → Spells b n buffer buffer (Err NoSuchTicket)
    unfolding spell spell_buffer
    spells_8 f buffer = elim (tag_with_cases b.rows n) [
      | inl c ↦ record { says = rw (c.0, spell) refl; written = rw (c.0, spell_buffer) refl }
      | inr c ↦ absurd (both_ways _ (sym f) (row_node c.0 c.1 c.2))
    ]

    -- the row with the ticket
    pub record Spelt : Type 0 where
      pub row : ℕ
      pub in_rows : row < length b.rows
      pub ticket : (row_at b.rows row).ticket ≡ n
      pub is : tag_with b.rows n ≡ Some (row_at b.rows row).tag

    pub spelt_of : true ≡ of_row m l n → Spelt
    spelt_of f =
        let r = of_row_lem m l n (sym f) in
        let full = some_rows m l s b sh (omega (arith, r.0)) in
        elim (tag_with_cases b.rows n) [
          | inr c ↦ record { row = c.0; in_rows = c.1; ticket = c.2; is = c.3 }
          | inl c ↦ absurd (elim (kinds full n (omega (arith, r.0, labels_in))) [
            | inl k ↦ c.1 k.0.0 k.0.1 k.0.2
            | inr k ↦ r.1 k.0.0 k.0.1
          ])
        ]

    module _ (p : Spelt) where
      abbrev tag : List ℕ
      tag = (row_at b.rows p.row).tag

      spells_tag : climb By32 (tree_in m l) n ≡ spelled tag
      spells_tag = ap (climb By32 (tree_in m l)) (sym p.ticket) ∙ row_climbs p.row p.in_rows

      tag_short : length tag ≤ 200
      tag_short = few_bytes tag (well_formed b.rows sh.sound.tags p.row p.in_rows)

      pub ticketed : Ticketed m l n
      ticketed = record {
        tags = tags_of b.rows;
        holds = holds_rows m l s b sh;
        row = row_node p.row p.in_rows p.ticket;
        short = omega (arith, ap (λ (z : List ℕ). length z) spells_tag, length_spelled tag, tag_short);
      }

      -- what the climb laid, from a place on; the code goes by that place or 200, if that is less
      module _ (w : List ℕ) (lw : length w ≡ 201) (start : ℕ) (sw : start ≤ 201) (laid : drop start w ≡ climb By32 (tree_in m l) n) (from : ℕ) (from_is : start ≤ 200 → from ≡ start) where
        start_low : length tag + start ≡ 200
        start_low = omega (arith, ap (λ (z : List ℕ). length z) (laid ∙ spells_tag), length-drop start w, length_spelled tag)

        same_from : from ≡ start
        same_from = from_is (omega (arith, start_low))

        tag_length : 200 - from ≡ length tag
        tag_length = omega (arith, same_from, start_low)

        tag_is : take (200 - from) (drop from w) ≡ tag
        unfolding spelled
        tag_is = rw (tag_length, same_from, laid, spells_tag) (take-append_seam tag (0 ∷ []))

        pub spells_9 : (buffer : List ℕ) → length buffer < 200 - from → Spells b n buffer buffer (Err ShortBuffer)
        unfolding spell spell_buffer
        spells_9 buffer h =
            let short = lt-ltb (length buffer) (length tag) (omega (arith, tag_length)) in
            record { says = rw (p.is, short, spell) refl; written = rw (p.is, short, spell_buffer) refl }

        -- the tag is copied to the buffer's beginning
        pub spells_in : (buffer x : List ℕ) (k : ℕ) → k ≡ 200 - from → x ≡ take (200 - from) (drop from w) → 200 - from ≤ length buffer → Spells b n buffer (x ++ drop k buffer) (Ok (200 - from))
        unfolding spell spell_buffer
        spells_in buffer x k e q h =
            let enough = le-ltb (length buffer) (length tag) (omega (arith, tag_length)) in
            record {
              says = rw (p.is, enough, tag_length, spell) refl;
              written = rw (p.is, enough, spell_buffer) (rw (q, tag_is, e, tag_length) refl);
            }
