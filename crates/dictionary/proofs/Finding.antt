-- from where looking ends to what the book's find answers
use Rattle.std.proofs.Common.{◌≡◌, ℕ, ◌<◌, List, length, get_or, Some, None, Ok, Err, Option, Result, sym, refl, ap, ◌∙◌, inl, inr}
use Rattle.tags.specs.declared.refusal.Refusal.{Refusal}
use Rattle.tags.specs.Tags.{tag_refusal, spelled}
use Rattle.rules.specs.declared.step.Step.TheVariants.{By32}
use Rattle.rules.specs.declared.answers.Found.{Found}
use Rattle.rules.specs.declared.answers.Held.{Held}
use Rattle.rules.specs.Tree.{there, lacks, look_for}
use Rattle.rules.specs.Book.{Row, row_at, absent_moves, row_of, tags_of}
use Rattle.rules.proofs.Values.{cases_option}
use Rattle.rules.specs.Calls.{Book, absent, find_in, find}
use Rattle.parts.specs.Maps.{Map, MapFacts}
use Rattle.parts.specs.Stores.{Store}
use Rattle.dictionary.specs.declared.descent.Gap.{Gap}
use Rattle.dictionary.specs.declared.descent.Place.{Place}
use Rattle.dictionary.specs.Shows.{tree_in, Shows, held_with}
use Rattle.dictionary.specs.Looks.{look_end, Asked, Looked}
use Rattle.dictionary.proofs.Checked.{formed}
use Rattle.dictionary.proofs.Shown.{holds_rows, agree, no_rows, some_rows, Here, here_of, none_of}

pub find_refused : {V : Type 0} (b : Book V) (tag : List ℕ) (why : Refusal) → tag_refusal tag ≡ Some why → Err why ≡ find b tag
unfolding find
find_refused b tag why e = rw (e, find) refl

pub find_fine : {V : Type 0} (b : Book V) (tag : List ℕ) → tag_refusal tag ≡ None → find b tag ≡ Ok (find_in b.step b.rows tag)
unfolding find
find_fine b tag e = rw (e, find) refl

module _ {V : Type 0} (m : Map) (l : Store) (s : List (Option V)) (b : Book V) (sh : Shows m l s b) (tag : List ℕ) (fine : tag_refusal tag ≡ None) where
  find_is : (found : Found V) → find_in b.step b.rows tag ≡ found → Ok found ≡ find b tag
  find_is found e = ap Ok (sym e) ∙ sym (find_fine b tag fine)

  pub find_empty : length l.labels ≡ 0 → Ok (absent 0) ≡ find b tag
  unfolding find_in row_of absent_moves
  find_empty z = find_is (absent 0) (ap (λ (rows : List (Row V)). find_in b.step rows tag) (no_rows m l s b sh z))

  -- w is the spelled form, as the code has it
  module _ (w : List ℕ) (is : w ≡ spelled tag) (some : 0 < length l.labels) where
    abbrev pub asked : Asked m l w
    asked = record { tags = tags_of b.rows; tag = tag; holds = holds_rows m l s b sh; some = some; form = formed tag fine; is = is }

    module _ (r : Place) (looked : Looked m l w r) where
      pub ends_at : (u : ℕ) → r.end ≡ Ok u → there u r.moves ≡ look_for By32 (tree_in m l) tag
      ends_at u e = ap (λ (z : Result ℕ Gap). look_end z r.moves) (sym e) ∙ looked asked

      pub lacks_at : (gap : Gap) → r.end ≡ Err gap → lacks gap.node gap.missing gap.symbol gap.label.now r.moves ≡ look_for By32 (tree_in m l) tag
      lacks_at gap e = ap (λ (z : Result ℕ Gap). look_end z r.moves) (sym e) ∙ looked asked

      pub looked_here : (f : MapFacts By32 m) (u : ℕ) → r.end ≡ Ok u → Here m l s b sh f tag u r.moves
      looked_here f u e = here_of m l s b sh f tag (formed tag fine) some u r.moves (ends_at u e)

      pub found_there : (f : MapFacts By32 m) (u : ℕ) → r.end ≡ Ok u → (held : Option (Held V)) → held ≡ held_with u (get_or s u None) → Ok (record { held = held; moves = r.moves }) ≡ find b tag
      unfolding find_in
      found_there f u e held v =
          let h = looked_here f u e in
          find_is (record { held = held; moves = r.moves }) (elim (cases_option (row_at b.rows h.row).value) [
            | inl o ↦ (let q : get_or s u None ≡ None = sym h.value ∙ o in rw (v, q, h.is, o, h.moves, find_in) refl)
            | inr o ↦ (let q : get_or s u None ≡ Some o.0 = sym h.value ∙ o.1 in rw (v, q, h.is, o.1, h.ticket, h.moves, find_in) refl)
          ])

      pub found_none : (gap : Gap) → r.end ≡ Err gap → Ok (absent r.moves) ≡ find b tag
      unfolding find_in
      found_none gap e =
          let none = none_of m l s b sh tag (formed tag fine) _ _ _ _ r.moves (lacks_at gap e) in
          let a = (agree m l s b sh tag (formed tag fine)).absent (some_rows m l s b sh some) none in
          let q : lacks gap.node gap.missing gap.symbol gap.label.now r.moves ≡ lacks a.node _ _ _ (absent_moves By32 b.rows tag) = lacks_at gap e ∙ a.ends in
          let n : absent_moves By32 b.rows tag ≡ r.moves = cc in
          find_is (absent r.moves) (rw (none, sh.step, n, find_in) refl)
