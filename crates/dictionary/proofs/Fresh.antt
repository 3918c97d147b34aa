-- a shelf blanked place by place, and the book of a dictionary just opened
use Rattle.std.proofs.Common.{◌≡◌, ℕ, ◌<◌, ◌≤◌, Bool, true, false, cond, ◌&&◌, eqb, leb, List, [], ◌∷◌, length, get_or, None, Ok, Err, Option, Result, sym, refl, ap, ◌∙◌, inl, inr, arith, ◌⊎◌}
use lib.ListN.{length-replicate}
use Rattle.std.proofs.lemmas.List.{same_lists, get_or_default, get_or-replicate}
use Rattle.std.proofs.lemmas.Bool.{eqb-true, leb-true, and_parts}
use Rattle.tags.specs.declared.refusal.Refusal.{Refusal}
use Rattle.tags.specs.declared.refusal.Refusal.TheVariants.{UnfitParts}
use Rattle.rules.specs.declared.step.Step.TheVariants.{By32}
use Rattle.rules.specs.Tree.{bare, enter_tags, tree_of}
use Rattle.rules.proofs.Agreement.{descent_matches_book}
use Rattle.rules.proofs.Finds.{finds_count_moves}
use Rattle.parts.specs.Maps.{Map, count_of, last_room}
use Rattle.parts.specs.Stores.{Store}
use Rattle.parts.specs.Shelves.{blanks}
use Rattle.dictionary.specs.Shows.{tree_in, value_with, Shows, fits, open_answer, fresh_book}

module _ {V : Type 0} where
  pub blank_all : (s s₀ : List (Option V)) (n : ℕ) → length s ≡ length s₀ → length s₀ ≤ n → ((j : ℕ) → j < n → get_or s j None ≡ None) → s ≡ blanks (length s₀)
  blank_all s s₀ n e k f = same_lists s (blanks (length s₀)) (e ∙ sym (length-replicate (length s₀) None))
      (λ j d h. get_or_default s j d None h ∙ f j (omega (arith, e)) ∙ sym (get_or-replicate (length s₀) j None d (omega (arith, e))))

pub nil_of : {X : Type 0} (xs : List X) → length xs ≡ 0 → xs ≡ []
nil_of [] h = refl
nil_of (x ∷ xs) h = absurd (omega arith)

no_tags : tree_of By32 [] ≡ bare
unfolding tree_of enter_tags
no_tags = refl

no_value : {V : Type 0} (n : ℕ) → value_with {V = V} [] n ≡ None
unfolding value_with
no_value n = refl

pub fit_of : {V : Type 0} (m : Map) (l : Store) (s : List (Option V)) → Ok tt ≡ open_answer m l s → fits m l s ≡ true
fit_of m l s e = go (fits m l s) e
  where
    go : (b : Bool) → ◌≡◌ {A = Result (Unit {0}) Refusal} (Ok tt) (cond b (Ok tt) (Err UnfitParts)) → b ≡ true
    go true q = refl
    go false q = absurd (let z : ◌≡◌ {A = ℕ} 0 1 = cc in omega arith)

-- parts fit or do not
pub open_cases : {V : Type 0} (m : Map) (l : Store) (s : List (Option V)) → (open_answer m l s ≡ Ok tt) ⊎ (open_answer m l s ≡ Err UnfitParts)
open_cases m l s = go (fits m l s)
  where
    go : (b : Bool) → (◌≡◌ {A = Result (Unit {0}) Refusal} (cond b (Ok tt) (Err UnfitParts)) (Ok tt)) ⊎ (◌≡◌ {A = Result (Unit {0}) Refusal} (cond b (Ok tt) (Err UnfitParts)) (Err UnfitParts))
    go true = inl refl
    go false = inr refl

-- fit parts with a blank shelf show a book with no rows
pub fresh_shows : {V : Type 0} (m : Map) (l : Store) (s s' : List (Option V)) → open_answer m l s ≡ Ok tt → s' ≡ blanks (length s) → Shows m l s' (fresh_book m l)
fresh_shows {V} m l s s' opened q =
    let e = fit_of m l s (sym opened) in
    let a = and_parts (eqb (count_of m) 1) (eqb (length l.labels) 0 && (leb (last_room m) l.places && leb (last_room m) (length s))) e in
    let b = and_parts (eqb (length l.labels) 0) (leb (last_room m) l.places && leb (last_room m) (length s)) a.1 in
    let c = and_parts (leb (last_room m) l.places) (leb (last_room m) (length s)) b.1 in
    let edges : m.edges ≡ [] = nil_of m.edges (omega (arith, eqb-true (count_of m) 1 a.0)) in
    let labels : l.labels ≡ [] = nil_of l.labels (eqb-true (length l.labels) 0 b.0) in
    let long : length s' ≡ length s = ap (λ (z : List (Option V)). length z) q ∙ length-replicate {A = Option V} (length s) None in
    let bare-is : tree_in m l ≡ bare = cc in
    record {
      sound = (finds_count_moves descent_matches_book).fresh (fresh_book m l) refl;
      step = refl;
      tree = bare-is ∙ sym no_tags;
      values = λ n h. ap (λ (z : List (Option V)). get_or z n None) q ∙ get_or-replicate (length s) n None None (omega (arith, long)) ∙ sym (no_value n);
      room = refl;
      coming = refl;
      byte_room = refl;
      label_places = leb-true (last_room m) l.places c.0;
      value_places = omega (arith, leb-true (last_room m) (length s) c.1, long);
    }
