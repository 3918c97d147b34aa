-- the answers of a node map, case by case: what every make of one needs
use Rattle.std.proofs.Common.{◌≡◌, ℕ, ◌<◌, ◌≤◌, true, false, eqb, ltb, List, [], ◌∷◌, is_some, Some, None, Ok, Err, Option, Result, sym, refl, ap, ◌∙◌, inl, inr, arith}
use Rattle.std.proofs.lemmas.Bool.{true≢false, eq-eqb, ne_eqb, lt-ltb, le-ltb, cases_lt, cond-true, cond-false}
use Rattle.tags.specs.declared.refusal.MapFault.{MapFault}
use Rattle.tags.specs.declared.refusal.MapFault.TheVariants.{NoNode, SymbolTooLarge, PairTaken, RoomFull, LastRoom}
use Rattle.rules.specs.declared.step.Step.{Step}
use Rattle.rules.specs.Steps.{symbol_count}
use Rattle.rules.specs.Tree.{Edge, edge_of, child}
use Rattle.parts.specs.Maps.{Map, count_of, asked, child_answer, add_free, add_answer, with_edge, added, add_next, up_answer, double_answer, double_next}

-- what the test of a found child tells
pub some_is : (o : Option ℕ) → true ≡ is_some o → (v : ℕ) × (o ≡ Some v)
some_is (Some v) e = (v, refl)
some_is None e = absurd (true≢false e)

pub none_is : (o : Option ℕ) → false ≡ is_some o → o ≡ None
none_is (Some v) e = absurd (true≢false (sym e))
none_is None e = refl

-- a pair in bounds is asked on
asked_ok : {A : Type 0} (step : Step) (m : Map) (u c : ℕ) (a : Result A MapFault) → u < count_of m → c < symbol_count step → asked step m u c a ≡ a
asked_ok step m u c a h g =
    cond-true (ltb u (count_of m)) _ _ (lt-ltb u (count_of m) h) ∙ cond-true (ltb c (symbol_count step)) _ _ (lt-ltb c (symbol_count step) g)

asked_far : {A : Type 0} (step : Step) (m : Map) (u c : ℕ) (a : Result A MapFault) → count_of m ≤ u → asked step m u c a ≡ Err NoNode
asked_far step m u c a h = cond-false (ltb u (count_of m)) _ _ (le-ltb u (count_of m) h)

asked_big : {A : Type 0} (step : Step) (m : Map) (u c : ℕ) (a : Result A MapFault) → u < count_of m → symbol_count step ≤ c
    → asked step m u c a ≡ Err SymbolTooLarge
asked_big step m u c a h g =
    cond-true (ltb u (count_of m)) _ _ (lt-ltb u (count_of m) h) ∙ cond-false (ltb c (symbol_count step)) _ _ (le-ltb c (symbol_count step) g)

-- what is asked on is in bounds, and a fault does not wait for the answer
pub asked_in : (step : Step) (m : Map) (u c : ℕ) → asked {A = Unit {0}} step m u c (Ok tt) ≡ Ok tt → (u < count_of m) × (c < symbol_count step)
asked_in step m u c e = elim (cases_lt u (count_of m)) [
  | inl h ↦ elim (cases_lt c (symbol_count step)) [
    | inl g ↦ (h, g)
    | inr g ↦ let f = asked_big {A = Unit {0}} step m u c (Ok tt) h g in absurd (let z : ◌≡◌ {A = ℕ} 0 1 = cc in omega arith)
  ]
  | inr h ↦ let f = asked_far {A = Unit {0}} step m u c (Ok tt) h in absurd (let z : ◌≡◌ {A = ℕ} 0 1 = cc in omega arith)
]

pub asked_out : {A : Type 0} (step : Step) (m : Map) (u c : ℕ) (a : Result A MapFault) (fault : MapFault)
    → asked {A = Unit {0}} step m u c (Ok tt) ≡ Err fault → asked step m u c a ≡ Err fault
asked_out step m u c a fault e = elim (cases_lt u (count_of m)) [
  | inl h ↦ elim (cases_lt c (symbol_count step)) [
    | inl g ↦ let f = asked_ok {A = Unit {0}} step m u c (Ok tt) h g in absurd (let z : ◌≡◌ {A = ℕ} 0 1 = cc in omega arith)
    | inr g ↦
        let f = asked_big {A = Unit {0}} step m u c (Ok tt) h g in
        let same : SymbolTooLarge ≡ fault = cc in asked_big step m u c a h g ∙ ap Err same
  ]
  | inr h ↦
      let f = asked_far {A = Unit {0}} step m u c (Ok tt) h in
      let same : NoNode ≡ fault = cc in asked_far step m u c a h ∙ ap Err same
]

pub child_in : (step : Step) (m : Map) (u c : ℕ) (o : Option ℕ) → u < count_of m → c < symbol_count step → o ≡ child m.edges u c
    → child_answer step m u c ≡ Ok o
unfolding child_answer
child_in step m u c o h g e = asked_ok step m u c _ h g ∙ ap Ok (sym e)

pub child_out : (step : Step) (m : Map) (u c : ℕ) (fault : MapFault) → asked {A = Unit {0}} step m u c (Ok tt) ≡ Err fault → child_answer step m u c ≡ Err fault
unfolding child_answer
child_out step m u c fault e = asked_out step m u c _ fault e

pub add_out : (step : Step) (m : Map) (u c : ℕ) (fault : MapFault) → asked {A = Unit {0}} step m u c (Ok tt) ≡ Err fault → add_answer step m u c ≡ Err fault
unfolding add_answer
add_out step m u c fault e = asked_out step m u c _ fault e

add_in : (step : Step) (m : Map) (u c : ℕ) → u < count_of m → c < symbol_count step → add_answer step m u c ≡ add_free m (child m.edges u c)
unfolding add_answer
add_in step m u c h g = asked_ok step m u c _ h g

pub add_taken : (step : Step) (m : Map) (u c v : ℕ) → u < count_of m → c < symbol_count step → child m.edges u c ≡ Some v
    → add_answer step m u c ≡ Err PairTaken
add_taken step m u c v h g e = add_in step m u c h g ∙ ap (add_free m) e

pub add_full : (step : Step) (m : Map) (u c : ℕ) → u < count_of m → c < symbol_count step → child m.edges u c ≡ None → m.room ≤ count_of m
    → add_answer step m u c ≡ Err RoomFull
add_full step m u c h g e r =
    add_in step m u c h g ∙ ap (add_free m) e ∙ cond-false (ltb (count_of m) m.room) _ _ (le-ltb (count_of m) m.room r)

pub add_made : (step : Step) (m : Map) (u c : ℕ) → u < count_of m → c < symbol_count step → child m.edges u c ≡ None → count_of m < m.room
    → add_answer step m u c ≡ Ok (count_of m)
add_made step m u c h g e r =
    add_in step m u c h g ∙ ap (add_free m) e ∙ cond-true (ltb (count_of m) m.room) _ _ (lt-ltb (count_of m) m.room r)

pub next_kept : (step : Step) (m : Map) (u c : ℕ) (fault : MapFault) → add_answer step m u c ≡ Err fault → add_next step m u c ≡ m
unfolding add_next
next_kept step m u c fault e = ap (added m u c) e

pub next_made : (step : Step) (m : Map) (u c v : ℕ) → add_answer step m u c ≡ Ok v → add_next step m u c ≡ with_edge m u c
unfolding add_next
next_made step m u c v e = ap (added m u c) e

pub up_zero : (m : Map) (v : ℕ) → v ≡ 0 → up_answer m v ≡ Err NoNode
unfolding up_answer
up_zero m v e = cond-true (eqb v 0) _ _ (eq-eqb v 0 e)

pub up_far : (m : Map) (v : ℕ) → (v ≡ 0 → ⊥) → count_of m ≤ v → up_answer m v ≡ Err NoNode
unfolding up_answer
up_far m v n h = cond-false (eqb v 0) _ _ (ne_eqb v 0 n) ∙ cond-false (ltb v (count_of m)) _ _ (le-ltb v (count_of m) h)

pub up_is : (m : Map) (v : ℕ) (e : Edge) → (v ≡ 0 → ⊥) → v < count_of m → edge_of m.edges v ≡ e → up_answer m v ≡ Ok (e.parent, e.symbol)
unfolding up_answer
up_is m v e n h is =
    cond-false (eqb v 0) _ _ (ne_eqb v 0 n) ∙ cond-true (ltb v (count_of m)) _ _ (lt-ltb v (count_of m) h)
    ∙ ap (λ (x : Edge). Ok (x.parent, x.symbol)) is

abbrev with_coming : Map → List ℕ → Map
with_coming m coming = record { edges = m.edges; room = m.room; coming = coming }

-- double, by the rooms to come
pub double_last : (m : Map) → m.coming ≡ [] → (double_answer m ≡ Err LastRoom) × (double_next m ≡ m)
double_last m e =
    (ap (λ (x : List ℕ). double_answer (with_coming m x)) e, ap (λ (x : List ℕ). double_next (with_coming m x)) e ∙ sym (ap (with_coming m) e))

pub double_more : (m : Map) (room : ℕ) (coming : List ℕ) → m.coming ≡ room ∷ coming
    → (double_answer m ≡ Ok room) × (double_next m ≡ record { edges = m.edges; room = room; coming = coming })
double_more m room coming e =
    (ap (λ (x : List ℕ). double_answer (with_coming m x)) e, ap (λ (x : List ℕ). double_next (with_coming m x)) e)
