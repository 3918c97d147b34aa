-- a shelf's answers, with and without a place n
use Rattle.std.proofs.Common.{◌≡◌, ℕ, ◌<◌, ◌≤◌, List, length, get_or, None, Ok, Err, Option, refl, ap, ◌∙◌}
use Rattle.std.proofs.lemmas.Bool.{cond_below, cond_above}
use Rattle.parts.specs.Shelves.{get_answer, set_answer}
use Rattle.parts.specs.declared.shelf.ShelfFault.TheVariants.{NoPlace}

pub get_at : {V : Type 0} (places : List (Option V)) (n : ℕ) (place : Option V) → n < length places → place ≡ get_or places n None → Ok place ≡ get_answer places n
unfolding get_answer
get_at places n place h e = ap (λ o. Ok o) e ∙ cond_below n (length places) _ _ h

pub get_past : {V : Type 0} (places : List (Option V)) (n : ℕ) → length places ≤ n → Err NoPlace ≡ get_answer places n
unfolding get_answer
get_past places n h = cond_above n (length places) _ _ _ h refl

pub set_answer_at : {V : Type 0} (places : List (Option V)) (n : ℕ) → n < length places → Ok tt ≡ set_answer places n
unfolding set_answer
set_answer_at places n h = cond_below n (length places) _ _ h

pub set_answer_past : {V : Type 0} (places : List (Option V)) (n : ℕ) → length places ≤ n → Err NoPlace ≡ set_answer places n
unfolding set_answer
set_answer_past places n h = cond_above n (length places) _ _ _ h refl
