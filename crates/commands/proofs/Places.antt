-- the first place of a byte, and the lines that it cuts
use Rattle.std.proofs.Common.{◌≡◌, ℕ, suc, ◌+◌, ◌<◌, true, false, eqb, List, [], ◌∷◌, length, take, drop, Some, None, Option, unwrap_or, Bor, sym, refl, ap, ◌∙◌, inl, inr, arith, add-one}
use Rattle.std.proofs.lemmas.Bool.{cases_eq, eq-eqb, ne_eqb, eqb-true, eqb-false}
use Rattle.std.proofs.lemmas.List.{drop_all}
use Rattle.std.proofs.lemmas.Slice.{between_to_end}
use Rattle.std.specs.Slice.{IsGetRangeResult}
use Rattle.commands.specs.Lines.{place_of, in_front, lines}

pub place_nil : (byte : ℕ) → place_of byte [] ≡ 0
unfolding place_of
place_nil byte = refl

pub place_here : (byte b : ℕ) (text : List ℕ) → b ≡ byte → place_of byte (b ∷ text) ≡ 0
unfolding place_of
place_here byte b text e = rw (eq-eqb b byte e, place_of) refl

pub place_on : (byte b : ℕ) (text : List ℕ) → (b ≡ byte → ⊥) → place_of byte (b ∷ text) ≡ place_of byte text + 1
unfolding place_of
place_on byte b text n = rw (ne_eqb b byte n, place_of) (sym (add-one (place_of byte text)))

lines_end : (b : ℕ) (text : List ℕ) → b ≡ 10 → lines (b ∷ text) ≡ [] ∷ lines text
unfolding lines
lines_end b text e = rw (eq-eqb b 10 e, lines) refl

lines_on : (b : ℕ) (text : List ℕ) → (b ≡ 10 → ⊥) → lines (b ∷ text) ≡ in_front b (lines text)
unfolding lines
lines_on b text n = rw (ne_eqb b 10 n, lines) refl

pub lines_nil : lines [] ≡ []
unfolding lines
lines_nil = refl

pub no_line : (text : List ℕ) → true ≡ eqb (length text) 0 → lines text ≡ []
no_line [] e = lines_nil
no_line (b ∷ text) e = absurd (let z : length (b ∷ text) ≡ 0 = eqb-true (length (b ∷ text)) 0 (sym e) in omega arith)

-- the first line ends where its byte stands, or with the text
cut_line : (text : List ℕ) (p : ℕ) → p ≡ place_of 10 text → 0 < length text → lines text ≡ take p text ∷ lines (drop 1 (drop p text))
cut_line [] p e h = absurd (omega arith)
cut_line (b ∷ []) p e h = elim (cases_eq b 10) [
  | inl z ↦ let k : p ≡ 0 = e ∙ place_here 10 b [] z in rw k (lines_end b [] z)
  | inr n ↦ let k : p ≡ 1 = e ∙ place_on 10 b [] n ∙ ap (λ (m : ℕ). m + 1) (place_nil 10) in rw k (lines_on b [] n ∙ rw lines_nil refl)
]
cut_line (b ∷ c ∷ text) p e h = elim (cases_eq b 10) [
  | inl z ↦ let k : p ≡ 0 = e ∙ place_here 10 b (c ∷ text) z in rw k (lines_end b (c ∷ text) z)
  | inr n ↦ let k : p ≡ suc (place_of 10 (c ∷ text)) = e ∙ place_on 10 b (c ∷ text) n ∙ add-one (place_of 10 (c ∷ text)) in
      rw k (lines_on b (c ∷ text) n ∙ ap (in_front b) (cut_line (c ∷ text) (place_of 10 (c ∷ text)) refl (omega arith)))
]

-- what follows the end of the first line, as the code has it
pub first_cut : (text front left : List ℕ) (rest none : Bor (List ℕ)) (p : ℕ) (r : Option (Bor (List ℕ))) → p ≡ place_of 10 text → false ≡ eqb (length text) 0 → front ≡ take p text → left ≡ drop p text
    → IsGetRangeResult left 1 (length left) r → none.now ≡ [] → rest ≡ unwrap_or r none → lines text ≡ front ∷ lines rest.now
first_cut text front left rest none p r e n f l m z u =
    let long : length text ≡ 0 → ⊥ = eqb-false (length text) 0 (sym n) in
    cut_line text p e (omega arith) ∙ ap (λ (xs : List ℕ). xs ∷ lines (drop 1 (drop p text))) (sym f)
    ∙ ap (λ (xs : List ℕ). front ∷ lines (drop 1 xs)) (sym l) ∙ ap (λ (xs : List ℕ). front ∷ lines xs) (sym (behind r m u))
  where
    behind : (o : Option (Bor (List ℕ))) → IsGetRangeResult left 1 (length left) o → rest ≡ unwrap_or o none → rest.now ≡ drop 1 left
    behind (Some x) m u = ap (λ (b : Bor (List ℕ)). b.now) u ∙ m.0.2 ∙ between_to_end left 1 (length left) (omega arith)
    behind None m u = ap (λ (b : Bor (List ℕ)). b.now) u ∙ z ∙ sym (drop_all 1 left (grind (arith, m.0)))
