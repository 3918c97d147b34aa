-- the first empty slot, as a number and by what it is
use Rattle.std.proofs.Common.{◌≡◌, ℕ, zero, suc, ◌+◌, ◌^◌, ◌<◌, ◌≤◌, cond, ltb, Some, None, Option, rules, sym, refl, ap, subst, ap₂, inl, inr, mod-lt, arith, pow_pos}
use Rattle.std.proofs.lemmas.Bool.{cases_lt, cases_order, lt-ltb, le-ltb, cond-true, cond-false}
use Rattle.std.specs.Option.{MatchOption, IsSome}
use Rattle.rules.specs.declared.step.Step.TheVariants.{By32}
use Rattle.compact_map.specs.Hash.{home_of, quotient_of}
use Rattle.compact_map.specs.Slots.{packed}
use Rattle.compact_map.specs.Layout.{onward, seek, displacement_for, slot_for, word_for}
use Rattle.compact_map.specs.Table.{Taken, Vacant, First, FindsEmpty}

seek_here : (m : ℕ) (S : ℕ → ℕ) (home left d : ℕ) → S (onward m home d) < 2 ^ 47 → seek m S home (suc left) d ≡ d
unfolding seek
seek_here m S home left d h = cond-true (ltb (S (onward m home d)) (2 ^ 47)) d (seek m S home left (suc d)) (lt-ltb (S (onward m home d)) (2 ^ 47) h)

seek_on : (m : ℕ) (S : ℕ → ℕ) (home left d : ℕ) → 2 ^ 47 ≤ S (onward m home d) → seek m S home (suc left) d ≡ seek m S home left (suc d)
unfolding seek
seek_on m S home left d h = cond-false (ltb (S (onward m home d)) (2 ^ 47)) d (seek m S home left (suc d)) (le-ltb (S (onward m home d)) (2 ^ 47) h)

-- one place more is passed
more : (m : ℕ) (S : ℕ → ℕ) (home d : ℕ) → ((j : ℕ) → j < d → Taken (S (onward m home j))) → 2 ^ 47 ≤ S (onward m home d)
    → (j : ℕ) → j < suc d → Taken (S (onward m home j))
more m S home d way t j h = elim (cases_lt j d) [ inl a ↦ way j a | inr a ↦ let e : d ≡ j = omega arith in subst (λ (x : ℕ). Taken (S (onward m home x))) e t ]

seek_first_from : (m : ℕ) (S : ℕ → ℕ) (home left d : ℕ) → d + left ≡ m → ((j : ℕ) → j < d → Taken (S (onward m home j)))
    → (((j : ℕ) → j < m → Taken (S (onward m home j))) → ⊥) → First m S home (seek m S home left d)
seek_first_from m S home zero d e way some = absurd (some (λ j h. way j (omega arith)))
seek_first_from m S home (suc left) d e way some = elim (cases_lt (S (onward m home d)) (2 ^ 47)) [
  | inl a ↦ subst (First m S home) (sym (seek_here m S home left d a)) (record { near = omega arith; way = way; empty = λ t. omega arith })
  | inr a ↦ subst (First m S home) (sym (seek_on m S home left d a)) (seek_first_from m S home left (suc d) (omega arith) (more m S home d way a) some)
]

-- what is sought is the first empty slot, where one is empty
pub seek_first : (m : ℕ) (S : ℕ → ℕ) (home : ℕ) → (((j : ℕ) → j < m → Taken (S (onward m home j))) → ⊥) → First m S home (seek m S home m 0)
seek_first m S home some = seek_first_from m S home m 0 (omega arith) (λ j h. absurd (omega arith)) some

-- what a search from home on finds
pub first_found : (m : ℕ) (S : ℕ → ℕ) (home : ℕ) (r : Option ℕ)
    → MatchOption r ((k : ℕ) → 0 ≤ k → k < m → Taken (S (onward m home k))) (λ d. (0 ≤ d) × (d < m) × (S (onward m home d) < 2 ^ 47) × ((k : ℕ) → 0 ≤ k → k < d → Taken (S (onward m home k))))
    → FindsEmpty m S home r
first_found m S home None full = λ j h. full j (omega arith) h
first_found m S home (Some d) (z, near, empty, way) = record { near = near; way = λ j h. way j (omega arith) h; empty = λ t. omega arith }

pub some_found : (m : ℕ) (S : ℕ → ℕ) (home : ℕ) (r : Option ℕ) → FindsEmpty m S home r → Vacant m S home → IsSome r
some_found m S home None full some = absurd (some full)
some_found m S home (Some d) f some = search rules

-- there is one first
pub first_one : (m : ℕ) (S : ℕ → ℕ) (home d e : ℕ) → First m S home d → First m S home e → d ≡ e
first_one m S home d e a b = elim (cases_order d e) [
  | inl h ↦ h
  | inr h ↦ elim h [ inl l ↦ absurd (a.empty (b.way d l)) | inr l ↦ absurd (b.empty (a.way e l)) ]
]

-- slots that are as others are
seek_same : (m : ℕ) (S T : ℕ → ℕ) (home left d : ℕ) → 0 < m → ((i : ℕ) → i < m → S i ≡ T i) → seek m S home left d ≡ seek m T home left d
unfolding seek
seek_same m S T home zero d z e = refl
seek_same m S T home (suc left) d z e =
    ap₂ (λ (x y : ℕ). cond (ltb x (2 ^ 47)) d y) (e (onward m home d) (mod-lt (home + d) z)) (seek_same m S T home left (suc d) z e)

displacement_same : (l : ℕ) (S T : ℕ → ℕ) (key : ℕ) → ((i : ℕ) → i < 2 ^ l → S i ≡ T i) → displacement_for By32 l S key ≡ displacement_for By32 l T key
displacement_same l S T key e = seek_same (2 ^ l) S T (home_of By32 l key) (2 ^ l) 0 (pow_pos l) e

pub slot_same : (l : ℕ) (S T : ℕ → ℕ) (key : ℕ) → ((i : ℕ) → i < 2 ^ l → S i ≡ T i) → slot_for By32 l S key ≡ slot_for By32 l T key
slot_same l S T key e = ap (onward (2 ^ l) (home_of By32 l key)) (displacement_same l S T key e)

pub word_same : (l : ℕ) (S T : ℕ → ℕ) (v key : ℕ) → ((i : ℕ) → i < 2 ^ l → S i ≡ T i) → word_for By32 l S v key ≡ word_for By32 l T v key
word_same l S T v key e = ap (λ (d : ℕ). packed (quotient_of By32 l key) d v) (displacement_same l S T key e)
