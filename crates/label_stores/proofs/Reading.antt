-- a store's answers, from numbers and from a label's bytes
use Rattle.std.proofs.Common.{◌≡◌, ℕ, Bool, true, false, ltb, List, [], ◌∷◌, ◌++◌, length, drop, Ok, Err, Result, sym, ap, ◌∙◌, ap₂}
use Rattle.std.proofs.lemmas.Bool.{lt-ltb, le-ltb, cond-true, cond-false}
use Rattle.rules.specs.Tree.{bytes_in}
use Rattle.parts.specs.Stores.{Store, with_label, appended, append_answer, append_next, length_answer, byte_answer, meet_answer}
use Rattle.parts.specs.declared.store.StoreFault.{StoreFault}
use Rattle.label_stores.specs.Answers.{append_check, byte_check, meet_check}
use Rattle.label_stores.specs.Meaning.{LabelOf, NoLabelAt, after_append}
use Rattle.label_stores.specs.Sizes.{new_where}

module _ (l : Store) (v : ℕ) where
  pub length_there : (label : List ℕ) → LabelOf l v label → Ok (length label) ≡ length_answer l v
  unfolding length_answer
  length_there label h = ap (λ (x : List ℕ). Ok (length x)) h.1 ∙ sym (cond-true (ltb v (length l.labels)) _ _ (lt-ltb v (length l.labels) h.0))

  pub no_length : (fault : StoreFault) → NoLabelAt l v fault → Err fault ≡ length_answer l v
  unfolding length_answer
  no_length fault h = ap (λ (x : StoreFault). Err x) h.1 ∙ sym (cond-false (ltb v (length l.labels)) _ _ (le-ltb v (length l.labels) h.0))

  pub byte_there : (label : List ℕ) (i : ℕ) → LabelOf l v label → byte_check label i ≡ byte_answer l v i
  unfolding byte_answer
  byte_there label i h = ap (λ (x : List ℕ). byte_check x i) h.1 ∙ sym (cond-true (ltb v (length l.labels)) _ _ (lt-ltb v (length l.labels) h.0))

  pub no_byte : (fault : StoreFault) (i : ℕ) → NoLabelAt l v fault → Err fault ≡ byte_answer l v i
  unfolding byte_answer
  no_byte fault i h = ap (λ (x : StoreFault). Err x) h.1 ∙ sym (cond-false (ltb v (length l.labels)) _ _ (le-ltb v (length l.labels) h.0))

  pub meet_there : (label s : List ℕ) (f : ℕ) → LabelOf l v label → meet_check label s f ≡ meet_answer l v s f
  unfolding meet_answer
  meet_there label s f h = ap (λ (x : List ℕ). meet_check x s f) h.1 ∙ sym (cond-true (ltb v (length l.labels)) _ _ (lt-ltb v (length l.labels) h.0))

  pub no_meet : (fault : StoreFault) (s : List ℕ) (f : ℕ) → NoLabelAt l v fault → Err fault ≡ meet_answer l v s f
  unfolding meet_answer
  no_meet fault s f h = ap (λ (x : StoreFault). Err x) h.1 ∙ sym (cond-false (ltb v (length l.labels)) _ _ (le-ltb v (length l.labels) h.0))

abbrev store_of : List (List ℕ) → (byte_room places : ℕ) → Store
store_of labels byte_room places = record { labels = labels; byte_room = byte_room; places = places }

pub same_store : (a b : Store) → a.labels ≡ b.labels → a.byte_room ≡ b.byte_room → a.places ≡ b.places → a ≡ b
same_store a b p q r =
    ap (λ (x : List (List ℕ)). store_of x a.byte_room a.places) p ∙ ap₂ (λ (x y : ℕ). store_of b.labels x y) q r

module _ (l : Store) (s : List ℕ) (f : ℕ) where
  pub append_checked : (count total : ℕ) → length l.labels ≡ count → bytes_in l.labels ≡ total → append_check count l.places total l.byte_room (length s) f ≡ append_answer l s f
  unfolding append_answer
  append_checked count total c t = sym (ap₂ (λ (x y : ℕ). append_check x l.places y l.byte_room (length s) f) c t)

  pub next_done : (next : Store) → next.labels ≡ l.labels ++ (drop f s ∷ []) → next.byte_room ≡ l.byte_room → next.places ≡ l.places → Ok tt ≡ append_answer l s f → next ≡ append_next l s f
  unfolding append_next
  next_done next labels room places e = same_store next (with_label l (drop f s)) labels room places ∙ ap (λ (r : Result (Unit {0}) StoreFault). appended l s f r) e

  pub next_none : (fault : StoreFault) → Err fault ≡ append_answer l s f → l ≡ append_next l s f
  unfolding append_next
  next_none fault e = ap (λ (r : Result (Unit {0}) StoreFault). appended l s f r) e

  pub memory_done : (changed : (count total : ℕ) → List ℕ) (before : List ℕ) (count total : ℕ) → length l.labels ≡ count → bytes_in l.labels ≡ total → Ok tt ≡ append_answer l s f
      → changed count total ≡ after_append (append_answer l s f) (changed (length l.labels) (bytes_in l.labels)) before
  memory_done changed before count total c t e = sym (ap₂ changed c t) ∙ ap (λ (r : Result (Unit {0}) StoreFault). after_append r (changed (length l.labels) (bytes_in l.labels)) before) e

  pub memory_none : (fault : StoreFault) (changed before : List ℕ) → Err fault ≡ append_answer l s f → before ≡ after_append (append_answer l s f) changed before
  memory_none fault changed before e = ap (λ (r : Result (Unit {0}) StoreFault). after_append r changed before) e

-- a new store has no labels
pub new_none : (l : Store) (taken : Bool) (byte_room places : ℕ) → l ≡ new_where taken byte_room places → l.labels ≡ []
new_none l true byte_room places e = ap (λ (x : Store). x.labels) e
new_none l false byte_room places e = ap (λ (x : Store). x.labels) e
