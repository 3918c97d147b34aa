-- labels that lie in bytes, before and after one is written behind them
use Rattle.std.proofs.Common.{◌≡◌, ℕ, zero, suc, ◌+◌, ◌<◌, ◌≤◌, ltb, List, [], ◌∷◌, ◌++◌, map, length, get_or, take, drop, set, sym, refl, ap, ◌∙◌, subst, ap₂, ⊎_elim, arith}
use Rattle.std.specs.List.{between, range_with_len}
use Rattle.std.proofs.lemmas.List.{length-take-le, length-append, take-take, take-append-le, drop_at, take_all, get_or-set_same, get_or-set_other}
use Rattle.std.proofs.lemmas.List.Edits.{take-paste}
use Rattle.std.proofs.lemmas.Slice.{between_is}
use Rattle.std.proofs.lemmas.List.FromFn.{map-range_with_len_more}
use Rattle.std.proofs.lemmas.Bool.{lt-ltb, le-ltb, cond-true, cond-false, cases_lt}
use Rattle.rules.specs.Tree.{bytes_in}
use Rattle.parts.specs.Stores.{longest}
use Rattle.label_stores.specs.Spans.{written, end_at, span_at, plain_labels, Ordered}

pub bytes_none : bytes_in [] ≡ 0
unfolding bytes_in
bytes_none = refl

pub bytes_more : (ls : List (List ℕ)) (l : List ℕ) → bytes_in (ls ++ (l ∷ [])) ≡ bytes_in ls + length l
unfolding bytes_in
bytes_more [] l = omega arith
bytes_more (x ∷ ls) l = let e : bytes_in (ls ++ (l ∷ [])) ≡ bytes_in ls + length l = bytes_more ls l in omega arith

-- two functions that agree below n
pub map_same : {X : Type 0} (f g : ℕ → X) (a n : ℕ) → ((v : ℕ) → a ≤ v → v < a + n → f v ≡ g v) → map f (range_with_len a n) ≡ map g (range_with_len a n)
map_same f g a zero e = refl
map_same f g a (suc n) e =
    ap₂ (λ x xs. x ∷ xs) (e a (omega arith) (omega arith)) (map_same f g (a + 1) n (λ v p q. e v (omega arith) (omega arith)))

-- a write leaves what lies before it, and can be read back
pub kept_before : (bytes part : List ℕ) (at a e : ℕ) → at ≤ length bytes → e ≤ at → between a e (written bytes at part) ≡ between a e bytes
kept_before bytes part at a e h l =
    let q : length (take at bytes) ≡ at = length-take-le at bytes h in
    let w : length (take at bytes ++ take (length part) part) ≡ length (take at bytes) + length (take (length part) part) = length-append (take at bytes) (take (length part) part) in
    between_is (written bytes at part) a e
    ∙ ap (λ (x : List ℕ). drop a x)
    (take-append-le e (take at bytes ++ take (length part) part) (drop (at + length part) bytes) (omega arith)
    ∙ take-append-le e (take at bytes) (take (length part) part) (omega arith)
    ∙ take-take e at bytes l)
    ∙ sym (between_is bytes a e)

pub read_back : (bytes part : List ℕ) (at : ℕ) → at ≤ length bytes → between at (at + length part) (written bytes at part) ≡ part
read_back bytes part at h =
    between_is (written bytes at part) at (at + length part)
    ∙ ap (λ (x : List ℕ). drop at x) (take-paste bytes at part (length part) h (omega arith))
    ∙ drop_at (take at bytes) (take (length part) part) at (length-take-le at bytes h)
    ∙ take_all (length part) part (omega arith)

-- where labels begin and end once one more begins at t
start_old : (starts : List ℕ) (n t v : ℕ) → v < n → get_or (set starts n t) v 0 ≡ get_or starts v 0
start_old starts n t v h = get_or-set_other starts n v t 0 (omega arith)

end_new : (starts : List ℕ) (n e : ℕ) → end_at starts (n + 1) e n ≡ e
end_new starts n e = cond-false (ltb (n + 1) (n + 1)) _ _ (le-ltb (n + 1) (n + 1) (omega arith))

end_old : (starts : List ℕ) (n t e v : ℕ) → n < length starts → v < n → end_at (set starts n t) (n + 1) e v ≡ end_at starts n t v
end_old starts n t e v h l =
    cond-true (ltb (v + 1) (n + 1)) _ _ (lt-ltb (v + 1) (n + 1) (omega arith))
    ∙ ⊎_elim
    (λ m. get_or-set_other starts n (v + 1) t 0 (omega arith) ∙ sym (cond-true (ltb (v + 1) n) _ _ (lt-ltb (v + 1) n m)))
    (λ m. let q : v + 1 ≡ n = omega arith in
    ap (λ (x : ℕ). get_or (set starts n t) x 0) q ∙ get_or-set_same starts n t 0 h ∙ sym (cond-false (ltb (v + 1) n) _ _ (le-ltb (v + 1) n m)))
    (cases_lt (v + 1) n)

plain_added : (bytes starts label : List ℕ) (n t : ℕ) → n < length starts → t ≤ length bytes → Ordered starts n t
    → plain_labels (written bytes t label) (set starts n t) (n + 1) (t + length label) ≡ plain_labels bytes starts n t ++ (label ∷ [])
plain_added bytes starts label n t h l o =
    map-range_with_len_more (span_at (written bytes t label) (set starts n t) (n + 1) (t + length label)) 0 n n (omega arith)
    ∙ ap₂ (λ (x : List (List ℕ)) (y : List ℕ). x ++ (y ∷ []))
    (map_same (span_at (written bytes t label) (set starts n t) (n + 1) (t + length label)) (span_at bytes starts n t) 0 n
    (λ v _ q. let lt : v < n = omega arith in
    ap₂ (λ (x y : ℕ). between x y (written bytes t label)) (start_old starts n t v lt) (end_old starts n t (t + length label) v h lt)
    ∙ kept_before bytes label t (get_or starts v 0) (end_at starts n t v) l (o v lt).1))
    (ap₂ (λ (x y : ℕ). between x y (written bytes t label)) (get_or-set_same starts n t 0 h) (end_new (set starts n t) n (t + length label))
    ∙ read_back bytes label t l)

-- the labels and their lengths once one more is written behind them
module _ (bytes starts label : List ℕ) (n t : ℕ) (listed : n < length starts) (wide : t ≤ length bytes) (ordered : Ordered starts n t) where
  pub plain_more : (b x : List ℕ) (m u : ℕ) → b ≡ written bytes t label → x ≡ set starts n t → m ≡ n + 1 → u ≡ t + length label → plain_labels b x m u ≡ plain_labels bytes starts n t ++ (label ∷ [])
  plain_more b x m u p q r w =
      ap₂ (λ (y z : List ℕ). plain_labels y z m u) p q
      ∙ ap₂ (λ (y z : ℕ). plain_labels (written bytes t label) (set starts n t) y z) r w
      ∙ plain_added bytes starts label n t listed wide ordered

  pub plain_sum : (b : List ℕ) (m u : ℕ) → b ≡ written bytes t label → m ≡ n + 1 → u ≡ t + length label → t ≡ bytes_in (plain_labels bytes starts n t) → u ≡ bytes_in (plain_labels b (set starts n t) m u)
  plain_sum b m u p r w s =
      let e : bytes_in (plain_labels b (set starts n t) m u) ≡ bytes_in (plain_labels bytes starts n t) + length label
      = ap bytes_in (plain_more b (set starts n t) m u p refl r w) ∙ bytes_more (plain_labels bytes starts n t) label in
      omega arith

ordered_added : (starts : List ℕ) (n t k : ℕ) → n < length starts → k ≤ longest → Ordered starts n t → Ordered (set starts n t) (n + 1) (t + k)
ordered_added starts n t k h l o v m =
    ⊎_elim
    (λ q. let a : get_or (set starts n t) v 0 ≡ get_or starts v 0 = start_old starts n t v q in
    let b : end_at (set starts n t) (n + 1) (t + k) v ≡ end_at starts n t v = end_old starts n t (t + k) v h q in
    let c = o v q in
    (omega arith, omega arith, omega arith))
    (λ q. let z : v ≡ n = omega arith in
    let a : get_or (set starts n t) v 0 ≡ t = ap (λ (x : ℕ). get_or (set starts n t) x 0) z ∙ get_or-set_same starts n t 0 h in
    let b : end_at (set starts n t) (n + 1) (t + k) v ≡ t + k = ap (λ (x : ℕ). end_at (set starts n t) (n + 1) (t + k) x) z ∙ end_new (set starts n t) n (t + k) in
    (omega arith, omega arith, omega arith))
    (cases_lt v n)

pub ordered_more : (starts : List ℕ) (n t k m u : ℕ) → n < length starts → k ≤ longest → Ordered starts n t → m ≡ n + 1 → u ≡ t + k → Ordered (set starts n t) m u
ordered_more starts n t k m u h l o p q =
    subst (λ (y : ℕ). Ordered (set starts n t) y u) (sym p) (subst (λ (y : ℕ). Ordered (set starts n t) (n + 1) y) (sym q) (ordered_added starts n t k h l o))
