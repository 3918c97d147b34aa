-- labels led by their lengths, before and after one is written behind them
use Rattle.std.proofs.Common.{◌≡◌, ℕ, zero, suc, ◌+◌, ◌-◌, ◌*◌, ◌/◌, ◌%◌, ◌<◌, ◌≤◌, eqb, List, [], ◌∷◌, ◌++◌, length, get_or, take, drop, set, sym, refl, ap, ◌∙◌, subst, ap₂, ⊎_elim, add-one, arith}
use Rattle.std.specs.List.{between}
use Rattle.std.proofs.lemmas.List.{length-take-le, length-append, get_or_append_left, get_or-take, drop-drop, get_or-set_same, get_or-set_other}
use Rattle.std.proofs.lemmas.List.Edits.{get_or-between}
use Rattle.std.proofs.lemmas.Slice.{between_is}
use Rattle.std.proofs.lemmas.List.FromFn.{map-range_with_len_more}
use Rattle.std.proofs.lemmas.Bool.{eq-eqb, ne_eqb, cond-true, cond-false, cases_eq, cases_lt}
use Rattle.rules.specs.Tree.{bytes_in}
use Rattle.parts.specs.Stores.{longest}
use Rattle.label_stores.specs.Spans.{written}
use Rattle.label_stores.specs.Leads.{end_from, head_at, led_span, grouped_labels, GroupsAt, ShortLengths, led, noted}
use Rattle.label_stores.proofs.Spans.{bytes_more, map_same, kept_before, read_back}

pub head_more : (bytes : List ℕ) (v : ℕ) → head_at bytes (v + 1) ≡ end_from bytes (head_at bytes v)
head_more bytes v = ap (λ (k : ℕ). head_at bytes k) (add-one v)

-- a label ends before a later one's length stands
end_by : (bytes : List ℕ) (v d : ℕ) → end_from bytes (head_at bytes v) ≤ head_at bytes (v + 1 + d)
end_by bytes v zero =
    let e : head_at bytes (v + 1) ≡ end_from bytes (head_at bytes v) = head_more bytes v in
    let z : v + 1 ≡ v + 1 + 0 = omega arith in
    subst (λ (k : ℕ). end_from bytes (head_at bytes v) ≤ head_at bytes k) z (omega arith)
end_by bytes v (suc d) =
    let h : end_from bytes (head_at bytes v) ≤ head_at bytes (v + 1 + d) = end_by bytes v d in
    let e : head_at bytes (v + 1 + d + 1) ≡ end_from bytes (head_at bytes (v + 1 + d)) = head_more bytes (v + 1 + d) in
    let z : v + 1 + d + 1 ≡ v + 1 + suc d = omega arith in
    subst (λ (k : ℕ). end_from bytes (head_at bytes v) ≤ head_at bytes k) z (omega arith)

pub end_before : (bytes : List ℕ) (v n : ℕ) → v < n → end_from bytes (head_at bytes v) ≤ head_at bytes n
end_before bytes v n h =
    let z : v + 1 + (n - (v + 1)) ≡ n = omega arith in
    subst (λ (k : ℕ). end_from bytes (head_at bytes v) ≤ head_at bytes k) z (end_by bytes v (n - (v + 1)))

-- a label ends within the bytes in which a later one's length stands
pub end_within : (bytes : List ℕ) (head v n : ℕ) → head ≡ head_at bytes v → v < n → head_at bytes n ≤ length bytes → end_from bytes head ≤ length bytes
end_within bytes head v n e h l = rw e (omega (arith, end_before bytes v n h))

byte_before : (bytes part : List ℕ) (at i : ℕ) → at ≤ length bytes → i < at → get_or (written bytes at part) i 0 ≡ get_or bytes i 0
byte_before bytes part at i h l =
    let e : length (take at bytes) ≡ at = length-take-le at bytes h in
    let w : length (take at bytes ++ take (length part) part) ≡ length (take at bytes) + length (take (length part) part) = length-append (take at bytes) (take (length part) part) in
    get_or_append_left (take at bytes ++ take (length part) part) (drop (at + length part) bytes) 0 i (omega arith)
    ∙ get_or_append_left (take at bytes) (take (length part) part) 0 i (omega arith)
    ∙ get_or-take at bytes i 0 l

-- a label written behind n labels
module _ (bytes label : List ℕ) (at n : ℕ) (inside : at ≤ length bytes) (used : head_at bytes n ≡ at) where
  head_kept : (v : ℕ) → v ≤ n → head_at (led bytes at label) v ≡ head_at bytes v
  head_kept zero l = refl
  head_kept (suc v) l =
      let p : end_from bytes (head_at bytes v) ≤ head_at bytes n = end_before bytes v n (omega arith) in
      ap (λ (k : ℕ). end_from (led bytes at label) k) (head_kept v (omega arith))
      ∙ ap (λ (x : ℕ). head_at bytes v + 1 + x) (byte_before bytes (length label ∷ label) at (head_at bytes v) inside (omega arith))

  head_here : head_at (led bytes at label) n ≡ at
  head_here = head_kept n (omega arith) ∙ used

  whole : between at (at + suc (length label)) (led bytes at label) ≡ length label ∷ label
  whole = read_back bytes (length label ∷ label) at inside

  length_led : get_or (led bytes at label) at 0 ≡ length label
  length_led =
      let z : at + 0 ≡ at = omega arith in
      sym (get_or-between (led bytes at label) at (at + suc (length label)) 0 0 (omega arith) ∙ ap (λ (k : ℕ). get_or (led bytes at label) k 0) z)
      ∙ ap (λ (x : List ℕ). get_or x 0 0) whole

  label_led : between (at + 1) (at + 1 + length label) (led bytes at label) ≡ label
  label_led =
      let z : at + 1 + length label ≡ at + suc (length label) = omega arith in
      ap (λ (k : ℕ). between (at + 1) k (led bytes at label)) z
      ∙ between_is (led bytes at label) (at + 1) (at + suc (length label))
      ∙ sym (drop-drop 1 at (take (at + suc (length label)) (led bytes at label)))
      ∙ ap (λ (x : List ℕ). drop 1 x) (sym (between_is (led bytes at label) at (at + suc (length label))) ∙ whole)

  head_next : head_at (led bytes at label) (n + 1) ≡ at + 1 + length label
  head_next =
      head_more (led bytes at label) n
      ∙ ap (λ (k : ℕ). end_from (led bytes at label) k) head_here
      ∙ ap (λ (x : ℕ). at + 1 + x) length_led

  labels_next : grouped_labels (led bytes at label) (n + 1) ≡ grouped_labels bytes n ++ (label ∷ [])
  labels_next =
      map-range_with_len_more (led_span (led bytes at label)) 0 n n (omega arith)
      ∙ ap₂ (λ (x : List (List ℕ)) (y : List ℕ). x ++ (y ∷ []))
      (map_same (led_span (led bytes at label)) (led_span bytes) 0 n
      (λ v _ q.
      let lt : v < n = omega arith in
      let p : end_from bytes (head_at bytes v) ≤ head_at bytes n = end_before bytes v n lt in
      ap (λ (k : ℕ). between (k + 1) (end_from (led bytes at label) k) (led bytes at label)) (head_kept v (omega arith))
      ∙ ap (λ (x : ℕ). between (head_at bytes v + 1) (head_at bytes v + 1 + x) (led bytes at label)) (byte_before bytes (length label ∷ label) at (head_at bytes v) inside (omega arith))
      ∙ kept_before bytes (length label ∷ label) at (head_at bytes v + 1) (end_from bytes (head_at bytes v)) inside (omega arith)))
      (ap (λ (k : ℕ). between (k + 1) (end_from (led bytes at label) k) (led bytes at label)) head_here
      ∙ ap (λ (x : ℕ). between (at + 1) (at + 1 + x) (led bytes at label)) length_led
      ∙ label_led)

  start_kept : (starts : List ℕ) (g : ℕ) → 16 * g < n → get_or (noted starts n at) g 0 ≡ get_or starts g 0
  start_kept starts g q =
      ⊎_elim
      (λ a. ap (λ (x : List ℕ). get_or x g 0) (cond-true (eqb (n % 16) 0) (set starts (n / 16) at) starts (eq-eqb (n % 16) 0 a)) ∙ get_or-set_other starts (n / 16) g at 0 (omega arith))
      (λ a. ap (λ (x : List ℕ). get_or x g 0) (cond-false (eqb (n % 16) 0) (set starts (n / 16) at) starts (ne_eqb (n % 16) 0 a)))
      (cases_eq (n % 16) 0)

  groups_next : (starts : List ℕ) → n / 16 < length starts → GroupsAt bytes starts n → GroupsAt (led bytes at label) (noted starts n at) (n + 1)
  groups_next starts k o g m =
      ⊎_elim
      (λ q. start_kept starts g q ∙ o g q ∙ sym (head_kept (16 * g) (omega arith)))
      (λ q.
      let z : 16 * g ≡ n = omega arith in
      let a : n % 16 ≡ 0 = omega arith in
      let b : g ≡ n / 16 = omega arith in
      ap (λ (x : List ℕ). get_or x g 0) (cond-true (eqb (n % 16) 0) (set starts (n / 16) at) starts (eq-eqb (n % 16) 0 a))
      ∙ ap (λ (i : ℕ). get_or (set starts (n / 16) at) i 0) b
      ∙ get_or-set_same starts (n / 16) at 0 k
      ∙ sym (ap (λ (i : ℕ). head_at (led bytes at label) i) z ∙ head_here))
      (cases_lt (16 * g) n)

  short_next : length label ≤ longest → ShortLengths bytes n → ShortLengths (led bytes at label) (n + 1)
  short_next k o v m =
      ⊎_elim
      (λ q.
      let p : end_from bytes (head_at bytes v) ≤ head_at bytes n = end_before bytes v n q in
      let e : get_or (led bytes at label) (head_at (led bytes at label) v) 0 ≡ get_or bytes (head_at bytes v) 0
      = ap (λ (i : ℕ). get_or (led bytes at label) i 0) (head_kept v (omega arith)) ∙ byte_before bytes (length label ∷ label) at (head_at bytes v) inside (omega arith) in
      omega (arith, o v q))
      (λ q.
      let z : v ≡ n = omega arith in
      let e : get_or (led bytes at label) (head_at (led bytes at label) v) 0 ≡ length label
      = ap (λ (i : ℕ). get_or (led bytes at label) (head_at (led bytes at label) i) 0) z ∙ ap (λ (i : ℕ). get_or (led bytes at label) i 0) head_here ∙ length_led in
      omega arith)
      (cases_lt v n)

  -- the same of what a store then holds
  module _ (b : List ℕ) (m : ℕ) (bytes_are : b ≡ led bytes at label) (count_is : m ≡ n + 1) where
    pub grouped_more : grouped_labels b m ≡ grouped_labels bytes n ++ (label ∷ [])
    grouped_more = ap₂ (λ (x : List ℕ) (y : ℕ). grouped_labels x y) bytes_are count_is ∙ labels_next

    pub grouped_used : head_at b m ≡ at + 1 + length label
    grouped_used = ap₂ (λ (x : List ℕ) (y : ℕ). head_at x y) bytes_are count_is ∙ head_next

    pub grouped_sum : (t u : ℕ) → t ≡ bytes_in (grouped_labels bytes n) → u ≡ t + length label → u ≡ bytes_in (grouped_labels b m)
    grouped_sum t u s w =
        let e : bytes_in (grouped_labels b m) ≡ bytes_in (grouped_labels bytes n) + length label = ap bytes_in grouped_more ∙ bytes_more (grouped_labels bytes n) label in
        omega arith

    pub groups_more : (starts x : List ℕ) → x ≡ noted starts n at → n / 16 < length starts → GroupsAt bytes starts n → GroupsAt b x m
    groups_more starts x e k o =
        subst (λ (y : ℕ). GroupsAt b x y) (sym count_is)
        (subst (λ (y : List ℕ). GroupsAt y x (n + 1)) (sym bytes_are)
        (subst (λ (y : List ℕ). GroupsAt (led bytes at label) y (n + 1)) (sym e) (groups_next starts k o)))

    pub short_more : length label ≤ longest → ShortLengths bytes n → ShortLengths b m
    short_more k o =
        subst (λ (y : ℕ). ShortLengths b y) (sym count_is) (subst (λ (y : List ℕ). ShortLengths y (n + 1)) (sym bytes_are) (short_next k o))
