-- setting a node into the first empty slot from its home on
use Rattle.std.proofs.Common.{◌≡◌, ℕ, ◌+◌, ◌*◌, ◌^◌, ◌<◌, ◌≤◌, ◌⊎◌, sym, ap, ◌∙◌, subst, ap₂, inl, inr, mod-lt, arith, pow_pos, pow_mono}
use Rattle.std.proofs.lemmas.Bool.{cases_eq}
use Rattle.rules.specs.declared.step.Step.TheVariants.{By32}
use Rattle.compact_map.specs.Hash.{unhash, home_of, quotient_of}
use Rattle.compact_map.specs.Slots.{packed, quotient_in, displacement_in, number_in}
use Rattle.compact_map.specs.Layout.{onward}
use Rattle.compact_map.specs.Table.{Taken, homeward, Holds, Full, First, key_at}
use Rattle.compact_map.proofs.Fields.{Unpacked, unpacked}
use Rattle.compact_map.proofs.Rounds.{homeward_onward}
use Rattle.compact_map.proofs.HeldKeys.{home_lt, quotient_lt, held_key}
use Rattle.compact_map.proofs.Tables.{TableFacts}

-- w is written into slot s, and s into the place of node v
pub record SetInto (m : ℕ) (S S' A A' : ℕ → ℕ) (s v w : ℕ) : Type 0 where
  pub slot_new : S' s ≡ w
  pub slot_old : (i : ℕ) → i < m → (i ≡ s → ⊥) → S' i ≡ S i
  pub place_new : A' v ≡ s
  pub place_old : (u : ℕ) → u < v → A' u ≡ A u

-- the table after: the keys are those before, and the new one
pub record Grown (l : ℕ) (S S' A A' : ℕ → ℕ) (v key : ℕ) : Type 0 where
  pub facts : TableFacts l S' A' (v + 1)
  pub old : (u : ℕ) → 0 < u → u < v → key_at By32 l S' (A' u) ≡ key_at By32 l S (A u)
  pub new : key_at By32 l S' (A' v) ≡ key

module _ (l : ℕ) (S S' A A' : ℕ → ℕ) (v key d : ℕ) (small : l ≤ 15) (fits : key < 2 ^ (13 + l)) (some : 0 < v) (few : v < 2 ^ 15) (was : TableFacts l S A v)
    (first : First (2 ^ l) S (home_of By32 l key) d)
    (set : SetInto (2 ^ l) S S' A A' (onward (2 ^ l) (home_of By32 l key) d) v (packed (quotient_of By32 l key) d v)) where
  abbrev q : ℕ
  q = quotient_of By32 l key

  abbrev home : ℕ
  home = home_of By32 l key

  abbrev s : ℕ
  s = onward (2 ^ l) home d

  s_lt : s < 2 ^ l
  s_lt = mod-lt (home + d) (pow_pos l)

  d_lt : d < 2 ^ 15
  d_lt = let a : 2 ^ l ≤ 2 ^ 15 = pow_mono small in let b : d < 2 ^ l = first.near in omega arith

  fields : Unpacked q d v
  fields = unpacked q d v (quotient_lt l key) d_lt few

  new_number : number_in (S' s) ≡ v
  new_number = ap number_in set.slot_new ∙ fields.number

  new_displacement : displacement_in (S' s) ≡ d
  new_displacement = ap displacement_in set.slot_new ∙ fields.displacement

  new_taken : Taken (S' s)
  new_taken = subst Taken (sym set.slot_new) (omega arith)

  -- what was there stays
  keep : (i : ℕ) → i < 2 ^ l → Taken (S i) → S' i ≡ S i
  keep i h t = set.slot_old i h (λ e. first.empty (subst (λ (x : ℕ). Taken (S x)) e t))

  still : (i : ℕ) → i < 2 ^ l → Taken (S i) → Taken (S' i)
  still i h t = subst Taken (sym (keep i h t)) t

  held : Holds (2 ^ l) S' home q s
  held = record {
    inside = s_lt;
    taken = new_taken;
    home_is = ap (homeward (2 ^ l) s) new_displacement ∙ homeward_onward (2 ^ l) home d (home_lt l key) first.near;
    quotient_is = ap quotient_in set.slot_new ∙ fields.quotient;
  }

  -- a property of each taken slot: of the old, and of the new
  each : (P : ℕ → ℕ → Type 0) → P s (S' s) → ((i : ℕ) → i < 2 ^ l → Taken (S i) → P i (S i)) → (i : ℕ) → i < 2 ^ l → Taken (S' i) → P i (S' i)
  each P here there i h t = pick (cases_eq i s)
    where
      pick : (i ≡ s) ⊎ (i ≡ s → ⊥) → P i (S' i)
      pick (inl e) = subst (λ (x : ℕ). P x (S' x)) (sym e) here
      pick (inr e) = let k : S' i ≡ S i = set.slot_old i h e in subst (P i) (sym k) (there i h (subst Taken k t))

  -- and of each node
  each_node : (P : ℕ → Type 0) → P v → ((u : ℕ) → 0 < u → u < v → P u) → (u : ℕ) → 0 < u → u < v + 1 → P u
  each_node P here there u z h = pick (cases_eq u v)
    where
      pick : (u ≡ v) ⊎ (u ≡ v → ⊥) → P u
      pick (inl e) = subst P (sym e) here
      pick (inr e) = there u z (omega arith)

  -- a node that was there has its place and its word
  same : (u : ℕ) → 0 < u → u < v → S' (A' u) ≡ S (A u)
  same u z h = ap S' (set.place_old u h) ∙ keep (A u) (was.inside u z h) (was.taken u z h)

  full : Full (2 ^ l) S'
  full = record {
    short = each (λ i w. displacement_in w < 2 ^ l) (subst (λ (x : ℕ). x < 2 ^ l) (sym new_displacement) first.near) was.full.short;
    way = each (λ i w. (j : ℕ) → j < displacement_in w → Taken (S' (onward (2 ^ l) (homeward (2 ^ l) i (displacement_in w)) j)))
        (subst (λ (e : ℕ). (j : ℕ) → j < e → Taken (S' (onward (2 ^ l) (homeward (2 ^ l) s e) j))) (sym new_displacement)
        (subst (λ (h : ℕ). (j : ℕ) → j < d → Taken (S' (onward (2 ^ l) h j))) (sym (homeward_onward (2 ^ l) home d (home_lt l key) first.near))
        (λ j k. still (onward (2 ^ l) home j) (mod-lt (home + j) (pow_pos l)) (first.way j k))))
        (λ i h t j k. still (onward (2 ^ l) (homeward (2 ^ l) i (displacement_in (S i))) j) (mod-lt (homeward (2 ^ l) i (displacement_in (S i)) + j) (pow_pos l)) (was.full.way i h t j k));
  }

  pub grown : Grown l S S' A A' v key
  grown = record {
    facts = record {
      full = full;
      low = each (λ i w. 0 < number_in w) (subst (λ (x : ℕ). 0 < x) (sym new_number) some) was.low;
      high = each (λ i w. number_in w < v + 1) (subst (λ (x : ℕ). x < v + 1) (sym new_number) (omega arith)) (λ i h t. omega (arith, was.high i h t));
      named = each (λ i w. A' (number_in w) ≡ i) (ap A' new_number ∙ set.place_new) (λ i h t. set.place_old (number_in (S i)) (was.high i h t) ∙ was.named i h t);
      inside = each_node (λ u. A' u < 2 ^ l) (subst (λ (x : ℕ). x < 2 ^ l) (sym set.place_new) s_lt)
          (λ u z h. subst (λ (x : ℕ). x < 2 ^ l) (sym (set.place_old u h)) (was.inside u z h));
      taken = each_node (λ u. Taken (S' (A' u))) (subst (λ (x : ℕ). Taken (S' x)) (sym set.place_new) new_taken)
          (λ u z h. subst Taken (sym (same u z h)) (was.taken u z h));
    };
    old = λ u z h. ap₂ (λ (w i : ℕ). unhash (13 + l) (quotient_in w * 2 ^ l + homeward (2 ^ l) i (displacement_in w))) (same u z h) (set.place_old u h);
    new = ap (key_at By32 l S') set.place_new ∙ held_key l key S' s small fits held;
  }
