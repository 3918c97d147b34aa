-- the laws of the two layouts, proved here since `src` cites them
use Rattle.std.specs.Prelude.{◌≡◌, ℕ, ◌+◌, ◌-◌, ◌*◌, ◌<◌, ◌≤◌, Bool, true, false, List, [], length, slice_index_or}
use Rattle.std.specs.List.{between}
use Rattle.std.proofs.Common.{sym, refl, arith, length-take, length-drop}
use Rattle.std.proofs.Props.{props}
use Rattle.std.proofs.lemmas.Bool.Decides.{nat_tests}
use Rattle.std.proofs.lemmas.Slice.{between_is}
use Rattle.std.proofs.lemmas.List.FromFn.{length-map-range_with_len, get_or-map-range_with_len}
use Rattle.rules.specs.Tree.{bytes_in}
use Rattle.parts.specs.Stores.{longest}
use Rattle.label_stores.specs.declared.fill.Fill.{Fill}
use Rattle.label_stores.specs.Fills.{IsNew}
use Rattle.label_stores.specs.Sizes.{room_where, plain_takes, grouped_takes}
use Rattle.label_stores.specs.Spans.{span_at, end_at, plain_labels, Ordered}
use Rattle.label_stores.specs.Leads.{head_at, end_from, led_span, grouped_labels, ShortLengths}
use Rattle.label_stores.specs.Sound.{PlainSound, GroupedSound}

-- a part has at most so many bytes
short_between : (bytes : List ℕ) (a e k : ℕ) → e ≤ a + k → length (between a e bytes) ≤ k
short_between bytes a e k h = rw (between_is bytes a e) (simp (length-drop, length-take) (omega arith))

-- memory that is not taken gives no more room
room_within : (taken : Bool) (n : ℕ) → room_where taken n ≤ n
room_within true n = omega arith
room_within false n = omega arith

-- the plain layout: a label is short where the starts are in order
pub plain_label_short : (bytes starts : List ℕ) (n t v : ℕ) → Ordered starts n t → v < n → length (slice_index_or (plain_labels bytes starts n t) v []) ≤ longest
plain_label_short bytes starts n t v o l =
    rw (get_or-map-range_with_len (span_at bytes starts n t) 0 n v v [] l (omega arith)) (short_between bytes _ (end_at starts n t v) longest (o v l).2)

module _ (bytes starts : List ℕ) (fill : Fill) where
  pub plain_once : IsProp (PlainSound bytes starts fill)
  plain_once = hlevel props

  pub plain_counted : PlainSound bytes starts fill → length (plain_labels bytes starts fill.count fill.total) ≡ fill.count
  plain_counted h = length-map-range_with_len (span_at bytes starts fill.count fill.total) 0 fill.count

  pub plain_summed : PlainSound bytes starts fill → bytes_in (plain_labels bytes starts fill.count fill.total) ≡ fill.total
  plain_summed h = sym h.sum

  pub plain_short : PlainSound bytes starts fill → (v : ℕ) → v < fill.count → length (slice_index_or (plain_labels bytes starts fill.count fill.total) v []) ≤ longest
  plain_short h v l = plain_label_short bytes starts fill.count fill.total v h.ordered l

  pub plain_empty : IsNew fill (room_where (plain_takes (length bytes) (length starts)) (length bytes)) (room_where (plain_takes (length bytes) (length starts)) (length starts)) → PlainSound bytes starts fill
  unfolding bytes_in
  plain_empty n = record {
    listed = omega (arith, n, room_within (plain_takes (length bytes) (length starts)) (length starts));
    wide = omega (arith, n, room_within (plain_takes (length bytes) (length starts)) (length bytes));
    sum = rw (n.0, n.1) refl;
    ordered = λ v h. absurd (omega (arith, n));
  }

-- the byte room and the places lie side by side in the bytes
rooms_within : (bytes starts : ℕ) → room_where (grouped_takes bytes starts) (bytes - 16 * starts) + room_where (grouped_takes bytes starts) (16 * starts) ≤ bytes
rooms_within bytes starts = grind (arith, nat_tests)

-- the grouped layout: a label is short where the lengths are
pub grouped_label_short : (bytes : List ℕ) (n v : ℕ) → ShortLengths bytes n → v < n → length (slice_index_or (grouped_labels bytes n) v []) ≤ longest
grouped_label_short bytes n v o l =
    rw (get_or-map-range_with_len (led_span bytes) 0 n v v [] l (omega arith)) (short_between bytes (head_at bytes v + 1) (end_from bytes (head_at bytes v)) longest (omega (arith, o v l)))

module _ (bytes starts : List ℕ) (fill : Fill) where
  pub grouped_once : IsProp (GroupedSound bytes starts fill)
  grouped_once = hlevel props

  pub grouped_counted : GroupedSound bytes starts fill → length (grouped_labels bytes fill.count) ≡ fill.count
  grouped_counted h = length-map-range_with_len (led_span bytes) 0 fill.count

  pub grouped_summed : GroupedSound bytes starts fill → bytes_in (grouped_labels bytes fill.count) ≡ fill.total
  grouped_summed h = sym h.sum

  pub grouped_short : GroupedSound bytes starts fill → (v : ℕ) → v < fill.count → length (slice_index_or (grouped_labels bytes fill.count) v []) ≤ longest
  grouped_short h v l = grouped_label_short bytes fill.count v h.short l

  pub grouped_empty : IsNew fill (room_where (grouped_takes (length bytes) (length starts)) (length bytes - 16 * length starts)) (room_where (grouped_takes (length bytes) (length starts)) (16 * length starts)) → GroupedSound bytes starts fill
  unfolding bytes_in
  grouped_empty n = record {
    listed = omega (arith, n, room_within (grouped_takes (length bytes) (length starts)) (16 * length starts));
    wide = omega (arith, n, rooms_within (length bytes) (length starts));
    used = rw (n.0, n.1) refl;
    sum = rw (n.0, n.1) refl;
    groups = λ g h. absurd (omega (arith, n));
    short = λ v h. absurd (omega (arith, n));
  }
