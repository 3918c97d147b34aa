-- what the stores mean, and what their lent memory holds after an append
use Rattle.std.specs.Prelude.{◌≡◌, ℕ, ◌+◌, ◌<◌, ◌≤◌, List, length, drop, Ok, Err, Result, slice_set}
use Rattle.rules.specs.Tree.{bytes_in}
use Rattle.parts.specs.Stores.{Store, label_at, append_answer}
use Rattle.parts.specs.declared.store.StoreFault.{StoreFault}
use Rattle.parts.specs.declared.store.StoreFault.TheVariants.{NoLabel}
use Rattle.label_stores.specs.declared.lent.LentStore.{LentStore}
use Rattle.label_stores.specs.Leads.{grouped_labels, led, noted}
use Rattle.label_stores.specs.Spans.{written, plain_labels}

-- label v is there, and has these bytes
abbrev pub LabelOf : Store → ℕ → List ℕ → Type 0
LabelOf l v label = (v < length l.labels) × (label ≡ label_at l v)

abbrev pub NoLabelAt : Store → ℕ → StoreFault → Type 0
NoLabelAt l v fault = (length l.labels ≤ v) × (fault ≡ NoLabel)

-- lent memory after an append with this answer: changed where that is Ok, and else as it was
abbrev pub after_append : Result (Unit {0}) StoreFault → {X : Type 0} → (changed before : X) → X
after_append (Ok done) changed before = changed
after_append (Err fault) changed before = before

-- a store whose labels are found so in its bytes and starts, from their number and their lengths, added up
abbrev pub meaning_by : {L B : _} → ((bytes starts : List ℕ) (n t : ℕ) → List (List ℕ)) → LentStore L B → Store
meaning_by labels p = record { labels = labels p.bytes.now p.starts.now p.fill.count p.fill.total; byte_room = p.fill.room; places = p.fill.places }

-- the lent bytes after an append: with the label that is written behind n others, which have t bytes, or as they were
abbrev pub bytes_next : (List ℕ → (n t : ℕ) → List ℕ → List ℕ) → Store → (bytes s : List ℕ) → ℕ → List ℕ
bytes_next bytes_with l bytes s f = after_append (append_answer l s f) (bytes_with bytes (length l.labels) (bytes_in l.labels) (drop f s)) bytes

-- the lent starts after an append
abbrev pub starts_next : (List ℕ → (n t : ℕ) → List ℕ) → Store → (starts s : List ℕ) → ℕ → List ℕ
starts_next starts_with l starts s f = after_append (append_answer l s f) (starts_with starts (length l.labels) (bytes_in l.labels)) starts

abbrev pub plain_meaning : {L B : _} → LentStore L B → Store
plain_meaning p = meaning_by plain_labels p

-- the lent bytes after an append: the label written after the others, and every other byte as it was
abbrev pub plain_bytes_next : {L B : _} → LentStore L B → List ℕ → ℕ → List ℕ
plain_bytes_next p s f = after_append (append_answer (plain_meaning p) s f) (written p.bytes.now (bytes_in (plain_meaning p).labels) (drop f s)) p.bytes.now

-- the lent starts after an append: the new label's written, and every other as it was
abbrev pub plain_starts_next : {L B : _} → LentStore L B → List ℕ → ℕ → List ℕ
plain_starts_next p s f = after_append (append_answer (plain_meaning p) s f) (slice_set p.starts.now (length (plain_meaning p).labels) (bytes_in (plain_meaning p).labels)) p.starts.now

abbrev pub grouped_meaning : {L B : _} → LentStore L B → Store
grouped_meaning g = meaning_by (λ bytes starts n t. grouped_labels bytes n) g

-- where the next label's length goes: behind all labels and their lengths
abbrev pub grouped_end : {L B : _} → LentStore L B → ℕ
grouped_end g = bytes_in (grouped_meaning g).labels + length (grouped_meaning g).labels

-- the lent bytes after an append: the label's length and the label written after the others, and every other byte as it was
abbrev pub grouped_bytes_next : {L B : _} → LentStore L B → List ℕ → ℕ → List ℕ
grouped_bytes_next g s f = after_append (append_answer (grouped_meaning g) s f) (led g.bytes.now (grouped_end g) (drop f s)) g.bytes.now

-- the lent group starts after an append: a new group's written, and every other as it was
abbrev pub grouped_starts_next : {L B : _} → LentStore L B → List ℕ → ℕ → List ℕ
grouped_starts_next g s f = after_append (append_answer (grouped_meaning g) s f) (noted g.starts.now (length (grouped_meaning g).labels) (grouped_end g)) g.starts.now
