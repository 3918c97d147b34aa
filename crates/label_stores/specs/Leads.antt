-- labels one after another, each led by its length in one byte, and the starts of groups of 16
use Rattle.std.specs.Prelude.{◌≡◌, ℕ, zero, suc, ◌+◌, ◌*◌, ◌/◌, ◌%◌, ◌<◌, ◌≤◌, cond, List, ◌∷◌, map, length, ◌==◌, slice_index, slice_set}
use Rattle.std.specs.List.{between, range_with_len}
use Rattle.parts.specs.Stores.{longest}
use Rattle.label_stores.specs.Spans.{written}

-- where the label ends whose length stands at a place
abbrev pub end_from : List ℕ → ℕ → ℕ
end_from bytes head = head + 1 + slice_index bytes head

-- where the length of label v stands
abbrev pub head_at : List ℕ → ℕ → ℕ
head_at bytes zero = 0
head_at bytes (suc v) = end_from bytes (head_at bytes v)

abbrev pub led_span : List ℕ → ℕ → List ℕ
led_span bytes v = between (head_at bytes v + 1) (end_from bytes (head_at bytes v)) bytes

-- the first n labels
abbrev pub grouped_labels : List ℕ → ℕ → List (List ℕ)
grouped_labels bytes n = map (led_span bytes) (range_with_len 0 n)

-- each group start is where the length of its first label stands
abbrev pub GroupsAt : (bytes starts : List ℕ) → ℕ → Type 0
GroupsAt bytes starts n = (g : ℕ) → 16 * g < n → slice_index starts g ≡ head_at bytes (16 * g)

abbrev pub ShortLengths : List ℕ → ℕ → Type 0
ShortLengths bytes n = (v : ℕ) → v < n → slice_index bytes (head_at bytes v) ≤ longest

-- the bytes with a label written from a place on, its length first
abbrev pub led : List ℕ → ℕ → List ℕ → List ℕ
led bytes at label = written bytes at (length label ∷ label)

-- the group starts once label v stands at a place: a start is written where v is the first of its group
abbrev pub noted : List ℕ → (v at : ℕ) → List ℕ
noted starts v at = cond (v % 16 == 0) (slice_set starts (v / 16) at) starts
