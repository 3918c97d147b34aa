-- where labels lie in bytes
use Rattle.std.specs.Prelude.{ℕ, ◌+◌, ◌<◌, ◌≤◌, cond, List, map, length, nat_lt, slice_index}
use Rattle.std.proofs.Math.Seq.{paste}
use Rattle.std.specs.List.{between, range_with_len}
use Rattle.parts.specs.Stores.{longest}

-- the bytes with a part written from a place on
abbrev pub written : List ℕ → ℕ → List ℕ → List ℕ
written bytes at part = paste bytes at part (length part)

-- where label v of n ends: where the next one begins, and the last at t
abbrev pub end_at : List ℕ → (n t v : ℕ) → ℕ
end_at starts n t v = cond (nat_lt (v + 1) n) (slice_index starts (v + 1)) t

abbrev pub span_at : (bytes starts : List ℕ) (n t v : ℕ) → List ℕ
span_at bytes starts n t v = between (slice_index starts v) (end_at starts n t v) bytes

-- n labels, which together have t bytes
abbrev pub plain_labels : (bytes starts : List ℕ) (n t : ℕ) → List (List ℕ)
plain_labels bytes starts n t = map (span_at bytes starts n t) (range_with_len 0 n)

abbrev pub Ordered : List ℕ → (n t : ℕ) → Type 0
Ordered starts n t = (v : ℕ) → v < n → (slice_index starts v ≤ end_at starts n t v) × (end_at starts n t v ≤ t) × (end_at starts n t v ≤ slice_index starts v + longest)
