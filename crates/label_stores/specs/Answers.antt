-- the answers that both stores give, from numbers and from a label's bytes
use Rattle.std.specs.Prelude.{ℕ, ◌+◌, ◌-◌, cond, List, length, drop, Ok, Err, Result, nat_lt, slice_index}
use Rattle.rules.specs.Words.{shared}
use Rattle.parts.specs.Stores.{longest}
use Rattle.parts.specs.declared.store.StoreFault.{StoreFault}
use Rattle.parts.specs.declared.store.StoreFault.TheVariants.{StartBeyond, LabelTooLong, PlacesUsed, BytesUsed, NoByte}

-- appending n bytes less the first f of them
abbrev pub append_check : (count places total room n f : ℕ) → Result (Unit {0}) StoreFault
append_check count places total room n f =
    cond (nat_lt n f) (Err StartBeyond)
    (cond (nat_lt longest (n - f)) (Err LabelTooLong)
    (cond (nat_lt count places) (cond (nat_lt room (total + (n - f))) (Err BytesUsed) (Ok tt)) (Err PlacesUsed)))

abbrev pub byte_check : List ℕ → ℕ → Result ℕ StoreFault
byte_check label i = cond (nat_lt i (length label)) (Ok (slice_index label i)) (Err NoByte)

abbrev pub meet_check : List ℕ → List ℕ → ℕ → Result ℕ StoreFault
meet_check label s f = cond (nat_lt (length s) f) (Err StartBeyond) (Ok (shared (drop f s) label))
