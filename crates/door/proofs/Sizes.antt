-- parts in memory of any sizes
use Rattle.std.proofs.Common.{rules, ◌≡◌, ℕ, Bool, true, false, cond, ◌&&◌, List, ◌++◌, is_ok, is_some, Some, None, Option, refl, ap, ◌∙◌, subst}
use Rattle.rules.specs.Tree.{bytes_in}
use Rattle.parts.specs.Sizes.{power_from, power_for, size_answer, map_for}
use Rattle.compact_map.specs.Meaning.{capacity}
use Rattle.label_stores.specs.Sizes.{new_where, plain_takes}
use Rattle.commands.specs.Lines.{lines}
use Rattle.dictionary.specs.Shows.{fits, fresh_book}
use Rattle.session.specs.Output.{Printed}
use Rattle.session.specs.Texts.{printed, unfit_lines, totals_text}
use Rattle.session.specs.Served.{printed_over}
use Rattle.door.specs.Door.{map_in, store_in, amounts, door_text}

-- a new store has no bytes
no_bytes : (taken : Bool) (room places : ℕ) → bytes_in (new_where taken room places).labels ≡ 0
unfolding bytes_in
no_bytes true room places = refl
no_bytes false room places = refl

-- memory that the map takes
taken_text : (b c : ℕ) (text : List ℕ) (o : Option ℕ) → is_ok (size_answer o) ≡ true
    → printed_over (map_for capacity o) (store_in b c) amounts text
    ≡ cond (is_some o && fits (map_for capacity o) (store_in b c) amounts) (printed (fresh_book (map_for capacity o) (store_in b c)) (lines text)) (unfit_lines (lines text) ++ totals_text 1 0)
taken_text b c text (Some k) e =
    ap (λ (n : ℕ). cond (fits (map_for capacity (Some k)) (store_in b c) amounts) (printed (fresh_book (map_for capacity (Some k)) (store_in b c)) (lines text)) (unfit_lines (lines text) ++ totals_text 1 n))
    (no_bytes (plain_takes b c) b c)
taken_text b c text None e = search rules

-- memory that it does not take
untaken_text : (b c : ℕ) (text : List ℕ) (o : Option ℕ) → is_ok (size_answer o) ≡ false
    → unfit_lines (lines text) ++ totals_text 1 0
    ≡ cond (is_some o && fits (map_for capacity o) (store_in b c) amounts) (printed (fresh_book (map_for capacity o) (store_in b c)) (lines text)) (unfit_lines (lines text) ++ totals_text 1 0)
untaken_text b c text (Some k) e = search rules
untaken_text b c text None e = refl

-- parts in no memory
without : (text : List ℕ) → printed_over (map_in 0) (store_in 0 0) amounts text ≡ unfit_lines (lines text) ++ totals_text 1 0
unfolding power_from bytes_in
without text = refl

pub printed_taken : (a b c : ℕ) (text out out' : List ℕ) (n : ℕ) → is_ok (size_answer (power_for a 14)) ≡ true
    → Printed (printed_over (map_in a) (store_in b c) amounts text) out out' n → Printed (door_text a b c text) out out' n
printed_taken a b c text out out' n e made = subst (λ (t : List ℕ). Printed t out out' n) (taken_text b c text (power_for a 14) e) made

pub printed_untaken : (a b c : ℕ) (text out out' : List ℕ) (n : ℕ) → is_ok (size_answer (power_for a 14)) ≡ false
    → Printed (printed_over (map_in 0) (store_in 0 0) amounts text) out out' n → Printed (door_text a b c text) out out' n
printed_untaken a b c text out out' n e made =
    subst (λ (t : List ℕ). Printed t out out' n) (without text ∙ untaken_text b c text (power_for a 14) e) made
