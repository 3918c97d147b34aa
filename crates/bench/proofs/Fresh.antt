-- the program's dictionary, just opened
use Rattle.std.proofs.Common.{◌≡◌, ℕ, ◌^◌, ◌<◌, List, [], ◌++◌, length, take, drop, Option, refl, ap, ◌∙◌, arith}
use Rattle.std.proofs.lemmas.List.{take_at}
use Rattle.parts.specs.Maps.{Map}
use Rattle.parts.specs.Stores.{Store}
use Rattle.parts.specs.Shelves.{blanks}
use Rattle.parts.specs.Sizes.{power_from, power_for, rooms_after, map_for}
use Rattle.compact_map.specs.Meaning.{capacity}
use Rattle.label_stores.specs.Sizes.{new_plain}
use Rattle.shelves.specs.Lent.{size_of}
use Rattle.shelves.specs.Records.{most_places}
use Rattle.session.specs.Output.{Printed}
use Rattle.session.specs.Served.{printed_over}
use Rattle.session.proofs.Laid.{over_all}
use Rattle.bench.specs.Bench.{bench_text}

-- what is printed over parts of the program's sizes
pub at_sizes : (text : List ℕ) → printed_over (map_for capacity (power_for 14336 14)) (new_plain 16384 1024) (blanks 1024) text ≡ bench_text text
unfolding power_from rooms_after
at_sizes text = refl

-- the same for a map, a store and a shelf that were made in memory of these sizes
pub bench_text_lem : (m : Map) (l : Store) (s : List (Option ℕ)) (a b c d : ℕ) (text : List ℕ) → a ≡ 14336 → b ≡ 16384 → c ≡ 1024 → d ≡ 1024
    → m ≡ map_for capacity (power_for a 14) → l ≡ new_plain b c → s ≡ blanks (size_of most_places d) → printed_over m l s text ≡ bench_text text
bench_text_lem m l s a b c d text e f g h p q r =
    let mis : m ≡ map_for capacity (power_for 14336 14) = p ∙ ap (λ (n : ℕ). map_for capacity (power_for n 14)) e in
    let lis : l ≡ new_plain 16384 1024 = q ∙ ap (λ (n : ℕ). new_plain n c) f ∙ ap (new_plain 16384) g in
    let sis : s ≡ blanks 1024 = r ∙ ap (λ (n : ℕ). blanks (size_of most_places n)) h in
    ap (λ (x : Map). printed_over x l s text) mis
    ∙ ap (λ (x : Store). printed_over (map_for capacity (power_for 14336 14)) x s text) lis
    ∙ ap (λ (x : List (Option ℕ)). printed_over (map_for capacity (power_for 14336 14)) (new_plain 16384 1024) x text) sis
    ∙ at_sizes text

-- a text in as many bytes as it has
pub whole : (text held out none items : List ℕ) (count again len : ℕ) → Printed text [] none count → Printed text held out again → len ≡ count → length held ≡ len → length text < 2 ^ 64
    → take len (out ++ drop (length out) items) ≡ text
whole text held out none items count again len first second same long short =
    let n : length held ≡ length text = omega (arith, first.total) in
    let all : out ≡ text = second.bytes ∙ over_all text held n in
    take_at out (drop (length out) items) len (ap length all ∙ omega (arith, first.total)) ∙ all
