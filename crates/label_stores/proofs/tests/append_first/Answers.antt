use Rattle.std.proofs.Common.{◌≡◌, ℕ, List, length, drop, Result, refl, sym, ap, ◌∙◌, rules}
use Rattle.rules.specs.Tree.{bytes_in}
use Rattle.parts.specs.declared.store.StoreFault.{StoreFault}
use Rattle.label_stores.specs.Meaning.{meaning_by, after_append}
use Rattle.label_stores.proofs.Reading.{new_none}
use Rattle.label_stores.proofs.Spans.{bytes_none}
use Rattle.label_stores.proofs.tests.append_first.Goals as goal

pub returns : goal.returns
returns g c =
    let p = c.new-store.result in
    let m = g.L.Layout in
    let bytes : List ℕ = c.args.bytes.now in
    let starts : List ℕ = c.args.starts.now in
    let label : List ℕ = drop c.args.from c.args.s.now in
    let r : Result (Unit {0}) StoreFault = c.append.result in
    let none = new_none (meaning_by m.labels p) (m.takes (length bytes) (length starts)) (m.room (length bytes) (length starts)) (m.places (length bytes) (length starts)) c.new-store.ensures.meaning in
    let count : length (meaning_by m.labels p).labels ≡ 0 = ap length none in
    let total : bytes_in (meaning_by m.labels p).labels ≡ 0 = ap bytes_in none ∙ bytes_none in
    let b : c.append.new.self.bytes.now ≡ after_append r (m.bytes_with bytes 0 0 label) bytes
    = c.append.ensures.bytes ∙ rw (sym c.append.ensures.answer, count, total, c.new-store.ensures.bytes) refl in
    let x : c.append.new.self.starts.now ≡ after_append r (m.starts_with starts 0 0) starts
    = c.append.ensures.starts ∙ rw (sym c.append.ensures.answer, count, total, c.new-store.ensures.starts) refl in
    search rules
