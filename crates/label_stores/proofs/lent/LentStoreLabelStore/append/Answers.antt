use Rattle.std.proofs.Common.{◌≡◌, ℕ, List, length, drop, Ok, Result, ◌∙◌, rules}
use Rattle.std.proofs.lemmas.List.{take_rest}
use Rattle.rules.specs.Tree.{bytes_in}
use Rattle.parts.specs.Stores.{append_answer}
use Rattle.parts.specs.declared.store.StoreFault.{StoreFault}
use Rattle.label_stores.specs.Answers.{append_check}
use Rattle.label_stores.specs.Meaning.{meaning_by, after_append}
use Rattle.label_stores.specs.declared.lent.LentStore.{LentStore}
use Rattle.label_stores.proofs.Reading.{append_checked, next_done, next_none, memory_done, memory_none}
use Rattle.label_stores.proofs.lent.LentStoreLabelStore.append.Given.{Over}
use Rattle.label_stores.proofs.lent.LentStoreLabelStore.append.Goals as goal

module _ (g : Over) (p : LentStore g.row.L.Denot g.L.Layout) (s : List ℕ) (f : ℕ) where
  abbrev checked : Result (Unit {0}) StoreFault
  checked = append_check p.fill.count p.fill.places p.fill.total p.fill.room (length s) f

  answer_is : checked ≡ append_answer (meaning_by g.L.Layout.labels p) s f
  answer_is =
      append_checked (meaning_by g.L.Layout.labels p) s f p.fill.count p.fill.total
      (g.met.L.Layout.counted p.bytes.now p.starts.now p.fill p.sound) (g.met.L.Layout.summed p.bytes.now p.starts.now p.fill p.sound)

  memory_is : (changed : (count total : ℕ) → List ℕ) (before : List ℕ) → Ok tt ≡ checked
      → changed p.fill.count p.fill.total ≡ after_append (append_answer (meaning_by g.L.Layout.labels p) s f) (changed (length (meaning_by g.L.Layout.labels p).labels) (bytes_in (meaning_by g.L.Layout.labels p).labels)) before
  memory_is changed before e =
      memory_done (meaning_by g.L.Layout.labels p) s f changed before p.fill.count p.fill.total
      (g.met.L.Layout.counted p.bytes.now p.starts.now p.fill p.sound) (g.met.L.Layout.summed p.bytes.now p.starts.now p.fill p.sound) (e ∙ answer_is)

pub returns-in_err-check_append-clause-answer : goal.returns-in_err-check_append-clause-answer
returns-in_err-check_append-clause-answer g c = search (rules, answer_is)

pub returns-in_err-check_append-clause-next : goal.returns-in_err-check_append-clause-next
returns-in_err-check_append-clause-next g c = let a = answer_is g c.args.self.now c.args.s.now c.args.from in search (rules, next_none)

pub returns-in_err-check_append-clause-bytes : goal.returns-in_err-check_append-clause-bytes
returns-in_err-check_append-clause-bytes g c = search (rules, memory_none, answer_is)

pub returns-in_err-check_append-clause-starts : goal.returns-in_err-check_append-clause-starts
returns-in_err-check_append-clause-starts g c = search (rules, memory_none, answer_is)

pub returns-clause-answer : goal.returns-clause-answer
returns-clause-answer g c = search (rules, answer_is)

pub returns-clause-next : goal.returns-clause-next
returns-clause-next g c =
    let a = answer_is g c.args.self.now c.args.s.now c.args.from in
    let labels = rw (take_rest c.args.s.now c.args.from) at c.lay-self.ensures.labels in
    next_done (meaning_by g.L.Layout.labels c.args.self.now) c.args.s.now c.args.from _ labels c.lay-self.ensures.filled.3 c.lay-self.ensures.filled.2 (c.in_ok-check_append.ensures ∙ a)

pub returns-clause-bytes : goal.returns-clause-bytes
returns-clause-bytes g c =
    let p = c.args.self.now in
    rw (take_rest c.args.s.now c.args.from) at c.lay-self.ensures.bytes
    ∙ memory_is g p c.args.s.now c.args.from (λ (x y : ℕ). g.L.Layout.bytes_with p.bytes.now x y (drop c.args.from c.args.s.now)) p.bytes.now c.in_ok-check_append.ensures

pub returns-clause-starts : goal.returns-clause-starts
returns-clause-starts g c =
    let p = c.args.self.now in
    c.lay-self.ensures.starts ∙ memory_is g p c.args.s.now c.args.from (g.L.Layout.starts_with p.starts.now) p.starts.now c.in_ok-check_append.ensures
