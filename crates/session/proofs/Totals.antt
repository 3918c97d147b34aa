-- the lines and the totals behind them
use Rattle.std.proofs.Common.{◌≡◌, ℕ, Bool, true, false, cond, List, ◌+◌, ◌++◌, length, take, drop, Ok, Err, Option, Result, refl, ap, ◌∙◌, zero-add}
use Rattle.tags.specs.declared.refusal.Refusal.{Refusal}
use Rattle.tags.specs.declared.refusal.Refusal.TheVariants.{UnfitParts}
use Rattle.rules.specs.Book.{nodes, label_bytes}
use Rattle.rules.specs.Calls.{Book}
use Rattle.rules.specs.Tree.{bytes_in}
use Rattle.parts.specs.Maps.{Map, count_of}
use Rattle.parts.specs.Stores.{Store}
use Rattle.commands.specs.Lines.{lines}
use Rattle.dictionary.specs.Shows.{Shows, fits, fresh_book}
use Rattle.dictionary.proofs.Alike.{same_count, same_total}
use Rattle.session.specs.declared.output.Output.{Output}
use Rattle.session.specs.Output.{over, counted, Wrote, Printed}
use Rattle.session.specs.Texts.{totals_text, printed, printed_unfit}
use Rattle.session.specs.Served.{ServedList, printed_over}
use Rattle.session.proofs.Laid.{joined}
use Rattle.session.proofs.Saying.{wrote_as}

-- all that was written from the first byte on; the totals are those that are known
pub printed_with : {text out out' : List ℕ} {o o' o'' : Output} {n k n' k' count : ℕ} → Wrote o text o' → Wrote o' (totals_text n k) o''
    → o.out.now ≡ out → o.at ≡ 0 → out' ≡ o''.out.now → count ≡ o''.at → n ≡ n' → k ≡ k' → Printed (text ++ totals_text n' k') out out' count
printed_with {text} {out} {out'} {o} {o'} {o''} {n} {k} {n'} {k'} {count} first last lent start back counts e f =
    let w = joined first (wrote_as (ap (λ (i : ℕ). totals_text i k) e ∙ ap (λ (j : ℕ). totals_text n' j) f) last) in
    record {
      bytes = back ∙ w.bytes ∙ ap (λ (at : ℕ). take at o.out.now ++ over (text ++ totals_text n' k') (drop at o.out.now)) start ∙ ap (over (text ++ totals_text n' k')) lent;
      total = counts ∙ w.count ∙ ap (λ (at : ℕ). counted (at + length (text ++ totals_text n' k'))) start ∙ ap counted (zero-add (length (text ++ totals_text n' k')));
    }

-- parts that show a book have the book's totals
pub printed_of : {text out out' : List ℕ} {o o' o'' : Output} {n k count : ℕ} (m : Map) (l : Store) (s : List (Option ℕ)) (b : Book ℕ) → Shows m l s b
    → Wrote o text o' → Wrote o' (totals_text n k) o''
    → o.out.now ≡ out → o.at ≡ 0 → out' ≡ o''.out.now → count ≡ o''.at → n ≡ count_of m → k ≡ bytes_in l.labels → Printed (text ++ totals_text (nodes b.rows) (label_bytes b.rows)) out out' count
printed_of m l s b sh first last lent start back counts e f = printed_with first last lent start back counts (e ∙ same_count m l s b sh) (f ∙ same_total m l s b sh)

-- parts either fit or do not
pub printed_either : {m : Map} {l : Store} {s : List (Option ℕ)} {text out out' : List ℕ} {count : ℕ} {m' : Map} {l' : Store} {s' : List (Option ℕ)} {AsGiven : Type 0}
    → ServedList m l s text out out' count m' l' s' AsGiven → Printed (printed_over m l s text) out out' count
printed_either {m} {l} {s} {text} {out} {out'} {count} r = go (fits m l s) (λ e. (r.served e).0) (λ e. (r.refused e).0)
  where
    go : (b : Bool) → (◌≡◌ {A = Result (Unit {0}) Refusal} (cond b (Ok tt) (Err UnfitParts)) (Ok tt) → Printed (printed (fresh_book m l) (lines text)) out out' count)
        → (◌≡◌ {A = Result (Unit {0}) Refusal} (cond b (Ok tt) (Err UnfitParts)) (Err UnfitParts) → Printed (printed_unfit m l (lines text)) out out' count)
        → Printed (cond b (printed (fresh_book m l) (lines text)) (printed_unfit m l (lines text))) out out' count
    go true fit unfit = fit refl
    go false fit unfit = unfit refl
