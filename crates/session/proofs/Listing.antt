-- the outcome of no lines, and of one more
use Rattle.std.proofs.Common.{◌≡◌, ℕ, List, [], ◌∷◌, sym, refl, ◌∙◌, subst, arith}
use Rattle.std.proofs.lemmas.List.{take-append-drop}
use Rattle.rules.specs.Calls.{Book}
use Rattle.dictionary.specs.Shows.{Extent}
use Rattle.session.specs.declared.output.Output.{Output}
use Rattle.session.specs.Output.{Wrote}
use Rattle.session.specs.Outcomes.{HasOutcome, line_outcome, lines_outcome}
use Rattle.session.proofs.Laid.{joined}

nothing : (o : Output) → Wrote o [] o
nothing o = record { same = refl; bytes = sym (take-append-drop o.at o.out.now); count = let l = o.counted in omega arith }

module _ {D : Type 0} {Shown : D → Book ℕ → Type 0} {extent : D → Extent} {Unfit : D → Type 0} where
  pub outcome_none : (left : List (List ℕ)) (d : D) (o : Output) → left ≡ [] → HasOutcome Shown extent Unfit (lines_outcome left) d o d o
  outcome_none left d o e = subst (λ (list : List (List ℕ)). HasOutcome Shown extent Unfit (lines_outcome list) d o d o) (sym e) (record {
    wrote = λ b sh. nothing o;
    next = λ b sh. sh;
    same = refl;
    stays = refl;
    unfit = λ u. (refl, nothing o);
  })

  pub outcome_more : {d d' d'' : D} {o o' o'' : Output} (left rest : List (List ℕ)) (line : List ℕ) → left ≡ line ∷ rest
      → HasOutcome Shown extent Unfit (line_outcome line) d o d' o' → HasOutcome Shown extent Unfit (lines_outcome rest) d' o' d'' o'' → HasOutcome Shown extent Unfit (lines_outcome left) d o d'' o''
  outcome_more {d} {d'} {d''} {o} {o'} {o''} left rest line e p q = subst (λ (list : List (List ℕ)). HasOutcome Shown extent Unfit (lines_outcome list) d o d'' o'') (sym e) (record {
    wrote = λ b sh. joined (p.wrote b sh) (q.wrote _ (p.next b sh));
    next = λ b sh. q.next _ (p.next b sh);
    same = q.same ∙ p.same;
    stays = q.stays ∙ p.stays;
    unfit = λ u. let k = p.unfit u in let m = q.unfit (subst Unfit (sym k.0) u) in (m.0 ∙ k.0, joined k.1 m.1);
  })
