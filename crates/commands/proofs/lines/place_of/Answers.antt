use Rattle.std.proofs.Common.{◌≡◌, rules, tests, sym, ◌∙◌}
use Rattle.std.proofs.lemmas.Iterator.{IsFirst-from_position, YieldsList-from_slice, index_from_first}
use Rattle.commands.specs.Lines.{place_of}
use Rattle.commands.proofs.Places.{place_nil, place_here, place_on}
use Rattle.commands.proofs.lines.place_of.Goals as goal

pub returns-clause-place : goal.returns-clause-place
returns-clause-place c =
    let byte = c.args.byte in
    let first = IsFirst-from_position _ _ _ (λ x. x ≡ byte) (λ x. x ≡ byte → ⊥) c.position.ensures.ran (YieldsList-from_slice c.args.text.now cc) (λ x q k. search (rules, tests)) (λ x q k. search (rules, tests)) in
    c.unwrap_or.ensures ∙ sym (index_from_first (place_of byte) (λ x. x ≡ byte) (λ x. x ≡ byte → ⊥) (place_nil byte) (place_here byte) (place_on byte) c.args.text.now c.position.result first)
