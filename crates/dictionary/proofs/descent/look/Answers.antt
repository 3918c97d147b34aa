use Rattle.std.proofs.Common.{◌≡◌, ℕ, ◌+◌, ◌-◌, ◌<◌, ◌≤◌, length, get_or, take, drop, sym, ap, ◌∙◌, arith, length-drop, rules}
use Rattle.std.proofs.lemmas.Slice.{between_to_end}
use Rattle.rules.specs.declared.step.Step.TheVariants.{By32}
use Rattle.rules.specs.Steps.{symbol_count, branch_symbol}
use Rattle.dictionary.proofs.Answered.{reached_in, reached_stop}
use Rattle.dictionary.proofs.Standing.{left_all, left_less, left_byte, stands_first, node_labelled, node_in, ends_there, ends_short, ends_none, goes_on}
use Rattle.dictionary.proofs.descent.look.Goals as goal

pub loop-byte-init : goal.loop-byte-init
loop-byte-init g c = record { left = left_all _; counted = omega arith; short = c.requires; stands = λ a. stands_first _ _ _ a }

pub returns-in_default-clause-looked : goal.returns-in_default-clause-looked
returns-in_default-clause-looked g c = λ a.
    let v = c.loop-byte.invariant in
    let o = v.stands a in
    let over : length c.loop-byte.rest.now ≤ c.meet_of-i.result = search rules in
    ends_there _ _ _ a _ _ _ v.left o _ (c.meet_of-i.ensures (node_labelled _ _ _ a _ _ _ v.left o)) over

pub loop-byte-preserved : goal.loop-byte-preserved
loop-byte-preserved g c =
    let v = c.loop-byte.invariant in
    let rest = c.loop-byte.rest.now in
    let i = c.meet_of-i.result in
    let inside : i < length rest = search rules in
    let byte_is : c.in-Some.field-0.now ≡ get_or rest i 0 = search rules in
    let low = left_byte _ _ v.left (λ k. (c.type_inv.s k).fits) i _ byte_is in
    let small : c.branch_symbol-symbol.result < symbol_count By32 = search (rules, low) in
    let symbol = c.branch_symbol-symbol.ensures ∙ ap (λ (b : ℕ). branch_symbol By32 b i) byte_is in
    let less : take (length rest - (i + 1)) (drop (i + 1) rest) ≡ drop (i + 1) rest = between_to_end rest (i + 1) (length rest) (omega arith) in
    let all : c.steps_down-below.result.missing ≡ 0 = omega arith in
    record {
      left = left_less _ _ v.left i inside _ less;
      counted = omega (arith, ap length less, length-drop (i + 1) rest);
      short = v.short;
      stands = λ a.
          let o = v.stands a in
          let d = c.steps_down-below.ensures.reached (node_in _ _ _ a _ _ _ v.left o) in
          let j = reached_in _ _ _ _ _ (node_in _ _ _ a _ _ _ v.left o) d in
          goes_on _ _ _ a _ _ _ v.left o _ (c.meet_of-i.ensures (node_labelled _ _ _ a _ _ _ v.left o)) inside _ symbol _ c.steps_to.ensures _ _ d _ less _ (omega arith) all _ (c.in-Some-child_of.ensures j small);
    }

pub returns-then-below-gt0 : goal.returns-then-below-gt0
returns-then-below-gt0 g c =
    let v = c.loop-byte.invariant in
    let rest = c.loop-byte.rest.now in
    let i = c.meet_of-i.result in
    let inside : i < length rest = search rules in
    let byte_is : c.in-Some.field-0.now ≡ get_or rest i 0 = search rules in
    let low = left_byte _ _ v.left (λ k. (c.type_inv.s k).fits) i _ byte_is in
    let small : c.branch_symbol-symbol.result < symbol_count By32 = search (rules, low) in
    let symbol = c.branch_symbol-symbol.ensures ∙ ap (λ (b : ℕ). branch_symbol By32 b i) byte_is in
    let less : take (length rest - (i + 1)) (drop (i + 1) rest) ≡ drop (i + 1) rest = between_to_end rest (i + 1) (length rest) (omega arith) in
    record {
      facts = c.count.ensures.facts;
      bounded = (omega arith, (omega arith, small, omega (arith, ap length less, length-drop (i + 1) rest)));
      looked = λ a.
          let o = v.stands a in
          let met = c.meet_of-i.ensures (node_labelled _ _ _ a _ _ _ v.left o) in
          let d = c.steps_down-below.ensures.reached (node_in _ _ _ a _ _ _ v.left o) in
          ends_short _ _ _ a _ _ _ v.left o _ met inside _ symbol _ c.steps_to.ensures _ _ d _ less _ (omega arith) c.if-below-gt0.true;
      opened = λ a.
          let o = v.stands a in
          let d = c.steps_down-below.ensures.reached (node_in _ _ _ a _ _ _ v.left o) in
          let j = reached_in _ _ _ _ _ (node_in _ _ _ a _ _ _ v.left o) d in
          record { inside = j; step = λ h. reached_stop _ _ _ _ _ d h; last = λ z. absurd (omega arith) };
    }

pub returns-in-None : goal.returns-in-None
returns-in-None g c =
    let v = c.loop-byte.invariant in
    let rest = c.loop-byte.rest.now in
    let i = c.meet_of-i.result in
    let inside : i < length rest = search rules in
    let byte_is : c.in-Some.field-0.now ≡ get_or rest i 0 = search rules in
    let low = left_byte _ _ v.left (λ k. (c.type_inv.s k).fits) i _ byte_is in
    let small : c.branch_symbol-symbol.result < symbol_count By32 = search (rules, low) in
    let symbol = c.branch_symbol-symbol.ensures ∙ ap (λ (b : ℕ). branch_symbol By32 b i) byte_is in
    let less : take (length rest - (i + 1)) (drop (i + 1) rest) ≡ drop (i + 1) rest = between_to_end rest (i + 1) (length rest) (omega arith) in
    record {
      facts = c.count.ensures.facts;
      bounded = (omega arith, (omega arith, small, omega (arith, ap length less, length-drop (i + 1) rest)));
      looked = λ a.
          let o = v.stands a in
          let met = c.meet_of-i.ensures (node_labelled _ _ _ a _ _ _ v.left o) in
          let d = c.steps_down-below.ensures.reached (node_in _ _ _ a _ _ _ v.left o) in
          let j = reached_in _ _ _ _ _ (node_in _ _ _ a _ _ _ v.left o) d in
          ends_none _ _ _ a _ _ _ v.left o _ met inside _ symbol _ c.steps_to.ensures _ _ d _ less _ (omega arith) (omega arith) (c.in-None.ensures j small);
      opened = λ a.
          let o = v.stands a in
          let d = c.steps_down-below.ensures.reached (node_in _ _ _ a _ _ _ v.left o) in
          let j = reached_in _ _ _ _ _ (node_in _ _ _ a _ _ _ v.left o) d in
          record { inside = j; step = λ h. absurd (omega arith); last = λ z. sym (c.in-None.ensures j small) };
    }
