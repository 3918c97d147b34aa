use Rattle.std.proofs.Common.{rules, tests, ◌∙◌, sym, arith}
use Rattle.std.proofs.lemmas.Iterator.{YieldsList-from_slice}
use Rattle.std.proofs.lemmas.Iterator.Consumers.{fold_from_yields_List}
use Rattle.std.proofs.lemmas.Iterator.Search.{all_from_yields_List}
use Rattle.std.specs.Char.{is_ascii_digit}
use Rattle.commands.specs.Numbers.{number}
use Rattle.commands.proofs.Digits.{taken_in, read, no_number}
use Rattle.commands.proofs.numbers.read_number.Goals as goal
use Rattle.commands.proofs.numbers.read_number.Goals.{then-is_empty-via-then-is_empty, then-is_empty-via-else-is_empty+then-text-gt10, then-is_empty-via-else-is_empty+else-text-gt10+then-not-all}

pub returns-then-is_empty : goal.returns-then-is_empty
unfolding number
returns-then-is_empty c = elim c.then-is_empty.branch [
  | then-is_empty-via-then-is_empty w ↦ search rules
  | then-is_empty-via-else-is_empty+then-text-gt10 w ↦ search rules
  | then-is_empty-via-else-is_empty+else-text-gt10+then-not-all w ↦
      let all = all_from_yields_List is_ascii_digit _ _ w.all.result w.all.ensures.ran (YieldsList-from_slice c.args.text.now cc) (λ x b q k. search (rules, tests)) in
      no_number c.args.text.now (sym all ∙ w.if-not-all.true)
]

pub returns : goal.returns
returns c =
    let all = all_from_yields_List is_ascii_digit _ _ c.all.result c.all.ensures.ran (YieldsList-from_slice c.args.text.now cc) (λ x b q k. search (rules, tests)) in
    let value = fold_from_yields_List _ taken_in 0 _ c.fold-value.ensures.ran (YieldsList-from_slice _ c.iter-2.ensures.rest) (λ a x b q k. search rules) in
    c.ok.ensures.value ∙ read c.args.text.now _ c.try_from.result (search rules) (omega arith) (sym all ∙ c.if-not-all.false) value c.try_from.ensures
