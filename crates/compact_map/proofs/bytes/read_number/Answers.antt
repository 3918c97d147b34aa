use Rattle.std.proofs.Common.{ℕ, ◌*◌, ◌^◌, ◌<◌, rules, sym, ◌∙◌, subst, arith}
use Rattle.std.proofs.lemmas.Iterator.{YieldsList-from_slice}
use Rattle.std.proofs.lemmas.Iterator.Consumers.{fold_from_yields_List}
use Rattle.compact_map.proofs.Numbers.{shifted, fold_number, number_lt}
use Rattle.compact_map.proofs.bytes.read_number.Goals as goal

pub returns : goal.returns
returns g c =
    let is = fold_from_yields_List _ shifted 0 _ c.fold.ensures.ran (YieldsList-from_slice _ c.iter.ensures.rest) (λ a x b q k. search rules)
    ∙ fold_number c.args.bytes.now c.args.at g.row.N c.requires.short c.requires.inside (λ k. omega (arith, c.type_inv.bytes k)) in
    record {
      is = is;
      small = subst (λ (x : ℕ). x < 2 ^ (8 * g.row.N)) (sym is) (number_lt c.args.bytes.now c.args.at g.row.N (λ k. omega (arith, c.type_inv.bytes k)));
    }
