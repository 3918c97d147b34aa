-- the worked cases, by computation
use Rattle.std.proofs.Common.{refl}
use Rattle.tags.specs.Tags.{spelled}
use Rattle.rules.specs.Words.{shared, same_word}
use Rattle.rules.specs.Tree.{child_from, down, look_from, grow, enter_tag, enter_tags, tree_of}
use Rattle.rules.specs.Book.{most, earliest, steps_of, nodes, label_bytes, later_row, next_row, absent_moves, row_of, arrive, arrive_all, rows_of}
use Rattle.rules.specs.Calls.{takes, enter_old, enter_new, enter, on_live_row, find_in, find}
use Rattle.rules.specs.Cases.{WorkedCases}

pub worked_cases : WorkedCases
unfolding spelled shared same_word child_from down look_from grow enter_tag enter_tags tree_of most earliest steps_of nodes label_bytes later_row next_row absent_moves row_of arrive arrive_all rows_of takes enter_old enter_new enter on_live_row find_in find
worked_cases = record {
  tech_tickets = refl;
  tech_offsets = refl;
  tech_nodes = refl;
  tech_bytes = refl;
  technical = refl;
  struck_and_again = refl;
  nodes_again = refl;
  offset_31 = refl;
  needs_31 = refl;
  offset_32 = refl;
  needs_32 = refl;
  tickets_32 = refl;
  tree_32 = refl;
  needs_39 = refl;
  bytes_39 = refl;
  tree_39 = refl;
}
