-- finds count their moves
use Rattle.std.proofs.Common.{ℕ, List, [], ◌∷◌, Some, None, Option, refl}
use Rattle.rules.specs.Calls.{Book}
use Rattle.rules.specs.Laws.{Sound, FindsCountMoves}
use Rattle.rules.proofs.Agreement.{descent_matches_book}
use Rattle.rules.proofs.Finds.{finds_count_moves}
use Rattle.parts.specs.Maps.{Map}
use Rattle.parts.specs.Stores.{Store}
use Rattle.commands.specs.Commands.{Order, read_line}
use Rattle.dictionary.specs.Shows.{fresh_book}
use Rattle.session.specs.Texts.{request_for, order_next, lines_next}
use Rattle.session.specs.Served.{FindsAreTrue}

law : FindsCountMoves ℕ
law = finds_count_moves descent_matches_book

order_sound : (b : Book ℕ) (o : Option Order) → Sound b → Sound (order_next b o)
order_sound b None sound = sound
order_sound b (Some order) sound = law.kept b (request_for order ∷ []) sound

lines_sound : (list : List (List ℕ)) (b : Book ℕ) → Sound b → Sound (lines_next b list)
lines_sound [] b sound = sound
lines_sound (line ∷ rest) b sound = lines_sound rest (order_next b (read_line line)) (order_sound b (read_line line) sound)

pub fresh_sound : (m : Map) (l : Store) → Sound {V = ℕ} (fresh_book m l)
fresh_sound m l = law.fresh (fresh_book m l) refl

pub finds_true : (b : Book ℕ) (list : List (List ℕ)) → Sound b → FindsAreTrue b list
finds_true b list sound before after line tag found e f g = law.true_finds (lines_next b before) (lines_sound before b sound) tag found g
