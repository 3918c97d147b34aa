-- the worked cases, with steps of 32 and numbers for values
use Rattle.std.specs.Prelude.{◌≡◌, ℕ, List, [], ◌∷◌, ◌++◌, map, replicate, Some, Ok, codes}
use Rattle.rules.specs.declared.step.Step.TheVariants.{By32}
use Rattle.rules.specs.declared.answers.Answer.TheVariants.{Entered, Struck, Looked}
use Rattle.rules.specs.Tree.{Tree, tree_of}
use Rattle.rules.specs.Book.{Row, nodes, row_bytes, label_bytes, Arrival, rows_of}
use Rattle.rules.specs.Calls.{Book, holds, absent, find_in}
use Rattle.rules.specs.Runs.{Answered, Request, Enter, Find, Strike, Reply, replies, book_after}

-- tags that arrive in this order, each with the value 1
abbrev pub arriving : List (List ℕ) → List (Arrival ℕ)
arriving tags = map (λ (tag : List ℕ). record { tag = tag; value = Some 1 }) tags

abbrev pub book : List (List ℕ) → Book ℕ
book tags = record { step = By32; rows = rows_of By32 (arriving tags); room = 14; coming = 28 ∷ []; byte_room = 100 }

abbrev pub rows : List (List ℕ) → List (Row ℕ)
rows tags = rows_of By32 (arriving tags)

abbrev pub tree : List (List ℕ) → Tree
tree tags = tree_of By32 tags

abbrev pub answers : List (List ℕ) → List (Request ℕ) → List (Answered ℕ)
answers tags qs = map (λ (r : Reply ℕ). r.answer) (replies (book tags) qs)

abbrev pub techs : List (List ℕ)
techs = codes "technology" ∷ codes "technics" ∷ codes "technique" ∷ codes "technically" ∷ []

-- technics is struck, looked for beside technique, and entered again
abbrev pub again : List (Request ℕ)
again = Strike (codes "technics") ∷ Find (codes "technics") ∷ Find (codes "technique") ∷ Enter (codes "technics") 2 ∷ []

-- n bytes a, and then the end
abbrev pub fill : ℕ → List ℕ → List ℕ
fill n end = replicate n 97 ++ end

abbrev pub tickets : List (Row ℕ) → List ℕ
tickets rs = map (λ (r : Row ℕ). r.ticket) rs

abbrev pub offsets : List (Row ℕ) → List ℕ
offsets rs = map (λ (r : Row ℕ). r.offset) rs

abbrev pub needed : List (Row ℕ) → List ℕ
needed rs = map (λ (r : Row ℕ). r.needs) rs

pub record WorkedCases : Type 0 where
  pub tech_tickets : tickets (rows techs) ≡ 0 ∷ 1 ∷ 2 ∷ 3 ∷ []
  pub tech_offsets : offsets (rows techs) ≡ 0 ∷ 5 ∷ 0 ∷ 1 ∷ []
  pub tech_nodes : nodes (rows techs) ≡ 4
  pub tech_bytes : label_bytes (rows techs) ≡ 21
  pub technical : find_in By32 (rows techs) (codes "technical") ≡ absent 2
  pub struck_and_again : answers techs again ≡ Ok (Struck 1) ∷ Ok (Looked (absent 1)) ∷ Ok (Looked (holds 2 1 2)) ∷ Ok (Entered 1) ∷ []
  pub nodes_again : nodes (book_after (book techs) again).rows ≡ 4
  -- forty a, then 31 a and b
  pub offset_31 : offsets (rows (fill 40 [] ∷ fill 31 (98 ∷ []) ∷ [])) ≡ 0 ∷ 31 ∷ []
  pub needs_31 : needed (rows (fill 40 [] ∷ fill 31 (98 ∷ []) ∷ [])) ≡ 0 ∷ 1 ∷ []
  -- forty a, then 32 a and b, then 35 a and c
  pub offset_32 : offsets (rows (fill 40 [] ∷ fill 32 (98 ∷ []) ∷ fill 35 (99 ∷ []) ∷ [])) ≡ 0 ∷ 32 ∷ 35 ∷ []
  pub needs_32 : needed (rows (fill 40 [] ∷ fill 32 (98 ∷ []) ∷ fill 35 (99 ∷ []) ∷ [])) ≡ 0 ∷ 2 ∷ 1 ∷ []
  pub tickets_32 : tickets (rows (fill 40 [] ∷ fill 32 (98 ∷ []) ∷ fill 35 (99 ∷ []) ∷ [])) ≡ 0 ∷ 2 ∷ 3 ∷ []
  pub tree_32 : tree (fill 40 [] ∷ fill 32 (98 ∷ []) ∷ fill 35 (99 ∷ []) ∷ []) ≡ record {
    edges = record { parent = 0; symbol = 8160 } ∷ record { parent = 1; symbol = 3136 } ∷ record { parent = 1; symbol = 3171 } ∷ [];
    labels = fill 40 (0 ∷ []) ∷ [] ∷ (0 ∷ []) ∷ (0 ∷ []) ∷ [];
  }
  -- forty a, then 39 a
  pub needs_39 : needed (rows (fill 40 [] ∷ fill 39 [] ∷ [])) ≡ 0 ∷ 2 ∷ []
  pub bytes_39 : map row_bytes (rows (fill 40 [] ∷ fill 39 [] ∷ [])) ≡ 41 ∷ 0 ∷ []
  pub tree_39 : tree (fill 40 [] ∷ fill 39 [] ∷ []) ≡ record {
    edges = record { parent = 0; symbol = 8160 } ∷ record { parent = 1; symbol = 7 } ∷ [];
    labels = fill 40 (0 ∷ []) ∷ [] ∷ [] ∷ [];
  }
