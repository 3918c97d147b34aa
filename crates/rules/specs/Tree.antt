-- the tree of a list of tags: the incremental path decomposition of their trie
use Rattle.std.specs.Prelude.{ℕ, zero, suc, ◌+◌, ◌-◌, ◌/◌, ◌%◌, true, false, ◌&&◌, List, [], ◌∷◌, ◌++◌, length, take, drop, Some, None, Option, ◌==◌, slice_index, slice_index_or}
use Rattle.tags.specs.Tags.{spelled}
use Rattle.rules.specs.declared.step.Step.{Step}
use Rattle.rules.specs.Steps.{size, step_symbol, branch_symbol}
use Rattle.rules.specs.Words.{shared, same_word}

-- by which parent and symbol a node hangs
pub record Edge : Type 0 where
  pub parent : ℕ
  pub symbol : ℕ

-- nodes are numbered from 0 in order of making. Node 0 hangs nowhere, so the first edge is node 1's. Label v is node v's
pub record Tree : Type 0 where
  pub edges : List Edge
  pub labels : List (List ℕ)

-- before the first tag there is node 0, with no label
abbrev pub bare : Tree
bare = record { edges = []; labels = [] }

abbrev pub node_count : List Edge → ℕ
node_count edges = suc (length edges)

-- the edge of node v, which is not 0
abbrev pub edge_of : List Edge → ℕ → Edge
edge_of edges v = slice_index_or edges (v - 1) (record { parent = 0; symbol = 0 })

abbrev pub label_of : Tree → ℕ → List ℕ
label_of t v = slice_index_or t.labels v []

-- the child of u by the symbol c, among the nodes numbered from v on
unfoldable pub child_from : List Edge → ℕ → ℕ → ℕ → Option ℕ
child_from [] v u c = None
child_from (e ∷ es) v u c = elim (e.parent == u && e.symbol == c) [ true ↦ Some v | false ↦ child_from es (suc v) u c ]

abbrev pub child : List Edge → ℕ → ℕ → Option ℕ
child edges u c = child_from edges 1 u c

-- where going down step children ends: the node reached, and how many of the steps are missing below it
pub record Down : Type 0 where
  pub node : ℕ
  pub missing : ℕ

-- k step children down from u
unfoldable pub down : Step → List Edge → ℕ → ℕ → Down
down step edges zero u = record { node = u; missing = 0 }
down step edges (suc k) u = elim (child edges u (step_symbol step)) [ None ↦ record { node = u; missing = suc k } | Some v ↦ down step edges k v ]

-- how looking ends, with the moves made, each a passage to a child: at the tag's node; or at a node below which
-- so many steps and then the child by the symbol are missing, whose label would be the rest (before the first tag, at node 0)
pub data Look : Type 0 where
  there : (node moves : ℕ) → Look
  lacks : (node missing symbol : ℕ) (rest : List ℕ) (moves : ℕ) → Look

-- looking from node u for the word s, which has a byte, after m moves. Each turn drops a byte of s at least, so the fuel,
-- which is above the length of s, is never used up
unfoldable pub look_from : Step → Tree → ℕ → ℕ → List ℕ → ℕ → Look
look_from step t zero u s m = lacks u 0 0 s m
look_from step t (suc fuel) u s m =
    let i : ℕ = shared s (label_of t u) in
    let d : Down = down step t.edges (i / size step) u in
    let c : ℕ = branch_symbol step (slice_index s i) i in
    let rest : List ℕ = drop (suc i) s in
    elim (same_word s (label_of t u)) [
      | true ↦ there u m
      | false ↦ elim d.missing [
        | suc k ↦ lacks d.node (suc k) c rest (m + (i / size step - suc k))
        | zero ↦ elim (child t.edges d.node c) [
          | None ↦ lacks d.node 0 c rest (m + i / size step)
          | Some v ↦ look_from step t fuel v rest (m + i / size step + 1)
        ]
      ]
    ]

-- looking for a tag begins at node 0 with its spelled form
abbrev pub look_for : Step → Tree → List ℕ → Look
look_for step t tag = look_from step t (suc (length (spelled tag))) 0 (spelled tag) 0

abbrev pub moves_of : Look → ℕ
moves_of (there u m) = m
moves_of (lacks u k c rest m) = m

-- a node more, and its label
abbrev pub with_node : Tree → ℕ → ℕ → List ℕ → Tree
with_node t u c label = record { edges = t.edges ++ (record { parent = u; symbol = c } ∷ []); labels = t.labels ++ (label ∷ []) }

-- making k step nodes below u, each with an empty label, and then the last child, labelled with the rest
unfoldable pub grow : Step → Tree → ℕ → ℕ → ℕ → List ℕ → Tree
grow step t u zero c rest = with_node t u c rest
grow step t u (suc k) c rest = grow step (with_node t u (step_symbol step) []) (node_count t.edges) k c rest

-- entering a tag: the first one labels node 0
unfoldable pub enter_tag : Step → Tree → List ℕ → Tree
enter_tag step t tag = elim t.labels [
  | [] ↦ record { edges = t.edges; labels = spelled tag ∷ [] }
  | l ∷ ls ↦ elim (look_for step t tag) [
    | there u m ↦ t
    | lacks u k c rest m ↦ grow step t u k c rest
  ]
]

unfoldable pub enter_tags : Step → Tree → List (List ℕ) → Tree
enter_tags step t [] = t
enter_tags step t (tag ∷ tags) = enter_tags step (enter_tag step t tag) tags

-- the tree of a list of tags, the first entered first
unfoldable pub tree_of : Step → List (List ℕ) → Tree
tree_of step tags = enter_tags step bare tags

-- climbing from node v, of whose label i bytes are wanted, in front of what is spelled already. A step child stands for
-- `size` places of the label above it. Parents have smaller numbers, so the fuel, which is above v, is never used up
unfoldable pub climb_from : Step → Tree → ℕ → ℕ → ℕ → List ℕ → List ℕ
climb_from step t zero v i word = word
climb_from step t (suc fuel) v i word =
    let e : Edge = edge_of t.edges v in
    let more : List ℕ = take i (label_of t v) ++ word in
    elim (v == 0) [
      | true ↦ more
      | false ↦ elim (e.symbol == step_symbol step) [
        | true ↦ climb_from step t fuel e.parent (i + size step) word
        | false ↦ climb_from step t fuel e.parent (e.symbol % size step) (e.symbol / size step ∷ more)
      ]
    ]

-- the spelled form that a ticket's node stands for
abbrev pub climb : Step → Tree → ℕ → List ℕ
climb step t v = climb_from step t (suc v) v (length (label_of t v)) []

-- the bytes of all labels
unfoldable pub bytes_in : List (List ℕ) → ℕ
bytes_in [] = 0
bytes_in (l ∷ ls) = length l + bytes_in ls
