-- what entering a tag makes of a tree
use Rattle.std.proofs.Common.{◌≡◌, ℕ, zero, suc, ◌+◌, ◌<◌, List, [], ◌∷◌, ◌++◌, length, replicate, refl, ◌∙◌, append_assoc, arith, length-append}
use Rattle.rules.specs.declared.step.Step.{Step}
use Rattle.rules.specs.Steps.{step_symbol}
use Rattle.rules.specs.Tree.{Edge, Tree, node_count, there, lacks, look_for, with_node, grow, enter_tag, bytes_in}

pub bytes_push : (labels : List (List ℕ)) (label : List ℕ) → bytes_in (labels ++ (label ∷ [])) ≡ bytes_in labels + length label
unfolding bytes_in
bytes_push [] label = omega arith
bytes_push (l ∷ ls) label = omega (arith, bytes_push ls label)

module _ (step : Step) where
  -- a tag that looking does not find, and one that it finds
  pub enter_new_lem : (edges : List Edge) (labels : List (List ℕ)) (tag : List ℕ) (u k c : ℕ) (rest : List ℕ) (m : ℕ) → 0 < length labels
      → look_for step (record { edges = edges; labels = labels }) tag ≡ lacks u k c rest m
      → enter_tag step (record { edges = edges; labels = labels }) tag ≡ grow step (record { edges = edges; labels = labels }) u k c rest
  unfolding enter_tag
  enter_new_lem edges [] tag u k c rest m h e = absurd (omega arith)
  enter_new_lem edges (l ∷ ls) tag u k c rest m h e = rw (e, enter_tag) refl

  pub enter_again : (edges : List Edge) (labels : List (List ℕ)) (tag : List ℕ) (u m : ℕ) → 0 < length labels
      → look_for step (record { edges = edges; labels = labels }) tag ≡ there u m
      → enter_tag step (record { edges = edges; labels = labels }) tag ≡ record { edges = edges; labels = labels }
  unfolding enter_tag
  enter_again edges [] tag u m h e = absurd (omega arith)
  enter_again edges (l ∷ ls) tag u m h e = rw (e, enter_tag) refl

  -- the nodes, the labels and the label bytes after growing
  pub grow_count : (k : ℕ) (t : Tree) (u c : ℕ) (rest : List ℕ) → node_count (grow step t u k c rest).edges ≡ node_count t.edges + suc k
  unfolding grow
  grow_count zero t u c rest = simp length-append (omega arith)
  grow_count (suc k) t u c rest = grow_count k (with_node t u (step_symbol step) []) (node_count t.edges) c rest ∙ simp length-append (omega arith)

  pub grow_labels : (k : ℕ) (t : Tree) (u c : ℕ) (rest : List ℕ) → (grow step t u k c rest).labels ≡ t.labels ++ (replicate k [] ++ (rest ∷ []))
  unfolding grow
  grow_labels zero t u c rest = refl
  grow_labels (suc k) t u c rest = grow_labels k (with_node t u (step_symbol step) []) (node_count t.edges) c rest ∙ simp append_assoc

  pub grow_bytes : (k : ℕ) (t : Tree) (u c : ℕ) (rest : List ℕ) → bytes_in (grow step t u k c rest).labels ≡ bytes_in t.labels + length rest
  unfolding grow
  grow_bytes zero t u c rest = bytes_push t.labels rest
  grow_bytes (suc k) t u c rest =
      omega (arith, grow_bytes k (with_node t u (step_symbol step) []) (node_count t.edges) c rest, bytes_push t.labels [])
