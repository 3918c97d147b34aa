-- what follows where every call got what the book says
use Rattle.std.proofs.Common.{◌≡◌, ℕ, List, [], ◌∷◌, ◌++◌, length, get_or, drop, Ok, Err, Option, Result, sym, refl, ap, ◌∙◌, subst, inl, inr, arith}
use Rattle.std.proofs.lemmas.Bool.{cases_Bool}
use Rattle.tags.specs.declared.refusal.Refusal.{Refusal}
use Rattle.rules.specs.declared.step.Step.{Step}
use Rattle.rules.specs.declared.answers.Found.{Found}
use Rattle.rules.specs.declared.answers.Answer.TheVariants.{Looked}
use Rattle.rules.specs.declared.answers.Call.{Call}
use Rattle.rules.specs.Tree.{Tree, node_count, tree_of, bytes_in}
use Rattle.rules.specs.Book.{nodes, label_bytes, tags_of}
use Rattle.rules.specs.Calls.{Book}
use Rattle.rules.specs.Runs.{Answered, Request, Find, answer_of, turn, Reply, reply_to, replies, book_after, is_double, replies_but_doubles, AllRoomy}
use Rattle.rules.specs.Laws.{Sound, Alike}
use Rattle.rules.proofs.Agreement.{descent_matches_book}
use Rattle.rules.proofs.Finds.{agree, finds_count_moves}
use Rattle.rules.proofs.Rooms.{rooms_do_not_show}
use Rattle.parts.specs.Maps.{Map, count_of}
use Rattle.parts.specs.Stores.{Store}
use Rattle.dictionary.specs.Shows.{tree_in, Shows, fresh_book}
use Rattle.dictionary.specs.Runs.{buffer_size, requests, gotten, RanAs, FindsAreTrue, Served, gotten_but_doubles, AnsweredAlike}

module _ {V : Type 0} where
  -- the answer to the call behind some calls
  answer_at : (before after : List (Request V)) (q : Request V) (b : Book V) (calls : List (Call V)) (answers : List (Answered V)) (memory : List ℕ) (d : Answered V)
      → gotten calls answers memory ≡ replies b (before ++ (q ∷ after)) → get_or answers (length before) d ≡ (turn (book_after b before) q).answer
  answer_at [] after q b [] answers memory d e = absurd (let z : ◌≡◌ {A = ℕ} 0 1 = cc in omega arith)
  answer_at [] after q b (c ∷ cs) [] memory d e = absurd (let z : ◌≡◌ {A = ℕ} 0 1 = cc in omega arith)
  answer_at [] after q b (c ∷ cs) (a ∷ answers) memory d e = ap (λ (rs : List (Reply V)). (get_or rs 0 (reply_to b q)).answer) e
  answer_at (p ∷ before) after q b [] answers memory d e = absurd (let z : ◌≡◌ {A = ℕ} 0 1 = cc in omega arith)
  answer_at (p ∷ before) after q b (c ∷ cs) [] memory d e = absurd (let z : ◌≡◌ {A = ℕ} 0 1 = cc in omega arith)
  answer_at (p ∷ before) after q b (c ∷ cs) (a ∷ answers) memory d e = answer_at before after q (turn b p).next cs answers (drop (buffer_size c) memory) d (ap (drop 1) e)

  looked : (r : Result (Found V) Refusal) (found : Found V) → answer_of Looked r ≡ Ok (Looked found) → r ≡ Ok found
  looked (Ok x) found e = cc
  looked (Err why) found e = absurd (let z : ◌≡◌ {A = ℕ} 0 1 = cc in omega arith)

  finds_true : (b : Book V) (qs : List (Request V)) (calls : List (Call V)) (answers : List (Answered V)) (memory : List ℕ) → Sound b
      → gotten calls answers memory ≡ replies b qs → FindsAreTrue b qs answers
  finds_true b qs calls answers memory sound got before after tag found e f =
      let law = finds_count_moves {V = V} descent_matches_book in
      let there = answer_at before after (Find tag) b calls answers memory _ (got ∙ ap (replies b) e) in
      law.true_finds (book_after b before) (law.kept b before sound) tag found (looked _ found (sym there ∙ f))

  -- parts that show a book have its nodes and its label bytes
  module _ (m : Map) (l : Store) (s : List (Option V)) (b : Book V) (sh : Shows m l s b) where
    same_tree : tree_in m l ≡ tree_of b.step (tags_of b.rows)
    same_tree = sh.tree ∙ ap (λ (step : Step). tree_of step (tags_of b.rows)) (sym sh.step)

    pub same_count : count_of m ≡ nodes b.rows
    same_count = ap (λ (t : Tree). node_count t.edges) same_tree ∙ (agree descent_matches_book b sh.sound (97 ∷ []) refl).count

    pub same_total : bytes_in l.labels ≡ label_bytes b.rows
    same_total = ap (λ (t : Tree). bytes_in t.labels) same_tree ∙ (agree descent_matches_book b sh.sound (97 ∷ []) refl).bytes

  -- a run from a book with no rows, and what the parts show after it
  pub served : (m : Map) (l : Store) (calls : List (Call V)) (answers : List (Answered V)) (memory : List ℕ) (answers' : List (Answered V)) (memory' : List ℕ) (m' : Map) (l' : Store) (s' : List (Option V))
      → RanAs (fresh_book m l) calls answers memory answers' memory' → Shows m' l' s' (book_after (fresh_book m l) (requests calls memory))
      → Served m l calls answers memory answers' memory' m' l' s'
  served m l calls answers memory answers' memory' m' l' s' ran sh = record {
    ran = ran;
    shows = sh;
    count = same_count m' l' s' _ sh;
    total = same_total m' l' s' _ sh;
    finds = finds_true (fresh_book m l) (requests calls memory) calls answers' memory' ((finds_count_moves descent_matches_book).fresh (fresh_book m l) refl) ran.got;
  }

  only_others : (qs : List (Request V)) (b : Book V) → gotten_but_doubles qs (replies b qs) ≡ replies_but_doubles b qs
  only_others [] b = refl
  only_others (q ∷ qs) b =
      let more = only_others qs (turn b q).next in
      elim (cases_Bool (is_double q)) [ inl e ↦ rw (e, gotten_but_doubles, replies_but_doubles) more | inr e ↦ rw (e, gotten_but_doubles, replies_but_doubles) (ap (λ (rs : List (Reply V)). reply_to b q ∷ rs) more) ]

  -- two runs from books that differ at most in their rooms
  pub alike : (b other : Book V) (calls : List (Call V)) (answers : List (Answered V)) (memory : List ℕ) (answers' : List (Answered V)) (memory' : List ℕ)
      (others : List (Call V)) (places : List (Answered V)) (lent : List ℕ) (answered : List (Answered V)) (lent' : List ℕ)
      → Alike b other → RanAs b calls answers memory answers' memory' → RanAs other others places lent answered lent'
      → AnsweredAlike calls memory answers' memory' others lent answered lent'
  alike b other calls answers memory answers' memory' others places lent answered lent' books ran also same roomy large =
      let law = rooms_do_not_show b other (requests calls memory) (requests others lent) books same (subst AllRoomy ran.got roomy) (subst AllRoomy also.got large) in
      ap (gotten_but_doubles (requests calls memory)) ran.got
      ∙ only_others (requests calls memory) b
      ∙ law.0
      ∙ sym (only_others (requests others lent) other)
      ∙ ap (gotten_but_doubles (requests others lent)) (sym also.got)
