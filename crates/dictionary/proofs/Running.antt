-- whole runs of a dictionary, call by call
use Rattle.std.proofs.Common.{◌≡◌, ℕ, ◌+◌, ◌-◌, ◌<◌, ◌≤◌, min, ltb, List, [], ◌∷◌, ◌++◌, length, get_or, take, drop, set, replicate, Err, sym, refl, ap, ◌∙◌, subst, inl, inr, arith, length-append, length-drop, length-take}
use lib.ListN.{length-replicate}
use borrow.Rule.Slice.PartMut.{put_mid}
use Rattle.std.proofs.lemmas.List.{append_assoc, append-nil, get_or-take, take_all, drop_all, drop-drop, drop_more, drop-set-lt, take_more_set, at_drop_all, take-append-drop, take_at, drop_at, nil_from_length, set_at, replicate_more}
use Rattle.std.proofs.lemmas.Slice.{take-put_mid, drop-put_mid}
use Rattle.std.proofs.lemmas.Bool.{cases_lt, cases_Bool, ltb-false}
use Rattle.tags.specs.declared.refusal.Refusal.TheVariants.{UnfitParts}
use Rattle.rules.specs.declared.answers.Call.{Call}
use Rattle.rules.specs.declared.answers.Call.TheVariants.{Enter, Change, Find, Strike, Spell, Double}
use Rattle.rules.specs.Calls.{Book, tag_with, spell_buffer}
use Rattle.rules.specs.Runs.{Answered, turn, buffer_after, replies, book_after}
use Rattle.rules.proofs.Values.{cases_option}
use Rattle.dictionary.specs.Runs.{buffer_size, request_of, leaves, requests, gotten, buffer_sizes, made, RanAs, RanUnfit}

-- the next n, of which only k may be left
next_least : {X : Type 0} (n k : ℕ) (xs : List X) → k ≡ min n (length xs) → (take k xs ≡ take n xs) × (drop k xs ≡ drop n xs)
next_least {X} n k xs e = elim (cases_lt n (length xs)) [
  | inl h ↦ (let same : k ≡ n = omega arith in (ap (λ (j : ℕ). take j xs) same, ap (λ (j : ℕ). drop j xs) same))
  | inr h ↦ (take_all k xs (omega arith) ∙ sym (take_all n xs h), drop_all k xs (omega arith) ∙ sym (drop_all n xs h))
]

-- a buffer and what follows it, taken apart again where the memory was
again_apart : (n : ℕ) (buffer rest memory : List ℕ) → length buffer ≡ length (take n memory) → length rest ≡ length (drop n memory)
    → (take n (buffer ++ rest) ≡ buffer) × (drop n (buffer ++ rest) ≡ rest)
again_apart n buffer rest memory e f = elim (cases_lt n (length memory)) [
  | inl h ↦ (let long : length buffer ≡ n = omega (arith, length-take n memory) in (take_at buffer rest n long, drop_at buffer rest n long))
  | inr h ↦
      let none : rest ≡ [] = nil_from_length rest (omega (arith, length-drop n memory)) in
      let all : buffer ++ rest ≡ buffer = ap (λ (ys : List ℕ). buffer ++ ys) none ∙ append-nil buffer in
      let short : length buffer ≤ n = omega (arith, length-take n memory) in
      (ap (take n) all ∙ take_all n buffer short, ap (drop n) all ∙ drop_all n buffer short ∙ sym none)
]

-- a part of the memory written back as it was
pub put_back : (from k : ℕ) (memory buffer : List ℕ) → buffer ≡ take k (drop from memory) → put_mid from k memory buffer ≡ memory
put_back from k memory buffer e =
    let inner : take k (drop from memory) ++ drop k (drop from memory) ≡ drop from memory = take-append-drop k (drop from memory) in
    let outer : take from memory ++ drop from memory ≡ memory = take-append-drop from memory in
    ap (λ (ys : List ℕ). take from memory ++ (ys ++ drop k (drop from memory))) e ∙ ap (λ (ys : List ℕ). take from memory ++ ys) inner ∙ outer

module _ {V : Type 0} where
  -- the answers and the memory after calls that a book answers
  abbrev pub answers_after : Book V → List (Call V) → List (Answered V) → List ℕ → List (Answered V)
  answers_after b [] answers memory = answers
  answers_after b (c ∷ cs) [] memory = []
  answers_after b (c ∷ cs) (a ∷ answers) memory =
      (turn b (request_of c (take (buffer_size c) memory))).answer ∷ answers_after (turn b (request_of c (take (buffer_size c) memory))).next cs answers (drop (buffer_size c) memory)

  abbrev pub memory_after : Book V → List (Call V) → List ℕ → List ℕ
  memory_after b [] memory = memory
  memory_after b (c ∷ cs) memory =
      leaves b c (take (buffer_size c) memory) ++ memory_after (turn b (request_of c (take (buffer_size c) memory))).next cs (drop (buffer_size c) memory)

  -- what is done, by the first i calls on the first bytes, and what is to come are together the whole run
  pub record SoFar (start : Book V) (calls : List (Call V)) (answers₀ : List (Answered V)) (memory₀ : List ℕ)
      (i from : ℕ) (answers : List (Answered V)) (memory : List ℕ) (Shown : Book V → Type 0) : Type 0 where
    pub book : Book V
    pub shows : Shown book
    pub answered : take i answers ++ answers_after book (drop i calls) (drop i answers) (drop from memory) ≡ answers_after start calls answers₀ memory₀
    pub written : take from memory ++ memory_after book (drop i calls) (drop from memory) ≡ memory_after start calls memory₀
    pub last : book_after book (requests (drop i calls) (drop from memory)) ≡ book_after start (requests calls memory₀)

  -- a call that is made is the next of those
  pub next_made : (calls : List (Call V)) (answers : List (Answered V)) (i : ℕ) (x : Call V) → i < length calls → i < length answers → x ≡ get_or calls i x
      → drop i (made calls answers) ≡ x ∷ drop (i + 1) (made calls answers)
  next_made calls answers i x h k e =
      let inside : i < length (made calls answers) = omega (arith, length-take (length answers) calls) in
      drop_more (made calls answers) i x inside ∙ ap (λ (y : Call V). y ∷ drop (i + 1) (made calls answers)) (get_or-take (length answers) calls i x k ∙ sym e)

  -- one more call, on the k bytes of the memory from `from` on
  pub so_far_more : {start : Book V} {calls : List (Call V)} {answers₀ : List (Answered V)} {memory₀ : List ℕ} (i from n k : ℕ) (x : Call V)
      (answers answers' : List (Answered V)) (a : Answered V) (memory buffer : List ℕ) (Shown Shown' : Book V → Type 0)
      → drop i calls ≡ x ∷ drop (i + 1) calls → i < length answers → from ≤ length memory → n ≡ min (buffer_size x) (length memory - from) → k ≡ n
      → (s : SoFar start calls answers₀ memory₀ i from answers memory Shown)
      → a ≡ (turn s.book (request_of x (take k (drop from memory)))).answer
      → Shown' (turn s.book (request_of x (take k (drop from memory)))).next
      → buffer ≡ leaves s.book x (take k (drop from memory)) → length buffer ≡ k → answers' ≡ set answers i a
      → SoFar start calls answers₀ memory₀ (i + 1) (from + n) answers' (put_mid from k memory buffer) Shown'
  so_far_more {start} {calls} {answers₀} {memory₀} i from n k x answers answers' a memory buffer Shown Shown' opens inside fits least same s said shown left long set_is =
      let b : Book V = s.book in
      let there : List ℕ = drop from memory in
      let cs : List (Call V) = drop (i + 1) calls in
      let size_is : k ≡ min (buffer_size x) (length there) = omega (arith, length-drop from memory) in
      let part : take k there ≡ take (buffer_size x) there = (next_least (buffer_size x) k there size_is).0 in
      let past : drop k there ≡ drop (buffer_size x) there = (next_least (buffer_size x) k there size_is).1 in
      let onward : drop k there ≡ drop (from + k) memory = drop-drop k from memory in
      let beyond : drop (from + n) (put_mid from k memory buffer) ≡ drop (from + n) memory = drop-put_mid from k memory buffer (from + n) (omega arith) fits long in
      let up_to : take (from + n) (put_mid from k memory buffer) ≡ take from memory ++ buffer = take-put_mid from k memory buffer (from + n) (omega arith) fits in
      let more : take (i + 1) answers' ≡ take i answers ++ (a ∷ []) = ap (take (i + 1)) set_is ∙ take_more_set answers i a inside in
      let later : drop (i + 1) answers' ≡ drop (i + 1) answers = ap (drop (i + 1)) set_is ∙ drop-set-lt (i + 1) answers i a (omega arith) in
      let old : drop i answers ≡ get_or answers i a ∷ drop (i + 1) answers = drop_more answers i a inside in
      let rest : List (Answered V) = answers_after (turn b (request_of x (take k there))).next cs (drop (i + 1) answers) (drop k there) in
      let answers-join : (take i answers ++ (a ∷ [])) ++ rest ≡ take i answers ++ (a ∷ rest) = append_assoc (take i answers) (a ∷ []) rest in
      let bytes : List ℕ = memory_after (turn b (request_of x (take k there))).next cs (drop k there) in
      let memory-join : (take from memory ++ buffer) ++ bytes ≡ take from memory ++ (buffer ++ bytes) = append_assoc (take from memory) buffer bytes in
      record {
        book = (turn b (request_of x (take k there))).next;
        shows = shown;
        answered = cc;
        written = cc;
        last = cc;
      }

  -- a spell writes inside its buffer
  spell_length : (b : Book V) (ticket : ℕ) (buffer : List ℕ) → length (spell_buffer b ticket buffer) ≡ length buffer
  unfolding spell_buffer
  spell_length b ticket buffer = elim (cases_option (tag_with b.rows ticket)) [
    | inl e ↦ rw (e, spell_buffer) refl
    | inr k ↦ elim (cases_Bool (ltb (length buffer) (length k.0))) [
      | inl f ↦ rw (k.1, f, spell_buffer) refl
      | inr f ↦ rw (k.1, f, spell_buffer) (simp (length-append, length-drop) (omega (arith, ltb-false (length buffer) (length k.0) f)))
    ]
  ]

  leaves_length : (b : Book V) (c : Call V) (buffer : List ℕ) → length (leaves b c buffer) ≡ length buffer
  leaves_length b (Enter tag value) buffer = refl
  leaves_length b (Change tag value) buffer = refl
  leaves_length b (Find tag) buffer = refl
  leaves_length b (Strike tag) buffer = refl
  leaves_length b (Spell ticket size) buffer = spell_length b ticket buffer
  leaves_length b Double buffer = refl

  -- on its part of the memory a call leaves what the book says
  leaves_book : (b : Book V) (c : Call V) (memory : List ℕ) → leaves b c (take (buffer_size c) memory) ≡ buffer_after b (request_of c (take (buffer_size c) memory))
  leaves_book b (Enter tag value) memory = refl
  leaves_book b (Change tag value) memory = refl
  leaves_book b (Find tag) memory = refl
  leaves_book b (Strike tag) memory = refl
  leaves_book b (Spell ticket size) memory = refl
  leaves_book b Double memory = refl

  memory_length : (b : Book V) (calls : List (Call V)) (memory : List ℕ) → length (memory_after b calls memory) ≡ length memory
  memory_length b [] memory = refl
  memory_length b (c ∷ cs) memory =
      let part = take (buffer_size c) memory in
      let past = drop (buffer_size c) memory in
      length-append (leaves b c part) (memory_after (turn b (request_of c part)).next cs past)
      ∙ omega (arith, leaves_length b c part, memory_length (turn b (request_of c part)).next cs past, length-take (buffer_size c) memory, length-drop (buffer_size c) memory)

  -- the memory after calls: the first call's part, and the rest
  parts_after : (b : Book V) (c : Call V) (cs : List (Call V)) (memory : List ℕ)
      → (take (buffer_size c) (memory_after b (c ∷ cs) memory) ≡ buffer_after b (request_of c (take (buffer_size c) memory)))
      × (drop (buffer_size c) (memory_after b (c ∷ cs) memory) ≡ memory_after (turn b (request_of c (take (buffer_size c) memory))).next cs (drop (buffer_size c) memory))
  parts_after b c cs memory =
      let part = take (buffer_size c) memory in
      let next = (turn b (request_of c part)).next in
      let past = drop (buffer_size c) memory in
      let k = again_apart (buffer_size c) (leaves b c part) (memory_after next cs past) memory (leaves_length b c part) (memory_length next cs past) in
      (k.0 ∙ leaves_book b c memory, k.1)

  -- what each call got is what the book says
  got_after : (b : Book V) (calls : List (Call V)) (answers : List (Answered V)) (memory : List ℕ) → length calls ≤ length answers
      → gotten calls (answers_after b calls answers memory) (memory_after b calls memory) ≡ replies b (requests calls memory)
  got_after b [] answers memory h = refl
  got_after b (c ∷ cs) [] memory h = absurd (omega arith)
  got_after b (c ∷ cs) (a ∷ answers) memory h =
      let k = parts_after b c cs memory in
      let e = k.0 in
      let f = k.1 in
      let more = got_after (turn b (request_of c (take (buffer_size c) memory))).next cs answers (drop (buffer_size c) memory) (omega arith) in
      cc

  later_answers_lem : (b : Book V) (calls : List (Call V)) (answers : List (Answered V)) (memory : List ℕ) → drop (length calls) (answers_after b calls answers memory) ≡ drop (length calls) answers
  later_answers_lem b [] answers memory = refl
  later_answers_lem b (c ∷ cs) [] memory = refl
  later_answers_lem b (c ∷ cs) (a ∷ answers) memory = later_answers_lem (turn b (request_of c (take (buffer_size c) memory))).next cs answers (drop (buffer_size c) memory)

  later_memory_lem : (b : Book V) (calls : List (Call V)) (memory : List ℕ) → drop (buffer_sizes calls) (memory_after b calls memory) ≡ drop (buffer_sizes calls) memory
  later_memory_lem b [] memory = refl
  later_memory_lem b (c ∷ cs) memory =
      sym (drop-drop (buffer_sizes cs) (buffer_size c) (memory_after b (c ∷ cs) memory))
      ∙ ap (drop (buffer_sizes cs)) (parts_after b c cs memory).1
      ∙ later_memory_lem (turn b (request_of c (take (buffer_size c) memory))).next cs (drop (buffer_size c) memory)
      ∙ drop-drop (buffer_sizes cs) (buffer_size c) memory

  -- no call is left
  module _ (start : Book V) (calls : List (Call V)) (answers₀ : List (Answered V)) (memory₀ : List ℕ) (i from : ℕ) (answers : List (Answered V)) (memory : List ℕ) (Shown : Book V → Type 0)
      (all : length calls ≤ i) (s : SoFar start calls answers₀ memory₀ i from answers memory Shown) where
    pub ran_all : length calls ≤ length answers₀ → RanAs start calls answers₀ memory₀ answers memory
    ran_all room =
        let b : Book V = s.book in
        let there : List ℕ = drop from memory in
        let no_answer : answers_after b (drop i calls) (drop i answers) there ≡ drop i answers = at_drop_all (λ (cs : List (Call V)). answers_after b cs (drop i answers) there) calls i all in
        let no_byte : memory_after b (drop i calls) there ≡ there = at_drop_all (λ (cs : List (Call V)). memory_after b cs there) calls i all in
        let said : take i answers ++ drop i answers ≡ answers = take-append-drop i answers in
        let wrote : take from memory ++ there ≡ memory = take-append-drop from memory in
        let answers-are : answers ≡ answers_after start calls answers₀ memory₀ = cc in
        let memory_is : memory ≡ memory_after start calls memory₀ = cc in
        record {
          got = rw (answers-are, memory_is) (got_after start calls answers₀ memory₀ room);
          later_answers = ap (drop (length calls)) answers-are ∙ later_answers_lem start calls answers₀ memory₀;
          later_memory = ap (drop (buffer_sizes calls)) memory_is ∙ later_memory_lem start calls memory₀;
        }

    pub shows_all : Shown (book_after start (requests calls memory₀))
    shows_all =
        let none : book_after s.book (requests (drop i calls) (drop from memory)) ≡ s.book = at_drop_all (λ (cs : List (Call V)). book_after s.book (requests cs (drop from memory))) calls i all in
        subst Shown (sym none ∙ s.last) s.shows

  -- one more refusal
  pub refused_more : (answers₀ answers answers' : List (Answered V)) (i : ℕ) (a r : Answered V) → i < length answers₀ → answers ≡ replicate i r ++ drop i answers₀ → a ≡ r → answers' ≡ set answers i a
      → answers' ≡ replicate (i + 1) r ++ drop (i + 1) answers₀
  refused_more answers₀ answers answers' i a r h e f set_is =
      let open_up : drop i answers₀ ≡ get_or answers₀ i r ∷ drop (i + 1) answers₀ = drop_more answers₀ i r h in
      let put : set (replicate i r ++ (get_or answers₀ i r ∷ drop (i + 1) answers₀)) i r ≡ replicate i r ++ (r ∷ drop (i + 1) answers₀) =
      set_at (replicate i r) (get_or answers₀ i r) (drop (i + 1) answers₀) r i (length-replicate i r) in
      let join : (replicate i r ++ (r ∷ [])) ++ drop (i + 1) answers₀ ≡ replicate i r ++ (r ∷ drop (i + 1) answers₀) = append_assoc (replicate i r) (r ∷ []) (drop (i + 1) answers₀) in
      let grown : replicate i r ++ (r ∷ []) ≡ replicate (i + 1) r = replicate_more i r in
      cc

  pub refused_all : (calls : List (Call V)) (answers answers' : List (Answered V)) (memory memory' : List ℕ) (i : ℕ) → i ≡ length calls
      → answers' ≡ replicate i (Err UnfitParts) ++ drop i answers → memory' ≡ memory → RanUnfit calls answers memory answers' memory'
  refused_all calls answers answers' memory memory' i all e f = record { refused = rw (← all) e; untouched = f }
