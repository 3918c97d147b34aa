-- whole runs: any list of calls on a dictionary, beside the arrival book
use Rattle.std.specs.Prelude.{◌≡◌, ℕ, ◌+◌, true, false, List, [], ◌∷◌, ◌++◌, length, take, drop, replicate, Ok, Err, Option, slice_index_or}
use Rattle.tags.specs.declared.refusal.Refusal.TheVariants.{UnfitParts}
use Rattle.rules.specs.declared.answers.Found.{Found}
use Rattle.rules.specs.declared.answers.Answer.TheVariants.{Looked}
use Rattle.rules.specs.declared.answers.Call.{Call}
use Rattle.rules.specs.declared.answers.Call.TheVariants.{Enter, Change, Find, Strike, Spell, Double}
use Rattle.rules.specs.Book.{nodes, label_bytes}
use Rattle.rules.specs.Tree.{bytes_in}
use Rattle.rules.specs.Calls.{Book, spell_buffer}
use Rattle.rules.specs.Runs.{Answered, Request, Enter as to_enter, Change as to_change, Find as to_find, Strike as to_strike, Spell as to_spell, Double as to_double, Reply, replies, book_after, is_double, but_doubles, AllRoomy}
use Rattle.rules.specs.Laws.{TrueFind}
use Rattle.parts.specs.Maps.{Map, count_of}
use Rattle.parts.specs.Stores.{Store}
use Rattle.dictionary.specs.Shows.{Shows, extent_of, open_answer, fresh_book}

-- how many bytes long a call's buffer is
abbrev pub buffer_size : {V : Type 0} → Call V → ℕ
buffer_size (Enter tag value) = 0
buffer_size (Change tag value) = 0
buffer_size (Find tag) = 0
buffer_size (Strike tag) = 0
buffer_size (Spell ticket size) = size
buffer_size Double = 0

-- what a call asks, on its buffer
abbrev pub request_of : {V : Type 0} → Call V → List ℕ → Request V
request_of (Enter tag value) buffer = to_enter tag.now value
request_of (Change tag value) buffer = to_change tag.now value
request_of (Find tag) buffer = to_find tag.now
request_of (Strike tag) buffer = to_strike tag.now
request_of (Spell ticket size) buffer = to_spell ticket buffer
request_of Double buffer = to_double

-- what a call leaves in its buffer; only spell writes
abbrev pub leaves : {V : Type 0} → Book V → Call V → List ℕ → List ℕ
leaves b (Enter tag value) buffer = buffer
leaves b (Change tag value) buffer = buffer
leaves b (Find tag) buffer = buffer
leaves b (Strike tag) buffer = buffer
leaves b (Spell ticket size) buffer = spell_buffer b ticket buffer
leaves b Double buffer = buffer

-- each call's buffer is the next bytes of the memory; where too few are left, it is what is left
abbrev pub requests : {V : Type 0} → List (Call V) → List ℕ → List (Request V)
requests [] memory = []
requests (c ∷ cs) memory = request_of c (take (buffer_size c) memory) ∷ requests cs (drop (buffer_size c) memory)

-- what each call got, by its answer and its part of the memory after the run
abbrev pub gotten : {V : Type 0} → List (Call V) → List (Answered V) → List ℕ → List (Reply V)
gotten [] answers memory = []
gotten (c ∷ cs) [] memory = []
gotten (c ∷ cs) (a ∷ answers) memory = record { answer = a; buffer = take (buffer_size c) memory } ∷ gotten cs answers (drop (buffer_size c) memory)

-- the bytes that the buffers of calls take together
abbrev pub buffer_sizes : {V : Type 0} → List (Call V) → ℕ
buffer_sizes [] = 0
buffer_sizes (c ∷ cs) = buffer_size c + buffer_sizes cs

-- the calls that are made: those that have a place for their answer
abbrev pub made : {V : Type 0} → List (Call V) → List (Answered V) → List (Call V)
made calls answers = take (length answers) calls

-- each call got what the book says; answers and memory beyond are as they were
pub record RanAs {V : Type 0} (b : Book V) (calls : List (Call V)) (answers : List (Answered V)) (memory : List ℕ) (answers' : List (Answered V)) (memory' : List ℕ) : Type 0 where
  pub got : gotten calls answers' memory' ≡ replies b (requests calls memory)
  pub later_answers : drop (length calls) answers' ≡ drop (length calls) answers
  pub later_memory : drop (buffer_sizes calls) memory' ≡ drop (buffer_sizes calls) memory

-- every call got refusal 13, and the memory is as it was
pub record RanUnfit {V : Type 0} (calls : List (Call V)) (answers : List (Answered V)) (memory : List ℕ) (answers' : List (Answered V)) (memory' : List ℕ) : Type 0 where
  pub refused : answers' ≡ replicate (length calls) (Err UnfitParts) ++ drop (length calls) answers
  pub untouched : memory' ≡ memory

-- a find that is not refused is true: its moves are those of looking in the tree that stands at its turn
abbrev pub FindsAreTrue : {V : Type 0} → Book V → List (Request V) → List (Answered V) → Type 0
FindsAreTrue {V} b qs answers = (before after : List (Request V)) (tag : List ℕ) (found : Found V) → qs ≡ before ++ (to_find tag ∷ after)
    → slice_index_or answers (length before) (Err UnfitParts) ≡ Ok (Looked found) → TrueFind (book_after b before) tag found

-- a dictionary that was opened over fitting parts and ran these calls: all answers and buffers are the arrival book's; its
-- parts show the book at the end; as many nodes and label bytes as the book has; finds are true
pub record Served {V : Type 0} (m : Map) (l : Store) (calls : List (Call V)) (answers : List (Answered V)) (memory : List ℕ) (answers' : List (Answered V)) (memory' : List ℕ)
    (m' : Map) (l' : Store) (s' : List (Option V)) : Type 0 where
  pub ran : RanAs (fresh_book m l) calls answers memory answers' memory'
  pub shows : Shows m' l' s' (book_after (fresh_book m l) (requests calls memory))
  pub count : count_of m' ≡ nodes (book_after (fresh_book {V = V} m l) (requests calls memory)).rows
  pub total : bytes_in l'.labels ≡ label_bytes (book_after (fresh_book {V = V} m l) (requests calls memory)).rows
  pub finds : FindsAreTrue (fresh_book m l) (requests calls memory) answers'

-- a dictionary that was opened over parts of any state and ran these calls: it served where they fit; where they do not,
-- every call got refusal 13 and the parts are as given. The space for labels and values is as it was
pub record Opened {V : Type 0} (m : Map) (l : Store) (s : List (Option V)) (calls : List (Call V)) (answers : List (Answered V)) (memory : List ℕ) (answers' : List (Answered V)) (memory' : List ℕ)
    (m' : Map) (l' : Store) (s' : List (Option V)) (AsGiven : Type 0) : Type 0 where
  pub served : open_answer m l s ≡ Ok tt → Served m l calls answers memory answers' memory' m' l' s'
  pub refused : open_answer m l s ≡ Err UnfitParts → RanUnfit calls answers memory answers' memory' × AsGiven
  pub stays : extent_of l' s' ≡ extent_of l s

-- what the calls but double got, of what all got
abbrev pub gotten_but_doubles : {V : Type 0} → List (Request V) → List (Reply V) → List (Reply V)
gotten_but_doubles [] rs = []
gotten_but_doubles (q ∷ qs) [] = []
gotten_but_doubles (q ∷ qs) (r ∷ rs) = elim (is_double q) [ true ↦ gotten_but_doubles qs rs | false ↦ r ∷ gotten_but_doubles qs rs ]

-- two runs whose calls differ at most in their doubles: where neither refuses for want of room, every call but double got the same
abbrev pub AnsweredAlike : {V : Type 0} → List (Call V) → List ℕ → List (Answered V) → List ℕ → List (Call V) → List ℕ → List (Answered V) → List ℕ → Type 0
AnsweredAlike calls memory answers' memory' others lent answered lent' =
    but_doubles (requests calls memory) ≡ but_doubles (requests others lent) → AllRoomy (gotten calls answers' memory') → AllRoomy (gotten others answered lent')
    → gotten_but_doubles (requests calls memory) (gotten calls answers' memory') ≡ gotten_but_doubles (requests others lent) (gotten others answered lent')
