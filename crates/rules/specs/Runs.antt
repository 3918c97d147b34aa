-- whole runs of the book
use Rattle.std.specs.Prelude.{ℕ, Bool, true, false, List, [], ◌∷◌, Ok, Err, Result, ◌≢◌}
use Rattle.tags.specs.declared.refusal.Refusal.{Refusal}
use Rattle.tags.specs.declared.refusal.Refusal.TheVariants.{NoNodeRoom, NoByteRoom}
use Rattle.rules.specs.declared.answers.Answer.{Answer}
use Rattle.rules.specs.declared.answers.Answer.TheVariants.{Entered, Changed, Struck, Looked, Spelled, Doubled}
use Rattle.rules.specs.Calls.{Book, Turn, enter, change, strike, find, spell, spell_buffer, double}

-- what a call asks. Each spell brings a buffer of its own
pub data Request (V : Type 0) : Type 0 where
  Enter : (tag : List ℕ) (value : V) → Request V
  Change : (tag : List ℕ) (value : V) → Request V
  Find : (tag : List ℕ) → Request V
  Strike : (tag : List ℕ) → Request V
  Spell : (ticket : ℕ) (buffer : List ℕ) → Request V
  Double : Request V

-- what a call of a run answers, or why it is refused
abbrev pub Answered : Type 0 → Type 0
Answered V = Result (Answer V) Refusal

-- a call's result as the answer of a run
abbrev pub answer_of : {A V : Type 0} → (A → Answer V) → Result A Refusal → Answered V
answer_of says (Ok a) = Ok (says a)
answer_of says (Err why) = Err why

abbrev pub turn_of : {A V : Type 0} → (A → Answer V) → Turn (Result A Refusal) V → Turn (Answered V) V
turn_of says t = record { answer = answer_of says t.answer; next = t.next }

abbrev pub turn : {V : Type 0} → Book V → Request V → Turn (Answered V) V
turn book (Enter tag value) = turn_of Entered (enter book tag value)
turn book (Change tag value) = turn_of Changed (change book tag value)
turn book (Find tag) = record { answer = answer_of Looked (find book tag); next = book }
turn book (Strike tag) = turn_of Struck (strike book tag)
turn book (Spell ticket buffer) = record { answer = answer_of Spelled (spell book ticket buffer); next = book }
turn book Double = turn_of Doubled (double book)

-- the buffer after a call; only spell brings one
abbrev pub buffer_after : {V : Type 0} → Book V → Request V → List ℕ
buffer_after book (Enter tag value) = []
buffer_after book (Change tag value) = []
buffer_after book (Find tag) = []
buffer_after book (Strike tag) = []
buffer_after book (Spell ticket buffer) = spell_buffer book ticket buffer
buffer_after book Double = []

-- what a call gets
pub record Reply (V : Type 0) : Type 0 where
  pub answer : Answered V
  pub buffer : List ℕ

abbrev pub reply_to : {V : Type 0} → Book V → Request V → Reply V
reply_to book q = record { answer = (turn book q).answer; buffer = buffer_after book q }

-- a run: what each call gets, and the book at the end
abbrev pub replies : {V : Type 0} → Book V → List (Request V) → List (Reply V)
replies book [] = []
replies book (q ∷ qs) = reply_to book q ∷ replies (turn book q).next qs

abbrev pub book_after : {V : Type 0} → Book V → List (Request V) → Book V
book_after book [] = book
book_after book (q ∷ qs) = book_after (turn book q).next qs

abbrev pub is_double : {V : Type 0} → Request V → Bool
is_double (Enter tag value) = false
is_double (Change tag value) = false
is_double (Find tag) = false
is_double (Strike tag) = false
is_double (Spell ticket buffer) = false
is_double Double = true

-- the calls but the doubles, and what they get
abbrev pub but_doubles : {V : Type 0} → List (Request V) → List (Request V)
but_doubles [] = []
but_doubles (q ∷ qs) = elim (is_double q) [ true ↦ but_doubles qs | false ↦ q ∷ but_doubles qs ]

abbrev pub replies_but_doubles : {V : Type 0} → Book V → List (Request V) → List (Reply V)
replies_but_doubles book [] = []
replies_but_doubles book (q ∷ qs) = elim (is_double q) [
  | true ↦ replies_but_doubles (turn book q).next qs
  | false ↦ reply_to book q ∷ replies_but_doubles (turn book q).next qs
]

-- no refusal for want of room
abbrev pub Roomy : {V : Type 0} → Answered V → Type 0
Roomy a = (a ≢ Err NoNodeRoom) × (a ≢ Err NoByteRoom)

abbrev pub AllRoomy : {V : Type 0} → List (Reply V) → Type 0
AllRoomy [] = Unit {0}
AllRoomy (r ∷ rs) = Roomy r.answer × AllRoomy rs
