-- numbers and answers as text
use Rattle.std.proofs.Common.{◌≡◌, ℕ, List, Ok, Err, Result, refl, ap, ◌∙◌, subst}
use Rattle.tags.specs.declared.refusal.Refusal.{Refusal}
use Rattle.tags.specs.Refusals.{refusal_number}
use Rattle.rules.specs.declared.answers.Answer.{Answer}
use Rattle.rules.specs.declared.answers.Answer.TheVariants.{Entered, Changed, Struck, Looked, Doubled}
use Rattle.rules.specs.declared.answers.Call.{Call}
use Rattle.rules.specs.declared.answers.Call.TheVariants.{Enter, Change, Find, Strike, Spell, Double}
use Rattle.rules.specs.Calls.{Book, enter, change, find, strike, double}
use Rattle.rules.specs.Runs.{Answered, Request, answer_of, turn, buffer_after, reply_to}
use Rattle.dictionary.specs.Runs.{request_of, leaves}
use Rattle.commands.specs.Commands.{Order}
use Rattle.session.specs.declared.output.Output.{Output}
use Rattle.session.specs.Output.{Wrote}
use Rattle.session.specs.Texts.{labelled, answer_text, request_for}

-- only a spelled tag stands in the buffer
plain : {A : Type 0} (says : A → Answer ℕ) → ((a : A) (x y : List ℕ) → answer_text (Ok (says a)) x ≡ answer_text (Ok (says a)) y)
    → (r : Result A Refusal) (x y : List ℕ) → answer_text (answer_of says r) x ≡ answer_text (answer_of says r) y
plain says alike (Ok a) x y = alike a x y
plain says alike (Err why) x y = refl

as_replied : (b : Book ℕ) (c : Call ℕ) (buffer : List ℕ)
    → answer_text (turn b (request_of c buffer)).answer (leaves b c buffer) ≡ answer_text (turn b (request_of c buffer)).answer (buffer_after b (request_of c buffer))
as_replied b (Enter tag value) buffer = plain Entered (λ a x y. refl) (enter b tag.now value).answer _ _
as_replied b (Change tag value) buffer = plain Changed (λ a x y. refl) (change b tag.now value).answer _ _
as_replied b (Find tag) buffer = plain Looked (λ a x y. refl) (find b tag.now) _ _
as_replied b (Strike tag) buffer = plain Struck (λ a x y. refl) (strike b tag.now).answer _ _
as_replied b (Spell ticket size) buffer = refl
as_replied b Double buffer = plain Doubled (λ a x y. refl) (double b).answer _ _

-- the answer to a call is printed as that to the order
pub said : (b : Book ℕ) (c : Call ℕ) (o : Order) (a : Answered ℕ) (given buffer : List ℕ) → request_of c given ≡ request_for o
    → a ≡ (turn b (request_of c given)).answer → buffer ≡ leaves b c given
    → answer_text a buffer ≡ answer_text (reply_to b (request_for o)).answer (reply_to b (request_for o)).buffer
said b c o a given buffer asked e f =
    ap (λ (x : Answered ℕ). answer_text x buffer) e
    ∙ ap (λ (y : List ℕ). answer_text (turn b (request_of c given)).answer y) f
    ∙ as_replied b c given
    ∙ ap (λ (q : Request ℕ). answer_text (turn b q).answer (buffer_after b q)) asked

pub refused_text : (a : Answered ℕ) (buffer : List ℕ) (why : Refusal) → a ≡ Err why → answer_text a buffer ≡ labelled "refused " (refusal_number why)
refused_text a buffer why e = ap (λ (x : Answered ℕ). answer_text x buffer) e

-- a text that is known
pub wrote_as : {o o' : Output} {text other : List ℕ} → text ≡ other → Wrote o text o' → Wrote o other o'
wrote_as {o} {o'} e w = subst (λ (t : List ℕ). Wrote o t o') e w
