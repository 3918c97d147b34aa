-- what is printed for the lines of a bench list
use Rattle.std.specs.Prelude.{ℕ, List, [], ◌∷◌, ◌++◌, take, replicate, Some, None, Ok, Err, codes, decimal, Option}
use Prim.Native.String.{String}
use Rattle.tags.specs.declared.refusal.Refusal.TheVariants.{UnfitParts}
use Rattle.tags.specs.Refusals.{refusal_number}
use Rattle.rules.specs.declared.answers.Found.{Found}
use Rattle.rules.specs.declared.answers.Held.{Held}
use Rattle.rules.specs.declared.answers.Answer.TheVariants.{Entered, Changed, Struck, Looked, Spelled, Doubled}
use Rattle.rules.specs.Book.{nodes, label_bytes}
use Rattle.rules.specs.Calls.{Book}
use Rattle.rules.specs.Runs.{Answered, Request, Enter, Change, Find, Strike, Spell, Double, turn, Reply, reply_to}
use Rattle.rules.specs.Tree.{bytes_in}
use Rattle.parts.specs.Maps.{Map, count_of}
use Rattle.parts.specs.Stores.{Store}
use Rattle.commands.specs.Commands.{Order, enter, change, find, strike, spell, double, read_line}

-- a word and a number in decimal
abbrev pub labelled : String → ℕ → List ℕ
labelled word n = codes word ++ decimal n

abbrev pub found_with : Option (Held ℕ) → ℕ → List ℕ
found_with (Some held) moves = labelled "found " held.ticket ++ labelled " " held.value ++ labelled " " moves
found_with None moves = labelled "absent " moves

abbrev pub found_text : Found ℕ → List ℕ
found_text found = found_with found.held found.moves

-- an answer, or why a call is refused; a spelled tag stands at the buffer's beginning
abbrev pub answer_text : Answered ℕ → List ℕ → List ℕ
answer_text (Ok (Entered ticket)) buffer = labelled "entered " ticket
answer_text (Ok (Changed ticket)) buffer = labelled "changed " ticket
answer_text (Ok (Struck ticket)) buffer = labelled "struck " ticket
answer_text (Ok (Looked found)) buffer = found_text found
answer_text (Ok (Spelled length)) buffer = codes "spelled " ++ take length buffer
answer_text (Ok (Doubled room)) buffer = labelled "doubled " room
answer_text (Err why) buffer = labelled "refused " (refusal_number why)

-- every line that is printed ends with byte 10
abbrev pub ended : List ℕ → List ℕ
ended text = text ++ (10 ∷ [])

abbrev pub unread : List ℕ
unread = ended (codes "unread")

abbrev pub reply_text : Reply ℕ → List ℕ
reply_text reply = ended (answer_text reply.answer reply.buffer)

-- what an order asks of the book; a spell brings a buffer for the longest tag
abbrev pub request_for : Order → Request ℕ
request_for (enter p) = Enter p.tag p.amount
request_for (change p) = Change p.tag p.amount
request_for (find tag) = Find tag
request_for (strike tag) = Strike tag
request_for (spell ticket) = Spell ticket (replicate 200 0)
request_for double = Double

-- how many bytes of buffer an order brings
abbrev pub buffer_for : Order → ℕ
buffer_for (enter p) = 0
buffer_for (change p) = 0
buffer_for (find tag) = 0
buffer_for (strike tag) = 0
buffer_for (spell ticket) = 200
buffer_for double = 0

-- what is printed for what was read of a line, and the book after it; what is not read changes nothing
abbrev pub order_text : Book ℕ → Option Order → List ℕ
order_text book None = unread
order_text book (Some order) = reply_text (reply_to book (request_for order))

abbrev pub order_next : Book ℕ → Option Order → Book ℕ
order_next book None = book
order_next book (Some order) = (turn book (request_for order)).next

-- what is printed for lines in their order, and the book after them
abbrev pub lines_text : Book ℕ → List (List ℕ) → List ℕ
lines_text book [] = []
lines_text book (line ∷ rest) = order_text book (read_line line) ++ lines_text (order_next book (read_line line)) rest

abbrev pub lines_next : Book ℕ → List (List ℕ) → Book ℕ
lines_next book [] = book
lines_next book (line ∷ rest) = lines_next (order_next book (read_line line)) rest

-- the last line
abbrev pub totals_text : ℕ → ℕ → List ℕ
totals_text node_count byte_count = ended (labelled "nodes " node_count ++ labelled " bytes " byte_count)

-- all that is printed: a line for each line, and the totals of the book at the end
abbrev pub printed : Book ℕ → List (List ℕ) → List ℕ
printed book list = lines_text book list ++ totals_text (nodes (lines_next book list).rows) (label_bytes (lines_next book list).rows)

-- the same over parts that do not fit: each line that is read is refused, and the totals are those of the parts
abbrev pub unfit_order : Option Order → List ℕ
unfit_order None = unread
unfit_order (Some order) = ended (labelled "refused " (refusal_number UnfitParts))

abbrev pub unfit_lines : List (List ℕ) → List ℕ
unfit_lines [] = []
unfit_lines (line ∷ rest) = unfit_order (read_line line) ++ unfit_lines rest

abbrev pub printed_unfit : Map → Store → List (List ℕ) → List ℕ
printed_unfit m l list = unfit_lines list ++ totals_text (count_of m) (bytes_in l.labels)
