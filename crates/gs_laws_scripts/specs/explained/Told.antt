-- What a client is answered where each answer is of what stands, and what its lines of files come to then.
-- Nothing is said of nodes here, only how the plain machine goes on with each request.
use Rattle.std.specs.Prelude.{Bool, Err, List, MatchBool, None, Ok, Result, Some, [], codes, drop, false, length, refl, take, true, ℕ, ◌<◌, ◌∷◌, ◌≡◌, ◌≢◌, ◌≤◌, ◌⊎◌}
use Rattle.std.specs.List.{AllByRecursion}
use Rattle.gs_base.specs.declared.refusal.Refusal.{Refusal}
use Rattle.gs_base.specs.declared.refusal.Refusal.TheVariants as refusals
use Rattle.gs_client.specs.Reading.{stat_call}
use Rattle.gs_client.specs.Replies.{changed, edited, looked}
use Rattle.gs_client.specs.declared.link.Reply.{Reply}
use Rattle.gs_client.specs.declared.link.Reply.TheVariants as replies
use Rattle.gs_client_dialogue.specs.Heard.{Says}
use Rattle.gs_client_part.specs.Writing.{most_chunks}
use Rattle.gs_msg.specs.declared.answer.Answer.{Answer as Said}
use Rattle.gs_msg.specs.declared.answer.Answer.TheVariants as says
use Rattle.gs_msg.specs.declared.answer.Status.TheVariants as statuses
use Rattle.gs_msg.specs.declared.body.Given.{Given}
use Rattle.gs_msg.specs.declared.body.Given.TheVariants as givens
use Rattle.gs_msg.specs.declared.call.Call.TheVariants as calls
use Rattle.gs_msg.specs.declared.chunk.Asked.{Asked}
use Rattle.gs_msg.specs.declared.chunk.Asked.TheVariants as asks
use Rattle.gs_msg.specs.declared.event.Request.{Request}
use Rattle.gs_msg.specs.declared.event.Request.TheVariants as requests
use Rattle.gs_msg.specs.declared.op.Op.TheVariants as ops
use Rattle.gs_path.specs.Path.{Path}
use Rattle.gs_path.specs.Rules.{parse, parse_hidden}
use Rattle.gs_replica.specs.declared.op.EditOutcome.{EditOutcome}
use Rattle.gs_replica.specs.declared.op.EditOutcome.TheVariants as outcomes
use Rattle.gs_shell_calls.specs.Asked as asked
use Rattle.gs_shell_calls.specs.declared.answer.Answer.{Answer}
use Rattle.gs_shell_calls.specs.declared.answer.Answer.TheVariants as answers
use Rattle.gs_shell_grammar.specs.Grammar as lines
use Rattle.gs_tree.specs.Edits.{chunks_in}
use Rattle.gs_tree.specs.Entry.{Dir, File}
use Rattle.gs_tree.specs.Find.{at}
use Rattle.gs_laws_scripts.specs.explained.Lines.{Adds, Edits, IsNoLook, IsOfStore, IsSeenFull, Leads, MayBe, done, is_too_long}
use Rattle.gs_laws_scripts.specs.explained.Machine.{Machine, Payment, Text, fits, is_preparing, is_rolling, new_machine, new_text, paid_now, settled_each, text_at, with_rows}
use Rattle.gs_laws_scripts.specs.explained.Machine as machines
use Rattle.std.proofs.Common.{arith, inl}
use Rattle.gs_lease.specs.declared.view.View.{View}
use Rattle.std.specs.Char.{encode_utf8}
use Rattle.std.specs.Str.{chars, is_utf8}

-- ---- refusals

-- Either the store refuses, and nothing is done. Or nobody is sure, and this may have happened.
abbrev pub IsLeft : (MayBe : Machine → Type 0) (old : Machine) → Refusal → Machine → Type 0
IsLeft MayBe old refusal new = (IsOfStore refusal × (new ≡ old)) ⊎ ((refusal ≡ refusals.Unsure) × MayBe new)

-- ---- what the master says

-- A status tells of a directory, or of a file with how many chunks it has, which are no more than a file may have. Where nothing stands it is NotFound.
abbrev pub TellsStatus : Machine → Path → Result Said Refusal → Type 0
TellsStatus now p (Ok (says.Status statuses.Directory)) = (is_rolling now.phase ≡ false) × (at now.plain.tree p ≡ Some Dir)
TellsStatus now p (Ok (says.Status (statuses.File chunks))) =
    (is_rolling now.phase ≡ false) × (texts : List Text) × (at now.plain.tree p ≡ Some (File texts)) × (length chunks ≡ length texts) × (length texts ≤ most_chunks)
TellsStatus now p (Ok said) = ⊥
TellsStatus now p (Err refusal) = IsNoLook refusal ⊎ ((refusal ≡ refusals.NotFound) × (is_rolling now.phase ≡ false) × (at now.plain.tree p ≡ None))

-- A chunk is added right after the last one, or is found. Or that is refused, or may be done.
abbrev pub TellsAdded : ℕ → Machine → Path → ℕ → Result Said Refusal → Machine → Type 0
TellsAdded size now p index (Ok (says.Location handle view epoch)) new = (is_preparing now.phase ≡ false) × (new ≡ done size (Adds p index) now)
TellsAdded size now p index (Ok said) new = ⊥
TellsAdded size now p index (Err refusal) new = IsLeft (MayBe (Adds p index) now) now refusal new

-- ---- what a primary says

-- a record that is too long
abbrev pub is_over : ℕ → machines.Edit → Bool
is_over size (machines.Write offset bytes) = false
is_over size (machines.Append bytes) = is_too_long size bytes

-- What an edit of a text came to that is done. A record that fits stands after the text, and one that doesn't has filled it up.
abbrev pub IsOutcome : ℕ → List ℕ → machines.Edit → EditOutcome → Type 0
IsOutcome size text (machines.Write offset bytes) outcomes.Written = Unit {0}
IsOutcome size text (machines.Append bytes) (outcomes.Appended offset) = (is_too_long size bytes ≡ false) × (fits size bytes text ≡ true) × (offset ≡ length text)
IsOutcome size text (machines.Append bytes) outcomes.Padded = (is_too_long size bytes ≡ false) × (fits size bytes text ≡ false)
IsOutcome size text edit outcome = ⊥

-- A record passes a text that would be full with some of what is owed to it.
abbrev pub IsPassed : ℕ → Text → machines.Edit → EditOutcome → Type 0
IsPassed size text (machines.Append bytes) outcomes.Padded = (is_too_long size bytes ≡ false) × IsSeenFull size text
IsPassed size text edit outcome = ⊥

-- An edit that is told done is done at its place, while no prepare is under way; or it has passed, and nothing is done. One that nobody is sure of may be owed there. A record that is too long is owed nowhere.
abbrev pub TellsEdited : ℕ → Machine → Path → ℕ → machines.Edit → Result EditOutcome Refusal → Machine → Type 0
TellsEdited size now p index edit (Ok outcome) new =
    (is_preparing now.phase ≡ false) × ((IsOutcome size (text_at p index now).bytes edit outcome × (new ≡ done size (Edits p index edit) now)) ⊎ (IsPassed size (text_at p index now) edit outcome × (new ≡ now)))
TellsEdited size now p index edit (Err refusal) new =
    MatchBool (is_over size edit) (((refusal ≡ refusals.TooLong) × (new ≡ now)) ⊎ IsLeft (λ made. made ≡ now) now refusal new) (IsLeft (MayBe (Edits p index edit) now) now refusal new)

-- ---- what a member gives

-- a part of some bytes: how many there are, or those from an offset on
abbrev pub IsPartOf : List ℕ → Asked → Given → Type 0
IsPartOf text asks.Length (givens.Length many) = many ≡ length text
IsPartOf text (asks.Bytes offset many) (givens.Bytes bytes) = bytes ≡ take many (drop offset text)
IsPartOf text asked given = ⊥

-- it is given of the text with some of the edits made that are owed to it, which is no longer than a chunk
abbrev pub IsGiven : ℕ → Text → Asked → Given → Type 0
IsGiven size text asked given = (pick : List ℕ) × (length (settled_each size pick text).bytes ≤ size) × IsPartOf (settled_each size pick text).bytes asked given

abbrev pub TellsPart : ℕ → Text → Asked → Reply → Type 0
TellsPart size text asked (replies.Given given) = IsGiven size text asked given
TellsPart size text asked (replies.Refused refusal) = IsOfStore refusal
TellsPart size text asked replies.Lost = Unit {0}
TellsPart size text asked reply = ⊥

-- ---- any request

-- With chunks of a size, and the place of each chunk that a line is told of.
module _ (size : ℕ) (places : ℕ → Path × ℕ) where
  -- A location is of the chunk at the path and the index that were asked for.
  abbrev pub TellsPlace : Machine → Path → ℕ → Result Said Refusal → Type 0
  TellsPlace now p index (Ok (says.Location handle view epoch)) = places handle ≡ (p, index)
  TellsPlace now p index (Ok said) = ⊥
  TellsPlace now p index (Err refusal) = IsNoLook refusal

  -- One for writing has a primary, and is given while no prepare is under way.
  abbrev pub TellsPrimary : Machine → Path → ℕ → Result Said Refusal → Type 0
  TellsPrimary now p index (Ok (says.Location handle view epoch)) = (places handle ≡ (p, index)) × (view.term ≢ None) × (is_preparing now.phase ≡ false) × (index < length (chunks_in (at now.plain.tree p)))
  TellsPrimary now p index (Ok said) = ⊥
  TellsPrimary now p index (Err refusal) = IsOfStore refusal

  -- what a request is answered of what stands, and the machine after it
  abbrev pub Tells : Machine → Request → Reply → Machine → Type 0
  Tells now (requests.Call (calls.Status p)) reply new = TellsStatus now p (looked reply) × (new ≡ now)
  Tells now (requests.Call (calls.FindForReading p index)) reply new = TellsPlace now p index (looked reply) × (new ≡ now)
  Tells now (requests.Call (calls.FindForWriting p index avoided)) reply new = TellsPrimary now p index (looked reply) × (new ≡ now)
  Tells now (requests.Call (calls.Extend p index)) reply new = TellsAdded size now p index (changed reply) new
  Tells now (requests.Fetch to handle stamp epoch asked) reply new = TellsPart size (text_at (places handle).0 (places handle).1 now) asked reply × (new ≡ now)
  Tells now (requests.Write handle members primary stamp (ops.Write offset many) bytes) reply new = TellsEdited size now (places handle).0 (places handle).1 (machines.Write offset bytes) (edited reply) new
  Tells now (requests.Write handle members primary stamp (ops.Append many) bytes) reply new = TellsEdited size now (places handle).0 (places handle).1 (machines.Append bytes) (edited reply) new
  Tells now request reply new = ⊥

  -- before it some of what is owed is paid
  abbrev pub Pays : Machine → Request → Reply → Machine → Type 0
  Pays old request reply new = (payments : List Payment) × Tells (paid_now size payments old) request reply new

-- requests and their answers, one after the other
abbrev pub Each : (Machine → Request → Reply → Machine → Type 0) → Machine → List (Request × Reply) → Machine → Type 0
Each Goes old [] new = new ≡ old
Each Goes old (pair ∷ pairs) new = (mid : Machine) × Goes old pair.0 pair.1 mid × Each Goes mid pairs new

-- ---- what is to hold

-- A line is answered as the machine allows. Or memory is wanting for a path that is none, before that is seen.
abbrev pub IsExplained : ℕ → ℕ → lines.Request → Machine → Result Answer Refusal → Machine → Type 0
IsExplained size block request old answer new = Leads size block request old answer new ⊎ ((answer ≡ Err refusals.Memory) × (new ≡ old))

-- This holds of a write and of an append, where each request is answered of what stands, and before each some of what is owed may be paid.
abbrev pub WritesAreExplained : Type 0
WritesAreExplained = (size block : ℕ) (places : ℕ → Path × ℕ) (path : List ℕ) (offset : ℕ) (bytes : List ℕ) (pairs : List (Request × Reply)) (answer : Result Answer Refusal) (old new : Machine)
    → Says (asked.on (parse path) (asked.with_file (asked.write_to size offset bytes)) asked.done) pairs answer → Each (Pays size places) old pairs new → IsExplained size block (lines.Write path offset bytes) old answer new

abbrev pub AppendsAreExplained : Type 0
AppendsAreExplained = (size block : ℕ) (places : ℕ → Path × ℕ) (path bytes : List ℕ) (pairs : List (Request × Reply)) (answer : Result Answer Refusal) (old new : Machine)
    → Says (asked.on (parse path) (asked.with_file (asked.append_to size bytes)) answers.Number) pairs answer → Each (Pays size places) old pairs new → IsExplained size block (lines.Append path bytes) old answer new

-- each text of a file is within a size
abbrev pub AreWithin : ℕ → List Text → Type 0
AreWithin size texts = AllByRecursion (λ text. length text.bytes ≤ size) texts

-- It holds of a status, where no text is longer than a chunk. What is owed is paid after it.
abbrev pub StatsAreExplained : Type 0
StatsAreExplained = (size block : ℕ) (places : ℕ → Path × ℕ) (path : List ℕ) (pairs : List (Request × Reply)) (answer : Result Answer Refusal) (old new : Machine) → ((p : Path) → AreWithin size (chunks_in (at old.plain.tree p)))
    → Says (asked.on (parse_hidden path) (stat_call size) answers.Stat) pairs answer → Each (Tells size places) old pairs new → IsExplained size block (lines.Stat path) old answer new

-- It holds of a read under the same conditions.
abbrev pub ReadsAreExplained : Type 0
ReadsAreExplained = (size block : ℕ) (places : ℕ → Path × ℕ) (path : List ℕ) (offset many : ℕ) (pairs : List (Request × Reply)) (answer : Result Answer Refusal) (old new : Machine) → 0 < size → ((p : Path) → AreWithin size (chunks_in (at old.plain.tree p)))
    → Says (asked.on (parse_hidden path) (asked.with_file (asked.read_of size offset many)) asked.given_bytes) pairs answer → Each (Tells size places) old pairs new → IsExplained size block (lines.Read path offset many) old answer new

-- ---- Worked: a file of an empty chunk gets a byte

abbrev f : Path
f = codes "f" ∷ []

abbrev one_file : Machine
one_file = with_rows (([], Dir) ∷ (f, File (new_text ∷ [])) ∷ []) new_machine

abbrev a_view : View
a_view = record { stamp = record { epoch = 0; version = 3 }; count = 0; members = 0 ∷ 1 ∷ []; term = Some (record { primary = 1; end = record { 0 = 60 } }) }

abbrev at_f : ℕ → Path × ℕ
at_f handle = (f, 0)

abbrev a_write : List (Request × Reply)
a_write =
    (requests.Call (calls.Status f), replies.Answer (says.Status (statuses.File (record { handle = 7; references = 1; members = 0 ∷ 1 ∷ [] } ∷ []))))
    ∷ (requests.Call (calls.FindForWriting f 0 None), replies.Answer (says.Location 7 a_view 0))
    ∷ (requests.Write 7 (0 ∷ 1 ∷ []) 1 (record { epoch = 0; version = 3 }) (ops.Write 0 1) (97 ∷ []), replies.Outcome outcomes.Written) ∷ []

it_is_told : Each (Pays 16 at_f) one_file a_write (done 16 (Edits f 0 (machines.Write 0 (97 ∷ []))) one_file)
it_is_told = (
  one_file,
  ([], ((refl, new_text ∷ [], refl, refl, omega arith), refl)),
  (
    one_file,
    ([], ((refl, (λ none. absurd (cc)), refl, omega arith), refl)),
    (done 16 (Edits f 0 (machines.Write 0 (97 ∷ []))) one_file, ([], (refl, inl (tt, refl))), refl),
  ),
)

it_is_said : Says (asked.on (parse (codes "/f")) (asked.with_file (asked.write_to 16 0 (97 ∷ []))) asked.done) a_write (Ok answers.Done)
unfolding is_utf8 chars encode_utf8
it_is_said = inl (inl (_, _, refl, inl (_, _, refl, inl (_, _, refl, (refl, refl)))))
