-- What a line may be answered, and where that leads the machine.
use Rattle.std.specs.Prelude.{[], ◌&&◌, ◌*◌, ◌+◌, ◌++◌, ◌-◌, ◌/◌, ◌==◌, ◌||◌, ◌∷◌, ◌≡◌, ◌⊎◌, Bool, Err, List, MatchBool, MatchOption, None, Ok, Option, Result, Some, drop, false, if◌then◌else◌, length, map, min, nat_le, nat_lt, slice_get, suc, take, true, zero, ℕ, ◌<◌}
use Rattle.std.specs.List.{range_with_len}
use Rattle.gs_base.specs.Refusals.{number_of}
use Rattle.gs_base.specs.declared.refusal.Refusal.{Refusal}
use Rattle.gs_base.specs.declared.refusal.Refusal.TheVariants as refusals
use Rattle.gs_block.specs.Stored.{block_at, digest_at}
use Rattle.gs_client.specs.declared.reading.Stat.TheVariants as stats
use Rattle.gs_client_part.specs.Writing.{chunks_to, is_out, most_chunks, part_bytes, part_count, part_start}
use Rattle.gs_laws_plain.specs.commands.Commands.{joined}
use Rattle.gs_msg.specs.declared.answer.Answer.{Answer as Said}
use Rattle.gs_msg.specs.declared.answer.Answer.TheVariants as says
use Rattle.gs_msg.specs.declared.answer.ChunkStatus.{ChunkStatus}
use Rattle.gs_msg.specs.declared.answer.Phase.TheVariants as phases
use Rattle.gs_msg.specs.declared.call.Call.{Call}
use Rattle.gs_msg.specs.declared.call.Call.TheVariants as calls
use Rattle.gs_path.specs.Path.{Path}
use Rattle.gs_path.specs.Rules.{parse, parse_hidden}
use Rattle.gs_shell_calls.specs.Asked.{answered, is_unquiet}
use Rattle.gs_shell_calls.specs.declared.answer.Answer.{Answer}
use Rattle.gs_shell_calls.specs.declared.answer.Answer.TheVariants as answers
use Rattle.gs_shell_desk.specs.Answering.{IsText}
use Rattle.gs_shell_grammar.specs.Grammar.{Request, line_request}
use Rattle.gs_shell_grammar.specs.Grammar as lines
use Rattle.gs_shell_grammar.specs.declared.command.Restarted.TheVariants as restarted
use Rattle.gs_shell_grammar.specs.declared.command.Upgrade.{Upgrade}
use Rattle.gs_shell_grammar.specs.declared.command.Upgrade.TheVariants as upgrades
use Rattle.gs_shell_grammar.specs.declared.command.UpgradeStep.{UpgradeStep}
use Rattle.gs_shell_grammar.specs.declared.command.UpgradeStep.TheVariants as steps
use Rattle.gs_laws_scripts.specs.plain.Machines.{call_of, shown}
use Rattle.gs_shell_script.specs.Run.{Runs}
use Rattle.gs_tree.specs.Entry.{Dir, Entry, File}
use Rattle.gs_tree.specs.Find.{at}
use Rattle.gs_laws_scripts.specs.explained.Machine.{Machine, Payment, Text, at_place, called, fits, is_preparing, is_rolling, may_wait, new_machine, overtaking, paid_each, paid_now, settled_each, swept, text_at, with_edit}
use Rattle.gs_laws_scripts.specs.explained.Machine as machines

-- ---- refusals

-- Locks (10), a prepare or a rollback that is begun (11, 12), chunks that aren't quiet or have no answer (15, 16), servers (17), epochs (18), old numbers (19), leases (20, 21), stamps (22), pushed bytes (24), damage (27), replicas (28), room (30), counters (31), disks (32), memory (33) and calls that wait (36):
-- the machine knows nothing of these, and the store may refuse by them whatever it likes.
abbrev pub is_of_store : ℕ → Bool
is_of_store n = (nat_le 10 n && nat_le n 12) || ((nat_le 15 n && nat_le n 22) || ((n == 24) || ((nat_le 27 n && nat_le n 28) || ((nat_le 30 n && nat_le n 33) || (n == 36)))))

-- such a refusal
abbrev pub IsOfStore : Refusal → Type 0
IsOfStore refusal = is_of_store (number_of refusal) ≡ true

-- What only looks may be refused so, whatever stands: by the store, or since nobody is sure of it. It has done nothing then.
abbrev pub IsNoLook : Refusal → Type 0
IsNoLook refusal = IsOfStore refusal ⊎ (refusal ≡ refusals.Unsure)

-- Either the store refuses, and nothing is done. Or nobody is sure, and this may have happened.
abbrev pub IsPutOff : {A : Type 0} (MayBe : Machine → Type 0) (old : Machine) → Result A Refusal → Machine → Type 0
IsPutOff MayBe old result new = (refusal : Refusal) × (result ≡ Err refusal) × ((IsOfStore refusal × (new ≡ old)) ⊎ ((refusal ≡ refusals.Unsure) × MayBe new))

-- ---- one call

-- as the machine says, but for how many chunks a scan forgot
abbrev pub IsSaid : Result Said Refusal → Result Said Refusal → Type 0
IsSaid (Ok (says.Scanned removed any)) said = (forgotten : ℕ) × (said ≡ Ok (says.Scanned removed forgotten))
IsSaid plain said = said ≡ plain

-- some of the entries that a scan removes go, one after the other
abbrev pub swept_each : List Path → Machine → Machine
swept_each [] m = m
swept_each (p ∷ paths) m = swept_each paths (swept p m)

-- A call of which nobody is sure is late, or it is done, or it waits. A scan may also have removed some entries, where a disk failed. A call that only looks has done nothing.
abbrev pub MayBeDone : Call → Machine → Machine → Type 0
MayBeDone (calls.List p) old new = new ≡ old
MayBeDone calls.Query old new = new ≡ old
MayBeDone calls.Scan old new = (new ≡ record old { late = old.late ++ calls.Scan ∷ [] }) ⊎ ((new ≡ (called calls.Scan old).1) ⊎ ((paths : List Path) × (new ≡ swept_each paths old)))
MayBeDone call old new =
    (new ≡ record old { late = old.late ++ call ∷ [] }) ⊎ ((new ≡ overtaking call [] (called call old)) ⊎ ((may_wait call ≡ true) × (new ≡ record old { waiting = old.waiting ++ call ∷ [] })))

-- a call is done as the machine does it, or is put off
abbrev pub AsksNow : Call → Machine → Result Said Refusal → Machine → Type 0
AsksNow call old said new = (IsSaid (called call old).0 said × (new ≡ (called call old).1)) ⊎ IsPutOff (MayBeDone call old) old said new

-- Some of what is owed is paid. Then the call is done as the machine does it, or is put off.
abbrev pub Asks : ℕ → Call → Machine → Result Said Refusal → Machine → Type 0
Asks size call old said new = (payments : List Payment) × AsksNow call (paid_now size payments old) said new

-- how a line shows what was said
abbrev pub told : Said → Answer
told (says.Epoch epoch) = answers.Number epoch
told (says.Phase phase epoch) = answers.Phase phase epoch
told (says.Scanned removed forgotten) = answers.Scanned removed forgotten
told said = shown said

-- a line of one call
abbrev pub AsksOne : ℕ → Call → Machine → Result Answer Refusal → Machine → Type 0
AsksOne size call old answer new = (said : Result Said Refusal) × Asks size call old said new × (answer ≡ answered told said)

-- ---- lines of the tree

-- A change that is accepted overtakes each late call.
abbrev pub overtaken : Call → Result Said Refusal × Machine → Machine
overtaken (calls.List p) found = found.1
overtaken call found = overtaking call [] found

-- a line of one call of the tree; of paths that are none the refusal
abbrev pub AsksTree : ℕ → Result Call Refusal → Machine → Result Answer Refusal → Machine → Type 0
AsksTree size (Err refusal) old answer new = (answer ≡ Err refusal) × (new ≡ old)
AsksTree size (Ok call) old answer new = (said : Result Said Refusal) × (mid : Machine) × Asks size call old said mid × (answer ≡ answered told said) × (new ≡ overtaken call (said, mid))

-- ---- lines of an upgrade

-- two calls, the second where the first is accepted
abbrev pub AsksBoth : ℕ → Call → Call → Machine → Result Answer Refusal → Machine → Type 0
AsksBoth size begin commit old answer new =
    ((refusal : Refusal) × Asks size begin old (Err refusal) new × (answer ≡ Err refusal))
    ⊎ ((said : Said) × (begun : Machine) × Asks size begin old (Ok said) begun × AsksOne size commit begun answer new)

-- a prepare that finds a chunk that isn't quiet asks to be given up
abbrev pub GivesUp : ℕ → Result Answer Refusal → Machine → Machine → Type 0
GivesUp size (Ok answer) old new = new ≡ old
GivesUp size (Err refusal) old new = MatchBool (is_unquiet refusal) ((said : Result Said Refusal) × Asks size calls.PrepareAbort old said new) (new ≡ old)

-- a prepare and a rollback are two calls each
abbrev pub Upgrades : ℕ → Upgrade → Machine → Result Answer Refusal → Machine → Type 0
Upgrades size upgrades.Query old answer new = AsksOne size calls.Query old answer new
Upgrades size upgrades.Prepare old answer new = (mid : Machine) × AsksBoth size calls.PrepareBegin calls.PrepareCommit old answer mid × GivesUp size answer mid new
Upgrades size upgrades.Finalize old answer new = AsksOne size calls.Finalize old answer new
Upgrades size upgrades.Rollback old answer new = AsksBoth size calls.RollbackBegin calls.RollbackCommit old answer new

-- half of a prepare, or of a rollback
abbrev pub step_of : UpgradeStep → Call
step_of steps.PrepareBegin = calls.PrepareBegin
step_of steps.PrepareCommit = calls.PrepareCommit
step_of steps.RollbackBegin = calls.RollbackBegin
step_of steps.RollbackCommit = calls.RollbackCommit

-- ---- lines of files

-- What a line finds at its path, after some of what is owed is paid. Or it doesn't come to look: the store refuses, as it does while it rolls back, or nobody is sure.
abbrev pub OnPath : ℕ → Result Path Refusal → (Path → Option (Entry Text) → Machine → Result Answer Refusal → Machine → Type 0) → Machine → Result Answer Refusal → Machine → Type 0
OnPath size (Err refusal) Does old answer new = (answer ≡ Err refusal) × (new ≡ old)
OnPath size (Ok p) Does old answer new = (payments : List Payment) × (now : Machine) × (now ≡ paid_now size payments old)
    × (((refusal : Refusal) × (answer ≡ Err refusal) × IsNoLook refusal × (new ≡ now)) ⊎ ((is_rolling now.phase ≡ false) × Does p (at now.plain.tree p) now answer new))

-- the same of a file alone
abbrev pub OfFile : (Path → List Text → Machine → Result Answer Refusal → Machine → Type 0) → Path → Option (Entry Text) → Machine → Result Answer Refusal → Machine → Type 0
OfFile Does p None old answer new = (answer ≡ Err refusals.NotFound) × (new ≡ old)
OfFile Does p (Some Dir) old answer new = (answer ≡ Err refusals.IsADirectory) × (new ≡ old)
OfFile Does p (Some (File texts)) old answer new = Does p texts old answer new

-- ---- what is read

-- The bytes of a file as they may be seen: each text with some of the edits made that are owed to it, by their places. They stay owed.
abbrev pub seen_each : ℕ → List (List ℕ) → List Text → List (List ℕ)
seen_each size picks [] = []
seen_each size [] (text ∷ texts) = text.bytes ∷ seen_each size [] texts
seen_each size (pick ∷ picks) (text ∷ texts) = (settled_each size pick text).bytes ∷ seen_each size picks texts

-- joined, each but the last filled with zeros
abbrev pub seen : ℕ → List (List ℕ) → List Text → List ℕ
seen size picks texts = joined size (seen_each size picks texts)

-- A read looks up first where the file ends, and then its bytes. It may see other edits made at the two. So fewer bytes may come than the end allows.
abbrev pub read_in : ℕ → ℕ → List ℕ → List ℕ → Result (List ℕ) Refusal
read_in offset many first bytes = if nat_lt (length first) offset then Err refusals.Range else Ok (take (min (offset + many) (length first) - offset) (drop offset bytes))

-- bytes of a file
abbrev pub Reads : ℕ → ℕ → ℕ → Path → List Text → Machine → Result Answer Refusal → Machine → Type 0
Reads size offset many p texts old answer new = (first : List (List ℕ)) × (second : List (List ℕ)) × (answer ≡ answered answers.Bytes (read_in offset many (seen size first texts) (seen size second texts))) × (new ≡ old)

-- the digest of a block of a text, if the block has bytes
abbrev pub digest_in : ℕ → ℕ → Option (List ℕ) → Result (List ℕ) Refusal
digest_in block index None = Err refusals.Range
digest_in block index (Some bytes) = if length (block_at block index bytes) == 0 then Err refusals.Range else Ok (digest_at block bytes index)

-- a digest of a file's block
abbrev pub Digests : ℕ → ℕ → ℕ → ℕ → Path → List Text → Machine → Result Answer Refusal → Machine → Type 0
Digests size block chunk index p texts old answer new =
    (picks : List (List ℕ)) × (answer ≡ answered answers.Digest (digest_in block index (slice_get (seen_each size picks texts) chunk))) × (new ≡ old)

-- of a file its size is told, and something of each chunk, of which only the number is said here
abbrev pub Stats : ℕ → Path → Option (Entry Text) → Machine → Result Answer Refusal → Machine → Type 0
Stats size p None old answer new = (answer ≡ Err refusals.NotFound) × (new ≡ old)
Stats size p (Some Dir) old answer new = (answer ≡ Ok (answers.Stat stats.Directory)) × (new ≡ old)
Stats size p (Some (File texts)) old answer new =
    (picks : List (List ℕ)) × (chunks : List ChunkStatus) × (length chunks ≡ length texts) × (answer ≡ Ok (answers.Stat (stats.File (length (seen size picks texts)) chunks))) × (new ≡ old)

-- ---- what is written

-- a part of what a line does: a file gets a chunk more, or a text is edited
pub data Part : Type 0 where
  Adds : Path → ℕ → Part
  Edits : Path → ℕ → machines.Edit → Part

-- the machine after a part that is done
abbrev pub done : ℕ → Part → Machine → Machine
done size (Adds p index) m = (called (calls.Extend p index) m).1
done size (Edits p index edit) m = at_place p index (with_edit size edit []) m

-- of a part of which nobody is sure: an edit is owed to its text
abbrev pub MayBe : Part → Machine → Machine → Type 0
MayBe (Adds p index) old new = MayBeDone (calls.Extend p index) old new
MayBe (Edits p index edit) old new = new ≡ at_place p index (λ text. record text { owed = text.owed ++ edit ∷ [] }) old

-- The parts are done one after the other, up to one that is put off. Those before it stand. Before each some of what is owed is paid. None is done while a prepare is under way.
abbrev pub DoesEach : ℕ → List Part → Machine → Result Answer Refusal → Machine → Type 0
DoesEach size [] old answer new = (answer ≡ Ok answers.Done) × (new ≡ old)
DoesEach size (part ∷ parts) old answer new = (payments : List Payment) × (now : Machine) × (now ≡ paid_now size payments old)
    × (IsPutOff (MayBe part now) now answer new ⊎ ((is_preparing now.phase ≡ false) × DoesEach size parts (done size part now) answer new))

-- a write adds the chunks that are missing, and then edits one text after the other
abbrev pub parts_of : ℕ → Path → ℕ → ℕ → List ℕ → List Part
parts_of size p chunks offset bytes =
    map (λ index. Adds p index) (range_with_len chunks (chunks_to size offset bytes - chunks))
    ++ map (λ i. Edits p (offset / size + i) (machines.Write (part_start size offset i) (part_bytes size offset bytes i))) (range_with_len 0 (part_count size offset bytes))

-- a write of no bytes, or past the last chunk that a file may have, is refused
abbrev pub Writes : ℕ → ℕ → List ℕ → Path → List Text → Machine → Result Answer Refusal → Machine → Type 0
Writes size offset bytes p texts old answer new =
    MatchBool (is_out size offset bytes) ((answer ≡ Err refusals.Range) × (new ≡ old)) (DoesEach size (parts_of size p (length texts) offset bytes) old answer new)

-- A record that fits after the text at a place is put there, and the answer is where in the file it stands. One that doesn't fit fills the text up, and goes on.
abbrev pub LandsOr : ℕ → Path → List ℕ → ℕ → (Machine → Type 0) → Machine → Result Answer Refusal → Machine → Type 0
LandsOr size p bytes index GoesOn old answer new =
    MatchBool (fits size bytes (text_at p index old).bytes) ((answer ≡ Ok (answers.Number (index * size + length (text_at p index old).bytes))) × (new ≡ done size (Edits p index (machines.Append bytes)) old))
    (GoesOn (done size (Edits p index (machines.Append bytes)) old))

-- some of the edits that are owed to a text would fill it up, which isn't full itself
abbrev pub IsSeenFull : ℕ → Text → Type 0
IsSeenFull size text = (length text.bytes < size) × (pick : List ℕ) × (length (settled_each size pick text).bytes ≡ size)

-- Or a record passes: whoever leads the chunk asks no other member where its text is full. So what fills it up may be owed still, and may never be paid. Then nothing is done there, and the record goes on.
abbrev pub LandsOrPasses : ℕ → Path → List ℕ → ℕ → (Machine → Type 0) → Machine → Result Answer Refusal → Machine → Type 0
LandsOrPasses size p bytes index GoesOn old answer new = LandsOr size p bytes index GoesOn old answer new ⊎ (IsSeenFull size (text_at p index old) × GoesOn old)

-- the most bytes of a record
abbrev pub is_too_long : ℕ → List ℕ → Bool
is_too_long size bytes = nat_lt (size / 4) (length bytes)

-- A record goes to the chunk at this place, which is added if it is missing, or to one of so many after it. Some of what is owed is paid before the chunk is added, and before the record is put.
-- One that is too long is refused, or nobody is sure. It is owed nowhere.
abbrev pub Lands : ℕ → Path → List ℕ → ℕ → ℕ → Machine → Result Answer Refusal → Machine → Type 0
Lands size p bytes zero index old answer new = (answer ≡ Err refusals.Range) × (new ≡ old)
Lands size p bytes (suc more) index old answer new = (payments : List Payment) × (now : Machine) × (now ≡ paid_now size payments old)
    × (IsPutOff (MayBe (Adds p index) now) now answer new
    ⊎ ((is_preparing now.phase ≡ false) × (more_payments : List Payment) × (grown : Machine) × (grown ≡ paid_now size more_payments (done size (Adds p index) now))
    × MatchBool (is_too_long size bytes) (((answer ≡ Err refusals.TooLong) × (new ≡ grown)) ⊎ IsPutOff (λ made. made ≡ grown) grown answer new)
    (IsPutOff (MayBe (Edits p index (machines.Append bytes)) grown) grown answer new ⊎ LandsOrPasses size p bytes index (λ next. Lands size p bytes more (index + 1) next answer new) grown answer new)))

-- A record goes to the last chunk of a file; a file without one gets its first. One of no bytes is refused.
abbrev pub Appends : ℕ → List ℕ → Path → List Text → Machine → Result Answer Refusal → Machine → Type 0
Appends size bytes p texts old answer new =
    MatchBool (length bytes == 0) ((answer ≡ Err refusals.Range) × (new ≡ old)) (Lands size p bytes (most_chunks - (length texts - 1)) (length texts - 1) old answer new)

-- ---- any line

-- some of what is owed is paid, and nothing else is done
abbrev pub Passes : ℕ → Machine → Machine → Type 0
Passes size old new = (payments : List Payment) × (new ≡ paid_now size payments old)

-- a master that begins again has no prepare under way, and no call waits there
abbrev pub anew : Machine → Machine
anew m = record m { waiting = []; phase = (if is_preparing m.phase then phases.Ordinary else m.phase) }

-- it begins again; or that is refused, and it does so or doesn't
abbrev pub BeginsAnew : Machine → Result Answer Refusal → Machine → Type 0
BeginsAnew old (Ok answer) new = new ≡ anew old
BeginsAnew old (Err refusal) new = (new ≡ anew old) ⊎ (IsOfStore refusal × (new ≡ old))

-- With chunks of a size, in blocks of another.
abbrev pub LeadsBy : (size block : ℕ) → Option (Result Call Refusal) → Request → Machine → Result Answer Refusal → Machine → Type 0
LeadsBy size block (Some call) request old answer new = AsksTree size call old answer new
LeadsBy size block None (lines.Stat p) old answer new = OnPath size (parse_hidden p) (Stats size) old answer new
LeadsBy size block None (lines.Read p offset many) old answer new = OnPath size (parse_hidden p) (OfFile (Reads size offset many)) old answer new
LeadsBy size block None (lines.Digest p chunk index) old answer new = OnPath size (parse_hidden p) (OfFile (Digests size block chunk index)) old answer new
LeadsBy size block None (lines.Write p offset bytes) old answer new = OnPath size (parse p) (OfFile (Writes size offset bytes)) old answer new
LeadsBy size block None (lines.Append p bytes) old answer new = OnPath size (parse p) (OfFile (Appends size bytes)) old answer new
LeadsBy size block None lines.Scan old answer new = AsksOne size calls.Scan old answer new
LeadsBy size block None (lines.RollingUpgrade upgrade) old answer new = Upgrades size upgrade old answer new
LeadsBy size block None (lines.Step step) old answer new = AsksOne size (step_of step) old answer new
LeadsBy size block None (lines.At moment) old answer new = (now : Machine) × Passes size old now × (answer ≡ Ok answers.Done) × (new ≡ record now { moment = moment })
LeadsBy size block None (lines.Restart restarted.Master) old answer new = (now : Machine) × Passes size old now × BeginsAnew now answer new
LeadsBy size block None (lines.Deliver number) old answer new = (payments : List Payment) × (new ≡ paid_each size payments old)
LeadsBy size block None request old answer new = Passes size old new

-- what a request may be answered, and where that leads
abbrev pub Leads : (size block : ℕ) → Request → Machine → Result Answer Refusal → Machine → Type 0
Leads size block request old answer new = LeadsBy size block (call_of request) request old answer new

-- The text of an answer that the machine explains. A line that asks for nothing is bad. Where memory is wanting for the text, what the line does is done.
abbrev pub Explains : (size block : ℕ) → Machine → List ℕ → List ℕ → Machine → Type 0
Explains size block old line text new =
    MatchOption (line_request line) (IsText (Err refusals.BadLine) text × (new ≡ old)) (λ request. (answer : Result Answer Refusal) × Leads size block request old answer new × IsText answer text)

-- The answers to some lines are explained: from the new machine each line with its answer leads on. A line may also be answered that memory is wanting to read it, and does nothing then.
abbrev pub AreExplained : (size block : ℕ) → List (List ℕ) → List (List ℕ) → Type 0
AreExplained size block all texts = (end : Machine) × Runs (Explains size block) new_machine all texts end
