-- Which entries can be written: what the types hold, in as many bytes as a field has.
use Rattle.std.specs.Prelude.{◌≡◌, ◌<◌, ◌≤◌, ◌^◌, ℕ, true, Option, Some, None, Ok, List, [], length, ⊤}
use Rattle.std.specs.List.{AllByRecursion}
use Rattle.std.specs.Str.{is_utf8}
use Rattle.gs_base.specs.Members.{servers_where, has_bit}
use Rattle.gs_base.specs.Told.{detail_text, IsNumber, IsRefusal}
use Rattle.gs_base.specs.declared.numbers.ReqId.{ReqId}
use Rattle.gs_base.specs.declared.refusal.Refusal.{Refusal}
use Rattle.gs_path.specs.Path.{Path, path_text}
use Rattle.gs_path.specs.Rules.{parse_hidden}
use Rattle.gs_lease.specs.declared.view.Term.{Term}
use Rattle.gs_journal.specs.declared.version.Version.{Version}
use Rattle.gs_journal.specs.declared.version.Version.TheVariants.{One, Two}
use Rattle.gs_master_record.specs.declared.checkpoint.PreparedView.{PreparedView}
use Rattle.gs_master_record.specs.declared.checkpoint.Reference.{Reference}
use Rattle.gs_master_record.specs.declared.checkpoint.SettledEntry.{SettledEntry}
use Rattle.gs_master_record.specs.declared.entry.Answered.{Answered}
use Rattle.gs_master_record.specs.declared.entry.SettledView.{SettledView}
use Rattle.gs_master_record.specs.Encoding.{body}
use Rattle.gs_master_record.specs.Order.{is_in_order}
use Rattle.gs_master_record.specs.Plain.{PlainEdit, Mkdirs, Create, Rename, Hide, Unhide, Remove, AddChunk, Cow, Snapshot, Forget, PlainEntry, Edited, Said, Propose, Settle, Prepare, Finalize, RollbackBegin, RollbackCommit, Whole, Holder, PlainNode, PlainInverse, UndoMkdirs, UndoCreate, UndoRename, UndoHide, UndoUnhide, UndoRemove, UndoAddChunk, UndoCow, UndoSnapshot, UndoForget, PlainOutcome, Accepted, Refused, PlainReply, PlainCheckpoint}

abbrev pub IsHandle : ℕ → Type 0
IsHandle n = (1 ≤ n) × IsNumber n

abbrev pub IsServer : ℕ → Type 0
IsServer n = n < 16

-- the servers whose bits are 1 in a number of 16 bits
abbrev pub AreServers : List ℕ → Type 0
AreServers servers = (bits : ℕ) × (bits < 2 ^ 16) × (servers ≡ servers_where (has_bit bits))

-- a text of which a length of two bytes can tell
abbrev pub IsText : List ℕ → Type 0
IsText bytes = (length bytes < 2 ^ 16) × (is_utf8 bytes ≡ true)

-- a path that is read from its text
abbrev pub IsPath : Path → Type 0
IsPath p = IsText (path_text p) × (parse_hidden (path_text p) ≡ Ok p)

abbrev pub AreItems : {A : Type 0} → (A → Type 0) → List A → Type 0
AreItems Is items = (length items < 2 ^ 32) × AllByRecursion Is items

abbrev pub IsRequest : ReqId → Type 0
IsRequest r = (r.client.0 < 2 ^ 32) × IsNumber r.number

abbrev pub IsWritable : Refusal → Type 0
IsWritable r = IsRefusal r × IsText (detail_text r)

abbrev pub IsTerm : Option Term → Type 0
IsTerm None = ⊤
IsTerm (Some t) = IsServer t.primary × IsNumber t.end.0

abbrev pub IsSettled : SettledView → Type 0
IsSettled v = IsHandle v.handle × (IsNumber v.view.stamp.epoch × (IsNumber v.view.stamp.version × (IsNumber v.view.count × (AreServers v.view.members × IsTerm v.view.term))))

abbrev pub IsAnswered : Answered → Type 0
IsAnswered a = IsHandle a.handle × AreServers a.members

abbrev pub IsEdit : PlainEdit → Type 0
IsEdit (Mkdirs p) = IsPath p
IsEdit (Create p) = IsPath p
IsEdit (Rename from to) = IsPath from × IsPath to
IsEdit (Hide p moment n) = IsPath p × (IsNumber moment × IsNumber n)
IsEdit (Unhide p) = IsPath p
IsEdit (Remove p) = IsPath p
IsEdit (AddChunk p chunk) = IsPath p × IsHandle chunk
IsEdit (Cow p index old new) = IsPath p × ((index < 2 ^ 32) × (IsHandle old × IsHandle new))
IsEdit (Snapshot from to) = IsPath from × IsPath to
IsEdit (Forget chunks) = AreItems IsHandle chunks

-- the chunks of a file; a directory has none
abbrev pub IsNode : Option (List ℕ) → Type 0
IsNode None = ⊤
IsNode (Some chunks) = AreItems IsHandle chunks

abbrev pub IsTreeEntry : PlainNode → Type 0
IsTreeEntry e = IsPath e.0 × IsNode e.1

abbrev pub IsInverse : PlainInverse → Type 0
IsInverse (UndoMkdirs ps) = AreItems IsPath ps
IsInverse (UndoCreate ps) = AreItems IsPath ps
IsInverse (UndoRename now before) = IsPath now × IsPath before
IsInverse (UndoHide now before) = IsPath now × IsPath before
IsInverse (UndoUnhide now before) = IsPath now × IsPath before
IsInverse (UndoRemove es) = AreItems IsTreeEntry es
IsInverse (UndoAddChunk p) = IsPath p
IsInverse (UndoCow p index old) = IsPath p × ((index < 2 ^ 32) × IsHandle old)
IsInverse (UndoSnapshot p) = IsPath p
IsInverse (UndoForget chunks) = AreItems IsHandle chunks

abbrev pub IsReference : Reference → Type 0
IsReference r = IsHandle r.handle × (r.count < 2 ^ 32)

abbrev pub IsSettledEntry : SettledEntry → Type 0
IsSettledEntry s = IsSettled s.settled

abbrev pub IsOutcome : PlainOutcome → Type 0
IsOutcome (Accepted answer) = IsText answer
IsOutcome (Refused r) = IsWritable r

abbrev pub IsReply : PlainReply → Type 0
IsReply r = IsRequest r.to × IsOutcome r.outcome

-- in a journal of version 1 a prepared view has no holders
abbrev pub IsPreparedView : Version → PreparedView → Type 0
IsPreparedView One v = IsSettled v.settled × (v.holders ≡ [])
IsPreparedView Two v = IsSettled v.settled × AreServers v.holders

-- the fields of a checkpoint, each by itself; a counter is 0 where no value is left
abbrev pub AreParts : Version → PlainCheckpoint → Type 0
AreParts version c =
    IsNumber c.next_handle × (IsNumber c.next_version × (IsNumber c.next_hidden × (IsNumber c.epoch × (⊤
    × (AreItems (λ e. ⊤) c.ends × (AreItems IsTreeEntry c.tree × (AreItems IsReference c.references × (AreItems IsSettledEntry c.settled
    × (AreItems IsReply c.replies × (AreItems (IsPreparedView version) c.prepared × AreItems IsInverse c.inverses))))))))))

-- the lists in their order
abbrev pub IsCheckpoint : Version → PlainCheckpoint → Type 0
IsCheckpoint version c = AreParts version c × (is_in_order c ≡ true)

-- holders stand in a journal from version 2 on
abbrev pub IsHolder : Version → ℕ → ℕ → Type 0
IsHolder One chunk server = ⊥
IsHolder Two chunk server = IsHandle chunk × IsServer server

abbrev pub AreFields : Version → PlainEntry → Type 0
AreFields version (Edited by e) = IsRequest by × IsEdit e
AreFields version (Said to r) = IsRequest to × IsWritable r
AreFields version (Propose chunk n) = IsHandle chunk × IsNumber n
AreFields version (Settle v) = IsSettled v
AreFields version (Prepare epoch moment chunks) = IsNumber epoch × (IsNumber moment × (chunks < 2 ^ 32))
AreFields version (Finalize epoch) = IsNumber epoch
AreFields version (RollbackBegin epoch) = IsNumber epoch
AreFields version (RollbackCommit epoch answers) = IsNumber epoch × AreItems IsAnswered answers
AreFields version (Whole c) = IsCheckpoint version c
AreFields version (Holder chunk server) = IsHolder version chunk server

-- An entry of a journal of this version, whose body's length has four bytes.
abbrev pub IsEntry : Version → PlainEntry → Type 0
IsEntry version e = AreFields version e × (length (body version e) < 2 ^ 32)
