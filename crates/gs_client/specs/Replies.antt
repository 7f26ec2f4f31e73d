-- What a reply says to the client that waits for it.
use Rattle.std.specs.Prelude.{◌≡◌, ℕ, List, Bool, true, false, Option, Some, None, Result, Ok, Err, refl, length, nat_le, if◌then◌else◌}
use Rattle.gs_base.specs.declared.refusal.Refusal.{Refusal}
use Rattle.gs_base.specs.declared.refusal.Refusal.TheVariants as refusals
use Rattle.gs_path.specs.Path.{Path}
use Rattle.gs_replica.specs.declared.op.EditOutcome.{EditOutcome}
use Rattle.gs_msg.specs.declared.answer.Answer.{Answer}
use Rattle.gs_msg.specs.declared.answer.Answer.TheVariants as answers
use Rattle.gs_msg.specs.declared.answer.Status.{Status}
use Rattle.gs_msg.specs.declared.answer.Status.TheVariants as statuses
use Rattle.gs_msg.specs.declared.answer.ChunkStatus.{ChunkStatus}
use Rattle.gs_msg.specs.declared.answer.Copied.{Copied}
use Rattle.gs_msg.specs.declared.answer.Phase.{Phase}
use Rattle.gs_msg.specs.declared.lists.ListedName.{ListedName}
use Rattle.gs_msg.specs.declared.body.Given.{Given}
use Rattle.gs_msg.specs.declared.body.Given.TheVariants as givens
use Rattle.gs_msg.specs.declared.chunk.Asked.{Asked}
use Rattle.gs_msg.specs.declared.chunk.Asked.TheVariants as asks
use Rattle.gs_client.specs.declared.link.Reply.{Reply}
use Rattle.gs_client.specs.declared.link.Reply.TheVariants as replies
use Rattle.gs_client_part.specs.declared.located.Located.{Located}

-- A request that changes something and that nobody answered, or that a node had no memory or no disk for, stands or doesn't.
abbrev pub unsure_or : Refusal → Refusal
unsure_or refusals.Memory = refusals.Unsure
unsure_or refusals.Device = refusals.Unsure
unsure_or refusal = refusal

-- why a request that changes something has no answer of the kind that is waited for
abbrev pub unsettled : Reply → Refusal
unsettled (replies.Refused refusal) = unsure_or refusal
unsettled replies.Lost = refusals.Unsure
unsettled reply = refusals.Stray

-- what the master says to a call that changes something
abbrev pub changed : Reply → Result Answer Refusal
changed (replies.Answer answer) = Ok answer
changed reply = Err (unsettled reply)

-- what the master says to one that only looks
abbrev pub looked : Reply → Result Answer Refusal
looked (replies.Answer answer) = Ok answer
looked (replies.Refused refusal) = Err refusal
looked replies.Lost = Err refusals.NoReplica
looked reply = Err refusals.Stray

-- the parts of an answer that a call waits for; an answer of another kind is nobody's
abbrev pub nothing_in : Answer → Result (Unit {0}) Refusal
nothing_in answers.Nothing = Ok tt
nothing_in answer = Err refusals.Stray

abbrev pub path_in : Answer → Result Path Refusal
path_in (answers.Path path) = Ok path
path_in answer = Err refusals.Stray

-- the path under which something deleted stands, or none where nothing stood at the path
abbrev pub deleted_in : Answer → Result (Option Path) Refusal
deleted_in (answers.Path path) = Ok (Some path)
deleted_in answers.Absent = Ok None
deleted_in answer = Err refusals.Stray

abbrev pub names_in : Answer → Result (List ListedName) Refusal
names_in (answers.Names names) = Ok names
names_in answer = Err refusals.Stray

abbrev pub status_in : Answer → Result Status Refusal
status_in (answers.Status status) = Ok status
status_in answer = Err refusals.Stray

abbrev pub chunks_in : Status → Result (List ChunkStatus) Refusal
chunks_in statuses.Directory = Err refusals.IsADirectory
chunks_in (statuses.File chunks) = Ok chunks

abbrev pub located_in : ℕ → Answer → Result Located Refusal
located_in index (answers.Location handle view epoch) = Ok (record { index = index; handle = handle; view = view; epoch = epoch })
located_in index answer = Err refusals.Stray

abbrev pub scanned_in : Answer → Result (ℕ × ℕ) Refusal
scanned_in (answers.Scanned removed forgotten) = Ok (removed, forgotten)
scanned_in answer = Err refusals.Stray

abbrev pub copied_in : Answer → Result (Option Copied) Refusal
copied_in (answers.Copied copied) = Ok copied
copied_in answer = Err refusals.Stray

abbrev pub epoch_in : Answer → Result ℕ Refusal
epoch_in (answers.Epoch epoch) = Ok epoch
epoch_in answer = Err refusals.Stray

abbrev pub phase_in : Answer → Result (Phase × ℕ) Refusal
phase_in (answers.Phase phase epoch) = Ok (phase, epoch)
phase_in answer = Err refusals.Stray

-- what an edit came to
abbrev pub edited : Reply → Result EditOutcome Refusal
edited (replies.Outcome outcome) = Ok outcome
edited reply = Err (unsettled reply)

-- What a member gives, or the refusal that is the last so far: its own, or, where it didn't answer, the one before. An answer of another kind is no member's.
abbrev pub given : Refusal → Reply → Result Given Refusal
given last (replies.Given g) = Ok g
given last (replies.Refused refusal) = Err refusal
given last replies.Lost = Err last
given last reply = Err refusals.Stray

-- bytes that were asked for, and no more of them
abbrev pub as_many : ℕ → List ℕ → Result (List ℕ) Refusal
as_many many bytes = if nat_le (length bytes) many then Ok bytes else Err refusals.Stray

abbrev pub bytes_in : Asked → Given → Result (List ℕ) Refusal
bytes_in (asks.Bytes offset many) (givens.Bytes bytes) = as_many many bytes
bytes_in asked g = Err refusals.Stray

abbrev pub length_in : Given → Result ℕ Refusal
length_in (givens.Length length) = Ok length
length_in g = Err refusals.Stray

abbrev pub digest_in : Given → Result (List ℕ) Refusal
digest_in (givens.Digest digest) = Ok digest
digest_in g = Err refusals.Stray

-- an edit is tried once more, under a number and a location of its own, where it was refused so
abbrev pub is_stale : Refusal → Bool
is_stale refusals.NotPrimary = true
is_stale refusals.LeaseOver = true
is_stale (refusals.Stamp promise) = true
is_stale refusals.NoData = true
is_stale refusal = false

-- the bytes were gone, and the location is as good as before
abbrev pub is_location_good : Refusal → Bool
is_location_good refusals.NoData = true
is_location_good refusal = false

no_answer_to_a_change : changed replies.Lost ≡ Err refusals.Unsure
no_answer_to_a_change = refl

no_memory_for_a_change : changed (replies.Refused refusals.Memory) ≡ Err refusals.Unsure
no_memory_for_a_change = refl

no_answer_to_a_look : looked replies.Lost ≡ Err refusals.NoReplica
no_answer_to_a_look = refl

a_refused_look : looked (replies.Refused refusals.NotFound) ≡ Err refusals.NotFound
a_refused_look = refl

no_file : chunks_in statuses.Directory ≡ Err refusals.IsADirectory
no_file = refl

no_answer_of_a_member : given refusals.Old replies.Lost ≡ Err refusals.Old
no_answer_of_a_member = refl

an_answer_of_the_master_for_a_member : given refusals.Old (replies.Answer answers.Nothing) ≡ Err refusals.Stray
an_answer_of_the_master_for_a_member = refl
