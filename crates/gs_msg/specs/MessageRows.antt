-- A line of each kind of message.
use Rattle.std.specs.Prelude.{◌≡◌, true, false, [], ◌∷◌, Some, None, Ok, Err, codes, refl}
use Rattle.std.specs.Fmt.{digits}
use Rattle.std.specs.FinMap as fin
use Rattle.hex.specs.Hex.{encode_with}
use Rattle.gs_base.specs.declared.epoch.EpochEnd.TheVariants as ends
use Rattle.gs_base.specs.declared.numbers.Moment.{Moment}
use Rattle.gs_base.specs.declared.numbers.ReqId.{ReqId}
use Rattle.gs_base.specs.declared.numbers.Stamp.{Stamp}
use Rattle.gs_base.specs.declared.refusal.Refusal.TheVariants as refusals
use Rattle.gs_lease.specs.declared.view.View.{View}
use Rattle.gs_path.specs.Path.{Path}
use Rattle.gs_replica.specs.Copies.{Image}
use Rattle.gs_replica.specs.declared.op.EditOutcome.TheVariants as outcomes
use Rattle.gs_msg.specs.MessageTexts.{message_text}
use Rattle.gs_msg.specs.declared.answer.Answer.TheVariants as answers
use Rattle.gs_msg.specs.declared.answer.Status.TheVariants as statuses
use Rattle.gs_msg.specs.declared.body.Body.{Body}
use Rattle.gs_msg.specs.declared.body.Body.TheVariants as bodies
use Rattle.gs_msg.specs.declared.body.Given.TheVariants as given
use Rattle.gs_msg.specs.declared.call.Call.TheVariants as calls
use Rattle.gs_msg.specs.declared.chunk.Asked.TheVariants as asked
use Rattle.gs_msg.specs.declared.chunk.Chunk.{Chunk}
use Rattle.gs_msg.specs.declared.chunk.Chunk.TheVariants as chunks
use Rattle.gs_msg.specs.declared.lists.ListedName.{ListedName}
use Rattle.gs_msg.specs.declared.message.Message.{Message}
use Rattle.gs_msg.specs.declared.node.NodeId.TheVariants.{Master, Server, Client}
use Rattle.gs_msg.specs.declared.op.Op.TheVariants as ops

abbrev req : ReqId
req = record { client = record { 0 = 1 }; number = 5 }

abbrev stamp : Stamp
stamp = record { epoch = 0; version = 3 }

abbrev moment : Moment
moment = record { 0 = 60 }

abbrev path : Path
path = codes "a" ∷ codes "b" ∷ []

abbrev view : View
view = record { stamp = stamp; count = 4; members = 0 ∷ 2 ∷ []; term = Some (record { primary = 0; end = moment }) }

abbrev image : Image
image = record { bytes = 171 ∷ []; count = 4; done = fin.empty }

abbrev a_directory : ListedName
a_directory = record { name = codes "a"; is_directory = true }

abbrev a_file : ListedName
a_file = record { name = codes "f"; is_directory = false }

abbrev from_client : Body → Message
from_client body = record { from = Client (record { 0 = 1 }); to = Master; body = body }

abbrev to_client : Body → Message
to_client body = record { from = Master; to = Client (record { 0 = 1 }); body = body }

abbrev from_master : Body → Message
from_master body = record { from = Master; to = Server 0; body = body }

abbrev to_server : Chunk → Message
to_server chunk = from_master (bodies.About 7 chunk)

abbrev to_master : Body → Message
to_master body = record { from = Server 0; to = Master; body = body }

abbrev to_replica : Body → Message
to_replica body = record { from = Client (record { 0 = 1 }); to = Server 0; body = body }

abbrev to_member : Body → Message
to_member body = record { from = Server 0; to = Server 1; body = body }

abbrev answered : Body → Message
answered body = record { from = Server 0; to = Client (record { 0 = 1 }); body = body }

a_call : message_text (from_client (bodies.Call req (calls.FindForWriting path 2 (Some stamp)))) ≡ codes "call C1 M C1/5 find-for-writing /a/b 2 0.3"
unfolding digits encode_with
a_call = refl

a_call_without_fields : message_text (from_client (bodies.Call req calls.PrepareBegin)) ≡ codes "call C1 M C1/5 prepare-begin"
unfolding digits encode_with
a_call_without_fields = refl

a_rename : message_text (from_client (bodies.Call req (calls.Rename path []))) ≡ codes "call C1 M C1/5 rename /a/b /"
unfolding digits encode_with
a_rename = refl

a_deletion : message_text (from_client (bodies.Call req (calls.Delete path true))) ≡ codes "call C1 M C1/5 delete /a/b true"
unfolding digits encode_with
a_deletion = refl

a_reply : message_text (to_client (bodies.Reply req (Ok answers.Nothing))) ≡ codes "reply M C1 C1/5 ok"
unfolding digits encode_with
a_reply = refl

a_refused_reply : message_text (to_client (bodies.Reply req (Err (refusals.Stamp stamp)))) ≡ codes "reply M C1 C1/5 refused 22 Stamp 0.3"
unfolding digits encode_with
a_refused_reply = refl

a_location : message_text (to_client (bodies.Reply req (Ok (answers.Location 7 view 1)))) ≡ codes "reply M C1 C1/5 location 7 0.3 4 0,2 0/60 1"
unfolding digits encode_with
a_location = refl

a_listing : message_text (to_client (bodies.Reply req (Ok (answers.Names (a_directory ∷ a_file ∷ []))))) ≡ codes "reply M C1 C1/5 names a/,f"
unfolding digits encode_with
a_listing = refl

a_files_status : message_text (to_client (bodies.Reply req (Ok (answers.Status (statuses.File (record { handle = 7; references = 2; members = [] } ∷ [])))))) ≡ codes "reply M C1 C1/5 file 7/2/-"
unfolding digits encode_with
a_files_status = refl

a_create : message_text (to_server (chunks.Create stamp)) ≡ codes "create M S0 7 0.3"
unfolding digits encode_with
a_create = refl

an_advance : message_text (to_server (chunks.Advance stamp)) ≡ codes "advance M S0 7 0.3"
unfolding digits encode_with
an_advance = refl

a_promise : message_text (to_master (bodies.About 7 (chunks.Promised stamp 4 false))) ≡ codes "promised S0 M 7 0.3 4 false"
unfolding digits encode_with
a_promise = refl

no_promise : message_text (to_master (bodies.About 7 (chunks.Unpromised stamp refusals.NoReplica))) ≡ codes "unpromised S0 M 7 0.3 refused 28 NoReplica"
unfolding digits encode_with
no_promise = refl

a_grant : message_text (to_server (chunks.Grant (record { stamp = stamp; members = 0 ∷ 2 ∷ []; end = moment }))) ≡ codes "grant M S0 7 0.3 0,2 60"
unfolding digits encode_with
a_grant = refl

a_renewal : message_text (to_master (bodies.About 7 (chunks.Renew stamp))) ≡ codes "renew S0 M 7 0.3"
unfolding digits encode_with
a_renewal = refl

a_renewed_lease : message_text (to_server (chunks.Renewed stamp moment)) ≡ codes "renewed M S0 7 0.3 60"
unfolding digits encode_with
a_renewed_lease = refl

a_push : message_text (to_replica (bodies.Push req (171 ∷ 5 ∷ []))) ≡ codes "push C1 S0 C1/5 ab05"
unfolding digits encode_with
a_push = refl

an_edit : message_text (to_replica (bodies.About 7 (chunks.Edit req stamp (ops.Write 1 2)))) ≡ codes "edit C1 S0 C1/5 7 0.3 write 1 2"
unfolding digits encode_with
an_edit = refl

a_forward : message_text (to_member (bodies.About 7 (chunks.Forward stamp 4 req (ops.Append 2) None))) ≡ codes "forward S0 S1 7 0.3 4 C1/5 append 2 -"
unfolding digits encode_with
a_forward = refl

a_forward_with_bytes : message_text (to_member (bodies.About 7 (chunks.Forward stamp 4 req (ops.Append 1) (Some (171 ∷ []))))) ≡ codes "forward S0 S1 7 0.3 4 C1/5 append 1 ab"
unfolding digits encode_with
a_forward_with_bytes = refl

an_acknowledgement : message_text (to_member (bodies.About 7 (chunks.Ack stamp 4))) ≡ codes "ack S0 S1 7 0.3 4"
unfolding digits encode_with
an_acknowledgement = refl

a_refused_forward : message_text (to_member (bodies.About 7 (chunks.Nack stamp (refusals.Gap 3)))) ≡ codes "nack S0 S1 7 0.3 refused 23 Gap 3"
unfolding digits encode_with
a_refused_forward = refl

an_edit_done : message_text (answered (bodies.Done req (Ok (outcomes.Appended 8)))) ≡ codes "done S0 C1 C1/5 appended 8"
unfolding digits encode_with
an_edit_done = refl

a_fetch : message_text (to_replica (bodies.About 7 (chunks.Fetch req stamp 1 (asked.Bytes 0 16)))) ≡ codes "fetch C1 S0 C1/5 7 0.3 1 bytes 0 16"
unfolding digits encode_with
a_fetch = refl

bytes_given : message_text (answered (bodies.Bytes req (Ok (given.Bytes [])))) ≡ codes "bytes S0 C1 C1/5 bytes -"
unfolding digits encode_with
bytes_given = refl

a_length_given : message_text (answered (bodies.Bytes req (Ok (given.Length 9)))) ≡ codes "bytes S0 C1 C1/5 length 9"
unfolding digits encode_with
a_length_given = refl

a_copy_to_be_sent : message_text (to_server (chunks.CopyOut stamp 2 true)) ≡ codes "copyout M S0 7 0.3 2 true"
unfolding digits encode_with
a_copy_to_be_sent = refl

a_copy : message_text (to_member (bodies.About 7 (chunks.CopyIn stamp image None))) ≡ codes "copyin S0 S1 7 0.3 ab 4 -"
unfolding digits encode_with
a_copy = refl

a_sealed_copy : message_text (to_member (bodies.About 7 (chunks.CopyIn stamp image (Some (record { image = image; stamp = stamp; digests = [] }))))) ≡ codes "copyin S0 S1 7 0.3 ab 4 0.3 ab 4"
unfolding digits encode_with
a_sealed_copy = refl

a_local_copy : message_text (from_master (bodies.MakeCopy 7 stamp 8 stamp)) ≡ codes "makecopy M S0 7 0.3 8 0.3"
unfolding digits encode_with
a_local_copy = refl

a_report : message_text (to_master (bodies.Report 1 (record { handle = 7; promise = stamp; is_bad = true } ∷ []))) ≡ codes "report S0 M 1 7/0.3/true"
unfolding digits encode_with
a_report = refl

a_drop : message_text (to_server (chunks.Drop 1 stamp)) ≡ codes "drop M S0 1 7 0.3"
unfolding digits encode_with
a_drop = refl

a_bad_replica : message_text (to_master (bodies.About 7 (chunks.Bad stamp))) ≡ codes "bad S0 M 7 0.3"
unfolding digits encode_with
a_bad_replica = refl

an_epoch : message_text (from_master (bodies.Epoch 2 ends.Rollback)) ≡ codes "epoch M S0 2 rollback"
unfolding digits encode_with
an_epoch = refl

an_epoch_learned : message_text (to_master (bodies.Learned 2 (7 ∷ 8 ∷ []))) ≡ codes "learned S0 M 2 7,8"
unfolding digits encode_with
an_epoch_learned = refl

an_older_epoch : message_text (to_master (bodies.Behind 1)) ≡ codes "behind S0 M 1"
unfolding digits encode_with
an_older_epoch = refl
