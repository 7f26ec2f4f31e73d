-- What a client reads of a chunk.
use Rattle.std.specs.Prelude.{◌≡◌, ℕ, [], ◌∷◌, Result, Ok, Err, refl}
use Rattle.gs_base.specs.declared.numbers.Stamp.{Stamp}
use Rattle.gs_base.specs.declared.numbers.ReqId.{ReqId}
use Rattle.gs_base.specs.declared.refusal.Refusal.{Refusal}
use Rattle.gs_base.specs.declared.refusal.Refusal.TheVariants as refusals
use Rattle.gs_msg.specs.declared.node.NodeId.TheVariants as nodes
use Rattle.gs_msg.specs.declared.message.Message.{Message}
use Rattle.gs_msg.specs.declared.body.Given.{Given}
use Rattle.gs_msg.specs.declared.body.Given.TheVariants as givens
use Rattle.gs_msg.specs.declared.body.Body.TheVariants as bodies
use Rattle.gs_msg.specs.declared.chunk.Asked.{Asked}
use Rattle.gs_msg.specs.declared.chunk.Asked.TheVariants as asks
use Rattle.gs_msg.specs.declared.chunk.Chunk.TheVariants as chunks
use Rattle.gs_store.specs.Slots.{Slot, standing, dropped, empty_replica, sealed_replica, mark_bad}
use Rattle.gs_store.specs.Serving.{read, text_length, digest}
use Rattle.gs_server_lease.specs.Leases.{tell, stamp_of, request_of}
use Rattle.gs_server.specs.Places.{Place, Here, Part, sending, about, refused, or_else, other_epoch}
use Rattle.gs_server.specs.Promises.{here, unleased}
use Rattle.gs_server.specs.Holding.{quiet}

-- what is given of a replica
abbrev pub giving : {A : Type 0} → (A → Given) → Result A Refusal → Result Given Refusal
giving as_given (Ok a) = Ok (as_given a)
giving as_given (Err refusal) = Err refusal

abbrev pub given : Stamp → Asked → Slot → Result Given Refusal
given stamp (asks.Bytes offset many) s = giving givens.Bytes (read stamp offset many s)
given stamp asks.Length s = giving givens.Length (text_length stamp s)
given stamp (asks.Digest block) s = giving givens.Digest (digest stamp block s)

-- the client is told
abbrev pub bytes : Here → ReqId → Result Given Refusal → Message
bytes h req result = tell h.me (nodes.Client req.client) (bodies.Bytes req result)

abbrev pub refuses : Here → Place → ReqId → Refusal → Part
refuses h p req refusal = refused h p.slot (bytes h req (Err refusal)) refusal

abbrev pub gives : Here → Place → ReqId → Result Given Refusal → Part
gives h p req (Ok found) = sending (bytes h req (Ok found) ∷ [])
gives h p req (Err refusal) = refuses h p req refusal

abbrev pub fetch : Here → Place → ReqId → Stamp → ℕ → Asked → Part
fetch h p req stamp epoch asked = or_else (other_epoch h epoch) (refuses h p req) (gives h p req (given stamp asked p.slot))

-- Worked: a replica of no bytes under the promise 2.1.
abbrev wanted : ReqId
wanted = request_of 7 3

abbrev bad : Place
bad = unleased (mark_bad 3 (standing (empty_replica (stamp_of 2 1))))

the_bytes_there_are : fetch here quiet wanted (stamp_of 2 1) 2 (asks.Bytes 0 16) ≡ sending (bytes here wanted (Ok (givens.Bytes [])) ∷ [])
the_bytes_there_are = refl

how_many_there_are : fetch here quiet wanted (stamp_of 2 1) 2 asks.Length ≡ sending (bytes here wanted (Ok (givens.Length 0)) ∷ [])
how_many_there_are = refl

in_another_epoch : fetch here quiet wanted (stamp_of 2 1) 1 (asks.Bytes 0 17) ≡ refuses here quiet wanted (refusals.Epoch 2)
in_another_epoch = refl

without_a_replica : fetch here (unleased (dropped (sealed_replica (stamp_of 2 1)))) wanted (stamp_of 2 2) 2 (asks.Bytes 0 17) ≡ refuses here quiet wanted refusals.NoReplica
without_a_replica = refl

before_the_stamp_is_promised : fetch here quiet wanted (stamp_of 2 2) 2 (asks.Bytes 0 17) ≡ refuses here quiet wanted refusals.Old
before_the_stamp_is_promised = refl

past_the_size : fetch here bad wanted (stamp_of 2 1) 2 (asks.Bytes 0 17) ≡ refuses here bad wanted refusals.Range
past_the_size = refl

no_such_block : fetch here quiet wanted (stamp_of 2 1) 2 (asks.Digest 0) ≡ refuses here quiet wanted refusals.Range
no_such_block = refl

no_bytes_of_a_bad_replica : (fetch here bad wanted (stamp_of 2 1) 2 (asks.Bytes 0 16)).sent ≡ bytes here wanted (Err (refusals.Damaged 3)) ∷ about here nodes.Master (chunks.Bad (stamp_of 2 1)) ∷ []
no_bytes_of_a_bad_replica = refl

but_its_length : fetch here bad wanted (stamp_of 2 1) 2 asks.Length ≡ sending (bytes here wanted (Ok (givens.Length 0)) ∷ [])
but_its_length = refl
