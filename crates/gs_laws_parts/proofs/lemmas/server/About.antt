-- Any message about the chunk, at its own place.
use Rattle.std.proofs.Common.{◌≡◌, ℕ, false, List, [], ◌∷◌, Some, refl}
use Rattle.std.specs.Prelude.{Result, Ok, Err}
use Rattle.gs_base.specs.declared.numbers.ReqId.{ReqId}
use Rattle.gs_base.specs.declared.refusal.Refusal.{Refusal}
use Rattle.gs_base.specs.declared.refusal.Refusal.TheVariants as refusals
use Rattle.gs_msg.specs.declared.node.NodeId.{NodeId}
use Rattle.gs_msg.specs.declared.body.Given.{Given}
use Rattle.gs_msg.specs.declared.chunk.Chunk.{Chunk}
use Rattle.gs_msg.specs.declared.chunk.Chunk.TheVariants as chunks
use Rattle.gs_server.specs.Places.{Place, Here, other_epoch, unanswered}
use Rattle.gs_server.specs.Fetches.{refuses, gives, given}
use Rattle.gs_server.specs.Fetches as fetching
use Rattle.gs_server.specs.Servers.{about_chunk, request_in}
use Rattle.gs_laws_chunk.specs.machine.Machine.{ChunkWorld}
use Rattle.gs_laws_parts.specs.server.Showing.{setting_at}
use Rattle.gs_laws_parts.specs.server.Telling.{SaysOf, TellsServer}
use Rattle.gs_laws_parts.specs.server.Moving.{IsHere, IsToldApart, LeadsWhole, FollowsPart, Answering}
use Rattle.gs_laws_parts.specs.server.Causes.{Calm, cause_of}
use Rattle.gs_laws_parts.proofs.lemmas.server.Promising.{or_outcome, nothing_happens, refused_outcome, create_outcome, advance_outcome}
use Rattle.gs_laws_parts.proofs.lemmas.server.Copying.{copy_out_outcome, copy_in_outcome}
use Rattle.gs_laws_parts.proofs.lemmas.server.Leasing.{grant_outcome, renewed_outcome, drop_outcome}
use Rattle.gs_laws_parts.proofs.lemmas.server.Forwarding.{forward_outcome}
use Rattle.gs_laws_parts.proofs.lemmas.server.Sending.{nack_outcome}
use Rattle.gs_laws_parts.proofs.lemmas.server.Answering.{ack_answering}
use Rattle.gs_laws_parts.proofs.lemmas.server.Edited.{edit_answering}
use Rattle.gs_laws_parts.proofs.lemmas.server.Elsewhere.{may_answer, chunk_says, quiet_sent, quiet_answers}

module _ (bytes : ReqId → List ℕ) (born : ℕ) (w : ChunkWorld) (h : Here) (p : Place) where
  quiet_part : IsHere bytes born w h p → (e : Refusal) → FollowsPart bytes born w h p (unanswered e)
  quiet_part here e = nothing_happens bytes born w h p here.shows [] tt

  gives_outcome : IsHere bytes born w h p → (req : ReqId) (m : Result Given Refusal) → FollowsPart bytes born w h p (gives h p req m)
  gives_outcome here req (Ok found) = nothing_happens bytes born w h p here.shows (fetching.bytes h req (Ok found) ∷ []) (tt, tt)
  gives_outcome here req (Err e) = refused_outcome bytes born w h p here.shows (fetching.bytes h req (Err e)) e tt

  -- a message at which no edit is done
  quiet_outcome : (from : NodeId) (chunk : Chunk) → may_answer chunk ≡ false → FollowsPart bytes born w h p (about_chunk h p from chunk) → Answering Calm bytes born w h p (about_chunk h p from chunk)
  quiet_outcome from chunk quiet f = record {
    follows = f;
    answers = quiet_answers Calm (setting_at bytes born h) f.moved.world h.me (about_chunk h p from chunk).sent (quiet_sent h.handle (about_chunk h p from chunk).sent (chunk_says h false p from chunk (λ may. absurd (cc))));
  }

  pub about_answering : IsHere bytes born w h p → IsToldApart h.block h.chunk p.slot (w.members h.me) → LeadsWhole w h.me → (from : NodeId) (chunk : Chunk) → ((req : ReqId) → request_in chunk ≡ Some req → (b : List ℕ) → h.pushed ≡ Some b → b ≡ bytes req)
      → SaysOf (setting_at bytes born h) w from chunk → TellsServer (setting_at bytes born h) w h.me chunk → Answering (cause_of chunk) bytes born w h p (about_chunk h p from chunk)
  about_answering here told whole from (chunks.Create stamp) right says tells = quiet_outcome from (chunks.Create stamp) refl (create_outcome bytes born w h p here stamp tells)
  about_answering here told whole from (chunks.Advance stamp) right says tells = quiet_outcome from (chunks.Advance stamp) refl (advance_outcome bytes born w h p here stamp tells)
  about_answering here told whole from (chunks.Grant grant) right says tells = quiet_outcome from (chunks.Grant grant) refl (grant_outcome bytes born w h p here grant tells)
  about_answering here told whole from (chunks.Renewed stamp end) right says tells = quiet_outcome from (chunks.Renewed stamp end) refl (renewed_outcome bytes born w h p here stamp end)
  about_answering here told whole from (chunks.Edit req stamp op) right says tells = edit_answering bytes born w h p here told.live whole req stamp op (right req refl)
  about_answering here told whole from (chunks.Forward stamp number req op carried) right says tells = quiet_outcome from (chunks.Forward stamp number req op carried) refl (forward_outcome bytes born w h p here told.live from stamp number req op carried (right req refl) tells)
  about_answering here told whole from (chunks.Ack stamp count) right says tells = ack_answering bytes born w h p here from stamp count says
  about_answering here told whole from (chunks.Nack stamp refusal) right says tells = quiet_outcome from (chunks.Nack stamp refusal) refl (nack_outcome bytes born w h p here from stamp refusal)
  about_answering here told whole from (chunks.Fetch req stamp epoch asked) right says tells = quiet_outcome from (chunks.Fetch req stamp epoch asked) refl
      (or_outcome bytes born w h p (other_epoch h epoch) (refuses h p req) (gives h p req (given stamp asked p.slot)) (λ e. refused_outcome bytes born w h p here.shows (fetching.bytes h req (Err e)) e tt) (λ none. gives_outcome here req (given stamp asked p.slot)))
  about_answering here told whole from (chunks.CopyOut stamp target flag) right says tells = quiet_outcome from (chunks.CopyOut stamp target flag) refl (copy_out_outcome bytes born w h p here told stamp target flag tells)
  about_answering here told whole from (chunks.CopyIn stamp image sealed) right says tells = quiet_outcome from (chunks.CopyIn stamp image sealed) refl (copy_in_outcome bytes born w h p here stamp image sealed tells)
  about_answering here told whole from (chunks.Drop epoch promise) right says tells = quiet_outcome from (chunks.Drop epoch promise) refl (drop_outcome bytes born w h p here epoch promise tells)
  about_answering here told whole from (chunks.Promised stamp count carried) right says tells = quiet_outcome from (chunks.Promised stamp count carried) refl (quiet_part here refusals.Stray)
  about_answering here told whole from (chunks.Unpromised stamp refusal) right says tells = quiet_outcome from (chunks.Unpromised stamp refusal) refl (quiet_part here refusals.Stray)
  about_answering here told whole from (chunks.Renew stamp) right says tells = quiet_outcome from (chunks.Renew stamp) refl (quiet_part here refusals.Stray)
  about_answering here told whole from (chunks.Bad stamp) right says tells = quiet_outcome from (chunks.Bad stamp) refl (quiet_part here refusals.Stray)
