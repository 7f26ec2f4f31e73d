-- What a server sends, whatever it hears and whatever it keeps: none of what the master or clients say.
use Rattle.std.proofs.Common.{ℕ, Bool, true, false, cond, [], ◌∷◌, Option, Some, None, refl}
use Rattle.std.specs.Prelude.{Result, Ok, Err, ◌==◌, ◌+◌}
use Rattle.std.specs.FinMap as fin
use Rattle.gs_base.specs.declared.epoch.EpochEnd.{EpochEnd}
use Rattle.gs_base.specs.declared.numbers.Moment.{Moment}
use Rattle.gs_base.specs.declared.numbers.Stamp.{Stamp}
use Rattle.gs_base.specs.declared.refusal.Refusal.{Refusal}
use Rattle.gs_base.specs.declared.refusal.Refusal.TheVariants as refusals
use Rattle.gs_msg.specs.declared.body.Body.{Body}
use Rattle.gs_msg.specs.declared.body.Body.TheVariants as bodies
use Rattle.gs_msg.specs.declared.message.Message.{Message}
use Rattle.gs_msg.specs.declared.node.NodeId.{NodeId}
use Rattle.gs_msg.specs.declared.node.NodeId.TheVariants as nodes
use Rattle.gs_server_lease.specs.Leases.{PrimaryLease, is_over, reminds, tell}
use Rattle.gs_store.specs.Moves as moves
use Rattle.gs_store.specs.Slots.{Slot}
use Rattle.gs_store.specs.Stores as stores
use Rattle.gs_server.specs.Places.{Here, Part, Place, damaged_block, other_epoch, tells_bad}
use Rattle.gs_server.specs.Promises.{copies, not_copied, or_copy}
use Rattle.gs_server.specs.Servers.{Server, about_chunk, handle_body, here_of, learned, leases_after, place_of, request_in, store_of, with_leases, with_store}
use Rattle.gs_server.specs.Servers as servers
use Rattle.gs_laws_parts.proofs.lemmas.server.Elsewhere.{ByServer, by_server, chunk_says, reminds_sent}
use Rattle.gs_laws_parts.proofs.lemmas.server.Lists.{all_flat}
use Rattle.gs_laws_parts.specs.server.Answering.{IsByServer}

bad_by : (h : Here) (slot : Slot) (o : Option ℕ) → ByServer (tells_bad h slot o)
bad_by h slot None = tt
bad_by h slot (Some block) = (tt, tt)

copy_by : (h new : Here) (source target : Place) (stamp : Stamp) (o : Option Refusal) (m : Result Slot Refusal) → ByServer (or_copy o (not_copied h source new stamp) (copies h source new target stamp m)).target.sent
copy_by h new source target stamp (Some e) m = (tt, bad_by h source.slot (damaged_block e))
copy_by h new source target stamp None (Err e) = (tt, bad_by h source.slot (damaged_block e))
copy_by h new source target stamp None (Ok s) = (tt, tt)

learn_by : (s : Server) (epoch : ℕ) (end : EpochEnd) → ByServer (servers.learn s epoch end).sent
learn_by s epoch end = by_case (epoch == s.kept.epoch) (epoch == s.kept.epoch + 1)
  where
    by_case : (a b : Bool) → ByServer (cond a (learned s epoch end s) (cond b (learned s epoch end (with_leases (leases_after end s.dropped.leases) (with_store (stores.learned epoch end (store_of s)) s)))
        (record { after = s; sent = tell s.me nodes.Master (bodies.Behind s.kept.epoch) ∷ []; said = Some (refusals.Epoch s.kept.epoch) }))).sent
    by_case true b = (tt, tt)
    by_case false true = (tt, tt)
    by_case false false = (tt, tt)

body_by : (s : Server) (from : NodeId) (body : Body) (moment : Moment) → ByServer (handle_body s from body moment).sent
body_by s from (bodies.About handle said) moment =
    let h : Here = here_of s moment handle (request_in said) in
    let part : Part = about_chunk h (place_of handle s) from said in
    by_server true handle part.sent (chunk_says h true (place_of handle s) from said (λ may. refl))
body_by s from (bodies.Push req bytes) moment = tt
body_by s from (bodies.MakeCopy handle at new_handle stamp) moment =
    let h : Here = here_of s moment handle None in
    copy_by h (here_of s moment new_handle None) (place_of handle s) (place_of new_handle s) stamp (other_epoch h stamp.epoch) (moves.make_copy at stamp (place_of handle s).slot (place_of new_handle s).slot)
body_by s from (bodies.Epoch epoch end) moment = learn_by s epoch end
body_by s from (bodies.Call req call) moment = tt
body_by s from (bodies.Reply req result) moment = tt
body_by s from (bodies.Done req result) moment = tt
body_by s from (bodies.Bytes req result) moment = tt
body_by s from (bodies.Report epoch replicas) moment = tt
body_by s from (bodies.Learned epoch handles) moment = tt
body_by s from (bodies.Behind epoch) moment = tt

pub handled_by : (s : Server) (message : Message) (moment : Moment) → ByServer (servers.handle s message moment).sent
handled_by s message moment = body_by s message.from message.body moment

pub tick_by : (s : Server) (moment : Moment) → ByServer (servers.tick s moment).sent
tick_by s moment = all_flat (λ (m : Message). IsByServer m.body) (λ (e : ℕ × PrimaryLease). cond (is_over moment e.1) [] (reminds s.me e.0 e.1)) (fin.entries s.dropped.leases) (λ e there. by_case e (is_over moment e.1))
  where
    by_case : (e : ℕ × PrimaryLease) (b : Bool) → ByServer (cond b [] (reminds s.me e.0 e.1))
    by_case e true = tt
    by_case e false = by_server false e.0 (reminds s.me e.0 e.1) (reminds_sent (here_of s moment e.0 None) false e.1 e.1.outbox)
