-- Where nothing happens at any server no edit is numbered, and counts stay.
use Rattle.std.proofs.Common.{◌≡◌, ◌∙◌, ◌&&◌, ℕ, Bool, true, false, List, Option, Some, None, refl, sym, ap, inl, arith, max, slice_get}
use Rattle.std.specs.Prelude.{if◌then◌else◌, nat_lt, option_map}
use Rattle.std.proofs.lemmas.Bool.Decides.{nat_tests}
use Rattle.gs_base.specs.declared.config.Config.{Config}
use Rattle.gs_base.specs.declared.numbers.Moment.{Moment}
use Rattle.gs_base.specs.declared.numbers.ReqId.{ReqId}
use Rattle.gs_base.specs.declared.numbers.Stamp.{Stamp}
use Rattle.gs_laws_chunks.specs.accounts.Accounts.{Account}
use Rattle.gs_laws_chunks.specs.accounts.Moving.{account_behind, has_more, is_edit, list_behind, numbered, numbered_at, numbered_by, numbered_of, numbers, reached_behind, server_of}
use Rattle.gs_laws_chunk.specs.machine.Stamps.{stamp_at}
use Rattle.gs_laws_chunk.specs.machine.Machine.{ChunkWorld}
use Rattle.gs_laws_chunk.specs.machine.Events.{Leads}
use Rattle.gs_laws_chunk.specs.machine.Laws.{IsReached}
use Rattle.gs_laws_chunk.proofs.lemmas.machine.Facts.{reached_world}
use Rattle.gs_laws_chunk.proofs.lemmas.machine.Lasting.{agrees}
use Rattle.gs_base.specs.Stamps.{is_same}
use Rattle.gs_laws_chunks.specs.accounts.Agreeing.{BlanksStay}
use Rattle.std.specs.FinMap as fin
use Rattle.gs_master_spec.specs.Applied.{view_in}
use Rattle.gs_laws_chunks.proofs.lemmas.accounts.Serving.{count_then, reaches_more}
use Rattle.gs_laws_lift.proofs.lemmas.stores.Machines.{reached_then}
use Rattle.gs_laws_lift.specs.stores.Accounts.{CountsShow}
use Rattle.gs_laws_lift.specs.stores.Showing.{ShowsNodes, setting}
use Rattle.gs_msg.specs.declared.event.Happening.{Happening}
use Rattle.gs_msg.specs.declared.event.Happening.TheVariants as happenings
use Rattle.gs_msg.specs.declared.message.Message.{Message}
use Rattle.gs_world.specs.Histories.{History}
use Rattle.gs_world.specs.Runs.{Comes, Step, Takes}
use Rattle.gs_world.specs.Sent.{message_of}
use Rattle.gs_replica.specs.Stands.{Edit}
use Rattle.gs_server.specs.Places.{count_or_none}
use Rattle.gs_server.specs.Runs as at_server
use Rattle.gs_server.specs.Runs.{slot_in}
use Rattle.gs_server.specs.Servers.{Server}
use Rattle.gs_laws_server.specs.servers.Calling.{call_by}
use Rattle.gs_laws_server.specs.servers.Following.{edit_in}
use Rattle.gs_master_spec.specs.Durable.{Durable}
use Rattle.gs_store.specs.Slots.{count_of}

never_more : (n : ℕ) → nat_lt n n ≡ false
never_more n = grind (arith, nat_tests)

never_below : (n : ℕ) → nat_lt n 0 ≡ false
never_below n = grind (arith, nat_tests)

-- a server that has no more edits than before numbers none
none_there : (chunk : ℕ) (message : Message) (moment : Moment) (s after : Server) → has_more chunk s after ≡ false → numbers chunk message moment (Some s) (Some after) ≡ None
none_there chunk message moment s after same =
    ap (λ more. if is_edit chunk message.body && more then option_map (λ (edit : Edit). ((slot_in chunk s).promise, edit)) (edit_in (call_by chunk (at_server.Hears message moment) s)) else None) same
    ∙ by_edit (is_edit chunk message.body) (option_map (λ (edit : Edit). ((slot_in chunk s).promise, edit)) (edit_in (call_by chunk (at_server.Hears message moment) s)))
  where
    by_edit : (b : Bool) (x : Option (Stamp × Edit)) → (if b && false then x else None) ≡ None
    by_edit true x = refl
    by_edit false x = refl

module _ {D : Type 0} (chunk : ℕ) (old new : History D) (none : (message : Message) (moment : Moment) (id : ℕ) → numbers chunk message moment (slice_get old.nodes.servers id) (slice_get new.nodes.servers id) ≡ None) where
  by_receiver : (message : Message) (moment : Moment) (o : Option ℕ) → numbered_by o message moment old new chunk ≡ None
  by_receiver message moment None = refl
  by_receiver message moment (Some id) = none message moment id

  by_message : (o : Option Message) (moment : Moment) → numbered_of o moment old new chunk ≡ None
  by_message None moment = refl
  by_message (Some message) moment = by_receiver message moment (server_of message.to)

  by_happening : (happening : Happening) (moment : Moment) → numbered_at happening moment old new chunk ≡ None
  by_happening (happenings.Deliver id) moment = by_message (message_of old.sent id) moment
  by_happening (happenings.Ask req request) moment = refl
  by_happening (happenings.Tick node) moment = refl
  by_happening (happenings.Beat server) moment = refl
  by_happening (happenings.Restart node) moment = refl
  by_happening (happenings.Lose server handle) moment = refl
  by_happening (happenings.Damage server handle block) moment = refl
  by_happening (happenings.FailDisk disk call) moment = refl

  none_at_step : (step : Step) → numbered step old new chunk ≡ None
  none_at_step (Comes event) = by_happening event.happening event.moment
  none_at_step (Takes client) = refl

-- where all servers are as they were
pub none_numbered : {D : Type 0} (chunk : ℕ) (old new : History D) → new.nodes.servers ≡ old.nodes.servers → (step : Step) → numbered step old new chunk ≡ None
none_numbered chunk old new servers step = none_at_step chunk old new (λ message moment id. ap (λ xs. numbers chunk message moment (slice_get old.nodes.servers id) (slice_get xs id)) servers ∙ same_numbers message moment (slice_get old.nodes.servers id)) step
  where
    same_numbers : (message : Message) (moment : Moment) (o : Option Server) → numbers chunk message moment o o ≡ None
    same_numbers message moment None = refl
    same_numbers message moment (Some s) = none_there chunk message moment s s (never_more (count_or_none (count_of (slot_in chunk s).live)))

-- where no server has a replica of the chunk
pub none_of_it : {D : Type 0} (chunk : ℕ) (old new : History D) → ((id : ℕ) (s : Server) → slice_get new.nodes.servers id ≡ Some s → (slot_in chunk s).live ≡ None) → (step : Step) → numbered step old new chunk ≡ None
none_of_it chunk old new dead step = none_at_step chunk old new (λ message moment id. at_server_of message moment id (slice_get old.nodes.servers id) (slice_get new.nodes.servers id) refl) step
  where
    at_server_of : (message : Message) (moment : Moment) (id : ℕ) (o p : Option Server) → slice_get new.nodes.servers id ≡ p → numbers chunk message moment o p ≡ None
    at_server_of message moment id None p there = refl
    at_server_of message moment id (Some s) None there = refl
    at_server_of message moment id (Some s) (Some after) there = none_there chunk message moment s after (ap (λ l. nat_lt (count_or_none (count_of (slot_in chunk s).live)) (count_or_none (count_of l))) (dead id after there) ∙ never_below (count_or_none (count_of (slot_in chunk s).live)))

-- the counts, where the machine reaches no more
pub counts_still : {D : Type 0} (config : Config) (bytes : ReqId → List ℕ) (chunk : ℕ) (step : Step) (old new : History D) (a : Account) (d : Durable) (w v : ChunkWorld) (reached : IsReached w) → Leads w v → ShowsNodes config bytes reached.0.epoch chunk new v
    → v.known.reached ≡ w.known.reached → CountsShow a.reached chunk w → CountsShow (account_behind step old a new d).reached chunk v
counts_still config bytes chunk step old new a d w v reached leads shows same before j t = by_server (slice_get new.nodes.servers j) refl
  where
    by_server : (o : Option Server) → slice_get new.nodes.servers j ≡ o → reached_behind (a.reached chunk j (stamp_at t)) o chunk (stamp_at t) ≡ v.known.reached j t
    by_server None none = before j t ∙ ap (λ f. f j t) (sym same)
    by_server (Some x) there =
        ap (λ n. reached_behind n (Some x) chunk (stamp_at t)) (before j t)
        ∙ count_then (setting config bytes reached.0.epoch) w v chunk j t x (shows.members j x there) (agrees v (reached_world v (reached_then w reached v leads))) (reaches_more w v reached leads j t) (inl (ap (λ f. f j t) same))

-- ---- a chunk that isn't born

-- nobody has had anything of it
blank_reached : (chunk : ℕ) (stamp : Stamp) (o : Option Server) → ((s : Server) → o ≡ Some s → (slot_in chunk s).live ≡ None) → reached_behind 0 o chunk stamp ≡ 0
blank_reached chunk stamp None dead = refl
blank_reached chunk stamp (Some s) dead = ap (λ l. if is_same (slot_in chunk s).promise stamp then max 0 (count_or_none (count_of l)) else 0) (dead s refl) ∙ by_stamp (is_same (slot_in chunk s).promise stamp)
  where
    by_stamp : (b : Bool) → (if b then max 0 0 else 0) ≡ 0
    by_stamp true = refl
    by_stamp false = refl

pub blank_stays : (D : Type 0) → BlanksStay D
blank_stays D chunk step old new a d blank dead none = record {
  list = λ stamp.
      ap (λ o. list_behind a new.sent d o chunk stamp (view_in (fin.get d.chunks chunk))) (none_of_it chunk old new dead step)
      ∙ ap (λ o. list_behind a new.sent d None chunk stamp (view_in o)) none ∙ blank.list stamp;
  reached = λ server stamp. ap (λ n. reached_behind n (slice_get new.nodes.servers server) chunk stamp) (blank.reached server stamp) ∙ blank_reached chunk stamp (slice_get new.nodes.servers server) (λ s there. dead server s there);
  none = none;
}
