-- Behind each run of a store its chunks live.
use Rattle.std.proofs.Common.{◌≡◌, ◌∙◌, ℕ, List, [], ◌∷◌, Some, sym, ap, subst, slice_get}
use Rattle.std.specs.FinMap as fin
use Rattle.gs_block.specs.Written.{HasBlocks}
use Rattle.gs_journal.specs.Records.{standing}
use Rattle.gs_replica.specs.Seals.{Sealed, State}
use Rattle.gs_replica.specs.Stands.{replica_of}
use Rattle.gs_world.specs.Histories.{History}
use Rattle.gs_laws_world.specs.lasting.Lasting.{IsToldIn}
use Rattle.gs_world.specs.Runs.{Step}
use Rattle.gs_server.specs.Runs.{slot_in}
use Rattle.gs_server.specs.Servers.{Server}
use Rattle.gs_master_spec.specs.Durable.{Durable}
use Rattle.gs_store.specs.Slots.{Live, Slot}
use Rattle.gs_nodes.specs.declared.place.MasterPlace.{MasterPlace}
use Rattle.gs_nodes.specs.declared.place.MasterPlace.TheVariants.{Standing, Closed, Away}
use Rattle.gs_laws_parts.specs.server.Requests.{Asked, bytes_in}
use Rattle.gs_laws_lift.specs.stores.Among.{AllAmong, SlotAmong}
use Rattle.gs_laws_lift.specs.stores.Doing.{HasDurable}
use Rattle.gs_laws_lift.specs.stores.Running.{LastsArmed, UnknownArmed}
use Rattle.gs_laws_lift.specs.stores.Living.{ShowsArmed}
use Rattle.gs_laws_lift.specs.stores.Showing.{ShowsMaster}
use Rattle.gs_laws_lift.specs.stores.Unborn.{IsUnknown}
use Rattle.gs_laws_chunks.specs.accounts.Accounts.{Account}
use Rattle.gs_laws_chunks.specs.accounts.Running.{AreAmong, IsArmed, IsGiven, ReplicaAmong, Runs, Setup, replica_in}
use Rattle.gs_laws_chunks.proofs.lemmas.accounts.Blocks.{blocks_have}
use Rattle.gs_laws_chunks.proofs.lemmas.accounts.Told.{arming}
use Rattle.gs_laws_chunks.specs.accounts.Reached.{Shows}
use Rattle.gs_laws_lift.specs.stores.Going.{AllSent}
use Rattle.gs_laws_lift.specs.stores.Saying.{PushRight}
use Rattle.gs_laws_lift.specs.stores.Showing.{Keeps}
use Rattle.gs_laws_lift.proofs.lemmas.stores.Beginning.{silent_at}
use Rattle.gs_laws_lift.proofs.lemmas.stores.Telling.{stores_tell_first}
use Rattle.gs_laws_parts.specs.server.Requests.{IsOfOneEdit}
use Rattle.gs_world.proofs.Reaching.{HaveSizes}
use Rattle.gs_world.proofs.Sending.{step_stays}
use Rattle.gs_world.specs.Runs.{StaySent}
use Rattle.gs_world.specs.Sent.{message_of}
use Rattle.gs_server.specs.Servers as servers
use Rattle.gs_store.specs.Stores.{or_nothing}
use Rattle.gs_nodes.specs.Nodes.{Nodes}
use Rattle.gs_laws_chunks.specs.accounts.Running.{BlocksAmong, IsNew, SealAmong}
use Rattle.gs_base.specs.declared.numbers.ReqId.{ReqId}
use Rattle.gs_laws_chunk.specs.machine.Machine.{ChunkWorld}
use Rattle.gs_store.specs.Slots.{seal_in, seal_of, trashed_seal}
use Rattle.std.specs.Ordering.{nat_cmp}
use Rattle.std.proofs.Common.{Bool, true, Option, None, arith}

-- ---- a failure that is arranged

module _ {D : Type 0} (seen : D → List ℕ) where
  same_text : (one two other another : D) → seen other ≡ seen one → seen another ≡ seen two → standing (seen other) (seen another) ≡ standing (seen one) (seen two)
  same_text one two other another first second = ap (λ s. standing s (seen another)) first ∙ ap (standing (seen one)) second

  pub shown_armed : (chunk : ℕ) (w : ChunkWorld) (place new : MasterPlace D) → IsArmed seen place new → ShowsMaster seen chunk place w → ShowsMaster seen chunk new w
  shown_armed chunk w (Standing m) new (j, is, alike) shows = subst (λ place. ShowsMaster seen chunk place w) (sym is) shows
  shown_armed chunk w (Closed one two) new (other, another, is, first, second) shows =
      subst (λ place. ShowsMaster seen chunk place w) (sym is)
      (record { durable = shows.durable; kept = shows.kept; counters = shows.counters; told = subst (λ t. IsToldIn t shows.durable) (sym (same_text one two other another first second)) shows.told; shows = shows.shows })
  shown_armed chunk w Away new is shows = absurd shows

  pub durable_armed : (d : Durable) (place new : MasterPlace D) → IsArmed seen place new → HasDurable seen place d → HasDurable seen new d
  durable_armed d (Standing m) new (j, is, alike) has = subst (λ place. HasDurable seen place d) (sym is) has
  durable_armed d (Closed one two) new (other, another, is, first, second) has = subst (λ place. HasDurable seen place d) (sym is) (subst (λ t. IsToldIn t d) (sym (same_text one two other another first second)) has)
  durable_armed d Away new is has = absurd has

  pub unknown_armed : (chunk epoch : ℕ) (place new : MasterPlace D) → IsArmed seen place new → IsUnknown seen chunk epoch place → IsUnknown seen chunk epoch new
  unknown_armed chunk epoch (Standing m) new (j, is, alike) unknown = subst (IsUnknown seen chunk epoch) (sym is) unknown
  unknown_armed chunk epoch (Closed one two) new (other, another, is, first, second) unknown =
      subst (IsUnknown seen chunk epoch) (sym is)
      (record { durable = unknown.durable; kept = unknown.kept; counters = unknown.counters; told = subst (λ t. IsToldIn t unknown.durable) (sym (same_text one two other another first second)) unknown.told; ungiven = unknown.ungiven; later = unknown.later })
  unknown_armed chunk epoch Away new is unknown = absurd unknown

-- ---- blocks

-- what a replica has that a slot keeps
slot_among : (among : List ℕ → Bool) (block : ℕ) (s : Slot) → among [] ≡ true → ReplicaAmong block among (replica_in s.live) → ReplicaAmong block among s.trash → SlotAmong among block s
slot_among among block s empty live trash = record {
  live = λ l is. blocks_have block among l.replica.held.chunk.bytes empty (of_live s.live l is live);
  seal = λ t is. of_seal s.live s.trash t is live trash;
}
  where
    of_live : (o : Option Live) (l : Live) → o ≡ Some l → ReplicaAmong block among (replica_in o) → BlocksAmong block among l.replica.held.chunk.bytes
    of_live None l is are = absurd (cc)
    of_live (Some y) l is are = (let same : y ≡ l = cc in subst (λ (z : Live). BlocksAmong block among z.replica.held.chunk.bytes) same are.0)

    of_sealed : (o : Option Sealed) (t : Sealed) → o ≡ Some t → SealAmong block among o → HasBlocks block among t.undone.bytes
    of_sealed None t is are = absurd (cc)
    of_sealed (Some y) t is are = (let same : y ≡ t = cc in blocks_have block among t.undone.bytes empty (subst (λ (z : Sealed). BlocksAmong block among z.undone.bytes) same are))

    of_trash : (o : Option State) (t : Sealed) → trashed_seal o ≡ Some t → ReplicaAmong block among o → HasBlocks block among t.undone.bytes
    of_trash None t is are = absurd (cc)
    of_trash (Some r) t is are = of_sealed r.sealed t is are.1

    of_inner : (o : Option Sealed) (trash : Option State) (t : Sealed) → seal_in o trash ≡ Some t → SealAmong block among o → ReplicaAmong block among trash → HasBlocks block among t.undone.bytes
    of_inner None trash t is one other = of_trash trash t is other
    of_inner (Some y) trash t is one other = of_sealed (Some y) t is one

    of_seal : (live : Option Live) (trash : Option State) (t : Sealed) → seal_of live trash ≡ Some t → ReplicaAmong block among (replica_in live) → ReplicaAmong block among trash → HasBlocks block among t.undone.bytes
    of_seal None trash t is one other = of_trash trash t is other
    of_seal (Some l) trash t is one other = of_inner l.replica.sealed trash t is one.1 other

module _ {D : Type 0} (x : Setup D) (asked : ℕ → Asked) (given : IsGiven x) where
  abbrev bytes : ReqId → List ℕ
  bytes = bytes_in asked

  pub arms_shown : ShowsArmed x.seen x.armed
  arms_shown = record {
    shown = λ chunk w disk call place shows. shown_armed x.seen chunk w place (x.armed disk call place) (given.armed disk call place) shows;
    durable = λ d disk call place has. durable_armed x.seen d place (x.armed disk call place) (given.armed disk call place) has;
  }

  pub arms_lasting : LastsArmed x.seen x.armed
  arms_lasting disk call place lasts = arming x x.seen place (x.armed disk call place) (given.armed disk call place) lasts

  pub arms_unknown : UnknownArmed x.seen x.armed
  arms_unknown chunk disk call epoch place unknown = unknown_armed x.seen chunk epoch place (x.armed disk call place) (given.armed disk call place) unknown

  pub empty_text : HasBlocks x.config.block x.among (replica_of x.config.chunk []).bytes
  unfolding replica_of
  empty_text = blocks_have x.config.block x.among [] given.empty (λ i within. absurd (omega arith))

  -- what servers have that are of the store's sizes
  pub all_among : (h : History D) → Keeps x.config bytes h → AreAmong x.among h.nodes → (chunk : ℕ) → AllAmong x.among x.config.block chunk h.nodes.servers
  all_among h keeps are chunk id s found =
      let a = are id chunk s found in
      subst (λ n. SlotAmong x.among n (slot_in chunk s)) (let k = keeps.servers id s found in k.block) (slot_among x.among s.block (slot_in chunk s) given.empty a.0 a.1)

  -- what was sent stays so
  pub run_stays : (steps : List Step) (old new : History D) (a b : Account) → Runs x steps old a new b → StaySent old.sent new.sent
  run_stays [] old new a b runs id message is = subst (λ (h : History D). message_of h.sent id ≡ Some message) (sym runs.0) is
  run_stays (step ∷ steps) old new a b (mid, c, one, rest) id message is = run_stays steps mid new c b rest id message (step_stays x.seen x.failures x.armed step old mid one.steps.goes id message is)

  -- a store that has begun new
  pub shows_first : HaveSizes → (begun : History D) (first : Account) → IsNew x begun first → AllSent (PushRight bytes) begun.sent → AllSent (IsOfOneEdit asked) begun.sent → Shows x asked begun
  shows_first sizes begun first new right one =
      let tells = stores_tell_first x.seen x.failures x.armed x.config bytes x.among asked sizes x.clients x.disks begun given.new new.begins (λ chunk id s found. subst (λ (s : Server). SlotAmong x.among x.config.block (slot_in chunk s)) (sym (begun_new id s found)) (none_among chunk id)) right one in
      record { lives = tells.0; tells = tells.1 }
    where
      begun_new : (id : ℕ) (s : Server) → slice_get begun.nodes.servers id ≡ Some s → s ≡ servers.new id x.config.block x.config.chunk
      begun_new id s found = silent_at x.config x.config.servers id s (subst (λ (n : Nodes D). slice_get n.servers id ≡ Some s) new.begins.nodes found)

      none_among : (chunk id : ℕ) → SlotAmong x.among x.config.block (slot_in chunk (servers.new id x.config.block x.config.chunk))
      none_among chunk id = subst (λ (s : Slot). SlotAmong x.among x.config.block s) (sym (ap or_nothing (fin.get-empty nat_cmp chunk))) (record { live = λ l is. absurd (cc); seal = λ t is. absurd (cc) })
