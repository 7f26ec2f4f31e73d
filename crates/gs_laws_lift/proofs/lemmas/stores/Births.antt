-- A chunk that isn't born, at what happens at the master: it stays so, or a machine of it that is born shows the store.
use Rattle.std.proofs.Common.{◌≡◌, ◌≤◌, ℕ, List, [], ◌∷◌, Some, sym, subst, slice_get, arith}
use Rattle.std.specs.Prelude.{}
use Rattle.std.specs.List.{AllByRecursion}
use Rattle.std.proofs.lemmas.Bool.{false≢true}
use Rattle.gs_base.specs.declared.config.Config.{Config}
use Rattle.gs_base.specs.declared.numbers.Moment.{Moment}
use Rattle.gs_base.specs.declared.numbers.ReqId.{ReqId}
use Rattle.gs_master.specs.Masters.{MasterOf}
use Rattle.gs_msg.specs.declared.body.Body.{Body}
use Rattle.gs_msg.specs.declared.body.Body.TheVariants as bodies
use Rattle.gs_msg.specs.declared.body.Reported.{Reported}
use Rattle.gs_msg.specs.declared.chunk.Chunk.{Chunk as About}
use Rattle.gs_msg.specs.declared.chunk.Chunk.TheVariants as abouts
use Rattle.gs_msg.specs.declared.message.Message.{Message}
use Rattle.gs_msg.specs.declared.node.NodeId.{NodeId}
use Rattle.gs_msg.specs.declared.node.NodeId.TheVariants as ids
use Rattle.gs_server.specs.Servers.{place_of}
use Rattle.gs_master_spec.specs.State.{State}
use Rattle.gs_nodes.specs.declared.place.MasterPlace.TheVariants.{Standing}
use Rattle.gs_world.specs.Histories.{History}
use Rattle.gs_world.specs.Sent.{IsSent}
use Rattle.gs_laws_chunk.specs.machine.Events as events
use Rattle.gs_laws_chunk.specs.machine.Laws.{Birth, world_of}
use Rattle.gs_laws_parts.specs.server.Showing.{Setting}
use Rattle.gs_laws_parts.specs.server.Telling.{ServersTell}
use Rattle.gs_laws_parts.proofs.lemmas.server.Beside.{place_beside}
use Rattle.gs_laws_parts.proofs.lemmas.server.Unborn.{born_shows}
use Rattle.gs_laws_parts.specs.master.Families as families
use Rattle.gs_laws_parts.specs.master.Telling as entry
use Rattle.gs_laws_parts.specs.server.Messages as messages
use Rattle.gs_laws_parts.specs.master.Telling.{Says}
use Rattle.gs_laws_parts.specs.master.Unborn as unborn
use Rattle.gs_laws_moves.specs.moves.Asked.{WasHeard}
use Rattle.gs_laws_moves.specs.moves.Laws.{said_from}
use Rattle.gs_laws_lift.specs.stores.Saying.{AreOfMaster, IsOfClientAbout, IsOfMaster, PushRight}
use Rattle.gs_laws_lift.specs.stores.Going.{AllSent, Posts}
use Rattle.gs_laws_lift.specs.stores.Showing.{ShowsMaster, ShowsStore, setting}
use Rattle.gs_laws_lift.specs.stores.Unborn.{IsBefore, IsUnborn, IsUnknown, SaysNothing, TellsWithin}
use Rattle.gs_laws_lift.proofs.lemmas.stores.Joint.{all_of_master, call_says}
use Rattle.gs_laws_lift.proofs.lemmas.stores.Posting.{posted_all, sent_then}
use Rattle.gs_laws_lift.proofs.lemmas.stores.Unborn.{before_tells}

-- ---- what the master says

says_before : (chunk epoch : ℕ) (body : Body) → IsOfMaster body → unborn.SaysNothingIn chunk epoch body → SaysNothing chunk body × TellsWithin epoch body
says_before chunk epoch (bodies.About handle said) is says = ((λ same. absurd (says same)), tt)
says_before chunk epoch (bodies.MakeCopy handle at new_handle stamp) is says = (copies says, tt)
  where
    copies : unborn.SaysNothingIn chunk epoch (bodies.MakeCopy handle at new_handle stamp) → new_handle ≡ chunk → ⊥
    copies says = says.1
says_before chunk epoch (bodies.Epoch told end) is says = (tt, says)
says_before chunk epoch (bodies.Reply req result) is says = (tt, tt)
says_before chunk epoch body is says = absurd is

pub all_before : (chunk epoch : ℕ) (messages : List Message) → AreOfMaster messages → AllByRecursion (unborn.SaysNothing chunk epoch) messages → AllByRecursion (IsBefore chunk epoch) messages
all_before chunk epoch [] are says = tt
all_before chunk epoch (m ∷ messages) are says = (says_before chunk epoch m.body are.0 says.0, all_before chunk epoch messages are.1 says.1)

within_later : (epoch later : ℕ) → epoch ≤ later → (body : Body) → TellsWithin epoch body → TellsWithin later body
within_later epoch later less (bodies.Epoch told end) within = omega arith
within_later epoch later less body within = tt

before_later : (chunk epoch later : ℕ) → epoch ≤ later → (m : Message) → IsBefore chunk epoch m → IsBefore chunk later m
before_later chunk epoch later less m before = (before.0, within_later epoch later less m.body before.1)

-- ---- what servers have said

says_silent : (chunk server : ℕ) (body : Body) → SaysNothing chunk body → Says chunk unborn.silent server body
says_silent chunk server (bodies.About handle said) says = λ same. by_client said (says same)
  where
    by_client : (said : About) → IsOfClientAbout said → messages.SaysOf unborn.silent server said
    by_client (abouts.Edit req stamp op) is = tt
    by_client (abouts.Fetch req stamp epoch asked) is = tt
    by_client said is = absurd is
says_silent chunk server (bodies.Report epoch replicas) says = all_reports epoch replicas says
  where
    all_reports : (epoch : ℕ) (replicas : List Reported) → AllByRecursion (λ (r : Reported). r.handle ≡ chunk → ⊥) replicas → AllByRecursion (messages.ReportsIt chunk unborn.silent server epoch) replicas
    all_reports epoch [] says = tt
    all_reports epoch (r ∷ replicas) says = ((λ same. absurd (says.0 same)), all_reports epoch replicas says.1)
says_silent chunk server (bodies.Learned epoch handles) says = all_names epoch handles says
  where
    all_names : (epoch : ℕ) (handles : List ℕ) → AllByRecursion (λ (handle : ℕ). handle ≡ chunk → ⊥) handles → AllByRecursion (messages.NamesIt chunk unborn.silent server epoch) handles
    all_names epoch [] says = tt
    all_names epoch (h ∷ handles) says = ((λ same. absurd (says.0 same)), all_names epoch handles says.1)
says_silent chunk server body says = tt

module _ (config : Config) (bytes : ReqId → List ℕ) (chunk : ℕ) {D : Type 0} (seen : D → List ℕ) (old new : History D) (first : IsUnborn seen chunk old) where
  pub heard_silent : (message : Message) → IsSent message old.sent → WasHeard (Says chunk unborn.silent) (said_from message.from message.body)
  heard_silent message was = by_from message.from
    where
      by_from : (from : NodeId) → WasHeard (Says chunk unborn.silent) (said_from from message.body)
      by_from ids.Master server body is = absurd (cc)
      by_from (ids.Client client) server body is = call_says chunk unborn.silent client message.body server body is
      by_from (ids.Server from) server body is =
          let pair : ◌≡◌ {A = ℕ × Body} (from, message.body) (server, body) = cc in
          subst (λ (x : ℕ × Body). Says chunk unborn.silent x.0 x.1) pair (says_silent chunk from message.body (first.sent was.0 message was.1).0)

  module _ (by : NodeId) (moment : Moment) (messages : List Message) (servers : new.nodes.servers ≡ old.nodes.servers) (posted : Posts moment by messages old.sent new.sent) where
    -- it stays unborn where the master knows nothing of it still
    pub stays_unborn : (later : ℕ) → first.epoch ≤ later → IsUnknown seen chunk later new.nodes.master → AllByRecursion (IsBefore chunk later) messages → IsUnborn seen chunk new
    stays_unborn later less unknown says = record {
      epoch = later;
      servers = λ id s found. (let x = first.servers id s (subst (λ xs. slice_get xs id ≡ Some s) servers found) in (x.0, (let y = x.1 in omega arith)));
      master = unknown;
      sent = posted_all (IsBefore chunk later) moment by messages old.sent new.sent posted (sent_then (IsBefore chunk first.epoch) (IsBefore chunk later) old.sent (before_later chunk first.epoch later less) first.sent) says;
    }

    -- a machine that is born shows the store
    pub born_shown : (m : MasterOf D) (s u : State) (sent : List Message) (b : families.IsAlive chunk u) → first.epoch ≤ s.durable.epoch → families.GoesBorn chunk s u sent b → AreOfMaster sent → AllSent (PushRight bytes) new.sent → m.state ≡ u → messages ≡ sent
        → new.nodes.master ≡ Standing m → ShowsStore seen config bytes b.reached.0.epoch chunk new b.world
    born_shown m s u sent b less goes are right state sends master = record {
      members = λ id x found.
          let y = first.servers id x (subst (λ xs. slice_get xs id ≡ Some x) servers found) in
          let within : x.kept.epoch ≤ birth.epoch = (let z = y.1 in let late = goes.later in omega arith) in
          place_beside (world_of birth) b.world (birth, events.Rests) goes.leads c id x.kept.epoch (place_of chunk x) (goes.members id) (λ new whole. absurd (false≢true whole)) (born_shows c chunk birth.how birth.origin x y.0 within);
      master = subst (λ place. ShowsMaster seen chunk place b.world) (sym master) (subst (λ y. entry.Shows chunk y b.world) (sym state) b.shows);
      sent = λ id message is. all id message is (right id message is);
    }
      where
        birth : Birth
        birth = b.reached.0

        c : Setting
        c = setting config bytes birth.epoch

        Told : Message → Type 0
        Told message = PushRight bytes message → ServersTell (setting config bytes b.reached.0.epoch) chunk b.world message

        without : (ms : List Message) → AllByRecursion (ServersTell (setting config bytes b.reached.0.epoch) chunk b.world) ms → AllByRecursion Told ms
        without [] t = tt
        without (message ∷ ms) t = ((λ right. t.0), without ms t.1)

        all : AllSent Told new.sent
        all = posted_all Told moment by messages old.sent new.sent posted
            (sent_then (IsBefore chunk first.epoch) Told old.sent
            (λ message before right. before_tells (setting config bytes b.reached.0.epoch) chunk b.world message (before_later chunk first.epoch b.reached.0.epoch (let z = goes.later in omega arith) message before) right) first.sent)
            (subst (AllByRecursion Told) (sym sends) (without sent (all_of_master (setting config bytes b.reached.0.epoch) chunk b.world sent are goes.tells)))
