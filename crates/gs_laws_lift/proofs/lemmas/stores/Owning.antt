-- Each edit of a chunk's lists is the one that its request asks for.
use Rattle.std.proofs.Common.{◌≡◌, ◌⊎◌, inl, inr, ℕ, List, Some, sym, ap, subst, ◌∙◌}
use Rattle.gs_base.specs.declared.config.Config.{Config}
use Rattle.gs_base.specs.declared.numbers.ReqId.{ReqId}
use Rattle.gs_replica.specs.Stands.{Edit}
use Rattle.gs_msg.specs.declared.body.Body.TheVariants as bodies
use Rattle.gs_msg.specs.declared.chunk.Chunk.TheVariants as chunks
use Rattle.gs_msg.specs.declared.node.NodeId.TheVariants as nodes
use Rattle.gs_world.proofs.Sending.{sent_still}
use Rattle.gs_world.specs.Runs.{StaySent}
use Rattle.gs_world.specs.Sent.{Sent}
use Rattle.gs_msg.specs.declared.event.Request.TheVariants as requests
use Rattle.gs_server.specs.Edits.{applied_bytes}
use Rattle.gs_laws_chunk.specs.machine.Machine.{Known, Member, ChunkWorld}
use Rattle.gs_laws_chunk.specs.machine.Laws.{world_of}
use Rattle.gs_laws_chunk.specs.machine.Owning.{AddsOwn, AreOwn}
use Rattle.gs_laws_chunk.proofs.lemmas.machine.Owning.{born_own, masters_own, servers_own}
use Rattle.gs_laws_parts.specs.server.Requests.{Asked, bytes_in, named}
use Rattle.gs_laws_parts.specs.server.Showing.{Setting}
use Rattle.gs_laws_lift.specs.stores.Joint.{AtMaster, AtServer, Elsewhere}
use Rattle.gs_laws_lift.specs.stores.Owning.{AskingGoesOn, IsAskedEdit, NewbornsAsked, NewbornsOwn, OwningGoesOn, WasAskedFor, numbered_behind}
use Rattle.gs_laws_lift.specs.stores.Showing.{setting}
use Rattle.gs_laws_lift.proofs.lemmas.stores.Numbered.{NumbersOf, goes_of}
use Rattle.gs_laws_lift.proofs.lemmas.stores.Posting.{posts_stay}

-- an edit that is numbered is the one that was asked for
adds_asked : (asked : ℕ → Asked) (chunk : ℕ) (sent : Sent) (c : Setting) (m n : Member) (t : ℕ) (old new : List Edit) → (new ≡ old) ⊎ NumbersOf asked chunk sent c m n t old new → AddsOwn (IsAskedEdit c.bytes asked c.size) old new
adds_asked asked chunk sent c m n t old new (inl same) = inl same
adds_asked asked chunk sent c m n t old new (inr x) =
    let s = (x.numbers).says in
    inr (
      x.numbers.edit,
      x.numbers.is,
      record {
        handle = x.handle;
        members = x.members;
        primary = x.primary;
        stamp = x.stamp;
        op = x.op;
        asks = subst (λ r. named asked r ≡ Some (requests.Write x.handle x.members x.primary x.stamp x.op (bytes_in asked r))) (sym s.req) x.asks;
        numbered = record { is = s.op; long = s.long; short = x.numbers.short; fits = x.numbers.fits };
        has = s.bytes ∙ ap (λ r. applied_bytes (numbered_behind c.size old x.op) (c.bytes r)) (sym s.req);
        within = x.numbers.within;
      },
    )

pub owning_goes_on : {D : Type 0} (seen : D → List ℕ) (config : Config) (bytes : ReqId → List ℕ) (asked : ℕ → Asked) → OwningGoesOn seen config bytes asked
owning_goes_on seen config bytes asked born chunk step old new w v one (AtServer by) own =
    let steps = by.steps in
    let c : Setting = setting config bytes born in
    subst (λ (x : ChunkWorld). AreOwn (IsAskedEdit bytes asked config.chunk) x.known) (sym by.world)
    (servers_own (IsAskedEdit bytes asked config.chunk) w steps.world
    (λ t. adds_asked asked chunk old.sent c (w.members by.id) (steps.world.members by.id) t (w.known.list t) (steps.world.known.list t)
    (goes_of asked chunk old.sent by.id by.server by.after by.messages one by.goes c (w.members by.id) (steps.world.members by.id) t (w.known.list t) (steps.world.known.list t) (steps.numbers t))) own)
owning_goes_on seen config bytes asked born chunk step old new w v one (AtMaster by) own = masters_own (IsAskedEdit bytes asked config.chunk) w v by.leads by.masters own
owning_goes_on seen config bytes asked born chunk step old new w v one (Elsewhere still servers master by messages moment are posted) own = subst (λ (x : ChunkWorld). AreOwn (IsAskedEdit bytes asked config.chunk) x.known) (sym still) own

-- ---- by a message that was sent

-- what was sent stays sent
asked_still : (old new : Sent) → StaySent old new → (edit : Edit) → WasAskedFor old edit → WasAskedFor new edit
asked_still old new stays edit a = record { message = a.message; was = sent_still a.message old new stays a.was; handle = a.handle; stamp = a.stamp; op = a.op; says = a.says }

still_asked : (old new : Sent) (k : Known) → StaySent old new → AreOwn (λ before edit. WasAskedFor old edit) k → AreOwn (λ before edit. WasAskedFor new edit) k
still_asked old new k stays asked t place edit at = asked_still old new stays edit (asked t place edit at)

-- an edit that is numbered was asked for
adds_heard : (asked : ℕ → Asked) (chunk : ℕ) (sent : Sent) (c : Setting) (m n : Member) (t : ℕ) (old new : List Edit) → (new ≡ old) ⊎ NumbersOf asked chunk sent c m n t old new → AddsOwn (λ before edit. WasAskedFor sent edit) old new
adds_heard asked chunk sent c m n t old new (inl same) = inl same
adds_heard asked chunk sent c m n t old new (inr x) =
    let s = (x.numbers).says in
    inr (
      x.numbers.edit,
      x.numbers.is,
      record {
        message = x.message;
        was = x.was;
        handle = x.handle;
        stamp = x.stamp;
        op = x.op;
        says = x.says ∙ ap (λ r. bodies.About x.handle (chunks.Edit r x.stamp x.op)) (sym s.req);
      },
    )

pub asking_goes_on : {D : Type 0} (seen : D → List ℕ) (config : Config) (bytes : ReqId → List ℕ) (asked : ℕ → Asked) → AskingGoesOn seen config bytes asked
asking_goes_on seen config bytes asked born chunk step old new w v one (AtServer by) own =
    let steps = by.steps in
    let c : Setting = setting config bytes born in
    still_asked old.sent new.sent v.known (posts_stay by.moment (nodes.Server by.id) by.messages old.sent new.sent by.posted)
    (subst (λ (x : ChunkWorld). AreOwn (λ before edit. WasAskedFor old.sent edit) x.known) (sym by.world)
    (servers_own (λ before edit. WasAskedFor old.sent edit) w steps.world
    (λ t. adds_heard asked chunk old.sent c (w.members by.id) (steps.world.members by.id) t (w.known.list t) (steps.world.known.list t)
    (goes_of asked chunk old.sent by.id by.server by.after by.messages one by.goes c (w.members by.id) (steps.world.members by.id) t (w.known.list t) (steps.world.known.list t) (steps.numbers t))) own))
asking_goes_on seen config bytes asked born chunk step old new w v one (AtMaster by) own =
    masters_own (λ before edit. WasAskedFor new.sent edit) w v by.leads by.masters (still_asked old.sent new.sent w.known (posts_stay by.moment nodes.Master by.messages old.sent new.sent by.posted) own)
asking_goes_on seen config bytes asked born chunk step old new w v one (Elsewhere still servers master by messages moment are posted) own =
    subst (λ (x : ChunkWorld). AreOwn (λ before edit. WasAskedFor new.sent edit) x.known) (sym still) (still_asked old.sent new.sent w.known (posts_stay moment by messages old.sent new.sent posted) own)

-- ---- a chunk is born by what the master does

pub newborns_asked : {D : Type 0} (seen : D → List ℕ) (config : Config) (bytes : ReqId → List ℕ) → NewbornsAsked seen config bytes
newborns_asked seen config bytes chunk old new b comes own =
    masters_own (λ before edit. WasAskedFor new.sent edit) (world_of b.reached.0) b.world comes.leads comes.masters
    (still_asked old.sent new.sent (world_of b.reached.0).known (posts_stay comes.moment nodes.Master comes.messages old.sent new.sent comes.posted) (born_own (λ before edit. WasAskedFor old.sent edit) b.reached.0 own))

pub newborns_own : {D : Type 0} (seen : D → List ℕ) (config : Config) (bytes : ReqId → List ℕ) (asked : ℕ → Asked) → NewbornsOwn seen config bytes asked
newborns_own seen config bytes asked chunk old new b comes own =
    masters_own (IsAskedEdit bytes asked config.chunk) (world_of b.reached.0) b.world comes.leads comes.masters (born_own (IsAskedEdit bytes asked config.chunk) b.reached.0 own)
