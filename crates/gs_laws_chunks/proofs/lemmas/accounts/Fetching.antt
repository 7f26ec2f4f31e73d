-- What a member of a view gives that was told of a chunk is legal.
use Rattle.gs_laws_lift.specs.stores.Left.{left_in}
use Rattle.std.proofs.Common.{◌≡◌, ◌∙◌, ◌++◌, ◌+◌, ◌<◌, ◌≤◌, ◌⊎◌, inl, inr, ℕ, zero, suc, Bool, false, true, List, [], length, None, Option, Some, Result, Ok, Err, refl, sym, ap, subst, arith, append_assoc, slice_get, slice_set}
use Rattle.std.specs.Prelude.{Contains, MatchOption}
use Rattle.std.proofs.lemmas.Bool.{cases_lt}
use Rattle.std.proofs.lemmas.List.{take-append-drop}
use Rattle.std.specs.Prelude.{drop}
use Rattle.gs_base.specs.Members.{is_member}
use Rattle.gs_base.specs.Stamps.{is_before}
use Rattle.gs_base.specs.declared.numbers.Moment.{Moment}
use Rattle.gs_base.specs.declared.numbers.ReqId.{ReqId}
use Rattle.gs_base.specs.declared.refusal.Refusal.{Refusal}
use Rattle.gs_base.specs.declared.refusal.Refusal.TheVariants as refusals
use Rattle.gs_laws_chunks.specs.accounts.Accounts.{Account, text_of}
use Rattle.gs_laws_chunks.specs.accounts.Running.{Setup}
use Rattle.gs_laws_chunk.proofs.lemmas.machine.Facts.{reached_world}
use Rattle.gs_laws_chunk.proofs.lemmas.machine.Lasting.{agrees}
use Rattle.gs_laws_chunk.proofs.lemmas.machine.Known.{Later}
use Rattle.gs_laws_chunk.proofs.lemmas.machine.Stays.{known_inherits}
use Rattle.gs_laws_chunk.proofs.lemmas.machine.Viewed.{lists_of_views}
use Rattle.gs_laws_chunk.proofs.lemmas.machine.Worlds.{leads_later}
use Rattle.gs_laws_chunk.specs.machine.Events.{is_of}
use Rattle.gs_laws_chunk.specs.machine.Laws as machine
use Rattle.gs_laws_chunk.specs.machine.Laws.{Birth, settled}
use Rattle.gs_laws_chunk.specs.machine.Machine.{ChunkWorld}
use Rattle.gs_laws_chunk.specs.machine.Stamps.{stamp_at}
use Rattle.gs_laws_parts.proofs.lemmas.master.Stamps.{of_member}
use Rattle.gs_lease.specs.declared.view.View.{View}
use Rattle.gs_laws_lift.proofs.lemmas.stores.Accounts.{no_front}
use Rattle.gs_laws_lift.specs.stores.Accounts.{IsUnseen}
use Rattle.gs_master.specs.declared.turn.Turn.{Turn}
use Rattle.gs_laws_parts.proofs.lemmas.server.Holding.{legal_read}
use Rattle.gs_laws_parts.proofs.lemmas.server.Stamps.{before_less}
use Rattle.gs_laws_parts.proofs.lemmas.server.Lists.{nil_contains}
use Rattle.gs_laws_parts.specs.server.Reading.{GivesOf, IsRead}
use Rattle.gs_laws_parts.specs.server.Showing.{Setting, setting_of}
use Rattle.gs_msg.specs.declared.body.Given.{Given}
use Rattle.gs_msg.specs.declared.chunk.Asked.{Asked}
use Rattle.gs_msg.specs.declared.event.Event.{Event}
use Rattle.gs_msg.specs.declared.event.Happening.TheVariants as happenings
use Rattle.gs_msg.specs.declared.event.DiskId.{DiskId}
use Rattle.gs_msg.specs.declared.message.Message.{Message}
use Rattle.gs_msg.specs.declared.message.MsgId.{MsgId}
use Rattle.gs_msg.specs.declared.node.NodeId.{NodeId}
use Rattle.gs_msg.specs.declared.node.NodeId.TheVariants as nodes
use Rattle.gs_replica.specs.Stands.{Edit}
use Rattle.gs_world.specs.Histories.{AtNode, ComesTo, Happens, History, Upshot, told}
use Rattle.gs_world.specs.Sent.{message_of}
use Rattle.gs_server.specs.Servers.{Server}
use Rattle.gs_server.specs.Servers as servers
use Rattle.gs_nodes.specs.Happenings.{Delivers, Hears, ServerDoes}
use Rattle.gs_nodes.specs.Nodes.{Nodes, with_servers}
use Rattle.gs_nodes.specs.declared.place.MasterPlace.{MasterPlace}
use Rattle.gs_laws_chunks.proofs.lemmas.accounts.Given.{given_so, read_of_member}
use Rattle.gs_laws_chunks.proofs.lemmas.accounts.Viewing.{IsViewed, viewed}
use Rattle.gs_laws_chunks.specs.accounts.Joined.{IsSeen, SeenOn}
use Rattle.gs_laws_chunks.specs.accounts.Reading.{GivesBytes, IsFetch, IsLegalRead, IsLookedUp, given_of, sent_at}
use Rattle.gs_laws_chunks.specs.accounts.SeenReads.{SeenReadsAreLegal}

-- ---- what a server sends where a message is delivered to it

pub nothing_given : {Z : Type 0} (sent : List Message) (m : Message) → sent ≡ [] → Contains sent m → Z
nothing_given sent m none there = nil_contains m (subst (λ xs. Contains xs m) none there)

-- something is sent at a delivery to a server: there is one, and it sends what it does
pub record IsServed {D : Type 0} (now : Nodes D) (id : ℕ) (message : Message) (moment : Moment) (outcome : Upshot) : Type 0 where
  pub server : Server
  pub found : slice_get now.servers id ≡ Some server
  pub sends : sent_at outcome ≡ (servers.handle server message moment).sent

module _ {D : Type 0} (seen : D → List ℕ) (failures : D → ℕ) (armed : DiskId → ℕ → MasterPlace D → MasterPlace D) (now new : Nodes D) (message : Message) (moment : Moment) (m : Message) where
  by_does : (id : ℕ) (s after : Server) (turn : Result Turn Refusal) (outcome : Upshot) → slice_get now.servers id ≡ Some s → ServerDoes (servers.handle s message moment) s turn after → outcome ≡ told turn → Contains (sent_at outcome) m → IsServed now id message moment outcome
  by_does id s after (Ok turn) outcome found does is there = record { server = s; found = found; sends = ap sent_at is ∙ does.1 }
  by_does id s after (Err e) outcome found does is there = nothing_given (sent_at outcome) m (ap sent_at is) there

  by_found : (id : ℕ) (o : Option Server) (turn : Result Turn Refusal) (outcome : Upshot) → slice_get now.servers id ≡ o
      → MatchOption o ((new ≡ now) × (turn ≡ Err refusals.Range)) (λ s. (after : Server) × (new ≡ with_servers (slice_set now.servers id after) now) × ServerDoes (servers.handle s message moment) s turn after) → outcome ≡ told turn → Contains (sent_at outcome) m → IsServed now id message moment outcome
  by_found id None turn outcome found refused is there = nothing_given (sent_at outcome) m (ap sent_at (is ∙ ap told refused.1)) there
  by_found id (Some s) turn outcome found does is there = by_does id s does.0 turn outcome found does.2 is there

  by_delivery : (id : ℕ) (turn : Result Turn Refusal) (outcome : Upshot) → message.to ≡ nodes.Server id → Delivers seen failures message moment now turn new → outcome ≡ told turn → Contains (sent_at outcome) m → IsServed now id message moment outcome
  unfolding Delivers
  by_delivery id turn outcome to delivers is there = by_found id (slice_get now.servers id) turn outcome refl (subst (λ node. Hears seen failures message moment node now turn new) to delivers) is there

  by_coming : (sender : NodeId) (id : ℕ) (by : NodeId) (outcome : Upshot) → message.to ≡ nodes.Server id → ComesTo seen failures armed sender message moment now by outcome new → Contains (sent_at outcome) m → IsServed now id message moment outcome
  by_coming sender id by outcome to (inl (is_by, turn, delivers, is)) there = by_delivery id turn outcome to delivers is there
  by_coming sender id by outcome to (inr (refused, same, from)) there = nothing_given (sent_at outcome) m (ap sent_at refused) there

-- an event at which a message is delivered to a server
pub served : {D : Type 0} (seen : D → List ℕ) (failures : D → ℕ) (armed : DiskId → ℕ → MasterPlace D → MasterPlace D) (event : Event) (now next : History D) (said : Result (Unit {0}) Refusal) (happens : Happens seen failures armed event now said next) (at : MsgId) (message : Message) (id : ℕ) (m : Message)
    → event.happening ≡ happenings.Deliver at → message_of now.sent at ≡ Some message → message.to ≡ nodes.Server id → Contains (sent_at happens.outcome) m → IsServed now.nodes id message event.moment happens.outcome
served seen failures armed event now next said happens at message id m is found to there =
    by_coming seen failures armed now.nodes next.nodes message event.moment m at.sender id happens.by happens.outcome to
    (subst (λ o. MatchOption o ((happens.outcome ≡ Err refusals.Range) × (next.nodes ≡ now.nodes) × (happens.by ≡ at.sender)) (λ message. ComesTo seen failures armed at.sender message event.moment now.nodes happens.by happens.outcome next.nodes)) found
    (subst (λ h. AtNode seen failures armed event.moment h now happens.by happens.outcome next.nodes) is happens.at)) there

-- ---- stamps

no_less : (a b : ℕ) → b ≤ a → is_before (stamp_at a) (stamp_at b) ≡ false
no_less a b more = by_case (is_before (stamp_at a) (stamp_at b)) refl
  where
    by_case : (x : Bool) → is_before (stamp_at a) (stamp_at b) ≡ x → x ≡ false
    by_case false is = refl
    by_case true is = absurd (let less = before_less a b is in omega arith)

-- ---- a look-up, and a read later

module _ {D : Type 0} (x : Setup D) (bytes : ReqId → List ℕ) (chunk epoch : ℕ) (looked now : History D) (a b : Account) (view : View) (first : IsSeen x bytes chunk (left_in looked) a) (last : IsSeen x bytes chunk (left_in now) b) (on : SeenOn x bytes chunk (left_in looked) a (left_in now) b first last) (is : IsLookedUp a chunk view epoch) where
  abbrev w : ChunkWorld
  w = first.alive.world

  abbrev v : ChunkWorld
  v = last.alive.world

  at_look : IsViewed a chunk w view
  at_look = viewed x bytes chunk (left_in looked) a first view is.listed is.settled

  later : Later w.known v.known
  later = leads_later w v on.leads (reached_world w first.alive.reached)

  view_is : w.known.view ≡ w.entry.view.stamp
  view_is = (agrees w (reached_world w first.alive.reached)).view

  -- a list of the account, of that view or a later one, that edits begin
  record IsBegun (edits : List Edit) : Type 0 where
    stamp : ℕ
    later : w.entry.view.stamp ≤ stamp
    rest : List Edit
    begins : b.list chunk (stamp_at stamp) ≡ edits ++ rest

  list_then : b.list chunk (stamp_at w.entry.view.stamp) ≡ v.known.list w.entry.view.stamp
  list_then = on.lists w.entry.view.stamp (let same = view_is in omega arith) at_look.list

  of_view : (edits rest : List Edit) → v.known.list w.entry.view.stamp ≡ edits ++ rest → IsBegun edits
  of_view edits rest begins = record { stamp = w.entry.view.stamp; later = omega arith; rest = rest; begins = list_then ∙ begins }

  -- what the chunk was born with begins the list of each view of it
  of_origin : (edits rest : List Edit) → last.alive.reached.0.origin ≡ edits ++ rest → IsBegun edits
  of_origin edits rest begins =
      let origin = first.alive.reached.0.origin in
      let inherits = known_inherits first.alive.reached.0 w first.alive.reached.1 at_look.known in
      let more = later.list w.entry.view.stamp (let same = view_is in omega arith) in
      let tail : List Edit = drop (length origin) (w.known.list w.entry.view.stamp) in
      let whole : w.known.list w.entry.view.stamp ≡ origin ++ tail = sym (ap (λ (xs : List Edit). xs ++ tail) (sym inherits.list) ∙ take-append-drop (length origin) (w.known.list w.entry.view.stamp)) in
      of_view edits ((rest ++ tail) ++ more.0)
      (more.1 ∙ ap (λ (xs : List Edit). xs ++ more.0) (whole ∙ ap (λ (xs : List Edit). xs ++ tail) (sym (ap (λ (y : Birth). y.origin) on.same) ∙ begins) ∙ append_assoc edits rest tail) ∙ append_assoc edits (rest ++ tail) more.0)

  -- a view that is unseen begins as the last one before it
  begun : (n t : ℕ) → t < n → w.entry.view.stamp ≤ t → (edits rest : List Edit) → v.known.list t ≡ edits ++ rest → IsBegun edits
  begun zero t below above edits rest begins = absurd (omega arith)
  begun (suc n) t below above edits rest begins = elim (cases_lt w.entry.view.stamp t) [
    | inr within ↦ (let same : t ≡ w.entry.view.stamp = omega arith in of_view edits rest (ap v.known.list (sym same) ∙ begins))
    | inl over ↦ elim (lists_of_views last.alive.reached.0 v last.alive.reached.1 t) [
      | inl (stood, late) ↦ by_own over (last.agrees.lists.own t stood late) (begun n)
      | inr (inl origin) ↦ of_origin edits rest (sym origin ∙ begins)
      | inr (inr none) ↦ of_view edits (v.known.list w.entry.view.stamp) (sym (ap (λ (xs : List Edit). xs ++ v.known.list w.entry.view.stamp) (no_front edits rest (sym begins ∙ none))))
    ]
  ]
    where
      by_own : w.entry.view.stamp < t → (b.list chunk (stamp_at t) ≡ v.known.list t) ⊎ IsUnseen v t → ((u : ℕ) → u < n → w.entry.view.stamp ≤ u → (edits rest : List Edit) → v.known.list u ≡ edits ++ rest → IsBegun edits) → IsBegun edits
      by_own over (inl same) lower = record { stamp = t; later = above; rest = rest; begins = same ∙ begins }
      by_own over (inr unseen) lower =
          let more = unseen.begins in
          let before = unseen.below in
          lower unseen.lower (omega arith) (unseen.last w.entry.view.stamp (later.stood w.entry.view.stamp (let same = view_is in omega arith) ∙ at_look.stood) over) edits (rest ++ more.0)
          (more.1 ∙ ap (λ (xs : List Edit). xs ++ more.0) begins ∙ append_assoc edits rest more.0)

  -- what the machine has as legal is so by the accounts
  legal : (asked : Asked) (given : Given) (c : Setting) → c.block ≡ x.config.block → c.size ≡ x.config.chunk → (edits : List Edit) → machine.IsLegalRead w v edits → GivesOf c (text_of c.size edits) asked given → IsLegalRead x.config.block x.config.chunk a b chunk view asked given
  legal asked given c block size edits l gives =
      let found : IsBegun edits = begun (l.stamp + 1) l.stamp (omega arith) l.later edits l.begins.0 l.begins.1 in record {
        stamp = stamp_at found.stamp;
        later = ap (is_before (stamp_at found.stamp)) at_look.shows.stamp ∙ no_less found.stamp w.entry.view.stamp found.later;
        edits = edits;
        behind = found.rest;
        beginning = found.begins;
        others = l.enough.0;
        enough = l.enough.1 ∙ ap (λ (xs : List Edit). xs ++ l.enough.0) (sym at_look.settled);
        gives = given_so c (text_of c.size edits) asked given gives ∙ (λ i. given_of (block i) (text_of (size i) edits) asked);
      }

  module _ (next : History D) (event : Event) (said : Result (Unit {0}) Refusal) (req : ReqId) (asked : Asked) (given : Given) (happens : Happens x.seen x.failures x.armed event now said next) (fetch : IsFetch now.sent event chunk view epoch req asked) (gives : GivesBytes (sent_at happens.outcome) req given) where
    abbrev at : MsgId
    at = fetch.0

    abbrev message : Message
    message = fetch.1

    abbrev id : ℕ
    id = fetch.2

    serves : IsServed now.nodes id message event.moment happens.outcome
    serves = served x.seen x.failures x.armed event now next said happens at message id gives.0 fetch.3 fetch.4 fetch.5 gives.1

    abbrev s : Server
    s = serves.server

    abbrev c : Setting
    c = setting_of bytes last.alive.reached.0.epoch s

    read : IsRead c v s.me epoch view.stamp asked given
    read =
        read_of_member x bytes chunk (left_in now) b last id s serves.found message.from req view.stamp epoch asked event.moment given
        (subst (λ sent. GivesBytes sent req given) (serves.sends ∙ ap (λ body. (servers.handle_body s message.from body event.moment).sent) fetch.7) gives)

    me : s.me ≡ id
    me = (last.keeps.servers id s serves.found).me

    member : machine.is_member w s.me ≡ true
    member = ap (λ xs. is_of xs s.me) at_look.shows.members ∙ of_member view.members s.me ∙ ap (is_member view.members) me ∙ fetch.6

    pub read_legal : IsLegalRead x.config.block x.config.chunk a b chunk view asked given
    read_legal =
        let found = legal_read c chunk w first.alive.reached v s.me asked given on.leads at_look.known (first.told.rolling ∙ is.calm) member
        (subst (λ e. IsRead c v s.me e (stamp_at w.entry.view.stamp) asked given) (sym is.now ∙ sym first.told.epoch) (subst (λ t. IsRead c v s.me epoch t asked given) at_look.shows.stamp read)) in
        let server = last.keeps.servers id s serves.found in
        legal asked given c server.block server.size found.0 found.1 found.2

pub reads_are_legal : {D : Type 0} (x : Setup D) (bytes : ReqId → List ℕ) → SeenReadsAreLegal x bytes
reads_are_legal x bytes looked now next a b event said chunk epoch view req asked given first last on is happens fetch gives = read_legal x bytes chunk epoch looked now a b view first last on is next event said req asked given happens fetch gives
