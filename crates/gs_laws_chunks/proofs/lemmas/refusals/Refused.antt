-- An edit that a server has refused is numbered at no later step, and one that no step before has numbered stands in no list.
use Rattle.std.proofs.Common.{◌≡◌, ◌≢◌, ◌∙◌, ◌++◌, ◌==◌, ◌&&◌, ℕ, Bool, true, false, cond, List, [], ◌∷◌, None, Option, Some, zero, suc, take, refl, sym, ap, subst, slice_get, slice_set}
use Rattle.std.specs.Prelude.{if◌then◌else◌, nat_eq, not, option_map}
use Rattle.std.specs.FinMap as fin
use Rattle.std.specs.List.{AllByRecursion}
use Rattle.std.proofs.lemmas.Bool.{eq-eqb, eqb-true, false≢true}
use Rattle.gs_base.specs.Stamps.{is_same}
use Rattle.gs_base.specs.declared.numbers.Moment.{Moment}
use Rattle.gs_base.specs.declared.numbers.ReqId.{ReqId}
use Rattle.gs_base.specs.declared.numbers.Stamp.{Stamp}
use Rattle.gs_lease.specs.declared.view.View.{View}
use Rattle.gs_laws_moves.specs.moves.Epochs.{prepares, rolls_back}
use Rattle.gs_master_spec.specs.Applied.{view_in}
use Rattle.gs_master_spec.specs.Durable.{Durable}
use Rattle.gs_msg.specs.declared.body.Body.{Body}
use Rattle.gs_msg.specs.declared.body.Body.TheVariants as bodies
use Rattle.gs_msg.specs.declared.chunk.Chunk.{Chunk}
use Rattle.gs_msg.specs.declared.chunk.Chunk.TheVariants as chunks
use Rattle.gs_msg.specs.declared.event.Happening.{Happening}
use Rattle.gs_msg.specs.declared.event.Happening.TheVariants as happenings
use Rattle.gs_msg.specs.declared.message.Message.{Message}
use Rattle.gs_msg.specs.declared.message.MsgId.{MsgId}
use Rattle.gs_msg.specs.declared.node.NodeId.{NodeId}
use Rattle.gs_msg.specs.declared.node.NodeId.TheVariants as nodes
use Rattle.gs_msg.specs.declared.op.Op.{Op}
use Rattle.gs_replica.specs.Stands.{Edit}
use Rattle.gs_server.specs.Edits.{edit}
use Rattle.gs_server.specs.Places.{Here, Place, SlotBecomes, SlotChange, SlotMarked, SlotStays}
use Rattle.gs_server.specs.Runs as at_server
use Rattle.gs_server.specs.Runs.{behind, slot_in}
use Rattle.gs_server.specs.Servers.{Server, here_of, place_of}
use Rattle.gs_laws_server.specs.servers.Calling.{call_at, heard_call, made_by, numbered_call}
use Rattle.gs_laws_server.specs.servers.Following.{edit_in, lengthened}
use Rattle.gs_laws_server.specs.refusals.Refused.{IsNumberedAt, IsOver, OverAreNotNumbered, OverStay, RefusedAreNeverNumbered, RefusedAreOver}
use Rattle.gs_store.specs.Slots.{Live, Slot}
use Rattle.gs_world.proofs.Sending.{step_stays}
use Rattle.gs_world.specs.Histories.{History}
use Rattle.gs_world.specs.Runs.{Comes, Step, Takes}
use Rattle.gs_world.specs.Sent.{IsSent, Sent, message_of}
use Rattle.gs_laws_chunks.proofs.lemmas.accounts.Holding.{reach_more}
use Rattle.gs_laws_chunks.proofs.lemmas.accounts.Intact.{set_other}
use Rattle.gs_laws_chunks.proofs.lemmas.accounts.SeeingThrough.{reached_well}
use Rattle.gs_laws_chunks.proofs.lemmas.accounts.Told.{named}
use Rattle.gs_laws_chunks.proofs.lemmas.accounts.Well.{IsWell}
use Rattle.gs_laws_chunks.specs.accounts.Accounts.{Account, edits_in, first_account, view_at}
use Rattle.gs_laws_chunks.specs.accounts.Moving.{begun, comes_to, continued, edit_under, edits_of, event_at, happens_at, has_more, is_edit, is_server, is_under, list_behind, numbered, numbered_at, numbered_by, numbered_of, numbers, server_of}
use Rattle.gs_laws_chunks.specs.accounts.Reached.{EachIsARunThrough}
use Rattle.gs_laws_chunks.specs.accounts.Running.{IsReached, Moves, Runs, Setup, StepsWithin}
use Rattle.gs_laws_lift.proofs.lemmas.stores.Placing.{kind_of}
use Rattle.gs_laws_lift.proofs.lemmas.stores.Serving.{set_found}
use Rattle.gs_laws_lift.specs.stores.Copying.{copied_from}
use Rattle.gs_laws_lift.specs.stores.Going.{Beats, Damages, Elsewhere, Hears, Kind, Loses, OfMaster, OfServer, Restarts, ServerGoes, Ticks}
use Rattle.gs_laws_chunks.proofs.lemmas.refusals.Addressed.{one_address}
use Rattle.gs_laws_chunks.specs.refusals.Refused.{IsNumberedIn, IsRefusedIn, NumbersNone, RefusedAreNumberedNowhere, RefusedStandNowhere, StandsNowhere}

some_is : {A : Type 0} (a b : A) → Some a ≡ Some b → a ≡ b
some_is a b is = cc

one_server : (o : Option Server) (s t : Server) → o ≡ Some s → o ≡ Some t → s ≡ t
one_server o s t one other = cc

-- ---- what a server numbers at a message

record IsEdited (message : Message) (moment : Moment) (s : Server) (req : ReqId) : Type 0 where
  handle : ℕ
  stamp : Stamp
  op : Op
  body : message.body ≡ bodies.About handle (chunks.Edit req stamp op)
  is_numbered : IsNumberedAt (at_server.Hears message moment) s req

module _ (chunk : ℕ) (message : Message) (moment : Moment) (s after : Server) (found : Stamp × Edit) (req : ReqId) (same : found.1.req ≡ req) where
  abbrev with_promise : Edit → Stamp × Edit
  with_promise e = ((slot_in chunk s).promise, e)

  module _ (other : ℕ) (q : ReqId) (stamp : Stamp) (op : Op) (is : message.body ≡ bodies.About other (chunks.Edit q stamp op)) where
    abbrev h : Here
    h = here_of s moment other (Some q)

    abbrev p : Place
    p = place_of other s

    becomes : (t : Slot) → (edit h p q stamp op).slot ≡ SlotBecomes t → (live : Option Live) → option_map with_promise (edit_in (numbered_call h q stamp op live)) ≡ Some found → IsEdited message moment s req
    becomes t slot None e = absurd (cc)
    becomes t slot (Some l) e =
        let own : q ≡ req = ap (λ (y : Stamp × Edit). y.1.req) (some_is _ found e) ∙ same in
        subst (IsEdited message moment s) own
        (record {
          handle = other;
          stamp = stamp;
          op = op;
          body = is;
          is_numbered = record {
            hears = record { from = message.from; to = message.to; handle = other; stamp = stamp; op = op; moment = moment; is = ap (λ (b : Body). at_server.Hears (record { from = message.from; to = message.to; body = b }) moment) is };
            slot = t;
            becomes = slot;
          };
        })

    by_slot : (c : SlotChange) → (edit h p q stamp op).slot ≡ c → option_map with_promise (edit_in (made_by c (numbered_call h q stamp op p.slot.live))) ≡ Some found → IsEdited message moment s req
    by_slot SlotStays slot e = absurd (cc)
    by_slot (SlotMarked block) slot e = absurd (cc)
    by_slot (SlotBecomes t) slot e = becomes t slot p.slot.live e

    by_tests : (a b : Bool) → (if a && b then option_map with_promise (edit_in (cond a (call_at h p message.from (chunks.Edit q stamp op)) None)) else None) ≡ Some found → IsEdited message moment s req
    by_tests true true e = by_slot (edit h p q stamp op).slot refl e
    by_tests true false e = absurd (cc)
    by_tests false b e = absurd (cc)

  by_chunk : (other : ℕ) (said : Chunk) → message.body ≡ bodies.About other said → (if is_edit chunk (bodies.About other said) && has_more chunk s after then option_map with_promise (edit_in (heard_call chunk s message.from (bodies.About other said) moment)) else None) ≡ Some found → IsEdited message moment s req
  by_chunk other (chunks.Edit q stamp op) is e = by_tests other q stamp op is (chunk == other) (has_more chunk s after) e
  by_chunk other said is e = absurd (cc)

  by_body : (body : Body) → message.body ≡ body → (if is_edit chunk body && has_more chunk s after then option_map with_promise (edit_in (heard_call chunk s message.from body moment)) else None) ≡ Some found → IsEdited message moment s req
  by_body (bodies.About other said) is e = by_chunk other said is e
  by_body body is e = absurd (cc)

  edited : numbers chunk message moment (Some s) (Some after) ≡ Some found → IsEdited message moment s req
  edited e = by_body message.body refl e

-- ---- at a step

record IsNumbering {D : Type 0} (req : ReqId) (step : Step) (old : History D) : Type 0 where
  server : ℕ
  s : Server
  there : slice_get old.nodes.servers server ≡ Some s
  message : Message
  moment : Moment
  was_sent : IsSent message old.sent
  to : message.to ≡ nodes.Server server
  comes : event_at step old.sent server ≡ Some (at_server.Hears message moment)
  is : IsEdited message moment s req

same_number : (n : ℕ) → (n == n) ≡ true
same_number n = eq-eqb n n refl

server_there : (n : NodeId) (id : ℕ) → server_of n ≡ Some id → n ≡ nodes.Server id
server_there nodes.Master id is = absurd (cc)
server_there (nodes.Server to) id is = ap nodes.Server (some_is to id is)
server_there (nodes.Client client) id is = absurd (cc)

module _ {D : Type 0} (old new : History D) (chunk : ℕ) (found : Stamp × Edit) (req : ReqId) (same : found.1.req ≡ req) where
  by_servers : (moment : Moment) (at : MsgId) (message : Message) → message_of old.sent at ≡ Some message → (id : ℕ) → server_of message.to ≡ Some id → (o n : Option Server) → slice_get old.nodes.servers id ≡ o → numbers chunk message moment o n ≡ Some found
      → IsNumbering req (Comes (record { moment = moment; happening = happenings.Deliver at })) old
  by_servers moment at message there id to None n is e = absurd (cc)
  by_servers moment at message there id to (Some s) None is e = absurd (cc)
  by_servers moment at message there id to (Some s) (Some after) is e = record {
    server = id;
    s = s;
    there = is;
    message = message;
    moment = moment;
    was_sent = (at, there);
    to = server_there message.to id to;
    comes = ap (λ (o : Option Message). comes_to o moment id) there ∙ ap (λ (o : Option ℕ). if is_server id o then Some (at_server.Hears message moment) else None) to ∙ ap (λ b. if b then Some (at_server.Hears message moment) else None) (same_number id);
    is = edited chunk message moment s after found req same e;
  }

  by_to : (moment : Moment) (at : MsgId) (message : Message) → message_of old.sent at ≡ Some message → (o : Option ℕ) → server_of message.to ≡ o → numbered_by o message moment old new chunk ≡ Some found → IsNumbering req (Comes (record { moment = moment; happening = happenings.Deliver at })) old
  by_to moment at message there None to e = absurd (cc)
  by_to moment at message there (Some id) to e = by_servers moment at message there id to (slice_get old.nodes.servers id) (slice_get new.nodes.servers id) refl e

  by_message : (moment : Moment) (at : MsgId) (o : Option Message) → message_of old.sent at ≡ o → numbered_of o moment old new chunk ≡ Some found → IsNumbering req (Comes (record { moment = moment; happening = happenings.Deliver at })) old
  by_message moment at None there e = absurd (cc)
  by_message moment at (Some message) there e = by_to moment at message there (server_of message.to) refl e

  by_happening : (moment : Moment) (happening : Happening) → numbered_at happening moment old new chunk ≡ Some found → IsNumbering req (Comes (record { moment = moment; happening = happening })) old
  by_happening moment (happenings.Deliver at) e = by_message moment at (message_of old.sent at) refl e
  by_happening moment happening e = absurd (cc)

  by_step : (step : Step) → numbered step old new chunk ≡ Some found → IsNumbering req step old
  by_step (Comes event) e = by_happening event.moment event.happening e
  by_step (Takes client) e = absurd (cc)

numbering : {D : Type 0} (req : ReqId) (step : Step) (old new : History D) → IsNumberedIn req step old new → IsNumbering req step old
numbering req step old new n = by_step old new n.chunk n.found req n.same step n.is

-- what comes to a server was sent, and to it
record WasHeard (message : Message) (sent : Sent) (id : ℕ) : Type 0 where
  was_sent : IsSent message sent
  to : message.to ≡ nodes.Server id

module _ (sent : Sent) (id : ℕ) (message : Message) (moment : Moment) where
  to_server : (n : NodeId) → is_server id (server_of n) ≡ true → n ≡ nodes.Server id
  to_server nodes.Master is = absurd (false≢true is)
  to_server (nodes.Server to) is = ap nodes.Server (eqb-true to id is)
  to_server (nodes.Client client) is = absurd (false≢true is)

  same_message : (m : Message) (at : Moment) → Some (at_server.Hears m at) ≡ Some (at_server.Hears message moment) → m ≡ message
  same_message m at is = (let e : at_server.Hears m at ≡ at_server.Hears message moment = some_is _ _ is in cc)

  found_heard : (at : MsgId) (m : Message) (when : Moment) → message_of sent at ≡ Some m → (b : Bool) → is_server id (server_of m.to) ≡ b → (if b then Some (at_server.Hears m when) else None) ≡ Some (at_server.Hears message moment) → WasHeard message sent id
  found_heard at m when there false is e = absurd (cc)
  found_heard at m when there true is e = subst (λ k. WasHeard k sent id) (same_message m when e) (record { was_sent = (at, there); to = to_server m.to is })

  by_found : (at : MsgId) (when : Moment) (o : Option Message) → message_of sent at ≡ o → comes_to o when id ≡ Some (at_server.Hears message moment) → WasHeard message sent id
  by_found at when None there e = absurd (cc)
  by_found at when (Some m) there e = found_heard at m when there (is_server id (server_of m.to)) refl e

  lost_none : (b : Bool) (chunk : ℕ) → (if b then Some (at_server.Loses chunk) else None) ≡ Some (at_server.Hears message moment) → ⊥
  lost_none true chunk e = absurd (let is : at_server.Loses chunk ≡ at_server.Hears message moment = some_is _ _ e in cc)
  lost_none false chunk e = absurd (cc)

  damaged_none : (b : Bool) (chunk block : ℕ) → (if b then Some (at_server.Damages chunk block) else None) ≡ Some (at_server.Hears message moment) → ⊥
  damaged_none true chunk block e = absurd (let is : at_server.Damages chunk block ≡ at_server.Hears message moment = some_is _ _ e in cc)
  damaged_none false chunk block e = absurd (cc)

  by_what : (when : Moment) (happening : Happening) → happens_at when happening sent id ≡ Some (at_server.Hears message moment) → WasHeard message sent id
  by_what when (happenings.Deliver at) e = by_found at when (message_of sent at) refl e
  by_what when (happenings.Lose server chunk) e = absurd (lost_none (server == id) chunk e)
  by_what when (happenings.Damage server chunk block) e = absurd (damaged_none (server == id) chunk block e)
  by_what when happening e = absurd (cc)

  was_heard : (step : Step) → event_at step sent id ≡ Some (at_server.Hears message moment) → WasHeard message sent id
  was_heard (Comes event) e = by_what event.moment event.happening e
  was_heard (Takes client) e = absurd (cc)

-- ---- a server for which it is over, and to which its message was sent

pub record IsBarred {D : Type 0} (h : History D) (server : ℕ) (req : ReqId) : Type 0 where
  pub s : Server
  pub there : slice_get h.nodes.servers server ≡ Some s
  pub over : IsOver req s
  pub asks : Message
  pub was_sent : IsSent asks h.sent
  pub to : asks.to ≡ nodes.Server server
  pub handle : ℕ
  pub stamp : Stamp
  pub op : Op
  pub body : asks.body ≡ bodies.About handle (chunks.Edit req stamp op)

server_is : (a b : ℕ) → nodes.Server a ≡ nodes.Server b → a ≡ b
server_is a b is = cc

module _ {D : Type 0} (x : Setup D) (over : RefusedAreOver) (stay : OverStay) (unnumbered : OverAreNotNumbered) (never : RefusedAreNeverNumbered) (each : EachIsARunThrough x) (req : ReqId) where
  goes_over : (sent : Sent) (id : ℕ) (s after : Server) (messages : List Message) → ServerGoes sent id s after messages → IsOver req s → IsOver req after
  goes_over sent id s after messages (Hears message moment was to is sends) o = subst (IsOver req) (sym is) (stay (at_server.Hears message moment) s req o)
  goes_over sent id s after messages (Ticks moment is sends) o = subst (IsOver req) (sym is) (stay (at_server.Ticks moment) s req o)
  goes_over sent id s after messages (Beats is sends) o = subst (IsOver req) (sym is) o
  goes_over sent id s after messages (Restarts is sends) o = subst (IsOver req) (sym is) (stay at_server.Restarts s req o)
  goes_over sent id s after messages (Loses handle is sends) o = subst (IsOver req) (sym is) (stay (at_server.Loses handle) s req o)
  goes_over sent id s after messages (Damages handle block is sends) o = subst (IsOver req) (sym is) (stay (at_server.Damages handle block) s req o)

  module _ (step : Step) (old new : History D) (well : IsWell x old) (one : StepsWithin x step old new) (server : ℕ) (b : IsBarred old server req) where
    with_server : (s : Server) → slice_get new.nodes.servers server ≡ Some s → IsOver req s → IsBarred new server req
    with_server s there o = record {
      s = s;
      there = there;
      over = o;
      asks = b.asks;
      was_sent = (b.was_sent.0, step_stays x.seen x.failures x.armed step old new one.goes b.was_sent.0 b.asks b.was_sent.1);
      to = b.to;
      handle = b.handle;
      stamp = b.stamp;
      op = b.op;
      body = b.body;
    }

    unmoved : new.nodes.servers ≡ old.nodes.servers → IsBarred new server req
    unmoved servers = with_server b.s (ap (λ xs. slice_get xs server) servers ∙ b.there) b.over

    by_kind : Kind x.seen x.failures x.armed step old new → IsBarred new server req
    by_kind (OfServer id s after messages moment found goes met servers master posted) = by_place (nat_eq server id) refl
      where
        by_place : (t : Bool) → nat_eq server id ≡ t → IsBarred new server req
        by_place true is =
            let same : server ≡ id = eqb-true server id is in
            let own : b.s ≡ s = one_server (slice_get old.nodes.servers id) b.s s (ap (slice_get old.nodes.servers) (sym same) ∙ b.there) found in
            with_server after
            (ap (λ xs. slice_get xs server) servers ∙ subst (λ n. slice_get (slice_set old.nodes.servers id after) n ≡ Some after) (sym same) (set_found old.nodes.servers id s after found))
            (goes_over old.sent id s after messages goes (subst (IsOver req) own b.over))
        by_place false is = with_server b.s (ap (λ xs. slice_get xs server) servers ∙ set_other old.nodes.servers id server after (λ same. false≢true (sym is ∙ eq-eqb server id same)) ∙ b.there) b.over
    by_kind (OfMaster place messages moment goes servers master posted) = unmoved servers
    by_kind (Elsewhere by messages moment are servers master posted) = unmoved servers

    pub barred_on : IsBarred new server req
    barred_on = by_kind (kind_of x.seen x.failures x.armed step old new one.goes (named x step old one.within well.types))

  -- it numbers the edit no more, and nobody else does
  own_numbering : (step : Step) (old : History D) (a : Account) → IsReached x old a → (server : ℕ) (asks : Message) (handle : ℕ) (stamp : Stamp) (op : Op) → IsSent asks old.sent → asks.to ≡ nodes.Server server → asks.body ≡ bodies.About handle (chunks.Edit req stamp op)
      → (n : IsNumbering req step old) → n.server ≡ server
  own_numbering step old a r server asks handle stamp op sent to body n =
      let asked = each old a r in
      server_is n.server server (sym n.to ∙ one_address asked.0 old asked.1 n.message asks req n.is.handle handle n.is.stamp stamp n.is.op op n.was_sent sent n.is.body body ∙ to)

  none_numbered : (step : Step) (old new : History D) (a : Account) → IsReached x old a → (server : ℕ) → IsBarred old server req → IsNumberedIn req step old new → ⊥
  none_numbered step old new a r server b numbered_there =
      let n = numbering req step old new numbered_there in
      let same : n.server ≡ server = own_numbering step old a r server b.asks b.handle b.stamp b.op b.was_sent b.to b.body n in
      let own : n.s ≡ b.s = one_server (slice_get old.nodes.servers server) n.s b.s (ap (slice_get old.nodes.servers) (sym same) ∙ n.there) b.there in
      unnumbered (at_server.Hears n.message n.moment) b.s req b.over (subst (λ s. IsNumberedAt (at_server.Hears n.message n.moment) s req) own n.is.is_numbered)

  pub after_barred : (steps : List Step) (old : History D) (a : Account) (new : History D) (c : Account) (r : IsReached x old a) (runs : Runs x steps old a new c) (server : ℕ) → IsBarred old server req → NumbersNone x req steps old a new c runs
  after_barred [] old a new c r runs server b = tt
  after_barred (step ∷ steps) old a new c r (mid, d, moves, rest) server b =
      let well = reached_well x old a r in (
        none_numbered step old mid a r server b,
        after_barred steps mid d new c (reach_more x old mid a d (step ∷ []) r (mid, d, moves, (refl, refl))) rest server (barred_on step old mid well moves.steps server b),
      )

  -- where it is refused
  module _ (step : Step) (old mid : History D) (a c : Account) (r : IsReached x old a) (moves : Moves x step old a mid c) (f : IsRefusedIn req step old mid) where
    abbrev asks : Message
    asks = record { from = f.refused.hears.from; to = f.refused.hears.to; body = bodies.About f.refused.hears.handle (chunks.Edit req f.refused.hears.stamp f.refused.hears.op) }

    heard : WasHeard asks old.sent f.server
    heard = was_heard old.sent f.server asks f.refused.hears.moment step (f.comes ∙ ap Some f.refused.hears.is)

    barred_there : IsBarred mid f.server req
    barred_there = record {
      s = behind f.event f.s;
      there = f.went;
      over = over f.event f.s req f.refused;
      asks = asks;
      was_sent = (heard.was_sent.0, step_stays x.seen x.failures x.armed step old mid moves.steps.goes heard.was_sent.0 asks heard.was_sent.1);
      to = heard.to;
      handle = f.refused.hears.handle;
      stamp = f.refused.hears.stamp;
      op = f.refused.hears.op;
      body = refl;
    }

    not_there : IsNumberedIn req step old mid → ⊥
    not_there numbered_there =
        let n = numbering req step old mid numbered_there in
        let same : n.server ≡ f.server = own_numbering step old a r f.server asks f.refused.hears.handle f.refused.hears.stamp f.refused.hears.op heard.was_sent heard.to refl n in
        let own : n.s ≡ f.s = one_server (slice_get old.nodes.servers f.server) n.s f.s (ap (slice_get old.nodes.servers) (sym same) ∙ n.there) f.there in
        let event : at_server.Hears n.message n.moment ≡ f.event = some_is _ _ (sym n.comes ∙ ap (event_at step old.sent) same ∙ f.comes) in
        (never [] f.event [] f.s req tt f.refused).0 (subst (λ e. IsNumberedAt e f.s req) event (subst (λ s. IsNumberedAt (at_server.Hears n.message n.moment) s req) own n.is.is_numbered))

  -- ---- lists

  abbrev Without : List Edit → Type 0
  Without xs = AllByRecursion (λ (e : Edit). e.req ≢ req) xs

  without_taken : (n : ℕ) (xs : List Edit) → Without xs → Without (take n xs)
  without_taken zero xs all = tt
  without_taken (suc n) [] all = tt
  without_taken (suc n) (e ∷ xs) all = (all.0, without_taken n xs all.1)

  without_more : (xs : List Edit) (e : Edit) → Without xs → e.req ≢ req → Without (xs ++ e ∷ [])
  without_more [] e all other = (other, tt)
  without_more (y ∷ xs) e all other = (all.0, without_more xs e all.1 other)

  module _ (step : Step) (old new : History D) (a : Account) (d : Durable) (none : IsNumberedIn req step old new → ⊥) (was : StandsNowhere req a) (chunk : ℕ) where
    lengthened_none : (stamp : Stamp) (o : Option (Stamp × Edit)) → numbered step old new chunk ≡ o → Without (lengthened (a.list chunk stamp) (edit_under stamp o))
    lengthened_none stamp None is = was.lists chunk stamp
    lengthened_none stamp (Some found) is = by_stamp (is_same found.0 stamp)
      where
        by_stamp : (t : Bool) → Without (lengthened (a.list chunk stamp) (if t then Some found.1 else None))
        by_stamp true = without_more (a.list chunk stamp) found.1 (was.lists chunk stamp) (λ same. none (record { chunk = chunk; found = found; is = is; same = same }))
        by_stamp false = was.lists chunk stamp

    source_none : (o : Option (ℕ × Stamp)) → Without (edits_of a o)
    source_none None = tt
    source_none (Some source) = was.lists source.0 source.1

    continued_none : (o : Option View) → Without (continued a new.sent chunk o)
    continued_none None = source_none (copied_from new.sent chunk)
    continued_none (Some former) = was.lists chunk former.stamp

    begun_none : (view : View) (t : Bool) → Without (if t then a.before chunk else take view.count (continued a new.sent chunk (view_at a chunk)))
    begun_none view true = was.before chunk
    begun_none view false = without_taken view.count (continued a new.sent chunk (view_at a chunk)) (continued_none (view_at a chunk))

    list_none : (stamp : Stamp) (o : Option View) → Without (list_behind a new.sent d (numbered step old new chunk) chunk stamp o)
    list_none stamp None = lengthened_none stamp (numbered step old new chunk) refl
    list_none stamp (Some view) = by_test (is_same view.stamp stamp && not (is_under stamp (view_at a chunk)))
      where
        by_test : (t : Bool) → Without (if t then begun a new.sent d chunk view else lengthened (a.list chunk stamp) (edit_under stamp (numbered step old new chunk)))
        by_test true = begun_none view (rolls_back a.durable d)
        by_test false = lengthened_none stamp (numbered step old new chunk) refl

    viewed_none : (o : Option View) → Without (edits_in a chunk o)
    viewed_none None = tt
    viewed_none (Some view) = was.lists chunk view.stamp

    before_none : (t : Bool) → Without (if t then edits_in a chunk (view_at a chunk) else a.before chunk)
    before_none true = viewed_none (view_at a chunk)
    before_none false = was.before chunk

  step_nowhere : (step : Step) (old new : History D) (a b : Account) → Moves x step old a new b → (IsNumberedIn req step old new → ⊥) → StandsNowhere req a → StandsNowhere req b
  step_nowhere step old new a b moves none was = subst (StandsNowhere req) (sym moves.account) (record {
    lists = λ chunk stamp. list_none step old new a b.durable none was chunk stamp (view_in (fin.get b.durable.chunks chunk));
    before = λ chunk. before_none step old new a b.durable none was chunk (prepares a.durable b.durable);
  })

  pub runs_nowhere : (steps : List Step) (old : History D) (a : Account) (new : History D) (b : Account) (runs : Runs x steps old a new b) → NumbersNone x req steps old a new b runs → StandsNowhere req a → StandsNowhere req b
  runs_nowhere [] old a new b (is, same) none was = subst (StandsNowhere req) (sym same) was
  runs_nowhere (step ∷ steps) old a new b (mid, c, moves, rest) none was = runs_nowhere steps mid c new b rest none.1 (step_nowhere step old mid a c moves none.0 was)

  pub first_nowhere : (a : Account) → a ≡ first_account a.durable → StandsNowhere req a
  first_nowhere a is = subst (StandsNowhere req) (sym is) (record { lists = λ chunk stamp. tt; before = λ chunk. tt })

pub refused_are_numbered_nowhere : {D : Type 0} (x : Setup D) → RefusedAreOver → OverStay → OverAreNotNumbered → RefusedAreNeverNumbered → EachIsARunThrough x → RefusedAreNumberedNowhere x
refused_are_numbered_nowhere x over stay unnumbered never each now mid later a c b step steps req r moves f runs = (
  not_there x over stay unnumbered never each req step now mid a c r moves f,
  after_barred x over stay unnumbered never each req steps mid c later b (reach_more x now mid a c (step ∷ []) r (mid, c, moves, (refl, refl))) runs f.server (barred_there x over stay unnumbered never each req step now mid a c r moves f),
)

pub refused_stand_nowhere : {D : Type 0} (x : Setup D) → RefusedAreOver → OverStay → OverAreNotNumbered → RefusedAreNeverNumbered → EachIsARunThrough x → RefusedStandNowhere x
refused_stand_nowhere x over stay unnumbered never each now mid later a c b step steps req r none moves f runs =
    let numbered_none = refused_are_numbered_nowhere x over stay unnumbered never each now mid later a c b step steps req r moves f runs in
    let first = first_nowhere x over stay unnumbered never each req r.first r.begins.account in
    let here = runs_nowhere x over stay unnumbered never each req r.steps r.begun r.first now a r.runs none first in
    let there = step_nowhere x over stay unnumbered never each req step now mid a c moves numbered_none.0 here in
    runs_nowhere x over stay unnumbered never each req steps mid c later b runs numbered_none.1 there
