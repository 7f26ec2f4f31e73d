-- A chunk that a call waits to put in the place of another is made nowhere, in each world of a run, whatever disks of the master fail.
use Rattle.std.proofs.Common.{◌≡◌, ◌∙◌, ℕ, Bool, true, false, List, [], ◌∷◌, Option, Some, None, refl, ap, sym, subst}
use Rattle.std.proofs.lemmas.Bool.{false≢true}
use Rattle.gs_base.specs.declared.config.Config.{Config}
use Rattle.gs_base.specs.declared.numbers.Moment.{Moment}
use Rattle.gs_base.specs.declared.numbers.ReqId.{ReqId}
use Rattle.gs_journal.specs.Records.{standing}
use Rattle.gs_laws_lift.proofs.lemmas.copies.Given.{stays_given_cut}
use Rattle.gs_laws_lift.proofs.lemmas.copies.Made.{chain_unmade, unmade_weaker}
use Rattle.gs_laws_lift.specs.copies.Made.{AreOfCopies, MakeNone, MakesNone}
use Rattle.gs_laws_moves.proofs.lemmas.moves.Fitting.{mapped, once_chain}
use Rattle.gs_laws_moves.specs.moves.Epochs.{EndsOnce}
use Rattle.gs_laws_moves.specs.moves.Guards.{Heard, IsMade}
use Rattle.gs_laws_moves.specs.moves.Laws.{IsMadeWell}
use Rattle.gs_master_spec.specs.Durable.{Durable, is_given, start}
use Rattle.gs_master_spec.specs.Handling.{restarted}
use Rattle.gs_master_spec.specs.State.{State, Turn}
use Rattle.gs_msg.specs.declared.body.Body.{Body}
use Rattle.gs_msg.specs.declared.body.Body.TheVariants as bodies
use Rattle.gs_msg.specs.declared.chunk.Chunk.{Chunk}
use Rattle.gs_msg.specs.declared.chunk.Chunk.TheVariants as chunks
use Rattle.gs_msg.specs.declared.message.Message.{Message}
use Rattle.gs_msg.specs.declared.node.NodeId.{NodeId}
use Rattle.gs_msg.specs.declared.node.NodeId.TheVariants as nodes
use Rattle.gs_nodes.specs.Happenings.{refusal_of_call}
use Rattle.gs_nodes.specs.declared.place.MasterPlace.{MasterPlace}
use Rattle.gs_nodes.specs.declared.place.MasterPlace.TheVariants.{Away, Closed, Standing}
use Rattle.gs_server.specs.Servers.{Server}
use Rattle.gs_laws_parts.proofs.lemmas.server.Elsewhere.{ByServer}
use Rattle.gs_laws_parts.specs.server.Answering.{IsByServer, IsByServerAbout}
use Rattle.gs_world.proofs.Reaching.{HaveSizes}
use Rattle.gs_world.specs.Histories.{History}
use Rattle.gs_laws_world.specs.lasting.Lasting.{IsToldIn, OpensAs}
use Rattle.gs_world.specs.Runs.{Step}
use Rattle.gs_world.specs.Sent.{Sent}
use Rattle.gs_laws_chunks.proofs.lemmas.accounts.Edits.{AreNumbered}
use Rattle.gs_laws_chunks.proofs.lemmas.accounts.Holding.{reach_more}
use Rattle.gs_laws_chunks.proofs.lemmas.accounts.Once.{told_once}
use Rattle.gs_laws_chunks.specs.accounts.Accounts.{Account}
use Rattle.gs_laws_chunks.specs.accounts.Running.{IsArmed, IsGiven, IsReached, Moves, Runs, Setup}
use Rattle.gs_laws_lift.proofs.lemmas.stores.AskingServers.{handled_by, tick_by}
use Rattle.gs_laws_lift.proofs.lemmas.stores.Beginning.{begins_none, begins_told}
use Rattle.gs_laws_lift.proofs.lemmas.stores.Posting.{posted_all}
use Rattle.gs_laws_lift.specs.stores.Doing.{Arms, HasDurable, MasterDoes, Moves as MovesAt, Refuses, Starts, Waits}
use Rattle.gs_laws_lift.specs.stores.Going.{Beats, Damages, Elsewhere, Hears, Kind, Loses, OfMaster, OfServer, Posts, Restarts, ServerGoes, Ticks}
use Rattle.gs_laws_lift.proofs.lemmas.stores.DoingAll.{answers_reply, cut_replies}
use Rattle.gs_laws_lift.specs.stores.Left.{Arranges, AreReplies, Cuts, Does, IsReply, Keeps, MasterDoesAll, as_left, left_of}
use Rattle.gs_laws_lift.specs.stores.Saying.{AreOfClient, IsOfClient, IsOfClientAbout}
use Rattle.gs_laws_runs.proofs.lemmas.plain.Brought.{does_there, kind_there}
use Rattle.gs_laws_runs.specs.plain.Told.{IsMadeNowhere}

-- ---- who makes none

-- a server
by_server_none : (chunk : ℕ) (messages : List Message) → ByServer messages → MakeNone chunk messages
by_server_none chunk [] all = tt
by_server_none chunk (m ∷ messages) all = (by_body m.body all.0, by_server_none chunk messages all.1)
  where
    by_said : (handle : ℕ) (said : Chunk) → IsByServerAbout said → MakesNone chunk (bodies.About handle said)
    by_said handle (chunks.Create stamp) is = absurd is
    by_said handle said is = tt

    by_body : (body : Body) → IsByServer body → MakesNone chunk body
    by_body (bodies.About handle said) is = by_said handle said is
    by_body body is = tt

goes_by : (id : ℕ) (sent : Sent) (s after : Server) (messages : List Message) → ServerGoes sent id s after messages → ByServer messages
goes_by id sent s after messages (Hears message moment was to is sends) = subst ByServer (sym sends) (handled_by s message moment)
goes_by id sent s after messages (Ticks moment is sends) = subst ByServer (sym sends) (tick_by s moment)
goes_by id sent s after messages (Beats is sends) = subst ByServer (sym sends) (tt, tt)
goes_by id sent s after messages (Restarts is sends) = subst ByServer (sym sends) tt
goes_by id sent s after messages (Loses handle is sends) = subst ByServer (sym sends) tt
goes_by id sent s after messages (Damages handle block is sends) = subst ByServer (sym sends) tt

-- a client
of_client_none : (chunk : ℕ) (messages : List Message) → AreOfClient messages → MakeNone chunk messages
of_client_none chunk [] are = tt
of_client_none chunk (m ∷ messages) are = (by_body m.body are.0, of_client_none chunk messages are.1)
  where
    by_said : (handle : ℕ) (said : Chunk) → IsOfClientAbout said → MakesNone chunk (bodies.About handle said)
    by_said handle (chunks.Create stamp) is = absurd is
    by_said handle said is = tt

    by_body : (body : Body) → IsOfClient body → MakesNone chunk body
    by_body (bodies.About handle said) is = by_said handle said is
    by_body body is = tt

-- a reply
replies_none : (chunk : ℕ) (messages : List Message) → AreReplies messages → MakeNone chunk messages
replies_none chunk [] are = tt
replies_none chunk (m ∷ messages) are = (by_body m.body are.0, replies_none chunk messages are.1)
  where
    by_body : (body : Body) → IsReply body → MakesNone chunk body
    by_body (bodies.Reply req result) is = tt
    by_body body is = absurd is

refused_none : (chunk : ℕ) (caller : Option ReqId) → MakeNone chunk (refusal_of_call caller)
refused_none chunk None = tt
refused_none chunk (Some req) = (tt, tt)

-- what was made nowhere is so still
nowhere_then : (chunk : ℕ) (moment : Moment) (by : NodeId) (messages : List Message) (old new : Sent) → Posts moment by messages old new → MakeNone chunk messages → IsMadeNowhere old chunk → IsMadeNowhere new chunk
nowhere_then chunk moment by messages old new posted none was = posted_all (λ (m : Message). MakesNone chunk m.body) moment by messages old new posted was none

module _ {D : Type 0} (x : Setup D) where
  abbrev pub OfCopiesAt : Sent → MasterPlace D → Type 0
  OfCopiesAt sent (Standing m) = AreOfCopies (IsMadeNowhere sent) m.state
  OfCopiesAt sent (Closed first second) = (d : Durable) → IsToldIn (standing (x.seen first) (x.seen second)) d → (chunk : ℕ) → is_given d.next_handle chunk ≡ false → IsMadeNowhere sent chunk
  OfCopiesAt sent Away = Unit {0}

  -- of each chunk whose handle isn't given
  fresh_at : (sent : Sent) (place : MasterPlace D) (d : Durable) → HasDurable x.seen place d → OfCopiesAt sent place → (chunk : ℕ) → is_given d.next_handle chunk ≡ false → IsMadeNowhere sent chunk
  fresh_at sent (Standing m) d has k chunk out = k.fresh chunk (ap (λ (e : Durable). is_given e.next_handle chunk) has ∙ out)
  fresh_at sent (Closed first second) d has k chunk out = k d has chunk out
  fresh_at sent Away d has k chunk out = absurd has

  -- where nothing is made
  quiet_at : (moment : Moment) (by : NodeId) (messages : List Message) (old new : Sent) (place : MasterPlace D) → Posts moment by messages old new → ((chunk : ℕ) → MakeNone chunk messages) → OfCopiesAt old place → OfCopiesAt new place
  quiet_at moment by messages old new (Standing m) posted none k = unmade_weaker (IsMadeNowhere old) (IsMadeNowhere new) (λ chunk was. nowhere_then chunk moment by messages old new posted (none chunk) was) m.state k
  quiet_at moment by messages old new (Closed first second) posted none k = λ d told chunk out. nowhere_then chunk moment by messages old new posted (none chunk) (k d told chunk out)
  quiet_at moment by messages old new Away posted none k = tt

  turn_at : (config : Config) (heard : Heard) (s : State) (t : Turn) (moment : Moment) (messages : List Message) (old new : Sent) → EndsOnce config (IsMadeWell config heard) s t → messages ≡ t.sent → Posts moment nodes.Master messages old new → AreOfCopies (IsMadeNowhere old) s
      → AreOfCopies (IsMadeNowhere new) t.after
  turn_at config heard s t moment messages old new turn sends posted k =
      unmade_weaker (λ chunk. IsMadeNowhere old chunk × MakeNone chunk t.sent) (IsMadeNowhere new)
      (λ chunk n. nowhere_then chunk moment nodes.Master messages old new posted (subst (MakeNone chunk) (sym sends) n.1) n.0) t.after
      (chain_unmade config heard (IsMadeNowhere old) s t (mapped config (IsMadeWell config heard) (IsMade config heard) (λ u move made. made.made) s t (once_chain config (IsMadeWell config heard) s t turn)) k)

  -- what is left of the master, where no disk fails
  does_at : (sent next : Sent) (old new : MasterPlace D) (messages : List Message) (moment : Moment) → Posts moment nodes.Master messages sent next → MasterDoes x.seen (λ disk call place. place) sent old new messages → OfCopiesAt sent old → OfCopiesAt next new
  does_at sent next old new messages moment posted (MovesAt m after heard t at to was turn state sends) k =
      subst (OfCopiesAt next) (sym to) (subst (AreOfCopies (IsMadeNowhere next)) (sym state) (turn_at m.config heard m.state t moment messages sent next turn sends posted (subst (OfCopiesAt sent) at k)))
  does_at sent next old new messages moment posted (Starts config d log after t has kept counters to turn state sends) k =
      subst (OfCopiesAt next) (sym to) (subst (AreOfCopies (IsMadeNowhere next)) (sym state)
      (turn_at config None (restarted d log) t moment messages sent next turn sends posted (record { waiting = tt; fresh = λ chunk out. fresh_at sent old d has k chunk out })))
  does_at sent next old new messages moment posted (Waits d first second has kept counters to told sends) k =
      subst (OfCopiesAt next) (sym to) (λ e other chunk out. nowhere_then chunk moment nodes.Master messages sent next posted (subst (MakeNone chunk) (sym sends) tt)
      (fresh_at sent old d has k chunk (ap (λ (f : Durable). is_given f.next_handle chunk) (told_once (standing (x.seen first) (x.seen second)) d e told other) ∙ out)))
  does_at sent next old new messages moment posted (Refuses caller same sends) k =
      subst (OfCopiesAt next) (sym same) (quiet_at moment nodes.Master messages sent next old posted (λ chunk. subst (MakeNone chunk) (sym sends) (refused_none chunk caller)) k)
  does_at sent next old new messages moment posted (Arms disk call is sends) k =
      subst (OfCopiesAt next) (sym is) (quiet_at moment nodes.Master messages sent next old posted (λ chunk. subst (MakeNone chunk) (sym sends) tt) k)

  -- a failure that is arranged changes nothing of it
  armed_at : (sent : Sent) (place other : MasterPlace D) → IsArmed x.seen place other → OfCopiesAt sent (as_left place) → OfCopiesAt sent (as_left other)
  armed_at sent (Standing m) other (j, to, alike) k = subst (λ p. OfCopiesAt sent (as_left p)) (sym to) (by_fault _ k)
    where
      by_fault : (failed : Bool) → OfCopiesAt sent (left_of failed m) → OfCopiesAt sent (left_of failed (record m { journal = j }))
      by_fault false k = k
      by_fault true k = subst (λ t. (d : Durable) → IsToldIn t d → (chunk : ℕ) → is_given d.next_handle chunk ≡ false → IsMadeNowhere sent chunk) (sym (ap (λ s. standing s (x.seen j.second)) alike.first ∙ ap (standing (x.seen m.journal.first)) alike.second)) k
  armed_at sent (Closed first second) other (one, two, to, same, alike) k =
      subst (λ p. OfCopiesAt sent (as_left p)) (sym to) (subst (λ t. (d : Durable) → IsToldIn t d → (chunk : ℕ) → is_given d.next_handle chunk ≡ false → IsMadeNowhere sent chunk) (sym (ap (λ s. standing s (x.seen two)) same ∙ ap (standing (x.seen first)) alike)) k)
  armed_at sent Away other to k = subst (λ p. OfCopiesAt sent (as_left p)) (sym to) tt

  all_does_at : IsGiven x → (sent next : Sent) (old new : MasterPlace D) (messages : List Message) (moment : Moment) → Posts moment nodes.Master messages sent next → MasterDoesAll x.seen x.armed sent old new messages → OfCopiesAt sent (as_left old) → OfCopiesAt next (as_left new)
  all_does_at given sent next old new messages moment posted (Does sound does) k = does_at sent next (as_left old) (as_left new) messages moment posted does k
  all_does_at given sent next old new messages moment posted (Cuts m after heard caller t place many said d first second at there was turn cut least within stand to kept counters told) k =
      subst (OfCopiesAt next) (sym to) (λ e other chunk out. nowhere_then chunk moment nodes.Master messages sent next posted (replies_none chunk messages (cut_replies m.state caller t place messages said after.state cut))
      ((subst (OfCopiesAt sent) at k).fresh chunk (before chunk (ap (λ (f : Durable). is_given f.next_handle chunk) (told_once (standing (x.seen first) (x.seen second)) d e told other) ∙ out) (is_given m.state.durable.next_handle chunk) refl)))
    where
      before : (chunk : ℕ) → is_given d.next_handle chunk ≡ false → (b : Bool) → is_given m.state.durable.next_handle chunk ≡ b → b ≡ false
      before chunk out true is = absurd (false≢true (sym out ∙ stays_given_cut m.config heard chunk m.state t many d turn stand is))
      before chunk out false is = refl
  all_does_at given sent next old new messages moment posted (Keeps m after heard caller at there failed still same was answers) k =
      subst (OfCopiesAt next) (sym same) (quiet_at moment nodes.Master messages sent next (as_left old) posted (λ chunk. replies_none chunk messages (answers_reply m.state caller messages answers)) k)
  all_does_at given sent next old new messages moment posted (Arranges disk call is none) k =
      subst (λ p. OfCopiesAt next (as_left p)) (sym is) (armed_at next old (x.armed disk call old) (given.armed disk call old) (quiet_at moment nodes.Master messages sent next (as_left old) posted (λ chunk. subst (MakeNone chunk) (sym none) tt) k))

  -- ---- over a run

  copies_first : (sent : Sent) (place : MasterPlace D) → ((chunk : ℕ) → IsMadeNowhere sent chunk) → OpensAs x.seen start place → OfCopiesAt sent (as_left place)
  copies_first sent place none (after, is, state, firm) =
      subst (λ p. OfCopiesAt sent (as_left p)) (sym is) (subst (λ b. OfCopiesAt sent (left_of b after)) (sym firm.sound) (subst (AreOfCopies (IsMadeNowhere sent)) (sym state) (record { waiting = tt; fresh = λ chunk out. none chunk })))

module _ (sizes : HaveSizes) (law : AreNumbered) {D : Type 0} (x : Setup D) where
  abbrev AreAt : History D → Type 0
  AreAt h = OfCopiesAt x h.sent (as_left h.nodes.master)

  copies_on : (step : Step) (old new : History D) (a b : Account) → IsReached x old a → Moves x step old a new b → AreAt old → AreAt new
  copies_on step old new a b r moves k = by_kind (kind_there sizes law x step old new a b r moves)
    where
      by_kind : Kind x.seen x.failures x.armed step old new → AreAt new
      by_kind (OfServer id s after messages moment found goes met servers master posted) =
          subst (λ p. OfCopiesAt x new.sent (as_left p)) (sym master) (quiet_at x moment (nodes.Server id) messages old.sent new.sent (as_left old.nodes.master) posted (λ chunk. by_server_none chunk messages (goes_by id old.sent s after messages goes)) k)
      by_kind (Elsewhere by messages moment are servers master posted) =
          subst (λ p. OfCopiesAt x new.sent (as_left p)) (sym master) (quiet_at x moment by messages old.sent new.sent (as_left old.nodes.master) posted (λ chunk. of_client_none chunk messages are) k)
      by_kind (OfMaster place messages moment goes servers master posted) =
          subst (λ p. OfCopiesAt x new.sent (as_left p)) (sym master)
          (all_does_at x r.begins.given old.sent new.sent old.nodes.master place messages moment posted (does_there sizes law x step old new a b place messages r moves master goes) k)

  copies_over : (steps : List Step) (old new : History D) (a b : Account) → IsReached x old a → Runs x steps old a new b → AreAt old → AreAt new
  copies_over [] old new a b r runs k = subst AreAt (sym runs.0) k
  copies_over (step ∷ steps) old new a b r (mid, c, moves, rest) k =
      copies_over steps mid new c b (reach_more x old mid a c (step ∷ []) r (mid, c, moves, (refl, refl))) rest (copies_on step old mid a c r moves k)

  pub copies_there : (now : History D) (a : Account) → IsReached x now a → OfCopiesAt x now.sent (as_left now.nodes.master)
  copies_there now a r =
      let given = r.begins.given in
      copies_over r.steps r.begun now r.first a (record { apart = r.apart; begun = r.begun; first = r.first; steps = []; begins = r.begins; runs = (refl, refl) }) r.runs
      (copies_first x r.begun.sent r.begun.nodes.master (λ chunk. begins_none x.seen x.failures x.armed sizes x.config (λ req. []) x.clients x.disks r.begun given.new r.begins.begins (λ (m : Message). MakesNone chunk m.body))
      (begins_told x.seen x.failures x.armed x.config x.clients x.disks r.begun given.new r.begins.begins))
