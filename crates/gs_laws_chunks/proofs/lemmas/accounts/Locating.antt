-- Each view of a chunk that a client was told was looked up.
use Rattle.std.proofs.Common.{◌≡◌, ◌⊎◌, ◌∙◌, ◌++◌, ◌||◌, ◌≤◌, ℕ, zero, suc, Bool, true, false, List, [], ◌∷◌, length, Option, Some, None, refl, sym, ap, subst, inl, inr, arith}
use Rattle.std.specs.Prelude.{◌==◌, if◌then◌else◌, is_some, nat_lt, take, Result, Ok, Err}
use Rattle.std.specs.FinMap as fin
use Rattle.std.specs.List.{AllByRecursion}
use Rattle.std.proofs.lemmas.Bool.{false≢true}
use Rattle.std.proofs.lemmas.Bool.Decides.{nat_tests}
use Rattle.gs_base.specs.declared.config.Config.{Config}
use Rattle.gs_base.specs.declared.numbers.Moment.{Moment}
use Rattle.gs_base.specs.declared.numbers.ReqId.{ReqId}
use Rattle.gs_base.specs.declared.refusal.Refusal.{Refusal}
use Rattle.gs_base.specs.declared.refusal.Refusal.TheVariants as refusals
use Rattle.gs_journal.specs.Records.{standing}
use Rattle.gs_lease.specs.declared.view.View.{View}
use Rattle.gs_msg.specs.declared.answer.Answer.{Answer}
use Rattle.gs_msg.specs.declared.answer.Answer.TheVariants as answers
use Rattle.gs_msg.specs.declared.body.Body.{Body}
use Rattle.gs_msg.specs.declared.body.Body.TheVariants as bodies
use Rattle.gs_msg.specs.declared.event.DiskId.{DiskId}
use Rattle.gs_msg.specs.declared.message.Message.{Message}
use Rattle.gs_msg.specs.declared.node.NodeId.{NodeId}
use Rattle.gs_msg.specs.declared.node.NodeId.TheVariants as ids
use Rattle.gs_master_spec.specs.Durable.{Durable, start}
use Rattle.gs_master.proofs.Turning.{front_fits}
use Rattle.gs_master_record.specs.Plain.{PlainEntry}
use Rattle.gs_master_spec.specs.Applied.{replayed}
use Rattle.gs_master_spec.specs.Handling.{Again, New, Older, numbered, restarted}
use Rattle.gs_master_spec.specs.Outcomes.{IsCut, unsure}
use Rattle.gs_master_spec.specs.Replies.{client_cmp, later}
use Rattle.gs_master_spec.specs.State.{Log, State, Turn, is_unopened, last_reply}
use Rattle.gs_master_spec.specs.Volatile.{is_pending}
use Rattle.gs_master_spec.specs.declared.reply.KeptReply.{KeptReply}
use Rattle.gs_master_spec.specs.declared.pending.Pending.{Pending}
use Rattle.gs_server.specs.Servers.{Server}
use Rattle.gs_nodes.specs.Happenings.{refusal_of_call}
use Rattle.gs_master.specs.Masters.{MasterOf}
use Rattle.gs_nodes.specs.declared.place.MasterPlace.{MasterPlace}
use Rattle.gs_nodes.specs.declared.place.MasterPlace.TheVariants.{Standing, Closed, Away}
use Rattle.gs_world.proofs.Reaching.{HaveSizes}
use Rattle.gs_world.specs.Histories.{History}
use Rattle.gs_laws_world.proofs.lemmas.lasting.Lasting.{begins_firm}
use Rattle.gs_laws_world.specs.lasting.Lasting.{IsToldIn, Lasts}
use Rattle.gs_world.proofs.Sending.{sent_still, step_stays}
use Rattle.gs_world.specs.Runs.{StaySent, Step}
use Rattle.gs_world.specs.Sent.{Sent}
use Rattle.gs_laws_moves.specs.moves.Epochs.{EndsOnce}
use Rattle.gs_laws_moves.proofs.lemmas.moves.Called.{chain_waits, within_called}
use Rattle.gs_laws_moves.proofs.lemmas.moves.Fitting.{mapped, once_chain}
use Rattle.gs_laws_moves.proofs.lemmas.moves.Locations.{kept_were_located, sent_were_located}
use Rattle.gs_laws_moves.specs.moves.Called.{AllWait, HearsFor}
use Rattle.gs_laws_moves.specs.moves.Guards.{Heard, IsMade}
use Rattle.gs_laws_moves.specs.moves.Laws.{IsMadeWell, said_from}
use Rattle.gs_laws_moves.specs.moves.Locations.{IsToldOnlyIf, KeepsLocation, WasLocated}
use Rattle.gs_laws_moves.specs.moves.Moves.{Chain}
use Rattle.gs_laws_moves.specs.moves.Locations as replies
use Rattle.gs_laws_parts.proofs.lemmas.master.Located.{all_further, kept_are_looked_up, sent_are_looked_up, told_further}
use Rattle.gs_laws_parts.specs.master.Families.{Family, HeardOf, MarksOf}
use Rattle.gs_laws_parts.specs.master.Locating.{IsLookedUpIn, IsToldSo}
use Rattle.gs_laws_parts.proofs.lemmas.server.Elsewhere.{ByServer}
use Rattle.gs_laws_parts.specs.server.Requests.{bytes_in}
use Rattle.gs_laws_parts.specs.server.Answering.{IsByServer}
use Rattle.gs_laws_lift.proofs.lemmas.stores.AskingServers.{handled_by, tick_by}
use Rattle.gs_laws_lift.proofs.lemmas.stores.Beginning.{begins_none, begins_restarted}
use Rattle.gs_laws_lift.proofs.lemmas.stores.Chains.{Begun, begun_standing, begun_started, heard_of, marks_of}
use Rattle.gs_laws_lift.proofs.lemmas.stores.DoingAll.{heard_by, masters_do_all}
use Rattle.gs_laws_lift.proofs.lemmas.stores.Placing.{kind_of}
use Rattle.gs_laws_lift.proofs.lemmas.stores.Posting.{posted_all, sent_then}
use Rattle.gs_laws_lift.specs.stores.Doing.{Arms, MasterDoes, HasDurable, IsHeardIn, Moves as Does_moves, Refuses, Starts, Waits}
use Rattle.gs_laws_lift.specs.stores.Left.{AreAnswers, Arranges, Cuts, Does as Does_so, Keeps, MasterDoesAll, answer_by_number, answer_failed, as_left, left_in}
use Rattle.gs_laws_lift.specs.stores.Going.{AllSent, Beats, Damages, Elsewhere, Hears, Kind, Loses, OfMaster, OfServer, Posts, Restarts, ServerGoes, Ticks}
use Rattle.gs_laws_lift.specs.stores.Living.{StoreLives}
use Rattle.gs_laws_lift.specs.stores.Saying.{AreOfClient, IsOfClient}
use Rattle.gs_laws_lift.specs.stores.Showing.{whole_in}
use Rattle.gs_laws_chunks.proofs.lemmas.accounts.Once.{told_once}
use Rattle.gs_laws_chunks.proofs.lemmas.accounts.LocatingCut.{IsToldAtCut, cut_keeps, cut_told}
use Rattle.gs_laws_chunks.proofs.lemmas.accounts.SeeingThrough.{each_is_seen_through, reached_well}
use Rattle.gs_laws_chunks.proofs.lemmas.accounts.Told.{named}
use Rattle.gs_laws_chunks.proofs.lemmas.accounts.Well.{IsWell, armed_left, left_so, step_well, told_left, well_lasts}
use Rattle.gs_laws_chunks.specs.accounts.Accounts.{Account}
use Rattle.gs_laws_chunks.specs.accounts.Running.{IsArmed, IsNew, IsReached, Moves, Runs, Setup}
use Rattle.gs_laws_chunks.proofs.lemmas.accounts.Durables.{told_is_had}
use Rattle.gs_laws_chunks.proofs.lemmas.accounts.Edits.{AreNumbered}
use Rattle.gs_laws_chunks.specs.accounts.Locating.{IsLocatedAt, IsLocatedLeft, KeepsAt, KeepsEither, LocatesLeft, LocatesSo, WaitAt, WereLookedUp}
use Rattle.gs_laws_chunks.specs.accounts.Reading.{LocationsWereLookedUp, WasCalled, WasLookedUp}

-- ---- who tells of no chunk

module _ (Was : ReqId → ℕ → View → ℕ → Type 0) where
  abbrev TellIf : List Message → Type 0
  TellIf messages = AllByRecursion (λ (m : Message). IsToldOnlyIf Was m.body) messages

  server_silent : (body : Body) → IsByServer body → IsToldOnlyIf Was body
  server_silent (bodies.Reply req result) by = absurd by
  server_silent body by = tt

  servers_silent : (messages : List Message) → ByServer messages → TellIf messages
  servers_silent [] by = tt
  servers_silent (m ∷ messages) by = (server_silent m.body by.0, servers_silent messages by.1)

  client_silent : (body : Body) → IsOfClient body → IsToldOnlyIf Was body
  client_silent (bodies.Reply req result) of = absurd of
  client_silent body of = tt

  clients_silent : (messages : List Message) → AreOfClient messages → TellIf messages
  clients_silent [] of = tt
  clients_silent (m ∷ messages) of = (client_silent m.body of.0, clients_silent messages of.1)

  refusals_silent : (caller : Option ReqId) → TellIf (refusal_of_call caller)
  refusals_silent None = tt
  refusals_silent (Some req) = (tt, tt)

goes_by : (sent : Sent) (id : ℕ) (s after : Server) (messages : List Message) → ServerGoes sent id s after messages → ByServer messages
goes_by sent id s after messages (Hears message moment was to is sends) = subst ByServer (sym sends) (handled_by s message moment)
goes_by sent id s after messages (Ticks moment is sends) = subst ByServer (sym sends) (tick_by s moment)
goes_by sent id s after messages (Beats is sends) = subst ByServer (sym sends) (tt, tt)
goes_by sent id s after messages (Restarts is sends) = subst ByServer (sym sends) tt
goes_by sent id s after messages (Loses handle is sends) = subst ByServer (sym sends) tt
goes_by sent id s after messages (Damages handle block is sends) = subst ByServer (sym sends) tt

-- of no replies none tells so
none_told : (caller : ReqId) (chunk : ℕ) (view : View) (epoch : ℕ) → replies.IsToldIn fin.empty caller chunk view epoch → ⊥
none_told caller chunk view epoch k = false≢true (ap is_some (sym (fin.get-empty client_cmp caller.client) ∙ k.has))

-- ---- calls that were sent

-- what is heard was sent
said_is : (node : NodeId) (body : Body) (from : ℕ) (said : Body) → said_from node body ≡ Some (from, said) → body ≡ said
said_is ids.Master body from said is = absurd (cc)
said_is (ids.Server server) body from said is = (let pair : ◌≡◌ {A = ℕ × Body} (server, body) (from, said) = cc in ap (λ (x : ℕ × Body). x.1) pair)
said_is (ids.Client client) (bodies.Call req call) from said is = (let pair : ◌≡◌ {A = ℕ × Body} (client.0, bodies.Call req call) (from, said) = cc in ap (λ (x : ℕ × Body). x.1) pair)
said_is (ids.Client client) body from said is = absurd (cc)

hears_for : (sent : Sent) (heard : Heard) → IsHeardIn sent heard → HearsFor (WasCalled sent) heard
hears_for sent heard (inl none) from req call is = absurd (false≢true (ap is_some (sym none ∙ is)))
hears_for sent heard (inr (message, was, so)) from req call is = (message, call, was, said_is message.from message.body from (bodies.Call req call) (sym so ∙ is))

called_then : (old new : Sent) → StaySent old new → (req : ReqId) → WasCalled old req → WasCalled new req
called_then old new stays req (message, call, was, is) = (message, call, sent_still message old new stays was, is)

all_waiting : (P Q : ReqId → Type 0) → ((req : ReqId) → P req → Q req) → (ps : List Pending) → AllByRecursion (λ (p : Pending). P p.req) ps → AllByRecursion (λ (p : Pending). Q p.req) ps
all_waiting P Q more [] all = tt
all_waiting P Q more (p ∷ ps) all = (more p.req all.0, all_waiting P Q more ps all.1)

waiting_then : {D : Type 0} (seen : D → List ℕ) (P Q : ReqId → Type 0) → ((req : ReqId) → P req → Q req) → (place : MasterPlace D) → WaitAt seen P place → WaitAt seen Q place
waiting_then seen P Q more (Standing m) all = all_waiting P Q more m.state.volatile.pending all
waiting_then seen P Q more (Closed first second) all = tt
waiting_then seen P Q more Away all = tt

-- two things that hold of each that is told
both_told : (A B C : ReqId → ℕ → View → ℕ → Type 0) → ((caller : ReqId) (chunk : ℕ) (view : View) (epoch : ℕ) → A caller chunk view epoch → B caller chunk view epoch → C caller chunk view epoch) → (body : Body) → IsToldOnlyIf A body → IsToldOnlyIf B body → IsToldOnlyIf C body
both_told A B C also (bodies.Reply req (Ok (answers.Location chunk view epoch))) a b = also req chunk view epoch a b
both_told A B C also body a b = tt

all_told : (A B C : ReqId → ℕ → View → ℕ → Type 0) → ((caller : ReqId) (chunk : ℕ) (view : View) (epoch : ℕ) → A caller chunk view epoch → B caller chunk view epoch → C caller chunk view epoch) → (messages : List Message) → TellIf A messages → TellIf B messages → TellIf C messages
all_told A B C also [] a b = tt
all_told A B C also (m ∷ messages) a b = (both_told A B C also m.body a.0 b.0, all_told A B C also messages a.1 b.1)

-- ---- a failure that is arranged

module _ {D : Type 0} (seen : D → List ℕ) where
  -- it changes nothing that is kept
  armed_keeps : (there place : MasterPlace D) → IsArmed seen there place → (caller : ReqId) (chunk : ℕ) (view : View) (epoch : ℕ) → KeepsAt seen place caller chunk view epoch → KeepsAt seen there caller chunk view epoch
  armed_keeps (Standing m) place (j, is, alike) caller chunk view epoch k = subst (λ p. KeepsAt seen p caller chunk view epoch) is k
  armed_keeps (Closed first second) place (other, another, is, one, two) caller chunk view epoch k =
      let told = subst (λ p. KeepsAt seen p caller chunk view epoch) is k in
      (told.0, subst (λ t. IsToldIn t told.0) (ap (λ s. standing s (seen another)) one ∙ ap (standing (seen first)) two) told.1, told.2)
  armed_keeps Away place is caller chunk view epoch k = subst (λ p. KeepsAt seen p caller chunk view epoch) is k

  armed_waits : (P : ReqId → Type 0) (there place : MasterPlace D) → IsArmed seen there place → WaitAt seen P there → WaitAt seen P place
  armed_waits P (Standing m) place (j, is, alike) all = subst (WaitAt seen P) (sym is) all
  armed_waits P (Closed first second) place (other, another, is, one, two) all = subst (WaitAt seen P) (sym is) tt
  armed_waits P Away place is all = subst (WaitAt seen P) (sym is) tt

  -- and so is what changes nothing
  still_armed : (there : MasterPlace D) → IsArmed seen there there
  still_armed (Standing m) = (m.journal, refl, record { first = refl; second = refl; others = refl })
  still_armed (Closed first second) = (first, second, refl, refl, refl)
  still_armed Away = refl

-- ---- what the master does

module _ {D : Type 0} (seen : D → List ℕ) (config : Config) (bytes : ReqId → List ℕ) (among : List ℕ → Bool) (step : Step) (old new : History D) (lives : StoreLives seen config bytes among old) where
  -- a turn of moves
  module _ (s : State) (begun : (chunk : ℕ) → Begun seen config bytes among step None old new lives chunk s (lives.life chunk)) (by_config : Config) (heard : Heard) (t : Turn) (turn : EndsOnce by_config (IsMadeWell by_config heard) s t) (was : IsHeardIn old.sent heard) (waiting : AllWait (WasCalled old.sent) s)
      (before : (caller : ReqId) (chunk : ℕ) (view : View) (epoch : ℕ) → KeepsLocation s caller chunk view epoch → KeepsAt seen old.nodes.master caller chunk view epoch)
      (place : MasterPlace D) (messages : List Message) (after : MasterOf D) (master : place ≡ Standing after) (state : after.state ≡ t.after) (sends : messages ≡ t.sent) where
    family : Family s
    family chunk = (begun chunk).there

    whole : ℕ → ℕ → Bool
    whole chunk = whole_in t.after.durable chunk old.nodes.servers

    hears : (chunk : ℕ) → HeardOf chunk s heard (family chunk)
    unfolding family
    hears chunk = heard_of seen config bytes among step None old new lives s heard was chunk (lives.life chunk) (begun chunk).there (begun chunk).linked

    marks : (chunk : ℕ) → MarksOf chunk s (whole chunk) (family chunk)
    unfolding family whole
    marks chunk = marks_of seen config bytes among step None old new lives s t.after.durable chunk (lives.life chunk) (begun chunk).there (begun chunk).linked

    chain : Chain by_config (IsMade by_config heard) s t
    chain = mapped by_config (IsMadeWell by_config heard) (IsMade by_config heard) (λ u move well. well.made) s t (once_chain by_config (IsMadeWell by_config heard) s t turn)

    -- it was kept before, or its call was sent
    abbrev IsCalledSo : ReqId → ℕ → View → ℕ → Type 0
    IsCalledSo caller chunk view epoch = KeepsLocation s caller chunk view epoch ⊎ WasCalled old.sent caller

    called : (caller : ReqId) (chunk : ℕ) (view : View) (epoch : ℕ) → WasLocated by_config (IsMade by_config heard) s t caller chunk view epoch → IsCalledSo caller chunk view epoch
    called caller chunk view epoch (inl k) = inl k
    called caller chunk view epoch (inr w) = inr (within_called (WasCalled old.sent) by_config heard s t caller chunk view epoch (hears_for old.sent heard was) waiting w)

    located : (caller : ReqId) (chunk : ℕ) (view : View) (epoch : ℕ) → IsToldSo s t.after.durable caller chunk view epoch → IsCalledSo caller chunk view epoch → IsLocatedAt seen old.sent old.nodes.master place caller chunk view epoch
    located caller chunk view epoch (inl k) since = inl (before caller chunk view epoch k)
    located caller chunk view epoch (inr looked) (inl k) = inl (before caller chunk view epoch k)
    located caller chunk view epoch (inr looked) (inr since) = inr (since, (t.after.durable, subst (λ p. HasDurable seen p t.after.durable) (sym master) (ap (λ (u : State). u.durable) state), looked))

    turn_locates : LocatesSo seen old.sent old.nodes.master place messages
    turn_locates = record {
      kept = λ caller chunk view epoch k. (
          let there = subst (λ (u : State). KeepsLocation u caller chunk view epoch) state (subst (λ p. KeepsAt seen p caller chunk view epoch) master k) in
          located caller chunk view epoch (kept_are_looked_up whole by_config heard s t family hears marks turn caller chunk view epoch there) (called caller chunk view epoch (kept_were_located by_config heard s t caller chunk view epoch chain there)));
      sent = subst (λ ms. AllByRecursion (λ (m : Message). IsToldOnlyIf (IsLocatedAt seen old.sent old.nodes.master place) m.body) ms) (sym sends)
          (all_told (IsToldSo s t.after.durable) IsCalledSo (IsLocatedAt seen old.sent old.nodes.master place) located t.sent (sent_are_looked_up whole by_config heard s t family hears marks turn)
          (all_further (WasLocated by_config (IsMade by_config heard) s t) IsCalledSo called t.sent (sent_were_located by_config heard s t chain)));
      waits = subst (WaitAt seen (WasCalled old.sent)) (sym master) (subst (AllWait (WasCalled old.sent)) (sym state) (chain_waits (WasCalled old.sent) by_config heard (hears_for old.sent heard was) s t chain waiting));
    }

  -- what is durable is kept where the master is
  durable_kept : (d : Durable) (there : MasterPlace D) → HasDurable seen there d → (caller : ReqId) (chunk : ℕ) (view : View) (epoch : ℕ) → replies.IsToldIn d.replies caller chunk view epoch → KeepsAt seen there caller chunk view epoch
  durable_kept d (Standing m) had caller chunk view epoch k = inl (subst (λ (e : Durable). replies.IsToldIn e.replies caller chunk view epoch) (sym had) k)
  durable_kept d (Closed first second) had caller chunk view epoch k = (d, had, k)
  durable_kept d Away had caller chunk view epoch k = absurd had

  -- a restart forgets what was kept in memory
  restarted_keeps : (d : Durable) (log : Log) → HasDurable seen old.nodes.master d → (caller : ReqId) (chunk : ℕ) (view : View) (epoch : ℕ) → KeepsLocation (restarted d log) caller chunk view epoch → KeepsAt seen old.nodes.master caller chunk view epoch
  restarted_keeps d log had caller chunk view epoch (inl k) = durable_kept d old.nodes.master had caller chunk view epoch k
  restarted_keeps d log had caller chunk view epoch (inr k) = absurd (none_told caller chunk view epoch k)

  waits_on : (d : Durable) (first second : D) → IsToldIn (standing (seen first) (seen second)) d → HasDurable seen old.nodes.master d → (caller : ReqId) (chunk : ℕ) (view : View) (epoch : ℕ) → KeepsAt seen (Closed first second) caller chunk view epoch → KeepsAt seen old.nodes.master caller chunk view epoch
  waits_on d first second told had caller chunk view epoch (e, tells, k) =
      durable_kept d old.nodes.master had caller chunk view epoch (subst (λ (y : Durable). replies.IsToldIn y.replies caller chunk view epoch) (told_once (standing (seen first) (seen second)) e d tells told) k)

  module _ (armed : DiskId → ℕ → MasterPlace D → MasterPlace D) (arming : (disk : DiskId) (call : ℕ) (there : MasterPlace D) → IsArmed seen there (armed disk call there)) (place : MasterPlace D) (messages : List Message) where
    -- each call that waits was sent
    abbrev WaitSent : MasterPlace D → Type 0
    WaitSent there = WaitAt seen (WasCalled old.sent) there

    -- nothing is sent that tells of a chunk
    quietly : ((caller : ReqId) (chunk : ℕ) (view : View) (epoch : ℕ) → KeepsAt seen place caller chunk view epoch → KeepsAt seen old.nodes.master caller chunk view epoch) → AllByRecursion (λ (m : Message). IsToldOnlyIf (IsLocatedAt seen old.sent old.nodes.master place) m.body) messages → WaitSent place → LocatesSo seen old.sent old.nodes.master place messages
    quietly keeps silent waits = record { kept = λ caller chunk view epoch k. inl (keeps caller chunk view epoch k); sent = silent; waits = waits }

    masters_locate : WaitSent old.nodes.master → MasterDoes seen armed old.sent old.nodes.master place messages → LocatesSo seen old.sent old.nodes.master place messages
    masters_locate waiting (Does_moves m after heard t at master was turn state sends) =
        turn_locates m.state (λ chunk. begun_standing seen config bytes among step None old new lives m at chunk (lives.life chunk)) m.config heard t turn was (subst WaitSent at waiting) (λ caller chunk view epoch k. subst (λ p. KeepsAt seen p caller chunk view epoch) (sym at) k) place messages after master state sends
    masters_locate waiting (Starts by_config d log after t had kept counters master turn state sends) =
        turn_locates (restarted d log) (λ chunk. begun_started seen config bytes among step None old new lives d log had kept counters chunk (lives.life chunk)) by_config None t turn (inl refl) tt (restarted_keeps d log had) place messages after master state sends
    masters_locate waiting (Waits d first second had kept counters master told none) =
        quietly (λ caller chunk view epoch k. waits_on d first second told had caller chunk view epoch (subst (λ p. KeepsAt seen p caller chunk view epoch) master k)) (subst (λ ms. AllByRecursion (λ (m : Message). IsToldOnlyIf (IsLocatedAt seen old.sent old.nodes.master place) m.body) ms) (sym none) tt)
        (subst WaitSent (sym master) tt)
    masters_locate waiting (Refuses caller same sends) =
        quietly (λ caller chunk view epoch k. subst (λ p. KeepsAt seen p caller chunk view epoch) same k) (subst (λ ms. AllByRecursion (λ (m : Message). IsToldOnlyIf (IsLocatedAt seen old.sent old.nodes.master place) m.body) ms) (sym sends) (refusals_silent (IsLocatedAt seen old.sent old.nodes.master place) caller))
        (subst WaitSent (sym same) waiting)
    masters_locate waiting (Arms disk call is none) =
        quietly (λ caller chunk view epoch k. armed_keeps seen old.nodes.master (armed disk call old.nodes.master) (arming disk call old.nodes.master) caller chunk view epoch (subst (λ p. KeepsAt seen p caller chunk view epoch) is k))
        (subst (λ ms. AllByRecursion (λ (m : Message). IsToldOnlyIf (IsLocatedAt seen old.sent old.nodes.master place) m.body) ms) (sym none) tt)
        (subst WaitSent (sym is) (armed_waits seen (WasCalled old.sent) old.nodes.master (armed disk call old.nodes.master) (arming disk call old.nodes.master) waiting))

-- ---- whatever disk of it fails

unsure_silent : (Was : ReqId → ℕ → View → ℕ → Type 0) (caller : Option ReqId) → TellIf Was (unsure caller)
unsure_silent Was None = tt
unsure_silent Was (Some req) = (tt, tt)

-- what is answered of which a disk has failed is what is kept
module _ (Was : ReqId → ℕ → View → ℕ → Type 0) (s : State) (req : ReqId) (keeps : (chunk : ℕ) (view : View) (epoch : ℕ) → KeepsLocation s req chunk view epoch → Was req chunk view epoch) where
  abbrev IsSo : Result Answer Refusal → Type 0
  IsSo result = IsToldOnlyIf Was (bodies.Reply req result)

  by_result : (result : Result Answer Refusal) → ((chunk : ℕ) (view : View) (epoch : ℕ) → result ≡ Ok (answers.Location chunk view epoch) → KeepsLocation s req chunk view epoch) → IsSo result
  by_result (Ok (answers.Location chunk view epoch)) found = keeps chunk view epoch (found chunk view epoch refl)
  by_result result found = tt

  of_later : (a b : Option KeptReply) (reply : KeptReply) → later a b ≡ Some reply → (a ≡ Some reply) ⊎ (b ≡ Some reply)
  of_later None b reply is = inr is
  of_later (Some one) None reply is = inl is
  of_later (Some one) (Some other) reply is = by_test (nat_lt one.number other.number) is
    where
      by_test : (b : Bool) → (if b then Some other else Some one) ≡ Some reply → (◌≡◌ {A = Option KeptReply} (Some one) (Some reply)) ⊎ (◌≡◌ {A = Option KeptReply} (Some other) (Some reply))
      by_test true is = inr is
      by_test false is = inl is

  found_in : (reply : KeptReply) → last_reply s req.client ≡ Some reply → (reply.number == req.number) ≡ true → (chunk : ℕ) (view : View) (epoch : ℕ) → reply.result ≡ Ok (answers.Location chunk view epoch) → KeepsLocation s req chunk view epoch
  found_in reply last same chunk view epoch is = by_place (of_later (fin.get s.durable.replies req.client) (fin.get s.volatile.replies req.client) reply last)
    where
      number : reply.number ≡ req.number
      number = grind (nat_tests, arith)

      by_place : (fin.get s.durable.replies req.client ≡ Some reply) ⊎ (fin.get s.volatile.replies req.client ≡ Some reply) → KeepsLocation s req chunk view epoch
      by_place (inl has) = inl (record { reply = reply; has = has; number = number; is = is })
      by_place (inr has) = inr (record { reply = reply; has = has; number = number; is = is })

  by_number : IsSo (answer_by_number (numbered (last_reply s req.client) req.number))
  by_number = by_last (last_reply s req.client) refl
    where
      by_last : (o : Option KeptReply) → last_reply s req.client ≡ o → IsSo (answer_by_number (numbered o req.number))
      by_last None last = tt
      by_last (Some reply) last = by_test (reply.number == req.number) (nat_lt req.number reply.number) refl
        where
          by_test : (b c : Bool) → (reply.number == req.number) ≡ b → IsSo (answer_by_number (if b then Again reply.result else if c then Older else New))
          by_test true c same = by_result reply.result (found_in reply last same)
          by_test false true other = tt
          by_test false false other = tt

  answer_so : IsSo (answer_failed s req)
  answer_so = by_waiting (is_unopened s.fault || is_pending s.volatile.pending req)
    where
      by_waiting : (b : Bool) → IsSo (if b then Err refusals.Device else answer_by_number (numbered (last_reply s req.client) req.number))
      by_waiting true = tt
      by_waiting false = by_number

answers_so : (Was : ReqId → ℕ → View → ℕ → Type 0) (s : State) (caller : Option ReqId) (messages : List Message) → ((req : ReqId) (chunk : ℕ) (view : View) (epoch : ℕ) → KeepsLocation s req chunk view epoch → Was req chunk view epoch) → AreAnswers s caller messages → TellIf Was messages
answers_so Was s caller messages keeps (inl none) = subst (TellIf Was) (sym none) tt
answers_so Was s caller messages keeps (inr (req, is, sends)) = subst (TellIf Was) (sym sends) (answer_so Was s req (keeps req), tt)

taken_twice : (place many : ℕ) (xs : List PlainEntry) → place ≤ many → take place (take many xs) ≡ take place xs
taken_twice zero many xs below = refl
taken_twice (suc place) zero xs below = absurd (omega arith)
taken_twice (suc place) (suc many) [] below = refl
taken_twice (suc place) (suc many) (x ∷ xs) below = ap (λ (ys : List PlainEntry). x ∷ ys) (taken_twice place many xs (omega arith))

module _ {D : Type 0} (seen : D → List ℕ) (config : Config) (bytes : ReqId → List ℕ) (among : List ℕ → Bool) (step : Step) (old new : History D) (lives : StoreLives seen config bytes among (left_in old))
    (armed : DiskId → ℕ → MasterPlace D → MasterPlace D) (arming : (disk : DiskId) (call : ℕ) (there : MasterPlace D) → IsArmed seen there (armed disk call there)) (place : MasterPlace D) (messages : List Message) (waiting : WaitAt seen (WasCalled old.sent) (as_left old.nodes.master)) where
  abbrev was : MasterPlace D
  was = old.nodes.master

  abbrev So : ReqId → ℕ → View → ℕ → Type 0
  So caller chunk view epoch = IsLocatedLeft seen old.sent was place caller chunk view epoch

  -- a turn is cut
  module _ (m after : MasterOf D) (heard : Heard) (caller : Option ReqId) (t : Turn) (at_place many : ℕ) (said : Option Refusal) (d : Durable) (first second : D) (at : as_left was ≡ Standing m) (there : place ≡ Standing after) (heard_so : IsHeardIn old.sent heard)
      (turn : EndsOnce m.config (IsMadeWell m.config heard) m.state t) (is_cut : IsCut m.state caller t at_place messages said after.state) (least : at_place ≤ many) (within : many ≤ length t.records) (stand : replayed m.state.durable (take many t.records) ≡ Some d)
      (master : as_left place ≡ Closed first second) (told : IsToldIn (standing (seen first) (seen second)) d) where
    cut_begun : (chunk : ℕ) → Begun seen config bytes among step None (left_in old) (left_in new) lives chunk m.state (lives.life chunk)
    cut_begun chunk = begun_standing seen config bytes among step None (left_in old) (left_in new) lives m at chunk (lives.life chunk)

    cut_family : Family m.state
    cut_family chunk = (cut_begun chunk).there

    cut_whole : ℕ → ℕ → Bool
    cut_whole chunk = whole_in d chunk old.nodes.servers

    cut_hears : (chunk : ℕ) → HeardOf chunk m.state heard (cut_family chunk)
    unfolding cut_family
    cut_hears chunk = heard_of seen config bytes among step None (left_in old) (left_in new) lives m.state heard heard_so chunk (lives.life chunk) (cut_begun chunk).there (cut_begun chunk).linked

    cut_marks : (chunk : ℕ) → MarksOf chunk m.state (cut_whole chunk) (cut_family chunk)
    unfolding cut_family cut_whole
    cut_marks chunk = marks_of seen config bytes among step None (left_in old) (left_in new) lives m.state d chunk (lives.life chunk) (cut_begun chunk).there (cut_begun chunk).linked

    cut_before : (caller : ReqId) (chunk : ℕ) (view : View) (epoch : ℕ) → KeepsLocation m.state caller chunk view epoch → So caller chunk view epoch
    cut_before caller chunk view epoch k = inl (inr (subst (λ p. KeepsAt seen p caller chunk view epoch) (sym at) k))

    cut_located : (caller : ReqId) (chunk : ℕ) (view : View) (epoch : ℕ) → IsToldAtCut m.config heard m.state d caller chunk view epoch → So caller chunk view epoch
    cut_located caller chunk view epoch (inl k) = cut_before caller chunk view epoch k
    cut_located caller chunk view epoch (inr (v, w, looked)) =
        inr (within_called (WasCalled old.sent) m.config heard m.state v caller chunk view epoch (hears_for old.sent heard heard_so) (subst (WaitAt seen (WasCalled old.sent)) at waiting) w, (d, subst (λ p. HasDurable seen p d) (sym master) told, looked))

    part : (e : Durable) × (replayed m.state.durable (take at_place t.records) ≡ Some e)
    part =
        let x = front_fits m.state.durable d (take many t.records) at_place stand in
        (x.0, ap (replayed m.state.durable) (sym (taken_twice at_place many t.records least)) ∙ x.1)

    cut_kept : (caller : ReqId) (chunk : ℕ) (view : View) (epoch : ℕ) → KeepsEither seen place caller chunk view epoch → So caller chunk view epoch
    cut_kept caller chunk view epoch (inl k) =
        by_memory (cut_keeps m.state t.records at_place part.0 part.1 caller chunk view epoch (subst (λ (u : State). KeepsLocation u caller chunk view epoch) is_cut.after (subst (λ p. KeepsAt seen p caller chunk view epoch) there k)))
      where
        by_memory : replies.IsToldIn part.0.replies caller chunk view epoch ⊎ KeepsLocation m.state caller chunk view epoch → So caller chunk view epoch
        by_memory (inl told_so) = cut_located caller chunk view epoch (cut_told m.config heard cut_whole m.state cut_family cut_hears cut_marks t turn at_place many least within part.0 d part.1 stand caller chunk view epoch told_so)
        by_memory (inr kept) = cut_before caller chunk view epoch kept
    cut_kept caller chunk view epoch (inr k) =
        let x = subst (λ p. KeepsAt seen p caller chunk view epoch) master k in
        let same = told_once (standing (seen first) (seen second)) x.0 d x.1 told in
        cut_located caller chunk view epoch (cut_told m.config heard cut_whole m.state cut_family cut_hears cut_marks t turn many many (omega arith) within d d stand stand caller chunk view epoch (subst (λ (y : Durable). replies.IsToldIn y.replies caller chunk view epoch) same x.2))

    cut_locates : LocatesLeft seen old.sent was place messages
    cut_locates = record { kept = cut_kept; sent = subst (TellIf So) (sym is_cut.sends) (unsure_silent So caller); waits = subst (WaitAt seen (WasCalled old.sent)) (sym master) tt }

  all_locate : MasterDoesAll seen armed old.sent was place messages → LocatesLeft seen old.sent was place messages
  all_locate (Does_so sound does) =
      let so = masters_locate seen config bytes among step (left_in old) (left_in new) lives (λ disk call there. there) (λ disk call there. still_armed seen there) (as_left place) messages waiting does in record {
        kept = λ caller chunk view epoch k. left_so_far caller chunk view epoch (so.kept caller chunk view epoch (one_of caller chunk view epoch k));
        sent = all_further (IsLocatedAt seen old.sent (as_left was) (as_left place)) So left_so_far messages so.sent;
        waits = so.waits;
      }
    where
      left_so_far : (caller : ReqId) (chunk : ℕ) (view : View) (epoch : ℕ) → IsLocatedAt seen old.sent (as_left was) (as_left place) caller chunk view epoch → So caller chunk view epoch
      left_so_far caller chunk view epoch (inl k) = inl (inr k)
      left_so_far caller chunk view epoch (inr looked) = inr looked

      one_of : (caller : ReqId) (chunk : ℕ) (view : View) (epoch : ℕ) → KeepsEither seen place caller chunk view epoch → KeepsAt seen (as_left place) caller chunk view epoch
      one_of caller chunk view epoch (inl k) = subst (λ p. KeepsAt seen p caller chunk view epoch) (sym sound) k
      one_of caller chunk view epoch (inr k) = k
  all_locate (Cuts m after heard caller t at_place many said d first second at there was_heard turn is_cut least within stand master kept counters told) =
      cut_locates m after heard caller t at_place many said d first second at there (heard_by old.sent heard caller was_heard) turn is_cut least within stand master told
  all_locate (Keeps m after heard caller at there failed still same was_heard answers) = record {
    kept = λ caller chunk view epoch k. inl (kept_on caller chunk view epoch k);
    sent = answers_so So m.state caller messages (λ req chunk view epoch k. inl (inl (subst (λ p. KeepsAt seen p req chunk view epoch) (sym at) k))) answers;
    waits = subst (WaitAt seen (WasCalled old.sent)) (sym same) waiting;
  }
    where
      kept_on : (caller : ReqId) (chunk : ℕ) (view : View) (epoch : ℕ) → KeepsEither seen place caller chunk view epoch → KeepsEither seen was caller chunk view epoch
      kept_on caller chunk view epoch (inl k) = inl (subst (λ p. KeepsAt seen p caller chunk view epoch) (sym at) (subst (λ (u : State). KeepsLocation u caller chunk view epoch) still (subst (λ p. KeepsAt seen p caller chunk view epoch) there k)))
      kept_on caller chunk view epoch (inr k) = inr (subst (λ p. KeepsAt seen p caller chunk view epoch) same k)
  all_locate (Arranges disk call is none) = record {
    kept = λ caller chunk view epoch k. inl (kept_on caller chunk view epoch k);
    sent = subst (TellIf So) (sym none) tt;
    waits = subst (λ p. WaitAt seen (WasCalled old.sent) (as_left p)) (sym is) (armed_waits seen (WasCalled old.sent) (as_left was) (as_left (armed disk call was)) (armed_left seen was (armed disk call was) (arming disk call was)) waiting);
  }
    where
      kept_on : (caller : ReqId) (chunk : ℕ) (view : View) (epoch : ℕ) → KeepsEither seen place caller chunk view epoch → KeepsEither seen was caller chunk view epoch
      kept_on caller chunk view epoch (inl k) = inl (armed_keeps seen was (armed disk call was) (arming disk call was) caller chunk view epoch (subst (λ p. KeepsAt seen p caller chunk view epoch) is k))
      kept_on caller chunk view epoch (inr k) =
          inr (armed_keeps seen (as_left was) (as_left (armed disk call was)) (armed_left seen was (armed disk call was) (arming disk call was)) caller chunk view epoch (subst (λ p. KeepsAt seen (as_left p) caller chunk view epoch) is k))

-- so a new store keeps none
both_none : (log : Log) (caller : ReqId) (chunk : ℕ) (view : View) (epoch : ℕ) → KeepsLocation (restarted start log) caller chunk view epoch → ⊥
both_none log caller chunk view epoch (inl k) = none_told caller chunk view epoch k
both_none log caller chunk view epoch (inr k) = none_told caller chunk view epoch k

-- ---- runs

module _ {D : Type 0} (x : Setup D) where
  runs_then : (steps : List Step) (step : Step) (old mid new : History D) (a c b : Account) → Runs x steps old a mid c → Moves x step mid c new b → Runs x (steps ++ step ∷ []) old a new b
  runs_then [] step old mid new a c b same moves = (new, b, subst (λ h. Moves x step h a new b) same.0 (subst (λ y. Moves x step mid y new b) same.1 moves), (refl, refl))
  runs_then (one ∷ steps) step old mid new a c b (h, e, first, rest) moves = (h, e, first, runs_then steps step h mid new e c b rest moves)

  reached_then : (step : Step) (old new : History D) (a b : Account) → IsReached x old a → Moves x step old a new b → IsReached x new b
  reached_then step old new a b r moves = record { apart = r.apart; begun = r.begun; first = r.first; steps = r.steps ++ step ∷ []; begins = r.begins; runs = runs_then r.steps step r.begun old new r.first a b r.runs moves }

  -- what was looked up stays so
  looked_then : (step : Step) (old new : History D) (a b : Account) → Moves x step old a new b → (caller : ReqId) (chunk : ℕ) (view : View) (epoch : ℕ) → WasLookedUp x old a caller chunk view epoch → WasLookedUp x new b caller chunk view epoch
  looked_then step old new a b moves caller chunk view epoch was =
      record { looked = was.looked; a = was.a; reached = was.reached; steps = was.steps ++ step ∷ []; runs = runs_then was.steps step was.looked old new was.a a b was.runs moves; is = was.is; since = was.since }

  looked_now : (now : History D) (a : Account) → IsReached x now a → (d : Durable) → d ≡ a.durable → (caller : ReqId) (chunk : ℕ) (view : View) (epoch : ℕ) → WasCalled now.sent caller → IsLookedUpIn d chunk view epoch → WasLookedUp x now a caller chunk view epoch
  looked_now now a r d same caller chunk view epoch since looked =
      let is = subst (λ (e : Durable). IsLookedUpIn e chunk view epoch) same looked in
      record { looked = now; a = a; reached = r; steps = []; runs = (refl, refl); is = record { listed = is.listed; settled = is.settled; now = is.now; calm = is.calm }; since = since }

  -- ---- a step

  module _ (sizes : HaveSizes) (law : AreNumbered) (step : Step) (old new : History D) (a b : Account) (r : IsReached x old a) (moves : Moves x step old a new b) (were : WereLookedUp x old a) where
    abbrev Then : ReqId → ℕ → View → ℕ → Type 0
    Then = WasLookedUp x new b

    abbrev on : (caller : ReqId) (chunk : ℕ) (view : View) (epoch : ℕ) → WasLookedUp x old a caller chunk view epoch → Then caller chunk view epoch
    on = looked_then step old new a b moves

    -- what was called before
    called_on : (caller : ReqId) → WasCalled old.sent caller → WasCalled new.sent caller
    called_on = called_then old.sent new.sent (step_stays x.seen x.failures x.armed step old new moves.steps.goes)

    -- what was sent before
    old_sent : AllSent (λ (m : Message). IsToldOnlyIf Then m.body) old.sent
    old_sent = sent_then (λ (m : Message). IsToldOnlyIf (WasLookedUp x old a) m.body) (λ (m : Message). IsToldOnlyIf Then m.body) old.sent (λ m was. told_further (WasLookedUp x old a) Then on m.body was) were.sent

    -- the master does nothing
    elsewhere : (moment : Moment) (by : NodeId) (messages : List Message) → new.nodes.master ≡ old.nodes.master → Posts moment by messages old.sent new.sent → AllByRecursion (λ (m : Message). IsToldOnlyIf Then m.body) messages → WereLookedUp x new b
    elsewhere moment by messages same posted silent = record {
      sent = posted_all (λ (m : Message). IsToldOnlyIf Then m.body) moment by messages old.sent new.sent posted old_sent silent;
      kept = λ caller chunk view epoch k. on caller chunk view epoch (were.kept caller chunk view epoch (subst (λ p. KeepsEither x.seen p caller chunk view epoch) same k));
      waits = subst (λ p. WaitAt x.seen (WasCalled new.sent) (as_left p)) (sym same) (waiting_then x.seen (WasCalled old.sent) (WasCalled new.sent) called_on (as_left old.nodes.master) were.waits);
    }

    well : IsWell x old
    well = reached_well x old a r

    lasts : Lasts x.seen (as_left new.nodes.master)
    lasts = well_lasts x new (step_well x r.begins.given step old new well moves.steps)

    looked : (caller : ReqId) (chunk : ℕ) (view : View) (epoch : ℕ) → IsLocatedLeft x.seen old.sent old.nodes.master new.nodes.master caller chunk view epoch → Then caller chunk view epoch
    looked caller chunk view epoch (inl k) = on caller chunk view epoch (were.kept caller chunk view epoch k)
    looked caller chunk view epoch (inr (since, (d, has, is))) =
        looked_now new b (reached_then step old new a b r moves) d (told_is_had x.seen (as_left new.nodes.master) b.durable d lasts (told_left x.seen new.nodes.master b.durable moves.told) has) caller chunk view epoch (called_on caller since) is

    by_kind : Kind x.seen x.failures x.armed step old new → WereLookedUp x new b
    by_kind (OfServer id s after messages moment found goes met servers master posted) = elsewhere moment (ids.Server id) messages master posted (servers_silent Then messages (goes_by old.sent id s after messages goes))
    by_kind (Elsewhere by messages moment are servers master posted) = elsewhere moment by messages master posted (clients_silent Then messages are)
    by_kind (OfMaster place messages moment goes servers master posted) =
        let sees = each_is_seen_through sizes law x old a r in
        let does = masters_do_all x.seen x.failures x.armed old.nodes.config old.sent old.nodes.master place messages (well_lasts x old well) (subst (λ there. Lasts x.seen (as_left there)) master lasts) goes in
        let so = all_locate x.seen x.config (bytes_in sees.0) x.among step old new sees.2.lives x.armed r.begins.given.armed place messages were.waits does in
        let there = subst (λ p. LocatesLeft x.seen old.sent old.nodes.master p messages) (sym master) so in
        record {
          sent = posted_all (λ (m : Message). IsToldOnlyIf Then m.body) moment ids.Master messages old.sent new.sent posted old_sent (all_further (IsLocatedLeft x.seen old.sent old.nodes.master new.nodes.master) Then looked messages there.sent);
          kept = λ caller chunk view epoch k. looked caller chunk view epoch (there.kept caller chunk view epoch k);
          waits = waiting_then x.seen (WasCalled old.sent) (WasCalled new.sent) called_on (as_left new.nodes.master) there.waits;
        }

    step_locates : WereLookedUp x new b
    step_locates = by_kind (kind_of x.seen x.failures x.armed step old new moves.steps.goes (named x step old moves.steps.within well.types))

  -- ---- a run

  run_locates : HaveSizes → AreNumbered → (steps : List Step) (old new : History D) (a b : Account) → IsReached x old a → WereLookedUp x old a → Runs x steps old a new b → WereLookedUp x new b
  run_locates sizes law [] old new a b r were same = subst (λ h. WereLookedUp x h b) (sym same.0) (subst (WereLookedUp x old) (sym same.1) were)
  run_locates sizes law (step ∷ steps) old new a b r were (mid, c, moves, rest) = run_locates sizes law steps mid new c b (reached_then step old mid a c r moves) (step_locates sizes law step old mid a c r moves were) rest

  -- a store that has begun new
  first_locates : HaveSizes → (begun : History D) (first : Account) → IsNew x begun first → WereLookedUp x begun first
  first_locates sizes begun first new = record {
    sent = begins_none x.seen x.failures x.armed sizes x.config (λ req. []) x.clients x.disks begun new.given.new new.begins (λ (m : Message). IsToldOnlyIf (WasLookedUp x begun first) m.body);
    kept = λ caller chunk view epoch k. absurd (none_kept caller chunk view epoch (either_of caller chunk view epoch k));
    waits = (let found = begins_restarted x.seen x.failures x.armed x.config x.clients x.disks begun new.given.new new.begins in
        subst (WaitAt x.seen (WasCalled begun.sent)) (sym (left ∙ found.2)) (subst (AllWait (WasCalled begun.sent)) (sym found.3) tt));
  }
    where
      left : as_left begun.nodes.master ≡ begun.nodes.master
      left = left_so x.seen begun.nodes.master (begins_firm x.seen x.failures x.armed x.config x.clients x.disks begun new.given.new new.begins)

      either_of : (caller : ReqId) (chunk : ℕ) (view : View) (epoch : ℕ) → KeepsEither x.seen begun.nodes.master caller chunk view epoch → KeepsAt x.seen begun.nodes.master caller chunk view epoch
      either_of caller chunk view epoch (inl k) = k
      either_of caller chunk view epoch (inr k) = subst (λ p. KeepsAt x.seen p caller chunk view epoch) left k

      none_kept : (caller : ReqId) (chunk : ℕ) (view : View) (epoch : ℕ) → KeepsAt x.seen begun.nodes.master caller chunk view epoch → ⊥
      none_kept caller chunk view epoch k =
          let found = begins_restarted x.seen x.failures x.armed x.config x.clients x.disks begun new.given.new new.begins in
          both_none found.0 caller chunk view epoch (subst (λ (u : State). KeepsLocation u caller chunk view epoch) found.3 (subst (λ p. KeepsAt x.seen p caller chunk view epoch) found.2 k))

pub locations_were_looked_up : HaveSizes → AreNumbered → {D : Type 0} (x : Setup D) → LocationsWereLookedUp x
locations_were_looked_up sizes law x now b req chunk epoch view r (message, sent, is) =
    let first : IsReached x r.begun r.first = record { apart = r.apart; begun = r.begun; first = r.first; steps = []; begins = r.begins; runs = (refl, refl) } in
    let were = run_locates x sizes law r.steps r.begun now r.first b first (first_locates x sizes r.begun r.first r.begins) r.runs in
    subst (IsToldOnlyIf (WasLookedUp x now b)) is (were.sent sent.0 message sent.1)
