-- In each world of a run a new chunk that a call waits for was told to be a copy of that alone of which the call waits for one.
use Rattle.std.proofs.Common.{◌≡◌, ◌∙◌, inl, inr, ℕ, Bool, true, false, List, [], ◌∷◌, refl, ap, sym, subst}
use Rattle.std.specs.Prelude.{MatchOption, slice_get, Option, Some, None}
use Rattle.std.proofs.lemmas.Bool.{false≢true}
use Rattle.gs_base.specs.declared.config.Config.{Config}
use Rattle.gs_base.specs.declared.numbers.ClientId.{ClientId}
use Rattle.gs_base.specs.declared.numbers.Moment.{Moment}
use Rattle.gs_base.specs.declared.numbers.ReqId.{ReqId}
use Rattle.gs_base.specs.declared.numbers.Stamp.{Stamp}
use Rattle.gs_journal.specs.Records.{standing}
use Rattle.gs_laws_lift.proofs.lemmas.copies.Told.{all_new_weaker, chain_new}
use Rattle.gs_laws_lift.specs.copies.Told.{AllNew, MakeSo, MakesSo, copied_at}
use Rattle.gs_laws_moves.proofs.lemmas.moves.Fitting.{once_chain}
use Rattle.gs_laws_moves.specs.moves.Epochs.{EndsOnce}
use Rattle.gs_laws_moves.specs.moves.Guards.{Heard}
use Rattle.gs_laws_moves.specs.moves.Laws.{IsMadeWell}
use Rattle.gs_laws_plain.specs.commands.Places.{Place}
use Rattle.gs_master_spec.specs.Durable.{Durable, is_given, start}
use Rattle.gs_master_spec.specs.Handling.{restarted}
use Rattle.gs_master_spec.specs.State.{State, Turn}
use Rattle.gs_msg.specs.Posts.{message_at}
use Rattle.gs_msg.specs.declared.body.Body.{Body}
use Rattle.gs_msg.specs.declared.body.Body.TheVariants as bodies
use Rattle.gs_msg.specs.declared.message.Message.{Message}
use Rattle.gs_msg.specs.declared.node.NodeId.{NodeId}
use Rattle.gs_msg.specs.declared.node.NodeId.TheVariants as nodes
use Rattle.gs_msg.specs.declared.outbox.Post.{Post}
use Rattle.gs_nodes.specs.Happenings.{refusal_of_call}
use Rattle.gs_nodes.specs.declared.place.MasterPlace.{MasterPlace}
use Rattle.gs_nodes.specs.declared.place.MasterPlace.TheVariants.{Away, Closed, Standing}
use Rattle.gs_laws_world.proofs.lemmas.lasting.Lasting.{begins_firm}
use Rattle.gs_world.proofs.Reaching.{HaveSizes}
use Rattle.gs_world.specs.Histories.{Begins, History}
use Rattle.gs_laws_world.specs.lasting.Lasting.{IsToldIn, Lasts, OpensAs}
use Rattle.gs_world.specs.Runs.{Step}
use Rattle.gs_world.specs.Sent.{Appends, Line, Sent, lost_all, posts_of, with_line}
use Rattle.gs_laws_chunks.proofs.lemmas.accounts.Copied.{said_before}
use Rattle.gs_laws_chunks.proofs.lemmas.accounts.Once.{told_once}
use Rattle.gs_laws_chunks.proofs.lemmas.accounts.Told.{named}
use Rattle.gs_laws_chunks.specs.accounts.Accounts.{Account}
use Rattle.gs_laws_chunks.specs.accounts.Running.{IsArmed, IsGiven, IsReached, Runs, Setup, StepsWithin}
use Rattle.gs_laws_lift.proofs.lemmas.copies.Given.{stays_given_cut}
use Rattle.gs_laws_chunks.proofs.lemmas.accounts.Well.{IsWell, armed_left, begins_well, left_so, step_well, well_lasts}
use Rattle.gs_laws_lift.proofs.lemmas.stores.Beginning.{begins_none, begins_told}
use Rattle.gs_laws_lift.proofs.lemmas.stores.Copying.{IsToldToCopy, copied_is_told}
use Rattle.gs_laws_lift.proofs.lemmas.stores.DoingAll.{answers_reply, cut_replies, masters_do_all}
use Rattle.gs_laws_lift.proofs.lemmas.stores.Placing.{kind_of}
use Rattle.gs_laws_lift.proofs.lemmas.stores.Posting.{HasSaid}
use Rattle.gs_laws_lift.specs.stores.Copying.{copied_from}
use Rattle.gs_laws_lift.specs.stores.Doing.{Arms, HasDurable, MasterDoes, Moves as MovesAt, Refuses, Starts, Waits}
use Rattle.gs_laws_lift.specs.stores.Going.{Elsewhere, Kind, OfMaster, OfServer, Posts}
use Rattle.gs_laws_lift.specs.stores.Left.{AreReplies, Arranges, Cuts, Does, IsReply, Keeps, MasterDoesAll, as_left}
use Rattle.gs_laws_lift.specs.stores.Saying.{AreOfClient, IsOfClient}

-- ---- what is said of a chunk

-- the master has told nobody to make it as a copy of another
abbrev pub ToldSo : Sent → Option Place → ℕ → Type 0
ToldSo sent place chunk = (message : Message) → HasSaid sent message → MakesSo place chunk message.body

-- so what it is a copy of stands at the place that it is for
pub copied_so : (sent : Sent) (place : Option Place) (chunk source : ℕ) (at : Stamp) → ToldSo sent place chunk → copied_from sent chunk ≡ Some (source, at) → copied_at place ≡ Some source
copied_so sent place chunk source at k copied = by_told (copied_is_told sent source chunk at copied)
  where
    by_told : IsToldToCopy sent source chunk at → copied_at place ≡ Some source
    by_told told = subst (MakesSo place chunk) told.is (k told.message told.there) refl

pub no_copy : (sent : Sent) (chunk : ℕ) → ToldSo sent None chunk → copied_from sent chunk ≡ None
no_copy sent chunk k = by_copied (copied_from sent chunk) refl
  where
    never : (source : ℕ) → None ≡ Some source → ⊥
    never source h = absurd (cc)

    by_copied : (o : Option (ℕ × Stamp)) → copied_from sent chunk ≡ o → o ≡ None
    by_copied None is = refl
    by_copied (Some from) is = absurd (never from.0 (copied_so sent None chunk from.0 from.1 k is))

-- where the master has said no more
told_still : (place : Option Place) (chunk : ℕ) (old new : Sent) → new.master ≡ old.master → ToldSo old place chunk → ToldSo new place chunk
told_still place chunk old new same k message said = k message (said.0, ap (λ (posts : List Post). message_at posts said.0) (sym same) ∙ said.1)

-- others say nothing for it
servers_say : (id : ℕ) (moment : Moment) (messages : List Message) (old new : Sent) → Posts moment (nodes.Server id) messages old new → new.master ≡ old.master
servers_say id moment messages old new (inr is) = ap (λ (s : Sent). s.master) is
servers_say id moment messages old new (inl posts) = by_posts (slice_get old.servers id) posts
  where
    by_posts : (found : Option (List Post)) → MatchOption found (new ≡ record old { has_lost = lost_all messages old.has_lost }) (λ posts. (after : Line) × Appends moment messages (posts, old.has_lost) after × (new ≡ with_line (nodes.Server id) after old)) → new.master ≡ old.master
    by_posts None is = ap (λ (s : Sent). s.master) is
    by_posts (Some posts) (after, appends, is) = ap (λ (s : Sent). s.master) is

clients_say : (id : ClientId) (moment : Moment) (messages : List Message) (old new : Sent) → Posts moment (nodes.Client id) messages old new → new.master ≡ old.master
clients_say id moment messages old new (inr is) = ap (λ (s : Sent). s.master) is
clients_say id moment messages old new (inl posts) = by_posts (posts_of old (nodes.Client id)) posts
  where
    by_posts : (found : Option (List Post)) → MatchOption found (new ≡ record old { has_lost = lost_all messages old.has_lost }) (λ posts. (after : Line) × Appends moment messages (posts, old.has_lost) after × (new ≡ with_line (nodes.Client id) after old)) → new.master ≡ old.master
    by_posts None is = ap (λ (s : Sent). s.master) is
    by_posts (Some posts) (after, appends, is) = ap (λ (s : Sent). s.master) is

-- what is said now tells nobody so either
pub told_on : (place : Option Place) (chunk : ℕ) (moment : Moment) (by : NodeId) (messages : List Message) (old new : Sent) → Posts moment by messages old new → MakeSo place chunk messages → ToldSo old place chunk → ToldSo new place chunk
told_on place chunk moment nodes.Master messages old new posts so k = λ message said. elim (said_before (λ (m : Message). MakesSo place chunk m.body) moment messages old new posts so message said) [
  | inl before ↦ k message before
  | inr is ↦ is
]
told_on place chunk moment (nodes.Server id) messages old new posts so k = told_still place chunk old new (servers_say id moment messages old new posts) k
told_on place chunk moment (nodes.Client id) messages old new posts so k = told_still place chunk old new (clients_say id moment messages old new posts) k

-- a client tells nobody to make one, and a refusal neither
of_clients_so : (place : Option Place) (chunk : ℕ) (messages : List Message) → AreOfClient messages → MakeSo place chunk messages
of_clients_so place chunk [] are = tt
of_clients_so place chunk (m ∷ messages) are = (by_body m.body are.0, of_clients_so place chunk messages are.1)
  where
    by_body : (body : Body) → IsOfClient body → MakesSo place chunk body
    by_body (bodies.MakeCopy old at new stamp) is = absurd is
    by_body body is = tt

refused_so : (place : Option Place) (chunk : ℕ) (caller : Option ReqId) → MakeSo place chunk (refusal_of_call caller)
refused_so place chunk None = tt
refused_so place chunk (Some req) = (tt, tt)

-- and neither does another reply
replies_so : (place : Option Place) (chunk : ℕ) (messages : List Message) → AreReplies messages → MakeSo place chunk messages
replies_so place chunk [] are = tt
replies_so place chunk (m ∷ messages) are = (by_body m.body are.0, replies_so place chunk messages are.1)
  where
    by_body : (body : Body) → IsReply body → MakesSo place chunk body
    by_body (bodies.Reply req result) is = tt
    by_body body is = absurd is

module _ {D : Type 0} (x : Setup D) where
  abbrev pub MadeAt : Sent → MasterPlace D → Type 0
  MadeAt sent (Standing m) = AllNew (ToldSo sent) m.state
  MadeAt sent (Closed first second) = (d : Durable) → IsToldIn (standing (x.seen first) (x.seen second)) d → (place : Option Place) (chunk : ℕ) → is_given d.next_handle chunk ≡ false → ToldSo sent place chunk
  MadeAt sent Away = Unit {0}

  -- of no chunk whose handle isn't given anything is told
  pub fresh_at : (sent : Sent) (spot : MasterPlace D) (d : Durable) → HasDurable x.seen spot d → MadeAt sent spot → (place : Option Place) (chunk : ℕ) → is_given d.next_handle chunk ≡ false → ToldSo sent place chunk
  fresh_at sent (Standing m) d has k place chunk out = k.fresh place chunk (ap (λ (e : Durable). is_given e.next_handle chunk) has ∙ out)
  fresh_at sent (Closed first second) d has k place chunk out = k d has place chunk out
  fresh_at sent Away d has k place chunk out = absurd has

  -- where nothing is told of any otherwise
  same_at : (old new : Sent) (spot : MasterPlace D) → ((place : Option Place) (chunk : ℕ) → ToldSo old place chunk → ToldSo new place chunk) → MadeAt old spot → MadeAt new spot
  same_at old new (Standing m) still k = all_new_weaker (ToldSo old) (ToldSo new) still m.state k
  same_at old new (Closed first second) still k = λ d told place chunk out. still place chunk (k d told place chunk out)
  same_at old new Away still k = tt

  turn_at : (config : Config) (heard : Heard) (s : State) (t : Turn) (moment : Moment) (messages : List Message) (old new : Sent) → EndsOnce config (IsMadeWell config heard) s t → messages ≡ t.sent → Posts moment nodes.Master messages old new → AllNew (ToldSo old) s → AllNew (ToldSo new) t.after
  turn_at config heard s t moment messages old new turn sends posted k =
      all_new_weaker (λ place chunk. ToldSo old place chunk × MakeSo place chunk t.sent) (ToldSo new) (λ place chunk n. told_on place chunk moment nodes.Master messages old new posted (subst (MakeSo place chunk) (sym sends) n.1) n.0) t.after
      (chain_new config heard (ToldSo old) s t (once_chain config (IsMadeWell config heard) s t turn) k)

  armed_at : (next : Sent) (spot other : MasterPlace D) → IsArmed x.seen spot other → MadeAt next spot → MadeAt next other
  armed_at next (Standing m) other (j, to, alike) k = subst (MadeAt next) (sym to) k
  armed_at next (Closed first second) other (one, two, to, same, alike) k =
      subst (MadeAt next) (sym to) (subst (λ t. (d : Durable) → IsToldIn t d → (place : Option Place) (chunk : ℕ) → is_given d.next_handle chunk ≡ false → ToldSo next place chunk) (sym (ap (λ s. standing s (x.seen two)) same ∙ ap (standing (x.seen first)) alike)) k)
  armed_at next Away other to k = subst (MadeAt next) (sym to) k

  -- what is left of the master, where no disk fails
  does_at : (sent next : Sent) (old new : MasterPlace D) (messages : List Message) (moment : Moment) → Posts moment nodes.Master messages sent next → MasterDoes x.seen (λ disk call spot. spot) sent old new messages → MadeAt sent old → MadeAt next new
  does_at sent next old new messages moment posted (MovesAt m after heard t at to was turn state sends) k =
      subst (MadeAt next) (sym to) (subst (AllNew (ToldSo next)) (sym state) (turn_at m.config heard m.state t moment messages sent next turn sends posted (subst (MadeAt sent) at k)))
  does_at sent next old new messages moment posted (Starts config d log after t has kept counters to turn state sends) k =
      subst (MadeAt next) (sym to) (subst (AllNew (ToldSo next)) (sym state)
      (turn_at config None (restarted d log) t moment messages sent next turn sends posted (record { waiting = tt; fresh = λ place chunk out. fresh_at sent old d has k place chunk out })))
  does_at sent next old new messages moment posted (Waits d first second has kept counters to told sends) k =
      subst (MadeAt next) (sym to) (λ e other place chunk out. told_on place chunk moment nodes.Master messages sent next posted (subst (MakeSo place chunk) (sym sends) tt)
      (fresh_at sent old d has k place chunk (ap (λ (f : Durable). is_given f.next_handle chunk) (told_once (standing (x.seen first) (x.seen second)) d e told other) ∙ out)))
  does_at sent next old new messages moment posted (Refuses caller same sends) k =
      subst (MadeAt next) (sym same) (same_at sent next old (λ place chunk. told_on place chunk moment nodes.Master messages sent next posted (subst (MakeSo place chunk) (sym sends) (refused_so place chunk caller))) k)
  does_at sent next old new messages moment posted (Arms disk call is sends) k =
      subst (MadeAt next) (sym is) (same_at sent next old (λ place chunk. told_on place chunk moment nodes.Master messages sent next posted (subst (MakeSo place chunk) (sym sends) tt)) k)

  -- whatever disks of it fail
  all_does_at : IsGiven x → (sent next : Sent) (old new : MasterPlace D) (messages : List Message) (moment : Moment) → Posts moment nodes.Master messages sent next → MasterDoesAll x.seen x.armed sent old new messages → MadeAt sent (as_left old) → MadeAt next (as_left new)
  all_does_at given sent next old new messages moment posted (Does sound does) k = does_at sent next (as_left old) (as_left new) messages moment posted does k
  all_does_at given sent next old new messages moment posted (Cuts m after heard caller t place many said d first second at there was turn cut least within stand to kept counters told) k =
      subst (MadeAt next) (sym to) (λ e other spot chunk out. told_on spot chunk moment nodes.Master messages sent next posted (replies_so spot chunk messages (cut_replies m.state caller t place messages said after.state cut))
      ((subst (MadeAt sent) at k).fresh spot chunk (before chunk (ap (λ (f : Durable). is_given f.next_handle chunk) (told_once (standing (x.seen first) (x.seen second)) d e told other) ∙ out) (is_given m.state.durable.next_handle chunk) refl)))
    where
      before : (chunk : ℕ) → is_given d.next_handle chunk ≡ false → (b : Bool) → is_given m.state.durable.next_handle chunk ≡ b → b ≡ false
      before chunk out true is = absurd (false≢true (sym out ∙ stays_given_cut m.config heard chunk m.state t many d turn stand is))
      before chunk out false is = refl
  all_does_at given sent next old new messages moment posted (Keeps m after heard caller at there failed still same was answers) k =
      subst (MadeAt next) (sym same) (same_at sent next (as_left old) (λ place chunk. told_on place chunk moment nodes.Master messages sent next posted (replies_so place chunk messages (answers_reply m.state caller messages answers))) k)
  all_does_at given sent next old new messages moment posted (Arranges disk call is none) k =
      subst (λ p. MadeAt next (as_left p)) (sym is) (armed_at next (as_left old) (as_left (x.armed disk call old)) (armed_left x.seen old (x.armed disk call old) (given.armed disk call old))
      (same_at sent next (as_left old) (λ place chunk. told_on place chunk moment nodes.Master messages sent next posted (subst (MakeSo place chunk) (sym none) tt)) k))

  made_on : IsGiven x → (step : Step) (old mid : History D) → IsWell x old → StepsWithin x step old mid → MadeAt old.sent (as_left old.nodes.master) → MadeAt mid.sent (as_left mid.nodes.master)
  made_on given step old mid well one k = by_kind (kind_of x.seen x.failures x.armed step old mid one.goes (named x step old one.within well.types))
    where
      by_kind : Kind x.seen x.failures x.armed step old mid → MadeAt mid.sent (as_left mid.nodes.master)
      by_kind (OfServer id s after messages moment found goes met servers master posted) =
          subst (λ p. MadeAt mid.sent (as_left p)) (sym master) (same_at old.sent mid.sent (as_left old.nodes.master) (λ place chunk. told_still place chunk old.sent mid.sent (servers_say id moment messages old.sent mid.sent posted)) k)
      by_kind (Elsewhere by messages moment are servers master posted) =
          subst (λ p. MadeAt mid.sent (as_left p)) (sym master) (same_at old.sent mid.sent (as_left old.nodes.master) (λ place chunk. told_on place chunk moment by messages old.sent mid.sent posted (of_clients_so place chunk messages are)) k)
      by_kind (OfMaster spot messages moment goes servers master posted) =
          subst (λ p. MadeAt mid.sent (as_left p)) (sym master)
          (all_does_at given old.sent mid.sent old.nodes.master spot messages moment posted
          (masters_do_all x.seen x.failures x.armed old.nodes.config old.sent old.nodes.master spot messages (well_lasts x old well) (subst (λ p. Lasts x.seen (as_left p)) master (well_lasts x mid (step_well x given step old mid well one))) goes) k)

  made_over : IsGiven x → (steps : List Step) (old new : History D) (a b : Account) → Runs x steps old a new b → IsWell x old → MadeAt old.sent (as_left old.nodes.master) → MadeAt new.sent (as_left new.nodes.master)
  made_over given [] old new a b runs well k = subst (λ (h : History D). MadeAt h.sent (as_left h.nodes.master)) (sym runs.0) k
  made_over given (step ∷ steps) old new a b (mid, c, one, rest) well k = made_over given steps mid new c b rest (step_well x given step old mid well one.steps) (made_on given step old mid well one.steps k)

  -- in a new store nobody was told anything, and no call waits
  none_told : HaveSizes → (begun : History D) → IsGiven x → Begins x.seen x.failures x.armed x.config x.clients x.disks begun → (place : Option Place) (chunk : ℕ) → ToldSo begun.sent place chunk
  none_told sizes begun given begins place chunk message said =
      absurd (begins_none x.seen x.failures x.armed sizes x.config (λ req. []) x.clients x.disks begun given.new begins (λ (m : Message). ⊥) (record { sender = nodes.Master; place = said.0 }) message said.1)

  made_first : (sent : Sent) (spot : MasterPlace D) → ((place : Option Place) (chunk : ℕ) → ToldSo sent place chunk) → OpensAs x.seen start spot → MadeAt sent spot
  made_first sent spot none (after, is, state, firm) = subst (MadeAt sent) (sym is) (subst (AllNew (ToldSo sent)) (sym state) (record { waiting = tt; fresh = λ place chunk out. none place chunk }))

  pub made_there : HaveSizes → (now : History D) (a : Account) → IsReached x now a → MadeAt now.sent (as_left now.nodes.master)
  made_there sizes now a r =
      let given = r.begins.given in
      made_over given r.steps r.begun now r.first a r.runs (begins_well x given r.begun r.begins.begins)
      (subst (MadeAt r.begun.sent) (sym (left_so x.seen r.begun.nodes.master (begins_firm x.seen x.failures x.armed x.config x.clients x.disks r.begun given.new r.begins.begins)))
      (made_first r.begun.sent r.begun.nodes.master (none_told sizes r.begun given r.begins.begins) (begins_told x.seen x.failures x.armed x.config x.clients x.disks r.begun given.new r.begins.begins)))
