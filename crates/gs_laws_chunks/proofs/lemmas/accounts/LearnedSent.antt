-- A server says that it has learned of an epoch where it has heard of it, and then names what it has; and it has learned no less since.
use Rattle.std.proofs.Common.{◌≡◌, ◌∙◌, ◌≤◌, ◌+◌, inl, inr, ◌⊎◌, ℕ, Bool, true, false, cond, List, [], ◌∷◌, Option, Some, None, Result, Ok, Err, refl, sym, ap, subst, slice_get, slice_set, arith}
use Rattle.std.specs.Prelude.{◌==◌, nat_eq, option_map}
use Rattle.std.specs.FinMap as fin
use Rattle.std.specs.List.{AllByRecursion}
use Rattle.std.proofs.lemmas.Bool.{eqb-true, eq-eqb, false≢true}
use Rattle.gs_base.specs.declared.epoch.EpochEnd.{EpochEnd}
use Rattle.gs_base.specs.declared.numbers.Moment.{Moment}
use Rattle.gs_base.specs.declared.numbers.ReqId.{ReqId}
use Rattle.gs_base.specs.declared.numbers.Stamp.{Stamp}
use Rattle.gs_base.specs.declared.refusal.Refusal.{Refusal}
use Rattle.gs_base.specs.declared.refusal.Refusal.TheVariants as refusals
use Rattle.gs_msg.specs.declared.body.Body.{Body}
use Rattle.gs_msg.specs.declared.body.Body.TheVariants as bodies
use Rattle.gs_msg.specs.declared.chunk.Chunk.{Chunk}
use Rattle.gs_msg.specs.declared.message.Message.{Message}
use Rattle.gs_msg.specs.declared.message.MsgId.{MsgId}
use Rattle.gs_msg.specs.declared.node.NodeId.{NodeId}
use Rattle.gs_msg.specs.declared.node.NodeId.TheVariants as nodes
use Rattle.gs_nodes.specs.Nodes.{Nodes}
use Rattle.gs_server.specs.Places.{Here, Part, Place, SlotBecomes, SlotChange, SlotMarked, SlotStays, damaged_block, other_epoch, tells_bad}
use Rattle.gs_server.specs.Promises.{Copying, copies, make_copy, not_copied, or_copy}
use Rattle.gs_server.specs.Runs.{slot_in, unless_refused}
use Rattle.gs_server.specs.Servers.{Server, about_chunk, change_buffer, change_slot, handle_body, here_of, learned, leases_after, named_at, place_of, request_in, store_of, with_leases, with_store}
use Rattle.gs_server.specs.Servers as servers
use Rattle.gs_server_lease.specs.Leases.{PrimaryLease, is_over, reminds, tell}
use Rattle.gs_laws_parts.proofs.lemmas.server.Elsewhere.{IsOf, chunk_says, reminds_sent}
use Rattle.gs_laws_parts.proofs.lemmas.server.Lists.{all_flat}
use Rattle.gs_store.specs.Moves as moves
use Rattle.gs_store.specs.Slots.{Slot}
use Rattle.gs_store.specs.Slots as slots
use Rattle.gs_store.specs.Stores.{Store, set_slot}
use Rattle.gs_store.specs.Stores as stores
use Rattle.gs_world.specs.Histories.{Begins, History}
use Rattle.gs_world.specs.Runs.{Step}
use Rattle.gs_world.specs.Sent.{IsSent, Sent, message_of, none_sent}
use Rattle.gs_laws_chunks.proofs.lemmas.accounts.PostedAt.{posted_at}
use Rattle.gs_laws_chunks.proofs.lemmas.accounts.Told.{named}
use Rattle.gs_laws_chunks.specs.accounts.Accounts.{Account}
use Rattle.gs_laws_chunks.specs.accounts.Running.{IsGiven, IsReached, Runs, Setup, StepsWithin}
use Rattle.gs_laws_chunks.proofs.lemmas.accounts.MasterSays.{master_says}
use Rattle.gs_laws_lift.proofs.lemmas.stores.Beginning.{begins_silent, none_of, silent_at}
use Rattle.gs_laws_lift.proofs.lemmas.stores.Placing.{kind_of}
use Rattle.gs_laws_lift.proofs.lemmas.stores.Posting.{posted_all}
use Rattle.gs_laws_lift.proofs.lemmas.stores.Serving.{set_cases, set_found}
use Rattle.gs_laws_lift.specs.stores.Going.{AllSent, Beats, Damages, Elsewhere, Hears, Kind, Loses, OfMaster, OfServer, Restarts, ServerGoes, Ticks}
use Rattle.gs_laws_lift.specs.stores.Saying.{AreOfClient, AreOfMaster, IsOfClient, IsOfMaster}
use Rattle.gs_laws_chunks.proofs.lemmas.accounts.Intact.{set_other}
use Rattle.gs_laws_chunks.proofs.lemmas.accounts.Well.{IsWell, begins_well, step_well}

-- a server tells that it has learned of an epoch, and names these handles
pub record SaysLearned (message : Message) (id epoch : ℕ) (handles : List ℕ) : Type 0 where
  pub from : message.from ≡ nodes.Server id
  pub says : message.body ≡ bodies.Learned epoch handles

-- At a step: who says so newly stands behind it with that epoch, heard of it at that step, and names what it has.
pub record HasLearned {D : Type 0} (old new : History D) (id epoch : ℕ) (handles : List ℕ) : Type 0 where
  pub after : Server
  pub there : slice_get new.nodes.servers id ≡ Some after
  pub epoch_is : after.kept.epoch ≡ epoch
  pub end : EpochEnd
  pub heard : Message
  pub was_sent : IsSent heard old.sent
  pub to : heard.to ≡ nodes.Server id
  pub tells : heard.body ≡ bodies.Epoch epoch end
  pub names : handles ≡ named_at end epoch (store_of after)

-- ---- what tells nothing of that

abbrev IsQuiet : Body → Type 0
IsQuiet (bodies.Learned epoch handles) = ⊥
IsQuiet body = Unit {0}

abbrev AreQuiet : List Message → Type 0
AreQuiet messages = AllByRecursion (λ (m : Message). IsQuiet m.body) messages

never_quiet : (body : Body) (epoch : ℕ) (handles : List ℕ) → body ≡ bodies.Learned epoch handles → IsQuiet body → ⊥
never_quiet body epoch handles is quiet = subst IsQuiet is quiet

of_quiet : (tells : Bool) (handle : ℕ) (body : Body) → IsOf tells handle body → IsQuiet body
of_quiet tells handle (bodies.Learned epoch handles) of = absurd of
of_quiet tells handle body of = tt

all_of_quiet : (tells : Bool) (handle : ℕ) (messages : List Message) → AllByRecursion (λ (m : Message). IsOf tells handle m.body) messages → AreQuiet messages
all_of_quiet tells handle [] of = tt
all_of_quiet tells handle (m ∷ messages) of = (of_quiet tells handle m.body of.0, all_of_quiet tells handle messages of.1)

master_quiet : (body : Body) → IsOfMaster body → IsQuiet body
master_quiet (bodies.Learned epoch handles) of = absurd of
master_quiet body of = tt

of_master_quiet : (messages : List Message) → AreOfMaster messages → AreQuiet messages
of_master_quiet [] of = tt
of_master_quiet (m ∷ messages) of = (master_quiet m.body of.0, of_master_quiet messages of.1)

client_quiet : (body : Body) → IsOfClient body → IsQuiet body
client_quiet (bodies.Learned epoch handles) of = absurd of
client_quiet body of = tt

of_client_quiet : (messages : List Message) → AreOfClient messages → AreQuiet messages
of_client_quiet [] of = tt
of_client_quiet (m ∷ messages) of = (client_quiet m.body of.0, of_client_quiet messages of.1)

bad_quiet : (h : Here) (slot : Slot) (o : Option ℕ) → AreQuiet (tells_bad h slot o)
bad_quiet h slot None = tt
bad_quiet h slot (Some block) = (tt, tt)

copy_quiet : (h new : Here) (source target : Place) (stamp : Stamp) (o : Option Refusal) (m : Result Slot Refusal) → AreQuiet (or_copy o (not_copied h source new stamp) (copies h source new target stamp m)).target.sent
copy_quiet h new source target stamp (Some e) m = (tt, bad_quiet h source.slot (damaged_block e))
copy_quiet h new source target stamp None (Err e) = (tt, bad_quiet h source.slot (damaged_block e))
copy_quiet h new source target stamp None (Ok s) = (tt, tt)

about_quiet : (s : Server) (from : NodeId) (handle : ℕ) (said : Chunk) (moment : Moment) → AreQuiet (handle_body s from (bodies.About handle said) moment).sent
about_quiet s from handle said moment =
    let h : Here = here_of s moment handle (request_in said) in
    let part : Part = about_chunk h (place_of handle s) from said in
    all_of_quiet true handle part.sent (chunk_says h true (place_of handle s) from said (λ may. refl))

make_quiet : (s : Server) (from : NodeId) (handle : ℕ) (at : Stamp) (new_handle : ℕ) (stamp : Stamp) (moment : Moment) → AreQuiet (handle_body s from (bodies.MakeCopy handle at new_handle stamp) moment).sent
make_quiet s from handle at new_handle stamp moment =
    let h : Here = here_of s moment handle None in
    copy_quiet h (here_of s moment new_handle None) (place_of handle s) (place_of new_handle s) stamp (other_epoch h stamp.epoch) (moves.make_copy at stamp (place_of handle s).slot (place_of new_handle s).slot)

tick_quiet : (s : Server) (moment : Moment) → AreQuiet (servers.tick s moment).sent
tick_quiet s moment = all_flat (λ (m : Message). IsQuiet m.body) (λ (e : ℕ × PrimaryLease). cond (is_over moment e.1) [] (reminds s.me e.0 e.1)) (fin.entries s.dropped.leases) (λ e there. by_case e (is_over moment e.1))
  where
    by_case : (e : ℕ × PrimaryLease) (b : Bool) → AreQuiet (cond b [] (reminds s.me e.0 e.1))
    by_case e true = tt
    by_case e false = all_of_quiet false e.0 (reminds s.me e.0 e.1) (reminds_sent (here_of s moment e.0 None) false e.1 e.1.outbox)

-- ---- what a server tells of it where something happens at it

record Learns (sent : Sent) (id me : ℕ) (after : Server) (who epoch : ℕ) (handles : List ℕ) : Type 0 where
  own : me ≡ who
  epoch_is : after.kept.epoch ≡ epoch
  end : EpochEnd
  heard : Message
  was_sent : IsSent heard sent
  to : heard.to ≡ nodes.Server id
  tells : heard.body ≡ bodies.Epoch epoch end
  names : handles ≡ named_at end epoch (store_of after)

-- the next epoch is gone on to
abbrev goes_on_to : Server → ℕ → EpochEnd → Server
goes_on_to s epoch end = with_leases (leases_after end s.dropped.leases) (with_store (stores.learned epoch end (store_of s)) s)

-- what it comes to, by whether the epoch stands, or is the next one
abbrev comes_to : Server → ℕ → EpochEnd → Bool → Bool → servers.Step
comes_to s epoch end a b = cond a (learned s epoch end s) (cond b (learned s epoch end (goes_on_to s epoch end)) (record { after = s; sent = tell s.me nodes.Master (bodies.Behind s.kept.epoch) ∷ []; said = Some (refusals.Epoch s.kept.epoch) }))

module _ (sent : Sent) (id : ℕ) (s : Server) where
  abbrev SaysSo : Server → Message → Type 0
  SaysSo after message = (who epoch : ℕ) (handles : List ℕ) → SaysLearned message who epoch handles → Learns sent id s.me after who epoch handles

  abbrev AllSay : Server → List Message → Type 0
  AllSay after messages = AllByRecursion (SaysSo after) messages

  none_say : (after : Server) (messages : List Message) → AreQuiet messages → AllSay after messages
  none_say after [] quiet = tt
  none_say after (m ∷ messages) quiet = ((λ who epoch handles said. absurd (never_quiet m.body epoch handles said.says quiet.0)), none_say after messages quiet.1)

  says_it : (after : Server) (epoch : ℕ) (end : EpochEnd) (heard : Message) → IsSent heard sent → heard.to ≡ nodes.Server id → heard.body ≡ bodies.Epoch epoch end → after.kept.epoch ≡ epoch → SaysSo after (tell s.me nodes.Master (bodies.Learned epoch (named_at end epoch (store_of after))))
  says_it after epoch end heard was to is same who other handles said =
      let from : nodes.Server s.me ≡ nodes.Server who = said.from in
      let body : bodies.Learned epoch (named_at end epoch (store_of after)) ≡ bodies.Learned other handles = said.says in
      let one : epoch ≡ other = cc in
      let them : named_at end epoch (store_of after) ≡ handles = cc in record {
        own = cc;
        epoch_is = same ∙ one;
        end = end;
        heard = heard;
        was_sent = was;
        to = to;
        tells = is ∙ ap (λ n. bodies.Epoch n end) one;
        names = sym them ∙ ap (λ n. named_at end n (store_of after)) one;
      }

  learn_says : (epoch : ℕ) (end : EpochEnd) (heard : Message) → IsSent heard sent → heard.to ≡ nodes.Server id → heard.body ≡ bodies.Epoch epoch end → AllSay (servers.learn s epoch end).after (servers.learn s epoch end).sent
  learn_says epoch end heard was to is = by_case (epoch == s.kept.epoch) (epoch == s.kept.epoch + 1) refl
    where
      by_case : (a b : Bool) → (epoch == s.kept.epoch) ≡ a → AllSay (comes_to s epoch end a b).after (comes_to s epoch end a b).sent
      by_case true b same = (says_it s epoch end heard was to is (sym (eqb-true epoch s.kept.epoch same)), tt)
      by_case false true same = (says_it (goes_on_to s epoch end) epoch end heard was to is refl, tt)
      by_case false false same = none_say s (tell s.me nodes.Master (bodies.Behind s.kept.epoch) ∷ []) (tt, tt)

  body_says : (from : NodeId) (body : Body) (moment : Moment) (heard : Message) → IsSent heard sent → heard.to ≡ nodes.Server id → heard.body ≡ body → AllSay (handle_body s from body moment).after (handle_body s from body moment).sent
  body_says from (bodies.About handle said) moment heard was to is = none_say (handle_body s from (bodies.About handle said) moment).after (handle_body s from (bodies.About handle said) moment).sent (about_quiet s from handle said moment)
  body_says from (bodies.MakeCopy handle at new_handle stamp) moment heard was to is =
      none_say (handle_body s from (bodies.MakeCopy handle at new_handle stamp) moment).after (handle_body s from (bodies.MakeCopy handle at new_handle stamp) moment).sent (make_quiet s from handle at new_handle stamp moment)
  body_says from (bodies.Epoch epoch end) moment heard was to is = learn_says epoch end heard was to is
  body_says from (bodies.Push req bytes) moment heard was to is = tt
  body_says from (bodies.Call req call) moment heard was to is = tt
  body_says from (bodies.Reply req result) moment heard was to is = tt
  body_says from (bodies.Done req result) moment heard was to is = tt
  body_says from (bodies.Bytes req result) moment heard was to is = tt
  body_says from (bodies.Report epoch replicas) moment heard was to is = tt
  body_says from (bodies.Learned epoch handles) moment heard was to is = tt
  body_says from (bodies.Behind epoch) moment heard was to is = tt

  all_say : (after last : Server) (messages others : List Message) → last ≡ after → others ≡ messages → AllSay after messages → AllSay last others
  all_say after last messages others is sends say = subst (AllSay last) (sym sends) (subst (λ t. AllSay t messages) (sym is) say)

  goes_say : (after : Server) (messages : List Message) → ServerGoes sent id s after messages → AllSay after messages
  goes_say after messages (Hears message moment was to is sends) = all_say (servers.handle s message moment).after after (servers.handle s message moment).sent messages is sends (body_says message.from message.body moment message was to refl)
  goes_say after messages (Ticks moment is sends) = none_say after messages (subst AreQuiet (sym sends) (tick_quiet s moment))
  goes_say after messages (Beats is sends) = none_say after messages (subst AreQuiet (sym sends) (tt, tt))
  goes_say after messages (Restarts is sends) = none_say after messages (subst AreQuiet (sym sends) tt)
  goes_say after messages (Loses handle is sends) = none_say after messages (subst AreQuiet (sym sends) tt)
  goes_say after messages (Damages handle block is sends) = none_say after messages (subst AreQuiet (sym sends) tt)

-- ---- a step

-- each server is in its place
abbrev pub AreOwn : {D : Type 0} → History D → Type 0
AreOwn h = (id : ℕ) (s : Server) → slice_get h.nodes.servers id ≡ Some s → s.me ≡ id

module _ {D : Type 0} (x : Setup D) (step : Step) (old new : History D) (well : IsWell x old) (still : IsWell x new) (own : AreOwn old) (one : StepsWithin x step old new) where
  abbrev IsSaid : Message → Type 0
  IsSaid message = (id epoch : ℕ) (handles : List ℕ) → SaysLearned message id epoch handles → IsSent message old.sent ⊎ HasLearned old new id epoch handles

  none_said : (messages : List Message) → AreQuiet messages → AllByRecursion IsSaid messages
  none_said [] quiet = tt
  none_said (m ∷ messages) quiet = ((λ id epoch handles said. absurd (never_quiet m.body epoch handles said.says quiet.0)), none_said messages quiet.1)

  has_learned : (id : ℕ) (s after : Server) (who epoch : ℕ) (handles : List ℕ) → slice_get old.nodes.servers id ≡ Some s → new.nodes.servers ≡ slice_set old.nodes.servers id after → Learns old.sent id s.me after who epoch handles → HasLearned old new who epoch handles
  has_learned id s after who epoch handles found servers l =
      let same : id ≡ who = sym (own id s found) ∙ l.own in record {
        after = after;
        there = subst (λ n. slice_get new.nodes.servers n ≡ Some after) same (ap (λ xs. slice_get xs id) servers ∙ set_found old.nodes.servers id s after found);
        epoch_is = l.epoch_is;
        end = l.end;
        heard = l.heard;
        was_sent = l.was_sent;
        to = l.to ∙ ap nodes.Server same;
        tells = l.tells;
        names = l.names;
      }

  each_said : (id : ℕ) (s after : Server) (messages : List Message) → slice_get old.nodes.servers id ≡ Some s → new.nodes.servers ≡ slice_set old.nodes.servers id after → AllSay old.sent id s after messages → AllByRecursion IsSaid messages
  each_said id s after [] found servers say = tt
  each_said id s after (m ∷ messages) found servers say = ((λ who epoch handles said. inr (has_learned id s after who epoch handles found servers (say.0 who epoch handles said))), each_said id s after messages found servers say.1)

  were_said : AllSent IsSaid old.sent
  were_said at m there id epoch handles said = inl (at, there)

  all_said : Kind x.seen x.failures x.armed step old new → AllSent IsSaid new.sent
  all_said (OfServer id s after messages moment found goes met servers master posted) = posted_all IsSaid moment (nodes.Server id) messages old.sent new.sent posted were_said (each_said id s after messages found servers (goes_say old.sent id s after messages goes))
  all_said (OfMaster place messages moment goes servers master posted) =
      posted_all IsSaid moment nodes.Master messages old.sent new.sent posted were_said (none_said messages
      (of_master_quiet messages (master_says x old new place messages well still master goes)))
  all_said (Elsewhere by messages moment are servers master posted) = posted_all IsSaid moment by messages old.sent new.sent posted were_said (none_said messages (of_client_quiet messages are))

-- What stands newly at a place was said at this step.
module _ {D : Type 0} (x : Setup D) (step : Step) (old new : History D) (well : IsWell x old) (still : IsWell x new) (own : AreOwn old) (one : StepsWithin x step old new) where
  abbrev IsNewly : Message → Type 0
  IsNewly message = (id epoch : ℕ) (handles : List ℕ) → SaysLearned message id epoch handles → HasLearned old new id epoch handles

  none_newly : (messages : List Message) → AreQuiet messages → AllByRecursion IsNewly messages
  none_newly [] quiet = tt
  none_newly (m ∷ messages) quiet = ((λ id epoch handles said. absurd (never_quiet m.body epoch handles said.says quiet.0)), none_newly messages quiet.1)

  each_newly : (id : ℕ) (s after : Server) (messages : List Message) → slice_get old.nodes.servers id ≡ Some s → new.nodes.servers ≡ slice_set old.nodes.servers id after → AllSay old.sent id s after messages → AllByRecursion IsNewly messages
  each_newly id s after [] found servers say = tt
  each_newly id s after (m ∷ messages) found servers say =
      ((λ who epoch handles said. has_learned x step old new well still own one id s after who epoch handles found servers (say.0 who epoch handles said)), each_newly id s after messages found servers say.1)

  nothing : (place : MsgId) (message : Message) → message_of old.sent place ≡ None → message_of old.sent place ≡ Some message → IsNewly message
  nothing place message none there = absurd (no_message (message_of old.sent place) message none there)
    where
      no_message : (o : Option Message) (m : Message) → o ≡ None → o ≡ Some m → ⊥
      no_message o m none some = absurd (cc)

  newly_by : (place : MsgId) (message : Message) → message_of old.sent place ≡ None → message_of new.sent place ≡ Some message → Kind x.seen x.failures x.armed step old new → IsNewly message
  newly_by place message none sent (OfServer id s after messages moment found goes met servers master posted) =
      posted_at IsNewly moment (nodes.Server id) messages old.sent new.sent posted place message (nothing place message none) (each_newly id s after messages found servers (goes_say old.sent id s after messages goes)) sent
  newly_by place message none sent (OfMaster where_it_is messages moment goes servers master posted) =
      posted_at IsNewly moment nodes.Master messages old.sent new.sent posted place message (nothing place message none) (none_newly messages (of_master_quiet messages (master_says x old new where_it_is messages well still master goes))) sent
  newly_by place message none sent (Elsewhere by messages moment are servers master posted) =
      posted_at IsNewly moment by messages old.sent new.sent posted place message (nothing place message none) (none_newly messages (of_client_quiet messages are)) sent

pub newly_learned : {D : Type 0} (x : Setup D) (step : Step) (old new : History D) → IsWell x old → IsWell x new → AreOwn old → StepsWithin x step old new → (place : MsgId) (message : Message) → message_of old.sent place ≡ None → message_of new.sent place ≡ Some message →
    (id epoch : ℕ) (handles : List ℕ) → SaysLearned message id epoch handles → HasLearned old new id epoch handles
newly_learned x step old new well still own one place message none sent id epoch handles said =
    newly_by x step old new well still own one place message none sent (kind_of x.seen x.failures x.armed step old new one.goes (named x step old one.within well.types)) id epoch handles said

pub learned_at : {D : Type 0} (x : Setup D) (step : Step) (old new : History D) → IsWell x old → IsWell x new → AreOwn old → StepsWithin x step old new → (message : Message) (id epoch : ℕ) (handles : List ℕ) → IsSent message new.sent → SaysLearned message id epoch handles → IsSent message old.sent ⊎ HasLearned old new id epoch handles
learned_at x step old new well still own one message id epoch handles sent said = all_said x step old new well still own one (kind_of x.seen x.failures x.armed step old new one.goes (named x step old one.within well.types)) sent.0 message sent.1 id epoch handles said

-- ---- neither its number nor its epoch falls

-- the same server, which has learned no less
record GoesUp (s after : Server) : Type 0 where
  me : after.me ≡ s.me
  epoch : s.kept.epoch ≤ after.kept.epoch

still_up : (s after : Server) → after.me ≡ s.me → after.kept.epoch ≡ s.kept.epoch → GoesUp s after
still_up s after me epoch = record { me = me; epoch = omega arith }

set_epoch : (handle : ℕ) (t : Store) (o : Option Slot) → (set_slot handle t o).epoch ≡ t.epoch
set_epoch handle t None = refl
set_epoch handle t (Some slot) = refl

slot_epoch : (handle : ℕ) (change : SlotChange) (t : Store) → (change_slot handle change t).epoch ≡ t.epoch
slot_epoch handle SlotStays t = refl
slot_epoch handle (SlotBecomes slot) t = refl
slot_epoch handle (SlotMarked block) t = set_epoch handle t (option_map (slots.mark_bad block) (fin.get t.slots handle))

used_epoch : (req : ReqId) (used : Bool) (t : Store) → (change_buffer (Some req) used t).epoch ≡ t.epoch
used_epoch req true t = refl
used_epoch req false t = refl

buffer_epoch : (req : Option ReqId) (used : Bool) (t : Store) → (change_buffer req used t).epoch ≡ t.epoch
buffer_epoch None used t = refl
buffer_epoch (Some req) used t = used_epoch req used t

about_up : (s : Server) (from : NodeId) (handle : ℕ) (said : Chunk) (moment : Moment) → GoesUp s (handle_body s from (bodies.About handle said) moment).after
about_up s from handle said moment =
    let part : Part = about_chunk (here_of s moment handle (request_in said)) (place_of handle s) from said in
    still_up s (handle_body s from (bodies.About handle said) moment).after refl (buffer_epoch (request_in said) part.used (change_slot handle part.slot (store_of s)) ∙ slot_epoch handle part.slot (store_of s))

make_up : (s : Server) (handle new_handle : ℕ) (copying : Copying) → GoesUp s (servers.copies handle new_handle copying s).after
make_up s handle new_handle copying =
    still_up s (servers.copies handle new_handle copying s).after refl (slot_epoch new_handle copying.target.slot (store_of (with_store (change_slot handle copying.source (store_of s)) s)) ∙ slot_epoch handle copying.source (store_of s))

learn_up : (s : Server) (epoch : ℕ) (end : EpochEnd) → GoesUp s (servers.learn s epoch end).after
learn_up s epoch end = by_case (epoch == s.kept.epoch) (epoch == s.kept.epoch + 1) refl
  where
    by_case : (a b : Bool) → (epoch == s.kept.epoch + 1) ≡ b → GoesUp s (comes_to s epoch end a b).after
    by_case true b next = still_up s s refl refl
    by_case false true next = (let is : epoch ≡ s.kept.epoch + 1 = eqb-true epoch (s.kept.epoch + 1) next in record { me = refl; epoch = omega arith })
    by_case false false next = still_up s s refl refl

body_up : (s : Server) (from : NodeId) (body : Body) (moment : Moment) → GoesUp s (handle_body s from body moment).after
body_up s from (bodies.About handle said) moment = about_up s from handle said moment
body_up s from (bodies.MakeCopy handle at new_handle stamp) moment = make_up s handle new_handle (make_copy (here_of s moment handle None) (place_of handle s) at (here_of s moment new_handle None) (place_of new_handle s) stamp)
body_up s from (bodies.Epoch epoch end) moment = learn_up s epoch end
body_up s from (bodies.Push req bytes) moment = still_up s (handle_body s from (bodies.Push req bytes) moment).after refl refl
body_up s from (bodies.Call req call) moment = still_up s s refl refl
body_up s from (bodies.Reply req result) moment = still_up s s refl refl
body_up s from (bodies.Done req result) moment = still_up s s refl refl
body_up s from (bodies.Bytes req result) moment = still_up s s refl refl
body_up s from (bodies.Report epoch replicas) moment = still_up s s refl refl
body_up s from (bodies.Learned epoch handles) moment = still_up s s refl refl
body_up s from (bodies.Behind epoch) moment = still_up s s refl refl

put_up : (s : Server) (handle : ℕ) (m : Result Slot Refusal) → GoesUp s (unless_refused s (servers.in_store s (stores.put_slot handle (store_of s) m)))
put_up s handle (Ok slot) = still_up s (unless_refused s (servers.in_store s (stores.put_slot handle (store_of s) (Ok slot)))) refl refl
put_up s handle (Err e) = still_up s s refl refl

goes_up : (sent : Sent) (id : ℕ) (s after : Server) (messages : List Message) → ServerGoes sent id s after messages → GoesUp s after
goes_up sent id s after messages (Hears message moment was to is sends) = subst (GoesUp s) (sym is) (body_up s message.from message.body moment)
goes_up sent id s after messages (Ticks moment is sends) = subst (GoesUp s) (sym is) (still_up s (servers.tick s moment).after refl refl)
goes_up sent id s after messages (Beats is sends) = subst (GoesUp s) (sym is) (still_up s s refl refl)
goes_up sent id s after messages (Restarts is sends) = subst (GoesUp s) (sym is) (still_up s (servers.restart s) refl refl)
goes_up sent id s after messages (Loses handle is sends) = subst (GoesUp s) (sym is) (put_up s handle (slots.lose (slot_in handle s)))
goes_up sent id s after messages (Damages handle block is sends) = subst (GoesUp s) (sym is) (put_up s handle (slots.damage block (slot_in handle s)))

-- ---- so it is over a step

module _ {D : Type 0} (x : Setup D) (step : Step) (old new : History D) where
  own_on : AreOwn old → Kind x.seen x.failures x.armed step old new → AreOwn new
  own_on own (OfServer id s after messages moment found goes met servers master posted) j t at = elim (set_cases old.nodes.servers id j after t (subst (λ xs. slice_get xs j ≡ Some t) servers at)) [
    | inl here ↦ ap (λ (k : Server). k.me) here.1 ∙ (goes_up old.sent id s after messages goes).me ∙ own id s found ∙ sym here.0
    | inr there ↦ own j t there.1
  ]
  own_on own (OfMaster place messages moment goes servers master posted) j t at = own j t (subst (λ xs. slice_get xs j ≡ Some t) servers at)
  own_on own (Elsewhere by messages moment are servers master posted) j t at = own j t (subst (λ xs. slice_get xs j ≡ Some t) servers at)

  -- each server is there still, and has learned no less
  abbrev IsUp : ℕ → Server → Type 0
  IsUp id s = (t : Server) × (slice_get new.nodes.servers id ≡ Some t) × (s.kept.epoch ≤ t.kept.epoch)

  same_up : (id : ℕ) (s : Server) → new.nodes.servers ≡ old.nodes.servers → slice_get old.nodes.servers id ≡ Some s → IsUp id s
  same_up id s servers at = (s, subst (λ xs. slice_get xs id ≡ Some s) (sym servers) at, omega arith)

  up_on : Kind x.seen x.failures x.armed step old new → (id : ℕ) (s : Server) → slice_get old.nodes.servers id ≡ Some s → IsUp id s
  up_on (OfServer id s after messages moment found goes met servers master posted) j t at = by_place (nat_eq j id) refl
    where
      by_place : (b : Bool) → nat_eq j id ≡ b → IsUp j t
      by_place true is =
          let same : j ≡ id = eqb-true j id is in
          let one : s ≡ t = (let both : ◌≡◌ {A = Option Server} (Some s) (Some t) = sym found ∙ subst (λ n. slice_get old.nodes.servers n ≡ Some t) same at in cc) in (
            after,
            ap (λ xs. slice_get xs j) servers ∙ subst (λ n. slice_get (slice_set old.nodes.servers id after) n ≡ Some after) (sym same) (set_found old.nodes.servers id s after found),
            subst (λ (k : Server). k.kept.epoch ≤ after.kept.epoch) one (goes_up old.sent id s after messages goes).epoch,
          )
      by_place false is = (
        t,
        ap (λ xs. slice_get xs j) servers ∙ set_other old.nodes.servers id j after (λ same. false≢true (sym is ∙ eq-eqb j id same)) ∙ at,
        omega arith,
      )
  up_on (OfMaster place messages moment goes servers master posted) j t at = same_up j t servers at
  up_on (Elsewhere by messages moment are servers master posted) j t at = same_up j t servers at

-- ---- over runs

-- whatever a server has said that it has learned, it has learned no less
abbrev pub LearnedBelow : {D : Type 0} → History D → Type 0
LearnedBelow h = (message : Message) (id epoch : ℕ) (handles : List ℕ) → IsSent message h.sent → SaysLearned message id epoch handles → (s : Server) × (slice_get h.nodes.servers id ≡ Some s) × (epoch ≤ s.kept.epoch)

-- what stands of a store on the way
pub record IsLearned {D : Type 0} (x : Setup D) (h : History D) : Type 0 where
  pub well : IsWell x h
  pub own : AreOwn h
  pub below : LearnedBelow h

module _ {D : Type 0} (x : Setup D) (given : IsGiven x) where
  below_on : (step : Step) (old new : History D) → IsLearned x old → StepsWithin x step old new → LearnedBelow new
  below_on step old new l one message id epoch handles sent said = elim (learned_at x step old new l.well (step_well x given step old new l.well one) l.own one message id epoch handles sent said) [
    | inl before ↦ (
        let had = l.below message id epoch handles before said in
        let now = up_on x step old new (kind_of x.seen x.failures x.armed step old new one.goes (named x step old one.within l.well.types)) id had.0 had.1 in
        let least = had.2 in
        let up = now.2 in (now.0, now.1, omega arith)
        )
    | inr newly ↦ (let is = newly.epoch_is in (newly.after, newly.there, omega arith))
  ]

  pub step_learned : (step : Step) (old new : History D) → IsLearned x old → StepsWithin x step old new → IsLearned x new
  step_learned step old new l one = record {
    well = step_well x given step old new l.well one;
    own = own_on x step old new l.own (kind_of x.seen x.failures x.armed step old new one.goes (named x step old one.within l.well.types));
    below = below_on step old new l one;
  }

  pub runs_learned : (steps : List Step) (old : History D) (a : Account) (new : History D) (b : Account) → Runs x steps old a new b → IsLearned x old → IsLearned x new
  runs_learned [] old a new b (is, same) l = subst (IsLearned x) (sym is) l
  runs_learned (step ∷ steps) old a new b (mid, c, moves, rest) l = runs_learned steps mid c new b rest (step_learned step old mid l moves.steps)

  pub begins_learned : (begun : History D) → Begins x.seen x.failures x.armed x.config x.clients x.disks begun → IsLearned x begun
  begins_learned begun begins = record { well = begins_well x given begun begins; own = own_first; below = λ message id epoch handles sent said. absurd (none_sent_yet sent.0 message sent.1) }
    where
      none_sent_yet : AllSent (λ (m : Message). ⊥) begun.sent
      none_sent_yet = posted_all (λ (m : Message). ⊥) (record { 0 = 0 }) nodes.Master begins.turn.sent.items (none_sent x.config.servers x.clients) begun.sent (inl begins.sent) (none_of (λ (m : Message). ⊥) x.config.servers x.clients)
          (subst (AllByRecursion (λ (m : Message). ⊥)) (sym (begins_silent x.seen x.failures x.armed x.config x.clients x.disks begun given.new begins)) tt)

      own_first : AreOwn begun
      own_first id s at = ap (λ (t : Server). t.me) (silent_at x.config x.config.servers id s (subst (λ (n : Nodes D). slice_get n.servers id ≡ Some s) begins.nodes at))

pub reached_learned : {D : Type 0} (x : Setup D) (h : History D) (a : Account) → IsReached x h a → IsLearned x h
reached_learned x h a r = let given = r.begins.given in runs_learned x given r.steps r.begun r.first h a r.runs (begins_learned x given r.begun r.begins.begins)

pub learned_below : {D : Type 0} (x : Setup D) (h : History D) (a : Account) → IsReached x h a → LearnedBelow h
learned_below x h a r = (reached_learned x h a r).below
