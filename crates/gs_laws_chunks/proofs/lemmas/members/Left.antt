-- A server that would name a chunk of a rollback has the text of the prepare live, and keeps it. So each member that the commit counts has it after the event at which it named the chunk.
use Rattle.std.proofs.Common.{◌≡◌, ◌∙◌, ◌+◌, ◌++◌, ◌<◌, ◌≤◌, ◌⊎◌, inl, inr, ℕ, Bool, true, false, List, [], ◌∷◌, None, Option, Some, refl, sym, ap, subst, slice_get, arith}
use Rattle.std.specs.Prelude.{◌||◌, is_some}
use Rattle.std.proofs.lemmas.Bool.{and_parts, false≢true}
use Rattle.std.specs.FinMap as fin
use Rattle.gs_base.specs.Members.{is_member}
use Rattle.gs_base.specs.Stamps.{is_before, is_same}
use Rattle.gs_base.specs.declared.epoch.EpochEnd.{EpochEnd}
use Rattle.gs_base.specs.declared.epoch.EpochEnd.TheVariants.{Prepare, Rollback}
use Rattle.gs_base.specs.declared.numbers.ReqId.{ReqId}
use Rattle.gs_block.specs.Written.{TellsApart}
use Rattle.gs_laws_chunk.proofs.lemmas.machine.Facts.{reached_world}
use Rattle.gs_laws_chunk.proofs.lemmas.machine.Resting.{born_first}
use Rattle.gs_laws_chunk.proofs.lemmas.machine.Worlds.{WorldOk, leads_later, leads_then, said}
use Rattle.gs_laws_chunk.specs.machine.Events.{IsFit, Rests}
use Rattle.gs_laws_chunk.specs.machine.Laws.{Birth}
use Rattle.gs_laws_chunk.specs.machine.Machine.{ChunkWorld, Epoch}
use Rattle.gs_laws_chunk.specs.machine.Rolling.{IsStillRolling}
use Rattle.gs_laws_chunk.specs.machine.Stamps as stamps
use Rattle.gs_laws_chunk.specs.machine.Stamps.{stamp_at}
use Rattle.gs_master_spec.specs.Chunks.{members_in}
use Rattle.gs_master_spec.specs.Applied.{view_in}
use Rattle.gs_master_spec.specs.Durable.{Settled, is_listed, is_ordinary, is_rolling, prepared_view}
use Rattle.gs_msg.specs.declared.body.Body.TheVariants as bodies
use Rattle.gs_msg.specs.declared.message.Message.{Message}
use Rattle.gs_msg.specs.declared.message.MsgId.{MsgId}
use Rattle.gs_msg.specs.declared.node.NodeId.TheVariants as nodes
use Rattle.gs_lease.specs.declared.view.View.{View}
use Rattle.gs_replica.specs.Stands.{Edit}
use Rattle.gs_server.specs.Runs.{slot_in}
use Rattle.gs_server.specs.Servers.{Server, named_at, place_of, store_of}
use Rattle.gs_laws_parts.proofs.lemmas.server.Stamps.{same_stamp, stamp_number, start_stamp}
use Rattle.gs_laws_parts.specs.server.Messages.{TellsEpochTo}
use Rattle.gs_laws_parts.specs.server.Requests.{Asked, IsOfOneEdit, bytes_in}
use Rattle.gs_laws_parts.specs.server.Showing.{SealUndamaged, Setting, ShowsImage, ShowsPlace}
use Rattle.gs_laws_parts.specs.server.Telling.{ServersTell, TellsBody}
use Rattle.gs_store.proofs.Laws.{not_before_itself}
use Rattle.gs_store.specs.Learning.{is_named, is_sound, start_of}
use Rattle.gs_store.specs.Slots.{sealed_of}
use Rattle.gs_store.specs.Standing.{LiveUndamaged}
use Rattle.gs_world.proofs.Reaching.{HaveSizes}
use Rattle.gs_world.proofs.Sending.{step_stays}
use Rattle.gs_world.specs.Histories.{History}
use Rattle.gs_world.specs.Runs.{StaySent, Step}
use Rattle.gs_world.specs.Sent.{IsSent, message_of}
use Rattle.gs_laws_chunks.proofs.lemmas.accounts.Agreeing.{lists_stay_on}
use Rattle.gs_laws_chunks.proofs.lemmas.accounts.Counted.{was_sent}
use Rattle.gs_laws_chunks.proofs.lemmas.accounts.Edits.{AreNumbered}
use Rattle.gs_laws_chunks.proofs.lemmas.accounts.Going.{upgrading_on}
use Rattle.gs_laws_chunks.proofs.lemmas.accounts.Holding.{SinceSeen, prepared_reached, reach_more, runs_of, runs_then, seen_since, since_seen}
use Rattle.gs_laws_chunks.proofs.lemmas.accounts.Keeping.{IsRollingAt, rolling_at}
use Rattle.gs_laws_chunks.proofs.lemmas.accounts.KeepingRuns.{sound_there}
use Rattle.gs_laws_chunks.proofs.lemmas.accounts.Leading.{StandsSo}
use Rattle.gs_laws_chunks.proofs.lemmas.accounts.LearnedSent.{AreOwn, HasLearned, learned_below, newly_learned}
use Rattle.gs_laws_chunks.proofs.lemmas.accounts.Reached.{run_stays}
use Rattle.gs_laws_chunks.proofs.lemmas.accounts.Runs.{NextSeen, keeps_told, seen_next}
use Rattle.gs_laws_chunks.proofs.lemmas.accounts.SeeingThrough.{SeesToThrough, each_sees_on_through, reached_well, sees_run_through}
use Rattle.gs_laws_chunks.proofs.lemmas.accounts.Spared.{StillLive}
use Rattle.gs_laws_chunks.proofs.lemmas.accounts.Staying.{IsStaying, spared_unharmed, staying_on}
use Rattle.gs_laws_chunks.proofs.lemmas.accounts.SurvivedOn.{fit_was}
use Rattle.gs_laws_chunks.proofs.lemmas.accounts.Surviving.{fits, still, was_then}
use Rattle.gs_laws_chunks.proofs.lemmas.accounts.Telling.{begins_so, stands_next}
use Rattle.gs_laws_chunks.proofs.lemmas.accounts.Well.{step_well}
use Rattle.gs_laws_chunks.specs.accounts.Accepting.{HasTaken, MembersHaveNamed, NamesChunk}
use Rattle.gs_laws_chunks.specs.accounts.Accounts.{Account, settled_edits, view_at}
use Rattle.gs_laws_chunks.specs.accounts.Back.{HasRolledBack}
use Rattle.gs_laws_chunks.specs.accounts.Joined.{SeenSince}
use Rattle.gs_laws_chunks.specs.accounts.Moving.{call_in, event_at}
use Rattle.gs_laws_chunks.specs.accounts.Running.{IsGiven, IsReached, Moves, Runs, Setup}
use Rattle.gs_laws_chunks.specs.accounts.Sealing.{IsLiveWith}
use Rattle.gs_laws_chunks.specs.accounts.SeenThrough.{SeesBothThrough}
use Rattle.gs_laws_chunks.specs.accounts.Upgrading.{IsUpgrading, RunsUpgraded, HarmsOrDropsNone, is_current, is_holder, is_harm_or_drop}
use Rattle.gs_laws_chunks.proofs.lemmas.members.Named.{named_slot}
use Rattle.gs_laws_chunks.proofs.lemmas.members.Texts.{text_there}
use Rattle.gs_laws_chunks.specs.members.Leaving.{HasNamed, HasSaid, KeepsOnTheWay, KeepsSince, NamersHaveTheText, RollbackLeavesMembers, SaysAt, HarmsOrDropsNoneWithin}
use Rattle.gs_laws_lift.proofs.lemmas.stores.AskingRuns.{of_one_edit, pushes_right}
use Rattle.gs_laws_lift.proofs.lemmas.stores.Running.{before as sent_before}
use Rattle.gs_laws_lift.specs.stores.Going.{AllSent}
use Rattle.gs_laws_lift.specs.stores.Left.{left_in}
use Rattle.gs_laws_lift.specs.stores.Saying.{PushRight}
use Rattle.gs_laws_lift.specs.stores.Showing.{setting}

two_ends : Prepare ≡ Rollback → ⊥
two_ends e = absurd (cc)

same_server : (o : Option Server) (s r : Server) → o ≡ Some s → o ≡ Some r → s ≡ r
same_server o s r one other = cc

same_message : (o : Option Message) (m n : Message) → o ≡ Some m → o ≡ Some n → m ≡ n
same_message o m n one other = cc

-- a view is told where a row is
view_there : (o : Option Settled) → is_some o ≡ true → (view : View) × (view_in o ≡ Some view)
view_there None some = absurd (false≢true some)
view_there (Some y) some = (y.view, refl)

-- ---- a server that would name the chunk, in a world on the way; and what it has in another one, to which the run goes on

module _ (sizes : HaveSizes) (law : AreNumbered) {D : Type 0} (x : Setup D) (prepared now : History D) (before after : Account) (upgrade : IsUpgrading x prepared before now after) (rolling : is_rolling after.durable.phase ≡ true) (chunk id : ℕ) (current : is_current before after chunk id ≡ true)
    (later : History D) (last : Account) (more : List Step) (onward : Runs x more now after later last) where
  listed : is_listed before.durable chunk ≡ true
  listed = (and_parts (is_listed before.durable chunk) (is_member (members_in (view_at before chunk)) id || is_holder id (prepared_view after.durable chunk)) current).0

  given : IsGiven x
  given = upgrade.reached.begins.given

  apart : TellsApart x.among
  apart = upgrade.reached.apart

  reached_then : IsReached x prepared before
  reached_then = prepared_reached sizes law x prepared now before after upgrade

  upgraded : Runs x upgrade.steps prepared before now after
  upgraded = runs_of x upgrade.steps prepared now before after upgrade.runs

  sees : SeesBothThrough x prepared before later last
  sees = each_sees_on_through sizes law x prepared later before last (upgrade.steps ++ more) reached_then (runs_then x upgrade.steps more prepared now later before after last upgraded onward)

  abbrev asked : ℕ → Asked
  asked = sees.asked

  abbrev bytes : ReqId → List ℕ
  bytes = bytes_in asked

  right_last : AllSent (PushRight bytes) later.sent
  right_last = pushes_right asked later sees.are

  one_last : AllSent (IsOfOneEdit asked) later.sent
  one_last = of_one_edit asked later sees.are

  stays_last : StaySent now.sent later.sent
  stays_last = run_stays x asked given more now later after last onward

  right_now : AllSent (PushRight bytes) now.sent
  right_now = sent_before x.seen x.failures x.armed (PushRight bytes) now.sent later.sent stays_last right_last

  one_now : AllSent (IsOfOneEdit asked) now.sent
  one_now = sent_before x.seen x.failures x.armed (IsOfOneEdit asked) now.sent later.sent stays_last one_last

  view : (v : View) × (view_at before chunk ≡ Some v)
  view = view_there (fin.get before.durable.chunks chunk) ((keeps_told x asked (left_in prepared) before sees.first).settled chunk listed)

  module _ (steps : List Step) (mid : History D) (c : Account) (up : IsUpgrading x prepared before mid c) (rest : RunsUpgraded x steps mid c now after) where
    runs : Runs x up.steps prepared before mid c
    runs = runs_of x up.steps prepared mid before c up.runs

    to_end : Runs x steps mid c now after
    to_end = runs_of x steps mid now c after rest

    stays : StaySent mid.sent now.sent
    stays = run_stays x asked given steps mid now c after to_end

    right : AllSent (PushRight bytes) mid.sent
    right = sent_before x.seen x.failures x.armed (PushRight bytes) mid.sent now.sent stays right_now

    one : AllSent (IsOfOneEdit asked) mid.sent
    one = sent_before x.seen x.failures x.armed (IsOfOneEdit asked) mid.sent now.sent stays one_now

    to_mid : SeesToThrough x asked given law prepared mid before c sees.first
    to_mid = sees_run_through x asked given law apart up.steps prepared mid before c sees.first (reached_well x prepared before reached_then) runs right one

    reached_mid : IsReached x mid c
    reached_mid = reach_more x prepared mid before c up.steps reached_then runs

    to_now : SeesToThrough x asked given law mid now c after to_mid.last
    to_now = sees_run_through x asked given law apart steps mid now c after to_mid.last (reached_well x mid c reached_mid) to_end right_now one_now

    here : SinceSeen sizes law x prepared mid before c up asked to_mid.last chunk
    here = since_seen sizes law x prepared mid before c up asked right one sees.first to_mid.last to_mid.on chunk listed

    next : NextSeen x bytes chunk (left_in mid) c (left_in now) after here.since.last (to_now.last.lives.life chunk)
    next = seen_next x asked (left_in mid) (left_in now) c after to_mid.last to_now.last apart chunk (to_now.on chunk) here.since.last here.lives

    abbrev p : ChunkWorld
    p = here.since.first.alive.world

    abbrev w : ChunkWorld
    w = here.since.last.alive.world

    abbrev v : ChunkWorld
    v = next.last.alive.world

    abbrev k : SeenSince x bytes chunk (left_in prepared) before (left_in now) after
    k = record {
      first = here.since.first;
      last = next.last;
      on = record {
        same = next.on.same ∙ here.since.on.same;
        leads = leads_then p w v here.since.on.leads next.on.leads;
        lists = lists_stay_on chunk before c after p w v here.since.first.alive.reached here.since.on.leads here.since.on.lists next.on.lists;
      };
      begun = here.since.begun;
      settled = here.since.settled;
      still = (seen_since sizes law x prepared now before after upgrade chunk listed).still;
    }

    okp : WorldOk p
    okp = reached_world p here.since.first.alive.reached

    ok : WorldOk w
    ok = reached_world w here.since.last.alive.reached

    okv : WorldOk v
    okv = reached_world v next.last.alive.reached

    rolls_now : v.entry.is_rolling ≡ true
    rolls_now = next.last.told.rolling ∙ rolling

    -- the epoch is the one after that of the prepare
    next_epoch : before.durable.epoch + 1 ≡ after.durable.epoch
    next_epoch = elim (still x bytes chunk (left_in prepared) before (left_in now) after k) [
      | inl y ↦
          absurd (
          let r = (okv.entry).rolling rolls_now in
          let same : before.durable.epoch ≡ r.e + 1 = y.0 ∙ (okv.entry).epoch ∙ r.next in
          two_ends (sym y.1 ∙ (okv.entry).how before.durable.epoch ∙ ap v.known.how same ∙ r.how)
          )
      | inr y ↦ y.0 ∙ next.last.told.epoch
    ]

    abbrev b : Birth
    b = here.since.last.alive.reached.0

    born_then : b.epoch ≤ before.durable.epoch
    born_then =
        let first = (born_first here.since.first.alive.reached.0 p here.since.first.alive.reached.1).current in
        let same : b.epoch ≡ here.since.first.alive.reached.0.epoch = ap (λ (y : Birth). y.epoch) here.since.on.same in
        let told : p.entry.epoch ≡ before.durable.epoch = here.since.first.told.epoch in omega arith

    -- it hears that the epoch is a rollback
    is_rollback : (epoch : ℕ) (end : EpochEnd) (message : Message) → epoch ≡ after.durable.epoch → IsSent message mid.sent → message.to ≡ nodes.Server id → message.body ≡ bodies.Epoch epoch end → end ≡ Rollback
    is_rollback epoch end message same (place, there) to body =
        let tells : ServersTell (setting x.config bytes b.epoch) chunk w message = here.since.last.alive.shows.sent place message there in
        let tells_end : TellsEpochTo b.epoch w (nodes.Server id) epoch end =
        subst (λ node. TellsEpochTo b.epoch w node epoch end) to (subst (λ y. TellsBody (setting x.config bytes b.epoch) chunk w message.from message.to y) body tells) in
        let low = born_then in
        let epochs = next_epoch in
        let told = said w ok id (Epoch epoch end) (tells_end (omega arith)) in
        let r = (okv.entry).rolling rolls_now in
        let at : epoch ≡ r.e + 1 = same ∙ sym next.last.told.epoch ∙ (okv.entry).epoch ∙ r.next in
        sym told.1 ∙ sym ((leads_later w v next.on.leads ok).how epoch told.0) ∙ ap v.known.how at ∙ r.how

    -- right after the prepare no server has learned of it yet
    none_yet : (s : Server) → slice_get prepared.nodes.servers id ≡ Some s → after.durable.epoch ≤ s.kept.epoch → ⊥
    none_yet s found high =
        let shows = here.since.first.alive.shows.members id s found in
        let first = (born_first here.since.first.alive.reached.0 p here.since.first.alive.reached.1).current in
        let told : p.entry.epoch ≡ before.durable.epoch = here.since.first.told.epoch in
        let epochs = next_epoch in
        let is : (p.members id).epoch ≡ s.kept.epoch = shows.epoch_is (omega arith) in
        let learned = (okp.seals id).learned in
        let current = (okp.entry).epoch in omega arith

    -- each server is in its place there
    own : AreOwn mid
    own i s found = (to_mid.last.lives.keeps.servers i s found).me

    abbrev e : ℕ
    e = before.durable.epoch

    module _ (s : Server) (found : slice_get mid.nodes.servers id ≡ Some s) (learned : s.kept.epoch ≡ after.durable.epoch) (named_there : is_named after.durable.epoch (slot_in chunk s) ≡ true) where
      abbrev set : Setting
      set = setting x.config bytes b.epoch

      shows : ShowsPlace set w.known s.kept.epoch (place_of chunk s) (w.members id)
      shows = here.since.last.alive.shows.members id s found

      member_is : (w.members id).epoch ≡ s.kept.epoch
      member_is = shows.epoch_is (let low = born_then in let epochs = next_epoch in omega arith)

      same_epoch : v.entry.epoch ≡ e + 1
      same_epoch = next.last.told.epoch ∙ sym next_epoch

      goes : IsRollingAt w e id
      goes = rolling_at w v ok next.on.leads rolls_now e id same_epoch (let at = member_is in let epochs = next_epoch in omega arith)

      rolls : w.entry.is_rolling ≡ true
      rolls = by_case w.entry.is_rolling refl
        where
          by_case : (t : Bool) → w.entry.is_rolling ≡ t → t ≡ true
          by_case true is = refl
          by_case false is =
              absurd (
              let here_now : w.known.current ≡ e + 1 = goes.current in
              let done : stamps.start_of (e + 1) ≤ w.known.view = (ok.entry).done is (e + 1) (omega arith) goes.how in
              let ahead : w.known.view < stamps.start_of (e + 1) = goes.ahead in omega arith
              )

      here_epoch : w.entry.epoch ≡ e + 1
      here_epoch = (ok.entry).epoch ∙ goes.current

      -- it can give the chunk back then, as it can at the commit
      fit_now : IsFit v.entry id
      fit_now = fits x bytes chunk (left_in prepared) before (left_in now) after k listed id (and_parts (is_listed before.durable chunk) (is_member (members_in (view_at before chunk)) id || is_holder id (prepared_view after.durable chunk)) current).1

      still_rolling : IsStillRolling w v
      still_rolling = record { first = rolls; still = rolls_now; same = same_epoch ∙ sym here_epoch }

      fit_here : IsFit w.entry id
      fit_here = fit_was w v here.since.last.alive.reached next.on.leads still_rolling (was_then x bytes chunk (left_in prepared) before (left_in now) after k listed) id fit_now

      -- it has a replica, of which no block is damaged
      named_is : is_named (e + 1) (slot_in chunk s) ≡ true
      named_is = subst (λ n. is_named n (slot_in chunk s) ≡ true) (sym next_epoch) named_there

      parts : (is_same (slot_in chunk s).promise (start_of (e + 1)) ≡ true) × (is_sound (slot_in chunk s).live ≡ true)
      parts = and_parts (is_same (slot_in chunk s).promise (start_of (e + 1))) (is_sound (slot_in chunk s).live) named_is

      live : (is_some (slot_in chunk s).live ≡ true) × LiveUndamaged (slot_in chunk s).live
      live = sound_there (slot_in chunk s).live parts.1

      slot_promise : (slot_in chunk s).promise ≡ start_of (e + 1)
      slot_promise = same_stamp (slot_in chunk s).promise (start_of (e + 1)) parts.0

      promise_is : (w.members id).promise ≡ stamps.start_of (e + 1)
      promise_is = stamp_number (w.members id).promise (stamps.start_of (e + 1)) (sym shows.promise ∙ slot_promise ∙ sym (start_stamp (e + 1)))

      -- nothing is sealed then
      unsealed : SealUndamaged (sealed_of (slot_in chunk s))
      unsealed = by_none (w.members id).image none shows.image
        where
          none : (w.members id).image ≡ None
          none = (ok.seals id).none (λ was_prepared. (let other : Rollback ≡ Prepare = sym goes.how ∙ ap w.known.how (sym goes.member) ∙ was_prepared in cc))

          by_none : (o : Option (List Edit)) → o ≡ None → ShowsImage set (slot_in chunk s) o → SealUndamaged (sealed_of (slot_in chunk s))
          by_none None is image = subst SealUndamaged (sym image) tt
          by_none (Some ys) is image = absurd (cc)

      staying : IsStaying x bytes chunk id e (left_in mid) w s
      staying = record {
        at = found;
        least = (let promise = promise_is in omega arith);
        within = (let current = goes.current in omega arith);
        how = goes.how;
        still = inr (record { live = live.0; whole = live.1; sealed = unsealed });
      }

      -- so it has the text of the prepare,
      has_text : IsLiveWith x.config.chunk (start_of after.durable.epoch) (settled_edits before chunk) (slot_in chunk s)
      has_text = subst (λ n. IsLiveWith x.config.chunk (start_of n) (settled_edits before chunk) (slot_in chunk s)) next_epoch
          (text_there x bytes chunk (left_in prepared) before (left_in mid) c here.since listed id fit_here rolls promise_is goes.current goes.how (left_in mid) c here.since.last Rests s found view.0 view.1
          (ap (is_before (start_of (e + 1))) slot_promise ∙ not_before_itself (start_of (e + 1))) live.0 live.1)

      -- and keeps it in each other one to which a run leads,
      keeps_at : (t : History D) (d : Account) → AllSent (PushRight bytes) t.sent → AllSent (IsOfOneEdit asked) t.sent → (all : List Step) (path : Runs x all mid c t d) → HarmsOrDropsNone x chunk id all mid c t d path → (r : Server) → slice_get t.nodes.servers id ≡ Some r
          → is_before (start_of after.durable.epoch) (slot_in chunk r).promise ≡ false → IsLiveWith x.config.chunk (start_of after.durable.epoch) (settled_edits before chunk) (slot_in chunk r)
      keeps_at t d right_t one_t all path spared r there below =
          let well = reached_well x mid c reached_mid in
          let to_last = sees_run_through x asked given law apart all mid t c d to_mid.last well path right_t one_t in
          let seen = seen_next x asked (left_in mid) (left_in t) c d to_mid.last to_last.last apart chunk (to_last.on chunk) here.since.last here.lives in
          let ends = staying_on law x asked given chunk id e apart all mid t c d to_mid.last well path right_t one_t here.since.last.alive here.lives s staying (spared_unharmed law x asked given chunk id e all mid c t d path spared) in
          let under : is_before (start_of (e + 1)) (slot_in chunk r).promise ≡ false = subst (λ n. is_before (start_of n) (slot_in chunk r).promise ≡ false) (sym next_epoch) below in
          let still_there = stays_at ends.0 r (same_server (slice_get t.nodes.servers id) ends.0 r ends.1 there) ends.2 under in
          subst (λ n. IsLiveWith x.config.chunk (start_of n) (settled_edits before chunk) (slot_in chunk r)) next_epoch
          (text_there x bytes chunk (left_in prepared) before (left_in mid) c here.since listed id fit_here rolls promise_is goes.current goes.how (left_in t) d seen.last seen.on.leads r there view.0 view.1 under still_there.live still_there.whole)
        where
          stays_at : (t r : Server) → t ≡ r → (is_before (start_of (e + 1)) (slot_in chunk t).promise ≡ true) ⊎ StillLive (slot_in chunk t) → is_before (start_of (e + 1)) (slot_in chunk r).promise ≡ false → StillLive (slot_in chunk r)
          stays_at t r same ends below = elim (subst (λ (q : Server). (is_before (start_of (e + 1)) (slot_in chunk q).promise ≡ true) ⊎ StillLive (slot_in chunk q)) same ends) [
            | inl above ↦ absurd (false≢true (sym below ∙ above))
            | inr still ↦ still
          ]

      -- be it after the commit
      keeps_text : (all : List Step) (path : Runs x all mid c later last) → HarmsOrDropsNone x chunk id all mid c later last path → (r : Server) → slice_get later.nodes.servers id ≡ Some r → is_before (start_of after.durable.epoch) (slot_in chunk r).promise ≡ false →
          IsLiveWith x.config.chunk (start_of after.durable.epoch) (settled_edits before chunk) (slot_in chunk r)
      keeps_text all path = keeps_at later last right_last one_last all path

      -- or on the way to it
      keeps_before : (left : List Step) (t : History D) (d : Account) → RunsUpgraded x left t d now after → (all : List Step) (path : Runs x all mid c t d) → HarmsOrDropsNone x chunk id all mid c t d path → (r : Server) → slice_get t.nodes.servers id ≡ Some r
          → is_before (start_of after.durable.epoch) (slot_in chunk r).promise ≡ false → IsLiveWith x.config.chunk (start_of after.durable.epoch) (settled_edits before chunk) (slot_in chunk r)
      keeps_before left t d others = (
          let still_sent : StaySent t.sent now.sent = run_stays x asked given left t now d after (runs_of x left t now d after others) in
          keeps_at t d (sent_before x.seen x.failures x.armed (PushRight bytes) t.sent now.sent still_sent right_now) (sent_before x.seen x.failures x.armed (IsOfOneEdit asked) t.sent now.sent still_sent one_now)
          )

-- ---- whoever would name the chunk

pub namers_have_the_text : HaveSizes → AreNumbered → {D : Type 0} (x : Setup D) → NamersHaveTheText x
namers_have_the_text sizes law x prepared now before after chunk server s up rolling current found learned named_there = (
  record { s = s; there = found; has = has_text sizes law x prepared now before after up rolling chunk server current now after [] (refl, refl) [] now after up (refl, refl) s found learned named_there },
  λ later b steps r path spared there below. keeps_text sizes law x prepared now before after up rolling chunk server current later b steps path [] now after up (refl, refl) s found learned named_there steps path spared r there below,
)

-- ---- a run on the way, and one after it

module _ {D : Type 0} (x : Setup D) (chunk id : ℕ) (now : History D) (after : Account) (more : List Step) (later : History D) (b : Account) where
  -- joined, and in both nothing is taken
  abbrev Joined : (steps : List Step) (mid : History D) (c : Account) → Type 0
  Joined steps mid c = (path : Runs x (steps ++ more) mid c later b) × HarmsOrDropsNone x chunk id (steps ++ more) mid c later b path

  abbrev Behind : History D → Account → Type 0
  Behind h a = (path : Runs x more h a later b) × HarmsOrDropsNone x chunk id more h a later b path

  joined : (steps : List Step) (mid : History D) (c : Account) (rest : RunsUpgraded x steps mid c now after) → HarmsOrDropsNoneWithin x chunk id steps mid c now after rest → Behind now after → Joined steps mid c
  joined [] mid c (is, same) kept behind = subst (λ h. Behind h c) is (subst (λ a. Behind now a) same behind)
  joined (step ∷ steps) mid c (next, d, moves, going, rest) kept behind = (let more_path = joined steps next d rest kept.1 behind in ((next, d, moves, more_path.0), (kept.0, more_path.1)))

-- ---- a run with a step more

module _ {D : Type 0} (x : Setup D) (chunk id : ℕ) (step : Step) (t u : History D) (d f : Account) (moves : Moves x step t d u f) (here : is_harm_or_drop (call_in chunk (event_at step t.sent id) (slice_get t.nodes.servers id)) ≡ false) where
  abbrev Longer : (all : List Step) (mid : History D) (c : Account) → Type 0
  Longer all mid c = (path : Runs x (all ++ step ∷ []) mid c u f) × HarmsOrDropsNone x chunk id (all ++ step ∷ []) mid c u f path

  longer : (all : List Step) (mid : History D) (c : Account) (path : Runs x all mid c t d) → HarmsOrDropsNone x chunk id all mid c t d path → Longer all mid c
  longer [] mid c (is, same) kept = subst (λ h. Longer [] h c) is (subst (λ a. Longer [] t a) same ((u, f, moves, (refl, refl)), (here, tt)))
  longer (first ∷ all) mid c (next, g, one, rest) kept = (let more = longer all next g rest kept.1 in ((next, g, one, more.0), (kept.0, more.1)))

-- ---- what a member has said

module _ (sizes : HaveSizes) (law : AreNumbered) {D : Type 0} (x : Setup D) (prepared now back : History D) (before after last : Account) (r : HasRolledBack x prepared before now after back last) (chunk id : ℕ) (current : is_current before after chunk id ≡ true) where
  rolling : is_rolling after.durable.phase ≡ true
  rolling = (and_parts (is_rolling after.durable.phase) (is_ordinary last.durable.phase) r.accepted).0

  given_then : IsGiven x
  given_then = r.upgrade.reached.begins.given

  -- in one of the worlds on the way it was sent already, and is taken later; or it is sent later
  record IsFound (steps : List Step) (old : History D) (a : Account) (rest : RunsUpgraded x steps old a now after) : Type 0 where
    place : MsgId
    message : Message
    names : NamesChunk after.durable.epoch chunk id message
    how : ((message_of old.sent place ≡ Some message) × HasTaken x (λ (m : Message). m ≡ message) steps old a now after rest) ⊎ HasSaid x prepared now back before after last r chunk id place message steps old a rest

  -- where it is sent
  says_at : (steps : List Step) (old mid : History D) (c : Account) (up : IsUpgrading x prepared before mid c) (rest : RunsUpgraded x steps mid c now after) (handles : List ℕ) (place : MsgId) (message : Message)
      → message_of old.sent place ≡ None → message_of mid.sent place ≡ Some message → HasLearned old mid id after.durable.epoch handles → is_member handles chunk ≡ true
      → StaySent old.sent mid.sent → SaysAt x prepared now back before after last r chunk id place message old mid × KeepsOnTheWay x prepared now back before after last r chunk id place message steps mid c rest × KeepsSince x prepared now back before after last r chunk id place message steps mid c rest
  says_at steps old mid c up rest handles place message none sent l member stay = (
    record { new = none; sent = sent; live = record { s = l.after; there = l.there; has = has_text sizes law x prepared now before after r.upgrade rolling chunk id current now after [] (refl, refl) steps mid c up rest l.after l.there l.epoch_is named_there } },
    on_way steps mid c rest [] (refl, refl) tt,
    λ later b more s path kept spared there below.
        let onward : Runs x (r.step ∷ more) now after later b = (back, last, r.moves, path) in
        let whole = joined x chunk id now after (r.step ∷ more) later b steps mid c rest kept (onward, spared) in
        keeps_text sizes law x prepared now before after r.upgrade rolling chunk id current later b (r.step ∷ more) onward steps mid c up rest l.after l.there l.epoch_is named_there (steps ++ r.step ∷ more) whole.0 whole.1 s there below,
  )
    where
      end : l.end ≡ Rollback
      end = is_rollback sizes law x prepared now before after r.upgrade rolling chunk id current now after [] (refl, refl) steps mid c up rest after.durable.epoch l.end l.heard refl (l.was_sent.0, stay l.was_sent.0 l.heard l.was_sent.1) l.to l.tells

      named_there : is_named after.durable.epoch (slot_in chunk l.after) ≡ true
      named_there = named_slot after.durable.epoch (store_of l.after) chunk (ap (λ hs. is_member hs chunk) (sym (l.names ∙ ap (λ n. named_at n after.durable.epoch (store_of l.after)) end)) ∙ member)

      on_way : (left : List Step) (t : History D) (d : Account) (others : RunsUpgraded x left t d now after) (all : List Step) (path : Runs x all mid c t d) → HarmsOrDropsNone x chunk id all mid c t d path → KeepsOnTheWay x prepared now back before after last r chunk id place message left t d others
      on_way [] t d others all path kept = tt
      on_way (step ∷ left) t d (u, f, moves, going, others) all path kept = λ here_kept.
          let more = longer x chunk id step t u d f moves here_kept all mid c path kept in (
            λ s there below. keeps_before sizes law x prepared now before after r.upgrade rolling chunk id current now after [] (refl, refl) steps mid c up rest l.after l.there l.epoch_is named_there left u f others (all ++ step ∷ []) more.0 more.1 s there below,
            on_way left u f others (all ++ step ∷ []) more.0 more.1,
          )

  found : (steps : List Step) (old : History D) (a : Account) (up : IsUpgrading x prepared before old a) (rest : RunsUpgraded x steps old a now after) → StandsSo x before.durable old → HasTaken x (NamesChunk after.durable.epoch chunk id) steps old a now after rest → IsFound steps old a rest
  found [] old a up rest s taken = absurd taken
  found (step ∷ steps) old a up (mid, c, moves, going, rest) s (inl ((message, heard, such, met_so), others)) =
      let was = was_sent step old.sent message heard in
      record { place = was.0; message = message; names = such; how = inl (was.1, inl ((message, heard, refl, met_so), others)) }
  found (step ∷ steps) old a up (mid, c, moves, going, rest) s (inr later) =
      let up_next = upgrading_on x prepared old mid before a c step up moves going in
      let f = found steps mid c up_next rest (stands_next x given_then before.durable step old mid a c moves going s) later in
      record {
        place = f.place;
        message = f.message;
        names = f.names;
        how = elim f.how [
          | inl (sent, taken) ↦ by_old f.place f.message f.names up_next sent taken (message_of old.sent f.place) refl
          | inr said_later ↦ inr (inr said_later)
        ];
      }
    where
      stay : StaySent old.sent mid.sent
      stay = step_stays x.seen x.failures x.armed step old mid moves.steps.goes

      own_here : AreOwn old
      own_here = own sizes law x prepared now before after r.upgrade rolling chunk id current now after [] (refl, refl) (step ∷ steps) old a up (mid, c, moves, going, rest)

      by_old : (place : MsgId) (message : Message) (names : NamesChunk after.durable.epoch chunk id message) (up_next : IsUpgrading x prepared before mid c) → message_of mid.sent place ≡ Some message → HasTaken x (λ (m : Message). m ≡ message) steps mid c now after rest → (o : Option Message) → message_of old.sent place ≡ o
          → ((message_of old.sent place ≡ Some message) × HasTaken x (λ (m : Message). m ≡ message) (step ∷ steps) old a now after (mid, c, moves, going, rest)) ⊎ HasSaid x prepared now back before after last r chunk id place message (step ∷ steps) old a (mid, c, moves, going, rest)
      by_old place message names up_next sent taken (Some m) there = inl (there ∙ ap Some (same_message (message_of mid.sent place) m message (stay place m there) sent), inr taken)
      by_old place message names up_next sent taken None none =
          let l = newly_learned x step old mid s.well (step_well x given_then step old mid s.well moves.steps) own_here moves.steps place message none sent id after.durable.epoch names.handles (record { from = names.from; says = names.says }) in
          let both = says_at steps old mid c up_next rest names.handles place message none sent l names.named stay in
          inr (inl (both.0, taken, both.1, both.2))

  first_up : IsUpgrading x prepared before prepared before
  first_up = record { old = r.upgrade.old; first = r.upgrade.first; reached = r.upgrade.reached; step = r.upgrade.step; moves = r.upgrade.moves; accepted = r.upgrade.accepted; steps = []; runs = (refl, refl) }

  pub has_named : HasTaken x (NamesChunk after.durable.epoch chunk id) r.upgrade.steps prepared before now after r.upgrade.runs → HasNamed x prepared now back before after last r chunk id
  has_named taken =
      let f = found r.upgrade.steps prepared before first_up r.upgrade.runs (begins_so x prepared now before after r.upgrade).stands taken in
      record {
        place = f.place;
        message = f.message;
        names = f.names;
        said = elim f.how [
          | inl (sent, counted) ↦ absurd (
              let l = learned_below x prepared before (prepared_reached sizes law x prepared now before after r.upgrade) f.message id after.durable.epoch f.names.handles (f.place, sent) (record { from = f.names.from; says = f.names.says }) in
              none_yet sizes law x prepared now before after r.upgrade rolling chunk id current now after [] (refl, refl) r.upgrade.steps prepared before first_up r.upgrade.runs l.0 l.1 l.2)
          | inr is_said ↦ is_said
        ];
      }

pub rollback_leaves_members : HaveSizes → AreNumbered → {D : Type 0} (x : Setup D) → MembersHaveNamed x → RollbackLeavesMembers x
rollback_leaves_members sizes law x members prepared now back before after last r chunk referred =
    let given = members prepared now back before after last r.step r.upgrade r.moves r.accepted chunk referred in record {
      given = given;
      each = λ server member. (let h = given.named server member in has_named sizes law x prepared now back before after last r chunk server h.0 h.1);
    }
