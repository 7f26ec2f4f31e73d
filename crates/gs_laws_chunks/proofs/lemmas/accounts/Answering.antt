-- A survivor that has answered in the epoch of the rollback has named its chunk.
use Rattle.gs_laws_lift.specs.stores.Left.{left_in}
use Rattle.std.proofs.Common.{◌≡◌, ◌∙◌, ◌+◌, ◌<◌, ◌≤◌, inl, inr, ℕ, Bool, true, false, List, [], ◌∷◌, Some, refl, sym, ap, subst, slice_get, arith}
use Rattle.std.specs.Prelude.{Contains}
use Rattle.gs_base.specs.Members.{is_member}
use Rattle.gs_base.specs.declared.epoch.EpochEnd.{EpochEnd}
use Rattle.gs_base.specs.declared.epoch.EpochEnd.TheVariants.{Prepare, Rollback}
use Rattle.gs_base.specs.declared.numbers.ReqId.{ReqId}
use Rattle.gs_block.specs.Written.{TellsApart}
use Rattle.gs_laws_chunk.proofs.lemmas.machine.Facts.{reached_world}
use Rattle.gs_laws_chunk.proofs.lemmas.machine.Resting.{born_first}
use Rattle.gs_laws_chunk.proofs.lemmas.machine.Worlds.{WorldOk, leads_later, leads_then, said}
use Rattle.gs_laws_chunk.specs.machine.Laws.{Birth, IsSurvivor}
use Rattle.gs_laws_chunk.specs.machine.Laws as machine
use Rattle.gs_laws_chunk.specs.machine.Machine.{ChunkWorld, Epoch}
use Rattle.gs_laws_chunk.specs.machine.Stamps as stamps
use Rattle.gs_laws_parts.proofs.lemmas.master.Stamps.{of_member}
use Rattle.gs_master_spec.specs.Durable.{is_listed, is_rolling}
use Rattle.gs_msg.specs.declared.body.Body.TheVariants as bodies
use Rattle.gs_msg.specs.declared.message.Message.{Message}
use Rattle.gs_msg.specs.declared.node.NodeId.TheVariants as nodes
use Rattle.gs_server.specs.Servers.{Server, named_at, place_of, store_of}
use Rattle.gs_laws_parts.proofs.lemmas.server.Lists.{any_of}
use Rattle.gs_laws_parts.proofs.lemmas.server.Sealing.{survivor_named}
use Rattle.gs_laws_parts.specs.server.Messages.{TellsEpochTo}
use Rattle.gs_laws_parts.specs.server.Moving.{IsShown}
use Rattle.gs_laws_parts.specs.server.Requests.{Asked, IsOfOneEdit, bytes_in}
use Rattle.gs_laws_parts.specs.server.Showing.{Setting, ShowsPlace, setting_of}
use Rattle.gs_laws_parts.specs.server.Telling.{ServersTell, TellsBody}
use Rattle.gs_store.specs.Stores.{named}
use Rattle.gs_world.proofs.Reaching.{HaveSizes}
use Rattle.gs_world.proofs.Sending.{step_stays}
use Rattle.gs_world.specs.Histories.{History}
use Rattle.gs_world.specs.Runs.{StaySent, Step}
use Rattle.gs_world.specs.Sent.{IsSent}
use Rattle.gs_laws_chunks.specs.accounts.Accounts.{Account}
use Rattle.gs_laws_chunks.specs.accounts.Running.{IsGiven, IsReached, Runs, Setup, StepsWithin}
use Rattle.gs_laws_lift.proofs.lemmas.stores.AskingRuns.{of_one_edit, pushes_right}
use Rattle.gs_laws_lift.proofs.lemmas.stores.Running.{before as sent_before}
use Rattle.gs_laws_lift.proofs.lemmas.stores.Serving.{is_shown}
use Rattle.gs_laws_lift.specs.stores.Going.{AllSent}
use Rattle.gs_laws_lift.specs.stores.Saying.{PushRight}
use Rattle.gs_laws_lift.specs.stores.Showing.{setting}
use Rattle.gs_laws_chunks.proofs.lemmas.accounts.Agreeing.{lists_stay_on}
use Rattle.gs_laws_chunks.proofs.lemmas.accounts.Counted.{was_sent}
use Rattle.gs_laws_chunks.proofs.lemmas.accounts.Edits.{AreNumbered}
use Rattle.gs_laws_chunks.proofs.lemmas.accounts.Going.{upgrading_on}
use Rattle.gs_laws_chunks.proofs.lemmas.accounts.Holding.{SinceSeen, listed_then, prepared_reached, reach_more, runs_of, seen_since, sees_there, since_seen}
use Rattle.gs_laws_chunks.proofs.lemmas.accounts.Keeping.{IsRollingAt, rolling_at}
use Rattle.gs_laws_chunks.proofs.lemmas.accounts.Leading.{StandsSo}
use Rattle.gs_laws_chunks.proofs.lemmas.accounts.LearnedSent.{AreOwn, HasLearned, SaysLearned, learned_at, learned_below}
use Rattle.gs_laws_chunks.proofs.lemmas.accounts.Reached.{run_stays}
use Rattle.gs_laws_chunks.proofs.lemmas.accounts.Runs.{NextSeen, seen_next}
use Rattle.gs_laws_chunks.proofs.lemmas.accounts.SeeingThrough.{reached_well, SeesToThrough, sees_run_through}
use Rattle.gs_laws_chunks.proofs.lemmas.accounts.Surviving.{still, survivor}
use Rattle.gs_laws_chunks.proofs.lemmas.accounts.SurvivedOn.{survived}
use Rattle.gs_laws_chunks.proofs.lemmas.accounts.Telling.{begins_so, stands_next}
use Rattle.gs_laws_chunks.proofs.lemmas.accounts.Well.{IsWell, step_well}
use Rattle.gs_laws_chunks.specs.accounts.Accepting.{HasTaken, NamesChunk, OneSurvivorIsEnough, TellsLearned, WasNamed}
use Rattle.gs_laws_chunks.specs.accounts.Joined.{SeenSince}
use Rattle.gs_laws_chunks.specs.accounts.SeenThrough.{SeesBothThrough}
use Rattle.gs_laws_chunks.specs.accounts.Upgrading.{IsUpgrading, RunsUpgraded, Survives}

two_ends : Prepare ≡ Rollback → ⊥
two_ends e = absurd (cc)

-- ---- what a survivor has where it has learned of the rollback

module _ (sizes : HaveSizes) (law : AreNumbered) {D : Type 0} (x : Setup D) (prepared now : History D) (before after : Account) (upgrade : IsUpgrading x prepared before now after) (rolling : is_rolling after.durable.phase ≡ true) (chunk id : ℕ) (survives : Survives before after chunk id) where
  listed : is_listed before.durable chunk ≡ true
  listed = listed_then before after chunk id survives

  sees : SeesBothThrough x prepared before now after
  sees = sees_there sizes law x prepared now before after upgrade

  abbrev asked : ℕ → Asked
  asked = sees.asked

  abbrev bytes : ReqId → List ℕ
  bytes = bytes_in asked

  given : IsGiven x
  given = upgrade.reached.begins.given

  apart : TellsApart x.among
  apart = upgrade.reached.apart

  reached_then : IsReached x prepared before
  reached_then = prepared_reached sizes law x prepared now before after upgrade

  right_now : AllSent (PushRight bytes) now.sent
  right_now = pushes_right asked now sees.are

  one_now : AllSent (IsOfOneEdit asked) now.sent
  one_now = of_one_edit asked now sees.are

  -- what it has said of the epoch names the chunk
  abbrev AllName : History D → Type 0
  AllName h = (message : Message) (handles : List ℕ) → IsSent message h.sent → SaysLearned message id after.durable.epoch handles → is_member handles chunk ≡ true

  -- a world on the way
  module _ (steps : List Step) (mid : History D) (c : Account) (up : IsUpgrading x prepared before mid c) (rest : RunsUpgraded x steps mid c now after) where
    runs : Runs x up.steps prepared before mid c
    runs = runs_of x up.steps prepared mid before c up.runs

    later : Runs x steps mid c now after
    later = runs_of x steps mid now c after rest

    stays : StaySent mid.sent now.sent
    stays = run_stays x asked given steps mid now c after later

    right : AllSent (PushRight bytes) mid.sent
    right = sent_before x.seen x.failures x.armed (PushRight bytes) mid.sent now.sent stays right_now

    one : AllSent (IsOfOneEdit asked) mid.sent
    one = sent_before x.seen x.failures x.armed (IsOfOneEdit asked) mid.sent now.sent stays one_now

    to_mid : SeesToThrough x asked given law prepared mid before c sees.first
    to_mid = sees_run_through x asked given law apart up.steps prepared mid before c sees.first (reached_well x prepared before reached_then) runs right one

    reached_mid : IsReached x mid c
    reached_mid = reach_more x prepared mid before c up.steps reached_then runs

    to_now : SeesToThrough x asked given law mid now c after to_mid.last
    to_now = sees_run_through x asked given law apart steps mid now c after to_mid.last (reached_well x mid c reached_mid) later right_now one_now

    here : SinceSeen sizes law x prepared mid before c up asked to_mid.last chunk
    here = since_seen sizes law x prepared mid before c up asked right one sees.first to_mid.last to_mid.on chunk listed

    next : NextSeen x bytes chunk (left_in mid) c (left_in now) after here.since.last (to_now.last.lives.life chunk)
    next = seen_next x asked (left_in mid) (left_in now) c after to_mid.last to_now.last apart chunk (to_now.on chunk) here.since.last here.lives

    abbrev p : ChunkWorld
    p = here.since.first.alive.world

    abbrev w : ChunkWorld
    w = here.since.last.alive.world

    abbrev v : ChunkWorld
    v = next.last.alive.world

    abbrev k : SeenSince x bytes chunk (left_in prepared) before (left_in now) after
    k = record {
      first = here.since.first;
      last = next.last;
      on = record {
        same = next.on.same ∙ here.since.on.same;
        leads = leads_then p w v here.since.on.leads next.on.leads;
        lists = lists_stay_on chunk before c after p w v here.since.first.alive.reached here.since.on.leads here.since.on.lists next.on.lists;
      };
      begun = here.since.begun;
      settled = here.since.settled;
      still = (seen_since sizes law x prepared now before after upgrade chunk listed).still;
    }

    survivor_now : IsSurvivor v id
    survivor_now = survivor x bytes chunk (left_in prepared) before (left_in now) after k listed id survives

    up_here : machine.IsUpgrading w before.durable.epoch
    up_here = still x bytes chunk (left_in prepared) before (left_in mid) c here.since

    okp : WorldOk p
    okp = reached_world p here.since.first.alive.reached

    ok : WorldOk w
    ok = reached_world w here.since.last.alive.reached

    okv : WorldOk v
    okv = reached_world v next.last.alive.reached

    rolls_now : v.entry.is_rolling ≡ true
    rolls_now = next.last.told.rolling ∙ rolling

    -- the epoch is the one behind that of the prepare
    next_epoch : before.durable.epoch + 1 ≡ after.durable.epoch
    next_epoch = elim (still x bytes chunk (left_in prepared) before (left_in now) after k) [
      | inl y ↦
          absurd (
          let r = (okv.entry).rolling rolls_now in
          let same : before.durable.epoch ≡ r.e + 1 = y.0 ∙ (okv.entry).epoch ∙ r.next in
          two_ends (sym y.1 ∙ (okv.entry).how before.durable.epoch ∙ ap v.known.how same ∙ r.how)
          )
      | inr y ↦ y.0 ∙ next.last.told.epoch
    ]

    abbrev b : Birth
    b = here.since.last.alive.reached.0

    born_then : b.epoch ≤ before.durable.epoch
    born_then =
        let first = (born_first here.since.first.alive.reached.0 p here.since.first.alive.reached.1).current in
        let same : b.epoch ≡ here.since.first.alive.reached.0.epoch = ap (λ (y : Birth). y.epoch) here.since.on.same in
        let told : p.entry.epoch ≡ before.durable.epoch = here.since.first.told.epoch in omega arith

    -- it hears that the epoch is a rollback
    is_rollback : (epoch : ℕ) (end : EpochEnd) (message : Message) → epoch ≡ after.durable.epoch → IsSent message mid.sent → message.to ≡ nodes.Server id → message.body ≡ bodies.Epoch epoch end → end ≡ Rollback
    is_rollback epoch end message same (place, there) to body =
        let tells : ServersTell (setting x.config bytes b.epoch) chunk w message = here.since.last.alive.shows.sent place message there in
        let tells_end : TellsEpochTo b.epoch w (nodes.Server id) epoch end =
        subst (λ node. TellsEpochTo b.epoch w node epoch end) to (subst (λ y. TellsBody (setting x.config bytes b.epoch) chunk w message.from message.to y) body tells) in
        let low = born_then in
        let epochs = next_epoch in
        let told = said w ok id (Epoch epoch end) (tells_end (omega arith)) in
        let r = (okv.entry).rolling rolls_now in
        let at : epoch ≡ r.e + 1 = same ∙ sym next.last.told.epoch ∙ (okv.entry).epoch ∙ r.next in
        sym told.1 ∙ sym ((leads_later w v next.on.leads ok).how epoch told.0) ∙ ap v.known.how at ∙ r.how

    module _ (s : Server) (found : slice_get mid.nodes.servers id ≡ Some s) (learned : s.kept.epoch ≡ after.durable.epoch) where
      abbrev set : Setting
      set = setting x.config bytes b.epoch

      shows : ShowsPlace set w.known s.kept.epoch (place_of chunk s) (w.members id)
      shows = here.since.last.alive.shows.members id s found

      member_is : (w.members id).epoch ≡ s.kept.epoch
      member_is = shows.epoch_is (let low = born_then in let epochs = next_epoch in omega arith)

      same_epoch : v.entry.epoch ≡ before.durable.epoch + 1
      same_epoch = next.last.told.epoch ∙ sym next_epoch

      goes : IsRollingAt w before.durable.epoch id
      goes = rolling_at w v ok next.on.leads rolls_now before.durable.epoch id same_epoch (let at = member_is in let epochs = next_epoch in omega arith)

      rolls : w.entry.is_rolling ≡ true
      rolls = by_case w.entry.is_rolling refl
        where
          by_case : (t : Bool) → w.entry.is_rolling ≡ t → t ≡ true
          by_case true is = refl
          by_case false is =
              absurd (
              let current : w.known.current ≡ before.durable.epoch + 1 = goes.current in
              let done : stamps.start_of (before.durable.epoch + 1) ≤ w.known.view = (ok.entry).done is (before.durable.epoch + 1) (omega arith) goes.how in
              let ahead : w.known.view < stamps.start_of (before.durable.epoch + 1) = goes.ahead in omega arith
              )

      here_epoch : w.entry.epoch ≡ before.durable.epoch + 1
      here_epoch = (ok.entry).epoch ∙ goes.current

      survivor_then : IsSurvivor w id
      survivor_then = survived w v here.since.last.alive.reached next.on.leads (record { first = rolls; still = rolls_now; same = same_epoch ∙ sym here_epoch }) survivor_now.known id (goes.member ∙ sym here_epoch) survivor_now

      me : s.me ≡ id
      me = (here.since.last.keeps.servers id s found).me

      shown : IsShown (setting_of bytes b.epoch s) chunk w s
      shown = is_shown x.seen x.config bytes b.epoch chunk (left_in mid) w here.since.last.alive.reached (record { members = here.since.last.alive.shows.members; sent = here.since.last.alive.shows.sent }) here.since.last.keeps here.since.last.apart id s found

      -- it has what it names
      has_it : Contains (named s.kept.epoch (store_of s)) chunk
      has_it = survivor_named b w here.since.last.alive.reached.1 (setting_of bytes b.epoch s) chunk s refl shown.shows before.durable.epoch up_here rolls (subst (IsSurvivor w) (sym me) survivor_then) (learned ∙ sym next_epoch ∙ sym here_epoch)

      names_it : is_member (named s.kept.epoch (store_of s)) chunk ≡ true
      names_it = sym (of_member (named s.kept.epoch (store_of s)) chunk) ∙ any_of (named s.kept.epoch (store_of s)) chunk has_it

    -- each server is in its place there
    own : AreOwn mid
    own i s found = (to_mid.last.lives.keeps.servers i s found).me

    -- right behind the prepare no server has learned of it yet
    none_yet : (s : Server) → slice_get prepared.nodes.servers id ≡ Some s → after.durable.epoch ≤ s.kept.epoch → ⊥
    none_yet s found high =
        let shows = here.since.first.alive.shows.members id s found in
        let first = (born_first here.since.first.alive.reached.0 p here.since.first.alive.reached.1).current in
        let told : p.entry.epoch ≡ before.durable.epoch = here.since.first.told.epoch in
        let epochs = next_epoch in
        let is : (p.members id).epoch ≡ s.kept.epoch = shows.epoch_is (omega arith) in
        let learned = (okp.seals id).learned in
        let current = (okp.entry).epoch in omega arith

    -- and behind a step what it has said of that epoch names the chunk, if it did before
    names_next : (step : Step) (old : History D) → IsWell x old → AreOwn old → StepsWithin x step old mid → AllName old → AllName mid
    names_next step old well own_old goes named_before message handles sent tells = elim (learned_at x step old mid well (step_well x given step old mid well goes) own_old goes message id after.durable.epoch handles sent tells) [
      | inl was ↦ named_before message handles was tells
      | inr l ↦ newly l
    ]
      where
        newly : HasLearned old mid id after.durable.epoch handles → is_member handles chunk ≡ true
        newly l =
            let end : l.end ≡ Rollback = is_rollback after.durable.epoch l.end l.heard refl (l.was_sent.0, step_stays x.seen x.failures x.armed step old mid goes.goes l.was_sent.0 l.heard l.was_sent.1) l.to l.tells in
            ap (λ hs. is_member hs chunk) (l.names ∙ ap (λ e. named_at e after.durable.epoch (store_of l.after)) end)
            ∙ subst (λ n. is_member (named n (store_of l.after)) chunk ≡ true) l.epoch_is (names_it l.after l.there l.epoch_is)

  -- ---- over the run

  first : IsUpgrading x prepared before prepared before
  first = record { old = upgrade.old; first = upgrade.first; reached = upgrade.reached; step = upgrade.step; moves = upgrade.moves; accepted = upgrade.accepted; steps = []; runs = (refl, refl) }

  names_first : AllName prepared
  names_first message handles sent tells =
      let l = learned_below x prepared before reached_then message id after.durable.epoch handles sent tells in
      absurd (none_yet upgrade.steps prepared before first upgrade.runs l.0 l.1 l.2)

  answered : (steps : List Step) (old : History D) (a : Account) (up : IsUpgrading x prepared before old a) (rest : RunsUpgraded x steps old a now after) → StandsSo x before.durable old → AllName old
      → HasTaken x (TellsLearned after.durable.epoch id) steps old a now after rest → HasTaken x (NamesChunk after.durable.epoch chunk id) steps old a now after rest
  answered [] old a up rest s names taken = absurd taken
  answered (step ∷ steps) old a up (mid, c, moves, going, rest) s names (inl ((message, found, such, met_so), others)) = inl (
    (
      message,
      found,
      record { handles = such.handles; from = such.from; says = such.says; named = names message such.handles (was_sent step old.sent message found) (record { from = such.from; says = such.says }) },
      met_so,
    ),
    others,
  )
  answered (step ∷ steps) old a up (mid, c, moves, going, rest) s names (inr later) =
      let up_next = upgrading_on x prepared old mid before a c step up moves going in
      inr (answered steps mid c up_next rest (stands_next x given before.durable step old mid a c moves going s)
      (names_next steps mid c up_next rest step old s.well (own (step ∷ steps) old a up (mid, c, moves, going, rest)) moves.steps names) later)

  pub was_named : HasTaken x (TellsLearned after.durable.epoch id) upgrade.steps prepared before now after upgrade.runs → WasNamed x prepared before now after upgrade chunk
  was_named taken = (id, survives.current, answered upgrade.steps prepared before first upgrade.runs (begins_so x prepared now before after upgrade).stands names_first taken)

pub one_survivor_is_enough : HaveSizes → AreNumbered → {D : Type 0} (x : Setup D) → OneSurvivorIsEnough x
one_survivor_is_enough sizes law x prepared now before after upgrade rolling each chunk more =
    let h = each chunk more in was_named sizes law x prepared now before after upgrade rolling chunk h.0 h.1 h.2
