-- What sound replicas of members have, right behind a prepare and right behind the commit of its rollback, over runs with their accounts.
use Rattle.gs_laws_lift.specs.stores.Left.{left_in}
use Rattle.std.proofs.Common.{inl, inr, ap, refl, subst, sym, ◌++◌, ◌&&◌, ◌≡◌, ◌∙◌, [], ◌∷◌, List, None, Option, Some, false, true, ℕ}
use Rattle.std.specs.Prelude.{is_some}
use Rattle.std.proofs.lemmas.Bool.{false≢true}
use Rattle.std.specs.FinMap as fin
use Rattle.gs_base.specs.Members.{is_member}
use Rattle.gs_base.specs.declared.numbers.ReqId.{ReqId}
use Rattle.gs_laws_chunk.proofs.lemmas.machine.Committed.{masters_commit}
use Rattle.gs_laws_chunk.proofs.lemmas.machine.Facts.{reached_world}
use Rattle.gs_laws_chunk.proofs.lemmas.machine.Lasting.{agrees}
use Rattle.gs_laws_chunk.specs.machine.Machine.{ChunkWorld}
use Rattle.gs_laws_chunk.specs.machine.Stamps.{stamp_at}
use Rattle.gs_lease.specs.declared.view.View.{View}
use Rattle.gs_laws_parts.specs.master.Showing.{primary_of}
use Rattle.gs_laws_master.specs.Promises.{IsKept}
use Rattle.gs_laws_moves.specs.moves.Epochs.{rolls_back}
use Rattle.gs_master_record.specs.declared.checkpoint.Phase.{Phase}
use Rattle.gs_master_record.specs.declared.checkpoint.Phase.TheVariants.{Ordinary, Rolling, Upgrade}
use Rattle.gs_master_spec.specs.Applied.{view_in}
use Rattle.gs_master_spec.specs.Durable.{Durable, is_listed, is_ordinary, is_rolling, is_upgrade}
use Rattle.gs_laws_parts.proofs.lemmas.server.Stamps.{start_stamp}
use Rattle.gs_laws_parts.specs.server.Requests.{Asked, IsOfOneEdit, bytes_in}
use Rattle.gs_store.specs.Learning.{start_of}
use Rattle.gs_world.proofs.Reaching.{HaveSizes}
use Rattle.gs_world.specs.Histories.{History}
use Rattle.gs_world.specs.Runs.{Step}
use Rattle.gs_laws_chunks.specs.accounts.Accounts.{Account, settled_edits, text_of, view_at}
use Rattle.gs_laws_chunks.specs.accounts.Running.{IsGiven, IsReached, Moves, Runs, Setup}
use Rattle.gs_laws_chunks.proofs.lemmas.accounts.Durables.{told_is_had}
use Rattle.gs_laws_chunks.proofs.lemmas.accounts.Edits.{AreNumbered}
use Rattle.gs_laws_chunks.proofs.lemmas.accounts.Holding.{SinceSeen, given_there, lives_on, prepared_reached, reach_more, runs_of, runs_then, since_seen}
use Rattle.gs_laws_chunks.proofs.lemmas.accounts.Intact.{told_same}
use Rattle.gs_laws_chunks.proofs.lemmas.accounts.Reached.{run_stays}
use Rattle.gs_laws_chunks.proofs.lemmas.accounts.Runs.{keeps_told, living_told, seen_of}
use Rattle.gs_laws_chunks.proofs.lemmas.accounts.SeeingThrough.{reached_well, SeesNextThrough, SeesToThrough, each_sees_on_through, sees_run_through, sees_step_through}
use Rattle.gs_laws_chunks.proofs.lemmas.accounts.Viewing.{told_view}
use Rattle.gs_laws_chunks.specs.accounts.Joined.{IsSeen, SeenSince}
use Rattle.gs_laws_chunks.specs.accounts.Seeing.{Sees}
use Rattle.gs_laws_chunks.specs.accounts.SeenThrough.{SeesBothThrough}
use Rattle.gs_laws_chunks.specs.accounts.Upgrading.{IsUpgrading}
use Rattle.gs_laws_lift.proofs.lemmas.stores.AskingRuns.{of_one_edit, pushes_right}
use Rattle.gs_laws_lift.proofs.lemmas.stores.Running.{before}
use Rattle.gs_laws_lift.specs.stores.Going.{AllSent, heard_in}
use Rattle.gs_laws_lift.specs.stores.Joint.{AtMaster, AtServer, ByMaster, Elsewhere, GoesBy}
use Rattle.gs_laws_lift.specs.stores.Living.{GoesOn, LivesOn}
use Rattle.gs_laws_lift.specs.stores.Saying.{PushRight}
use Rattle.gs_laws_lift.specs.stores.Showing.{IsAlive, Life}
use Rattle.gs_laws_chunks.proofs.lemmas.accounts.Bytes.{calm_back, free_back, free_prepared, list_back, rolls as rolls_on, settled_there, stamp_back, text_there}
use Rattle.gs_laws_chunks.specs.accounts.Back.{HasBytes, IsMemberAt}

never_both : (phase : Phase) → (is_rolling phase && is_ordinary phase) ≡ false
never_both Ordinary = refl
never_both Upgrade = refl
never_both Rolling = refl

upgrade_calm : (phase : Phase) → is_upgrade phase ≡ true → is_rolling phase ≡ false
upgrade_calm Ordinary is = refl
upgrade_calm Upgrade is = refl
upgrade_calm Rolling is = absurd (false≢true is)

-- a member of the view that the records tell
viewed : (d : Durable) (chunk id : ℕ) → IsMemberAt d chunk id → (view : View) × (view_in (fin.get d.chunks chunk) ≡ Some view) × (is_member view.members id ≡ true)
viewed d chunk id m = (m.settled.view, ap view_in m.told, m.among)

row_there : (d : Durable) (chunk id : ℕ) → IsMemberAt d chunk id → is_some (fin.get d.chunks chunk) ≡ true
row_there d chunk id m = ap is_some m.told

-- the view that a machine knows is that of its entry
prepared_view : {D : Type 0} {x : Setup D} {bytes : ReqId → List ℕ} {chunk : ℕ} {h : History D} {a : Account} (seen : IsSeen x bytes chunk h a) → seen.alive.world.known.view ≡ seen.alive.world.entry.view.stamp
prepared_view seen = (agrees seen.alive.world (reached_world seen.alive.world seen.alive.reached)).view

-- A chunk that a file had at the prepare, and of which a view is told behind the commit, is seen at both and between, and the commit is the master's.
record IsSeenBack {D : Type 0} (x : Setup D) (step : Step) (chunk : ℕ) (prepared now back : History D) (first after last : Account) : Type 0 where
  pub bytes : ReqId → List ℕ
  pub since : SeenSince x bytes chunk (left_in prepared) first (left_in now) after
  pub seen : IsSeen x bytes chunk (left_in back) last
  pub born : ℕ
  pub by : ByMaster x.seen x.config bytes born chunk step (left_in now) (left_in back) since.last.alive.world seen.alive.world
  pub had : by.before ≡ after.durable
  pub has : by.behind ≡ last.durable

module _ (sizes : HaveSizes) (law : AreNumbered) {D : Type 0} (x : Setup D) (prepared now back : History D) (first after last : Account) (step : Step) (up : IsUpgrading x prepared first now after) (moves : Moves x step now after back last)
    (committed : rolls_back after.durable last.durable ≡ true) where
  commit : Runs x (step ∷ []) now after back last
  commit = (back, last, moves, (refl, refl))

  upgraded : Runs x up.steps prepared first now after
  upgraded = runs_of x up.steps prepared now first after up.runs

  reached : IsReached x prepared first
  reached = prepared_reached sizes law x prepared now first after up

  given : IsGiven x
  given = given_there sizes law x prepared now first after up

  pub sees : SeesBothThrough x prepared first back last
  sees = each_sees_on_through sizes law x prepared back first last (up.steps ++ step ∷ []) reached (runs_then x up.steps (step ∷ []) prepared now back first after last upgraded commit)

  abbrev asked : ℕ → Asked
  asked = sees.asked

  abbrev bytes : ReqId → List ℕ
  bytes = bytes_in asked

  right : AllSent (PushRight bytes) back.sent
  right = pushes_right asked back sees.are

  one : AllSent (IsOfOneEdit asked) back.sent
  one = of_one_edit asked back sees.are

  right_now : AllSent (PushRight bytes) now.sent
  right_now = before x.seen x.failures x.armed (PushRight bytes) now.sent back.sent (run_stays x asked given (step ∷ []) now back after last commit) right

  one_now : AllSent (IsOfOneEdit asked) now.sent
  one_now = before x.seen x.failures x.armed (IsOfOneEdit asked) now.sent back.sent (run_stays x asked given (step ∷ []) now back after last commit) one

  abbrev here : SeesToThrough x asked given law prepared now first after sees.first
  here = sees_run_through x asked given law up.reached.apart up.steps prepared now first after sees.first (reached_well x prepared first reached) upgraded right_now one_now

  abbrev next : SeesNextThrough x asked given law step now back after last here.last
  next = sees_step_through x asked given law up.reached.apart step now back after last here.last (reached_well x now after (reach_more x prepared now first after up.steps reached upgraded)) moves right one

  abbrev then : Sees x asked (left_in back) last
  then = record { lives = next.goes.last; tells = next.tells; agrees = next.agrees; intact = next.intact }

  -- what the records tell behind the commit is such as is kept
  pub kept_back : IsKept last.durable
  kept_back = keeps_told x asked (left_in back) last then

  -- the master isn't as it was
  not_same : (left_in back).nodes.master ≡ (left_in now).nodes.master → (chunk : ℕ) → ⊥
  not_same master chunk =
      let same = told_same x bytes chunk step (left_in now) (left_in back) after last next.account here.last.lives here.last.agrees.told next.goes.last master in
      false≢true (sym (never_both after.durable.phase) ∙ ap (λ (d : Durable). is_rolling after.durable.phase && is_ordinary d.phase) same ∙ committed)

  -- ---- a chunk of which a view is told behind the commit is one that a file has

  rolls : (is_rolling after.durable.phase ≡ true) × (is_rolling last.durable.phase ≡ false)
  rolls = rolls_on after.durable last.durable committed

  module _ (chunk : ℕ) (row : is_some (fin.get last.durable.chunks chunk) ≡ true) where
    told_by : (m : IsAlive x.seen x.config bytes chunk (left_in back)) (l : IsAlive x.seen x.config bytes chunk (left_in now)) → ByMaster x.seen x.config bytes l.reached.0.epoch chunk step (left_in now) (left_in back) l.world m.world → is_listed last.durable chunk ≡ true
    told_by m l by =
        let had : by.before ≡ after.durable = told_is_had x.seen (left_in now).nodes.master after.durable by.before here.last.lives.lasts here.last.agrees.told by.had in
        let has : by.behind ≡ last.durable = told_is_had x.seen (left_in back).nodes.master last.durable by.behind next.goes.last.lasts next.account.told by.has in
        let over = masters_commit l.world m.world by.leads l.reached by.masters (by.shown.rolling ∙ ap (λ (d : Durable). is_rolling d.phase) had ∙ rolls.0) (by.shows.rolling ∙ ap (λ (d : Durable). is_rolling d.phase) has ∙ rolls.1) in
        ap (λ (d : Durable). is_listed d chunk) (sym has) ∙ by.rows.listed over (ap (λ (d : Durable). is_some (fin.get d.chunks chunk)) has ∙ row)

    told_at : (m : IsAlive x.seen x.config bytes chunk (left_in back)) (l : IsAlive x.seen x.config bytes chunk (left_in now)) → GoesBy x.seen x.config bytes l.reached.0.epoch chunk step (left_in now) (left_in back) l.world m.world → is_listed last.durable chunk ≡ true
    told_at m l (AtServer by) = absurd (not_same by.master chunk)
    told_at m l (AtMaster by) = told_by m l by
    told_at m l (Elsewhere still servers master node messages moment are posted) = absurd (not_same master chunk)

    listed_by : (heard : Option ℕ) (m : IsAlive x.seen x.config bytes chunk (left_in back)) (life : Life x.seen x.config bytes chunk (left_in now)) → GoesOn x.seen x.config bytes chunk step heard (left_in now) (left_in back) life (inr m) → is_listed last.durable chunk ≡ true
    listed_by heard m (inl unborn) comes =
        absurd (false≢true (sym comes.calm ∙ ap (λ (d : Durable). is_rolling d.phase) (told_is_had x.seen (left_in now).nodes.master after.durable comes.before here.last.lives.lasts here.last.agrees.told comes.had) ∙ rolls.0))
    listed_by heard m (inr l) goes = told_at m l goes.by

    pub listed_there : is_listed last.durable chunk ≡ true
    listed_there =
        let living = living_told x asked (left_in back) last then chunk row in
        listed_by (heard_in x.seen x.failures x.armed next.goes.kind) living.0 (here.last.lives.life chunk)
        (subst (λ life. GoesOn x.seen x.config bytes chunk step (heard_in x.seen x.failures x.armed next.goes.kind) (left_in now) (left_in back) (here.last.lives.life chunk) life) living.1 (next.goes.goes chunk))

  module _ (chunk : ℕ) (listed : is_listed first.durable chunk ≡ true) where
    since : SinceSeen sizes law x prepared now first after up asked here.last chunk
    since = since_seen sizes law x prepared now first after up asked right_now one_now sees.first here.last here.on chunk listed

    abbrev l : IsAlive x.seen x.config bytes chunk (left_in now)
    l = since.since.last.alive

    living : (m : IsAlive x.seen x.config bytes chunk (left_in back)) × (next.goes.last.life chunk ≡ inr m)
    living = lives_on law x asked given step now back after last moves here.last next chunk l since.lives

    goes : LivesOn x.seen x.config bytes chunk step (heard_in x.seen x.failures x.armed next.goes.kind) (left_in now) (left_in back) l living.0
    goes = subst (λ life. GoesOn x.seen x.config bytes chunk step (heard_in x.seen x.failures x.armed next.goes.kind) (left_in now) (left_in back) (inr l) life) living.1
        (subst (λ life. GoesOn x.seen x.config bytes chunk step (heard_in x.seen x.failures x.armed next.goes.kind) (left_in now) (left_in back) life (next.goes.last.life chunk)) since.lives (next.goes.goes chunk))

    there : (seen : IsSeen x bytes chunk (left_in back) last) × (seen.alive ≡ living.0)
    there = seen_of x asked (left_in back) last then up.reached.apart chunk living.0 living.1

    abbrev By : ChunkWorld → Type 0
    By v = ByMaster x.seen x.config bytes l.reached.0.epoch chunk step (left_in now) (left_in back) l.world v

    by_master : GoesBy x.seen x.config bytes l.reached.0.epoch chunk step (left_in now) (left_in back) l.world living.0.world → By living.0.world
    by_master (AtServer by) = absurd (not_same by.master chunk)
    by_master (AtMaster by) = by
    by_master (Elsewhere still servers master node messages moment are posted) = absurd (not_same master chunk)

    by_there : By there.0.alive.world
    by_there = subst (λ (z : IsAlive x.seen x.config bytes chunk (left_in back)). By z.world) (sym there.1) (by_master goes.by)

    seen_back : IsSeenBack x step chunk prepared now back first after last
    seen_back = record {
      bytes = bytes;
      since = since.since;
      seen = there.0;
      born = l.reached.0.epoch;
      by = by_there;
      had = told_is_had x.seen (left_in now).nodes.master after.durable by_there.before here.last.lives.lasts here.last.agrees.told by_there.had;
      has = told_is_had x.seen (left_in back).nodes.master last.durable by_there.behind next.goes.last.lasts next.account.told by_there.has;
    }

    module _ (row : is_some (fin.get last.durable.chunks chunk) ≡ true) where
      free_then : seen_back.seen.alive.world.entry.view.holder ≡ None
      free_then = free_back x seen_back.bytes chunk (left_in prepared) first (left_in now) after seen_back.since listed step (left_in back) last seen_back.seen seen_back.born seen_back.by seen_back.had seen_back.has committed row

      calm_then : is_rolling last.durable.phase ≡ false
      calm_then = calm_back x seen_back.bytes chunk (left_in prepared) first (left_in now) after seen_back.since listed step (left_in back) last seen_back.seen seen_back.born seen_back.by seen_back.had seen_back.has committed row

      same_list : seen_back.seen.alive.world.known.list seen_back.seen.alive.world.known.view ≡ seen_back.since.first.alive.world.known.list seen_back.since.first.alive.world.entry.view.stamp
      same_list = list_back x seen_back.bytes chunk (left_in prepared) first (left_in now) after seen_back.since listed step (left_in back) last seen_back.seen seen_back.born seen_back.by seen_back.had seen_back.has committed row

      -- nobody leads the view behind the commit
      pub unled_back : (view : View) → view_in (fin.get last.durable.chunks chunk) ≡ Some view → primary_of view.term ≡ None
      unled_back view told = sym (told_view x seen_back.bytes chunk (left_in back) last seen_back.seen view told).shows.holder ∙ free_then

      -- it has the first stamp of the epoch
      pub stamp_then : (view : View) → view_in (fin.get last.durable.chunks chunk) ≡ Some view → view.stamp ≡ start_of after.durable.epoch
      stamp_then view told =
          (told_view x seen_back.bytes chunk (left_in back) last seen_back.seen view told).shows.stamp
          ∙ ap stamp_at (stamp_back x seen_back.bytes chunk (left_in prepared) first (left_in now) after seen_back.since listed step (left_in back) last seen_back.seen seen_back.born seen_back.by seen_back.had seen_back.has committed row)
          ∙ start_stamp after.durable.epoch

      -- what is settled behind the commit is what was settled at the prepare
      pub settled_back : (view : View) → view_in (fin.get last.durable.chunks chunk) ≡ Some view → (former : View) → view_at first chunk ≡ Some former → settled_edits last chunk ≡ settled_edits first chunk
      settled_back view told former was =
          settled_there x seen_back.bytes chunk (left_in back) last seen_back.seen free_then view told
          ∙ same_list
          ∙ ap seen_back.since.first.alive.world.known.list (sym (prepared_view seen_back.since.first))
          ∙ sym (settled_there x seen_back.bytes chunk (left_in prepared) first seen_back.since.first (free_prepared x seen_back.bytes chunk (left_in prepared) first (left_in now) after seen_back.since listed) former was)

      -- and the bytes of sound replicas of members are the same
      pub bytes_back : (id other : ℕ) (had has : List ℕ) → IsMemberAt first.durable chunk id → HasBytes prepared id chunk had → IsMemberAt last.durable chunk other → HasBytes back other chunk has → has ≡ had
      bytes_back id other had has member old among new =
          let former = viewed first.durable chunk id member in
          let view = viewed last.durable chunk other among in
          sym new.is
          ∙ text_there x seen_back.bytes chunk (left_in back) last seen_back.seen calm_then free_then other view.0 new.s new.live view.1 view.2 new.there new.lives new.whole
          ∙ ap (text_of x.config.chunk) (same_list ∙ ap seen_back.since.first.alive.world.known.list (sym (prepared_view seen_back.since.first)))
          ∙ sym (text_there x seen_back.bytes chunk (left_in prepared) first seen_back.since.first (upgrade_calm first.durable.phase seen_back.since.begun) (free_prepared x seen_back.bytes chunk (left_in prepared) first (left_in now) after seen_back.since listed) id former.0 old.s old.live former.1 former.2 old.there old.lives old.whole)
          ∙ old.is
