-- Who survives by an account is intact in the machine of the chunk, behind each step of a store.
use Rattle.std.proofs.Common.{◌≡◌, ◌≢◌, ◌∙◌, ◌+◌, ◌<◌, ◌⊎◌, inl, inr, zero, suc, ℕ, Bool, true, false, List, [], ◌∷◌, Option, Some, None, refl, sym, ap, subst, slice_get, slice_set, arith}
use Rattle.std.specs.Prelude.{◌&&◌, ◌==◌, if◌then◌else◌, is_some, nat_eq}
use Rattle.std.proofs.lemmas.Bool.{cases_eq, eqb-true, false≢true}
use Rattle.std.proofs.lemmas.Bool.Decides.{nat_tests}
use Rattle.gs_base.specs.declared.epoch.EpochEnd.TheVariants.{Prepare}
use Rattle.gs_base.specs.declared.numbers.ReqId.{ReqId}
use Rattle.gs_laws_chunks.specs.accounts.Accounts.{Account}
use Rattle.gs_laws_chunks.specs.accounts.Moving.{call_in, comes_to, event_at, is_server, server_of}
use Rattle.gs_laws_chunks.specs.accounts.Running.{IsToldAt, Setup}
use Rattle.gs_laws_chunks.specs.accounts.Running.{IsAccounted, accounted}
use Rattle.gs_laws_chunk.specs.machine.Events.{Leads, Rests}
use Rattle.gs_laws_chunk.specs.machine.Laws.{IsReached, IsUpgrading, is_member, world_of}
use Rattle.gs_laws_chunk.specs.machine.Machine.{Entry, Member, ChunkWorld}
use Rattle.gs_laws_chunk.proofs.lemmas.machine.Facts.{reached_world}
use Rattle.gs_laws_chunk.proofs.lemmas.machine.Known.{IsPrepared}
use Rattle.gs_laws_chunk.proofs.lemmas.machine.Knowing.{masters_keep_prepared}
use Rattle.gs_laws_chunk.proofs.lemmas.machine.Prepared.{current, prepared}
use Rattle.gs_laws_chunk.proofs.lemmas.machine.Worlds.{WorldOk, leads_later, leads_world}
use Rattle.gs_laws_parts.proofs.lemmas.master.Marking.{masters_spare}
use Rattle.gs_laws_parts.specs.master.Showing.{ShowsDurable}
use Rattle.gs_laws_master.specs.Promises.{IsKept}
use Rattle.gs_laws_lift.proofs.lemmas.stores.Durable.{durable_shown, has_durable, kept_there}
use Rattle.gs_laws_lift.proofs.lemmas.stores.Machines.{reached_then}
use Rattle.gs_laws_lift.proofs.lemmas.stores.Marking.{whole_marked}
use Rattle.gs_laws_lift.proofs.lemmas.stores.Serving.{set_found}
use Rattle.gs_laws_lift.proofs.lemmas.stores.Mastering.{both}
use Rattle.gs_laws_lift.specs.stores.Doing.{HasDurable}
use Rattle.gs_laws_lift.specs.stores.Going.{Beats, Damages, Hears, IsMet, Loses, Restarts, ServerGoes, Ticks, about_of, cause_at}
use Rattle.gs_laws_lift.specs.stores.Joint.{AtMaster, AtServer, ByMaster, ByServer, Elsewhere, GoesBy}
use Rattle.gs_laws_lift.specs.stores.Living.{ComesAlive, GoesOn, StoreLives}
use Rattle.gs_laws_lift.specs.stores.Showing.{IsAlive, Keeps, Life, ShowsNodes, setting}
use Rattle.gs_laws_parts.proofs.lemmas.server.Harm.{survives, survives_still}
use Rattle.gs_laws_parts.specs.server.Causes.{cause_by}
use Rattle.gs_laws_parts.specs.server.Harm.{intact_behind, is_whole}
use Rattle.gs_laws_parts.specs.server.Moving.{CarriesMore, IsSteps}
use Rattle.gs_laws_parts.specs.server.Showing.{Setting, ShowsPlace}
use Rattle.gs_laws_moves.specs.moves.Epochs.{Begun, Committed, EpochGoes, Finalized, Prepared, Stays, prepares}
use Rattle.gs_base.specs.declared.numbers.Moment.{Moment}
use Rattle.gs_msg.specs.declared.event.Happening.TheVariants as happenings
use Rattle.gs_msg.specs.declared.message.Message.{Message}
use Rattle.gs_msg.specs.declared.message.MsgId.{MsgId}
use Rattle.gs_msg.specs.declared.node.NodeId.{NodeId}
use Rattle.gs_msg.specs.declared.node.NodeId.TheVariants as nodes
use Rattle.gs_master_record.specs.declared.checkpoint.Phase.{Phase}
use Rattle.gs_master_record.specs.declared.checkpoint.Phase.TheVariants.{Ordinary, Rolling, Upgrade}
use Rattle.gs_world.specs.Histories.{History}
use Rattle.gs_world.specs.Runs.{Comes, Step}
use Rattle.gs_world.specs.Sent.{Sent, message_of}
use Rattle.gs_server.specs.Runs as at_server
use Rattle.gs_server.specs.Servers.{Server, place_of}
use Rattle.gs_laws_server.specs.servers.Calling.{call_by}
use Rattle.gs_master_spec.specs.Durable.{Durable, is_ordinary, is_rolling, is_upgrade, upgrade_epoch}
use Rattle.gs_laws_chunks.proofs.lemmas.accounts.Carrying.{carried_rises, masters_carry}
use Rattle.gs_laws_chunks.proofs.lemmas.accounts.Durables.{told_is_had}
use Rattle.gs_laws_chunks.proofs.lemmas.accounts.Upgraded.{upgrade_told, upgraded_before}
use Rattle.gs_laws_chunks.specs.accounts.Joined.{WasFit}
use Rattle.gs_laws_chunks.specs.accounts.Joined.{IsIntact}
use Rattle.gs_laws_chunks.specs.accounts.Seeing.{IntactAt, StoresStayIntact}

-- ---- small facts

none_called : (chunk : ℕ) (o : Option at_server.Event) → call_in chunk o None ≡ None
none_called chunk None = refl
none_called chunk (Some event) = refl

pub same_number : (n : ℕ) → (n == n) ≡ true
same_number n = grind (arith, nat_tests)

-- what a server hears is what comes to it
pub heard_event : (step : Step) (sent : Sent) (id : ℕ) (at : MsgId) (message : Message) (moment : Moment) → message_of sent at ≡ Some message → message.to ≡ nodes.Server id → step ≡ Comes (record { moment = moment; happening = happenings.Deliver at })
    → event_at step sent id ≡ Some (at_server.Hears message moment)
heard_event step sent id at message moment there to comes =
    ap (λ (y : Step). event_at y sent id) comes ∙ ap (λ (o : Option Message). comes_to o moment id) there
    ∙ ap (λ (n : NodeId). if is_server id (server_of n) then Some (at_server.Hears message moment) else None) to
    ∙ ap (λ b. if b then Some (at_server.Hears message moment) else None) (same_number id)

pub never_both : (phase : Phase) → (is_ordinary phase && is_upgrade phase) ≡ false
never_both Ordinary = refl
never_both Upgrade = refl
never_both Rolling = refl

calm_upgrade : (phase : Phase) → is_upgrade phase ≡ true → is_rolling phase ≡ false
calm_upgrade Ordinary is = refl
calm_upgrade Upgrade is = refl
calm_upgrade Rolling is = absurd (false≢true is)

-- where a prepare is accepted, the epoch is the next one
epoch_prepared : (d e : Durable) → EpochGoes d e → prepares d e ≡ true → d.epoch < e.epoch
epoch_prepared d e (Prepared next was is none kept) accepted = omega arith
epoch_prepared d e (Stays same phase) accepted = absurd (false≢true (sym (ap (λ p. is_ordinary d.phase && is_upgrade p) phase ∙ never_both d.phase) ∙ accepted))
epoch_prepared d e (Finalized next was is end) accepted = absurd (false≢true (sym (ap is_upgrade is) ∙ (both (is_ordinary d.phase) (is_upgrade e.phase) accepted).1))
epoch_prepared d e (Begun next was is end) accepted = absurd (false≢true (sym (ap is_upgrade is) ∙ (both (is_ordinary d.phase) (is_upgrade e.phase) accepted).1))
epoch_prepared d e (Committed same was is) accepted = absurd (false≢true (sym (ap is_upgrade is) ∙ (both (is_ordinary d.phase) (is_upgrade e.phase) accepted).1))

pub set_other : {X : Type 0} (xs : List X) (i j : ℕ) (y : X) → j ≢ i → slice_get (slice_set xs i y) j ≡ slice_get xs j
set_other [] i j y apart = refl
set_other (z ∷ xs) zero zero y apart = absurd (apart refl)
set_other (z ∷ xs) zero (suc j) y apart = refl
set_other (z ∷ xs) (suc i) zero y apart = refl
set_other (z ∷ xs) (suc i) (suc j) y apart = set_other xs i j y (λ same. apart (ap suc same))

differ : (a b : ℕ) → a ≢ b → nat_eq a b ≡ false
differ a b never = by_test (nat_eq a b) refl
  where
    by_test : (t : Bool) → nat_eq a b ≡ t → t ≡ false
    by_test true is = absurd (never (eqb-true a b is))
    by_test false is = refl

-- ---- a server to which something happens

-- what survives there by the account is intact, as of the server under its number
survives_there : (c : Setting) (chunk id : ℕ) (w : ChunkWorld) (s after : Server) (event : at_server.Event) → s.me ≡ id → after ≡ at_server.behind event s → IsReached w → (upgrade : ℕ) → IsUpgrading w upgrade
    → ShowsPlace c w.known s.kept.epoch (place_of chunk s) (w.members id) → (so_far : Bool) → (so_far ≡ true → (w.members id).intact ≡ true) → (about : Option ℕ) (sent : List Message)
    → (steps : IsSteps (cause_by chunk event s) c chunk w id about after sent) → intact_behind so_far (Some upgrade) chunk (call_by chunk event s) (Some s) (Some after) ≡ true → (steps.world.members id).intact ≡ true
survives_there c chunk id w s after event me is reached upgrade stands shows so_far before about sent = subst Behind (sym is) (subst There me own shows before)
  where
    Behind : Server → Type 0
    Behind t = (steps : IsSteps (cause_by chunk event s) c chunk w id about t sent) → intact_behind so_far (Some upgrade) chunk (call_by chunk event s) (Some s) (Some t) ≡ true → (steps.world.members id).intact ≡ true

    There : ℕ → Type 0
    There i = ShowsPlace c w.known s.kept.epoch (place_of chunk s) (w.members i) → (so_far ≡ true → (w.members i).intact ≡ true)
        → (steps : IsSteps (cause_by chunk event s) c chunk w i about (at_server.behind event s) sent) → intact_behind so_far (Some upgrade) chunk (call_by chunk event s) (Some s) (Some (at_server.behind event s)) ≡ true → (steps.world.members i).intact ≡ true

    own : There s.me
    own shows before steps told = survives c chunk w s reached upgrade stands shows so_far before event about sent steps told

module _ {D : Type 0} (chunk id : ℕ) (step : Step) (old : History D) (c : Setting) (w : ChunkWorld) (s after : Server) (messages : List Message) (me : s.me ≡ id) (reached : IsReached w) (upgrade : ℕ) (stands : IsUpgrading w upgrade)
    (shows : ShowsPlace c w.known s.kept.epoch (place_of chunk s) (w.members id)) (so_far : Bool) (before : so_far ≡ true → (w.members id).intact ≡ true) where
  abbrev Says : Option at_server.Event → Type 0
  Says event = intact_behind so_far (Some upgrade) chunk (call_in chunk event (Some s)) (Some s) (Some after) ≡ true

  at_event : (event : at_server.Event) → event_at step old.sent id ≡ Some event → Says (event_at step old.sent id) → intact_behind so_far (Some upgrade) chunk (call_by chunk event s) (Some s) (Some after) ≡ true
  at_event event is told = subst Says is told

  at_none : event_at step old.sent id ≡ None → Says (event_at step old.sent id) → so_far ≡ true
  at_none is told = subst Says is told

  -- whatever happens to it
  happens_there : (goes : ServerGoes old.sent id s after messages) → IsMet step goes → (steps : IsSteps (cause_at chunk goes) c chunk w id (about_of goes) after messages) → Says (event_at step old.sent id) → (steps.world.members id).intact ≡ true
  happens_there (Hears message moment was to is sends) (at, there, comes) steps told =
      survives_there c chunk id w s after (at_server.Hears message moment) me is reached upgrade stands shows so_far before _ messages steps (at_event (at_server.Hears message moment) (heard_event step old.sent id at message moment there to comes) told)
  happens_there (Ticks moment is sends) (at, comes) steps told = steps.intact (inl refl) (before (at_none (ap (λ (y : Step). event_at y old.sent id) comes) told))
  happens_there (Beats is sends) (at, comes) steps told = steps.intact (inl refl) (before (at_none (ap (λ (y : Step). event_at y old.sent id) comes) told))
  happens_there (Restarts is sends) (at, comes) steps told = steps.intact (inl refl) (before (at_none (ap (λ (y : Step). event_at y old.sent id) comes) told))
  happens_there (Loses handle is sends) (at, comes) steps told =
      survives_there c chunk id w s after (at_server.Loses handle) me is reached upgrade stands shows so_far before _ messages steps (at_event (at_server.Loses handle) (ap (λ (y : Step). event_at y old.sent id) comes ∙ ap (λ b. if b then Some (at_server.Loses handle) else None) (same_number id)) told)
  happens_there (Damages handle block is sends) (at, comes) steps told =
      survives_there c chunk id w s after (at_server.Damages handle block) me is reached upgrade stands shows so_far before _ messages steps (at_event (at_server.Damages handle block) (ap (λ (y : Step). event_at y old.sent id) comes ∙ ap (λ b. if b then Some (at_server.Damages handle block) else None) (same_number id)) told)

-- ---- a step

module _ {D : Type 0} (x : Setup D) (bytes : ReqId → List ℕ) (chunk : ℕ) (step : Step) (old new : History D) (a b : Account) (moves : IsAccounted x step old a new b) where
  abbrev server_then : ℕ → Option Server
  server_then j = slice_get new.nodes.servers j

  abbrev server_was : ℕ → Option Server
  server_was j = slice_get old.nodes.servers j

  -- what the account says of a server
  said : (j : ℕ) → b.intact chunk j ≡ (if prepares a.durable b.durable then is_whole chunk (server_then j)
      else intact_behind (a.intact chunk j) (upgrade_epoch b.durable.phase b.durable.epoch) chunk (call_in chunk (event_at step old.sent j) (server_was j)) (server_was j) (server_then j))
  said j = ap (λ (y : Account). y.intact chunk j) moves.account

  -- where no prepare is accepted, and an upgrade stands
  module _ (none : prepares a.durable b.durable ≡ false) (e : ℕ) (up : upgrade_epoch b.durable.phase b.durable.epoch ≡ Some e) where
    said_behind : (j : ℕ) → b.intact chunk j ≡ intact_behind (a.intact chunk j) (Some e) chunk (call_in chunk (event_at step old.sent j) (server_was j)) (server_was j) (server_then j)
    said_behind j =
        said j
        ∙ ap (λ t. if t then is_whole chunk (server_then j) else intact_behind (a.intact chunk j) (upgrade_epoch b.durable.phase b.durable.epoch) chunk (call_in chunk (event_at step old.sent j) (server_was j)) (server_was j) (server_then j)) none
        ∙ ap (λ o. intact_behind (a.intact chunk j) o chunk (call_in chunk (event_at step old.sent j) (server_was j)) (server_was j) (server_then j)) up

    -- a server that stays as it was
    said_still : (j : ℕ) → server_then j ≡ server_was j → b.intact chunk j ≡ true → a.intact chunk j ≡ true
    said_still j same is = by_server (server_was j) refl
      where
        told : (o : Option Server) → server_was j ≡ o → intact_behind (a.intact chunk j) (Some e) chunk (call_in chunk (event_at step old.sent j) o) o o ≡ true
        told o at =
            sym (ap (λ o. intact_behind (a.intact chunk j) (Some e) chunk (call_in chunk (event_at step old.sent j) o) o o) at)
            ∙ sym (ap (λ o. intact_behind (a.intact chunk j) (Some e) chunk (call_in chunk (event_at step old.sent j) (server_was j)) (server_was j) o) same)
            ∙ sym (said_behind j) ∙ is

        by_server : (o : Option Server) → server_was j ≡ o → a.intact chunk j ≡ true
        by_server None at = sym (ap (λ call. intact_behind (a.intact chunk j) (Some e) chunk call None None) (none_called chunk (event_at step old.sent j))) ∙ told None at
        by_server (Some s) at = survives_still (a.intact chunk j) e chunk (call_in chunk (event_at step old.sent j) (Some s)) s (told (Some s) at)

  -- ---- at a server

  module _ (w v : ChunkWorld) (reached : IsReached w) (keeps : Keeps x.config bytes old) (shown : ShowsNodes x.config bytes reached.0.epoch chunk old w) (by : ByServer x.seen x.config bytes reached.0.epoch chunk step old new w v) (durable : ShowsDurable chunk a.durable w.entry) (kept : IsKept a.durable) (same : a.durable ≡ b.durable) (before : IsIntact a chunk w) where
    ok : WorldOk w
    ok = reached_world w reached

    leads : Leads w v
    leads = subst (Leads w) (sym by.world) by.steps.leads

    okv : WorldOk v
    okv = leads_world w v leads ok

    entry : v.entry ≡ w.entry
    entry = ap (λ (y : ChunkWorld). y.entry) by.world ∙ by.steps.entry

    not_prepared : prepares a.durable b.durable ≡ false
    not_prepared = subst (λ (d : Durable). prepares a.durable d ≡ false) same (never_both a.durable.phase)

    got : server_then by.id ≡ Some by.after
    got = subst (λ xs. slice_get xs by.id ≡ Some by.after) (sym by.servers) (set_found old.nodes.servers by.id by.server by.after by.found)

    carries_there : (e j : ℕ) → v.known.carries e j ≡ true → CarriesMore w by.id (v.members by.id) e j
    carries_there e j is = subst (λ (y : ChunkWorld). CarriesMore w by.id (y.members by.id) e j) (sym by.world) (by.steps.carries e j (ap (λ (y : ChunkWorld). y.known.carries e j) (sym by.world) ∙ is))

    module _ (e : ℕ) (upgrading : IsUpgrading w e) (known : w.entry.was_known ≡ true) where
      told : upgrade_epoch b.durable.phase b.durable.epoch ≡ Some e
      told = subst (λ (d : Durable). upgrade_epoch d.phase d.epoch ≡ Some e) same (upgrade_told chunk a.durable w reached durable kept e upgrading known)

      -- a member of the prepared view was one
      member_was : (j : ℕ) → v.known.members (v.known.prepared e) j ≡ true → w.known.members (w.known.prepared e) j ≡ true
      member_was j member =
          let later = leads_later w v leads ok in
          let is : IsPrepared w.known e = prepared w ok e upgrading known in
          sym (later.members (w.known.prepared e) j ((ok.known).before e is)) ∙ ap (λ t. v.known.members t j) (sym (later.prepared e is.0)) ∙ member

      -- another server
      other_intact : (j : ℕ) → j ≢ by.id → WasFit v e j → b.intact chunk j ≡ true → (v.members j).intact ≡ true
      other_intact j apart fit is =
          let still : server_then j ≡ server_was j = ap (λ xs. slice_get xs j) by.servers ∙ set_other old.nodes.servers by.id j by.after apart in
          let fit_was : WasFit w e j = elim fit [
            | inl member ↦ inl (member_was j member)
            | inr carries ↦ elim (carries_there e j carries) [
              | inl old ↦ inr old
              | inr more ↦ absurd (apart more.0)
            ]
          ] in
          ap (λ (y : ChunkWorld). (y.members j).intact) by.world ∙ ap (λ (m : Member). m.intact) (by.steps.others j (differ j by.id apart))
          ∙ before e j upgrading known fit_was (said_still not_prepared e told j still is)

      -- and this one, of which a rollback might have taken the chunk before
      old_intact : WasFit w e by.id → b.intact chunk by.id ≡ true → (v.members by.id).intact ≡ true
      old_intact fit is =
          ap (λ (y : ChunkWorld). (y.members by.id).intact) by.world
          ∙ happens_there chunk by.id step old (setting x.config bytes reached.0.epoch) w by.server by.after by.messages (keeps.servers by.id by.server by.found).me reached e upgrading (shown.members by.id by.server by.found)
          (a.intact chunk by.id) (before e by.id upgrading known fit) by.goes by.met by.steps
          (sym (ap (λ o. intact_behind (a.intact chunk by.id) (Some e) chunk (call_in chunk (event_at step old.sent by.id) o) o (Some by.after)) by.found)
          ∙ sym (ap (λ o. intact_behind (a.intact chunk by.id) (Some e) chunk (call_in chunk (event_at step old.sent by.id) (server_was by.id)) (server_was by.id) o) got)
          ∙ sym (said_behind not_prepared e told by.id) ∙ is)

      -- or may now, since it carries the image
      new_intact : v.known.carries e by.id ≡ true → b.intact chunk by.id ≡ true → (v.members by.id).intact ≡ true
      new_intact carries is = elim (carries_there e by.id carries) [
        | inl old ↦ old_intact (inr old) is
        | inr (at, within, carried) ↦ elim (carried_rises w v leads ok e by.id carries) [
          | inl old ↦ old_intact (inr old) is
          | inr up ↦
              let was = (ok.views by.id).promise in
              let now = (okv.views by.id).promise in
              let gains = by.steps.gains in
              ap (λ (y : ChunkWorld). (y.members by.id).intact) by.world
              ∙ gains.brought (subst (λ (y : ChunkWorld). (w.members by.id).promise < (y.members by.id).promise) by.world (omega arith)) (ap (λ (y : ChunkWorld). (y.members by.id).carried) (sym by.world) ∙ carried)
        ]
      ]

      own_intact : WasFit v e by.id → b.intact chunk by.id ≡ true → (v.members by.id).intact ≡ true
      own_intact fit is = elim fit [
        | inl member ↦ old_intact (inl (member_was by.id member)) is
        | inr carries ↦ new_intact carries is
      ]

    pub server_intact : IsIntact b chunk v
    server_intact e j upgrading was fit is =
        let upgrading_w : IsUpgrading w e = subst (λ (y : Entry). ((e ≡ y.epoch) × (y.how e ≡ Prepare)) ⊎ ((e + 1 ≡ y.epoch) × (y.is_rolling ≡ true))) entry upgrading in
        let known : w.entry.was_known ≡ true = ap (λ (y : Entry). y.was_known) (sym entry) ∙ was in
        elim (cases_eq j by.id) [
          | inl here ↦
              ap (λ i. (v.members i).intact) here
              ∙ own_intact e upgrading_w known (subst (WasFit v e) here fit) (ap (b.intact chunk) (sym here) ∙ is)
          | inr apart ↦ other_intact e upgrading_w known j apart fit is
        ]

  -- ---- at the master

  module _ (w v : ChunkWorld) (reached : IsReached w) (shown : ShowsNodes x.config bytes reached.0.epoch chunk old w) (by : ByMaster x.seen x.config bytes reached.0.epoch chunk step old new w v) (had : by.before ≡ a.durable) (has : by.behind ≡ b.durable) (before : IsIntact a chunk w) where
    ok_was : WorldOk w
    ok_was = reached_world w reached

    ok_then : WorldOk v
    ok_then = leads_world w v by.leads ok_was

    same_prepares : prepares by.before by.behind ≡ prepares a.durable b.durable
    same_prepares = ap (λ d. prepares d by.behind) had ∙ ap (prepares a.durable) has

    carries_was : (e j : ℕ) → v.known.carries e j ≡ true → w.known.carries e j ≡ true
    carries_was e j carries = ap (λ f. f e j) (sym (masters_carry w v by.leads by.masters)) ∙ carries

    -- no prepare is accepted
    calm_intact : prepares a.durable b.durable ≡ false → IsIntact b chunk v
    calm_intact none e j upgrading was fit is =
        let free = by.rows.unprepared (same_prepares ∙ none) in
        let up : IsUpgrading w e = upgraded_before w v reached by.leads free e upgrading in
        let known = (masters_keep_prepared w v by.leads reached by.masters free was).0 in
        let told : upgrade_epoch b.durable.phase b.durable.epoch ≡ Some e = subst (λ (d : Durable). upgrade_epoch d.phase d.epoch ≡ Some e) has (upgrade_told chunk by.behind v (reached_then w reached v by.leads) by.shows by.kept e upgrading was) in
        let later = leads_later w v by.leads ok_was in
        let prepared_was : IsPrepared w.known e = prepared w ok_was e up known in
        let fit_was : WasFit w e j = elim fit [
          | inl member ↦ inl (sym (later.members (w.known.prepared e) j ((ok_was.known).before e prepared_was)) ∙ ap (λ t. v.known.members t j) (sym (later.prepared e prepared_was.0)) ∙ member)
          | inr carries ↦ inr (carries_was e j carries)
        ] in
        ap (λ (m : Member). m.intact) (masters_spare w v by.leads by.masters (λ y since. free y since.0 since.1 since.2) j)
        ∙ before e j up known fit_was (said_still none e told j (ap (λ xs. slice_get xs j) by.servers) is)

    -- or one is
    prepared_intact : prepares a.durable b.durable ≡ true → IsIntact b chunk v
    prepared_intact accepted e j upgrading was fit is = by_server (server_then j) refl (sym (said j ∙ ap (λ t. if t then is_whole chunk (server_then j) else intact_behind (a.intact chunk j) (upgrade_epoch b.durable.phase b.durable.epoch) chunk (call_in chunk (event_at step old.sent j) (server_was j)) (server_was j) (server_then j)) accepted) ∙ is)
      where
        accepted_there : prepares by.before by.behind ≡ true
        accepted_there = same_prepares ∙ accepted

        upgrade : is_upgrade by.behind.phase ≡ true
        upgrade = (both (is_ordinary by.before.phase) (is_upgrade by.behind.phase) accepted_there).1

        later_epoch : w.entry.epoch < v.entry.epoch
        later_epoch = (let up = epoch_prepared by.before by.behind by.rows.epochs accepted_there in let one = by.shown.epoch in let two = by.shows.epoch in omega arith)

        here : e ≡ v.entry.epoch
        here = elim upgrading [
          | inl (at, how) ↦ at
          | inr (next, rolls) ↦ absurd (false≢true (sym (by.shows.rolling ∙ calm_upgrade by.behind.phase upgrade) ∙ rolls))
        ]

        settled_one : is_member v j ≡ true
        settled_one = elim fit [
          | inl member ↦
              let same = ((ok_then.entry).prepared e (current v ok_then e upgrading was) (prepared v ok_then e upgrading was)).stamp in
              let rows = by.rows.prepared accepted_there was in
              let view : v.known.prepared e ≡ v.known.view = sym same ∙ rows.2 ∙ sym rows.3 in
              sym ((ok_then.entry).members j) ∙ ap (λ t. v.known.members t j) (sym view) ∙ member
          | inr carries ↦ absurd (
              let low = (ok_was.seals j).carries e (carries_was e j carries) in
              let learned = (ok_was.seals j).learned in
              let epoch = (ok_was.entry).epoch in
              let at = here in
              let later = later_epoch in
              omega arith)
        ]

        by_server : (o : Option Server) → server_then j ≡ o → is_whole chunk (server_then j) ≡ true → (v.members j).intact ≡ true
        by_server None at whole = absurd (false≢true (sym (ap (is_whole chunk) at) ∙ whole))
        by_server (Some s) at whole =
            let found : server_was j ≡ Some s = ap (λ xs. slice_get xs j) (sym by.servers) ∙ at in
            whole_marked x.config bytes reached.0.epoch chunk j old.nodes.servers s by.behind w v reached by.leads (shown.members j s found) by.kept by.shows upgrade later_epoch by.marks found settled_one (sym (ap (is_whole chunk) at) ∙ whole)

    pub master_intact : IsIntact b chunk v
    master_intact = by_prepare (prepares a.durable b.durable) refl
      where
        by_prepare : (t : Bool) → prepares a.durable b.durable ≡ t → IsIntact b chunk v
        by_prepare false none = calm_intact none
        by_prepare true accepted = prepared_intact accepted

  -- ---- elsewhere, and at a birth

  still_intact : (w : ChunkWorld) → IsReached w → new.nodes.servers ≡ old.nodes.servers → ShowsDurable chunk a.durable w.entry → IsKept a.durable → a.durable ≡ b.durable → IsIntact a chunk w → IsIntact b chunk w
  still_intact w reached servers durable kept same before e j upgrading was fit is =
      let none : prepares a.durable b.durable ≡ false = subst (λ (d : Durable). prepares a.durable d ≡ false) same (never_both a.durable.phase) in
      let told : upgrade_epoch b.durable.phase b.durable.epoch ≡ Some e = subst (λ (d : Durable). upgrade_epoch d.phase d.epoch ≡ Some e) same (upgrade_told chunk a.durable w reached durable kept e upgrading was) in
      before e j upgrading was fit (said_still none e told j (ap (λ xs. slice_get xs j) servers) is)

  -- one that is born was known at no prepare
  born_intact : (m : IsAlive x.seen x.config bytes chunk new) → ComesAlive x.seen x.config bytes chunk old new m → IsIntact b chunk m.world
  born_intact m comes e j upgrading was fit is = by_prepare (prepares comes.before comes.behind) refl
    where
      by_prepare : (t : Bool) → prepares comes.before comes.behind ≡ t → (m.world.members j).intact ≡ true
      by_prepare false none = absurd (false≢true (masters_keep_prepared (world_of m.reached.0) m.world comes.leads (m.reached.0, Rests) comes.masters (comes.rows.unprepared none) was).0)
      by_prepare true accepted = absurd (false≢true (sym (ap is_some comes.ungiven.settled) ∙ (comes.rows.prepared accepted was).0))

  -- ---- whatever it is

  module _ (lives : StoreLives x.seen x.config bytes x.among old) (told : IsToldAt x.seen old.nodes.master a.durable) (behind : StoreLives x.seen x.config bytes x.among new) where
    pub was_had : HasDurable x.seen old.nodes.master a.durable
    was_had =
        let d = has_durable x.seen old.nodes.master lives.lasts in
        subst (HasDurable x.seen old.nodes.master) (told_is_had x.seen old.nodes.master a.durable d.0 lives.lasts told d.1) d.1

    pub was_kept : IsKept a.durable
    was_kept = kept_there x.seen old.nodes.master a.durable lives.lasts was_had

    pub told_same : new.nodes.master ≡ old.nodes.master → a.durable ≡ b.durable
    told_same master = told_is_had x.seen old.nodes.master b.durable a.durable lives.lasts (subst (λ place. IsToldAt x.seen place b.durable) master moves.told) was_had

    by_what : (l : IsAlive x.seen x.config bytes chunk old) (m : IsAlive x.seen x.config bytes chunk new) → GoesBy x.seen x.config bytes l.reached.0.epoch chunk step old new l.world m.world → IsIntact a chunk l.world → IsIntact b chunk m.world
    by_what l m (AtServer by) before =
        server_intact l.world m.world l.reached lives.keeps (record { members = l.shows.members; sent = l.shows.sent }) by (durable_shown x.seen chunk l.world old.nodes.master a.durable was_had l.shows.master) was_kept (told_same by.master) before
    by_what l m (AtMaster by) before =
        master_intact l.world m.world l.reached (record { members = l.shows.members; sent = l.shows.sent }) by (told_is_had x.seen old.nodes.master a.durable by.before lives.lasts told by.had)
        (told_is_had x.seen new.nodes.master b.durable by.behind behind.lasts moves.told by.has) before
    by_what l m (Elsewhere still servers master node messages moment are posted) before =
        subst (IsIntact b chunk) (sym still)
        (still_intact l.world l.reached servers (durable_shown x.seen chunk l.world old.nodes.master a.durable was_had l.shows.master) was_kept (told_same master) before)

    pub one_intact : (heard : Option ℕ) (l : Life x.seen x.config bytes chunk old) (m : Life x.seen x.config bytes chunk new) → GoesOn x.seen x.config bytes chunk step heard old new l m → IntactAt x bytes a chunk old l → IntactAt x bytes b chunk new m
    one_intact heard (inl l) (inl m) goes before = tt
    one_intact heard (inl l) (inr m) goes before = born_intact m goes
    one_intact heard (inr l) (inl m) goes before = absurd goes
    one_intact heard (inr l) (inr m) goes before = by_what l m goes.by before

pub stores_stay_intact : {D : Type 0} (x : Setup D) (bytes : ReqId → List ℕ) → StoresStayIntact x bytes
stores_stay_intact x bytes step old new a b lives goes moves agrees before chunk =
    one_intact x bytes chunk step old new a b (accounted x step old a new b moves) lives agrees.told goes.last _ (lives.life chunk) (goes.last.life chunk) (goes.goes chunk) (before chunk)
