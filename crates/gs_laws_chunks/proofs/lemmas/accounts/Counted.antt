-- What a server has named, and the master took, is counted: while the master isn't restarted the server has told of it in memory.
use Rattle.gs_laws_lift.specs.stores.Left.{as_left}
use Rattle.gs_laws_chunks.proofs.lemmas.accounts.Well.{well_steady}
use Rattle.std.proofs.Common.{arith, ◌≡◌, ◌∙◌, inl, inr, ◌⊎◌, ◌<◌, ◌≤◌, ◌&&◌, ◌==◌, ◌||◌, ℕ, Bool, true, false, List, [], ◌∷◌, Option, Some, None, Result, Ok, Err, refl, ap, subst, sym, nat_lt}
use Rattle.std.specs.Prelude.{is_some, option_map, if◌then◌else◌}
use Rattle.std.specs.FinMap as fin
use Rattle.std.specs.List.{AllByRecursion, list_all}
use Rattle.std.specs.Ordering.{nat_cmp}
use Rattle.std.proofs.lemmas.Bool.{false≢true, true≢false, and_parts, or_cases}
use Rattle.std.proofs.lemmas.Bool.Decides.{nat_tests}
use Rattle.gs_base.specs.Members.{is_member}
use Rattle.gs_base.specs.declared.numbers.Moment.{Moment}
use Rattle.gs_base.specs.declared.refusal.Refusal.{Refusal}
use Rattle.gs_base.specs.declared.refusal.Refusal.TheVariants as refusals
use Rattle.gs_laws_chunk.proofs.lemmas.machine.Facts.{reached_world}
use Rattle.gs_laws_chunk.proofs.lemmas.machine.Known.{Restored}
use Rattle.gs_laws_chunk.proofs.lemmas.machine.Worlds.{WorldOk, said}
use Rattle.gs_laws_chunk.specs.machine.Machine.{ChunkWorld, Learned, WasTold}
use Rattle.gs_laws_master.proofs.lemmas.rooms.RoomsOfTurns.{others_leave, tells_of}
use Rattle.gs_laws_master.proofs.lemmas.views.ServersTold.{low_servers}
use Rattle.gs_laws_master.specs.Promises.{AllFit, IsKept, IsRestored}
use Rattle.gs_laws_master.specs.Rooms.{TellsHandles, restored_in}
use Rattle.gs_laws_master.specs.Written.{AreHolders}
use Rattle.gs_master_record.specs.Plain.{RollbackCommit}
use Rattle.gs_master_record.specs.Writable.{AreServers}
use Rattle.gs_master_spec.specs.Applied.{is_prepared_on, replayed}
use Rattle.gs_master_spec.specs.Chunks.{members_in}
use Rattle.gs_master_spec.specs.Durable.{Durable, Settled, is_listed, is_ordinary, is_rolling, prepared_of, prepared_view, upgrade_epoch}
use Rattle.gs_master_spec.specs.Handling.{handle}
use Rattle.gs_master_spec.specs.State.{State, Turn, is_failed}
use Rattle.gs_master_spec.specs.Upgrades.{told_of}
use Rattle.gs_master_spec.specs.Volatile.{servers_or_none}
use Rattle.gs_master_spec.specs.declared.asking.Prepared.{Prepared}
use Rattle.gs_laws_moves.proofs.lemmas.upgrades.Records.{turn_fits}
use Rattle.gs_laws_moves.specs.upgrades.Since.{IsSince}
use Rattle.gs_master.specs.Masters.{MasterOf}
use Rattle.gs_laws_moves.proofs.lemmas.moves.Right.{one_fits}
use Rattle.gs_msg.specs.declared.body.Body.{Body}
use Rattle.gs_msg.specs.declared.body.Body.TheVariants as bodies
use Rattle.gs_msg.specs.declared.event.Happening.{Happening}
use Rattle.gs_msg.specs.declared.event.Happening.TheVariants as happenings
use Rattle.gs_msg.specs.declared.message.Message.{Message}
use Rattle.gs_msg.specs.declared.node.NodeId.{NodeId}
use Rattle.gs_msg.specs.declared.node.NodeId.TheVariants as nodes
use Rattle.gs_nodes.specs.declared.place.MasterPlace.{MasterPlace}
use Rattle.gs_nodes.specs.declared.place.MasterPlace.TheVariants.{Standing}
use Rattle.gs_laws_parts.specs.server.Messages.{NamesIt}
use Rattle.gs_laws_parts.specs.server.Requests.{bytes_in}
use Rattle.gs_laws_parts.specs.server.Showing.{Setting}
use Rattle.gs_laws_parts.specs.server.Telling.{NamesAll, ServersTell, TellsBody}
use Rattle.gs_world.proofs.Reaching.{HaveSizes}
use Rattle.gs_world.specs.Histories.{History}
use Rattle.gs_world.specs.Runs.{Comes, Goes, Step, Takes}
use Rattle.gs_world.specs.Sent.{IsSent, Sent, message_of}
use Rattle.gs_laws_chunks.specs.accounts.Accounts.{Account, view_at}
use Rattle.gs_laws_chunks.specs.accounts.Running.{IsGiven, Setup}
use Rattle.gs_laws_chunks.proofs.lemmas.accounts.Edits.{AreNumbered}
use Rattle.gs_laws_chunks.proofs.lemmas.accounts.Holding.{seen_since, sees_there}
use Rattle.gs_laws_chunks.specs.accounts.Upgrading.{IsUpgrading, RunsUpgraded, is_holder}
use Rattle.gs_laws_world.specs.steady.Steady.{LastsSteady}
use Rattle.gs_laws_lift.specs.stores.Doing.{HasDurable}
use Rattle.gs_laws_lift.specs.stores.Showing.{setting}
use Rattle.gs_laws_chunks.proofs.lemmas.accounts.Became.{Became, BecameAll, ByItself, ByMessage, Cuts, IsHearing, Loses, Opened, Stays, Turns, Waits, Whole, became}
use Rattle.gs_laws_chunks.proofs.lemmas.accounts.Going.{RisesTo, committed_ordinary, place_rises_all, same_rises, then_rises, upgrading_on}
use Rattle.gs_laws_chunks.proofs.lemmas.accounts.Leading.{StandsSo, has_at, steady_at}
use Rattle.gs_laws_chunks.proofs.lemmas.accounts.Telling.{BeginsSo, begins_so, same_master, stands_next, told_has}
use Rattle.gs_laws_chunks.specs.accounts.Accepting.{HasTaken, NamesChunk, NoRestart, TakesSuch, WasNamed, met_at, restarts_master}
use Rattle.gs_laws_chunks.specs.accounts.Hearing.{heard_by_master, to_master}

-- ---- servers are numbered below 16

abbrev AllLow : List ℕ → Type 0
AllLow servers = list_all (λ s. nat_lt s 16) servers ≡ true

low_member : (servers : List ℕ) (server : ℕ) → AllLow servers → is_member servers server ≡ true → server < 16
low_member [] server low is = absurd (false≢true is)
low_member (s ∷ servers) server low is =
    let parts = and_parts (nat_lt s 16) (list_all (λ s. nat_lt s 16) servers) low in
    elim (or_cases (s == server) (is_member servers server) is) [
      | inl same ↦ this (nat_lt s 16) refl parts.0 same
      | inr more ↦ low_member servers server parts.1 more
    ]
  where
    this : (b : Bool) → nat_lt s 16 ≡ b → b ≡ true → (s == server) ≡ true → server < 16
    this b is below same = (let here : nat_lt s 16 ≡ true = is ∙ below in grind (arith, nat_tests))

low_told : (servers : List ℕ) (server : ℕ) → AreServers servers → is_member servers server ≡ true → server < 16
low_told servers server (bits, within, same) is = low_member servers server (subst AllLow (sym same) (low_servers _)) is

prepared_same : {a b : Prepared} → ◌≡◌ {A = Option Prepared} (Some a) (Some b) → a ≡ b
prepared_same e = cc

-- so is who has a chunk as it stood at the prepare
low_on : (p : Prepared) (server : ℕ) → AreServers p.view.members → AreServers p.holders → is_prepared_on p server ≡ true → server < 16
low_on p server members holders has = elim (or_cases (is_member p.view.members server) (is_member p.holders server) has) [
  | inl among ↦ low_told p.view.members server members among
  | inr holds ↦ low_told p.holders server holders holds
]

low_prepared : (d : Durable) (chunk server : ℕ) (p : Prepared) → IsKept d → AreHolders d → prepared_view d chunk ≡ Some p → is_prepared_on p server ≡ true → server < 16
low_prepared d chunk server p kept holders is has = each (upgrade_epoch d.phase d.epoch) (fin.get d.prepared chunk) refl (fin.get d.chunks chunk) refl is
  where
    each : (u : Option ℕ) (k : Option Prepared) → fin.get d.prepared chunk ≡ k → (c : Option Settled) → fin.get d.chunks chunk ≡ c → prepared_of u k c ≡ Some p → server < 16
    each None k there c settled e = absurd (false≢true (ap is_some e))
    each (Some up) (Some k) there c settled e =
        let same = prepared_same e in
        subst (λ q. is_prepared_on q server ≡ true → server < 16) same (low_on k server ((kept.prepared chunk k there).1.told.1.1.1.0) (holders chunk k there)) has
    each (Some up) None there None settled e = absurd (false≢true (ap is_some e))
    each (Some up) None there (Some y) settled e = by_test (nat_lt y.view.stamp.epoch up) e
      where
        own : Prepared
        own = record { view = y.view; holders = [] }

        by_test : (b : Bool) → (if b then Some own else None) ≡ Some p → server < 16
        by_test false e = absurd (false≢true (ap is_some e))
        by_test true e =
            subst (λ q. is_prepared_on q server ≡ true → server < 16) (prepared_same e)
            (λ on. elim (or_cases (is_member y.view.members server) false on) [
              | inl among ↦ low_told y.view.members server (kept.views chunk y settled).told.1.1.1.0 among
              | inr none ↦ absurd (false≢true none)
            ]) has

-- ---- what is heard was sent

message_is : {a b : Message} → ◌≡◌ {A = Option Message} (Some a) (Some b) → a ≡ b
message_is e = cc

to_master_is : (found : Option Message) (message : Message) → to_master found ≡ Some message → found ≡ Some message
to_master_is None message e = absurd (false≢true (ap is_some e))
to_master_is (Some m) message e = by_to m.to refl
  where
    by_to : (to : NodeId) → m.to ≡ to → Some m ≡ Some message
    by_to nodes.Master is = sym (here is) ∙ e
      where
        here : m.to ≡ nodes.Master → to_master (Some m) ≡ Some m
        here h = rw h refl
    by_to (nodes.Server id) is = absurd (false≢true (ap is_some (sym (here is) ∙ e)))
      where
        here : m.to ≡ nodes.Server id → to_master (Some m) ≡ None
        here h = rw h refl
    by_to (nodes.Client id) is = absurd (false≢true (ap is_some (sym (here is) ∙ e)))
      where
        here : m.to ≡ nodes.Client id → to_master (Some m) ≡ None
        here h = rw h refl

pub was_sent : (step : Step) (sent : Sent) (message : Message) → heard_by_master step sent ≡ Some message → IsSent message sent
was_sent (Takes client) sent message e = absurd (false≢true (ap is_some e))
was_sent (Comes event) sent message e = by_happening event.happening e
  where
    by_happening : (h : Happening) → heard_by_master (Comes (record { moment = event.moment; happening = h })) sent ≡ Some message → IsSent message sent
    by_happening (happenings.Deliver id) e = (id, to_master_is (message_of sent id) message e)
    by_happening other e = absurd (false≢true (ap is_some e))

-- ---- whoever names a chunk has learned no later epoch than the master's

named_in : (chunk : ℕ) (w : ChunkWorld) (server epoch : ℕ) (handles : List ℕ) → AllByRecursion (NamesIt chunk w server epoch) handles → is_member handles chunk ≡ true → WasTold w server (Learned epoch)
named_in chunk w server epoch [] all is = absurd (false≢true is)
named_in chunk w server epoch (handle ∷ handles) all is = elim (or_cases (handle == chunk) (is_member handles chunk) is) [
  | inl same ↦ all.0 (grind (arith, nat_tests))
  | inr more ↦ named_in chunk w server epoch handles all.1 more
]

tells_names : (c : Setting) (chunk : ℕ) (w : ChunkWorld) (message : Message) (epoch server : ℕ) (handles : List ℕ) → message.from ≡ nodes.Server server → message.body ≡ bodies.Learned epoch handles → ServersTell c chunk w message → AllByRecursion (NamesIt chunk w server epoch) handles
tells_names c chunk w message epoch server handles from says tells = subst (λ node. NamesAll chunk w node epoch handles) from (subst (λ body. TellsBody c chunk w message.from message.to body) says tells)

module _ (sizes : HaveSizes) (law : AreNumbered) {D : Type 0} (x : Setup D) where
  learned_within : (prepared : History D) (before : Account) (old : History D) (a : Account) (chunk server epoch : ℕ) (message : Message) → IsUpgrading x prepared before old a → is_listed before.durable chunk ≡ true → IsSent message old.sent → NamesChunk epoch chunk server message → epoch ≤ a.durable.epoch
  learned_within prepared before old a chunk server epoch message up listed (id, sent) names =
      let k = seen_since sizes law x prepared old before a up chunk listed in
      let w = k.last.alive.world in
      let ok : WorldOk w = reached_world w k.last.alive.reached in
      let c = setting x.config (bytes_in (sees_there sizes law x prepared old before a up).asked) k.last.alive.reached.0.epoch in
      let tells = tells_names c chunk w message epoch server names.handles names.from names.says (k.last.alive.shows.sent id message sent) in
      let restored : Restored w.known epoch server = said w ok server (Learned epoch) (named_in chunk w server epoch names.handles tells names.named) in
      let within = restored.within in
      let now = (ok.entry).epoch in
      let shown = k.last.told.epoch in
      omega arith

-- ---- one step

-- at a place where a master stands, a server has told of a chunk in memory
abbrev HasIt : {D : Type 0} → MasterPlace D → ℕ → ℕ → Type 0
HasIt {D} place chunk server = (m : MasterOf D) → place ≡ Standing m → is_member (told_of m.state chunk) server ≡ true

as_told : (old next : State) (chunk server : ℕ) → restored_in next ≡ restored_in old → is_member (told_of old chunk) server ≡ true → is_member (told_of next chunk) server ≡ true
as_told old next chunk server same has = ap (λ (r : fin.FinMap nat_cmp (List ℕ)). is_member (servers_or_none (fin.get r chunk)) server) same ∙ has

-- a server tells of what it has in this epoch, or it isn't so
tells_or_not : (s : State) (message : Message) → ((server : ℕ) × (handles : List ℕ) × TellsHandles s message server handles) ⊎ ((server : ℕ) (handles : List ℕ) → TellsHandles s message server handles → ⊥)
tells_or_not s message = by_from message.from refl
  where
    by_from : (from : NodeId) → message.from ≡ from → ((server : ℕ) × (handles : List ℕ) × TellsHandles s message server handles) ⊎ ((server : ℕ) (handles : List ℕ) → TellsHandles s message server handles → ⊥)
    by_from nodes.Master is = inr (λ server handles t. absurd (apart (sym is ∙ t.from)))
      where
        apart : {server : ℕ} → nodes.Master ≡ nodes.Server server → ⊥
        apart e = absurd (cc)
    by_from (nodes.Client id) is = inr (λ server handles t. absurd (apart (sym is ∙ t.from)))
      where
        apart : {server : ℕ} → nodes.Client id ≡ nodes.Server server → ⊥
        apart e = absurd (cc)
    by_from (nodes.Server id) is = by_body message.body refl
      where
        by_body : (body : Body) → message.body ≡ body → ((server : ℕ) × (handles : List ℕ) × TellsHandles s message server handles) ⊎ ((server : ℕ) (handles : List ℕ) → TellsHandles s message server handles → ⊥)
        by_body (bodies.Learned epoch handles) says = by_tests (epoch == s.durable.epoch) refl (is_rolling s.durable.phase) refl (is_failed s.fault) refl
          where
            by_tests : (a : Bool) → (epoch == s.durable.epoch) ≡ a → (b : Bool) → is_rolling s.durable.phase ≡ b → (c : Bool) → is_failed s.fault ≡ c → ((server : ℕ) × (handles : List ℕ) × TellsHandles s message server handles) ⊎ ((server : ℕ) (handles : List ℕ) → TellsHandles s message server handles → ⊥)
            by_tests true same true begun false sound =
                let at : epoch ≡ s.durable.epoch = grind (arith, nat_tests) in inl (id, handles, record { from = is; said = says ∙ ap (λ e. bodies.Learned e handles) at; begun = begun; sound = sound })
            by_tests false other b begun c sound = inr (λ server more t. absurd (false≢true (sym other ∙ same_epoch more (sym says ∙ t.said))))
              where
                same_epoch : (more : List ℕ) → bodies.Learned epoch handles ≡ bodies.Learned s.durable.epoch more → (epoch == s.durable.epoch) ≡ true
                same_epoch more e = (let at : epoch ≡ s.durable.epoch = cc in grind (arith, nat_tests))
            by_tests true same false begun c sound = inr (λ server more t. absurd (false≢true (sym begun ∙ t.begun)))
            by_tests true same true begun true sound = inr (λ server more t. absurd (true≢false (sym sound ∙ t.sound)))
        by_body other says = inr (λ server handles t. absurd (apart (sym says ∙ t.said)))
          where
            apart : {e : ℕ} {handles : List ℕ} → other ≡ bodies.Learned e handles → ⊥
            apart e = absurd (cc)

or_true : (a b : Bool) → a ≡ true → (a || b) ≡ true
or_true true b is = refl
or_true false b is = absurd (false≢true is)

or_second : (a b : Bool) → b ≡ true → (a || b) ≡ true
or_second true b is = refl
or_second false b is = is

-- it stays, where a message leaves an upgrade that stands or is rolled back
stays_heard : {D : Type 0} (m : MasterOf D) (message : Message) (moment : Moment) (chunk server : ℕ) → server < 16 → AllFit m.state (handle m.config m.state message moment) → is_ordinary (handle m.config m.state message moment).after.durable.phase ≡ false
    → is_member (told_of m.state chunk) server ≡ true → is_member (told_of (handle m.config m.state message moment).after chunk) server ≡ true
stays_heard {D = D} m message moment chunk server low fit going has = by_telling (tells_or_not m.state message)
  where
    t : Turn
    t = handle m.config m.state message moment

    by_telling : ((other : ℕ) × (handles : List ℕ) × TellsHandles m.state message other handles) ⊎ ((other : ℕ) (handles : List ℕ) → TellsHandles m.state message other handles → ⊥) → is_member (told_of (handle m.config m.state message moment).after chunk) server ≡ true
    by_telling (inl (other, handles, tells)) = tells_of m.config m.state message moment other handles chunk server tells low ∙ or_true (is_member (told_of m.state chunk) server) _ has
    by_telling (inr none) = elim (others_leave m.config m.state message moment none) [
      | inl same ↦ as_told m.state t.after chunk server same has
      | inr (commits, empty) ↦ absurd (true≢false (sym (committed_ordinary m.state.durable t.after.durable m.state.durable.epoch commits.0 (one_fits m.state.durable t.after.durable (RollbackCommit m.state.durable.epoch commits.0) (subst (λ records. replayed m.state.durable records ≡ Some t.after.durable) commits.1 fit))) ∙ going))
    ]

module _ {D : Type 0} (x : Setup D) where
  stays_told : (step : Step) (sent : Sent) (said : Result (Unit {0}) Refusal) (place new : MasterPlace D) (e : Durable) (chunk server : ℕ) → server < 16 → Became x.seen step sent said place new → HasDurable x.seen new e → is_ordinary e.phase ≡ false → restarts_master step ≡ false
      → HasIt place chunk server → HasIt new chunk server
  stays_told step sent said place new e chunk server low (Stays m after at to is refused calm) ek going none has other also =
      subst (λ (z : MasterOf D). is_member (told_of z.state chunk) server ≡ true) (same_master new after other to also) (subst (λ (s : State). is_member (told_of s chunk) server ≡ true) (sym is) (has m at))
  stays_told step sent said place new e chunk server low (Turns m after heard t at to turn written is hears calm) ek going none has other also =
      subst (λ (z : MasterOf D). is_member (told_of z.state chunk) server ≡ true) (same_master new after other to also) (subst (λ (s : State). is_member (told_of s chunk) server ≡ true) (sym is) (by_hearing hears))
    where
      by_hearing : IsHearing step sent said m.config m.state heard t → is_member (told_of t.after chunk) server ≡ true
      by_hearing (ByItself alone unheard left) = as_told m.state t.after chunk server left (has m at)
      by_hearing (ByMessage message moment found hearing same says) =
          subst (λ (u : Turn). is_member (told_of u.after chunk) server ≡ true) (sym same)
          (stays_heard m message moment chunk server low (subst (AllFit m.state) same (turn_fits m.config heard m.state t turn written))
          (subst (λ (u : Turn). is_ordinary u.after.durable.phase ≡ false) same (sym (ap (λ (z : Durable). is_ordinary z.phase) (has_at x new after e to ek ∙ ap (λ (z : State). z.durable) is)) ∙ going)) (has m at))
  stays_told step sent said place new e chunk server low (Opened after d log had to is unheard again) ek going none has other also = absurd (true≢false (sym again ∙ none))
  stays_told step sent said place new e chunk server low (Waits none f unheard) ek going calm has other also = absurd (none other also)

  -- what is taken in the epoch of the rollback is counted
  taken_told : (step : Step) (old new : History D) (goes : Goes x.seen x.failures x.armed step old new) (d : Durable) (chunk server epoch : ℕ) → server < 16 → LastsSteady x.seen (as_left old.nodes.master) → Became x.seen step old.sent (met_at x step old new goes) (as_left old.nodes.master) (as_left new.nodes.master)
      → HasDurable x.seen (as_left old.nodes.master) d → is_rolling d.phase ≡ true → d.epoch ≡ epoch → TakesSuch x (NamesChunk epoch chunk server) step old new goes → HasIt (as_left new.nodes.master) chunk server
  taken_told step old new goes d chunk server epoch low h (Stays m after at to is refused calm) dk rolling same (message, found, names, taken) other also = absurd (apart (sym taken ∙ refused message found))
    where
      apart : ◌≡◌ {A = Result (Unit {0}) Refusal} (Ok tt) (Err refusals.Memory) → ⊥
      apart e = absurd (cc)
  taken_told step old new goes d chunk server epoch low h (Turns m after heard t at to turn written is hears calm) dk rolling same (message, found, names, taken) other also =
      subst (λ (z : MasterOf D). is_member (told_of z.state chunk) server ≡ true) (same_master (as_left new.nodes.master) after other to also) (subst (λ (s : State). is_member (told_of s chunk) server ≡ true) (sym is) (by_hearing hears))
    where
      dm : d ≡ m.state.durable
      dm = has_at x (as_left old.nodes.master) m d at dk

      tells : TellsHandles m.state message server names.handles
      tells = record {
        from = names.from;
        said = names.says ∙ ap (λ e. bodies.Learned e names.handles) (sym same ∙ ap (λ (z : Durable). z.epoch) dm);
        begun = sym (ap (λ (z : Durable). is_rolling z.phase) dm) ∙ rolling;
        sound = (steady_at x (as_left old.nodes.master) m at h).firm.sound;
      }

      by_hearing : IsHearing step old.sent (met_at x step old new goes) m.config m.state heard t → is_member (told_of t.after chunk) server ≡ true
      by_hearing (ByItself alone unheard left) = absurd (false≢true (ap is_some (sym unheard ∙ found)))
      by_hearing (ByMessage heard_one moment there hearing is_turn says) =
          subst (λ (u : Turn). is_member (told_of u.after chunk) server ≡ true) (sym (is_turn ∙ ap (λ one. handle m.config m.state one moment) (message_is (sym there ∙ found))))
          (tells_of m.config m.state message moment server names.handles chunk server tells low
          ∙ or_second (is_member (told_of m.state chunk) server) ((server == server) && is_member names.handles chunk) (ap (λ b. (server == server) && b) names.named ∙ itself server))
        where
          itself : (n : ℕ) → ((n == n) && true) ≡ true
          itself n = grind (arith, nat_tests)
  taken_told step old new goes d chunk server epoch low h (Opened after f log had to is unheard again) dk rolling same (message, found, names, taken) other also = absurd (false≢true (ap is_some (sym unheard ∙ found)))
  taken_told step old new goes d chunk server epoch low h (Waits none f unheard) dk rolling same taken other also = absurd (none other also)

  stays_told_all : {Holds : Type 0} (step : Step) (sent : Sent) (said : Result (Unit {0}) Refusal) (place new : MasterPlace D) (e : Durable) (chunk server : ℕ) → server < 16 → BecameAll x.seen step sent said Holds place new → HasDurable x.seen new e → is_ordinary e.phase ≡ false → restarts_master step ≡ false
      → HasIt place chunk server → HasIt new chunk server
  stays_told_all step sent said place new e chunk server low (Whole b) ek going none has = stays_told step sent said place new e chunk server low b ek going none has
  stays_told_all step sent said place new e chunk server low (Loses m at none fails f) ek going calm has = λ other also. absurd (none other also)
  stays_told_all step sent said place new e chunk server low (Cuts m heard t many f at none fails turn written below stand had handles) ek going calm has = λ other also. absurd (none other also)

  taken_told_all : {Holds : Type 0} (step : Step) (old new : History D) (goes : Goes x.seen x.failures x.armed step old new) (d : Durable) (chunk server epoch : ℕ) → server < 16 → LastsSteady x.seen (as_left old.nodes.master)
      → BecameAll x.seen step old.sent (met_at x step old new goes) Holds (as_left old.nodes.master) (as_left new.nodes.master)
      → HasDurable x.seen (as_left old.nodes.master) d → is_rolling d.phase ≡ true → d.epoch ≡ epoch → TakesSuch x (NamesChunk epoch chunk server) step old new goes → HasIt (as_left new.nodes.master) chunk server
  taken_told_all step old new goes d chunk server epoch low h (Whole b) dk rolling same taken = taken_told step old new goes d chunk server epoch low h b dk rolling same taken
  taken_told_all step old new goes d chunk server epoch low h (Loses m at none fails f) dk rolling same taken = λ other also. absurd (none other also)
  taken_told_all step old new goes d chunk server epoch low h (Cuts m heard t many f at none fails turn written below stand has handles) dk rolling same taken = λ other also. absurd (none other also)

-- ---- over an upgrade

module _ {D : Type 0} (x : Setup D) (given : IsGiven x) (prepared : Durable) where
  -- while the master isn't restarted it stays
  stays_through : (steps : List Step) (old : History D) (a : Account) (new : History D) (b : Account) (chunk server : ℕ) → server < 16 → RunsUpgraded x steps old a new b → NoRestart steps → StandsSo x prepared old → HasIt (as_left old.nodes.master) chunk server → HasIt (as_left new.nodes.master) chunk server
  stays_through [] old a new b chunk server low (is, same) calm s has = subst (λ (h : History D). HasIt (as_left h.nodes.master) chunk server) (sym is) has
  stays_through (step ∷ steps) old a new b chunk server low (mid, c, moves, going, rest) calm s has =
      let next = stands_next x given prepared step old mid a c moves going s in
      stays_through steps mid c new b chunk server low rest calm.1 next
      (stays_told_all x step old.sent (met_at x step old mid moves.steps.goes) (as_left old.nodes.master) (as_left mid.nodes.master) c.durable chunk server low (became x given step old mid s.well moves.steps) (told_has x mid c.durable next.well moves.told) going calm.0 has)

  -- epochs rise
  rises_through : (steps : List Step) (old : History D) (a : Account) (new : History D) (b : Account) → RunsUpgraded x steps old a new b → StandsSo x prepared old → HasDurable x.seen (as_left old.nodes.master) a.durable → RisesTo a.durable b.durable
  rises_through [] old a new b (is, same) s has = (let d = ap (λ (k : Account). k.durable) same in same_rises a.durable b.durable d)
  rises_through (step ∷ steps) old a new b (mid, c, moves, going, rest) s has =
      let next = stands_next x given prepared step old mid a c moves going s in
      let now = told_has x mid c.durable next.well moves.told in
      then_rises a.durable c.durable b.durable
      (place_rises_all x step old.sent (met_at x step old mid moves.steps.goes) (as_left old.nodes.master) (as_left mid.nodes.master) a.durable c.durable (well_steady x old s.well) (became x given step old mid s.well moves.steps) has now ((s.since a.durable has).stands) going)
      (rises_through steps mid c new b rest next now)

module _ (sizes : HaveSizes) (law : AreNumbered) {D : Type 0} (x : Setup D) (given : IsGiven x) (prepared : History D) (before : Account) where
  -- what was taken in the last epoch is counted at the end
  counted : (steps : List Step) (old : History D) (a : Account) (new : History D) (b : Account) (runs : RunsUpgraded x steps old a new b) (chunk server : ℕ) → server < 16 → is_listed before.durable chunk ≡ true → is_rolling b.durable.phase ≡ true → IsUpgrading x prepared before old a
      → StandsSo x before.durable old → HasDurable x.seen (as_left old.nodes.master) a.durable → HasTaken x (NamesChunk b.durable.epoch chunk server) steps old a new b runs → HasIt (as_left new.nodes.master) chunk server
  counted [] old a new b runs chunk server low listed rolling up s has taken = absurd taken
  counted (step ∷ steps) old a new b (mid, c, moves, going, rest) chunk server low listed rolling up s has (inl (taken, calm)) =
      let next = stands_next x given before.durable step old mid a c moves going s in
      let rise = rises_through x given before.durable (step ∷ steps) old a new b (mid, c, moves, going, rest) s has in
      let within = learned_within sizes law x prepared before old a chunk server b.durable.epoch taken.0 up listed (was_sent step old.sent taken.0 taken.1) taken.2 in
      let same : a.durable.epoch ≡ b.durable.epoch = (let up_to = rise.rises in omega arith) in
      stays_through x given before.durable steps mid c new b chunk server low rest calm next
      (taken_told_all x step old mid moves.steps.goes a.durable chunk server b.durable.epoch low (well_steady x old s.well) (became x given step old mid s.well moves.steps) has (sym (ap is_rolling (rise.stays same)) ∙ rolling) same taken)
  counted (step ∷ steps) old a new b (mid, c, moves, going, rest) chunk server low listed rolling up s has (inr later) =
      let next = stands_next x given before.durable step old mid a c moves going s in
      counted steps mid c new b rest chunk server low listed rolling (upgrading_on x prepared old mid before a c step up moves going) next (told_has x mid c.durable next.well moves.told) later

-- ---- so who was named is restored

module _ (sizes : HaveSizes) (law : AreNumbered) {D : Type 0} (x : Setup D) where
  pub named_restored : (prepared now : History D) (before after : Account) (upgrade : IsUpgrading x prepared before now after) (m : MasterOf D) (chunk : ℕ) → (as_left now.nodes.master) ≡ Standing m → after.durable ≡ m.state.durable → LastsSteady x.seen (as_left now.nodes.master) → IsSince before.durable after.durable
      → is_rolling after.durable.phase ≡ true → WasNamed x prepared before now after upgrade chunk → IsRestored m.state chunk
  named_restored prepared now before after upgrade m chunk at same h since rolling (server, current, taken) = by_kept (prepared_view after.durable chunk) refl
    where
      parts : (is_listed before.durable chunk ≡ true) × ((is_member (members_in (view_at before chunk)) server || is_holder server (prepared_view after.durable chunk)) ≡ true)
      parts = and_parts (is_listed before.durable chunk) (is_member (members_in (view_at before chunk)) server || is_holder server (prepared_view after.durable chunk)) current

      some : is_some (prepared_view after.durable chunk) ≡ true
      some = since.kept.restored _ chunk since.back since.stands parts.0

      by_kept : (o : Option Prepared) → prepared_view after.durable chunk ≡ o → IsRestored m.state chunk
      by_kept None kept = absurd (false≢true (sym (ap is_some kept) ∙ some))
      by_kept (Some p) kept = (server, record { is_server = low; prepared = p; kept = kept_there; has_it = has_it; told = told })
        where
          kept_there : prepared_view m.state.durable chunk ≡ Some p
          kept_there = ap (λ (d : Durable). prepared_view d chunk) (sym same) ∙ kept

          view : Some p.view ≡ view_at before chunk
          view = sym (ap (option_map (λ (q : Prepared). q.view)) kept) ∙ since.views chunk parts.0

          has_it : is_prepared_on p server ≡ true
          has_it = ap (λ v. is_member (members_in v) server || is_member p.holders server) view ∙ ap (λ o. is_member (members_in (view_at before chunk)) server || is_holder server o) (sym kept) ∙ parts.1

          low : server < 16
          low = low_prepared m.state.durable chunk server p ((steady_at x (as_left now.nodes.master) m at h).steady.firm.stands.kept) ((steady_at x (as_left now.nodes.master) m at h).steady.within.holders) kept_there has_it

          begun : BeginsSo x prepared now before after upgrade
          begun = begins_so x prepared now before after upgrade

          first : IsUpgrading x prepared before prepared before
          first = record { old = upgrade.old; first = upgrade.first; reached = upgrade.reached; step = upgrade.step; moves = upgrade.moves; accepted = upgrade.accepted; steps = []; runs = (refl, refl) }

          told : is_member (told_of m.state chunk) server ≡ true
          told = counted sizes law x begun.given prepared before upgrade.steps prepared before now after upgrade.runs chunk server low parts.0 rolling first begun.stands begun.has taken m at
