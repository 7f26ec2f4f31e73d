-- A chunk of which a view is settled has been promised by a server of the store.
use Rattle.std.proofs.Common.{◌≡◌, ◌≢◌, ◌∙◌, ◌<◌, inl, inr, ℕ, zero, suc, Bool, true, false, List, [], ◌∷◌, Option, Some, None, refl, ap, sym, subst, arith}
use Rattle.std.specs.Prelude.{is_some, nat_eq, slice_get, slice_set}
use Rattle.std.specs.FinMap as fin
use Rattle.std.proofs.lemmas.Bool.{eq-eqb, eqb-true, false≢true}
use Rattle.gs_base.specs.declared.numbers.ReqId.{ReqId}
use Rattle.gs_block.specs.Written.{TellsApart}
use Rattle.gs_laws_chunk.proofs.lemmas.machine.Committed.{members_stood}
use Rattle.gs_laws_chunk.proofs.lemmas.machine.Facts.{reached_world}
use Rattle.gs_laws_chunk.proofs.lemmas.machine.Knowing.{masters_keep_prepared, masters_people}
use Rattle.gs_laws_chunk.proofs.lemmas.machine.Lasting.{agrees}
use Rattle.gs_laws_chunk.proofs.lemmas.machine.Mastering.{masters_settle_once}
use Rattle.gs_laws_chunk.proofs.lemmas.machine.Worlds.{WorldOk, leads_later, leads_then}
use Rattle.gs_laws_chunk.specs.machine.Events.{Leads, Rests, is_of}
use Rattle.gs_laws_chunk.specs.machine.Laws.{IsReached as IsReachedIn, world_of}
use Rattle.gs_laws_chunk.specs.machine.Machine.{ChunkWorld, Member}
use Rattle.gs_laws_chunk.specs.machine.Mastering.{AreOfMaster, IsRestored, SettlesOnce}
use Rattle.gs_laws_parts.specs.master.Rows.{RowsGo}
use Rattle.gs_laws_moves.specs.moves.Epochs.{prepares}
use Rattle.gs_master_spec.specs.Durable.{Durable, Settled, is_given}
use Rattle.gs_server.specs.Places.{Place}
use Rattle.gs_server.specs.Servers.{Server}
use Rattle.gs_laws_parts.proofs.lemmas.server.Stamps.{stamp_number}
use Rattle.gs_laws_parts.specs.server.Beside.{IsSameMember}
use Rattle.gs_laws_parts.specs.server.Requests.{Asked, IsOfOneEdit, bytes_in}
use Rattle.gs_laws_parts.specs.server.Unborn.{KeepsNothing}
use Rattle.gs_world.proofs.Reaching.{HaveSizes}
use Rattle.gs_world.specs.Histories.{History}
use Rattle.gs_world.specs.Runs.{Step}
use Rattle.gs_laws_chunks.proofs.lemmas.accounts.Durables.{told_is_had}
use Rattle.gs_laws_chunks.proofs.lemmas.accounts.Edits.{AreNumbered}
use Rattle.gs_laws_chunks.proofs.lemmas.accounts.Holding.{reach_more}
use Rattle.gs_laws_chunks.proofs.lemmas.accounts.Reached.{run_stays}
use Rattle.gs_laws_chunks.proofs.lemmas.accounts.Runs.{has_told, living_told, seen_of}
use Rattle.gs_laws_chunks.proofs.lemmas.accounts.SeeingThrough.{reached_through, reached_well, sees_first_through, sees_step_through}
use Rattle.gs_laws_chunks.specs.accounts.Accounts.{Account}
use Rattle.gs_laws_chunks.specs.accounts.Joining.{Life}
use Rattle.gs_laws_chunks.specs.accounts.Running.{IsGiven, IsReached, Runs, Setup}
use Rattle.gs_laws_chunks.specs.accounts.Seeing.{Sees}
use Rattle.gs_laws_lift.proofs.lemmas.stores.AskingRuns.{of_one_edit, pushes_right}
use Rattle.gs_laws_lift.proofs.lemmas.stores.Beginning.{begins_told, not_given}
use Rattle.gs_laws_lift.proofs.lemmas.stores.Running.{before}
use Rattle.gs_laws_lift.proofs.lemmas.stores.TellingAll.{asked_over_all}
use Rattle.gs_laws_lift.specs.stores.Asking.{AreAskedIn}
use Rattle.gs_laws_lift.specs.stores.Doing.{HasDurable}
use Rattle.gs_laws_lift.specs.stores.Going.{AllSent}
use Rattle.gs_laws_lift.specs.stores.Joint.{AtMaster, AtServer, ByMaster, ByServer, Elsewhere, GoesBy}
use Rattle.gs_laws_lift.specs.stores.Left.{left_in}
use Rattle.gs_laws_lift.specs.stores.Living.{ComesAlive, GoesOn}
use Rattle.gs_laws_lift.specs.stores.Saying.{PushRight}
use Rattle.gs_laws_lift.specs.stores.Showing.{IsAlive}
use Rattle.gs_laws_runs.proofs.lemmas.plain.Beginning.{opens_as_start}
use Rattle.gs_laws_runs.proofs.lemmas.plain.Writing.{has_one}

-- a server has promised some stamp
abbrev HasPromised : ChunkWorld → Type 0
HasPromised w = (j : ℕ) × (0 < w.known.promise j)

promised_on : (w v : ChunkWorld) → IsReachedIn w → Leads w v → HasPromised w → HasPromised v
promised_on w v reached leads p = (p.0, (let up = (leads_later w v leads (reached_world w reached)).promise p.0 in let was = p.1 in omega arith))

-- a list that isn't empty has a first
has_first : (xs : List ℕ) → xs ≢ [] → (j : ℕ) × (is_of xs j ≡ true)
has_first [] some = absurd (some refl)
has_first (x ∷ xs) some = (x, rw (eq-eqb x x refl) refl)

-- ---- what the master does

module _ (chunk : ℕ) (d e : Durable) (w v : ChunkWorld) (reached : IsReachedIn w) (leads : Leads w v) (masters : AreOfMaster w v leads) (rows : RowsGo chunk d e w v)
    (told : is_some (fin.get d.chunks chunk) ≡ true → HasPromised w) (was : w.entry.was_known ≡ true → HasPromised w) where
  on : HasPromised w → HasPromised v
  on p = promised_on w v reached leads p

  okw : WorldOk w
  okw = reached_world w reached

  reached_v : IsReachedIn v
  reached_v = (reached.0, leads_then (world_of reached.0) w v reached.1 leads)

  okv : WorldOk v
  okv = reached_world v reached_v

  -- who is a member of a view has promised it
  of_member : (j : ℕ) → is_of v.entry.view.members j ≡ true → HasPromised v
  of_member j on_it =
      let k = agrees v okv in
      let member : v.known.members v.entry.view.stamp j ≡ true = k.members j ∙ on_it in
      let late = (members_stood v v.entry.view.stamp j reached_v member).1 in
      let same = k.view in
      let up = (okv.known).members v.entry.view.stamp j (omega arith) member in
      (j, omega arith)

  -- a rollback gives back what was prepared
  by_rollback : w.known.top < v.known.view → is_some (fin.get e.chunks chunk) ≡ true → SettlesOnce w v → HasPromised v
  by_rollback above some (inl keeps) = (let same = keeps.view in let most = (okw.known).viewtop in absurd (omega arith))
  by_rollback above some (inr (inl settles)) = (let same = settles.view in absurd (omega arith))
  by_rollback above some (inr (inr restores)) = by_restored (restores.exact (rows.back above).1)
    where
      by_restored : IsRestored w v → HasPromised v
      by_restored r = elim r.here [
        | inl given ↦ on (was given.2)
        | inr taken ↦ absurd (false≢true (sym (ap v.known.stood r.view ∙ taken.1) ∙ rows.returned above some))
      ]

  pub people_told : is_some (fin.get e.chunks chunk) ≡ true → HasPromised v
  people_told some = by_rows (fin.get d.chunks chunk) (fin.get e.chunks chunk) refl refl some
    where
      same_view : v.entry.view ≡ w.entry.view → w.known.view < v.known.view → ⊥
      same_view same appears = (let a = (agrees w okw).view in let b = (agrees v okv).view in let c = ap (λ x. x.stamp) same in omega arith)

      by_view : w.known.view < v.known.view → HasPromised v
      by_view appears = elim (masters_people w v leads reached masters) [
        | inl same ↦ absurd (same_view same appears)
        | inr (inl members) ↦ (let one = has_first v.entry.view.members members in of_member one.0 one.1)
        | inr (inr above) ↦ by_rollback above some (masters_settle_once w v leads reached masters)
      ]

      by_rows : (o p : Option Settled) → fin.get d.chunks chunk ≡ o → fin.get e.chunks chunk ≡ p → is_some p ≡ true → HasPromised v
      by_rows (Some y) p had has there = on (told (ap is_some had))
      by_rows None (Some y) had has there = by_view (rows.appears y had has)
      by_rows None None had has there = absurd (false≢true there)

  pub people_was : v.entry.was_known ≡ true → HasPromised v
  people_was known = by_prepare (prepares d e) refl
    where
      by_prepare : (b : Bool) → prepares d e ≡ b → HasPromised v
      by_prepare true is = on (told (rows.prepared is known).0)
      by_prepare false is = on (was (masters_keep_prepared w v leads reached masters (rows.unprepared is) known).0)

-- ---- servers

-- there is no other in a list of which one was changed
none_there : {X : Type 0} (xs : List X) (i j : ℕ) (y : X) → slice_get (slice_set xs i y) j ≡ None → slice_get xs j ≡ None
none_there [] i j y none = none
none_there (x ∷ xs) zero zero y none = absurd (false≢true (sym (ap is_some none)))
none_there (x ∷ xs) zero (suc j) y none = none
none_there (x ∷ xs) (suc i) zero y none = none
none_there (x ∷ xs) (suc i) (suc j) y none = none_there xs i j y none

module _ {D : Type 0} (x : Setup D) (chunk : ℕ) where
  -- Where a view of it is settled, or was at the last prepare, a server has promised it; and those that aren't of the store have promised nothing.
  record IsPeopled (servers : List Server) (a : Account) (w : ChunkWorld) : Type 0 where
    told : is_some (fin.get a.durable.chunks chunk) ≡ true → HasPromised w
    was : w.entry.was_known ≡ true → HasPromised w
    absent : (j : ℕ) → slice_get servers j ≡ None → w.known.promise j ≡ 0

  module _ (bytes : ReqId → List ℕ) where
    abbrev PeopledAt : (a : Account) (h : History D) → Life x bytes chunk h → Type 0
    PeopledAt a h (inl unborn) = Unit {0}
    PeopledAt a h (inr l) = IsPeopled h.nodes.servers a l.world

  -- what a member has promised
  promise_of : (w : ChunkWorld) (j : ℕ) → IsReachedIn w → w.known.promise j ≡ (w.members j).promise
  promise_of w j reached = ((reached_world w reached).views j).promise

  same_promise : (m n : Member) (whole : Bool) → IsSameMember m whole n → n.promise ≡ m.promise
  same_promise m n whole (inl is) = ap (λ (z : Member). z.promise) is
  same_promise m n whole (inr is) = ap (λ (z : Member). z.promise) is

  -- ---- a step

  module _ (asked : ℕ → Asked) (step : Step) (old new : History D) (a b : Account) (first : Sees x asked old a) (last : Sees x asked new b) where
    abbrev bytes : ReqId → List ℕ
    bytes = bytes_in asked

    had_one : new.nodes.master ≡ old.nodes.master → a.durable ≡ b.durable
    had_one master = has_one x old.nodes.master a.durable b.durable (has_told x asked old a first) (subst (λ place. HasDurable x.seen place b.durable) master (has_told x asked new b last))

    by_server : (l : IsAlive x.seen x.config bytes chunk old) (m : IsAlive x.seen x.config bytes chunk new) → Leads l.world m.world → ByServer x.seen x.config bytes l.reached.0.epoch chunk step old new l.world m.world → IsPeopled old.nodes.servers a l.world → IsPeopled new.nodes.servers b m.world
    by_server l m leads by k = record {
      told = λ some. promised_on l.world m.world l.reached leads (k.told (ap (λ (d : Durable). is_some (fin.get d.chunks chunk)) (had_one by.master) ∙ some));
      was = λ known. promised_on l.world m.world l.reached leads (k.was (ap (λ e. e.was_known) (sym (ap (λ (z : ChunkWorld). z.entry) by.world ∙ by.steps.entry)) ∙ known));
      absent = λ j none. absent j (subst (λ ss. slice_get ss j ≡ None) by.servers none);
    }
      where
        absent : (j : ℕ) → slice_get (slice_set old.nodes.servers by.id by.after) j ≡ None → m.world.known.promise j ≡ 0
        absent j none = by_test (nat_eq j by.id) refl
          where
            was_none : slice_get old.nodes.servers j ≡ None
            was_none = none_there old.nodes.servers by.id j by.after none

            by_test : (b : Bool) → nat_eq j by.id ≡ b → m.world.known.promise j ≡ 0
            by_test true same = absurd (false≢true (sym (ap is_some was_none) ∙ ap is_some (ap (slice_get old.nodes.servers) (eqb-true j by.id same) ∙ by.found)))
            by_test false other =
                promise_of m.world j m.reached ∙ ap (λ (z : Member). z.promise) (ap (λ (z : ChunkWorld). z.members j) by.world ∙ by.steps.others j other)
                ∙ sym (promise_of l.world j l.reached) ∙ k.absent j was_none

    by_master : (l : IsAlive x.seen x.config bytes chunk old) (m : IsAlive x.seen x.config bytes chunk new) → ByMaster x.seen x.config bytes l.reached.0.epoch chunk step old new l.world m.world → IsPeopled old.nodes.servers a l.world → IsPeopled new.nodes.servers b m.world
    by_master l m by k =
        let was_is = told_is_had x.seen old.nodes.master a.durable by.before first.lives.lasts first.agrees.told by.had in
        let then_is = told_is_had x.seen new.nodes.master b.durable by.behind last.lives.lasts last.agrees.told by.has in
        let told : is_some (fin.get by.before.chunks chunk) ≡ true → HasPromised l.world = λ some. k.told (ap (λ (d : Durable). is_some (fin.get d.chunks chunk)) (sym was_is) ∙ some) in
        record {
          told = λ some. people_told chunk by.before by.behind l.world m.world l.reached by.leads by.masters by.rows told k.was (ap (λ (d : Durable). is_some (fin.get d.chunks chunk)) then_is ∙ some);
          was = λ known. people_was chunk by.before by.behind l.world m.world l.reached by.leads by.masters by.rows told k.was known;
          absent = λ j none.
              promise_of m.world j m.reached ∙ same_promise (l.world.members j) (m.world.members j) _ (by.members j) ∙ sym (promise_of l.world j l.reached) ∙ k.absent j (subst (λ ss. slice_get ss j ≡ None) by.servers none);
        }

    by_what : (l : IsAlive x.seen x.config bytes chunk old) (m : IsAlive x.seen x.config bytes chunk new) → Leads l.world m.world → GoesBy x.seen x.config bytes l.reached.0.epoch chunk step old new l.world m.world → IsPeopled old.nodes.servers a l.world → IsPeopled new.nodes.servers b m.world
    by_what l m leads (AtServer by) k = by_server l m leads by k
    by_what l m leads (AtMaster by) k = by_master l m by k
    by_what l m leads (Elsewhere still servers master node messages moment are posted) k = record {
      told = λ some. subst HasPromised (sym still) (k.told (ap (λ (d : Durable). is_some (fin.get d.chunks chunk)) (had_one master) ∙ some));
      was = λ known. subst HasPromised (sym still) (k.was (ap (λ (z : ChunkWorld). z.entry.was_known) (sym still) ∙ known));
      absent = λ j none. ap (λ (z : ChunkWorld). z.known.promise j) still ∙ k.absent j (subst (λ ss. slice_get ss j ≡ None) servers none);
    }

    -- one that is born then
    born : (m : IsAlive x.seen x.config bytes chunk new) → ComesAlive x.seen x.config bytes chunk old new m → IsPeopled new.nodes.servers b m.world
    born m comes =
        let then_is = told_is_had x.seen new.nodes.master b.durable comes.behind last.lives.lasts last.agrees.told comes.has in
        let none : is_some (fin.get comes.before.chunks chunk) ≡ true → HasPromised (world_of m.reached.0) = λ some. absurd (false≢true (sym (ap is_some comes.ungiven.settled) ∙ some)) in
        let unknown : (world_of m.reached.0).entry.was_known ≡ true → HasPromised (world_of m.reached.0) = λ known. absurd (false≢true known) in
        record {
          told = λ some. people_told chunk comes.before comes.behind (world_of m.reached.0) m.world (m.reached.0, Rests) comes.leads comes.masters comes.rows none unknown (ap (λ (d : Durable). is_some (fin.get d.chunks chunk)) then_is ∙ some);
          was = λ known. people_was chunk comes.before comes.behind (world_of m.reached.0) m.world (m.reached.0, Rests) comes.leads comes.masters comes.rows none unknown known;
          absent = λ j out. promise_of m.world j m.reached ∙ ap (λ (z : Member). z.promise) (comes.members j);
        }

    one_peopled : (about : Option ℕ) (l : Life x bytes chunk old) (m : Life x bytes chunk new) → GoesOn x.seen x.config bytes chunk step about old new l m → PeopledAt bytes a old l → PeopledAt bytes b new m
    one_peopled about (inl l) (inl m) goes k = tt
    one_peopled about (inl l) (inr m) goes k = born m goes
    one_peopled about (inr l) (inl m) goes k = absurd goes
    one_peopled about (inr l) (inr m) goes k = by_what l m goes.leads goes.by k

  -- ---- over a run

  module _ (law : AreNumbered) (asked : ℕ → Asked) (given : IsGiven x) where
    record EndsPeopled (h : History D) (a : Account) : Type 0 where
      sees : Sees x asked (left_in h) a
      peopled : PeopledAt (bytes_in asked) a (left_in h) (sees.lives.life chunk)

    run_peopled : TellsApart x.among → (steps : List Step) (old new : History D) (a b : Account) → IsReached x old a → EndsPeopled old a → Runs x steps old a new b → AllSent (PushRight (bytes_in asked)) new.sent → AllSent (IsOfOneEdit asked) new.sent → EndsPeopled new b
    run_peopled apart [] old new a b r first runs right one = subst (λ h. EndsPeopled h b) (sym runs.0) (subst (EndsPeopled old) (sym runs.1) first)
    run_peopled apart (step ∷ steps) old new a b r first (mid, c, moves, rest) right one =
        let stays = run_stays x asked given steps mid new c b rest in
        let next = sees_step_through x asked given law apart step old mid a c first.sees (reached_well x old a r) moves (before x.seen x.failures x.armed (PushRight (bytes_in asked)) mid.sent new.sent stays right) (before x.seen x.failures x.armed (IsOfOneEdit asked) mid.sent new.sent stays one) in
        let last : Sees x asked (left_in mid) c = record { lives = next.goes.last; tells = next.tells; agrees = next.agrees; intact = next.intact } in
        run_peopled apart steps mid new c b (reach_more x old mid a c (step ∷ []) r (mid, c, moves, (refl, refl)))
        (record { sees = last; peopled = one_peopled asked step (left_in old) (left_in mid) a c first.sees last _ (first.sees.lives.life chunk) (next.goes.last.life chunk) (next.goes.goes chunk) first.peopled }) rest right one

  -- So a chunk of which servers keep nothing has no settled view.
  pub never_settled : HaveSizes → AreNumbered → (now : History D) (a : Account) → IsReached x now a → ((id : ℕ) (s : Server) → slice_get now.nodes.servers id ≡ Some s → KeepsNothing chunk s) → is_some (fin.get a.durable.chunks chunk) ≡ true → ⊥
  never_settled sizes law now a r keeps some = by_life living.0 (subst (PeopledAt (bytes_in asked) a (left_in now)) living.1 there.peopled)
    where
      given : IsGiven x
      given = r.begins.given

      asks : (asked : ℕ → Asked) × AreAskedIn asked now
      asks = asked_over_all x.seen x.failures x.armed x.config x.clients x.disks r.steps r.begun now given.new r.begins.begins (reached_through x now a r).runs

      asked : ℕ → Asked
      asked = asks.0

      right : AllSent (PushRight (bytes_in asked)) now.sent
      right = pushes_right asked now asks.1

      one : AllSent (IsOfOneEdit asked) now.sent
      one = of_one_edit asked now asks.1

      begun : IsReached x r.begun r.first
      begun = record { apart = r.apart; begun = r.begun; first = r.first; steps = []; begins = r.begins; runs = (refl, refl) }

      first : Sees x asked (left_in r.begun) r.first
      first =
          let stays = run_stays x asked given r.steps r.begun now r.first a r.runs in
          sees_first_through x asked given law sizes r.begun r.first r.begins (before x.seen x.failures x.armed (PushRight (bytes_in asked)) r.begun.sent now.sent stays right) (before x.seen x.failures x.armed (IsOfOneEdit asked) r.begun.sent now.sent stays one)

      -- no chunk lives in a new store
      unborn : (life : Life x (bytes_in asked) chunk (left_in r.begun)) → first.lives.life chunk ≡ life → PeopledAt (bytes_in asked) r.first (left_in r.begun) life
      unborn (inl u) is = tt
      unborn (inr l) is =
          let start_is = opens_as_start x.seen r.begun.nodes.master r.first.durable (begins_told x.seen x.failures x.armed x.config x.clients x.disks r.begun given.new r.begins.begins) r.begins.told in
          let seen = seen_of x asked (left_in r.begun) r.first first r.apart chunk l is in
          absurd (false≢true (sym (ap (λ (d : Durable). is_given d.next_handle chunk) start_is ∙ not_given chunk) ∙ seen.0.told.given))

      there : EndsPeopled law asked given now a
      there = run_peopled law asked given r.apart r.steps r.begun now r.first a begun (record { sees = first; peopled = unborn (first.lives.life chunk) refl }) r.runs right one

      living : (l : IsAlive x.seen x.config (bytes_in asked) chunk (left_in now)) × (there.sees.lives.life chunk ≡ inr l)
      living = living_told x asked (left_in now) a there.sees chunk some

      by_life : (l : IsAlive x.seen x.config (bytes_in asked) chunk (left_in now)) → IsPeopled now.nodes.servers a l.world → ⊥
      by_life l p = by_server (p.told some).0 (p.told some).1 (slice_get now.nodes.servers (p.told some).0) refl
        where
          by_server : (j : ℕ) → 0 < l.world.known.promise j → (o : Option Server) → slice_get now.nodes.servers j ≡ o → ⊥
          by_server j above None none = (let zero_is = p.absent j none in omega arith)
          by_server j above (Some s) found =
              let shows = l.shows.members j s found in
              let same : (l.world.members j).promise ≡ 0 = sym (stamp_number 0 (l.world.members j).promise (ap (λ (q : Place). q.slot.promise) (sym (keeps j s found)) ∙ shows.promise)) in
              let known = promise_of l.world j l.reached in
              omega arith
