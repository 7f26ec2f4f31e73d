-- What is copied is a view of its source that was settled, in which nobody may number.
use Rattle.gs_laws_lift.proofs.lemmas.stores.TellingAll.{asked_over_all}
use Rattle.gs_laws_lift.specs.stores.Left.{left_in}
use Rattle.std.proofs.Common.{◌≡◌, ◌≢◌, ◌∙◌, ◌<◌, ◌≤◌, ◌++◌, ◌⊎◌, ℕ, Bool, true, false, List, [], ◌∷◌, Option, Some, None, refl, sym, ap, subst, inl, inr, arith}
use Rattle.std.specs.Prelude.{◌==◌, if◌then◌else◌, is_some}
use Rattle.std.specs.FinMap as fin
use Rattle.std.specs.List.{AllByRecursion}
use Rattle.std.proofs.lemmas.Bool.{cases_eq, cases_lt, false≢true, true≢false}
use Rattle.gs_base.specs.declared.numbers.Moment.{Moment}
use Rattle.gs_base.specs.declared.numbers.ReqId.{ReqId}
use Rattle.gs_base.specs.declared.numbers.Stamp.{Stamp}
use Rattle.gs_laws_chunks.specs.accounts.Accounts.{Account, view_at}
use Rattle.gs_laws_chunks.specs.accounts.Running.{IsGiven, IsReached, Moves, Runs, Setup}
use Rattle.gs_block.specs.Written.{TellsApart}
use Rattle.gs_laws_chunk.proofs.lemmas.machine.Facts.{reached_world}
use Rattle.gs_laws_chunk.proofs.lemmas.machine.Lasting.{agrees}
use Rattle.gs_laws_chunk.proofs.lemmas.machine.Worlds.{leads_later}
use Rattle.gs_laws_chunk.specs.machine.Events.{Leads}
use Rattle.gs_laws_chunk.proofs.lemmas.machine.Known.{Later}
use Rattle.gs_laws_chunk.specs.machine.Laws.{Birth, world_of}
use Rattle.gs_laws_chunk.specs.machine.Laws as chunk_laws
use Rattle.gs_laws_chunk.specs.machine.Machine.{ChunkWorld}
use Rattle.gs_laws_chunk.specs.machine.Mastering.{AreOfMaster}
use Rattle.gs_laws_chunk.specs.machine.Stamps.{stamp_at}
use Rattle.gs_laws_chunks.proofs.lemmas.accounts.Births.{none_stood}
use Rattle.gs_laws_chunks.proofs.lemmas.accounts.Copies.{all_then}
use Rattle.gs_laws_chunks.proofs.lemmas.accounts.Durables.{told_is_had}
use Rattle.gs_laws_chunks.proofs.lemmas.accounts.Edits.{AreNumbered}
use Rattle.gs_laws_chunks.proofs.lemmas.accounts.Holding.{reach_more, runs_then}
use Rattle.gs_laws_chunks.proofs.lemmas.accounts.Mastering.{stood_before}
use Rattle.gs_laws_chunks.proofs.lemmas.accounts.Origins.{by_servers_others, copied_same, of_clients_others, unborn_copies_none}
use Rattle.gs_laws_chunks.proofs.lemmas.accounts.Reached.{run_stays}
use Rattle.gs_laws_chunks.proofs.lemmas.accounts.Runs.{both_seen, has_told, living_copied, living_told}
use Rattle.gs_laws_chunks.proofs.lemmas.accounts.SeeingThrough.{reached_through, each_sees_on_through, sees_first_through, sees_step_through}
use Rattle.gs_laws_chunks.proofs.lemmas.accounts.Viewing.{told_view}
use Rattle.gs_laws_chunks.specs.accounts.Agreeing.{Agrees, CopiesNone, IsBlank}
use Rattle.gs_laws_chunks.specs.accounts.Copying.{CopiesAreOfViews, WasCopied}
use Rattle.gs_laws_chunks.specs.accounts.Joining.{AgreesAt, Life}
use Rattle.gs_laws_chunks.specs.accounts.Seeing.{Sees}
use Rattle.gs_laws_parts.specs.master.Rows.{AreCopiedSince, CopiesSince, IsCopiedSince, RowsGo}
use Rattle.gs_laws_parts.specs.master.Showing.{ShowsDurable, primary_of}
use Rattle.gs_lease.specs.declared.view.Term.{Term}
use Rattle.gs_lease.specs.declared.view.View.{View}
use Rattle.gs_laws_lift.proofs.lemmas.stores.AskingRuns.{of_one_edit, pushes_right}
use Rattle.gs_laws_lift.proofs.lemmas.stores.Beginning.{begins_none}
use Rattle.gs_laws_lift.proofs.lemmas.stores.Copying.{IsToldToCopy, copied_beside, copied_is_told, copied_there}
use Rattle.gs_laws_lift.proofs.lemmas.stores.Durable.{durable_shown}
use Rattle.gs_laws_lift.proofs.lemmas.stores.Posting.{HasSaid, posted_all}
use Rattle.gs_laws_lift.proofs.lemmas.stores.Running.{before}
use Rattle.gs_laws_lift.proofs.lemmas.stores.Serving.{by_server}
use Rattle.gs_laws_lift.specs.stores.Copying.{copied_from}
use Rattle.gs_laws_lift.specs.stores.Going.{AllSent, Posts}
use Rattle.gs_laws_lift.specs.stores.Joint.{AtMaster, AtServer, ByMaster, Elsewhere, GoesBy}
use Rattle.gs_laws_lift.specs.stores.Living.{ComesAlive, GoesOn}
use Rattle.gs_laws_lift.specs.stores.Saying.{PushRight}
use Rattle.gs_laws_lift.specs.stores.Showing.{IsAlive, setting}
use Rattle.gs_laws_parts.specs.server.Requests.{Asked, IsOfOneEdit, bytes_in}
use Rattle.gs_msg.specs.declared.body.Body.{Body}
use Rattle.gs_msg.specs.declared.body.Body.TheVariants as bodies
use Rattle.gs_msg.specs.declared.message.Message.{Message}
use Rattle.gs_msg.specs.declared.node.NodeId.{NodeId}
use Rattle.gs_msg.specs.declared.node.NodeId.TheVariants as nodes
use Rattle.gs_world.proofs.Reaching.{HaveSizes}
use Rattle.gs_world.specs.Histories.{History}
use Rattle.gs_world.specs.Runs.{Step}
use Rattle.gs_world.specs.Sent.{Sent, message_in, posts_of}
use Rattle.gs_master_spec.specs.Applied.{view_in}
use Rattle.gs_master_spec.specs.Durable.{Durable, Settled, is_listed, is_rolling}
use Rattle.gs_laws_chunks.proofs.lemmas.accounts.Well.{IsWell, begins_well}

-- ---- the machine of the source

-- What the master does gives no view that stood strictly between the one that was settled and the one that is.
none_between : (chunk : ℕ) (d e : Durable) (w v : ChunkWorld) (reached : chunk_laws.IsReached w) (leads : Leads w v) → AreOfMaster w v leads → RowsGo chunk d e w v → (t : ℕ) → v.known.stood t ≡ true → w.known.view ≤ t → t ≤ v.known.view → t ≢ v.known.view → t ≡ w.known.view
none_between chunk d e w v reached leads masters rows t stood low high other = elim (cases_lt w.known.view t) [
  | inl above ↦ absurd (true≢false (sym (stood_before chunk d e w v reached leads masters rows t stood other) ∙ ((reached_world w reached).known.fresh t above).3))
  | inr within ↦ omega arith
]

-- The settled view that the records tell, where nobody may number in that of the machine.
record IsUnledView (a : Account) (chunk : ℕ) (w : ChunkWorld) : Type 0 where
  pub view : View
  pub told : view_at a chunk ≡ Some view
  pub under : view.stamp ≡ stamp_at w.known.view
  pub unled : view.term ≡ None

no_term : (o : Option Term) → primary_of o ≡ None → o ≡ None
no_term None none = refl
no_term (Some term) none = absurd (cc)

unled_view : (a : Account) (chunk : ℕ) (sent : Sent) (b : Birth) (w : ChunkWorld) → chunk_laws.IsReached w → Agrees a sent chunk b w → ShowsDurable chunk a.durable w.entry → w.entry.is_known ≡ true → w.known.born < w.known.view → w.known.holder w.known.view ≡ None → IsUnledView a chunk w
unled_view a chunk sent b w reached has shows known late free = by_row (fin.get a.durable.chunks chunk) refl
  where
    by_row : (o : Option Settled) → fin.get a.durable.chunks chunk ≡ o → IsUnledView a chunk w
    by_row None none = absurd (let born = has.first known none in omega arith)
    by_row (Some y) there =
        let k = agrees w (reached_world w reached) in
        let s = shows.settled y there in
        record {
          view = y.view;
          told = rw there refl;
          under = s.view.stamp ∙ ap stamp_at (sym k.view);
          unled = no_term y.view.term (sym s.view.holder ∙ sym k.holder ∙ ap w.known.holder (sym k.view) ∙ free);
        }

-- ---- what the master says

-- what it has said alone
abbrev only_master : Sent → Sent
only_master sent = record sent { servers = []; clients = [] }

only_posts : (moment : Moment) (messages : List Message) (old new : Sent) → Posts moment nodes.Master messages old new → Posts moment nodes.Master messages (only_master old) (only_master new)
only_posts moment messages old new (inl (after, appends, is)) = inl (after, appends, ap only_master is)
only_posts moment messages old new (inr is) = inr (ap only_master is)

-- what the master has said then it had said before, or it says it now
pub said_before : (P : Message → Type 0) (moment : Moment) (messages : List Message) (old new : Sent) → Posts moment nodes.Master messages old new → AllByRecursion P messages → (message : Message) → HasSaid new message → HasSaid old message ⊎ P message
said_before P moment messages old new posts all message said =
    posted_all (λ (m : Message). HasSaid old m ⊎ P m) moment nodes.Master messages (only_master old) (only_master new) (only_posts moment messages old new posts) first (each messages all)
    (record { sender = nodes.Master; place = said.0 }) message said.1
  where
    each : (ms : List Message) → AllByRecursion P ms → AllByRecursion (λ (m : Message). HasSaid old m ⊎ P m) ms
    each [] all = tt
    each (m ∷ ms) all = (inr all.0, each ms all.1)

    first : AllSent (λ (m : Message). HasSaid old m ⊎ P m) (only_master old)
    first id m stands = by_sender id.sender id.place stands
      where
        by_client : (b : Bool) (place : ℕ) → message_in (if b then None else None) place ≡ Some m → HasSaid old m ⊎ P m
        by_client true place is = absurd (cc)
        by_client false place is = absurd (cc)

        by_sender : (sender : NodeId) (place : ℕ) → message_in (posts_of (only_master old) sender) place ≡ Some m → HasSaid old m ⊎ P m
        by_sender nodes.Master place is = inl (place, is)
        by_sender (nodes.Server id) place is = absurd (cc)
        by_sender (nodes.Client id) place is = by_client (id.0 == 0) place is

-- each server that is told to copy this chunk is told a view of it like this
abbrev CopiesSuch : (Stamp → Type 0) → ℕ → NodeId → Body → Type 0
CopiesSuch Such source (nodes.Server me) (bodies.MakeCopy old at new stamp) = old ≡ source → Such at
CopiesSuch Such source to body = Unit {0}

master_such : (Such : Stamp → Type 0) (source : ℕ) (d : Durable) (low : ℕ) (known : Bool) (w : ChunkWorld) → ((at : Stamp) → IsCopiedSince source d low known w at → Such at) → (messages : List Message) → AreCopiedSince source d low known w messages
    → AllByRecursion (λ (m : Message). CopiesSuch Such source m.to m.body) messages
master_such Such source d low known w leads = all_then (CopiesSince source d low known w) (CopiesSuch Such source) by_body
  where
    by_body : (to : NodeId) (body : Body) → CopiesSince source d low known w body → CopiesSuch Such source to body
    by_body (nodes.Server me) (bodies.MakeCopy old at new stamp) k = λ same. leads at (k same)
    by_body (nodes.Server me) body k = tt
    by_body to body k = tt

-- ---- a step

-- the records told it, before a step or behind it
record IsToldUnled (a c : Account) (source : ℕ) (at : Stamp) : Type 0 where
  pub view : View
  pub told : (view_at a source ≡ Some view) ⊎ (view_at c source ≡ Some view)
  pub under : view.stamp ≡ at
  pub unled : view.term ≡ None

module _ {D : Type 0} (x : Setup D) (asked : ℕ → Asked) (step : Step) (old mid : History D) (a c : Account) (first : Sees x asked old a) (last : Sees x asked mid c) where
  abbrev bytes : ReqId → List ℕ
  bytes = bytes_in asked

  module _ (source : ℕ) where
    abbrev Such : Stamp → Type 0
    Such = IsToldUnled a c source

    -- what the master tells of copies of one that lives
    since : (l : IsAlive x.seen x.config bytes source old) (m : IsAlive x.seen x.config bytes source mid) → Agrees a old.sent source l.reached.0 l.world → Agrees c mid.sent source m.reached.0 m.world → (by : ByMaster x.seen x.config bytes l.reached.0.epoch source step old mid l.world m.world)
        → (at : Stamp) → IsCopiedSince source by.behind l.world.known.view l.world.entry.is_known m.world at → Such at
    since l m had has by at k = by_place (cases_eq k.t m.world.known.view)
      where
        shows_old : ShowsDurable source a.durable l.world.entry
        shows_old = durable_shown x.seen source l.world old.nodes.master a.durable (has_told x asked old a first) l.shows.master

        shows_mid : ShowsDurable source c.durable m.world.entry
        shows_mid = durable_shown x.seen source m.world mid.nodes.master c.durable (has_told x asked mid c last) m.shows.master

        listed : is_listed c.durable source ≡ true
        listed = subst (λ (d : Durable). is_listed d source ≡ true) (told_is_had x.seen mid.nodes.master c.durable by.behind last.lives.lasts last.agrees.told by.has) k.listed

        later : Later l.world.known m.world.known
        later = leads_later l.world m.world by.leads (reached_world l.world l.reached)

        by_place : (k.t ≡ m.world.known.view) ⊎ (k.t ≢ m.world.known.view) → Such at
        by_place (inl here) =
            let is = unled_view c source mid.sent m.reached.0 m.world m.reached has shows_mid (shows_mid.listed listed) (let late = k.late in omega arith) (ap m.world.known.holder (sym here) ∙ k.free) in
            record { view = is.view; told = inr is.told; under = is.under ∙ sym (k.is ∙ ap stamp_at here); unled = is.unled }
        by_place (inr other) =
            let there : k.t ≡ l.world.known.view = none_between source by.before by.behind l.world m.world l.reached by.leads by.masters by.rows k.t k.stood k.since k.within other in
            let late = k.late in
            let born = later.born in
            let free : l.world.known.holder l.world.known.view ≡ None = sym (later.holder l.world.known.view (omega arith)) ∙ ap m.world.known.holder (sym there) ∙ k.free in
            let is = unled_view a source old.sent l.reached.0 l.world l.reached had shows_old k.known (omega arith) free in
            record { view = is.view; told = inl is.told; under = is.under ∙ sym (k.is ∙ ap stamp_at there); unled = is.unled }

    -- the step at which another chunk became a copy of this one
    module _ (chunk : ℕ) (at : Stamp) (none : copied_from old.sent chunk ≡ None) (some : copied_from mid.sent chunk ≡ Some (source, at)) where
      told : IsToldToCopy mid.sent source chunk at
      told = copied_is_told mid.sent source chunk at some

      never : copied_from mid.sent chunk ≡ copied_from old.sent chunk → ⊥
      never same = false≢true (ap is_some (sym none ∙ sym same ∙ some))

      -- nobody was told before
      unsaid : HasSaid old.sent told.message → ⊥
      unsaid said = false≢true (sym (ap is_some none) ∙ copied_there old.sent told.message told.me source chunk at told.stamp said told.to told.is)

      such_told : CopiesSuch Such source told.message.to told.message.body → Such at
      such_told k = subst (λ (to : NodeId). CopiesSuch Such source to (bodies.MakeCopy source at chunk told.stamp)) told.to (subst (λ (body : Body). CopiesSuch Such source told.message.to body) told.is k) refl

      told_none : CopiesNone source told.message.to told.message.body → ⊥
      told_none k = subst (λ (to : NodeId). CopiesNone source to (bodies.MakeCopy source at chunk told.stamp)) told.to (subst (λ (body : Body). CopiesNone source told.message.to body) told.is k) refl

      now_told : (moment : Moment) (messages : List Message) → Posts moment nodes.Master messages old.sent mid.sent → AllByRecursion (λ (m : Message). CopiesSuch Such source m.to m.body) messages → Such at
      now_told moment messages posts all = elim (said_before (λ (m : Message). CopiesSuch Such source m.to m.body) moment messages old.sent mid.sent posts all told.message told.there) [
        | inl before ↦ absurd (unsaid before)
        | inr such ↦ such_told such
      ]

      -- whatever happens to one that lives
      by_what : (l : IsAlive x.seen x.config bytes source old) (m : IsAlive x.seen x.config bytes source mid) → Agrees a old.sent source l.reached.0 l.world → Agrees c mid.sent source m.reached.0 m.world → GoesBy x.seen x.config bytes l.reached.0.epoch source step old mid l.world m.world → Such at
      by_what l m had has (AtServer by) =
          absurd (never (copied_beside chunk by.moment (nodes.Server by.id) by.messages old.sent mid.sent by.posted
          (by_servers_others chunk by.messages (by_server _ (setting x.config bytes l.reached.0.epoch) source by.steps.world by.id _ by.messages by.steps.answers))))
      by_what l m had has (AtMaster by) = now_told by.moment by.messages by.posted (master_such Such source by.behind l.world.known.view l.world.entry.is_known m.world (since l m had has by) by.messages by.copies)
      by_what l m had has (Elsewhere still servers master by messages moment are posted) = absurd (never (copied_beside chunk moment by messages old.sent mid.sent posted (of_clients_others chunk messages are)))

      -- of one that is born nothing is copied
      born_such : (m : IsAlive x.seen x.config bytes source mid) → IsBlank a source → ComesAlive x.seen x.config bytes source old mid m → Such at
      born_such m blank comes =
          let before_is = told_is_had x.seen old.nodes.master a.durable comes.before first.lives.lasts first.agrees.told comes.had in
          now_told comes.moment comes.messages comes.posted
          (master_such Such source comes.behind 0 true m.world
          (λ under k. absurd (none_stood x.config bytes source step old mid a comes.behind m.reached.0 m.world blank comes.servers comes.leads comes.masters (record { members = m.shows.members; sent = m.shows.sent })
          (subst (λ (d : Durable). is_rolling d.phase ≡ false) before_is comes.calm) (subst (λ (d : Durable). RowsGo source d comes.behind (world_of m.reached.0) m.world) before_is comes.rows) k.t k.stood k.late)) comes.messages comes.copies)

      -- in either case
      by_life : (about : Option ℕ) (l : Life x bytes source old) (m : Life x bytes source mid) → last.lives.life source ≡ m → GoesOn x.seen x.config bytes source step about old mid l m → AgreesAt x bytes a source old l → AgreesAt x bytes c source mid m → Such at
      by_life about (inl l) (inl m) is goes had has =
          absurd (told_none (unborn_copies_none x.seen x.config bytes mid last.lives.life last.lives.copies source m is (record { sender = nodes.Master; place = told.there.0 }) told.message told.there.1))
      by_life about (inl l) (inr m) is goes blank has = born_such m blank goes
      by_life about (inr l) (inl m) is goes had has = absurd goes
      by_life about (inr l) (inr m) is goes had has = by_what l m had has goes.by

-- ---- runs

module _ {D : Type 0} (x : Setup D) (chunk : ℕ) where
  -- in a world of a run the chunk was copied so, if it is a copy
  abbrev IsCopiedSo : History D → Account → Type 0
  IsCopiedSo now a = (source : ℕ) (at : Stamp) → copied_from now.sent chunk ≡ Some (source, at) → WasCopied x now a chunk source at

  module _ (law : AreNumbered) (asked : ℕ → Asked) (given : IsGiven x) where
    -- behind a step
    step_copies : (step : Step) (old mid : History D) (a c : Account) → IsReached x old a → Moves x step old a mid c → (first : Sees x asked (left_in old) a) (last : Sees x asked (left_in mid) c)
        → ((other : ℕ) → (about : Option ℕ) × GoesOn x.seen x.config (bytes_in asked) other step about (left_in old) (left_in mid) (first.lives.life other) (last.lives.life other)) → IsCopiedSo old a → IsCopiedSo mid c
    step_copies step old mid a c r moves first last goes copies source at some = by_old (copied_from old.sent chunk) refl
      where
        by_lives : (l : Life x (bytes_in asked) chunk (left_in old)) (m : Life x (bytes_in asked) chunk (left_in mid)) → (about : Option ℕ) → GoesOn x.seen x.config (bytes_in asked) chunk step about (left_in old) (left_in mid) l m → (alive : IsAlive x.seen x.config (bytes_in asked) chunk (left_in old)) → l ≡ inr alive → copied_from mid.sent chunk ≡ copied_from old.sent chunk
        by_lives (inl l) m about goes alive is = absurd (cc)
        by_lives (inr l) (inl m) about goes alive is = absurd goes
        by_lives (inr l) (inr m) about goes alive is = copied_same x.seen x.config (bytes_in asked) l.reached.0.epoch chunk step (left_in old) (left_in mid) l.world m.world goes.by

        by_old : (o : Option (ℕ × Stamp)) → copied_from old.sent chunk ≡ o → WasCopied x mid c chunk source at
        by_old None none =
            let is = by_life x asked step (left_in old) (left_in mid) a c first last source chunk at none some (goes source).0 (first.lives.life source) (last.lives.life source) refl (goes source).1 (first.agrees.agrees source) (last.agrees.agrees source) in
            record { old = old; before = a; step = step; asked = mid; behind = c; steps = []; reached = r; moves = moves; runs = (refl, refl); none = none; some = some; view = is.view; told = is.told; under = is.under; unled = is.unled }
        by_old (Some of) had =
            let living = living_copied x asked (left_in old) a first chunk of.0 of.1 had in
            let same = by_lives (first.lives.life chunk) (last.lives.life chunk) (goes chunk).0 (goes chunk).1 living.0 living.1 in
            let was = copies source at (sym same ∙ some) in
            record {
              old = was.old;
              before = was.before;
              step = was.step;
              asked = was.asked;
              behind = was.behind;
              steps = was.steps ++ step ∷ [];
              reached = was.reached;
              moves = was.moves;
              runs = runs_then x was.steps (step ∷ []) was.asked old mid was.behind a c was.runs (mid, c, moves, (refl, refl));
              none = was.none;
              some = was.some;
              view = was.view;
              told = was.told;
              under = was.under;
              unled = was.unled;
            }

    -- so it is along a run
    run_copies : TellsApart x.among → (steps : List Step) (old new : History D) (a b : Account) → IsReached x old a → Sees x asked (left_in old) a → IsWell x old → IsCopiedSo old a → Runs x steps old a new b → AllSent (PushRight (bytes_in asked)) new.sent → AllSent (IsOfOneEdit asked) new.sent → IsCopiedSo new b
    run_copies apart [] old new a b r first well copies runs right one = subst (λ h. IsCopiedSo h b) (sym runs.0) (subst (IsCopiedSo old) (sym runs.1) copies)
    run_copies apart (step ∷ steps) old new a b r first well copies (mid, c, moves, rest) right one =
        let stays = run_stays x asked given steps mid new c b rest in
        let next = sees_step_through x asked given law apart step old mid a c first well moves (before x.seen x.failures x.armed (PushRight (bytes_in asked)) mid.sent new.sent stays right) (before x.seen x.failures x.armed (IsOfOneEdit asked) mid.sent new.sent stays one) in
        let last : Sees x asked (left_in mid) c = record { lives = next.goes.last; tells = next.tells; agrees = next.agrees; intact = next.intact } in
        run_copies apart steps mid new c b (reach_more x old mid a c (step ∷ []) r (mid, c, moves, (refl, refl))) last next.well
        (step_copies step old mid a c r moves first last (λ other. (_, next.goes.goes other)) copies) rest right one

  -- behind each run
  copied_so : HaveSizes → AreNumbered → (now : History D) (a : Account) → IsReached x now a → IsCopiedSo now a
  copied_so sizes law now a r =
      let given = r.begins.given in
      let asks = asked_over_all x.seen x.failures x.armed x.config x.clients x.disks r.steps r.begun now given.new r.begins.begins (reached_through x now a r).runs in
      let asked = asks.0 in
      let right = pushes_right asked now asks.1 in
      let one = of_one_edit asked now asks.1 in
      let stays = run_stays x asked given r.steps r.begun now r.first a r.runs in
      let begun : IsReached x r.begun r.first = record { apart = r.apart; begun = r.begun; first = r.first; steps = []; begins = r.begins; runs = (refl, refl) } in
      let first = sees_first_through x asked given law sizes r.begun r.first r.begins (before x.seen x.failures x.armed (PushRight (bytes_in asked)) r.begun.sent now.sent stays right) (before x.seen x.failures x.armed (IsOfOneEdit asked) r.begun.sent now.sent stays one) in
      let well = begins_well x given r.begun r.begins.begins in
      run_copies law asked given r.apart r.steps r.begun now r.first a begun first well (λ source at some. absurd (none_yet source at some)) r.runs right one
    where
      -- nobody was told anything where a store begins
      none_yet : (source : ℕ) (at : Stamp) → copied_from r.begun.sent chunk ≡ Some (source, at) → ⊥
      none_yet source at some =
          let told = copied_is_told r.begun.sent source chunk at some in
          begins_none x.seen x.failures x.armed sizes x.config (λ req. []) x.clients x.disks r.begun r.begins.given.new r.begins.begins (λ (m : Message). ⊥) (record { sender = nodes.Master; place = told.there.0 }) told.message told.there.1

-- ---- lists

-- a list in which nobody may number is what it was
pub lists_same : HaveSizes → AreNumbered → {D : Type 0} (x : Setup D) (old now : History D) (before a : Account) (steps : List Step) (source : ℕ) (at : Stamp) (view : View) → IsReached x old before → Runs x steps old before now a → view_at before source ≡ Some view → view.stamp ≡ at → view.term ≡ None → a.list source at ≡ before.list source at
lists_same sizes law x old now before a steps source at view r runs told under unled =
    let sees = each_sees_on_through sizes law x old now before a steps r runs in
    let living = living_told x sees.asked (left_in old) before sees.first source (is_told (fin.get before.durable.chunks source) told) in
    let seen = both_seen x sees.asked (left_in old) (left_in now) before a sees.first sees.last r.apart source (sees.on source) living.0 living.1 in
    let w : ChunkWorld = seen.first.alive.world in
    let v = told_view x (bytes_in sees.asked) source (left_in old) before seen.first view told in
    let ok = reached_world w seen.first.alive.reached in
    let k = agrees w ok in
    let t : ℕ = w.entry.view.stamp in
    let within : t ≤ w.known.view = (let same = k.view in omega arith) in
    let free : w.known.holder t ≡ None = k.holder ∙ v.shows.holder ∙ ap primary_of unled in
    let fixed = (leads_later w seen.last.alive.world seen.on.leads ok).fixed t within free in
    let is : at ≡ stamp_at t = sym under ∙ v.shows.stamp in
    ap (a.list source) is ∙ seen.on.lists t within v.list ∙ fixed.1 ∙ sym v.list ∙ ap (before.list source) (sym is)
  where
    is_told : (o : Option Settled) → view_in o ≡ Some view → is_some o ≡ true
    is_told None told = absurd (cc)
    is_told (Some y) told = refl

pub copies_are_of_views : HaveSizes → AreNumbered → {D : Type 0} (x : Setup D) → CopiesAreOfViews x
copies_are_of_views sizes law x now a chunk source at r copied = (was, by_told was.told)
  where
    was : WasCopied x now a chunk source at
    was = copied_so x chunk sizes law now a r source at copied

    by_told : (view_at was.before source ≡ Some was.view) ⊎ (view_at was.behind source ≡ Some was.view) → a.list source at ≡ was.behind.list source at
    by_told (inl before) =
        lists_same sizes law x was.old now was.before a (was.step ∷ was.steps) source at was.view was.reached (was.asked, was.behind, was.moves, was.runs) before was.under was.unled
        ∙ sym (lists_same sizes law x was.old was.asked was.before was.behind (was.step ∷ []) source at was.view was.reached (was.asked, was.behind, was.moves, (refl, refl)) before was.under was.unled)
    by_told (inr behind) =
        lists_same sizes law x was.asked now was.behind a was.steps source at was.view (reach_more x was.old was.asked was.before was.behind (was.step ∷ []) was.reached (was.asked, was.behind, was.moves, (refl, refl))) was.runs behind was.under was.unled
