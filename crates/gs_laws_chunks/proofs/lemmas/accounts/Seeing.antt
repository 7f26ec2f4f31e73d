-- What is seen of all chunks behind each run of a store, and in two worlds of one.
use Rattle.std.proofs.Common.{◌≡◌, ◌∙◌, ℕ, List, [], ◌∷◌, false, refl, sym, ap, subst, inl, inr}
use Rattle.std.proofs.lemmas.Bool.{false≢true}
use Rattle.gs_base.specs.declared.numbers.ReqId.{ReqId}
use Rattle.gs_laws_chunks.specs.accounts.Accounts.{Account}
use Rattle.gs_laws_chunks.specs.accounts.Moving.{account_behind}
use Rattle.gs_laws_chunks.specs.accounts.Running.{IsGiven, IsNew, IsReached, Moves, Runs, Setup}
use Rattle.gs_laws_chunks.proofs.lemmas.accounts.Told.{arming, named, one_lasts, reached_sound, runs_sound}
use Rattle.gs_block.specs.Written.{TellsApart}
use Rattle.gs_laws_chunk.specs.machine.Events.{Rests}
use Rattle.gs_laws_chunk.specs.machine.Laws.{Birth}
use Rattle.gs_laws_chunk.specs.machine.Machine.{ChunkWorld}
use Rattle.gs_laws_parts.proofs.lemmas.master.Sending.{leads_on}
use Rattle.gs_laws_lift.specs.stores.Going.{AllSent, heard_in}
use Rattle.gs_laws_lift.specs.stores.Joint.{AtMaster, AtServer, Elsewhere, GoesBy}
use Rattle.gs_laws_lift.specs.stores.Living.{GoesOn, LeadsOn, StoreGoes, StoreLives}
use Rattle.gs_laws_lift.specs.stores.Running.{LastsArmed}
use Rattle.gs_laws_lift.specs.stores.Saying.{PushRight}
use Rattle.gs_laws_lift.specs.stores.Showing.{IsAlive, Life, ShowsNodes}
use Rattle.gs_laws_lift.specs.stores.Telling.{StoreTells}
use Rattle.gs_laws_lift.proofs.lemmas.stores.AskingRuns.{ask_on, asked_over, of_one_edit, pushes_right}
use Rattle.gs_laws_lift.proofs.lemmas.stores.Keeping.{keeps_then}
use Rattle.gs_laws_lift.proofs.lemmas.stores.Placing.{kind_of}
use Rattle.gs_laws_lift.proofs.lemmas.stores.Running.{before}
use Rattle.gs_laws_lift.proofs.lemmas.stores.Stepping.{stores_go_on}
use Rattle.gs_laws_lift.proofs.lemmas.stores.Telling.{stores_tell_on}
use Rattle.gs_laws_parts.specs.server.Requests.{Asked, IsOfOneEdit, bytes_in}
use Rattle.gs_world.proofs.Reaching.{HaveSizes}
use Rattle.gs_world.specs.Histories.{History}
use Rattle.gs_world.specs.Runs.{Step}
use Rattle.gs_laws_world.proofs.lemmas.steady.Keeping.{begins_keeping}
use Rattle.gs_laws_world.specs.steady.Saying.{KeepsTypes}
use Rattle.gs_laws_chunks.proofs.lemmas.accounts.Agreeing.{lists_stay_on, masters_keep, servers_keep, still_keeps}
use Rattle.gs_laws_chunks.proofs.lemmas.accounts.Durables.{told_is_had}
use Rattle.gs_laws_chunks.proofs.lemmas.accounts.Edits.{AreNumbered}
use Rattle.gs_laws_chunks.proofs.lemmas.accounts.Intact.{stores_stay_intact, told_same}
use Rattle.gs_laws_chunks.proofs.lemmas.accounts.Joining.{stores_agree_first, stores_agree_on}
use Rattle.gs_laws_chunks.proofs.lemmas.accounts.Reached.{all_among, arms_lasting, arms_shown, arms_unknown, empty_text, run_stays, shows_first}
use Rattle.gs_laws_chunks.specs.accounts.Agreeing.{ListsStay}
use Rattle.gs_laws_chunks.specs.accounts.Joining.{StoreAgrees}
use Rattle.gs_laws_chunks.specs.accounts.Reached.{EachIsARun, EachLeadsOn, Shows}
use Rattle.gs_laws_chunks.specs.accounts.Seeing.{EachIsSeen, EachSeesOn, IntactAt, Sees, SeesOn}
use Rattle.gs_laws_chunks.specs.accounts.Running.{IsAccounted, accounted}

-- ---- a step of one chunk

module _ {D : Type 0} (x : Setup D) (bytes : ReqId → List ℕ) (law : AreNumbered) (step : Step) (old new : History D) (a b : Account) (moves : IsAccounted x step old a new b) (lives : StoreLives x.seen x.config bytes x.among old) (behind : StoreLives x.seen x.config bytes x.among new)
    (agrees : StoreAgrees x bytes old a lives) (chunk : ℕ) where
  -- where the master is as it was, the account goes on by what is told then
  account_same : new.nodes.master ≡ old.nodes.master → account_behind step old a new a.durable ≡ b
  account_same master = ap (account_behind step old a new) (told_same x bytes chunk step old new a b moves lives agrees.told behind master) ∙ sym moves.account

  shown_then : (l : IsAlive x.seen x.config bytes chunk old) (m : IsAlive x.seen x.config bytes chunk new) → m.reached.0 ≡ l.reached.0 → ShowsNodes x.config bytes l.reached.0.epoch chunk new m.world
  shown_then l m same = subst (λ (birth : Birth). ShowsNodes x.config bytes birth.epoch chunk new m.world) same (record { members = m.shows.members; sent = m.shows.sent })

  -- what the account had of its views it has still
  lists_step : (l : IsAlive x.seen x.config bytes chunk old) (m : IsAlive x.seen x.config bytes chunk new) → m.reached.0 ≡ l.reached.0 → GoesBy x.seen x.config bytes l.reached.0.epoch chunk step old new l.world m.world → ListsStay chunk a l.world b m.world
  lists_step l m same (AtServer by) =
      subst (λ (c : Account). ListsStay chunk a l.world c m.world) (account_same by.master)
      (servers_keep law x.seen x.config bytes chunk step old new a l.world m.world l.reached lives.keeps (record { members = l.shows.members; sent = l.shows.sent }) (shown_then l m same) by by.met)
  lists_step l m same (AtMaster by) =
      subst (λ (c : Account). ListsStay chunk a l.world c m.world) (ap (account_behind step old a new) (told_is_had x.seen new.nodes.master b.durable by.behind behind.lasts moves.told by.has) ∙ sym moves.account)
      (masters_keep x.seen x.config bytes chunk step old new a l.world m.world l.reached (shown_then l m same) by (told_is_had x.seen old.nodes.master a.durable by.before lives.lasts agrees.told by.had))
  lists_step l m same (Elsewhere still servers master node messages moment are posted) =
      subst (λ (w : ChunkWorld). ListsStay chunk a l.world b w) (sym still)
      (subst (λ (c : Account). ListsStay chunk a l.world c l.world) (account_same master) (still_keeps D chunk step old new a l.world servers))

  -- a step, and others behind it
  pub sees_more : (about : _) (next : History D) (c : Account) (l : Life x.seen x.config bytes chunk old) (m : Life x.seen x.config bytes chunk new) (n : Life x.seen x.config bytes chunk next) → GoesOn x.seen x.config bytes chunk step about old new l m → SeesOn x bytes chunk new b next c m n → SeesOn x bytes chunk old a next c l n
  sees_more about next c (inl l) m n goes on = tt
  sees_more about next c (inr l) (inl m) n goes on = absurd goes
  sees_more about next c (inr l) (inr m) (inl n) goes on = absurd on
  sees_more about next c (inr l) (inr m) (inr n) goes on =
      (on.0 ∙ goes.same, leads_on l.world m.world n.world goes.leads on.1, lists_stay_on chunk a b c l.world m.world n.world l.reached goes.leads (lists_step l m goes.same goes.by) on.2)

pub sees_still : {D : Type 0} (x : Setup D) (bytes : ReqId → List ℕ) (chunk : ℕ) (h : History D) (a : Account) (life : Life x.seen x.config bytes chunk h) → SeesOn x bytes chunk h a h a life life
sees_still x bytes chunk h a (inl unborn) = tt
sees_still x bytes chunk h a (inr l) = (refl, Rests, λ t within same. same)

-- ---- where a store begins new

module _ {D : Type 0} (x : Setup D) (asked : ℕ → Asked) (given : IsGiven x) where
  -- when a store begins new no server survives anything
  nobody_intact : (begun : History D) (a : Account) → IsNew x begun a → (chunk : ℕ) (life : Life x.seen x.config (bytes_in asked) chunk begun) → IntactAt x (bytes_in asked) a chunk begun life
  nobody_intact begun a new chunk (inl unborn) = tt
  nobody_intact begun a new chunk (inr l) = λ e j upgrading known fit is. absurd (false≢true (sym (ap (λ (c : Account). c.intact chunk j) new.account) ∙ is))

  pub sees_first : HaveSizes → (begun : History D) (first : Account) → IsNew x begun first → AllSent (PushRight (bytes_in asked)) begun.sent → AllSent (IsOfOneEdit asked) begun.sent → Sees x asked begun first
  sees_first sizes begun first new right one =
      let shows = shows_first x asked given sizes begun first new right one in
      record { lives = shows.lives; tells = shows.tells; agrees = stores_agree_first x (bytes_in asked) begun first shows.lives new; intact = λ chunk. nobody_intact begun first new chunk (shows.lives.life chunk) }

-- ---- all of them

module _ {D : Type 0} (x : Setup D) (asked : ℕ → Asked) (given : IsGiven x) (quiet : x.fails ≡ false) (law : AreNumbered) where
  abbrev bytes : ReqId → List ℕ
  bytes = bytes_in asked

  -- Behind a step all chunks are seen, and have gone on by what it is.
  pub record SeesNext (step : Step) (old mid : History D) (a c : Account) (first : Sees x asked old a) : Type 0 where
    pub goes : StoreGoes x.seen x.failures x.armed x.config bytes x.among step old mid first.lives
    pub tells : StoreTells x.seen x.config bytes asked x.among mid goes.last
    pub agrees : StoreAgrees x bytes mid c goes.last
    pub intact : (chunk : ℕ) → IntactAt x bytes c chunk mid (goes.last.life chunk)
    pub types : KeepsTypes mid

  pub sees_step : TellsApart x.among → (step : Step) (old mid : History D) (a c : Account) (first : Sees x asked old a) → KeepsTypes old → Moves x step old a mid c → AllSent (PushRight bytes) mid.sent → AllSent (IsOfOneEdit asked) mid.sent → SeesNext step old mid a c first
  sees_step apart step old mid a c first types moves right one =
      let is_named = named x step old moves.steps.within types in
      let keeps_mid = keeps_then x.seen x.failures x.armed x.config bytes step old mid first.lives.pushes first.lives.keeps (kind_of x.seen x.failures x.armed step old mid moves.steps.goes is_named) in
      let goes = stores_go_on x.seen x.failures x.armed x.config bytes x.among (arms_shown x asked given) (arms_lasting x asked given) (arms_unknown x asked given) apart (empty_text x asked given) step old mid first.lives moves.steps.goes is_named (moves.steps.sound quiet) (all_among x asked given mid keeps_mid moves.steps.among) right in
      record {
        goes = goes;
        tells = stores_tell_on x.seen x.failures x.armed x.config bytes x.among asked step old mid first.lives goes (moves.steps.sound quiet) one first.tells;
        agrees = stores_agree_on x bytes law step old mid a c first.lives goes moves first.agrees;
        intact = stores_stay_intact x bytes step old mid a c first.lives goes moves first.agrees first.intact;
        types = (one_lasts x given quiet step old mid first.lives.lasts types moves.steps).1;
      }

  -- a chunk that lived lives on
  pub lives_on_sound : (step : Step) (old mid : History D) (a c : Account) (first : Sees x asked old a) (next : SeesNext step old mid a c first) (chunk : ℕ) (l : IsAlive x.seen x.config bytes chunk old) → first.lives.life chunk ≡ inr l
      → (m : IsAlive x.seen x.config bytes chunk mid) × (next.goes.last.life chunk ≡ inr m)
  lives_on_sound step old mid a c first next chunk l is = by_life (next.goes.last.life chunk) refl (subst (λ life. GoesOn x.seen x.config bytes chunk step (heard_in x.seen x.failures x.armed next.goes.kind) old mid life (next.goes.last.life chunk)) is (next.goes.goes chunk))
    where
      by_life : (life : Life x.seen x.config bytes chunk mid) → next.goes.last.life chunk ≡ life → GoesOn x.seen x.config bytes chunk step (heard_in x.seen x.failures x.armed next.goes.kind) old mid (inr l) (next.goes.last.life chunk) → (m : IsAlive x.seen x.config bytes chunk mid) × (next.goes.last.life chunk ≡ inr m)
      by_life (inl unborn) at goes = absurd (subst (GoesOn x.seen x.config bytes chunk step (heard_in x.seen x.failures x.armed next.goes.kind) old mid (inr l)) at goes)
      by_life (inr m) at goes = (m, at)

  -- from a world in which all is seen steps lead to another
  pub record SeesTo (old new : History D) (a b : Account) (first : Sees x asked old a) : Type 0 where
    pub last : Sees x asked new b
    pub on : (chunk : ℕ) → SeesOn x bytes chunk old a new b (first.lives.life chunk) (last.lives.life chunk)

  pub sees_run : TellsApart x.among → (steps : List Step) (old new : History D) (a b : Account) (first : Sees x asked old a) → KeepsTypes old → Runs x steps old a new b → AllSent (PushRight bytes) new.sent → AllSent (IsOfOneEdit asked) new.sent → SeesTo old new a b first
  sees_run apart [] old new a b first types runs right one =
      subst (λ (h : History D). SeesTo old h a b first) (sym runs.0)
      (subst (λ (c : Account). SeesTo old old a c first) (sym runs.1) (record { last = first; on = λ chunk. sees_still x bytes chunk old a (first.lives.life chunk) }))
  sees_run apart (step ∷ steps) old new a b first types (mid, c, moves, rest) right one =
      let stays = run_stays x asked given steps mid new c b rest in
      let next = sees_step apart step old mid a c first types moves (before x.seen x.failures x.armed (PushRight bytes) mid.sent new.sent stays right) (before x.seen x.failures x.armed (IsOfOneEdit asked) mid.sent new.sent stays one) in
      let then : Sees x asked mid c = record { lives = next.goes.last; tells = next.tells; agrees = next.agrees; intact = next.intact } in
      let more = sees_run apart steps mid new c b then next.types rest right one in
      record { last = more.last; on = λ chunk. sees_more x bytes law step old mid a c (accounted x step old a mid c moves) first.lives next.goes.last first.agrees chunk _ new b (first.lives.life chunk) (next.goes.last.life chunk) (more.last.lives.life chunk) (next.goes.goes chunk) (more.on chunk) }

-- behind each run, for all that is said to be asked by which what was sent for a request is of its one edit
pub sees_for : HaveSizes → AreNumbered → {D : Type 0} (x : Setup D) → x.fails ≡ false → (asked : ℕ → Asked) (now : History D) (a : Account) → IsReached x now a → AllSent (PushRight (bytes_in asked)) now.sent → AllSent (IsOfOneEdit asked) now.sent → Sees x asked now a
sees_for sizes law x quiet asked now a r right one =
    let given = r.begins.given in
    let stays = run_stays x asked given r.steps r.begun now r.first a r.runs in
    let first = sees_first x asked given sizes r.begun r.first r.begins (before x.seen x.failures x.armed (PushRight (bytes_in asked)) r.begun.sent now.sent stays right) (before x.seen x.failures x.armed (IsOfOneEdit asked) r.begun.sent now.sent stays one) in
    let types = begins_keeping x.seen x.failures x.armed x.config x.clients x.disks r.begun given.few r.begins.begins in
    (sees_run x asked given quiet law r.apart r.steps r.begun now r.first a first types r.runs right one).last

pub each_is_seen : HaveSizes → AreNumbered → {D : Type 0} (x : Setup D) → EachIsSeen x
each_is_seen sizes law x quiet now a r =
    let given = r.begins.given in
    let sound = reached_sound x quiet now a r in
    let asks = asked_over x.seen x.failures x.armed (λ disk call place lasts. arming x x.seen place (x.armed disk call place) (given.armed disk call place) lasts) x.config x.clients x.disks r.steps r.begun now given.new r.begins.begins sound.runs in
    (asks.0, asks.1, sees_for sizes law x quiet asks.0 now a r (pushes_right asks.0 now asks.1) (of_one_edit asks.0 now asks.1))

-- and in two worlds of one
pub each_sees_on : HaveSizes → AreNumbered → {D : Type 0} (x : Setup D) → EachSeesOn x
each_sees_on sizes law x quiet now later a b steps r runs =
    let given = r.begins.given in
    let arms : LastsArmed x.seen x.armed = λ disk call place lasts. arming x x.seen place (x.armed disk call place) (given.armed disk call place) lasts in
    let sound = reached_sound x quiet now a r in
    let asks = asked_over x.seen x.failures x.armed arms x.config x.clients x.disks r.steps r.begun now given.new r.begins.begins sound.runs in
    let more = ask_on x.seen x.failures x.armed arms steps now later asks.0 asks.1 sound.lasts (runs_sound x given quiet steps now later a b sound.lasts sound.types runs).runs in
    let asked = more.all in
    let right = pushes_right asked later more.are in
    let one = of_one_edit asked later more.are in
    let on = run_stays x asked given steps now later a b runs in
    let right_now = before x.seen x.failures x.armed (PushRight (bytes_in asked)) now.sent later.sent on right in
    let one_now = before x.seen x.failures x.armed (IsOfOneEdit asked) now.sent later.sent on one in
    let stays = run_stays x asked given r.steps r.begun now r.first a r.runs in
    let first = sees_first x asked given sizes r.begun r.first r.begins (before x.seen x.failures x.armed (PushRight (bytes_in asked)) r.begun.sent now.sent stays right_now) (before x.seen x.failures x.armed (IsOfOneEdit asked) r.begun.sent now.sent stays one_now) in
    let types = begins_keeping x.seen x.failures x.armed x.config x.clients x.disks r.begun given.few r.begins.begins in
    let here = (sees_run x asked given quiet law r.apart r.steps r.begun now r.first a first types r.runs right_now one_now).last in
    let there = sees_run x asked given quiet law r.apart steps now later a b here sound.types runs right one in
    record { asked = asked; are = more.are; first = here; last = there.last; on = there.on }

-- ---- each chunk is a run of its machine

abbrev pub shown_by : {D : Type 0} (x : Setup D) (asked : ℕ → Asked) (h : History D) (a : Account) → Sees x asked h a → Shows x asked h
shown_by x asked h a sees = record { lives = sees.lives; tells = sees.tells }

pub leads_seen : {D : Type 0} (x : Setup D) (bytes : ReqId → List ℕ) (chunk : ℕ) (old new : History D) (a b : Account) (life : Life x.seen x.config bytes chunk old) (last : Life x.seen x.config bytes chunk new) → SeesOn x bytes chunk old a new b life last → LeadsOn x.seen x.config bytes chunk old new life last
leads_seen x bytes chunk old new a b (inl unborn) last on = tt
leads_seen x bytes chunk old new a b (inr l) (inl unborn) on = on
leads_seen x bytes chunk old new a b (inr l) (inr m) on = (on.0, on.1)

pub each_is_a_run : HaveSizes → AreNumbered → {D : Type 0} (x : Setup D) → EachIsARun x
each_is_a_run sizes law x quiet now a r = (let sees = each_is_seen sizes law x quiet now a r in (sees.0, sees.1, shown_by x sees.0 now a sees.2))

pub each_leads_on : HaveSizes → AreNumbered → {D : Type 0} (x : Setup D) → EachLeadsOn x
each_leads_on sizes law x quiet now later a b steps r runs =
    let sees = each_sees_on sizes law x quiet now later a b steps r runs in
    record {
      asked = sees.asked;
      are = sees.are;
      first = shown_by x sees.asked now a sees.first;
      last = shown_by x sees.asked later b sees.last;
      leads = λ chunk. leads_seen x (bytes_in sees.asked) chunk now later a b (sees.first.lives.life chunk) (sees.last.lives.life chunk) (sees.on chunk);
    }
