-- What is seen of all chunks behind each run of a store, whatever disks of the master fail.
use Rattle.std.proofs.Common.{◌≡◌, ◌∙◌, ℕ, List, [], ◌∷◌, Option, Some, None, refl, sym, ap, subst}
use Rattle.std.specs.FinMap as fin
use Rattle.gs_base.specs.declared.numbers.Moment.{Moment}
use Rattle.gs_base.specs.declared.numbers.Stamp.{Stamp}
use Rattle.gs_master_spec.specs.Applied.{view_in}
use Rattle.gs_msg.specs.declared.event.Happening.{Happening}
use Rattle.gs_msg.specs.declared.event.Happening.TheVariants as happenings
use Rattle.gs_msg.specs.declared.message.Message.{Message}
use Rattle.gs_replica.specs.Stands.{Edit}
use Rattle.gs_laws_chunks.specs.accounts.Moving.{account_behind, list_behind, numbered, numbered_at, numbered_by, numbered_of, server_of}
use Rattle.gs_base.specs.declared.numbers.ReqId.{ReqId}
use Rattle.gs_block.specs.Written.{TellsApart}
use Rattle.gs_master_spec.specs.Durable.{Durable}
use Rattle.gs_laws_parts.specs.server.Requests.{Asked, IsOfOneEdit, bytes_in}
use Rattle.gs_world.proofs.Reaching.{HaveSizes}
use Rattle.gs_world.proofs.Sending.{step_stays}
use Rattle.gs_world.specs.Histories.{History}
use Rattle.gs_world.specs.Runs.{Comes, StaySent, Step, Takes}
use Rattle.gs_world.specs.Sent.{message_of}
use Rattle.gs_laws_world.specs.steady.Saying.{KeepsTypes}
use Rattle.gs_laws_world.specs.steady.Through.{LastsThrough}
use Rattle.gs_laws_lift.proofs.lemmas.stores.AskingRuns.{of_one_edit, pushes_right}
use Rattle.gs_laws_lift.proofs.lemmas.stores.Keeping.{keeps_then}
use Rattle.gs_laws_lift.proofs.lemmas.stores.Placing.{kind_of}
use Rattle.gs_laws_lift.proofs.lemmas.stores.Running.{before}
use Rattle.gs_laws_lift.proofs.lemmas.stores.SteppingAll.{stores_go_all}
use Rattle.gs_laws_lift.proofs.lemmas.stores.TellingAll.{ask_on_all, asked_over_all, stores_tell_on_all}
use Rattle.gs_laws_lift.specs.stores.Going.{AllSent, heard_in}
use Rattle.gs_laws_lift.specs.stores.Left.{as_left, left_in}
use Rattle.gs_laws_lift.specs.stores.LeftRunning.{ArmsLeft, StoreGoesAll}
use Rattle.gs_laws_lift.specs.stores.Saying.{PushRight}
use Rattle.gs_laws_lift.specs.stores.Showing.{Keeps}
use Rattle.gs_laws_lift.specs.stores.Telling.{StoreTells}
use Rattle.gs_laws_chunks.proofs.lemmas.accounts.Edits.{AreNumbered}
use Rattle.gs_laws_chunks.proofs.lemmas.accounts.Intact.{one_intact}
use Rattle.gs_laws_chunks.proofs.lemmas.accounts.Joining.{stores_agree}
use Rattle.gs_laws_chunks.proofs.lemmas.accounts.Reached.{all_among, durable_armed, empty_text, shown_armed, unknown_armed}
use Rattle.gs_laws_chunks.proofs.lemmas.accounts.Seeing.{leads_seen, sees_first, sees_more, sees_still, shown_by}
use Rattle.gs_laws_chunks.specs.accounts.Reached.{EachIsARunThrough, EachLeadsOnThrough}
use Rattle.gs_laws_chunks.proofs.lemmas.accounts.Well.{IsWell, armed_left, begins_well, left_so, step_well, told_left, well_lasts}
use Rattle.gs_laws_chunks.proofs.lemmas.accounts.Told.{named}
use Rattle.gs_laws_chunks.specs.accounts.Accounts.{Account}
use Rattle.gs_laws_chunks.specs.accounts.Joining.{StoreAgrees}
use Rattle.gs_laws_chunks.specs.accounts.Running.{IsAccounted, IsGiven, IsNew, IsReached, Moves, Runs, Setup}
use Rattle.gs_laws_chunks.specs.accounts.Seeing.{IntactAt, Sees, SeesOn}
use Rattle.gs_laws_chunks.specs.accounts.SeenThrough.{EachIsSeenThrough, EachSeesOnThrough, ReachedStayThrough, StaysThrough}

-- ---- the account goes by servers and by what was sent

module _ {D : Type 0} (old new : History D) where
  numbered_in : (id : Option ℕ) (message : Message) (moment : Moment) (chunk : ℕ) → numbered_by id message moment (left_in old) (left_in new) chunk ≡ numbered_by id message moment old new chunk
  numbered_in None message moment chunk = refl
  numbered_in (Some id) message moment chunk = refl

  numbered_heard : (message : Option Message) (moment : Moment) (chunk : ℕ) → numbered_of message moment (left_in old) (left_in new) chunk ≡ numbered_of message moment old new chunk
  numbered_heard None moment chunk = refl
  numbered_heard (Some message) moment chunk = numbered_in (server_of message.to) message moment chunk

  numbered_there : (happening : Happening) (moment : Moment) (chunk : ℕ) → numbered_at happening moment (left_in old) (left_in new) chunk ≡ numbered_at happening moment old new chunk
  numbered_there (happenings.Ask req request) moment chunk = refl
  numbered_there (happenings.Deliver id) moment chunk = numbered_heard (message_of old.sent id) moment chunk
  numbered_there (happenings.Tick node) moment chunk = refl
  numbered_there (happenings.Beat id) moment chunk = refl
  numbered_there (happenings.Restart node) moment chunk = refl
  numbered_there (happenings.Lose id handle) moment chunk = refl
  numbered_there (happenings.Damage id handle block) moment chunk = refl
  numbered_there (happenings.FailDisk disk call) moment chunk = refl

  numbered_left : (step : Step) (chunk : ℕ) → numbered step (left_in old) (left_in new) chunk ≡ numbered step old new chunk
  numbered_left (Comes event) chunk = numbered_there event.happening event.moment chunk
  numbered_left (Takes client) chunk = refl

  abbrev with_numbered : Step → Account → Durable → (ℕ → Option (Stamp × Edit)) → Account
  with_numbered step a d found = record (account_behind step old a new d) { list = λ chunk stamp. list_behind a new.sent d (found chunk) chunk stamp (view_in (fin.get d.chunks chunk)) }

  -- so it is the same of what is left
  pub account_left : (step : Step) (a : Account) (d : Durable) → account_behind step old a new d ≡ account_behind step (left_in old) a (left_in new) d
  account_left step a d = sym (ap (with_numbered step a d) (λ i chunk. numbered_left step chunk i))

module _ {D : Type 0} (x : Setup D) (given : IsGiven x) where
  pub arms_left : ArmsLeft x.seen x.armed
  arms_left = record {
    shown = λ chunk w disk call place shows. shown_armed x.seen chunk w (as_left place) (as_left (x.armed disk call place)) (armed_left x.seen place (x.armed disk call place) (given.armed disk call place)) shows;
    durable = λ d disk call place has. durable_armed x.seen d (as_left place) (as_left (x.armed disk call place)) (armed_left x.seen place (x.armed disk call place) (given.armed disk call place)) has;
    unknown = λ chunk disk call epoch place unknown. unknown_armed x.seen chunk epoch (as_left place) (as_left (x.armed disk call place)) (armed_left x.seen place (x.armed disk call place) (given.armed disk call place)) unknown;
  }

  -- what stands behind many steps
  pub runs_through : (steps : List Step) (old new : History D) (a b : Account) → IsWell x old → Runs x steps old a new b → StaysThrough x steps old new
  runs_through [] old new a b well runs = record { lasts = subst (λ (h : History D). LastsThrough x.seen h.nodes.master) (sym runs.0) well.steady; types = subst (λ (h : History D). KeepsTypes h) (sym runs.0) well.types; runs = runs.0 }
  runs_through (step ∷ steps) old new a b well (mid, c, one, rest) =
      let behind = step_well x given step old mid well one.steps in
      let more = runs_through steps mid new c b behind rest in
      record { lasts = more.lasts; types = more.types; runs = (mid, one.steps.goes, named x step old one.steps.within well.types, well_lasts x mid behind, more.runs) }

  -- what was sent stays so
  pub through_stays : (steps : List Step) (old new : History D) (a b : Account) → Runs x steps old a new b → StaySent old.sent new.sent
  through_stays [] old new a b runs id message is = subst (λ (h : History D). message_of h.sent id ≡ Some message) (sym runs.0) is
  through_stays (step ∷ steps) old new a b (mid, c, one, rest) id message is = through_stays steps mid new c b rest id message (step_stays x.seen x.failures x.armed step old mid one.steps.goes id message is)

pub reached_through : {D : Type 0} (x : Setup D) → ReachedStayThrough x
reached_through x now a r = runs_through x r.begins.given r.steps r.begun now r.first a (begins_well x r.begins.given r.begun r.begins.begins) r.runs

pub reached_well : {D : Type 0} (x : Setup D) (now : History D) (a : Account) → IsReached x now a → IsWell x now
reached_well x now a r = let stays = reached_through x now a r in record { types = stays.types; steady = stays.lasts }

-- ---- all chunks

module _ {D : Type 0} (x : Setup D) (asked : ℕ → Asked) (given : IsGiven x) (law : AreNumbered) where
  abbrev bytes : ReqId → List ℕ
  bytes = bytes_in asked

  -- Behind a step all chunks are seen, and have gone on by what it is.
  pub record SeesNextThrough (step : Step) (old mid : History D) (a c : Account) (first : Sees x asked (left_in old) a) : Type 0 where
    pub goes : StoreGoesAll x.seen x.failures x.armed x.config bytes x.among step old mid first.lives
    pub tells : StoreTells x.seen x.config bytes asked x.among (left_in mid) goes.last
    pub account : IsAccounted x step (left_in old) a (left_in mid) c
    pub agrees : StoreAgrees x bytes (left_in mid) c goes.last
    pub intact : (chunk : ℕ) → IntactAt x bytes c chunk (left_in mid) (goes.last.life chunk)
    pub well : IsWell x mid

  pub sees_step_through : TellsApart x.among → (step : Step) (old mid : History D) (a c : Account) (first : Sees x asked (left_in old) a) → IsWell x old → Moves x step old a mid c → AllSent (PushRight bytes) mid.sent
      → AllSent (IsOfOneEdit asked) mid.sent → SeesNextThrough step old mid a c first
  sees_step_through apart step old mid a c first well moves right one =
      let is_named = named x step old moves.steps.within well.types in
      let was : Keeps x.config bytes old = record { servers = first.lives.keeps.servers; buffers = first.lives.keeps.buffers } in
      let keeps_mid = keeps_then x.seen x.failures x.armed x.config bytes step old mid first.lives.pushes was (kind_of x.seen x.failures x.armed step old mid moves.steps.goes is_named) in
      let behind = step_well x given step old mid well moves.steps in
      let goes = stores_go_all x.seen x.failures x.armed x.config bytes x.among (record { arming = arms_left x given; apart = apart; empty = empty_text x asked given }) step old mid first.lives moves.steps.goes is_named (well_lasts x mid behind)
      (all_among x asked given mid keeps_mid moves.steps.among) right in
      let account : IsAccounted x step (left_in old) a (left_in mid) c = record { told = told_left x.seen mid.nodes.master c.durable moves.told; account = moves.account ∙ account_left old mid step a c.durable } in
      record {
        goes = goes;
        tells = stores_tell_on_all x.seen x.failures x.armed x.config bytes x.among asked step old mid first.lives goes one first.tells;
        account = account;
        agrees = stores_agree x bytes law step (heard_in x.seen x.failures x.armed goes.kind) (left_in old) (left_in mid) a c first.lives goes.last goes.goes account first.agrees;
        intact = λ chunk.
            one_intact x bytes chunk step (left_in old) (left_in mid) a c account first.lives first.agrees.told goes.last (heard_in x.seen x.failures x.armed goes.kind) (first.lives.life chunk) (goes.last.life chunk) (goes.goes chunk) (first.intact chunk);
        well = behind;
      }

  -- from a world in which all is seen steps lead to another
  pub record SeesToThrough (old new : History D) (a b : Account) (first : Sees x asked (left_in old) a) : Type 0 where
    pub last : Sees x asked (left_in new) b
    pub on : (chunk : ℕ) → SeesOn x bytes chunk (left_in old) a (left_in new) b (first.lives.life chunk) (last.lives.life chunk)

  pub sees_run_through : TellsApart x.among → (steps : List Step) (old new : History D) (a b : Account) (first : Sees x asked (left_in old) a) → IsWell x old → Runs x steps old a new b → AllSent (PushRight bytes) new.sent
      → AllSent (IsOfOneEdit asked) new.sent → SeesToThrough old new a b first
  sees_run_through apart [] old new a b first well runs right one =
      subst (λ (h : History D). SeesToThrough old h a b first) (sym runs.0)
      (subst (λ (c : Account). SeesToThrough old old a c first) (sym runs.1) (record { last = first; on = λ chunk. sees_still x bytes chunk (left_in old) a (first.lives.life chunk) }))
  sees_run_through apart (step ∷ steps) old new a b first well (mid, c, moves, rest) right one =
      let stays = through_stays x given steps mid new c b rest in
      let next = sees_step_through apart step old mid a c first well moves (before x.seen x.failures x.armed (PushRight bytes) mid.sent new.sent stays right) (before x.seen x.failures x.armed (IsOfOneEdit asked) mid.sent new.sent stays one) in
      let mid_seen : Sees x asked (left_in mid) c = record { lives = next.goes.last; tells = next.tells; agrees = next.agrees; intact = next.intact } in
      let more = sees_run_through apart steps mid new c b mid_seen next.well rest right one in
      record {
        last = more.last;
        on = λ chunk.
            sees_more x bytes law step (left_in old) (left_in mid) a c next.account first.lives next.goes.last first.agrees chunk (heard_in x.seen x.failures x.armed next.goes.kind) (left_in new) b (first.lives.life chunk) (next.goes.last.life chunk) (more.last.lives.life chunk)
            (next.goes.goes chunk) (more.on chunk);
      }

  -- when a store begins new
  pub sees_first_through : HaveSizes → (begun : History D) (first : Account) → IsNew x begun first → AllSent (PushRight bytes) begun.sent → AllSent (IsOfOneEdit asked) begun.sent → Sees x asked (left_in begun) first
  sees_first_through sizes begun first new right one =
      let sees = sees_first x asked given sizes begun first new right one in
      subst (λ place. Sees x asked (record begun { nodes = record begun.nodes { master = place } }) first) (sym (left_so x.seen begun.nodes.master sees.lives.lasts)) sees

-- behind each run, for all that is said to be asked by which what was sent for a request is of its one edit
pub sees_for_through : HaveSizes → AreNumbered → {D : Type 0} (x : Setup D) (asked : ℕ → Asked) (now : History D) (a : Account) → IsReached x now a → AllSent (PushRight (bytes_in asked)) now.sent → AllSent (IsOfOneEdit asked) now.sent → Sees x asked (left_in now) a
sees_for_through sizes law x asked now a r right one =
    let given = r.begins.given in
    let stays = through_stays x given r.steps r.begun now r.first a r.runs in
    let first = sees_first_through x asked given law sizes r.begun r.first r.begins (before x.seen x.failures x.armed (PushRight (bytes_in asked)) r.begun.sent now.sent stays right) (before x.seen x.failures x.armed (IsOfOneEdit asked) r.begun.sent now.sent stays one) in
    (sees_run_through x asked given law r.apart r.steps r.begun now r.first a first (begins_well x given r.begun r.begins.begins) r.runs right one).last

pub each_is_seen_through : HaveSizes → AreNumbered → {D : Type 0} (x : Setup D) → EachIsSeenThrough x
each_is_seen_through sizes law x now a r =
    let stays = reached_through x now a r in
    let asks = asked_over_all x.seen x.failures x.armed x.config x.clients x.disks r.steps r.begun now r.begins.given.new r.begins.begins stays.runs in
    (asks.0, asks.1, sees_for_through sizes law x asks.0 now a r (pushes_right asks.0 now asks.1) (of_one_edit asks.0 now asks.1))

-- and in two worlds of one
pub each_sees_on_through : HaveSizes → AreNumbered → {D : Type 0} (x : Setup D) → EachSeesOnThrough x
each_sees_on_through sizes law x now later a b steps r runs =
    let given = r.begins.given in
    let here = reached_through x now a r in
    let asks = asked_over_all x.seen x.failures x.armed x.config x.clients x.disks r.steps r.begun now given.new r.begins.begins here.runs in
    let well = reached_well x now a r in
    let more = ask_on_all x.seen x.failures x.armed steps now later asks.0 asks.1 (well_lasts x now well) (runs_through x given steps now later a b well runs).runs in
    let asked = more.all in
    let right = pushes_right asked later more.are in
    let one = of_one_edit asked later more.are in
    let on = through_stays x given steps now later a b runs in
    let first = sees_for_through sizes law x asked now a r (before x.seen x.failures x.armed (PushRight (bytes_in asked)) now.sent later.sent on right) (before x.seen x.failures x.armed (IsOfOneEdit asked) now.sent later.sent on one) in
    let there = sees_run_through x asked given law r.apart steps now later a b first well runs right one in
    record { asked = asked; are = more.are; first = first; last = there.last; on = there.on }

-- ---- each chunk is a run of its machine

pub each_is_a_run_through : HaveSizes → AreNumbered → {D : Type 0} (x : Setup D) → EachIsARunThrough x
each_is_a_run_through sizes law x now a r = (let sees = each_is_seen_through sizes law x now a r in (sees.0, sees.1, shown_by x sees.0 (left_in now) a sees.2))

pub each_leads_on_through : HaveSizes → AreNumbered → {D : Type 0} (x : Setup D) → EachLeadsOnThrough x
each_leads_on_through sizes law x now later a b steps r runs =
    let sees = each_sees_on_through sizes law x now later a b steps r runs in
    record {
      asked = sees.asked;
      are = sees.are;
      first = shown_by x sees.asked (left_in now) a sees.first;
      last = shown_by x sees.asked (left_in later) b sees.last;
      leads = λ chunk. leads_seen x (bytes_in sees.asked) chunk (left_in now) (left_in later) a b (sees.first.lives.life chunk) (sees.last.lives.life chunk) (sees.on chunk);
    }
