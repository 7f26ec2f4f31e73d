-- What is read of a chunk that nobody leads.
use Rattle.std.proofs.Common.{◌≡◌, ◌∙◌, ◌++◌, ◌<◌, inr, ℕ, true, false, List, Option, Some, None, Ok, refl, sym, ap, subst, arith}
use Rattle.std.specs.Prelude.{is_some}
use Rattle.std.specs.List.{AllByRecursion}
use Rattle.std.specs.FinMap as fin
use Rattle.std.proofs.lemmas.Bool.{false≢true, true≢false}
use Rattle.gs_base.specs.Members.{is_member}
use Rattle.gs_base.specs.declared.numbers.ReqId.{ReqId}
use Rattle.gs_laws_chunk.specs.machine.Events.{is_of}
use Rattle.gs_laws_chunk.specs.machine.Laws as machine
use Rattle.gs_laws_chunk.specs.machine.Laws.{settled}
use Rattle.gs_laws_chunk.specs.machine.Machine.{ChunkWorld}
use Rattle.gs_laws_chunk.specs.machine.Stamps.{stamp_at}
use Rattle.gs_laws_parts.proofs.lemmas.master.Stamps.{of_member}
use Rattle.gs_master_record.specs.declared.checkpoint.Phase.{Phase}
use Rattle.gs_master_record.specs.declared.checkpoint.Phase.TheVariants.{Ordinary, Rolling, Upgrade}
use Rattle.gs_master_spec.specs.Applied.{view_in}
use Rattle.gs_master_spec.specs.Calls.{found_chunk}
use Rattle.gs_master_spec.specs.Durable.{Settled, is_listed, is_ordinary, is_rolling, is_upgrade}
use Rattle.gs_msg.specs.declared.body.Body.TheVariants as bodies
use Rattle.gs_msg.specs.declared.body.Given.{Given}
use Rattle.gs_msg.specs.declared.chunk.Asked.{Asked}
use Rattle.gs_msg.specs.declared.chunk.Chunk.TheVariants as chunks
use Rattle.gs_msg.specs.declared.message.Message.{Message}
use Rattle.gs_path.specs.Path.{Path}
use Rattle.gs_refs.specs.Counts.{count_or_zero}
use Rattle.gs_replica.specs.Stands.{Edit}
use Rattle.gs_server.specs.Servers.{Server}
use Rattle.gs_server.specs.Servers as servers
use Rattle.gs_laws_parts.proofs.lemmas.server.Holding.{legal_read}
use Rattle.gs_laws_parts.proofs.lemmas.server.Reading.{fetch_read}
use Rattle.gs_laws_parts.proofs.lemmas.server.Ticks.{one_of_all}
use Rattle.gs_laws_parts.specs.server.Moving.{IsShown}
use Rattle.gs_laws_parts.specs.server.Reading.{GivesOf, IsRead, Reads, ReadsBody}
use Rattle.gs_laws_parts.specs.server.Requests as requests
use Rattle.gs_laws_parts.specs.server.Requests.{IsOfOneEdit, bytes_in}
use Rattle.gs_laws_parts.specs.server.Showing.{Setting, setting_of}
use Rattle.gs_world.proofs.Reaching.{HaveSizes}
use Rattle.gs_world.specs.Histories.{History}
use Rattle.gs_world.specs.Runs.{StaySent}
use Rattle.gs_laws_chunks.proofs.lemmas.accounts.Edits.{AreNumbered}
use Rattle.gs_laws_chunks.proofs.lemmas.accounts.Fetching.{IsServed, served}
use Rattle.gs_laws_chunks.proofs.lemmas.accounts.Holding.{reach_more, runs_then}
use Rattle.gs_laws_chunks.proofs.lemmas.accounts.Runs.{keeps_told, living_listed, seen_of}
use Rattle.gs_laws_chunks.proofs.lemmas.accounts.SeeingThrough.{each_is_seen_through, reached_through, reached_well, sees_for_through, through_stays}
use Rattle.gs_laws_chunks.proofs.lemmas.accounts.Viewing.{IsViewed, viewed}
use Rattle.gs_laws_chunks.specs.accounts.Accepting.{MembersHaveNamed}
use Rattle.gs_laws_chunks.specs.accounts.Accounts.{Account, settled_edits, settled_in, text_of, view_at}
use Rattle.gs_laws_chunks.specs.accounts.Back.{GivesNamesTold, GivesSettledBack}
use Rattle.gs_laws_chunks.specs.accounts.Joined.{IsSeen}
use Rattle.gs_laws_chunks.specs.accounts.Reading.{GivesBytes, given_of}
use Rattle.gs_laws_chunks.specs.accounts.Running.{IsGiven, IsReached, Runs, Setup}
use Rattle.gs_laws_chunks.specs.accounts.Seeing.{Sees}
use Rattle.gs_laws_chunks.specs.accounts.SeenThrough.{StaysThrough}
use Rattle.gs_laws_lift.proofs.lemmas.stores.AskingRuns.{of_one_edit, pushes_right}
use Rattle.gs_laws_lift.proofs.lemmas.stores.Mastering.{both}
use Rattle.gs_laws_lift.proofs.lemmas.stores.Running.{before}
use Rattle.gs_laws_lift.proofs.lemmas.stores.Serving.{is_shown}
use Rattle.gs_laws_lift.proofs.lemmas.stores.TellingAll.{asked_over_all}
use Rattle.gs_laws_lift.specs.stores.Asking.{AreAskedIn}
use Rattle.gs_laws_lift.specs.stores.Going.{AllSent}
use Rattle.gs_laws_lift.specs.stores.Left.{left_in}
use Rattle.gs_laws_lift.specs.stores.Saying.{PushRight}
use Rattle.gs_laws_lift.specs.stores.Showing.{IsAlive, IsServer, Life}
use Rattle.gs_laws_looks.proofs.lemmas.rollbacks.Lists.{both_reached}
use Rattle.gs_laws_looks.proofs.lemmas.rollbacks.Readings.{chunk_is, given_so}
use Rattle.gs_laws_looks.proofs.lemmas.rollbacks.Unled.{referred, unled_back, unled_prepared}
use Rattle.gs_laws_looks.proofs.lemmas.leaders.Going.{SeesUnled, bare, free_now, sees_unled}
use Rattle.gs_laws_looks.proofs.lemmas.leaders.Unheld.{StaysUnheld, reads_stay, unheld_from, unheld_here, unheld_on}
use Rattle.gs_laws_looks.specs.leaders.Unled.{IsUnledAt, ReadsAreOfUnled, ReadsUnled, UnledReadsGoBack}

row_there : (o : Option Settled) → is_some o ≡ true → (y : Settled) × (o ≡ Some y)
row_there None some = absurd (false≢true some)
row_there (Some y) some = (y, refl)

-- ---- one read

module _ (sizes : HaveSizes) (law : AreNumbered) {D : Type 0} (x : Setup D) (h : History D) (a : Account) (reached : IsReached x h a) (chunk : ℕ) (listed : is_listed a.durable chunk ≡ true) (calm : is_rolling a.durable.phase ≡ false) (unled : IsUnledAt a chunk)
    (asked : Asked) (given : Given) (r : ReadsUnled x h a chunk asked given) where
  abbrev setup : IsGiven x
  setup = reached.begins.given

  to_looked : Runs x r.first h a r.looked r.c
  to_looked = bare x chunk a.durable.epoch r.first h r.looked a r.c r.before

  to_now : Runs x r.rest r.looked r.c r.now r.b
  to_now = bare x chunk a.durable.epoch r.rest r.looked r.now r.c r.b r.behind

  to_all : Runs x (r.first ++ r.rest) h a r.now r.b
  to_all = runs_then x r.first r.rest h r.looked r.now a r.c r.b to_looked to_now

  there : IsReached x r.now r.b
  there = reach_more x h r.now a r.b (r.first ++ r.rest) reached to_all

  stays : StaysThrough x there.steps there.begun r.now
  stays = reached_through x r.now r.b there

  asks : (all : ℕ → requests.Asked) × AreAskedIn all r.now
  asks = asked_over_all x.seen x.failures x.armed x.config x.clients x.disks there.steps there.begun r.now there.begins.given.new there.begins.begins stays.runs

  abbrev all : ℕ → requests.Asked
  all = asks.0

  abbrev bytes : ReqId → List ℕ
  bytes = bytes_in all

  right : AllSent (PushRight bytes) r.now.sent
  right = pushes_right all r.now asks.1

  one : AllSent (IsOfOneEdit all) r.now.sent
  one = of_one_edit all r.now asks.1

  since : StaySent r.looked.sent r.now.sent
  since = through_stays x setup r.rest r.looked r.now r.c r.b to_now

  begun : StaySent h.sent r.now.sent
  begun = through_stays x setup (r.first ++ r.rest) h r.now a r.b to_all

  sees : Sees x all (left_in h) a
  sees = sees_for_through sizes law x all h a reached (before x.seen x.failures x.armed (PushRight bytes) h.sent r.now.sent begun right) (before x.seen x.failures x.armed (IsOfOneEdit all) h.sent r.now.sent begun one)

  living : (l : IsAlive x.seen x.config bytes chunk (left_in h)) × (sees.lives.life chunk ≡ inr l)
  living = living_listed x all (left_in h) a sees chunk listed

  lives : (seen : IsSeen x bytes chunk (left_in h) a) × (seen.alive ≡ living.0)
  lives = seen_of x all (left_in h) a sees reached.apart chunk living.0 living.1

  -- the machine in the first world
  abbrev u : ChunkWorld
  u = lives.0.alive.world

  quiet : u.entry.is_rolling ≡ false
  quiet = lives.0.told.rolling ∙ calm

  known : u.entry.is_known ≡ true
  known = lives.0.told.listed listed

  rests : StaysUnheld u u
  rests = unheld_here u quiet (free_now x bytes chunk (left_in h) a lives.0 unled (λ unknown. absurd (true≢false (sym known ∙ unknown))))

  first : SeesUnled x all setup law reached.apart chunk a.durable.epoch u lives.0.alive.reached lives.0.told.epoch h a
  first = record {
    sees = sees;
    well = reached_well x h a reached;
    seen = lives.0;
    lives = living.1 ∙ ap (λ (z : IsAlive x.seen x.config bytes chunk (left_in h)). (let life : Life x.seen x.config bytes chunk (left_in h) = inr z in life)) (sym lives.1);
    rests = rests;
  }

  -- and where the chunk is looked up
  mid : SeesUnled x all setup law reached.apart chunk a.durable.epoch u lives.0.alive.reached lives.0.told.epoch r.looked r.c
  mid =
      sees_unled x all setup law reached.apart chunk a.durable.epoch u lives.0.alive.reached lives.0.told.epoch r.first h r.looked a r.c first r.before
      (before x.seen x.failures x.armed (PushRight bytes) r.looked.sent r.now.sent since right) (before x.seen x.failures x.armed (IsOfOneEdit all) r.looked.sent r.now.sent since one)

  abbrev w : ChunkWorld
  w = mid.seen.alive.world

  same_epoch : w.entry.epoch ≡ a.durable.epoch
  same_epoch = mid.rests.epoch ∙ lives.0.told.epoch

  from_mid : SeesUnled x all setup law reached.apart chunk a.durable.epoch w mid.seen.alive.reached same_epoch r.looked r.c
  from_mid = record { sees = mid.sees; well = mid.well; seen = mid.seen; lives = mid.lives; rests = unheld_from u w lives.0.alive.reached mid.rests }

  -- and where it is read
  last : SeesUnled x all setup law reached.apart chunk a.durable.epoch w mid.seen.alive.reached same_epoch r.now r.b
  last = sees_unled x all setup law reached.apart chunk a.durable.epoch w mid.seen.alive.reached same_epoch r.rest r.looked r.now r.c r.b from_mid r.behind right one

  abbrev v : ChunkWorld
  v = last.seen.alive.world

  view : IsViewed r.c chunk w r.view
  view = viewed x bytes chunk (left_in r.looked) r.c mid.seen r.view r.is.listed r.is.settled

  -- ---- what the server reads

  abbrev message : Message
  message = r.fetch.1

  abbrev id : ℕ
  id = r.fetch.2

  serves : IsServed r.now.nodes id message r.event.moment r.happens.outcome
  serves = served x.seen x.failures x.armed r.event r.now r.next r.said r.happens r.fetch.0 message id r.gives.0 r.fetch.3 r.fetch.4 r.fetch.5 r.gives.1

  abbrev s : Server
  s = serves.server

  abbrev c : Setting
  c = setting_of bytes last.seen.alive.reached.0.epoch s

  shown : IsShown c chunk v s
  shown =
      is_shown x.seen x.config bytes last.seen.alive.reached.0.epoch chunk (left_in r.now) v last.seen.alive.reached (record { members = last.seen.alive.shows.members; sent = last.seen.alive.shows.sent }) last.seen.keeps last.seen.apart id s serves.found

  abbrev sent : List Message
  sent = (servers.handle_body s message.from (bodies.About chunk (chunks.Fetch r.req r.view.stamp r.epoch asked)) r.event.moment).sent

  gives : GivesBytes sent r.req given
  gives = subst (λ (ms : List Message). GivesBytes ms r.req given) (serves.sends ∙ ap (λ body. (servers.handle_body s message.from body r.event.moment).sent) r.fetch.7) r.gives

  read : IsRead c v s.me r.epoch r.view.stamp asked given
  read =
      let reads : AllByRecursion (Reads c v s.me r.epoch r.view.stamp asked) sent = fetch_read bytes last.seen.alive.reached.0.epoch chunk v s shown message.from r.req r.view.stamp r.epoch asked r.event.moment in
      subst (ReadsBody c v s.me r.epoch r.view.stamp asked) gives.2 (one_of_all (Reads c v s.me r.epoch r.view.stamp asked) sent gives.0 reads gives.1)

  server : IsServer x.config id s
  server = last.seen.keeps.servers id s serves.found

  member : machine.is_member w s.me ≡ true
  member = ap (λ xs. is_of xs s.me) view.shows.members ∙ of_member r.view.members s.me ∙ ap (is_member r.view.members) server.me ∙ r.fetch.6

  legal : (edits : List Edit) × machine.IsLegalRead w v edits × GivesOf c (text_of c.size edits) asked given
  legal =
      legal_read c chunk w mid.seen.alive.reached v s.me asked given last.rests.leads view.known (mid.seen.told.rolling ∙ r.is.calm) member
      (subst (λ e. IsRead c v s.me e (stamp_at w.entry.view.stamp) asked given) (sym r.is.now ∙ sym mid.seen.told.epoch) (subst (λ t. IsRead c v s.me r.epoch t asked given) view.shows.stamp read))

  -- ---- that is what was settled

  settled_then : settled_edits a chunk ≡ settled u
  settled_then =
      let kept = keeps_told x all (left_in h) a sees in
      let row = row_there (fin.get a.durable.chunks chunk) (kept.settled chunk listed) in
      let told : view_at a chunk ≡ Some row.0.view = ap view_in row.1 in
      ap (settled_in a chunk) told ∙ (viewed x bytes chunk (left_in h) a lives.0 row.0.view listed told).settled

  edits_are : legal.0 ≡ settled_edits a chunk
  edits_are = reads_stay u lives.0.alive.reached known quiet w v mid.rests view.stood (unheld_on u w v lives.0.alive.reached mid.rests last.rests) legal.0 legal.1 ∙ sym settled_then

  pub of_unled : given ≡ given_of x.config.block (text_of x.config.chunk (settled_edits a chunk)) asked
  of_unled = given_so c (text_of c.size legal.0) asked given legal.2 ∙ (λ i. given_of (server.block i) (text_of (server.size i) (edits_are i)) asked)

pub reads_are_of_unled : HaveSizes → AreNumbered → {D : Type 0} (x : Setup D) → ReadsAreOfUnled x
reads_are_of_unled sizes law x h a chunk asked given reached listed calm unled r = of_unled sizes law x h a reached chunk listed calm unled asked given r

-- ---- behind a prepare and behind its rollback

calm_prepared : (phase : Phase) → is_upgrade phase ≡ true → is_rolling phase ≡ false
calm_prepared Ordinary is = refl
calm_prepared Upgrade is = refl
calm_prepared Rolling is = absurd (false≢true is)

calm_back : (phase : Phase) → is_ordinary phase ≡ true → is_rolling phase ≡ false
calm_back Ordinary is = refl
calm_back Upgrade is = refl
calm_back Rolling is = absurd (false≢true is)

-- a chunk that has a reference is listed
listed_so : (o : Option ℕ) → 0 < count_or_zero o → is_some o ≡ true
listed_so None more = absurd (omega arith)
listed_so (Some n) more = refl

-- a chunk that stands in a file is listed
pub listed_there : HaveSizes → AreNumbered → {D : Type 0} (x : Setup D) (h : History D) (a : Account) → IsReached x h a → (p : Path) (index chunk : ℕ) → found_chunk (fin.get a.durable.names.tree p) index ≡ Ok chunk → is_listed a.durable chunk ≡ true
listed_there sizes law x h a reached p index chunk found =
    let sees = each_is_seen_through sizes law x h a reached in
    listed_so (fin.get a.durable.names.refs chunk) (referred a.durable p index chunk (keeps_told x sees.0 (left_in h) a sees.2) found)

pub unled_reads_go_back : HaveSizes → AreNumbered → {D : Type 0} (x : Setup D) → GivesNamesTold x → GivesSettledBack x → MembersHaveNamed x → UnledReadsGoBack x
unled_reads_go_back sizes law x names_back settled_back members prepared now back before after last p index one other asked had has rolled found there old new =
    let reaches = both_reached x prepared now back before after last rolled in
    let then : found_chunk (fin.get before.durable.names.tree p) index ≡ Ok other = ap (λ names. found_chunk (fin.get names.tree p) index) (sym (names_back prepared now back before after last rolled)) ∙ there in
    let chunk : other ≡ one = chunk_is (sym then ∙ found) in
    let listed : is_listed before.durable one ≡ true = listed_there sizes law x prepared before reaches.0 p index one found in
    let up = both (is_ordinary rolled.upgrade.first.durable.phase) (is_upgrade before.durable.phase) rolled.upgrade.accepted in
    let over = both (is_rolling after.durable.phase) (is_ordinary last.durable.phase) rolled.accepted in
    let first =
    of_unled sizes law x prepared before reaches.0 one listed (calm_prepared before.durable.phase up.1)
    (λ view told. unled_prepared sizes law x prepared now before after rolled.upgrade one view listed told) asked had old in
    let second =
    of_unled sizes law x back last reaches.1 other (listed_there sizes law x back last reaches.1 p index other there) (calm_back last.durable.phase over.1)
    (λ view told. unled_back sizes law x members prepared now back before after last rolled p index other view then told) asked has new in
    let edits : settled_edits last other ≡ settled_edits before one = ap (settled_edits last) chunk ∙ (settled_back prepared now back before after last one rolled listed).1 in
    second ∙ ap (λ (es : List Edit). given_of x.config.block (text_of x.config.chunk es) asked) edits ∙ sym first
