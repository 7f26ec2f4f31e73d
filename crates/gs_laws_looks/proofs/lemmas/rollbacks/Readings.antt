-- What is read of a chunk, while the view stands that was settled and nobody leads it.
use Rattle.std.proofs.Common.{◌≡◌, ◌∙◌, ◌++◌, ◌+◌, inr, ℕ, true, List, [], ◌∷◌, length, Option, Some, None, Result, Ok, refl, sym, ap, subst, append-nil, arith}
use Rattle.std.specs.Prelude.{is_some}
use Rattle.std.specs.List.{AllByRecursion}
use Rattle.std.specs.FinMap as fin
use Rattle.gs_base.specs.Members.{is_member}
use Rattle.gs_base.specs.declared.numbers.ReqId.{ReqId}
use Rattle.gs_base.specs.declared.refusal.Refusal.{Refusal}
use Rattle.gs_laws_chunk.proofs.lemmas.machine.Exact.{quiet_is_settled}
use Rattle.gs_laws_chunk.proofs.lemmas.machine.Facts.{reached_world}
use Rattle.gs_laws_chunk.proofs.lemmas.machine.Lasting.{stays_known}
use Rattle.gs_laws_chunk.proofs.lemmas.machine.Worlds.{WorldOk}
use Rattle.gs_laws_chunk.specs.machine.Events.{is_of}
use Rattle.gs_laws_chunk.specs.machine.Laws as machine
use Rattle.gs_laws_chunk.specs.machine.Laws.{settled}
use Rattle.gs_laws_chunk.specs.machine.Machine.{ChunkWorld}
use Rattle.gs_laws_chunk.specs.machine.Stamps.{stamp_at}
use Rattle.gs_lease.specs.declared.view.View.{View}
use Rattle.gs_laws_parts.proofs.lemmas.master.Stamps.{of_member}
use Rattle.gs_laws_parts.specs.master.Showing.{primary_of}
use Rattle.gs_master_spec.specs.Applied.{view_in}
use Rattle.gs_master_spec.specs.Calls.{found_chunk}
use Rattle.gs_master_spec.specs.Durable.{Settled}
use Rattle.gs_msg.specs.declared.body.Body.TheVariants as bodies
use Rattle.gs_msg.specs.declared.body.Given.{Given}
use Rattle.gs_msg.specs.declared.body.Given.TheVariants as givens
use Rattle.gs_msg.specs.declared.chunk.Asked.{Asked}
use Rattle.gs_msg.specs.declared.chunk.Asked.TheVariants as asks
use Rattle.gs_msg.specs.declared.chunk.Chunk.TheVariants as chunks
use Rattle.gs_msg.specs.declared.message.Message.{Message}
use Rattle.gs_path.specs.Path.{Path}
use Rattle.gs_replica.specs.Stands.{Edit}
use Rattle.gs_server.specs.Servers.{Server}
use Rattle.gs_server.specs.Servers as servers
use Rattle.gs_laws_parts.proofs.lemmas.server.Holding.{legal_read}
use Rattle.gs_laws_parts.proofs.lemmas.server.Reading.{fetch_read}
use Rattle.gs_laws_parts.proofs.lemmas.server.Stamps.{stamp_number}
use Rattle.gs_laws_parts.proofs.lemmas.server.Ticks.{one_of_all}
use Rattle.gs_laws_parts.specs.server.Moving.{IsShown}
use Rattle.gs_laws_parts.specs.server.Reading.{GivesOf, IsRead, Reads, ReadsBody}
use Rattle.gs_laws_parts.specs.server.Requests.{bytes_in}
use Rattle.gs_laws_parts.specs.server.Showing.{Setting, setting_of}
use Rattle.gs_world.proofs.Reaching.{HaveSizes}
use Rattle.gs_world.specs.Histories.{History}
use Rattle.gs_laws_chunks.proofs.lemmas.accounts.Edits.{AreNumbered}
use Rattle.gs_laws_chunks.proofs.lemmas.accounts.Fetching.{IsServed, served}
use Rattle.gs_laws_chunks.proofs.lemmas.accounts.Runs.{BothSeen, both_seen, living_told}
use Rattle.gs_laws_chunks.proofs.lemmas.accounts.SeeingThrough.{each_sees_on_through}
use Rattle.gs_laws_chunks.proofs.lemmas.accounts.Viewing.{IsToldView, IsViewed, told_view, viewed}
use Rattle.gs_laws_chunks.specs.accounts.Accepting.{MembersHaveNamed}
use Rattle.gs_laws_chunks.specs.accounts.Accounts.{Account, settled_edits, settled_in, text_of}
use Rattle.gs_laws_chunks.specs.accounts.Back.{GivesNamesTold, GivesSettledBack}
use Rattle.gs_laws_chunks.specs.accounts.Reading.{GivesBytes, given_of}
use Rattle.gs_laws_chunks.specs.accounts.Running.{IsReached, Setup}
use Rattle.gs_laws_chunks.specs.accounts.SeenThrough.{SeesBothThrough}
use Rattle.gs_laws_lift.proofs.lemmas.stores.Serving.{is_shown}
use Rattle.gs_laws_lift.specs.stores.Left.{left_in}
use Rattle.gs_laws_lift.specs.stores.Showing.{IsAlive, IsServer}
use Rattle.gs_laws_looks.proofs.lemmas.rollbacks.Lists.{both_reached}
use Rattle.gs_laws_looks.proofs.lemmas.rollbacks.Unled.{unled_back, unled_prepared}
use Rattle.gs_laws_looks.specs.rollbacks.Looking.{ReadsAreOfSettled, ReadsGoBack, ReadsStill}

-- ---- lists

-- what begins a list that it ends behind adds nothing
no_tail : (xs ys zs : List Edit) → xs ≡ (xs ++ ys) ++ zs → ys ≡ []
no_tail xs ys zs is = short ys (counts xs ys zs (ap (λ (es : List Edit). length es) is))
  where
    long : (es fs : List Edit) → length (es ++ fs) ≡ length es + length fs
    long [] fs = omega arith
    long (e ∷ es) fs = (let more = long es fs in omega arith)

    counts : (es fs gs : List Edit) → length es ≡ length ((es ++ fs) ++ gs) → length fs ≡ 0
    counts es fs gs same = (let one = long (es ++ fs) gs in let other = long es fs in omega arith)

    short : (es : List Edit) → length es ≡ 0 → es ≡ []
    short [] none = refl
    short (e ∷ es) none = absurd (omega arith)

row_there : (o : Option Settled) (view : View) → view_in o ≡ Some view → is_some o ≡ true
row_there None view is = absurd (cc)
row_there (Some y) view is = refl

-- ---- what is given

pub given_so : (c : Setting) (text : List ℕ) (asked : Asked) (given : Given) → GivesOf c text asked given → given ≡ given_of c.block text asked
given_so c text (asks.Bytes offset many) (givens.Bytes part) is = ap givens.Bytes is
given_so c text asks.Length (givens.Length many) is = ap givens.Length is
given_so c text (asks.Digest block) (givens.Digest found) is = ap givens.Digest is
given_so c text (asks.Bytes offset many) (givens.Length found) is = absurd is
given_so c text (asks.Bytes offset many) (givens.Digest found) is = absurd is
given_so c text asks.Length (givens.Bytes part) is = absurd is
given_so c text asks.Length (givens.Digest found) is = absurd is
given_so c text (asks.Digest block) (givens.Bytes part) is = absurd is
given_so c text (asks.Digest block) (givens.Length many) is = absurd is

-- ---- one read

module _ (sizes : HaveSizes) (law : AreNumbered) {D : Type 0} (x : Setup D) (h : History D) (a : Account) (reached : IsReached x h a) (p : Path) (index : ℕ) (asked : Asked) (given : Given) (r : ReadsStill x h a p index asked given) (unled : r.view.term ≡ None) where
  sees : SeesBothThrough x h a r.now r.b
  sees = each_sees_on_through sizes law x h r.now a r.b r.steps reached r.runs

  abbrev bytes : ReqId → List ℕ
  bytes = bytes_in sees.asked

  living : (l : IsAlive x.seen x.config bytes r.chunk (left_in h)) × (sees.first.lives.life r.chunk ≡ inr l)
  living = living_told x sees.asked (left_in h) a sees.first r.chunk (row_there (fin.get a.durable.chunks r.chunk) r.view r.looked.settled)

  both : BothSeen x bytes r.chunk (left_in h) a (left_in r.now) r.b living.0
  both = both_seen x sees.asked (left_in h) (left_in r.now) a r.b sees.first sees.last reached.apart r.chunk (sees.on r.chunk) living.0 living.1

  abbrev w : ChunkWorld
  w = both.first.alive.world

  abbrev v : ChunkWorld
  v = both.last.alive.world

  ok : WorldOk w
  ok = reached_world w both.first.alive.reached

  first : IsViewed a r.chunk w r.view
  first = viewed x bytes r.chunk (left_in h) a both.first r.view r.looked.listed r.looked.settled

  last : IsToldView r.b r.chunk v r.view
  last = told_view x bytes r.chunk (left_in r.now) r.b both.last r.view r.still

  same : v.entry.view.stamp ≡ w.entry.view.stamp
  same = stamp_number v.entry.view.stamp w.entry.view.stamp (sym last.shows.stamp ∙ first.shows.stamp)

  free : w.entry.view.holder ≡ None
  free = first.shows.holder ∙ ap primary_of unled

  -- all that there is of the view is settled, then and later
  settled_then : v.known.list w.entry.view.stamp ≡ settled w
  settled_then = (let m = ok.entry in (stays_known w ok v both.on.leads).quiet w.entry.view.stamp (omega arith) (ap w.known.holder m.stamp ∙ sym m.holder ∙ free) ∙ sym (quiet_is_settled w ok free))

  settled_here : settled_edits a r.chunk ≡ settled w
  settled_here = ap (settled_in a r.chunk) r.looked.settled ∙ first.settled

  -- ---- what the server reads

  abbrev message : Message
  message = r.fetch.1

  abbrev id : ℕ
  id = r.fetch.2

  serves : IsServed r.now.nodes id message r.event.moment r.happens.outcome
  serves = served x.seen x.failures x.armed r.event r.now r.next r.said r.happens r.fetch.0 message id r.gives.0 r.fetch.3 r.fetch.4 r.fetch.5 r.gives.1

  abbrev s : Server
  s = serves.server

  abbrev c : Setting
  c = setting_of bytes both.last.alive.reached.0.epoch s

  shown : IsShown c r.chunk v s
  shown =
      is_shown x.seen x.config bytes both.last.alive.reached.0.epoch r.chunk (left_in r.now) v both.last.alive.reached (record { members = both.last.alive.shows.members; sent = both.last.alive.shows.sent }) both.last.keeps both.last.apart id s
      serves.found

  abbrev sent : List Message
  sent = (servers.handle_body s message.from (bodies.About r.chunk (chunks.Fetch r.req r.view.stamp r.epoch asked)) r.event.moment).sent

  gives : GivesBytes sent r.req given
  gives = subst (λ (ms : List Message). GivesBytes ms r.req given) (serves.sends ∙ ap (λ body. (servers.handle_body s message.from body r.event.moment).sent) r.fetch.7) r.gives

  read : IsRead c v s.me r.epoch r.view.stamp asked given
  read =
      let all : AllByRecursion (Reads c v s.me r.epoch r.view.stamp asked) sent = fetch_read bytes both.last.alive.reached.0.epoch r.chunk v s shown message.from r.req r.view.stamp r.epoch asked r.event.moment in
      subst (ReadsBody c v s.me r.epoch r.view.stamp asked) gives.2 (one_of_all (Reads c v s.me r.epoch r.view.stamp asked) sent gives.0 all gives.1)

  server : IsServer x.config id s
  server = both.last.keeps.servers id s serves.found

  member : machine.is_member w s.me ≡ true
  member = ap (λ xs. is_of xs s.me) first.shows.members ∙ of_member r.view.members s.me ∙ ap (is_member r.view.members) server.me ∙ r.fetch.6

  legal : (edits : List Edit) × machine.IsLegalRead w v edits × GivesOf c (text_of c.size edits) asked given
  legal =
      legal_read c r.chunk w both.first.alive.reached v s.me asked given both.on.leads first.known (both.first.told.rolling ∙ r.looked.calm) member
      (subst (λ e. IsRead c v s.me e (stamp_at w.entry.view.stamp) asked given) (sym r.looked.now ∙ sym both.first.told.epoch) (subst (λ t. IsRead c v s.me r.epoch t asked given) first.shows.stamp read))

  -- a beginning of the view's list, with all that is settled, is what is settled
  edits_are : legal.0 ≡ settled_edits a r.chunk
  edits_are =
      let l = legal.1 in
      let at : l.stamp ≡ w.entry.view.stamp = (let low = l.later in let high = l.within in let one = same in omega arith) in
      let none : l.enough.0 ≡ [] = no_tail (settled w) l.enough.0 l.begins.0 (sym settled_then ∙ ap v.known.list (sym at) ∙ l.begins.1 ∙ ap (λ (es : List Edit). es ++ l.begins.0) l.enough.1) in
      l.enough.1 ∙ ap (λ (es : List Edit). settled w ++ es) none ∙ append-nil (settled w) ∙ sym settled_here

  pub of_settled : given ≡ given_of x.config.block (text_of x.config.chunk (settled_edits a r.chunk)) asked
  of_settled = given_so c (text_of c.size legal.0) asked given legal.2 ∙ (λ i. given_of (server.block i) (text_of (server.size i) (edits_are i)) asked)

pub reads_are_of_settled : HaveSizes → AreNumbered → {D : Type 0} (x : Setup D) → ReadsAreOfSettled x
reads_are_of_settled sizes law x h a p index asked given reached r unled = of_settled sizes law x h a reached p index asked given r unled

-- ---- behind a prepare and behind its rollback

pub chunk_is : {a b : ℕ} → ◌≡◌ {A = Result ℕ Refusal} (Ok a) (Ok b) → a ≡ b
chunk_is is = cc

pub reads_go_back : HaveSizes → AreNumbered → {D : Type 0} (x : Setup D) → GivesNamesTold x → GivesSettledBack x → MembersHaveNamed x → ReadsGoBack x
reads_go_back sizes law x names_back settled_back members prepared now back before after last p index asked had has rolled old new =
    let both = both_reached x prepared now back before after last rolled in
    let found : found_chunk (fin.get before.durable.names.tree p) index ≡ Ok new.chunk = ap (λ names. found_chunk (fin.get names.tree p) index) (sym (names_back prepared now back before after last rolled)) ∙ new.found in
    let chunk : new.chunk ≡ old.chunk = chunk_is (sym found ∙ old.found) in
    let one = of_settled sizes law x prepared before both.0 p index asked had old (unled_prepared sizes law x prepared now before after rolled.upgrade old.chunk old.view old.looked.listed old.looked.settled) in
    let other = of_settled sizes law x back last both.1 p index asked has new (unled_back sizes law x members prepared now back before after last rolled p index new.chunk new.view found new.looked.settled) in
    let edits : settled_edits last new.chunk ≡ settled_edits before old.chunk = ap (settled_edits last) chunk ∙ (settled_back prepared now back before after last old.chunk rolled old.looked.listed).1 in
    other ∙ ap (λ (es : List Edit). given_of x.config.block (text_of x.config.chunk es) asked) edits ∙ sym one
