-- Each event of a server is steps of each chunk.
use Rattle.std.proofs.Common.{◌≡◌, ℕ, zero, suc, ◌+◌, ◌<◌, ◌≤◌, ⊎_elim, Bool, true, false, cond, List, [], ◌∷◌, take, Option, Some, None, refl, sym, ap, subst, ◌∙◌, arith, inl, inr}
use Rattle.std.specs.Prelude.{◌==◌, Contains, is_some, option_map}
use Rattle.std.specs.List.{AllByRecursion}
use Rattle.std.specs.FinMap as fin
use Rattle.std.specs.Map.{lookup}
use Rattle.std.specs.Ordering.{nat_cmp}
use Rattle.std.proofs.lemmas.Cmp.{nat_cmp_total}
use Rattle.std.proofs.lemmas.Bool.Decides.{nat_tests}
use Rattle.gs_base.specs.declared.numbers.Moment.{Moment}
use Rattle.gs_base.specs.declared.numbers.ReqId.{ReqId}
use Rattle.gs_base.specs.declared.epoch.EpochEnd.{EpochEnd}
use Rattle.gs_base.specs.declared.epoch.EpochEnd.TheVariants.{Prepare, Finalize, Rollback}
use Rattle.gs_base.specs.declared.refusal.Refusal.TheVariants as refusals
use Rattle.gs_msg.specs.declared.node.NodeId.{NodeId}
use Rattle.gs_msg.specs.declared.node.NodeId.TheVariants as nodes
use Rattle.gs_msg.specs.declared.message.Message.{Message}
use Rattle.gs_msg.specs.declared.body.Body.{Body}
use Rattle.gs_msg.specs.declared.body.Body.TheVariants as bodies
use Rattle.gs_msg.specs.declared.chunk.Chunk.{Chunk}
use Rattle.gs_store.specs.Slots.{Slot}
use Rattle.gs_store.specs.Slots as slots
use Rattle.gs_store.specs.Buffers.{Pushes, same_request, pushed, without}
use Rattle.gs_store.specs.Learning.{is_named}
use Rattle.gs_store.specs.Stores.{Store, slot_of, set_slot}
use Rattle.gs_store.specs.Stores as stores
use Rattle.gs_store.proofs.Named.{ties}
use Rattle.gs_store.proofs.StoreLaws.{other_slot, slot_goes}
use Rattle.gs_server_lease.specs.Leases as primary
use Rattle.gs_server_lease.specs.Leases.{tell}
use Rattle.gs_server.specs.Places.{Place, Here, Part, SlotChange, SlotStays, SlotBecomes, SlotMarked, LeaseChange, LeaseStays, LeaseBecomes, LeaseSpent, after}
use Rattle.gs_server.specs.Lifts as lifts
use Rattle.gs_server.specs.Servers.{Server, new, place_of, here_of, request_in, pushed_in, store_of, with_store, with_leases, change_slot, change_lease, change_buffer, changed_by, about_chunk, handle_chunk, learned, leases_after, named_at, learn, restart, beat}
use Rattle.gs_server.specs.Servers as servers
use Rattle.gs_server.specs.Runs.{Event, behind, behind_all, slot_in}
use Rattle.gs_server.proofs.Behind.{event_sizes}
use Rattle.gs_server.proofs.Happening.{own_place}
use Rattle.gs_server.proofs.Wholes.{each_whole}
use Rattle.gs_server.proofs.Reached.{held_last, held_promise, sound_where}
use Rattle.gs_laws_chunk.specs.machine.Machine.{ChunkWorld, WasTold, Epoch, Member}
use Rattle.gs_laws_parts.specs.server.Showing.{Setting, setting_of, ShowsPlace, BuffersRight}
use Rattle.gs_laws_parts.specs.server.Messages.{TellsEpochTo}
use Rattle.gs_laws_parts.specs.server.Telling.{SaysOf, TellsServer, ServersTell, TellsBody}
use Rattle.gs_laws_parts.specs.server.Answering.{handle_in, AnswersOf}
use Rattle.gs_laws_parts.specs.server.Moving.{CarriesMore, FollowsServer, IsHere, IsNext, IsShown, IsSteps, MadeIntact, Spares}
use Rattle.gs_laws_parts.specs.server.Blocks.{GoesOn}
use Rattle.gs_laws_parts.specs.server.Causes.{Cause, Calm, Numbers, cause_of, cause_in}
use Rattle.gs_laws_parts.proofs.lemmas.server.Lists.{cons_cases, cons_first, cons_more, nil_contains}
use Rattle.gs_laws_parts.proofs.lemmas.server.Engine.{stays_put}
use Rattle.gs_laws_parts.proofs.lemmas.server.Entries.{names_all, reports_all}
use Rattle.gs_laws_parts.proofs.lemmas.server.Learning.{learns, named}
use Rattle.gs_laws_parts.proofs.lemmas.server.Quiet.{spends, reported}
use Rattle.gs_laws_parts.proofs.lemmas.server.About.{about_answering}
use Rattle.gs_laws_parts.proofs.lemmas.server.Elsewhere.{elsewhere, chunk_says, own_in, apart_in, by_server}

-- ---- buffers

same_req : (a b : ReqId) → same_request a b ≡ true → a ≡ b
same_req a b is =
    let client : a.client.0 ≡ b.client.0 = grind (arith, nat_tests) in
    let number : a.number ≡ b.number = grind (arith, nat_tests) in
    λ i. record { client = record { 0 = client i }; number = number i }

in_without : (req : ReqId) (buffer : Pushes) (e : ReqId × List ℕ) → Contains (without req buffer) e → Contains buffer e
in_without req [] e there = there
in_without req (x ∷ buffer) e there = by_case (same_request req x.0) there (in_without req buffer e)
  where
    by_case : (b : Bool) → Contains (cond b buffer (x ∷ without req buffer)) e → (Contains (without req buffer) e → Contains buffer e) → Contains (x ∷ buffer) e
    by_case true there rest = cons_more x buffer e there
    by_case false there rest = ⊎_elim (λ same. cons_first x buffer e same) (λ more. cons_more x buffer e (rest more)) (cons_cases x (without req buffer) e there)

in_take : {X : Type 0} (n : ℕ) (xs : List X) (x : X) → Contains (take n xs) x → Contains xs x
in_take zero xs x there = nil_contains x there
in_take (suc n) [] x there = there
in_take (suc n) (y ∷ xs) x there = ⊎_elim (λ same. cons_first y xs x same) (λ more. cons_more y xs x (in_take n xs x more)) (cons_cases y (take n xs) x there)

pub pushed_there : (req : ReqId) (buffer : Pushes) (found : List ℕ) → pushed req buffer ≡ Some found → Contains buffer (req, found)
pushed_there req [] found is = absurd (cc)
pushed_there req (x ∷ buffer) found is = by_case (same_request req x.0) refl is (pushed_there req buffer found)
  where
    by_case : (b : Bool) → same_request req x.0 ≡ b → cond b (Some x.1) (lookup (same_request req) buffer) ≡ Some found → (pushed req buffer ≡ Some found → Contains buffer (req, found)) → Contains (x ∷ buffer) (req, found)
    by_case true same is rest = cons_first x buffer (req, found) (let a : req ≡ x.0 = same_req req x.0 same in let b : x.1 ≡ found = cc in λ i. (sym a i, b i))
    by_case false same is rest = cons_more x buffer (req, found) (rest is)

-- ---- what a message about another chunk leaves

set_same : (handle : ℕ) (t : Store) (o : Option Slot) → ((set_slot handle t o).buffer ≡ t.buffer) × ((set_slot handle t o).epoch ≡ t.epoch)
set_same handle t None = (refl, refl)
set_same handle t (Some slot) = (refl, refl)

slot_same : (handle : ℕ) (change : SlotChange) (t : Store) → ((change_slot handle change t).buffer ≡ t.buffer) × ((change_slot handle change t).epoch ≡ t.epoch)
slot_same handle SlotStays t = (refl, refl)
slot_same handle (SlotBecomes slot) t = (refl, refl)
slot_same handle (SlotMarked block) t = set_same handle t (option_map (slots.mark_bad block) (fin.get t.slots handle))

used_epoch : (req : Option ReqId) (used : Bool) (t : Store) → (change_buffer req used t).epoch ≡ t.epoch
used_epoch None used t = refl
used_epoch (Some req) true t = refl
used_epoch (Some req) false t = refl

used_slots : (req : Option ReqId) (used : Bool) (t : Store) (handle : ℕ) → slot_of handle (change_buffer req used t) ≡ slot_of handle t
used_slots None used t handle = refl
used_slots (Some req) true t handle = refl
used_slots (Some req) false t handle = refl

used_in : (req : Option ReqId) (used : Bool) (t : Store) (e : ReqId × List ℕ) → Contains (change_buffer req used t).buffer e → Contains t.buffer e
used_in None used t e there = there
used_in (Some req) true t e there = in_without req t.buffer e there
used_in (Some req) false t e there = there

set_sizes : (handle : ℕ) (t : Store) (o : Option Slot) → ((set_slot handle t o).block ≡ t.block) × ((set_slot handle t o).chunk ≡ t.chunk)
set_sizes handle t None = (refl, refl)
set_sizes handle t (Some slot) = (refl, refl)

slot_sizes : (handle : ℕ) (change : SlotChange) (t : Store) → ((change_slot handle change t).block ≡ t.block) × ((change_slot handle change t).chunk ≡ t.chunk)
slot_sizes handle SlotStays t = (refl, refl)
slot_sizes handle (SlotBecomes slot) t = (refl, refl)
slot_sizes handle (SlotMarked block) t = set_sizes handle t (option_map (slots.mark_bad block) (fin.get t.slots handle))

used_sizes : (req : Option ReqId) (used : Bool) (t : Store) → ((change_buffer req used t).block ≡ t.block) × ((change_buffer req used t).chunk ≡ t.chunk)
used_sizes None used t = (refl, refl)
used_sizes (Some req) true t = (refl, refl)
used_sizes (Some req) false t = (refl, refl)

pub changed_block : (handle : ℕ) (req : Option ReqId) (part : Part) (s : Server) → (changed_by handle req part s).block ≡ s.block
changed_block handle req part s = (used_sizes req part.used (change_slot handle part.slot (store_of s))).0 ∙ (slot_sizes handle part.slot (store_of s)).0

pub changed_size : (handle : ℕ) (req : Option ReqId) (part : Part) (s : Server) → (changed_by handle req part s).chunk ≡ s.chunk
changed_size handle req part s = (used_sizes req part.used (change_slot handle part.slot (store_of s))).1 ∙ (slot_sizes handle part.slot (store_of s)).1

pub changed_epoch : (handle : ℕ) (req : Option ReqId) (part : Part) (s : Server) → (changed_by handle req part s).kept.epoch ≡ s.kept.epoch
changed_epoch handle req part s = used_epoch req part.used (change_slot handle part.slot (store_of s)) ∙ (slot_same handle part.slot (store_of s)).1

pub changed_buffers : (c : Setting) (handle : ℕ) (req : Option ReqId) (part : Part) (s : Server) → BuffersRight c s → BuffersRight c (changed_by handle req part s)
changed_buffers c handle req part s right r bytes there =
    right r bytes (subst (λ b. Contains b (r, bytes)) (slot_same handle part.slot (store_of s)).0 (used_in req part.used (change_slot handle part.slot (store_of s)) (r, bytes) there))

other_set : (handle other : ℕ) (t : Store) (o : Option Slot) → (other == handle) ≡ false → slot_of other (set_slot handle t o) ≡ slot_of other t
other_set handle other t None apart = refl
other_set handle other t (Some slot) apart = other_slot handle other slot t apart

other_changed : (handle other : ℕ) (change : SlotChange) (t : Store) → (other == handle) ≡ false → slot_of other (change_slot handle change t) ≡ slot_of other t
other_changed handle other SlotStays t apart = refl
other_changed handle other (SlotBecomes slot) t apart = other_slot handle other slot t apart
other_changed handle other (SlotMarked block) t apart = other_set handle other t (option_map (slots.mark_bad block) (fin.get t.slots handle)) apart

other_lease : (handle other : ℕ) (change : LeaseChange) (leases : fin.FinMap nat_cmp primary.PrimaryLease) → (other == handle) ≡ false → fin.get (change_lease handle change leases) other ≡ fin.get leases other
other_lease handle other LeaseStays leases apart = refl
other_lease handle other (LeaseBecomes l) leases apart = fin.get-insert nat_cmp_total leases handle l other ∙ ap (λ b. cond b (Some l) (fin.get leases other)) (sym (ties other handle) ∙ apart)
other_lease handle other LeaseSpent leases apart = fin.get-remove nat_cmp_total leases handle other ∙ ap (λ b. cond b None (fin.get leases other)) (sym (ties other handle) ∙ apart)

pub other_place : (handle other : ℕ) (req : Option ReqId) (part : Part) (s : Server) → (other == handle) ≡ false → place_of other (changed_by handle req part s) ≡ place_of other s
other_place handle other req part s apart =
    let slot = used_slots req part.used (change_slot handle part.slot (store_of s)) other ∙ other_changed handle other part.slot (store_of s) apart in
    let lease = other_lease handle other part.lease s.dropped.leases apart in
    λ i. record { slot = slot i; lease = lease i }

-- any other message than one that makes a copy under a new handle
abbrev pub IsNoCopy : Body → Type 0
IsNoCopy (bodies.MakeCopy handle at new_handle stamp) = ⊥
IsNoCopy body = Unit {0}

-- ---- from a place to the server

module _ (c : Setting) (chunk : ℕ) (w : ChunkWorld) where
  pub from_follows : (cause : Cause) (me epoch : ℕ) (p : Place) (sent : List Message) (about : Option ℕ) (s : Server) → (f : FollowsServer cause c chunk w me epoch p sent) → s.me ≡ me → s.block ≡ c.block → s.chunk ≡ c.size → s.kept.epoch ≡ epoch → place_of chunk s ≡ p → BuffersRight c s → AllByRecursion (AnswersOf cause c chunk f.moved.world me about) sent → IsSteps cause c chunk w me about s sent
  from_follows cause me epoch p sent about s f me_is block_is size_is epoch_is place_is right answers = record {
    world = f.moved.world;
    leads = f.moved.leads;
    others = f.moved.others;
    entry = f.moved.entry;
    grows = f.moved.grows;
    lists = λ t. subst (λ q. GoesOn c q.slot (w.known.list t) (f.moved.world.known.list t)) (sym place_is) (f.lists t);
    numbers = λ t. subst (λ m. Numbers cause c (w.members me) m t (w.known.list t) (f.moved.world.known.list t)) (sym f.moved.is) (f.numbers t);
    reached = λ j t. ⊎_elim (λ kept. inl kept) (λ (x : (j ≡ me) × (t ≡ f.member.promise) × (is_some f.member.live ≡ true)). inr (x.0, x.1 ∙ ap (λ (m : Member). m.promise) (sym f.moved.is), ap (λ (m : Member). is_some m.live) f.moved.is ∙ x.2)) (f.moved.reached j t);
    carries = λ e j is. subst (λ (m : Member). CarriesMore w me m e j) (sym f.moved.is) (f.moved.carries e j is);
    intact = λ spared whole. ap (λ (m : Member). m.intact) f.moved.is ∙ f.intact (subst (λ q. Spares cause w.known (w.members me).epoch q.slot) place_is spared) whole;
    gains = subst (λ x. MadeIntact (w.members me) x) (sym f.moved.is) f.gains;
    stays = f.moved.stays;
    same = (me_is, block_is, size_is);
    shows =
        subst (λ k. ShowsPlace c f.moved.world.known s.kept.epoch (place_of chunk s) (f.moved.world.members k)) (sym me_is)
        (subst (λ m. ShowsPlace c f.moved.world.known s.kept.epoch (place_of chunk s) m) (sym f.moved.is)
        (subst (λ q. ShowsPlace c f.moved.world.known s.kept.epoch q f.member) (sym place_is) (subst (λ e. ShowsPlace c f.moved.world.known e p f.member) (sym epoch_is) f.shows)));
    buffers = right;
    tells = f.tells;
    answers = answers;
  }

  -- nothing of the chunk changes, and nothing is said of it
  pub passes : (s after : Server) (sent : List Message) (about : Option ℕ) → IsShown c chunk w s → after.me ≡ s.me → after.block ≡ c.block → after.chunk ≡ c.size → after.kept.epoch ≡ s.kept.epoch → place_of chunk after ≡ place_of chunk s → BuffersRight c after → AllByRecursion (ServersTell c chunk w) sent → ((v : ChunkWorld) → AllByRecursion (AnswersOf Calm c chunk v s.me about) sent) → IsSteps Calm c chunk w s.me about after sent
  passes s after sent about x me block size epoch place right tells answers =
      let f = stays_put c chunk w s.me s.kept.epoch (place_of chunk s) sent x.shows tells in
      from_follows Calm s.me s.kept.epoch (place_of chunk s) sent about after f me block size epoch place right (answers f.moved.world)

-- ---- a message about a chunk

sizes_behind : (events : List Event) (s : Server) → ((behind_all events s).block ≡ s.block) × ((behind_all events s).chunk ≡ s.chunk)
sizes_behind [] s = (refl, refl)
sizes_behind (e ∷ events) s =
    let sizes = event_sizes e s in
    let rest = sizes_behind events (behind e s) in
    (rest.0 ∙ sizes.block, rest.1 ∙ sizes.chunk)

module _ (bytes : ReqId → List ℕ) (born chunk : ℕ) (w : ChunkWorld) (s : Server) (x : IsShown (setting_of bytes born s) chunk w s) where
  abbrev c : Setting
  c = setting_of bytes born s

  pub here : (moment : Moment) (req : Option ReqId) → IsHere bytes born w (here_of s moment chunk req) (place_of chunk s)
  here moment req =
      let r = x.reached in
      let sizes = sizes_behind r.events (new r.me r.block r.chunk) in
      let block : s.block ≡ r.block = ap (λ (y : Server). y.block) r.is ∙ sizes.0 in
      let size : s.chunk ≡ r.chunk = ap (λ (y : Server). y.chunk) r.is ∙ sizes.1 in
      let whole = each_whole chunk s r in record {
        shows = x.shows;
        leased = λ l held. held_promise chunk s l r held;
        under = whole.keeps.live_is;
        some_block = subst (λ n. 1 ≤ n) (sym block) r.some_block;
        block_fits = subst (λ n. n ≤ 65536) (sym block) r.block_fits;
        chunk_fits = subst (λ n. n ≤ 67108864) (sym size) r.chunk_fits;
      }

  pushed_right : (said : Chunk) (moment : Moment) (req : ReqId) → request_in said ≡ Some req → (b : List ℕ) → (here_of s moment chunk (request_in said)).pushed ≡ Some b → b ≡ bytes req
  pushed_right said moment req is b there = x.buffers req b (pushed_there req s.dropped.buffer b (subst (λ o. pushed_in s o ≡ Some b) is there))

  own_about : (from : NodeId) (said : Chunk) (moment : Moment) → SaysOf c w from said → TellsServer c w s.me said → IsSteps (cause_of said) c chunk w s.me (Some chunk) (handle_chunk s from chunk said moment).after (handle_chunk s from chunk said moment).sent
  own_about from said moment says tells =
      let h : Here = here_of s moment chunk (request_in said) in
      let part : Part = about_chunk h (place_of chunk s) from said in
      let a = about_answering bytes born w h (place_of chunk s) (here moment (request_in said)) x.apart x.whole from said (pushed_right said moment) says tells in
      from_follows c chunk w (cause_of said) s.me s.kept.epoch (after (place_of chunk s) part) part.sent (Some chunk) (changed_by chunk (request_in said) part s) a.follows
      refl (changed_block chunk (request_in said) part s) (changed_size chunk (request_in said) part s) (changed_epoch chunk (request_in said) part s) (own_place chunk (request_in said) part s) (changed_buffers c chunk (request_in said) part s x.buffers)
      (own_in (cause_of said) c chunk a.follows.moved.world s.me chunk part.sent (by_server true chunk part.sent (chunk_says h true (place_of chunk s) from said (λ may. refl))) (λ same. a.answers))

  other_about : (from : NodeId) (handle : ℕ) (said : Chunk) (moment : Moment) → (chunk == handle) ≡ false → (handle ≡ chunk → ⊥) → IsSteps Calm c chunk w s.me (Some handle) (handle_chunk s from handle said moment).after (handle_chunk s from handle said moment).sent
  other_about from handle said moment apart never =
      let h : Here = here_of s moment handle (request_in said) in
      let part : Part = about_chunk h (place_of handle s) from said in
      passes c chunk w s (changed_by handle (request_in said) part s) part.sent (Some handle) x refl (changed_block handle (request_in said) part s) (changed_size handle (request_in said) part s) (changed_epoch handle (request_in said) part s) (other_place handle chunk (request_in said) part s apart) (changed_buffers c handle (request_in said) part s x.buffers)
      (elsewhere c chunk w handle true part.sent never (chunk_says h true (place_of handle s) from said (λ may. refl))) (λ v. apart_in Calm c chunk v s.me handle part.sent (by_server true handle part.sent (chunk_says h true (place_of handle s) from said (λ may. refl))) never)

  about_steps : (from : NodeId) (handle : ℕ) (said : Chunk) (moment : Moment) → (handle ≡ chunk → SaysOf c w from said × TellsServer c w s.me said) → IsSteps (cond (chunk == handle) (cause_of said) Calm) c chunk w s.me (Some handle) (handle_chunk s from handle said moment).after (handle_chunk s from handle said moment).sent
  about_steps from handle said moment tells = by_case (chunk == handle) refl
    where
      eq_same : (a b : ℕ) → (a == b) ≡ true → b ≡ a
      eq_same a b is = grind (arith, nat_tests)

      apart_of : (a b : ℕ) → (a == b) ≡ false → b ≡ a → ⊥
      apart_of a b is same = (let y : (a == b) ≡ true = grind (arith, nat_tests) in (cc))

      by_case : (b : Bool) → (chunk == handle) ≡ b → IsSteps (cond b (cause_of said) Calm) c chunk w s.me (Some handle) (handle_chunk s from handle said moment).after (handle_chunk s from handle said moment).sent
      by_case true is =
          let same : handle ≡ chunk = eq_same chunk handle is in
          subst (λ k. IsSteps (cause_of said) c chunk w s.me (Some k) (handle_chunk s from k said moment).after (handle_chunk s from k said moment).sent) (sym same) (own_about from said moment (tells same).0 (tells same).1)
      by_case false is = other_about from handle said moment is (apart_of chunk handle is)

  -- ---- bytes that are pushed

  push_steps : (req : ReqId) (pushes : List ℕ) → pushes ≡ bytes req → IsSteps Calm c chunk w s.me None (servers.push s req pushes).after (servers.push s req pushes).sent
  push_steps req pushes is = passes c chunk w s (servers.push s req pushes).after [] None x refl refl refl refl refl
      (λ r b there. ⊎_elim
      (λ same. (let e : pushes ≡ b = ap (λ (y : ReqId × List ℕ). y.1) same in let q : req ≡ r = ap (λ (y : ReqId × List ℕ). y.0) same in sym e ∙ is ∙ ap bytes q))
      (λ more. x.buffers r b (in_without req s.dropped.buffer (r, b) (in_take 63 (without req s.dropped.buffer) (r, b) more)))
      (cons_cases (pair req pushes) (take 63 (without req s.dropped.buffer)) (r, b) there))
      tt (λ v. tt)
    where
      pair : ReqId → List ℕ → ReqId × List ℕ
      pair r b = (r, b)

  -- ---- the end of an epoch

  named_there : (end : EpochEnd) (epoch : ℕ) (t : Store) → AllByRecursion (λ handle. handle ≡ chunk → is_named epoch (slot_of chunk t) ≡ true) (named_at end epoch t)
  named_there Prepare epoch t = tt
  named_there Finalize epoch t = tt
  named_there Rollback epoch t = names_all epoch t (λ handle. handle ≡ chunk → is_named epoch (slot_of chunk t) ≡ true) (λ handle is same. subst (λ k. is_named epoch (slot_of k t) ≡ true) same is)

  gone_lease : (end : EpochEnd) → fin.get (leases_after end s.dropped.leases) chunk ≡ lifts.lease_at end (fin.get s.dropped.leases chunk)
  gone_lease Prepare = refl
  gone_lease Finalize = refl
  gone_lease Rollback = fin.get-empty nat_cmp chunk

  next : (epoch : ℕ) (end : EpochEnd) → epoch ≡ s.kept.epoch + 1 → TellsEpochTo c.born w (nodes.Server s.me) epoch end
      → IsSteps Calm c chunk w s.me None (with_leases (leases_after end s.dropped.leases) (with_store (stores.learned epoch end (store_of s)) s)) (tell s.me nodes.Master (bodies.Learned epoch (named_at end epoch (stores.learned epoch end (store_of s)))) ∷ [])
  next epoch end is told =
      let p : Place = place_of chunk s in
      let t : Store = stores.learned epoch end (store_of s) in
      let s2 : Server = with_leases (leases_after end s.dropped.leases) (with_store t s) in
      let sound = sound_where chunk s x.reached in
      let slot = slot_goes epoch end (store_of s) chunk in
      let lease = gone_lease end in
      let place : place_of chunk s2 ≡ lifts.gone_on end epoch p = (λ i. record { slot = slot i; lease = lease i }) in
      let next : IsNext c w s.me p s.kept.epoch = record { shows = x.shows; held = λ l held. held_last chunk s l x.reached held; within = sound.within; known = x.known } in
      let f = learns c chunk w s.me p s.kept.epoch end next (λ late. subst (λ n. WasTold w s.me (Epoch n end)) is (told (subst (λ n. born < n) (sym is) late))) in
      let f2 : FollowsServer Calm c chunk w s.me epoch (place_of chunk s2) [] = subst (λ q. FollowsServer Calm c chunk w s.me epoch q []) (sym place) (subst (λ n. FollowsServer Calm c chunk w s.me n (lifts.gone_on end n p) []) (sym is) f) in
      from_follows c chunk w Calm s.me epoch (place_of chunk s2) _ None s2 (named c chunk w s.me (place_of chunk s2) epoch (place_of chunk s2) (named_at end epoch t) f2 (named_there end epoch t)) refl refl refl refl refl x.buffers ((tt, tt), tt)

  learn_steps : (epoch : ℕ) (end : EpochEnd) → TellsEpochTo c.born w (nodes.Server s.me) epoch end → IsSteps Calm c chunk w s.me None (learn s epoch end).after (learn s epoch end).sent
  learn_steps epoch end told = by_case (epoch == s.kept.epoch) (epoch == s.kept.epoch + 1) refl refl
    where
      eq_same : (a b : ℕ) → (a == b) ≡ true → a ≡ b
      eq_same a b is = grind (arith, nat_tests)

      went : Server
      went = with_leases (leases_after end s.dropped.leases) (with_store (stores.learned epoch end (store_of s)) s)

      again : epoch ≡ s.kept.epoch → IsSteps Calm c chunk w s.me None s (tell s.me nodes.Master (bodies.Learned epoch (named_at end epoch (store_of s))) ∷ [])
      again is =
          let f : FollowsServer Calm c chunk w s.me epoch (place_of chunk s) [] = subst (λ n. FollowsServer Calm c chunk w s.me n (place_of chunk s) []) (sym is) (stays_put c chunk w s.me s.kept.epoch (place_of chunk s) [] x.shows tt) in
          from_follows c chunk w Calm s.me epoch (place_of chunk s) _ None s (named c chunk w s.me (place_of chunk s) epoch (place_of chunk s) (named_at end epoch (store_of s)) f (named_there end epoch (store_of s))) refl refl refl (sym is) refl x.buffers ((tt, tt), tt)

      by_case : (a b : Bool) → (epoch == s.kept.epoch) ≡ a → (epoch == s.kept.epoch + 1) ≡ b
          → IsSteps Calm c chunk w s.me None (cond a (learned s epoch end s) (cond b (learned s epoch end (with_leases (leases_after end s.dropped.leases) (with_store (stores.learned epoch end (store_of s)) s))) (record { after = s; sent = tell s.me nodes.Master (bodies.Behind s.kept.epoch) ∷ []; said = Some (refusals.Epoch s.kept.epoch) }))).after
          (cond a (learned s epoch end s) (cond b (learned s epoch end (with_leases (leases_after end s.dropped.leases) (with_store (stores.learned epoch end (store_of s)) s))) (record { after = s; sent = tell s.me nodes.Master (bodies.Behind s.kept.epoch) ∷ []; said = Some (refusals.Epoch s.kept.epoch) }))).sent
      by_case true b is other = again (eq_same epoch s.kept.epoch is)
      by_case false true is other = next epoch end (eq_same epoch (s.kept.epoch + 1) other) told
      by_case false false is other = passes c chunk w s s (tell s.me nodes.Master (bodies.Behind s.kept.epoch) ∷ []) None x refl refl refl refl refl x.buffers (tt, tt) (λ v. ((tt, tt), tt))

  -- ---- any message but a copy under a new handle

  stray_steps : IsSteps Calm c chunk w s.me None s []
  stray_steps = passes c chunk w s s [] None x refl refl refl refl refl x.buffers tt (λ v. tt)

  pub body_steps : (from : NodeId) (body : Body) (moment : Moment) → IsNoCopy body → TellsBody c chunk w from (nodes.Server s.me) body → IsSteps (cause_in chunk body) c chunk w s.me (handle_in body) (servers.handle_body s from body moment).after (servers.handle_body s from body moment).sent
  body_steps from (bodies.About handle said) moment no_copy tells = about_steps from handle said moment tells
  body_steps from (bodies.Push req pushes) moment no_copy tells = push_steps req pushes tells
  body_steps from (bodies.MakeCopy handle at new_handle stamp) moment no_copy tells = elim no_copy [ ]
  body_steps from (bodies.Epoch epoch end) moment no_copy tells = learn_steps epoch end tells
  body_steps from (bodies.Call req call) moment no_copy tells = stray_steps
  body_steps from (bodies.Reply req result) moment no_copy tells = stray_steps
  body_steps from (bodies.Done req result) moment no_copy tells = stray_steps
  body_steps from (bodies.Bytes req result) moment no_copy tells = stray_steps
  body_steps from (bodies.Report epoch replicas) moment no_copy tells = stray_steps
  body_steps from (bodies.Learned epoch handles) moment no_copy tells = stray_steps
  body_steps from (bodies.Behind epoch) moment no_copy tells = stray_steps

  -- ---- and what happens without one

  pub restart_steps : IsSteps Calm c chunk w s.me None (restart s) []
  restart_steps =
      let lease = fin.get-empty nat_cmp chunk in
      from_follows c chunk w Calm s.me s.kept.epoch (lifts.restarted (place_of chunk s)) [] None (restart s) (spends c chunk w s.me s.kept.epoch (place_of chunk s) x.shows) refl refl refl refl (λ i. record { slot = slot_of chunk (store_of s); lease = lease i }) (λ r b there. nil_contains (pair r b) there) tt
    where
      pair : ReqId → List ℕ → ReqId × List ℕ
      pair r b = (r, b)

  pub beat_steps : IsSteps Calm c chunk w s.me None s (beat s ∷ [])
  beat_steps =
      from_follows c chunk w Calm s.me s.kept.epoch (place_of chunk s) (beat s ∷ []) None s
      (reported c chunk w s.me s.kept.epoch (place_of chunk s) x.shows _
      (reports_all (store_of s) (λ r. r.handle ≡ chunk → (is_some (slot_in chunk s).live ≡ true) × (r.promise ≡ (slot_in chunk s).promise))
      (λ handle l is same. (subst (λ k. is_some (slot_of k (store_of s)).live ≡ true) same (ap is_some is), ap (λ k. (slot_of k (store_of s)).promise) same))))
      refl refl refl refl refl x.buffers ((tt, tt), tt)
