-- What a sound replica of a member has: right behind a prepare the text that was prepared, and right behind the commit of its rollback the same.
use Rattle.std.proofs.Common.{arith, inl, inr, ap, refl, subst, sym, ◌+◌, ◌-◌, ◌<◌, ◌≤◌, ◌≡◌, ◌∙◌, List, None, Option, Some, false, length, true, ℕ}
use Rattle.std.specs.Prelude.{is_some, slice_get}
use Rattle.std.proofs.lemmas.Bool.{cases_lt, false≢true, true≢false}
use Rattle.std.proofs.lemmas.List.{take_all}
use Rattle.std.specs.FinMap as fin
use Rattle.gs_base.specs.Members.{is_member}
use Rattle.gs_base.specs.declared.epoch.EpochEnd.TheVariants.{Prepare, Rollback}
use Rattle.gs_base.specs.declared.numbers.ReqId.{ReqId}
use Rattle.gs_laws_chunk.proofs.lemmas.machine.Committed.{masters_commit}
use Rattle.gs_laws_chunk.proofs.lemmas.machine.Facts.{reached_world}
use Rattle.gs_laws_chunk.proofs.lemmas.machine.Known.{Later, Prefix}
use Rattle.gs_laws_chunk.proofs.lemmas.machine.Lasting.{agrees}
use Rattle.gs_laws_chunk.proofs.lemmas.machine.Mastering.{masters_settle_once}
use Rattle.gs_laws_chunk.proofs.lemmas.machine.Resting.{promises_rest}
use Rattle.gs_laws_chunk.proofs.lemmas.machine.Worlds.{WorldOk, leads_later, leads_world}
use Rattle.gs_laws_chunk.specs.machine.Events.{is_of}
use Rattle.gs_laws_chunk.specs.machine.Laws as machine
use Rattle.gs_laws_chunk.specs.machine.Laws.{Agrees as AgreesKnown, IsReached, prepared_list}
use Rattle.gs_laws_chunk.specs.machine.Machine.{ChunkWorld}
use Rattle.gs_laws_chunk.specs.machine.Mastering.{IsRestored, SettlesOnce}
use Rattle.gs_laws_chunk.specs.machine.Resting.{PromisesRest}
use Rattle.gs_laws_chunk.specs.machine.Stamps.{start_of}
use Rattle.gs_lease.specs.declared.view.View.{View}
use Rattle.gs_laws_parts.proofs.lemmas.master.Stamps.{of_member}
use Rattle.gs_laws_parts.specs.master.Showing.{ShowsView}
use Rattle.gs_laws_moves.specs.moves.Epochs.{rolls_back}
use Rattle.gs_master_record.specs.declared.checkpoint.Phase.{Phase}
use Rattle.gs_master_record.specs.declared.checkpoint.Phase.TheVariants.{Ordinary, Rolling, Upgrade}
use Rattle.gs_master_spec.specs.Durable.{Durable, is_listed, is_ordinary, is_rolling}
use Rattle.gs_replica.specs.Seals.{lowest_damaged}
use Rattle.gs_replica.specs.Stands.{Edit}
use Rattle.gs_server.specs.Runs.{slot_in}
use Rattle.gs_server.specs.Servers.{Server}
use Rattle.gs_laws_parts.proofs.lemmas.server.Promising.{lives}
use Rattle.gs_laws_parts.specs.server.Moving.{IsShown}
use Rattle.gs_laws_parts.specs.server.Showing.{Setting, setting_of}
use Rattle.gs_store.specs.Slots.{Live}
use Rattle.gs_store.specs.Standing.{LiveUndamaged, StandsIn}
use Rattle.gs_world.specs.Histories.{History}
use Rattle.gs_world.specs.Runs.{Step}
use Rattle.gs_laws_chunks.specs.accounts.Accounts.{Account, settled_edits, settled_in, text_of, view_at}
use Rattle.gs_laws_chunks.specs.accounts.Running.{Setup}
use Rattle.gs_laws_chunks.proofs.lemmas.accounts.Surviving.{free, list_then, live_text, prepared_last, still}
use Rattle.gs_laws_chunks.proofs.lemmas.accounts.Viewing.{told_view}
use Rattle.gs_laws_chunks.specs.accounts.Joined.{IsSeen, SeenSince}
use Rattle.gs_laws_chunks.specs.accounts.Sealing.{IsLiveWith}
use Rattle.gs_laws_lift.proofs.lemmas.stores.Mastering.{both}
use Rattle.gs_laws_lift.proofs.lemmas.stores.Serving.{is_shown}
use Rattle.gs_laws_lift.specs.stores.Joint.{ByMaster}
use Rattle.gs_laws_chunk.proofs.lemmas.machine.Exact.{quiet_is_settled}

-- ---- a member of a view in which nobody may number, while nothing is rolled back

module _ (w : ChunkWorld) (ok : WorldOk w) (calm : w.entry.is_rolling ≡ false) (free : w.entry.view.holder ≡ None) (me : ℕ) (member : machine.is_member w me ≡ true) (edits : List Edit) (live : (w.members me).live ≡ Some edits) where
  known : AgreesKnown w
  known = agrees w ok

  within : w.known.members w.known.view me ≡ true
  within = ap (λ t. w.known.members t me) known.view ∙ known.members me ∙ member

  -- the list has no more edits than the view began with
  bound : length (w.known.list w.known.view) ≡ w.known.base w.known.view
  bound = (ok.known).quiet w.known.view (omega arith) (ap w.known.holder known.view ∙ known.holder ∙ free)

  least : w.known.view ≤ (w.members me).promise
  least = let is = (ok.known).members w.known.view me (omega arith) within in let promise = known.promises me in omega arith

  whole : w.known.base w.known.view ≤ length edits → Prefix (w.known.list w.known.view) edits → edits ≡ w.known.list w.known.view
  whole many p = p.stands ∙ take_all (length edits) (w.known.list w.known.view) (let same = bound in let within = p.within in omega arith)

  -- Whether the member has promised that view, or one that is proposed: its replica has all edits of the list.
  pub has_all : edits ≡ w.known.list w.known.view
  has_all = elim (cases_lt w.known.view (w.members me).promise) [
    | inl above ↦
        let rests : PromisesRest w = promises_rest w ok in
        let most : (w.members me).promise ≤ w.known.top = (let below = rests.within calm me in let top = known.top in omega arith) in
        let floor = (ok.known).floor w.known.view me (omega arith) within in
        let mine = (ok.views me).mine above most edits live within in
        whole (omega arith) ((ok.views me).idle above most edits live).prefix
    | inr under ↦
        let same : (w.members me).promise ≡ w.known.view = (let low = least in omega arith) in
        let here = (ok.views me).member (omega arith) (ap (λ t. w.known.members t me) same ∙ within) edits live in
        whole (subst (λ t. w.known.base t ≤ length edits) same here.0) (subst (λ t. Prefix (w.known.list t) edits) same here.1)
  ]

some_live : (l m : Live) (o : Option Live) → o ≡ Some l → o ≡ Some m → l ≡ m
some_live l m o one other = cc

-- ---- at its server

module _ {D : Type 0} (x : Setup D) (bytes : ReqId → List ℕ) (chunk : ℕ) (h : History D) (a : Account) (seen : IsSeen x bytes chunk h a) (calm : is_rolling a.durable.phase ≡ false) (free : seen.alive.world.entry.view.holder ≡ None)
    (id : ℕ) (view : View) (s : Server) (l : Live) (told : view_at a chunk ≡ Some view) (member : is_member view.members id ≡ true) (at : slice_get h.nodes.servers id ≡ Some s) (is : (slot_in chunk s).live ≡ Some l) (sound : lowest_damaged l.replica.held.chunk ≡ None) where
  abbrev w : ChunkWorld
  w = seen.alive.world

  ok : WorldOk w
  ok = reached_world w seen.alive.reached

  abbrev c : Setting
  c = setting_of bytes seen.alive.reached.0.epoch s

  shown : IsShown c chunk w s
  shown = is_shown x.seen x.config bytes seen.alive.reached.0.epoch chunk h w seen.alive.reached (record { members = seen.alive.shows.members; sent = seen.alive.shows.sent }) seen.keeps seen.apart id s at

  me : s.me ≡ id
  me = (seen.keeps.servers id s at).me

  shows : ShowsView view w.entry.view
  shows = (told_view x bytes chunk h a seen view told).shows

  member_there : machine.is_member w s.me ≡ true
  member_there = ap (λ xs. is_of xs s.me) shows.members ∙ of_member view.members s.me ∙ ap (is_member view.members) me ∙ member

  lived : (edits : List Edit) × ((w.members s.me).live ≡ Some edits) × StandsIn c.block c.size (slot_in chunk s) edits
  lived = lives c (slot_in chunk s) (w.members s.me).live shown.shows.live (ap is_some is)

  text_is : IsLiveWith s.chunk (slot_in chunk s).promise lived.0 (slot_in chunk s)
  text_is = live_text s.block s.chunk (slot_in chunk s).promise (slot_in chunk s) lived.0 refl lived.2 (shown.apart.live lived.0 lived.1) (subst LiveUndamaged (sym is) sound)

  -- a sound replica of the member has the text of the whole list
  pub text_there : l.replica.held.chunk.bytes ≡ text_of x.config.chunk (w.known.list w.known.view)
  text_there =
      let all = has_all w ok (seen.told.rolling ∙ calm) free s.me member_there lived.0 lived.1 in
      let same = some_live l text_is.live (slot_in chunk s).live is text_is.lives in
      ap (λ (y : Live). y.replica.held.chunk.bytes) same ∙ text_is.text.bytes ∙ ap (text_of s.chunk) all ∙ ap (λ n. text_of n (w.known.list w.known.view)) (seen.keeps.servers id s at).size

-- All of the list is settled then.
pub settled_there : {D : Type 0} (x : Setup D) (bytes : ReqId → List ℕ) (chunk : ℕ) (h : History D) (a : Account) (seen : IsSeen x bytes chunk h a) → seen.alive.world.entry.view.holder ≡ None → (view : View) → view_at a chunk ≡ Some view → settled_edits a chunk ≡ seen.alive.world.known.list seen.alive.world.known.view
settled_there x bytes chunk h a seen free view told =
    let w : ChunkWorld = seen.alive.world in
    let ok : WorldOk w = reached_world w seen.alive.reached in
    ap (settled_in a chunk) told ∙ (told_view x bytes chunk h a seen view told).settled ∙ quiet_is_settled w ok free ∙ ap w.known.list (sym (agrees w ok).view)

-- ---- the commit

pub rolls : (d e : Durable) → rolls_back d e ≡ true → (is_rolling d.phase ≡ true) × (is_rolling e.phase ≡ false)
rolls d e is = (let parts = both (is_rolling d.phase) (is_ordinary e.phase) is in (parts.0, calm e.phase parts.1))
  where
    calm : (phase : Phase) → is_ordinary phase ≡ true → is_rolling phase ≡ false
    calm Ordinary is = refl
    calm Upgrade is = absurd (false≢true is)
    calm Rolling is = absurd (false≢true is)

module _ {D : Type 0} (x : Setup D) (bytes : ReqId → List ℕ) (chunk : ℕ) (prepared : History D) (before : Account) (now : History D) (after : Account) (k : SeenSince x bytes chunk prepared before now after) (listed : is_listed before.durable chunk ≡ true)
    (step : Step) (back : History D) (last : Account) (m : IsSeen x bytes chunk back last) (born : ℕ) (by : ByMaster x.seen x.config bytes born chunk step now back k.last.alive.world m.alive.world)
    (had : by.before ≡ after.durable) (has : by.behind ≡ last.durable) (committed : rolls_back after.durable last.durable ≡ true) (row : is_some (fin.get last.durable.chunks chunk) ≡ true) where
  abbrev p : ChunkWorld
  p = k.first.alive.world

  abbrev u : ChunkWorld
  u = k.last.alive.world

  abbrev v : ChunkWorld
  v = m.alive.world

  oku : WorldOk u
  oku = reached_world u k.last.alive.reached

  okv : WorldOk v
  okv = leads_world u v by.leads oku

  rolling : u.entry.is_rolling ≡ true
  rolling = k.last.told.rolling ∙ (rolls after.durable last.durable committed).0

  pub calm_back : is_rolling last.durable.phase ≡ false
  calm_back = (rolls after.durable last.durable committed).1

  over : u.known.top < v.known.view
  over = masters_commit u v by.leads k.last.alive.reached by.masters rolling (m.told.rolling ∙ calm_back)

  restored : IsRestored u v
  restored = by_once (masters_settle_once u v by.leads k.last.alive.reached by.masters)
    where
      by_once : SettlesOnce u v → IsRestored u v
      by_once (inl k) = absurd (let view = k.view in let above = over in let top = (oku.known).viewtop in omega arith)
      by_once (inr (inl k)) = absurd (let view = k.view in let above = over in omega arith)
      by_once (inr (inr r)) = r.exact (by.rows.back over).1

  -- under the first stamp of the epoch
  pub stamp_back : v.entry.view.stamp ≡ start_of after.durable.epoch
  stamp_back = sym (agrees v okv).view ∙ restored.view ∙ ap start_of (sym (oku.entry).epoch ∙ k.last.told.epoch)

  stood : v.known.stood v.known.view ≡ true
  stood = by.rows.returned over (ap (λ (d : Durable). is_some (fin.get d.chunks chunk)) has ∙ row)

  -- the upgrade that is rolled back is that of the prepare
  epoch_is : u.known.current - 1 ≡ before.durable.epoch
  epoch_is = elim (still x bytes chunk prepared before now after k) [
    | inl stands ↦ absurd (never stands.0 (ap u.entry.how (sym stands.0) ∙ stands.1))
    | inr next ↦ (let one = next.0 in let current = (agrees u oku).epoch in omega arith)
  ]
    where
      never : before.durable.epoch ≡ u.entry.epoch → u.entry.how u.entry.epoch ≡ Prepare → ⊥
      never same how =
          let r = (oku.entry).rolling rolling in
          let at : r.e + 1 ≡ u.entry.epoch = sym r.next ∙ (agrees u oku).epoch in
          let other : u.entry.how u.entry.epoch ≡ Rollback = ap u.entry.how (sym at) ∙ (oku.entry).how (r.e + 1) ∙ r.how in
          cc

  -- its list is the prepared one
  pub list_back : v.known.list v.known.view ≡ p.known.list p.entry.view.stamp
  list_back = elim restored.here [
    | inl some ↦
        ap v.known.list restored.view ∙ some.0 ∙ ap (λ e. u.known.list (u.known.prepared e)) epoch_is
        ∙ ap u.known.list (sym (prepared_last x bytes chunk prepared before now after k listed).stamp) ∙ list_then x bytes chunk prepared before now after k listed
    | inr none ↦ absurd (true≢false (sym stood ∙ ap v.known.stood restored.view ∙ none.1))
  ]

  -- in which nobody may number
  pub free_back : v.entry.view.holder ≡ None
  free_back =
      let r = (oku.entry).rolling rolling in
      let later : Later u.known v.known = leads_later u v by.leads oku in
      let how : v.known.how u.known.current ≡ Rollback = later.how u.known.current (omega arith) ∙ ap u.known.how r.next ∙ r.how in
      let held : v.known.holder (start_of u.known.current) ≡ None = (okv.known).unheld u.known.current later.current how (let view = restored.view in omega arith) in
      sym (agrees v okv).holder ∙ ap v.known.holder (sym (agrees v okv).view ∙ restored.view) ∙ held

-- right behind the prepare nobody may number either
pub free_prepared : {D : Type 0} (x : Setup D) (bytes : ReqId → List ℕ) (chunk : ℕ) (prepared : History D) (before : Account) (now : History D) (after : Account) (k : SeenSince x bytes chunk prepared before now after) → is_listed before.durable chunk ≡ true → k.first.alive.world.entry.view.holder ≡ None
free_prepared x bytes chunk prepared before now after k listed =
    let p : ChunkWorld = k.first.alive.world in
    sym (agrees p (reached_world p k.first.alive.reached)).holder ∙ free x bytes chunk prepared before now after k listed
