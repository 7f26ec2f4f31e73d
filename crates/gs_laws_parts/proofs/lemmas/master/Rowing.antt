-- What a turn of the master makes of the rows of one chunk, with its machine.
use Rattle.std.proofs.Common.{◌≡◌, ◌≢◌, ◌∙◌, ◌&&◌, ◌+◌, ◌<◌, ◌≤◌, ◌⊎◌, ℕ, inl, inr, Bool, true, false, List, [], ◌∷◌, Option, Some, None, refl, sym, ap, arith}
use Rattle.std.specs.Prelude.{◌||◌, is_some, slice_get}
use Rattle.std.specs.FinMap as fin
use Rattle.std.proofs.lemmas.Bool.{and_parts, cases_lt, eq-eqb, false≢true, true≢false}
use Rattle.gs_base.specs.Members.{is_member}
use Rattle.gs_base.specs.declared.epoch.EpochEnd.{EpochEnd}
use Rattle.gs_base.specs.declared.epoch.EpochEnd.TheVariants as ends
use Rattle.gs_master_record.specs.declared.checkpoint.Phase.{Phase}
use Rattle.gs_master_record.specs.declared.checkpoint.Phase.TheVariants.{Ordinary, Upgrade, Rolling}
use Rattle.gs_master_spec.specs.Applied.{view_in}
use Rattle.gs_master_spec.specs.Chunks.{has_entry, is_quiet}
use Rattle.gs_master_spec.specs.Durable.{Durable, Settled, is_listed, is_ordinary, is_rolling, is_upgrade}
use Rattle.gs_master_spec.specs.State.{State}
use Rattle.gs_master_spec.specs.declared.asking.Asking.{Asking}
use Rattle.gs_laws_moves.proofs.lemmas.moves.Epochs.{ordinary_is, rolling_is}
use Rattle.gs_laws_moves.proofs.lemmas.moves.Quieted.{prepares_quiet}
use Rattle.gs_laws_moves.specs.moves.Epochs.{Begun, Committed, EpochGoes, Finalized, Prepared, Stays, prepares, rolls_back}
use Rattle.gs_laws_moves.specs.moves.Guards.{MayPrepare}
use Rattle.gs_laws_moves.specs.moves.Rows.{RowGoes}
use Rattle.gs_laws_chunk.proofs.lemmas.machine.Committed.{masters_commit, masters_prepare, masters_stay_calm}
use Rattle.gs_laws_chunk.proofs.lemmas.machine.Facts.{reached_world}
use Rattle.gs_laws_chunk.proofs.lemmas.machine.Knowing.{masters_people}
use Rattle.gs_laws_chunk.proofs.lemmas.machine.Known.{Later}
use Rattle.gs_laws_chunk.proofs.lemmas.machine.Lasting.{agrees}
use Rattle.gs_laws_chunk.proofs.lemmas.machine.Mastering.{masters_settle_once}
use Rattle.gs_laws_chunk.proofs.lemmas.machine.Worlds.{WorldOk, leads_later, leads_world}
use Rattle.gs_laws_chunk.specs.machine.Events.{Leads, Rests, is_of}
use Rattle.gs_laws_chunk.specs.machine.Laws.{Agrees, Birth, IsReached, world_of}
use Rattle.gs_laws_chunk.specs.machine.Machine.{Entry, ChunkWorld}
use Rattle.gs_laws_chunk.specs.machine.Machine as machine
use Rattle.gs_laws_chunk.specs.machine.Mastering.{AreOfMaster, IsCommittedSince, NonePrepared, SettlesOnce}
use Rattle.gs_laws_parts.proofs.lemmas.master.Preparing.{at_rest, quiet_is}
use Rattle.gs_laws_parts.specs.master.Rows.{IsFirst, RowsGo}
use Rattle.gs_laws_parts.specs.master.Showing.{ShowsEntry}
use Rattle.gs_laws_parts.specs.master.Single.{IsCommitted}
use Rattle.gs_laws_parts.specs.master.Telling.{Shows}
use Rattle.gs_laws_parts.specs.master.Unborn.{IsUngiven}

-- ---- epochs

-- where a rollback is committed the epoch stays
-- an entry without a place that isn't listed has none
listed_of : (chunk : ℕ) (b : Bool) (unplaced : List ℕ) → unplaced ≡ [] → (b || is_member unplaced chunk) ≡ true → b ≡ true
listed_of chunk true unplaced none either = refl
listed_of chunk false unplaced none either = absurd (false≢true (sym (ap (λ xs. is_member xs chunk) none) ∙ either))

commit_is : (d e : Durable) → EpochGoes d e → rolls_back d e ≡ true → (e.epoch ≡ d.epoch) × (d.phase ≡ Rolling) × (e.phase ≡ Ordinary)
commit_is d e goes back = (by_goes goes, rolling_is d.phase parts.0, ordinary_is e.phase parts.1)
  where
    parts : (is_rolling d.phase ≡ true) × (is_ordinary e.phase ≡ true)
    parts = and_parts (is_rolling d.phase) (is_ordinary e.phase) back

    by_goes : EpochGoes d e → e.epoch ≡ d.epoch
    by_goes (Stays epoch phase) = epoch
    by_goes (Prepared epoch from to inverses none) = absurd (true≢false (sym parts.0 ∙ ap is_rolling from))
    by_goes (Finalized epoch from to end) = absurd (true≢false (sym parts.0 ∙ ap is_rolling from))
    by_goes (Begun epoch from to end) = absurd (true≢false (sym parts.0 ∙ ap is_rolling from))
    by_goes (Committed epoch from to) = epoch

committed_back : (d e : Durable) → d.phase ≡ Rolling → e.phase ≡ Ordinary → rolls_back d e ≡ true
committed_back d e from to = ap (λ p. is_rolling p && is_ordinary e.phase) from ∙ ap is_ordinary to

prepared_is : (d e : Durable) → d.phase ≡ Ordinary → e.phase ≡ Upgrade → prepares d e ≡ true
prepared_is d e from to = ap (λ p. is_ordinary p && is_upgrade e.phase) from ∙ ap is_upgrade to

not_prepares : (d e : Durable) → is_ordinary d.phase ≡ false → prepares d e ≡ false
not_prepares d e other = ap (λ b. b && is_upgrade e.phase) other

-- where one prepares
prepare_is : (d e : Durable) → EpochGoes d e → prepares d e ≡ true → (e.epoch ≡ d.epoch + 1) × (d.phase ≡ Ordinary) × (e.phase ≡ Upgrade)
prepare_is d e goes here = by_goes goes
  where
    parts : (is_ordinary d.phase ≡ true) × (is_upgrade e.phase ≡ true)
    parts = and_parts (is_ordinary d.phase) (is_upgrade e.phase) here

    not_both : (p : Phase) → is_ordinary p ≡ true → is_upgrade p ≡ true → ⊥
    not_both Ordinary one two = false≢true two
    not_both Upgrade one two = false≢true one
    not_both Rolling one two = false≢true one

    by_goes : EpochGoes d e → (e.epoch ≡ d.epoch + 1) × (d.phase ≡ Ordinary) × (e.phase ≡ Upgrade)
    by_goes (Stays epoch phase) = absurd (not_both d.phase parts.0 (ap is_upgrade (sym phase) ∙ parts.1))
    by_goes (Prepared epoch from to inverses none) = (epoch, from, to)
    by_goes (Finalized epoch from to end) = absurd (true≢false (sym parts.1 ∙ ap is_upgrade to))
    by_goes (Begun epoch from to end) = absurd (true≢false (sym parts.1 ∙ ap is_upgrade to))
    by_goes (Committed epoch from to) = absurd (true≢false (sym parts.1 ∙ ap is_upgrade to))

prepare_apart : ends.Prepare ≡ ends.Rollback → ⊥
prepare_apart is = absurd (let h = is in cc)

finalize_apart : ends.Finalize ≡ ends.Rollback → ⊥
finalize_apart is = absurd (let h = is in cc)

finalize_other : ends.Finalize ≡ ends.Prepare → ⊥
finalize_other is = absurd (let h = is in cc)

-- ---- views, in the machine

first_of : (x : ℕ) (xs : List ℕ) → is_of (x ∷ xs) x ≡ true
first_of x xs = rw (eq-eqb x x refl) refl

module _ (w v : ChunkWorld) (leads : Leads w v) (masters : AreOfMaster w v leads) (reached : IsReached w) where
  ok : WorldOk w
  ok = reached_world w reached

  later : Later w.known v.known
  later = leads_later w v leads ok

  known_w : Agrees w
  known_w = agrees w ok

  known_v : Agrees v
  known_v = agrees v (leads_world w v leads ok)

  -- one with members is later than one that has none
  peopled_later : w.entry.view.members ≡ [] → v.entry.view.members ≢ [] → w.known.view < v.known.view
  peopled_later bare some = elim (cases_lt w.known.view v.known.view) [
    | inl less ↦ less
    | inr least ↦ absurd (by_members (let up = later.view in omega arith) v.entry.view.members refl)
  ]
    where
      by_members : v.known.view ≡ w.known.view → (members : List ℕ) → v.entry.view.members ≡ members → ⊥
      by_members same [] is = some is
      by_members same (x ∷ xs) is =
          let stamp : v.entry.view.stamp ≡ w.entry.view.stamp = sym known_v.view ∙ same ∙ known_w.view in
          let within : w.entry.view.stamp ≤ w.known.view = (let h = known_w.view in omega arith) in
          true≢false (
          sym (first_of x xs) ∙ ap (λ l. is_of l x) (sym is) ∙ sym (known_v.members x) ∙ ap (λ t. v.known.members t x) stamp ∙ later.members w.entry.view.stamp x within ∙ known_w.members x ∙ ap (λ l. is_of l x) bare
          )

  -- nothing is above what was proposed, where no rollback was committed
  pub never_above : (IsCommittedSince w v → ⊥) → w.known.top < v.known.view → ⊥
  never_above none above = by_once (masters_settle_once w v leads reached masters)
    where
      by_once : SettlesOnce w v → ⊥
      by_once (inl k) = absurd (let same = k.view in let top = (ok.known).viewtop in omega arith)
      by_once (inr (inl k)) = absurd (let same = k.view in omega arith)
      by_once (inr (inr k)) = none k.committed

  -- one without members is that of before
  bare_stays : v.entry.view.members ≡ [] → (w.known.top < v.known.view → ⊥) → v.known.view ≡ w.known.view
  bare_stays bare never = elim (masters_people w v leads reached masters) [
    | inl same ↦ known_v.view ∙ ap (λ (x : machine.View). x.stamp) same ∙ sym known_w.view
    | inr other ↦ elim other [
      | inl some ↦ absurd (some bare)
      | inr above ↦ absurd (never above)
    ]
  ]

  -- so is that of a chunk at rest
  pub rest_stays : w.entry.top ≡ w.entry.view.stamp → (w.known.top < v.known.view → ⊥) → v.known.view ≡ w.known.view
  rest_stays still never = by_once (masters_settle_once w v leads reached masters)
    where
      by_once : SettlesOnce w v → v.known.view ≡ w.known.view
      by_once (inl k) = k.view
      by_once (inr (inl k)) = absurd (let moving = k.moving in let top = known_w.top in let view = known_w.view in omega arith)
      by_once (inr (inr k)) = absurd (never k.later)

  -- the first view is that of the birth
  first_stays : v.entry.view.members ≡ [] → (w.known.top < v.known.view → ⊥) → w.known.view ≡ w.known.born → v.known.view ≡ v.known.born
  first_stays bare never first = bare_stays bare never ∙ first ∙ sym later.born

-- ---- a chunk that is known and at rest

row_at_rest : (s : State) (chunk : ℕ) (e : Entry) → MayPrepare s → ShowsEntry chunk s e → e.is_known ≡ true → is_some (fin.get s.durable.chunks chunk) ≡ true
row_at_rest s chunk e may k is = by_both (fin.get s.durable.chunks chunk) refl (fin.get s.volatile.moving chunk) refl (sym (quiet_is s chunk known) ∙ prepares_quiet s chunk may known)
  where
    known : has_entry s chunk ≡ true
    known = sym k.memory.known ∙ is

    by_both : (o : Option Settled) → fin.get s.durable.chunks chunk ≡ o → (a : Option Asking) → fin.get s.volatile.moving chunk ≡ a → is_quiet (record { settled = o; asking = a }) ≡ true → is_some o ≡ true
    by_both (Some x) settled a asks quiet = refl
    by_both None settled (Some a) asks quiet = absurd (false≢true quiet)
    by_both None settled None asks quiet = absurd (false≢true (sym (ap is_some asks) ∙ k.memory.sought known settled))

-- ---- behind a turn

-- what is shown there
module _ (chunk : ℕ) (u : State) (v : ChunkWorld) (shows : Shows chunk u v) where
  members_of : (y : Settled) → fin.get u.durable.chunks chunk ≡ Some y → y.view.members ≢ [] → v.entry.view.members ≢ []
  members_of y has some none = some (sym (shows.entry.durable.settled y has).view.members ∙ none)

  bare_of : v.entry.is_known ≡ true → fin.get u.durable.chunks chunk ≡ None → v.entry.view.members ≡ []
  bare_of known none = (shows.entry.durable.bare known none).members

  -- how the epoch began
  began_by : (d : Durable) (end : EpochEnd) → u.durable.epoch ≡ d.epoch + 1 → slice_get u.durable.ends d.epoch ≡ Some end → v.entry.how v.entry.epoch ≡ end
  began_by d end next is = ap v.entry.how (shows.entry.durable.epoch ∙ next) ∙ (shows.entry.durable.how d.epoch end is).1

-- ---- a chunk that goes on

module _ (chunk : ℕ) (s u : State) (w v : ChunkWorld) (leads : Leads w v) (masters : AreOfMaster w v leads) (reached : IsReached w) (shown : Shows chunk s w) (shows : Shows chunk u v) where
  -- no rollback was committed
  pub none_committed : EpochGoes s.durable u.durable → rolls_back s.durable u.durable ≡ false → IsCommittedSince w v → ⊥
  none_committed goes none c = by_goes goes
    where
      was_at : w.entry.epoch ≡ s.durable.epoch
      was_at = shown.entry.durable.epoch

      is_at : v.entry.epoch ≡ u.durable.epoch
      is_at = shows.entry.durable.epoch

      -- in the old epoch
      old : is_rolling s.durable.phase ≡ false → c.e ≡ w.entry.epoch → ⊥
      old calm same = true≢false (sym (c.was same) ∙ shown.entry.durable.rolling ∙ calm)

      -- in the old one or in the new one
      either : u.durable.epoch ≡ s.durable.epoch + 1 → is_rolling s.durable.phase ≡ false → (c.e ≡ v.entry.epoch → ⊥) → ⊥
      either next calm new = elim (cases_lt w.entry.epoch c.e) [
        | inl above ↦ new (let since = c.since in let within = c.within in let a = was_at in let b = is_at in omega arith)
        | inr low ↦ old calm (let since = c.since in omega arith)
      ]

      how_at : c.e ≡ v.entry.epoch → v.entry.how v.entry.epoch ≡ ends.Rollback
      how_at same = ap v.entry.how (sym same) ∙ c.how

      by_goes : EpochGoes s.durable u.durable → ⊥
      by_goes (Stays epoch phase) =
          let first : c.e ≡ w.entry.epoch = (let since = c.since in let within = c.within in let a = was_at in let b = is_at in omega arith) in
          let last : c.e ≡ v.entry.epoch = (let since = c.since in let within = c.within in let a = was_at in let b = is_at in omega arith) in
          true≢false (sym (c.was first) ∙ shown.entry.durable.rolling ∙ ap is_rolling (sym phase) ∙ sym shows.entry.durable.rolling ∙ c.done last)
      by_goes (Prepared epoch from to inverses bare) = either epoch (ap is_rolling from) (λ same. prepare_apart (sym (shows.entry.durable.upgrade (ap is_upgrade to)) ∙ how_at same))
      by_goes (Finalized epoch from to end) = either epoch (ap is_rolling from) (λ same. finalize_apart (sym (began_by chunk u v shows s.durable ends.Finalize epoch end) ∙ how_at same))
      by_goes (Begun epoch from to end) = either epoch (ap is_rolling from) (λ same. true≢false (sym (shows.entry.durable.rolling ∙ ap is_rolling to) ∙ c.done same))
      by_goes (Committed epoch from to) = true≢false (sym (committed_back s.durable u.durable from to) ∙ none)

  -- no epoch began by a prepare
  none_prepares : EpochGoes s.durable u.durable → prepares s.durable u.durable ≡ false → NonePrepared w v
  none_prepares goes none e above within how = by_goes goes
    where
      was_at : w.entry.epoch ≡ s.durable.epoch
      was_at = shown.entry.durable.epoch

      is_at : v.entry.epoch ≡ u.durable.epoch
      is_at = shows.entry.durable.epoch

      new : u.durable.epoch ≡ s.durable.epoch + 1 → v.entry.how v.entry.epoch ≡ ends.Prepare
      new next = (let same : v.entry.epoch ≡ e = (let a = was_at in let b = is_at in omega arith) in ap v.entry.how same ∙ how)

      by_goes : EpochGoes s.durable u.durable → ⊥
      by_goes (Stays epoch phase) = absurd (let a = was_at in let b = is_at in omega arith)
      by_goes (Prepared epoch from to inverses bare) = true≢false (sym (prepared_is s.durable u.durable from to) ∙ none)
      by_goes (Finalized epoch from to end) = finalize_other (sym (began_by chunk u v shows s.durable ends.Finalize epoch end) ∙ new epoch)
      by_goes (Begun epoch from to end) = prepare_apart (sym (new epoch) ∙ began_by chunk u v shows s.durable ends.Rollback epoch end)
      by_goes (Committed epoch from to) = absurd (let a = was_at in let b = is_at in omega arith)

  -- a row that appears tells of a later view
  row_appears : RowGoes s u chunk → (y : Settled) → fin.get s.durable.chunks chunk ≡ None → fin.get u.durable.chunks chunk ≡ Some y → w.known.view < v.known.view
  row_appears row y none has = by_known w.entry.is_known refl
    where
      never : view_in (fin.get s.durable.chunks chunk) ≡ Some y.view → ⊥
      never same = false≢true (ap is_some (sym (ap view_in none) ∙ same))

      by_known : (b : Bool) → w.entry.is_known ≡ b → w.known.view < v.known.view
      by_known true known = elim (row.row y has) [
        | inl same ↦ absurd (never same)
        | inr some ↦ peopled_later w v leads masters reached (bare_of chunk s w shown known none) (members_of chunk u v shows y has some)
      ]
      by_known false unknown = elim (row.known shown.entry.durable.given y has) [
        | inl same ↦ absurd (never same)
        | inr known ↦ absurd (false≢true (sym unknown ∙ shown.entry.memory.known ∙ known))
      ]

  -- a chunk without a row had none
  row_first : RowGoes s u chunk → (w.known.top < v.known.view → ⊥) → IsFirst chunk s.durable w → IsFirst chunk u.durable v
  row_first row never first known none =
      let given = shown.entry.durable.given in
      let here = sym shows.entry.memory.known ∙ known in
      first_stays w v leads masters reached (bare_of chunk u v shows known none) never (first (shown.entry.memory.known ∙ row.gone given here) (row.none given here none))

  -- what a prepare finds
  row_prepared : EpochGoes s.durable u.durable → (w.known.top < v.known.view → ⊥) → MayPrepare s → prepares s.durable u.durable ≡ true → v.entry.was_known ≡ true
      → (is_some (fin.get s.durable.chunks chunk) ≡ true) × (w.entry.is_known ≡ true) × (v.entry.prepared.stamp ≡ w.known.view) × (v.known.view ≡ w.known.view)
  row_prepared goes never may here was =
      let is = prepare_is s.durable u.durable goes here in
      let calm : w.entry.is_rolling ≡ false = shown.entry.durable.rolling ∙ ap is_rolling is.1 in
      let next : v.entry.epoch ≡ w.entry.epoch + 1 = shows.entry.durable.epoch ∙ is.0 ∙ ap (λ n. n + 1) (sym shown.entry.durable.epoch) in
      let finds = masters_prepare w v leads reached masters calm next (shows.entry.durable.upgrade (ap is_upgrade is.2)) was in
      let rest = at_rest s chunk w.entry may shown.entry finds.0 in
      let same = rest_stays w v leads masters reached rest.0 never in (
        row_at_rest s chunk w.entry may shown.entry finds.0,
        finds.0,
        (let above = finds.1 in let below = finds.2 in let a = (known_w w v leads masters reached).view in let b = (known_v w v leads masters reached).view in omega arith),
        same,
      )

  -- over a turn that commits no rollback
  pub rows_go : EpochGoes s.durable u.durable → rolls_back s.durable u.durable ≡ false → RowGoes s u chunk → (v.entry.is_known ≡ false → w.known.view < v.known.view → v.known.holder v.known.view ≡ None) → (prepares s.durable u.durable ≡ true → MayPrepare s) → RowsGo chunk s.durable u.durable w v
  rows_go goes none row fades may =
      let never = never_above w v leads masters reached (none_committed goes none) in
      record {
        epochs = goes;
        appears = row_appears row;
        first = row_first row never;
        fades = fades;
        back = λ above. absurd (never above);
        given = λ above. absurd (never above);
        returned = λ above. absurd (never above);
        listed = λ above. absurd (never above);
        unprepared = none_prepares goes;
        prepared = λ here. row_prepared goes never (may here) here;
      }

  -- over one that does
  pub rows_back : EpochGoes s.durable u.durable → rolls_back s.durable u.durable ≡ true → u.volatile.unplaced ≡ [] → IsCommitted chunk u w v → RowsGo chunk s.durable u.durable w v
  rows_back goes back bare made = (let is = commit_is s.durable u.durable goes back in let above = over is in record {
    epochs = goes;
    appears = λ y none has. within above;
    first = λ first known none. absurd (true≢false (sym known ∙ made.row ∙ ap is_some none));
    fades = λ unknown later. ap v.known.holder (known_v w v leads masters reached).view ∙ (known_v w v leads masters reached).holder ∙ made.fades unknown;
    back = λ above. (back, same is.0, made.back);
    given = λ above stood. sym made.row ∙ sym made.given ∙ stood;
    returned = λ above some. made.given ∙ made.row ∙ some;
    listed = λ above some. listed_of chunk (is_listed u.durable chunk) u.volatile.unplaced bare (sym shows.entry.memory.known ∙ made.row ∙ some);
    unprepared = λ none e above least how. absurd (let a = shown.entry.durable.epoch in let b = shows.entry.durable.epoch in let c = is.0 in omega arith);
    prepared = λ here. absurd (true≢false (sym here ∙ not_prepares s.durable u.durable (ap is_ordinary is.1)));
  })
    where
      over : (u.durable.epoch ≡ s.durable.epoch) × (s.durable.phase ≡ Rolling) × (u.durable.phase ≡ Ordinary) → w.known.top < v.known.view
      over is = masters_commit w v leads reached masters (shown.entry.durable.rolling ∙ ap is_rolling is.1) (shows.entry.durable.rolling ∙ ap is_rolling is.2)

      within : w.known.top < v.known.view → w.known.view < v.known.view
      within above = (let top = ((reached_world w reached).known).viewtop in omega arith)

      same : u.durable.epoch ≡ s.durable.epoch → v.known.current ≡ w.known.current
      same epoch = (known_v w v leads masters reached).epoch ∙ shows.entry.durable.epoch ∙ epoch ∙ sym shown.entry.durable.epoch ∙ sym (known_w w v leads masters reached).epoch

-- ---- one that is born

module _ (chunk : ℕ) (d : Durable) (u : State) (b : Birth) (v : ChunkWorld) (leads : Leads (world_of b) v) (masters : AreOfMaster (world_of b) v leads) (shows : Shows chunk u v) (ungiven : IsUngiven chunk d) (least : u.durable.epoch ≤ b.epoch) where
  born_at : IsReached (world_of b)
  born_at = (b, Rests)

  same_epoch : v.entry.epoch ≡ b.epoch
  same_epoch =
      let up = (later (world_of b) v leads masters born_at).current in
      let now = (known_v (world_of b) v leads masters born_at).epoch in
      let at = shows.entry.durable.epoch in
      omega arith

  none_since : IsCommittedSince (world_of b) v → ⊥
  none_since c = false≢true (c.was (let since = c.since in let within = c.within in let at = same_epoch in omega arith))

  -- nothing is rolled back
  born_calm : is_rolling u.durable.phase ≡ false
  born_calm = sym shows.entry.durable.rolling ∙ masters_stay_calm (world_of b) v leads born_at masters refl same_epoch

  calm_before : EpochGoes d u.durable → rolls_back d u.durable ≡ false → is_rolling d.phase ≡ false
  calm_before (Stays epoch phase) none = ap is_rolling (sym phase) ∙ born_calm
  calm_before (Prepared epoch from to inverses bare) none = ap is_rolling from
  calm_before (Finalized epoch from to end) none = ap is_rolling from
  calm_before (Begun epoch from to end) none = ap is_rolling from
  calm_before (Committed epoch from to) none = absurd (true≢false (sym (committed_back d u.durable from to) ∙ none))

  pub rows_born : EpochGoes d u.durable → rolls_back d u.durable ≡ false → prepares d u.durable ≡ false → ((y : Settled) → fin.get u.durable.chunks chunk ≡ Some y → (view_in (fin.get d.chunks chunk) ≡ Some y.view) ⊎ (y.view.members ≢ []))
      → (v.entry.is_known ≡ false → (world_of b).known.view < v.known.view → v.known.holder v.known.view ≡ None) → RowsGo chunk d u.durable (world_of b) v × (is_rolling d.phase ≡ false)
  rows_born goes none apart row fades = (
    let never = never_above (world_of b) v leads masters born_at none_since in record {
      epochs = goes;
      appears = λ y no_row has. elim (row y has) [
        | inl same ↦ absurd (false≢true (ap is_some (sym (ap view_in ungiven.settled) ∙ same)))
        | inr some ↦ peopled_later (world_of b) v leads masters born_at refl (members_of chunk u v shows y has some)
      ];
      first = λ first known no_row. first_stays (world_of b) v leads masters born_at (bare_of chunk u v shows known no_row) never refl;
      fades = fades;
      back = λ above. absurd (never above);
      given = λ above. absurd (never above);
      returned = λ above. absurd (never above);
      listed = λ above. absurd (never above);
      unprepared = λ still e above within how. absurd (let at = same_epoch in omega arith);
      prepared = λ here. absurd (true≢false (sym here ∙ apart));
    },
    calm_before goes none,
  )
