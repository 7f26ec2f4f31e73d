-- What is settled of a chunk at a step of a store, whatever disks of the master fail.
use Rattle.std.proofs.Common.{◌≡◌, ◌∙◌, ◌≤◌, ◌<◌, ◌++◌, inl, inr, ℕ, zero, suc, true, false, List, [], ◌∷◌, length, drop, Option, Some, None, refl, sym, ap, subst, arith}
use Rattle.std.specs.Prelude.{is_some}
use Rattle.std.proofs.lemmas.Bool.{false≢true}
use Rattle.std.specs.FinMap as fin
use Rattle.gs_base.specs.declared.numbers.ReqId.{ReqId}
use Rattle.gs_laws_chunk.proofs.lemmas.machine.Facts.{reached_world}
use Rattle.gs_laws_chunk.proofs.lemmas.machine.Lasting.{agrees}
use Rattle.gs_laws_chunk.proofs.lemmas.machine.Worlds.{WorldOk}
use Rattle.gs_laws_chunk.specs.machine.Laws.{BeginsList, settled}
use Rattle.gs_laws_chunk.specs.machine.Machine.{ChunkWorld}
use Rattle.gs_lease.specs.declared.view.View.{View}
use Rattle.gs_laws_parts.specs.master.Showing.{primary_of}
use Rattle.gs_laws_master.specs.Promises.{IsKept}
use Rattle.gs_laws_moves.specs.moves.Epochs.{rolls_back}
use Rattle.gs_master_spec.specs.Applied.{view_in}
use Rattle.gs_master_spec.specs.Durable.{Durable, Settled, is_listed}
use Rattle.gs_replica.specs.Stands.{Edit}
use Rattle.gs_laws_parts.proofs.lemmas.server.Stamps.{stamp_number}
use Rattle.gs_laws_parts.specs.server.Requests.{Asked, IsOfOneEdit, bytes_in}
use Rattle.gs_world.proofs.Reaching.{HaveSizes}
use Rattle.gs_world.specs.Histories.{History}
use Rattle.gs_world.specs.Runs.{Step}
use Rattle.gs_laws_chunks.proofs.lemmas.accounts.Durables.{told_is_had}
use Rattle.gs_laws_chunks.proofs.lemmas.accounts.Edits.{AreNumbered}
use Rattle.gs_laws_chunks.proofs.lemmas.accounts.Intact.{told_same}
use Rattle.gs_laws_chunks.proofs.lemmas.accounts.Runs.{has_told, keeps_told, living_told, seen_of}
use Rattle.gs_laws_chunks.proofs.lemmas.accounts.Holding.{lives_on}
use Rattle.gs_laws_chunks.proofs.lemmas.accounts.SeeingThrough.{SeesNextThrough, each_sees_on_through, reached_well, sees_step_through}
use Rattle.gs_laws_chunks.proofs.lemmas.accounts.Viewing.{IsToldView, told_view}
use Rattle.gs_laws_chunks.specs.accounts.Accounts.{Account, settled_edits, settled_in, view_at}
use Rattle.gs_laws_chunks.specs.accounts.Joined.{IsSeen}
use Rattle.gs_laws_chunks.specs.accounts.Running.{IsGiven, IsReached, Moves, Setup}
use Rattle.gs_laws_chunks.specs.accounts.Seeing.{Sees}
use Rattle.gs_laws_chunks.specs.accounts.SeenThrough.{SeesBothThrough}
use Rattle.gs_laws_lift.specs.stores.Left.{left_in}
use Rattle.gs_laws_lift.proofs.lemmas.stores.AskingRuns.{of_one_edit, pushes_right}
use Rattle.gs_laws_lift.specs.stores.Doing.{HasDurable}
use Rattle.gs_laws_lift.specs.stores.Going.{AllSent, heard_in}
use Rattle.gs_laws_lift.specs.stores.Joint.{AtMaster, AtServer, Elsewhere, GoesBy}
use Rattle.gs_laws_lift.specs.stores.Living.{GoesOn, LivesOn}
use Rattle.gs_laws_lift.specs.stores.Saying.{PushRight}
use Rattle.gs_laws_lift.specs.stores.Showing.{IsAlive}
use Rattle.gs_laws_runs.proofs.lemmas.plain.Machine.{grows_over, none_more, none_more_still}
use Rattle.gs_laws_runs.specs.plain.Settling.{newly_settled}

-- ---- lists

drop_all : (xs ys : List Edit) → drop (length xs) (xs ++ ys) ≡ ys
drop_all [] ys = refl
drop_all (x ∷ xs) ys = drop_all xs ys

pub drop_short : (n : ℕ) (xs : List Edit) → length xs ≤ n → drop n xs ≡ []
drop_short zero [] short = refl
drop_short (suc n) [] short = refl
drop_short zero (x ∷ xs) short = absurd (omega arith)
drop_short (suc n) (x ∷ xs) short = drop_short n xs (omega arith)

-- a view of a row
row_of : (o : Option Settled) (view : View) → view_in o ≡ Some view → is_some o ≡ true
row_of None view is = absurd (cc)
row_of (Some y) view is = refl

view_of : (o : Option Settled) → is_some o ≡ true → (view : View) × (view_in o ≡ Some view)
view_of None some = absurd (false≢true some)
view_of (Some y) some = (y.view, refl)

module _ (sizes : HaveSizes) (law : AreNumbered) {D : Type 0} (x : Setup D) (step : Step) (old new : History D) (a b : Account) (r : IsReached x old a) (moves : Moves x step old a new b) where
  -- what is left of the master is all that is seen of it
  abbrev pub O : History D
  O = left_in old

  abbrev pub N : History D
  N = left_in new

  pub sees : SeesBothThrough x old a new b
  sees = each_sees_on_through sizes law x old new a b (step ∷ []) r (new, b, moves, (refl, refl))

  abbrev pub asked : ℕ → Asked
  asked = sees.asked

  abbrev pub bytes : ReqId → List ℕ
  bytes = bytes_in asked

  pub given : IsGiven x
  given = r.begins.given

  right : AllSent (PushRight bytes) new.sent
  right = pushes_right asked new sees.are

  one_edit : AllSent (IsOfOneEdit asked) new.sent
  one_edit = of_one_edit asked new sees.are

  pub next : SeesNextThrough x asked given law step old new a b sees.first
  next = sees_step_through x asked given law r.apart step old new a b sees.first (reached_well x old a r) moves right one_edit

  abbrev pub behind : Sees x asked N b
  behind = record { lives = next.goes.last; tells = next.tells; agrees = next.agrees; intact = next.intact }

  pub kept_before : IsKept a.durable
  kept_before = keeps_told x asked O a sees.first

  pub kept_behind : IsKept b.durable
  kept_behind = keeps_told x asked N b behind

  pub had : HasDurable x.seen O.nodes.master a.durable
  had = has_told x asked O a sees.first

  pub has : HasDurable x.seen N.nodes.master b.durable
  has = has_told x asked N b behind

  -- ---- a chunk of which a view is told before the step and behind it

  module _ (chunk : ℕ) (view later : View) (told : view_at a chunk ≡ Some view) (told_then : view_at b chunk ≡ Some later) where
    pub living : (l : IsAlive x.seen x.config bytes chunk O) × (sees.first.lives.life chunk ≡ inr l)
    living = living_told x asked O a sees.first chunk (row_of (fin.get a.durable.chunks chunk) view told)

    abbrev l : IsAlive x.seen x.config bytes chunk O
    l = living.0

    pub lived : (m : IsAlive x.seen x.config bytes chunk N) × (next.goes.last.life chunk ≡ inr m)
    lived = lives_on law x asked given step old new a b moves sees.first next chunk l living.1

    abbrev m : IsAlive x.seen x.config bytes chunk N
    m = lived.0

    abbrev heard : Option ℕ
    heard = heard_in x.seen x.failures x.armed next.goes.kind

    pub goes : LivesOn x.seen x.config bytes chunk step heard O N l m
    goes = subst (λ life. GoesOn x.seen x.config bytes chunk step heard O N (inr l) life) lived.1
        (subst (λ life. GoesOn x.seen x.config bytes chunk step heard O N life (next.goes.last.life chunk)) living.1 (next.goes.goes chunk))

    pub here : (seen : IsSeen x bytes chunk O a) × (seen.alive ≡ l)
    here = seen_of x asked O a sees.first r.apart chunk l living.1

    pub there : (seen : IsSeen x bytes chunk N b) × (seen.alive ≡ m)
    there = seen_of x asked N b behind r.apart chunk m lived.1

    abbrev w : ChunkWorld
    w = here.0.alive.world

    abbrev v : ChunkWorld
    v = there.0.alive.world

    goes_so : LivesOn x.seen x.config bytes chunk step heard O N here.0.alive there.0.alive
    goes_so = subst (λ z. LivesOn x.seen x.config bytes chunk step heard O N z there.0.alive) (sym here.1) (subst (λ z. LivesOn x.seen x.config bytes chunk step heard O N l z) (sym there.1) goes)

    pub ok : WorldOk w
    ok = reached_world w here.0.alive.reached

    pub okv : WorldOk v
    okv = reached_world v there.0.alive.reached

    first : IsToldView a chunk w view
    first = told_view x bytes chunk O a here.0 view told

    last : IsToldView b chunk v later
    last = told_view x bytes chunk N b there.0 later told_then

    pub settled_first : settled_edits a chunk ≡ settled w
    settled_first = ap (settled_in a chunk) told ∙ first.settled

    pub settled_last : settled_edits b chunk ≡ settled v
    settled_last = ap (settled_in b chunk) told_then ∙ last.settled

    -- where the master is as it was, so is the view
    one_view : {p q : View} → Some p ≡ Some q → p ≡ q
    one_view is = cc

    same_view : N.nodes.master ≡ O.nodes.master → v.known.view ≡ w.known.view
    same_view master =
        let same = told_same x bytes chunk step O N a b next.account sees.first.lives sees.first.agrees.told next.goes.last master in
        let views : view ≡ later = one_view (sym told ∙ ap (λ (d : Durable). view_in (fin.get d.chunks chunk)) same ∙ told_then) in
        (agrees v okv).view ∙ stamp_number v.entry.view.stamp w.entry.view.stamp (sym last.shows.stamp ∙ ap (λ (z : View). z.stamp) (sym views) ∙ first.shows.stamp) ∙ sym (agrees w ok).view

    still : v.known.view ≡ w.known.view → w.known.top < v.known.view → ⊥
    still same above = let most = (ok.known).viewtop in omega arith

    abbrev By : Type 0
    By = GoesBy x.seen x.config bytes here.0.alive.reached.0.epoch chunk step O N w v

    -- a view that is later than all that were proposed is that of a rollback which is committed
    beyond : rolls_back a.durable b.durable ≡ false → By → w.known.top < v.known.view → ⊥
    beyond goes_on (AtServer by) above = still (same_view by.master) above
    beyond goes_on (AtMaster by) above =
        let before : by.before ≡ a.durable = told_is_had x.seen O.nodes.master a.durable by.before sees.first.lives.lasts sees.first.agrees.told by.had in
        let later_on : by.behind ≡ b.durable = told_is_had x.seen N.nodes.master b.durable by.behind next.goes.last.lasts next.account.told by.has in
        false≢true (sym goes_on ∙ ap (λ (d : Durable). rolls_back d b.durable) (sym before) ∙ ap (rolls_back by.before) (sym later_on) ∙ (by.rows.back above).0)
    beyond goes_on (Elsewhere same servers master node messages moment are posted) above = still (ap (λ (z : ChunkWorld). z.known.view) same) above

    -- What was settled stands first in what is settled then.
    pub begins_with : rolls_back a.durable b.durable ≡ false → BeginsList (settled_edits b chunk) (settled_edits a chunk)
    begins_with goes_on =
        subst (λ (es : List Edit). BeginsList es (settled_edits a chunk)) (sym settled_last)
        (subst (λ (es : List Edit). BeginsList (settled v) es) (sym settled_first)
        (elim (grows_over w v goes_so.leads ok) [
          | inl more ↦ more
          | inr above ↦ absurd (beyond goes_on goes_so.by above)
        ]))

    -- And where nobody may number nothing more is settled.
    free : view.term ≡ None → w.entry.view.holder ≡ None
    free none = first.shows.holder ∙ ap primary_of none

    by_what : rolls_back a.durable b.durable ≡ false → w.entry.view.holder ≡ None → By → length (settled v) ≤ length (settled w)
    by_what goes_on none (AtServer by) = none_more_still w v goes_so.leads ok none (same_view by.master)
    by_what goes_on none (AtMaster by) = none_more w v by.leads here.0.alive.reached by.masters none (λ above. beyond goes_on goes_so.by above)
    by_what goes_on none (Elsewhere same servers master node messages moment are posted) = none_more_still w v goes_so.leads ok none (ap (λ (z : ChunkWorld). z.known.view) same)

    pub no_more : rolls_back a.durable b.durable ≡ false → view.term ≡ None → length (settled_edits b chunk) ≤ length (settled_edits a chunk)
    no_more goes_on none =
        let less = by_what goes_on (free none) goes_so.by in
        let one = ap (λ (es : List Edit). length es) settled_first in
        let other = ap (λ (es : List Edit). length es) settled_last in
        omega arith

  -- ---- each chunk that a file has behind it, where no rollback is committed

  view_behind : (chunk : ℕ) → is_listed b.durable chunk ≡ true → (later : View) × (view_at b chunk ≡ Some later)
  view_behind chunk listed = view_of (fin.get b.durable.chunks chunk) (kept_behind.settled chunk listed)

  pub grows : (chunk : ℕ) → is_listed b.durable chunk ≡ true → rolls_back a.durable b.durable ≡ false → settled_edits a chunk ++ newly_settled a b chunk ≡ settled_edits b chunk
  grows chunk listed goes_on = by_view (view_at a chunk) refl
    where
      later : (later : View) × (view_at b chunk ≡ Some later)
      later = view_behind chunk listed

      with_more : (more : List Edit) → settled_edits b chunk ≡ settled_edits a chunk ++ more → settled_edits a chunk ++ newly_settled a b chunk ≡ settled_edits b chunk
      with_more more is = ap (λ (es : List Edit). settled_edits a chunk ++ drop (length (settled_edits a chunk)) es) is ∙ ap (λ (es : List Edit). settled_edits a chunk ++ es) (drop_all (settled_edits a chunk) more) ∙ sym is

      by_view : (o : Option View) → view_at a chunk ≡ o → settled_edits a chunk ++ newly_settled a b chunk ≡ settled_edits b chunk
      by_view None told = with_more (settled_edits b chunk) (ap (λ (es : List Edit). es ++ settled_edits b chunk) (sym (ap (settled_in a chunk) told)))
      by_view (Some view) told = let begins = begins_with chunk view later.0 told later.1 goes_on in with_more begins.0 begins.1

  -- one in whose view nobody may number has nothing more
  pub none_new : (chunk : ℕ) (view : View) → view_at a chunk ≡ Some view → view.term ≡ None → rolls_back a.durable b.durable ≡ false → newly_settled a b chunk ≡ []
  none_new chunk view told none goes_on = by_view (view_at b chunk) refl
    where
      by_view : (o : Option View) → view_at b chunk ≡ o → newly_settled a b chunk ≡ []
      by_view None told_then = drop_short (length (settled_edits a chunk)) (settled_edits b chunk) (let n = ap (λ (es : List Edit). length es) (ap (settled_in b chunk) told_then) in omega arith)
      by_view (Some later) told_then = drop_short (length (settled_edits a chunk)) (settled_edits b chunk) (no_more chunk view later told told_then goes_on none)
