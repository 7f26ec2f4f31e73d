-- What the account of a chunk has settled, in a world in which its machine shows the store.
use Rattle.std.proofs.Common.{◌≡◌, ◌∙◌, ◌<◌, ℕ, List, Some, true, take, sym, ap, subst, arith}
use Rattle.std.specs.FinMap as fin
use Rattle.gs_base.specs.declared.numbers.ReqId.{ReqId}
use Rattle.gs_laws_chunks.specs.accounts.Accounts.{Account, least, settled_in, view_at}
use Rattle.gs_laws_chunks.specs.accounts.Running.{Setup}
use Rattle.gs_laws_chunk.proofs.lemmas.machine.Facts.{reached_world}
use Rattle.gs_laws_chunk.proofs.lemmas.machine.Lasting.{agrees}
use Rattle.gs_laws_chunk.specs.machine.Laws.{least_of, settled}
use Rattle.gs_laws_chunk.specs.machine.Machine.{ChunkWorld}
use Rattle.gs_laws_chunk.specs.machine.Stamps.{stamp_at}
use Rattle.gs_laws_parts.specs.master.Showing.{ShowsView}
use Rattle.gs_lease.specs.declared.view.View.{View}
use Rattle.gs_laws_lift.specs.stores.Accounts.{CountsShow}
use Rattle.gs_world.specs.Histories.{History}
use Rattle.gs_master_spec.specs.Durable.{is_listed}
use Rattle.gs_laws_chunks.proofs.lemmas.accounts.Surviving.{least_is, settled_of}
use Rattle.gs_laws_chunks.specs.accounts.Joined.{IsSeen}

-- a view that the records tell, as the machine has it, with its list and with what of it is settled
pub record IsToldView (a : Account) (chunk : ℕ) (w : ChunkWorld) (view : View) : Type 0 where
  pub shows : ShowsView view w.entry.view
  pub stood : w.known.stood w.entry.view.stamp ≡ true
  pub late : w.known.born < w.entry.view.stamp
  pub list : a.list chunk (stamp_at w.entry.view.stamp) ≡ w.known.list w.entry.view.stamp
  pub settled : settled_in a chunk (Some view) ≡ settled w

-- of a view that both have with the same edits and counts they have settled the same
settled_alike : (a : Account) (chunk : ℕ) (w : ChunkWorld) (view : View) → ShowsView view w.entry.view → CountsShow a.reached chunk w → a.list chunk (stamp_at w.entry.view.stamp) ≡ w.known.list w.entry.view.stamp → settled_in a chunk (Some view) ≡ settled w
settled_alike a chunk w view shows counts same =
    let had : ℕ → ℕ = λ server. a.reached chunk server view.stamp in
    let known : ℕ → ℕ = λ server. w.known.reached server w.entry.view.stamp in
    let each : (j : ℕ) → had j ≡ known j = λ j. ap (a.reached chunk j) shows.stamp ∙ counts j w.entry.view.stamp in
    let many : least had view.members view.count ≡ least_of known w.entry.view.members w.entry.view.count =
    least_is had view.members view.count ∙ ap (λ f. least_of f view.members view.count) (λ i j. each j i) ∙ (λ i. least_of known (sym shows.members i) (sym shows.count i)) in
    let lists : a.list chunk view.stamp ≡ w.known.list w.entry.view.stamp = ap (a.list chunk) shows.stamp ∙ same in
    λ i. take (many i) (lists i)

pub told_view : {D : Type 0} (x : Setup D) (bytes : ReqId → List ℕ) (chunk : ℕ) (now : History D) (a : Account) (s : IsSeen x bytes chunk now a) (view : View) → view_at a chunk ≡ Some view → IsToldView a chunk s.alive.world view
told_view x bytes chunk now a s view at =
    let w : ChunkWorld = s.alive.world in
    let y = settled_of (fin.get a.durable.chunks chunk) view at in
    let same : w.known.view ≡ w.entry.view.stamp = (agrees w (reached_world w s.alive.reached)).view in
    let over = s.agrees.late y.0 y.1 in
    let shown = s.agrees.shown y.0 y.1 in
    let shows : ShowsView view w.entry.view = subst (λ v. ShowsView v w.entry.view) y.2 (s.told.settled y.0 y.1).view in
    let list : a.list chunk (stamp_at w.entry.view.stamp) ≡ w.known.list w.entry.view.stamp = subst (λ t. a.list chunk (stamp_at t) ≡ w.known.list t) same shown.same in
    record { shows = shows; stood = ap w.known.stood (sym same) ∙ shown.stood; late = omega arith; list = list; settled = settled_alike a chunk w view shows s.agrees.counts list }

-- the settled view of a chunk that a file has, which the master knows
pub record IsViewed (a : Account) (chunk : ℕ) (w : ChunkWorld) (view : View) : Type 0 where
  pub known : w.entry.is_known ≡ true
  pub shows : ShowsView view w.entry.view
  pub stood : w.known.stood w.entry.view.stamp ≡ true
  pub late : w.known.born < w.entry.view.stamp
  pub list : a.list chunk (stamp_at w.entry.view.stamp) ≡ w.known.list w.entry.view.stamp
  pub settled : settled_in a chunk (Some view) ≡ settled w

pub viewed : {D : Type 0} (x : Setup D) (bytes : ReqId → List ℕ) (chunk : ℕ) (now : History D) (a : Account) (s : IsSeen x bytes chunk now a) (view : View) → is_listed a.durable chunk ≡ true → view_at a chunk ≡ Some view → IsViewed a chunk s.alive.world view
viewed x bytes chunk now a s view listed at =
    let t = told_view x bytes chunk now a s view at in
    record { known = s.told.listed listed; shows = t.shows; stood = t.stood; late = t.late; list = t.list; settled = t.settled }
