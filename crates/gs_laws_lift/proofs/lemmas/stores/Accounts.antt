-- What a replica stands for, and what is settled, by lists and counts that agree with the machine.
use Rattle.std.proofs.Common.{◌≡◌, ◌∙◌, ◌++◌, ◌<◌, ◌+◌, ◌⊎◌, inl, inr, ℕ, zero, suc, true, List, [], ◌∷◌, Option, Some, None, refl, sym, ap, take, append_assoc, arith}
use Rattle.std.proofs.lemmas.Bool.{true≢false}
use Rattle.gs_base.specs.declared.numbers.Stamp.{Stamp}
use Rattle.gs_lease.specs.declared.view.View.{View}
use Rattle.gs_replica.specs.Stands.{Edit}
use Rattle.gs_laws_chunk.specs.machine.Stamps.{stamp_at}
use Rattle.gs_laws_chunk.specs.machine.Machine.{ChunkWorld}
use Rattle.gs_laws_chunk.specs.machine.Laws.{Birth, least_of, settled, world_of}
use Rattle.gs_laws_chunk.specs.machine.Events.{Leads}
use Rattle.gs_laws_chunk.proofs.lemmas.machine.Facts.{each_stands, reached_world}
use Rattle.gs_laws_chunk.proofs.lemmas.machine.Viewed.{lists_of_views}
use Rattle.gs_laws_parts.specs.master.Showing.{ShowsView}
use Rattle.gs_laws_lift.specs.stores.Accounts.{BeginsList, CountsShow, IsUnseen, Lists, ListsShow, edits_copied, settled_in}

pub no_front : (edits rest : List Edit) → edits ++ rest ≡ [] → edits ≡ []
no_front [] rest is = refl
no_front (x ∷ edits) rest is = absurd (cc)

-- ---- a replica

module _ (list : Lists) (copied : Option (ℕ × Stamp)) (chunk : ℕ) (b : Birth) (w : ChunkWorld) (leads : Leads (world_of b) w) (shows : ListsShow list copied chunk b w) where
  -- no edits begin any list
  none_begin : (edits : List Edit) → edits ≡ [] → BeginsList list copied chunk edits
  none_begin edits none = record { source = chunk; stamp = stamp_at 0; own = inl refl; behind = list chunk (stamp_at 0); beginning = sym (ap (λ (xs : List Edit). xs ++ list chunk (stamp_at 0)) none) }

  of_origin : (edits rest : List Edit) → b.origin ≡ edits ++ rest → BeginsList list copied chunk edits
  of_origin edits rest is = of_copied copied refl shows.origin
    where
      of_copied : (o : Option (ℕ × Stamp)) → copied ≡ o → edits_copied list o ≡ b.origin → BeginsList list copied chunk edits
      of_copied None at none = none_begin edits (no_front edits rest (sym is ∙ sym none))
      of_copied (Some source) at same = record { source = source.0; stamp = source.1; own = inr at; behind = rest; beginning = same ∙ is }

  -- a view that is unseen begins as a lower one
  of_list : (n t : ℕ) → t < n → (edits rest : List Edit) → w.known.list t ≡ edits ++ rest → BeginsList list copied chunk edits
  of_list zero t below edits rest is = absurd (omega arith)
  of_list (suc n) t below edits rest is = elim (lists_of_views b w leads t) [
    | inl (stood, behind) ↦ by_own (shows.own t stood behind) (of_list n)
    | inr (inl first) ↦ of_origin edits rest (sym first ∙ is)
    | inr (inr none) ↦ none_begin edits (no_front edits rest (sym is ∙ none))
  ]
    where
      Lower : Type 0
      Lower = (t : ℕ) → t < n → (edits rest : List Edit) → w.known.list t ≡ edits ++ rest → BeginsList list copied chunk edits

      by_own : (list chunk (stamp_at t) ≡ w.known.list t) ⊎ IsUnseen w t → Lower → BeginsList list copied chunk edits
      by_own (inl same) lower = record { source = chunk; stamp = stamp_at t; own = inl refl; behind = rest; beginning = same ∙ is }
      by_own (inr unseen) lower =
          let more = unseen.begins in
          let before = unseen.below in
          lower unseen.lower (omega arith) edits (rest ++ more.0) (more.1 ∙ ap (λ (xs : List Edit). xs ++ more.0) is ∙ append_assoc edits rest more.0)

-- the first edits of a list, where a server has promised a stamp
list_begins : (list : Lists) (copied : Option (ℕ × Stamp)) (chunk : ℕ) (b : Birth) (w : ChunkWorld) (me t : ℕ) (edits rest : List Edit) → Leads (world_of b) w → ListsShow list copied chunk b w → 0 < (w.members me).promise → w.known.list t ≡ edits ++ rest → BeginsList list copied chunk edits
list_begins list copied chunk b w me t edits rest leads shows promised is = of_list list copied chunk b w leads shows (t + 1) t (omega arith) edits rest is

-- the edits of a live replica
pub replica_begins : (list : Lists) (copied : Option (ℕ × Stamp)) (chunk : ℕ) (b : Birth) (w : ChunkWorld) (me : ℕ) (edits : List Edit) → Leads (world_of b) w → ListsShow list copied chunk b w → 0 < (w.members me).promise → (w.members me).live ≡ Some edits
    → BeginsList list copied chunk edits
replica_begins list copied chunk b w me edits leads shows promised is =
    let x = (each_stands w (reached_world w (b, leads))).live me edits is in
    let rest = x.2 in
    list_begins list copied chunk b w me x.0 edits rest.0 leads shows promised rest.1

-- ---- what is settled

least_same : (f g : ℕ → ℕ) → ((j : ℕ) → f j ≡ g j) → (servers : List ℕ) (none : ℕ) → least_of f servers none ≡ least_of g servers none
least_same f g same servers none = ap (λ h. least_of h servers none) (λ i j. same j i)

-- the list of the settled view of a chunk that the master knows
pub own_list : (list : Lists) (copied : Option (ℕ × Stamp)) (chunk : ℕ) (b : Birth) (w : ChunkWorld) → ListsShow list copied chunk b w → w.entry.is_known ≡ true → w.known.stood w.entry.view.stamp ≡ true → w.known.born < w.entry.view.stamp
    → list chunk (stamp_at w.entry.view.stamp) ≡ w.known.list w.entry.view.stamp
own_list list copied chunk b w shows known stood behind = elim (shows.own w.entry.view.stamp stood behind) [
  | inl same ↦ same
  | inr unseen ↦ absurd (true≢false (sym known ∙ unseen.gone refl))
]

-- Of a settled view that the machine has, behind the birth, it is the same.
pub settled_same : (list : Lists) (reached : ℕ → ℕ → Stamp → ℕ) (copied : Option (ℕ × Stamp)) (chunk : ℕ) (b : Birth) (w : ChunkWorld) (view : View) → ListsShow list copied chunk b w → CountsShow reached chunk w → ShowsView view w.entry.view
    → w.entry.is_known ≡ true → w.known.stood w.entry.view.stamp ≡ true → w.known.born < w.entry.view.stamp → settled_in list reached chunk view ≡ settled w
settled_same list reached copied chunk b w view shows counts is known stood behind =
    let stamp : view.stamp ≡ stamp_at w.entry.view.stamp = is.stamp in
    let lists : list chunk view.stamp ≡ w.known.list w.entry.view.stamp = ap (list chunk) stamp ∙ own_list list copied chunk b w shows known stood behind in
    let many : least_of (λ server. reached chunk server view.stamp) view.members view.count ≡ least_of (λ server. w.known.reached server w.entry.view.stamp) w.entry.view.members w.entry.view.count =
    least_same (λ server. reached chunk server view.stamp) (λ server. w.known.reached server w.entry.view.stamp) (λ j. ap (reached chunk j) stamp ∙ counts j w.entry.view.stamp) view.members view.count
    ∙ (λ i. least_of (λ server. w.known.reached server w.entry.view.stamp) (sym is.members i) (sym is.count i)) in
    λ i. take (many i) (lists i)
