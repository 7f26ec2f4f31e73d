-- A copy has settled all that was copied, once a view of it is settled.
use Rattle.std.proofs.Common.{◌≡◌, ◌∙◌, ℕ, zero, suc, ◌+◌, ◌++◌, inl, inr, List, length, take, drop, append_assoc, Some, true, refl, sym, ap, subst, arith}
use Rattle.std.specs.Prelude.{slice_get}
use Rattle.std.proofs.lemmas.List.{take_all, take-append-drop, take-take}
use Rattle.gs_laws_chunks.specs.accounts.Accounts.{Account, settled_edits, settled_in, view_at}
use Rattle.gs_laws_chunks.specs.accounts.Running.{Setup}
use Rattle.gs_base.specs.declared.numbers.ReqId.{ReqId}
use Rattle.gs_base.specs.declared.numbers.Stamp.{Stamp}
use Rattle.gs_laws_chunk.proofs.lemmas.machine.Facts.{reached_world}
use Rattle.gs_laws_chunk.proofs.lemmas.machine.Known.{IsPrepared, Later}
use Rattle.gs_laws_chunk.proofs.lemmas.machine.Lasting.{agrees}
use Rattle.gs_laws_chunk.proofs.lemmas.machine.Lists.{nil_list, take_within, there}
use Rattle.gs_laws_chunk.proofs.lemmas.machine.Stamps.{epoch_of-start}
use Rattle.gs_laws_chunk.proofs.lemmas.machine.Stays.{settled_stays}
use Rattle.gs_laws_chunk.proofs.lemmas.machine.Worlds.{WorldOk, leads_later}
use Rattle.gs_laws_chunk.specs.machine.Events.{Leads, Rests}
use Rattle.gs_laws_chunk.specs.machine.Laws.{BeginsList, Birth, StandsStill, WasUndone, settled, settled_count, world_of}
use Rattle.gs_laws_chunk.specs.machine.Machine.{ChunkWorld}
use Rattle.gs_laws_chunk.specs.machine.Stamps.{start_of}
use Rattle.gs_laws_chunks.proofs.lemmas.accounts.Viewing.{told_view}
use Rattle.gs_laws_chunks.specs.accounts.Copying.{BeginWith}
use Rattle.gs_laws_chunks.specs.accounts.Joined.{IsSeen, SeenOn}
use Rattle.gs_lease.specs.declared.view.View.{View}
use Rattle.gs_laws_lift.specs.stores.Accounts.{edits_copied}
use Rattle.gs_laws_lift.specs.stores.Copying.{copied_from}
use Rattle.gs_replica.specs.Stands.{Edit}
use Rattle.gs_world.specs.Histories.{History}

-- ---- the machine of a chunk, of which the last view stood

module _ (b : Birth) (w : ChunkWorld) (leads : Leads (world_of b) w) (stood : w.known.stood w.entry.view.stamp ≡ true) where
  first : WorldOk (world_of b)
  first = reached_world (world_of b) (b, Rests)

  ok : WorldOk w
  ok = reached_world w (b, leads)

  later : Later (world_of b).known w.known
  later = leads_later (world_of b) w leads first

  -- no rollback undoes what the chunk was born with
  never_undone : (place : ℕ) → WasUndone w (start_of b.epoch) place → ⊥
  never_undone place u =
      let at : b.epoch ≡ u.e = sym (epoch_of-start b.epoch) ∙ u.is in
      let current = later.current in
      let prepared : IsPrepared w.known u.e = (omega arith, (agrees w ok).how u.e ∙ u.prepare, u.known) in
      let low = (ok.known).early (w.known.prepared u.e) ((ok.known).ready u.e prepared) in
      let born : w.known.born ≡ start_of b.epoch = later.born in
      let after = u.after in
      omega arith

  -- each edit of that stands still, and is settled
  stands : (place : ℕ) (edit : Edit) → slice_get b.origin place ≡ Some edit → StandsStill w (start_of b.epoch) place edit
  stands place edit at = elim ((settled_stays (world_of b) first w leads place edit refl (ap (λ (xs : List Edit). slice_get xs place) (take_all (length b.origin) b.origin (omega arith)) ∙ at)).1 stood) [
    | inl undone ↦ absurd (never_undone place undone)
    | inr still ↦ still
  ]

  settled_from : (n : ℕ) → length b.origin ≡ n → BeginWith (settled w) b.origin
  settled_from zero none = rw none (sym (nil_list b.origin none))
  settled_from (suc n) more =
      let x = there b.origin n (omega arith) in
      let still = stands n x.0 x.1 in
      let many = take_within (w.known.list w.entry.view.stamp) (settled_count w) n x.0 still.counted in
      let length_is : length b.origin ≡ n + 1 = omega arith in
      let list : w.known.list (start_of b.epoch) ≡ b.origin = (later.fixed (start_of b.epoch) (omega arith) refl).1 in
      rw length_is (take-take (n + 1) (settled_count w) (w.known.list w.entry.view.stamp) (omega arith) ∙ still.before ∙ ap (take (n + 1)) list ∙ take_all (n + 1) b.origin (omega arith))

  -- it is settled, all of it, and it stands first
  pub origin_settled : BeginWith (settled w) b.origin
  origin_settled = settled_from (length b.origin) refl

  -- so it begins the list of the view
  pub origin_begins : BeginsList (w.known.list w.entry.view.stamp) b.origin
  origin_begins =
      let n : ℕ = length b.origin in
      let list : List Edit = w.known.list w.entry.view.stamp in
      let past : List Edit = drop (settled_count w) list in (
        drop n (settled w) ++ past,
        sym (take-append-drop (settled_count w) list) ∙ ap (λ (xs : List Edit). xs ++ past) (sym (take-append-drop n (settled w)) ∙ ap (λ (xs : List Edit). xs ++ drop n (settled w)) origin_settled) ∙ append_assoc b.origin (drop n (settled w)) past,
      )

-- ---- the account of it

-- what was copied is what it was born with
pub copied_origin : {D : Type 0} (x : Setup D) (bytes : ReqId → List ℕ) (chunk source : ℕ) (at : Stamp) (now : History D) (a : Account) (s : IsSeen x bytes chunk now a) → copied_from now.sent chunk ≡ Some (source, at) → a.list source at ≡ s.alive.reached.0.origin
copied_origin x bytes chunk source at now a s copied = ap (edits_copied a.list) (sym copied) ∙ s.agrees.lists.origin

-- what is settled in a later world too
pub seen_inherits : {D : Type 0} (x : Setup D) (bytes : ReqId → List ℕ) (chunk source : ℕ) (at : Stamp) (now later : History D) (a b : Account) (view : View) (first : IsSeen x bytes chunk now a) (last : IsSeen x bytes chunk later b) → SeenOn x bytes chunk now a later b first last → copied_from now.sent chunk ≡ Some (source, at) → view_at b chunk ≡ Some view
    → BeginWith (settled_edits b chunk) (a.list source at)
seen_inherits x bytes chunk source at now later a b view first last on copied told =
    let v = told_view x bytes chunk later b last view told in
    let origin : a.list source at ≡ last.alive.reached.0.origin = copied_origin x bytes chunk source at now a first copied ∙ ap (λ (birth : Birth). birth.origin) (sym on.same) in
    subst (λ (edits : List Edit). BeginWith edits (a.list source at)) (sym (ap (settled_in b chunk) told ∙ v.settled))
    (subst (λ (edits : List Edit). BeginWith (settled last.alive.world) edits) (sym origin) (origin_settled last.alive.reached.0 last.alive.world last.alive.reached.1 v.stood))
