-- What is durable at the master, or told by its disks where they wait: it is one, and it is what is shown.
use Rattle.std.proofs.Common.{◌≡◌, ◌∙◌, ◌≤◌, ℕ, List, [], ◌∷◌, map, Some, refl, sym, ap, subst}
use Rattle.std.specs.List.{AllByRecursion}
use Rattle.gs_journal.specs.Records.{Text, standing}
use Rattle.gs_journal.specs.declared.version.Version.TheVariants.{Two}
use Rattle.gs_master_record.specs.Encoding.{encoded}
use Rattle.gs_master_record.specs.Plain.{PlainEntry}
use Rattle.gs_master_record.specs.Writable.{IsEntry}
use Rattle.gs_master_record.proofs.Whole.{one_entry}
use Rattle.gs_master_spec.specs.Applied.{replayed}
use Rattle.gs_master_spec.specs.Durable.{Durable, start}
use Rattle.gs_laws_parts.specs.master.Unborn.{IsUngiven}
use Rattle.gs_nodes.specs.declared.place.MasterPlace.{MasterPlace}
use Rattle.gs_nodes.specs.declared.place.MasterPlace.TheVariants.{Standing, Closed, Away}
use Rattle.gs_laws_world.specs.lasting.Lasting.{IsToldIn, Lasts}
use Rattle.gs_laws_master.specs.Promises.{IsKept}
use Rattle.gs_laws_chunk.specs.machine.Machine.{ChunkWorld}
use Rattle.gs_laws_parts.specs.master.Showing.{ShowsDurable}
use Rattle.gs_laws_lift.specs.stores.Doing.{HasDurable}
use Rattle.gs_laws_lift.specs.stores.Showing.{ShowsMaster}
use Rattle.gs_laws_lift.specs.stores.Unborn.{IsUnknown}

some_is : {A : Type 0} (x y : A) → Some x ≡ Some y → x ≡ y
some_is x y is = cc

cons_is : {A : Type 0} (x y : A) (xs ys : List A) → x ∷ xs ≡ y ∷ ys → (x ≡ y) × (xs ≡ ys)
cons_is x y xs ys is = ((cc), (cc))

entries_same : (xs ys : List PlainEntry) → AllByRecursion (IsEntry Two) xs → AllByRecursion (IsEntry Two) ys → map (encoded Two) xs ≡ map (encoded Two) ys → xs ≡ ys
entries_same [] [] p q same = refl
entries_same [] (y ∷ ys) p q same = absurd (cc)
entries_same (x ∷ xs) [] p q same = absurd (cc)
entries_same (x ∷ xs) (y ∷ ys) p q same =
    let parts = cons_is (encoded Two x) (encoded Two y) (map (encoded Two) xs) (map (encoded Two) ys) same in
    let first = one_entry Two x y p.0 q.0 parts.0 in
    let rest = entries_same xs ys p.1 q.1 parts.1 in λ i. first i ∷ rest i

-- a text tells one
pub told_once : (text : Text) (d e : Durable) → IsToldIn text d → IsToldIn text e → d ≡ e
told_once text d e t u =
    let same = entries_same t.entries u.entries t.are_entries u.are_entries (ap (λ (x : Text). x.1) (sym t.records ∙ u.records)) in
    some_is d e (sym t.replays ∙ ap (replayed start) same ∙ u.replays)

module _ {D : Type 0} (seen : D → List ℕ) where
  -- it is what is shown
  pub durable_shown : (chunk : ℕ) (w : ChunkWorld) (place : MasterPlace D) (d : Durable) → HasDurable seen place d → ShowsMaster seen chunk place w → ShowsDurable chunk d w.entry
  durable_shown chunk w (Standing m) d has shows = subst (λ x. ShowsDurable chunk x w.entry) has shows.entry.durable
  durable_shown chunk w (Closed first second) d has shows = subst (λ x. ShowsDurable chunk x w.entry) (told_once (standing (seen first) (seen second)) shows.durable d shows.told has) shows.shows
  durable_shown chunk w Away d has shows = absurd has

  -- a master can have it
  pub kept_there : (place : MasterPlace D) (d : Durable) → Lasts seen place → HasDurable seen place d → IsKept d
  kept_there (Standing m) d lasts has = subst IsKept has lasts.firm.stands.kept
  kept_there (Closed first second) d lasts has = subst IsKept (told_once (standing (seen first) (seen second)) lasts.durable d lasts.told has) lasts.kept
  kept_there Away d lasts has = absurd has

  -- and where a chunk isn't known, it gives no such handle
  pub unknown_on : (chunk epoch : ℕ) (place : MasterPlace D) (d : Durable) → HasDurable seen place d → IsUnknown seen chunk epoch place → IsUngiven chunk d × (epoch ≤ d.epoch)
  unknown_on chunk epoch (Standing m) d has unknown = subst (λ (x : Durable). IsUngiven chunk x × (epoch ≤ x.epoch)) has (unknown.0.ungiven, unknown.1)
  unknown_on chunk epoch (Closed first second) d has unknown =
      subst (λ (x : Durable). IsUngiven chunk x × (epoch ≤ x.epoch)) (told_once (standing (seen first) (seen second)) unknown.durable d unknown.told has) (unknown.ungiven, unknown.later)
  unknown_on chunk epoch Away d has unknown = absurd has

  -- as long as no disk fails there is one
  pub has_durable : (place : MasterPlace D) → Lasts seen place → (d : Durable) × HasDurable seen place d
  has_durable (Standing m) lasts = (m.state.durable, refl)
  has_durable (Closed first second) lasts = (lasts.durable, lasts.told)
  has_durable Away lasts = absurd lasts
