-- What is read of the image of a store, and whose image is read.
use Rattle.std.proofs.Common.{◌≡◌, ◌≢◌, ◌∙◌, ℕ, List, Option, Some, None, Result, Ok, Err, refl, sym, ap, subst}
use Rattle.std.specs.List.{AllByRecursion}
use Rattle.gs_base.specs.declared.config.Config.{Config}
use Rattle.gs_desk_image.specs.Desks.{image_of, store_of}
use Rattle.gs_fields.specs.Laws.{IsBytes}
use Rattle.gs_image.specs.Images.{AreParts, written}
use Rattle.gs_image.specs.Promises.{ImagesTellParts, RefusedBytesAreNoImage}
use Rattle.gs_journal.specs.declared.memory.MemoryDisk.{MemoryDisk}
use Rattle.gs_keep_image.specs.Images.{IsImageWith, Loads, Tells, digest_of}
use Rattle.gs_keep_image.specs.Promises.{Gives}
use Rattle.gs_keep_image.specs.declared.fault.LoadFault.{LoadFault}
use Rattle.gs_keep_image.specs.declared.fault.LoadFault.TheVariants as fault
use Rattle.gs_parts_image.proofs.Stores.{store_again}
use Rattle.gs_parts_image.specs.Encoding.{parts}
use Rattle.gs_parts_image.specs.Reading.{store_in}
use Rattle.gs_parts_image.specs.Stores.{Store}
use Rattle.gs_parts_image.specs.Writable.{IsStore}
use Rattle.gs_shell_desk.specs.declared.desk.Desk.{Desk}

one_store : (a b : Store) → Some a ≡ Some b → a ≡ b
one_store a b same = cc

no_store : (a : Store) → Some a ≢ None
no_store a same = absurd (cc)

-- the parts of bytes are those of which they were written
are_same : ImagesTellParts → (Holds : List (List ℕ) → Type 0) (d : Desk MemoryDisk) → AreParts (image_of d) → (h : IsImageWith Holds (written (image_of d))) → h.parts ≡ image_of d
are_same tell Holds d are h = tell h.parts (image_of d) h.are are (sym h.stand)

again : (d : Desk MemoryDisk) (ps : List (List ℕ)) → IsStore (store_of d) → ps ≡ image_of d → store_in ps ≡ Some (store_of d)
again d ps is same = ap store_in same ∙ store_again (store_of d) is

pub loaded : ImagesTellParts → RefusedBytesAreNoImage → (d : Desk MemoryDisk) (result : Result (Desk MemoryDisk) LoadFault) → IsStore (store_of d) → AreParts (image_of d)
    → Loads d.wire.nodes.config (digest_of (image_of d)) (written (image_of d)) result → Gives d result
loaded tell none d (Ok e) is are h =
    let same = are_same tell _ d are h in
    (one_store (store_of e) (store_of d) (sym h.holds.read ∙ again d h.parts is same), h.holds.rests)
loaded tell none d (Err fault.Memory) is are h = refl
loaded tell none d (Err (fault.Frame f)) is are h = absurd (none f (written (image_of d)) h.0 h.1 (image_of d) are refl)
loaded tell none d (Err fault.Other) is are h = absurd (h.holds (ap digest_of (sym (are_same tell _ d are h))))
loaded tell none d (Err fault.Form) is are h = absurd (no_store (store_of d) (sym (again d h.parts is (are_same tell _ d are h)) ∙ h.holds))
loaded tell none d (Err fault.Sizes) is are h = absurd (h.holds (store_of d) (again d h.parts is (are_same tell _ d are h)) refl)

-- What is read of parts at all is told by them.
abbrev Takes : Type 0
Takes = (ps : List (List ℕ)) (s : Store) → AllByRecursion IsBytes ps → store_in ps ≡ Some s → IsStore s × (parts s ≡ ps)

pub told : Takes → (config : Config) (sum : List ℕ) (d : Desk MemoryDisk) (ps : List (List ℕ)) → AllByRecursion IsBytes ps → Tells config sum d ps
    → (image_of d ≡ ps) × ((sum ≡ digest_of (image_of d)) × (d.wire.nodes.config ≡ config))
told takes config sum d ps bytes h =
    let same : image_of d ≡ ps = (takes ps (store_of d) bytes h.read).1 in
    (same, (h.names ∙ ap digest_of (sym same), h.sizes))
