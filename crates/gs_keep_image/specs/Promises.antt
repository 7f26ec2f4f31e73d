-- What the definitions promise, of each image.
use Rattle.std.specs.Prelude.{◌≡◌, ℕ, List, Result, Ok, Err}
use Rattle.std.specs.List.{AllByRecursion}
use Rattle.gs_base.specs.declared.config.Config.{Config}
use Rattle.gs_desk_image.specs.Desks.{Rests, image_of, store_of}
use Rattle.gs_fields.specs.Laws.{IsBytes}
use Rattle.gs_image.specs.Images.{AreParts, written}
use Rattle.gs_journal.specs.declared.memory.MemoryDisk.{MemoryDisk}
use Rattle.gs_keep_image.specs.Images.{Loads, Tells, digest_of}
use Rattle.gs_keep_image.specs.declared.fault.LoadFault.{LoadFault}
use Rattle.gs_keep_image.specs.declared.fault.LoadFault.TheVariants as fault
use Rattle.gs_parts_image.specs.Writable.{IsStore}
use Rattle.gs_shell_desk.specs.declared.desk.Desk.{Desk}

-- the same store was read, and it rests; or memory ran out
abbrev pub Gives : Desk MemoryDisk → Result (Desk MemoryDisk) LoadFault → Type 0
Gives d (Ok e) = (store_of e ≡ store_of d) × Rests e
Gives d (Err f) = f ≡ fault.Memory

abbrev pub WhatWasTakenIsLoaded : Type 0
WhatWasTakenIsLoaded =
    (d : Desk MemoryDisk) (result : Result (Desk MemoryDisk) LoadFault) → IsStore (store_of d) → AreParts (image_of d)
    → Loads d.wire.nodes.config (digest_of (image_of d)) (written (image_of d)) result → Gives d result

-- the bytes are the image of what was read
abbrev pub WhatIsLoadedIsTheImage : Type 0
WhatIsLoadedIsTheImage =
    (config : Config) (sum : List ℕ) (d : Desk MemoryDisk) (parts : List (List ℕ)) → AllByRecursion IsBytes parts → Tells config sum d parts
    → (image_of d ≡ parts) × ((sum ≡ digest_of (image_of d)) × (d.wire.nodes.config ≡ config))
