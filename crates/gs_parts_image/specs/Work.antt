-- What writing and reading of parts answer.
use Rattle.std.specs.Prelude.{◌≡◌, ℕ, List, map, ◌++◌, Option, Some, Result, Ok, Err, Vec}
use Rattle.std.specs.Borrow.{Bor}
use Rattle.std.specs.declared.alloc.Global.{Global}
use Rattle.gs_fields.specs.Work.{Fails, Unput}
use Rattle.gs_fields.specs.declared.fault.Fault.{Fault}
use Rattle.gs_parts_image.specs.Stores.{Store, head_of, store_with}
use Rattle.gs_parts_image.specs.declared.store.FoundStore.{FoundStore}

abbrev pub bytes_of : List (Vec ℕ Global) → List (List ℕ)
bytes_of parts = map (λ part. part.items) parts

-- the bytes that slices point to
abbrev pub pointed : List (Bor (List ℕ)) → List (List ℕ)
pointed parts = map (λ part. part.now) parts

-- the parts, or what they tell of can't be written
abbrev pub MakesParts : Type 0 → List (List ℕ) → Result (Vec (Vec ℕ Global) Global) Fault → Type 0
MakesParts Is parts (Ok made) = Is × (bytes_of made.items ≡ parts)
MakesParts Is parts (Err e) = Unput Is e

-- as Puts of gs_fields, for parts
abbrev pub PutsParts : Type 0 → List (List ℕ) → List (List ℕ) → List (List ℕ) → Result (Unit {0}) Fault → Type 0
PutsParts Is parts old new (Ok _) = Is × (new ≡ old ++ parts)
PutsParts Is parts old new (Err e) = Unput Is e

-- what was read, seen by a view, is what reading gives, unless memory ran out
abbrev pub FindsAs : {X Y : Type 0} → (X → Y) → Result X Fault → Option Y → Type 0
FindsAs view (Ok x) read = read ≡ Some (view x)
FindsAs view (Err e) read = Fails e read

abbrev pub found : FoundStore → Store
found f = store_with (head_of f.head) f.first.now f.second.now f.servers.items
