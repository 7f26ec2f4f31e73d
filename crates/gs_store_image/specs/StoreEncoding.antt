-- How slots and stores are written.
use Rattle.std.specs.Prelude.{◌≡◌, ℕ, List, [], ◌∷◌, ◌++◌, refl}
use Rattle.std.specs.FinMap as fin
use Rattle.std.specs.Ordering.{nat_cmp}
use Rattle.gs_fields.specs.Encoding.{number, long_list, flag, option, stamp}
use Rattle.gs_store.specs.Slots.{Live, Slot, nothing}
use Rattle.gs_store.specs.Stores.{Store}
use Rattle.gs_store_image.specs.Encoding.{replica}

-- a live replica, and the block that marks it as bad, if one does
abbrev pub live : Live → List ℕ
live l = replica l.replica ++ option number l.bad

abbrev pub slot_rest : Slot → List ℕ
slot_rest s = option replica s.trash ++ option stamp s.taken

abbrev pub slot_replicas : Slot → List ℕ
slot_replicas s = option live s.live ++ slot_rest s

abbrev pub slot_carried : Slot → List ℕ
slot_carried s = flag s.carried ++ slot_replicas s

-- promise, whether a copy of it carried a sealed image, live replica, trash, the stamp of the lease that was taken last
abbrev pub slot : Slot → List ℕ
slot s = stamp s.promise ++ slot_carried s

-- a handle, and what is kept of it
abbrev pub kept : ℕ × Slot → List ℕ
kept e = number e.0 ++ slot e.1

abbrev pub slots : fin.FinMap nat_cmp Slot → List ℕ
slots m = long_list kept (fin.entries m)

-- the epoch, and what is kept of each handle, the handles rising
abbrev pub store : Store → List ℕ
store s = number s.epoch ++ slots s.slots

-- ---- examples

nothing_was_heard : slot nothing ≡ 0 ∷ 0 ∷ 0 ∷ 0 ∷ 0 ∷ 0 ∷ 0 ∷ 0 ∷ 0 ∷ 0 ∷ 0 ∷ 0 ∷ 0 ∷ 0 ∷ 0 ∷ 0 ∷ 0 ∷ 0 ∷ 0 ∷ 0 ∷ []
nothing_was_heard = refl
