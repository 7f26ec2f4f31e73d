-- That a master whose disks are given a fault is what its journal tells still.
use Rattle.std.proofs.Common.{◌≡◌, ◌∙◌, List, ℕ, refl}
use Rattle.gs_journal.specs.Faults.{Failing, armed}
use Rattle.gs_journal.specs.Journal.{State as Journal, Stands}
use Rattle.gs_journal.specs.declared.fault.Fault.{Fault as DiskFault}
use Rattle.gs_master.specs.Journaled.{IsLogOf}
use Rattle.gs_master.specs.Masters.{Holds, IsHeld, IsTold}
use Rattle.gs_master_spec.specs.Durable.{Durable}
use Rattle.gs_master_spec.specs.State.{Fault, Sound, Failed, Unopened, Log, State}

-- where nothing that is told of a journal is another
module _ {D : Type 0} (seen : D → List ℕ) (may_leave : D → List ℕ → Type 0) (j k : Journal D) (stands : Stands seen may_leave j → Stands seen may_leave k) (text : k.text ≡ j.text) (closed : k.is_failed ≡ j.is_failed)
    (log : (l : Log) → IsLogOf l j → IsLogOf l k) where
  told_still : (d : Durable) → IsTold d j → IsTold d k
  told_still d told = record {
    first = told.first;
    base = told.base;
    entries = told.entries;
    begins = told.begins;
    text = text ∙ told.text;
    are_entries = told.are_entries;
    replays = told.replays;
  }

  holds_still : (d : Durable) (l : Log) (f : Fault) → Holds seen may_leave d l j f → Holds seen may_leave d l k f
  holds_still d l Sound (s, (of, told)) = (stands s, (log l of, told_still d told))
  holds_still d l (Failed doubt) (is, (found, (leaves, told))) = (closed ∙ is, (found, (leaves, told_still found told)))
  holds_still d l (Unopened doubt) is = closed ∙ is

  pub held_still : (s : State) → IsHeld seen may_leave s j → IsHeld seen may_leave s k
  held_still s held = holds_still s.durable s.log s.fault held

-- ---- a journal over disks of which calls fail

module _ {D : Type 0} (seen : D → List ℕ) (may_leave : D → List ℕ → Type 0) (s : State) (j : Journal (Failing D)) (fault : DiskFault) where
  abbrev first_armed : Journal (Failing D)
  first_armed = record j { first = armed j.first fault }

  abbrev second_armed : Journal (Failing D)
  second_armed = record j { second = armed j.second fault }

  abbrev Held : Journal (Failing D) → Type 0
  Held k = IsHeld (λ (f : Failing D). seen f.disk) (λ (f : Failing D). may_leave f.disk) s k

  pub first_held : Held j → Held first_armed
  first_held held = held_still (λ (f : Failing D). seen f.disk) (λ (f : Failing D). may_leave f.disk) j first_armed
      (λ h. record { is_open = h.is_open; text = h.text; size = h.size; generation = h.generation; whole = h.whole; lasts = h.lasts }) refl refl
      (λ l h. record { is_open = h.is_open; size = h.size; limit = h.limit; generation = h.generation }) s held

  pub second_held : Held j → Held second_armed
  second_held held = held_still (λ (f : Failing D). seen f.disk) (λ (f : Failing D). may_leave f.disk) j second_armed
      (λ h. record { is_open = h.is_open; text = h.text; size = h.size; generation = h.generation; whole = h.whole; lasts = h.lasts }) refl refl
      (λ l h. record { is_open = h.is_open; size = h.size; limit = h.limit; generation = h.generation }) s held
