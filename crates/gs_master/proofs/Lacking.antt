-- That an event which says that memory was wanting is otherwise what it was.
use Rattle.std.proofs.Common.{◌≡◌, ap, sym}
use Rattle.std.specs.Prelude.{Option, Some, None}
use Rattle.gs_base.specs.declared.refusal.Refusal.{Refusal}
use Rattle.gs_base.specs.declared.refusal.Refusal.TheVariants as refusals
use Rattle.gs_master.specs.inner.Events.{HasComeFrom, KeepsBack}
use Rattle.gs_master.specs.Ticking.{lacking}
use Rattle.gs_master_spec.specs.Durable.{Durable}
use Rattle.gs_master_spec.specs.State.{Log, Turn, first_said}
use Rattle.gs_master.specs.inner.Turns.{GoesBack, IsTurned}
use Rattle.gs_master.specs.declared.event.Event.{Event}

-- the same event, which says something else
abbrev pub saying : Option Refusal → Event → Event
saying said e = record e { said = said }

has_come : (said : Option Refusal) (before : Durable) (first : Log) (e : Event) → HasComeFrom before first e → HasComeFrom before first (saying said e)
has_come said before first e h = record { leads = h.leads; written = h.written; log = h.log; room = h.room }

keeps : (said : Option Refusal) (begun e : Event) → KeepsBack begun e → KeepsBack begun (saying said e)
keeps said begun e k =
    record { back = k.back; leases = k.leases; memory = k.memory; from = λ before first from. has_come said before first e (k.from before first from) }

pub goes_back : (said : Option Refusal) (begun e : Event) → GoesBack begun e → GoesBack begun (saying said e)
goes_back said begun e b =
    record { keeps = keeps said begun e b.keeps; ready = record { room = b.ready.room; counted = b.ready.counted }; fault = b.fault; sent = b.sent }

nothing_said : (said : Option Refusal) → said ≡ None → Some refusals.Memory ≡ first_said said (Some refusals.Memory)
nothing_said said none = ap (λ s. first_said s (Some refusals.Memory)) (sym none)

pub lacks : (steps : Turn) (begun e : Event) → begun.said ≡ None → IsTurned steps begun e → IsTurned (lacking steps) begun (saying (Some refusals.Memory) e)
lacks steps begun e none t =
    record {
      after = t.after;
      replays = t.replays;
      are_entries = t.are_entries;
      room = t.room;
      log = t.log;
      entries = t.entries;
      sent = t.sent;
      said = nothing_said begun.said none;
    }
