-- What an event goes back to where it finds no room, and does something else then.
use Rattle.std.specs.Prelude.{◌≡◌, [], None, take, length}
use Rattle.std.specs.Ordering.{nat_cmp}
use Rattle.gs_base_table.specs.Slots.{live}
use Rattle.gs_master_spec.specs.Durable.{Durable}
use Rattle.gs_master_state.specs.inner.Recorded.{durable_of}
use Rattle.gs_master_state.specs.inner.TakingBack.{TakeBack, all_leases_before}
use Rattle.gs_master.specs.inner.Turns.{state_at}
use Rattle.gs_master.specs.declared.event.Event.{Event}
use Rattle.gs_master.specs.declared.event.Beginning.{Beginning}

-- an event that has done nothing yet, but perhaps has messages to send
pub record IsBegun (e : Event) : Type 0 where
  pub undos : e.undos.items ≡ []
  pub entries : e.entries.items ≡ []
  pub written : e.written.items ≡ []
  pub memory : e.memory.before ≡ e.memory.now
  pub said : e.said ≡ None

-- where an event began
pub record BeginsAt (b : Beginning) (e : Event) : Type 0 where
  pub log : b.log ≡ e.log
  pub sent : b.sent ≡ length e.sent.items

-- all that was done since is taken back
pub record StartsOver (b : Beginning) (old new : Event) : Type 0 where
  pub value : (before : Durable) → TakeBack old.undos.items before (durable_of old.recorded) → durable_of new.recorded ≡ before
  pub leases : live nat_cmp new.recorded.leases ≡ all_leases_before old.undos.items (live nat_cmp old.recorded.leases)
  pub now : new.memory.now ≡ old.memory.before
  pub before : new.memory.before ≡ old.memory.before
  pub sent : new.sent.items ≡ take b.sent old.sent.items
  pub begun : IsBegun new
  pub log : new.log ≡ b.log
  pub fault : new.fault ≡ old.fault

-- all is as it was there
pub record IsBackAt (old new : Event) : Type 0 where
  pub state : state_at new ≡ state_at old
  pub leases : live nat_cmp new.recorded.leases ≡ live nat_cmp old.recorded.leases
  pub sent : new.sent.items ≡ old.sent.items
  pub before : new.memory.before ≡ old.memory.before
  pub fault : new.fault ≡ old.fault
  pub log : new.log ≡ old.log
