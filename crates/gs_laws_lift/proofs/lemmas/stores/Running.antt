-- All chunks of a store at once, over many steps, and from the beginning of a store.
use Rattle.std.proofs.Common.{◌≡◌, ◌∙◌, ℕ, Bool, List, [], ◌∷◌, Option, Some, refl, sym, ap, subst, inl, inr}
use Rattle.gs_base.specs.declared.config.Config.{Config}
use Rattle.gs_base.specs.declared.numbers.ReqId.{ReqId}
use Rattle.gs_msg.specs.declared.event.DiskId.{DiskId}
use Rattle.gs_msg.specs.declared.message.Message.{Message}
use Rattle.gs_nodes.specs.declared.place.MasterPlace.{MasterPlace}
use Rattle.gs_world.specs.Histories.{History}
use Rattle.gs_laws_world.specs.lasting.Lasting.{RunsSoundly}
use Rattle.gs_world.specs.Runs.{StaySent, Step}
use Rattle.gs_world.specs.Sent.{Sent, message_of}
use Rattle.gs_world.proofs.Reaching.{HaveSizes}
use Rattle.gs_world.proofs.Sending.{chained, step_stays}
use Rattle.gs_laws_chunk.specs.machine.Events as events
use Rattle.gs_laws_parts.proofs.lemmas.master.Sending.{leads_on}
use Rattle.gs_laws_lift.specs.stores.Among.{AllAmong}
use Rattle.gs_laws_lift.specs.stores.Going.{AllSent, heard_in}
use Rattle.gs_laws_lift.specs.stores.Living.{GoesOn, LeadsOn, StoreLeads}
use Rattle.gs_laws_lift.specs.stores.Running.{AreHeld, EachLives, StoresBegin, StoresRun}
use Rattle.gs_laws_lift.specs.stores.Showing.{Life}
use Rattle.gs_laws_lift.specs.stores.Saying.{PushRight}
use Rattle.gs_laws_lift.proofs.lemmas.stores.Beginning.{begins_kept, begins_lasting, begins_lives, begins_tells_no_copy, begins_texts}
use Rattle.gs_laws_lift.proofs.lemmas.stores.Stepping.{stores_go_on}

module _ {D : Type 0} (seen : D → List ℕ) (failures : D → ℕ) (armed : DiskId → ℕ → MasterPlace D → MasterPlace D) where
  still : (old new : Sent) → new ≡ old → StaySent old new
  still old new same id message stands = subst (λ s. message_of s id ≡ Some message) (sym same) stands

  -- what was sent stays so
  pub sound_stays : (steps : List Step) (old new : History D) → RunsSoundly seen failures armed steps old new → StaySent old.sent new.sent
  sound_stays [] old new same = still old.sent new.sent (ap (λ (h : History D). h.sent) same)
  sound_stays (step ∷ steps) old new (mid, goes, named, quiet, rest) = chained old.sent mid.sent new.sent (step_stays seen failures armed step old mid goes) (sound_stays steps mid new rest)

  pub before : (P : Message → Type 0) (old new : Sent) → StaySent old new → AllSent P new → AllSent P old
  before P old new stay all id message is = all id message (stay id message is)

module _ {D : Type 0} (seen : D → List ℕ) (config : Config) (bytes : ReqId → List ℕ) where
  -- nothing happens
  pub leads_still : (chunk : ℕ) (h : History D) (life : Life seen config bytes chunk h) → LeadsOn seen config bytes chunk h h life life
  leads_still chunk h (inl unborn) = tt
  leads_still chunk h (inr a) = (refl, events.Rests)

  -- a step, and others behind it
  pub leads_more : (chunk : ℕ) (step : Step) (about : Option ℕ) (old mid new : History D) (l : Life seen config bytes chunk old) (m : Life seen config bytes chunk mid) (n : Life seen config bytes chunk new) → GoesOn seen config bytes chunk step about old mid l m → LeadsOn seen config bytes chunk mid new m n
      → LeadsOn seen config bytes chunk old new l n
  leads_more chunk step about old mid new (inl l) m n goes leads = tt
  leads_more chunk step about old mid new (inr l) (inl m) n goes leads = absurd goes
  leads_more chunk step about old mid new (inr l) (inr m) (inl n) goes leads = absurd leads
  leads_more chunk step about old mid new (inr l) (inr m) (inr n) goes leads = (leads.0 ∙ goes.same, leads_on l.world m.world n.world goes.leads leads.1)

module _ {D : Type 0} (seen : D → List ℕ) (failures : D → ℕ) (armed : DiskId → ℕ → MasterPlace D → MasterPlace D) (config : Config) (bytes : ReqId → List ℕ) (among : List ℕ → Bool) where
  pub held_first : (chunk : ℕ) (steps : List Step) (mid new : History D) (runs : RunsSoundly seen failures armed steps mid new) → AreHeld seen failures armed config among chunk steps mid new runs → AllAmong among config.block chunk mid.nodes.servers
  held_first chunk [] mid new same held = held
  held_first chunk (step ∷ steps) mid new runs held = held.0

  pub stores_run : StoresRun seen failures armed config bytes among
  stores_run arming lasting unknown apart empty [] old new lives same held right =
      subst (λ h. StoreLeads seen config bytes among old h lives) (sym same) (record { last = lives; leads = λ chunk. leads_still seen config bytes chunk old (lives.life chunk) })
  stores_run arming lasting unknown apart empty (step ∷ steps) old new lives (mid, goes, named, quiet, rest) held right =
      let stays : StaySent mid.sent new.sent = sound_stays seen failures armed steps mid new rest in
      let one =
      stores_go_on seen failures armed config bytes among arming lasting unknown apart empty step old mid lives goes named quiet (λ chunk. held_first chunk steps mid new rest (held chunk).1)
      (before seen failures armed (PushRight bytes) mid.sent new.sent stays right) in
      let more = stores_run arming lasting unknown apart empty steps mid new one.last rest (λ chunk. (held chunk).1) right in
      record { last = more.last; leads = λ chunk. leads_more seen config bytes chunk step (heard_in seen failures armed one.kind) old mid new (lives.life chunk) (one.last.life chunk) (more.last.life chunk) (one.goes chunk) (more.leads chunk) }

  -- ---- from the beginning

  pub stores_begin : HaveSizes → StoresBegin seen failures armed config bytes among
  stores_begin sizes clients disks begun none begins held right = record {
    keeps = begins_kept seen failures armed sizes config bytes clients disks begun none begins;
    lasts = begins_lasting seen failures armed sizes config bytes clients disks begun none begins;
    pushes = right;
    held = held;
    life = begins_lives seen failures armed sizes config bytes clients disks begun none begins;
    copies = begins_tells_no_copy seen failures armed sizes config bytes clients disks begun none begins (begins_lives seen failures armed sizes config bytes clients disks begun none begins);
    texts = begins_texts seen failures armed sizes config bytes clients disks begun none begins among;
  }

  pub each_lives : HaveSizes → EachLives seen failures armed config bytes among
  each_lives sizes arming lasting unknown apart empty clients disks steps begun now none begins runs held right =
      let first =
      stores_begin sizes clients disks begun none begins (λ chunk. held_first chunk steps begun now runs (held chunk))
      (before seen failures armed (PushRight bytes) begun.sent now.sent (sound_stays seen failures armed steps begun now runs) right) in
      (stores_run arming lasting unknown apart empty steps begun now first runs held right).last
