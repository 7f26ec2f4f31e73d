-- A survivor names its chunk where it learns of the rollback, and where it is told so again.
use Rattle.std.proofs.Common.{◌≡◌, ◌∙◌, ◌+◌, inl, inr, ℕ, Bool, true, false, cond, List, None, refl, sym, ap, subst, arith}
use Rattle.std.specs.Prelude.{◌==◌, Contains}
use Rattle.std.proofs.lemmas.Bool.Decides.{nat_tests}
use Rattle.std.proofs.lemmas.List.Elements.{Contains-push}
use Rattle.gs_base.specs.declared.epoch.EpochEnd.{EpochEnd}
use Rattle.gs_base.specs.declared.epoch.EpochEnd.TheVariants.{Rollback}
use Rattle.gs_base.specs.declared.numbers.Moment.{Moment}
use Rattle.gs_base.specs.declared.numbers.ReqId.{ReqId}
use Rattle.gs_laws_chunks.specs.accounts.Running.{Setup}
use Rattle.gs_laws_chunk.proofs.lemmas.machine.Facts.{reached_world}
use Rattle.gs_laws_chunk.proofs.lemmas.machine.Worlds.{leads_then}
use Rattle.gs_laws_chunk.specs.machine.Events.{Goes, IsFit, Leads, Rests, TellsEpoch, happens}
use Rattle.gs_laws_chunk.specs.machine.Laws.{Birth, IsSurvivor, IsUpgrading, world_of}
use Rattle.gs_laws_chunk.specs.machine.Machine as machine
use Rattle.gs_laws_chunk.specs.machine.Machine.{Entry, WasTold, ChunkWorld}
use Rattle.gs_laws_parts.proofs.lemmas.master.Stamps.{of_member}
use Rattle.gs_laws_parts.proofs.lemmas.server.Resting.{epochs_known, leads_whole}
use Rattle.gs_laws_parts.proofs.lemmas.server.Beside.{shown_beside}
use Rattle.gs_laws_parts.proofs.lemmas.server.Lists.{any_of}
use Rattle.gs_laws_parts.proofs.lemmas.server.Renaming.{message_steps}
use Rattle.gs_laws_parts.proofs.lemmas.server.Sealing.{survivor_named}
use Rattle.gs_laws_parts.specs.server.Causes.{Calm}
use Rattle.gs_laws_parts.specs.server.Moving.{IsShown, IsSteps}
use Rattle.gs_laws_parts.specs.server.Showing.{Setting, setting_of}
use Rattle.gs_msg.specs.declared.body.Body.TheVariants as bodies
use Rattle.gs_msg.specs.declared.message.Message.{Message}
use Rattle.gs_msg.specs.declared.node.NodeId.TheVariants as nodes
use Rattle.gs_server.specs.Servers.{Server, Step, learn, learned, leases_after, store_of, with_leases, with_store}
use Rattle.gs_store.specs.Stores as stores
use Rattle.gs_store.specs.Stores.{named}
use Rattle.gs_laws_chunks.proofs.lemmas.accounts.Surviving.{both_true, shown_then, still, survivor_there}
use Rattle.gs_laws_chunks.specs.accounts.Sealing.{Names}
use Rattle.gs_laws_chunks.specs.accounts.Seen.{SeenSurvivorsName}

-- ---- what is said where it learns

first_of_two : (b : Bool) (x y : Step) → b ≡ true → cond b x y ≡ x
first_of_two true x y is = refl
first_of_two false x y is = absurd (cc)

second_of_two : (b : Bool) (x y : Step) → b ≡ false → cond b x y ≡ y
second_of_two false x y is = refl
second_of_two true x y is = absurd (cc)

same_number : (a b : ℕ) → a ≡ b → (a == b) ≡ true
same_number a b is = grind (arith, nat_tests)

next_number : (a b : ℕ) → a + 1 ≡ b → (b == a) ≡ false
next_number a b is = grind (arith, nat_tests)

-- a server that goes on to the rollback
abbrev rolled : Server → ℕ → Server
rolled s epoch = with_leases (leases_after Rollback s.dropped.leases) (with_store (stores.learned epoch Rollback (store_of s)) s)

learns_again : (s : Server) (epoch : ℕ) → s.kept.epoch ≡ epoch → learn s epoch Rollback ≡ learned s epoch Rollback s
learns_again s epoch is = first_of_two (epoch == s.kept.epoch) (learned s epoch Rollback s) _ (same_number epoch s.kept.epoch (sym is))

learns_next : (s : Server) (epoch : ℕ) → s.kept.epoch + 1 ≡ epoch → learn s epoch Rollback ≡ learned s epoch Rollback (rolled s epoch)
learns_next s epoch is = second_of_two (epoch == s.kept.epoch) (learned s epoch Rollback s) _ (next_number s.kept.epoch epoch is) ∙ first_of_two (epoch == s.kept.epoch + 1) (learned s epoch Rollback (rolled s epoch)) _ (same_number epoch (s.kept.epoch + 1) (sym is))

names_by : (s after : Server) (epoch chunk : ℕ) → learn s epoch Rollback ≡ learned s epoch Rollback after → Contains (named epoch (store_of after)) chunk → Names s epoch chunk
names_by s after epoch chunk is there = record {
  handles = named epoch (store_of after);
  says = ap (λ (x : Step). x.sent) is;
  named = sym (of_member (named epoch (store_of after)) chunk) ∙ any_of (named epoch (store_of after)) chunk there;
}

-- ---- a survivor

upgrade_as : (e : ℕ) (w v : ChunkWorld) → v.entry ≡ w.entry → IsUpgrading w e → IsUpgrading v e
upgrade_as e w v same up = elim up [
  | inl y ↦ inl (y.0 ∙ ap (λ (n : Entry). n.epoch) (sym same), ap (λ (n : Entry). n.how e) same ∙ y.1)
  | inr y ↦ inr (y.0 ∙ ap (λ (n : Entry). n.epoch) (sym same), ap (λ (n : Entry). n.is_rolling) same ∙ y.1)
]

module _ (bytes : ReqId → List ℕ) (b : Birth) (w : ChunkWorld) (leads : Leads (world_of b) w) (chunk : ℕ) (s : Server) (shown : IsShown (setting_of bytes b.epoch s) chunk w s) (e : ℕ) (up : IsUpgrading w e) (rolling : w.entry.is_rolling ≡ true) (survives : IsSurvivor w s.me) (moment : Moment) where
  abbrev c : Setting
  c = setting_of bytes b.epoch s

  abbrev epoch : ℕ
  epoch = w.entry.epoch

  names_again : s.kept.epoch ≡ epoch → Names s epoch chunk
  names_again is = names_by s s epoch chunk (learns_again s epoch is) (subst (λ n. Contains (named n (store_of s)) chunk) is (survivor_named b w leads c chunk s refl shown.shows e up rolling survives is))

  -- it may be told of the rollback at any time
  abbrev told : ChunkWorld
  told = happens w (TellsEpoch s.me epoch)

  told_leads : Leads w told
  told_leads = Goes w (TellsEpoch s.me epoch) Rests (omega arith)

  to_told : Leads (world_of b) told
  to_told = leads_then (world_of b) w told leads told_leads

  shown_told : IsShown c chunk told s
  shown_told = record {
    reached = shown.reached;
    shows = shown_beside w told (b, leads) told_leads c chunk s refl (λ new whole. absurd (let more = new.1 in let less = new.2 in omega arith)) shown.shows;
    buffers = shown.buffers;
    apart = shown.apart;
    whole = leads_whole told (b, to_told) s.me;
    known = epochs_known told (b, to_told);
  }

  is_rollback : w.entry.how epoch ≡ Rollback
  is_rollback =
      let m = (reached_world w (b, leads)).entry in
      let r = m.rolling rolling in
      let same : epoch ≡ r.e + 1 = (let n = r.next in let at = m.epoch in omega arith) in
      m.how epoch ∙ ap w.known.how same ∙ r.how

  was_told : WasTold told s.me (machine.Epoch epoch Rollback)
  was_told = subst (λ (end : EpochEnd). WasTold told s.me (machine.Epoch epoch end)) is_rollback (Contains-push w.sent (record { server = s.me; body = machine.Epoch epoch (w.entry.how epoch) }))

  abbrev message : Message
  message = record { from = nodes.Master; to = nodes.Server s.me; body = bodies.Epoch epoch Rollback }

  steps : IsSteps Calm c chunk told s.me None (learn s epoch Rollback).after (learn s epoch Rollback).sent
  steps = message_steps bytes b.epoch chunk told s shown_told message moment refl (λ later. was_told) tt

  -- so it has learned of it, and survives
  names_next : s.kept.epoch + 1 ≡ epoch → Names s epoch chunk
  names_next is =
      let v : ChunkWorld = steps.world in
      let after : Server = (learn s epoch Rollback).after in
      let same : after ≡ rolled s epoch = ap (λ (x : Step). x.after) (learns_next s epoch is) in
      let entry : v.entry ≡ w.entry = steps.entry in
      let here : after.kept.epoch ≡ epoch = ap (λ (x : Server). x.kept.epoch) same in
      let stays : IsSurvivor v s.me = record {
        known = ap (λ (n : Entry). n.was_known) entry ∙ survives.known;
        fit = subst (λ (n : Entry). IsFit n s.me) (sym entry) survives.fit;
        intact = steps.intact (inl refl) survives.intact;
      } in
      names_by s (rolled s epoch) epoch chunk (learns_next s epoch is)
      (subst (λ n. Contains (named n (store_of (rolled s epoch))) chunk) here
      (subst (λ (x : Server). Contains (named after.kept.epoch (store_of x)) chunk) same
      (survivor_named b v (leads_then (world_of b) told v to_told steps.leads) c chunk after refl steps.shows e (upgrade_as e w v entry up) (ap (λ (n : Entry). n.is_rolling) entry ∙ rolling) (subst (IsSurvivor v) (sym steps.same.0) stays) (here ∙ ap (λ (n : Entry). n.epoch) (sym entry)))))

pub seen_survivors_name : {D : Type 0} (x : Setup D) (bytes : ReqId → List ℕ) → SeenSurvivorsName x bytes
seen_survivors_name x bytes prepared now before after chunk id s k rolling survives at where_it_is =
    let listed = (both_true _ _ survives.current).0 in
    let w : ChunkWorld = k.last.alive.world in
    let b = k.last.alive.reached.0 in
    let leads = k.last.alive.reached.1 in
    let told : w.entry.epoch ≡ after.durable.epoch = k.last.told.epoch in
    let shown = shown_then x bytes chunk prepared before now after k listed id s at survives in
    let survivor = survivor_there x bytes chunk prepared before now after k listed id s at survives in
    let up = still x bytes chunk prepared before now after k in
    let rolls : w.entry.is_rolling ≡ true = k.last.told.rolling ∙ rolling in
    subst (λ n. Names s n chunk) told (elim where_it_is [
      | inl here ↦ names_again bytes b w leads chunk s shown before.durable.epoch up rolls survivor (record { 0 = 0 }) (here ∙ sym told)
      | inr next ↦ names_next bytes b w leads chunk s shown before.durable.epoch up rolls survivor (record { 0 = 0 }) (next ∙ sym told)
    ])
