-- A member of the settled view that is whole at a prepare is marked.
use Rattle.std.proofs.Common.{◌≡◌, ◌∙◌, ◌+◌, ◌-◌, ◌<◌, ◌&&◌, ◌||◌, ◌==◌, ℕ, zero, suc, Bool, true, false, List, [], ◌∷◌, length, Option, Some, None, refl, ap, slice_get, arith}
use Rattle.std.specs.Prelude.{is_none, is_some}
use Rattle.std.proofs.lemmas.Bool.{false≢true}
use Rattle.std.proofs.lemmas.Bool.Decides.{nat_tests}
use Rattle.gs_base.specs.declared.config.Config.{Config}
use Rattle.gs_base.specs.declared.epoch.EpochEnd.{EpochEnd}
use Rattle.gs_base.specs.declared.epoch.EpochEnd.TheVariants as ends
use Rattle.gs_base.specs.declared.numbers.ReqId.{ReqId}
use Rattle.gs_laws_master.specs.Promises.{IsKept}
use Rattle.gs_master_record.specs.declared.checkpoint.Phase.{Phase}
use Rattle.gs_master_record.specs.declared.checkpoint.Phase.TheVariants as phases
use Rattle.gs_server.specs.Runs.{slot_in}
use Rattle.gs_server.specs.Servers.{Server, place_of}
use Rattle.gs_master_spec.specs.Durable.{Durable, is_rolling, is_upgrade}
use Rattle.gs_master_spec.specs.Whole.{alternate, is_phase_behind}
use Rattle.gs_store.specs.Learning.{is_sound}
use Rattle.gs_store.specs.Slots.{Live, sealed_of}
use Rattle.gs_laws_chunk.specs.machine.Machine.{Member, ChunkWorld}
use Rattle.gs_laws_chunk.specs.machine.Events.{Leads, marked}
use Rattle.gs_laws_chunk.specs.machine.Laws.{IsReached, is_member}
use Rattle.gs_laws_chunk.proofs.lemmas.machine.Facts.{reached_world}
use Rattle.gs_laws_chunk.proofs.lemmas.machine.Resting.{members_learned, none_ahead}
use Rattle.gs_laws_parts.specs.server.Harm.{is_whole}
use Rattle.gs_laws_parts.specs.server.Showing.{ShowsPlace}
use Rattle.gs_laws_parts.proofs.lemmas.server.Harm.{sound_undamaged}
use Rattle.gs_laws_parts.proofs.lemmas.server.Leasing.{shown_late}
use Rattle.gs_laws_parts.specs.master.Showing.{ShowsDurable}
use Rattle.gs_laws_parts.specs.master.Telling.{Marks}
use Rattle.gs_laws_lift.specs.stores.Showing.{is_live_whole, is_no_rollback, is_over, is_seal_whole, is_whole_there, setting, whole_in}
use Rattle.gs_laws_lift.proofs.lemmas.stores.Machines.{how_is, reached_then}
use Rattle.gs_laws_lift.proofs.lemmas.stores.Mastering.{both}

there : {X : Type 0} (xs : List X) (n : ℕ) → n < length xs → (x : X) × (slice_get xs n ≡ Some x)
there [] n less = absurd (omega arith)
there (x ∷ xs) zero less = (x, refl)
there (x ∷ xs) (suc n) less = there xs n (omega arith)

same_number : (a b : ℕ) → (a == b) ≡ true → a ≡ b
same_number a b is = grind (arith, nat_tests)

not_rolling : (phase : Phase) → is_upgrade phase ≡ true → is_rolling phase ≡ false
not_rolling phases.Upgrade is = refl
not_rolling phases.Ordinary is = refl
not_rolling phases.Rolling is = absurd (false≢true is)

whole_live : (o : Option Live) → is_sound o ≡ true → is_live_whole o ≡ true
whole_live None is = absurd (false≢true is)
whole_live (Some l) is = ap is_none (sound_undamaged (Some l) is).0

either_whole : (a b c : Bool) → a ≡ true → c ≡ true → (a && (b || c)) ≡ true
either_whole true true c live over = refl
either_whole true false c live over = over
either_whole false b c live over = absurd (false≢true live)

module _ (config : Config) (bytes : ReqId → List ℕ) (born chunk id : ℕ) (servers : List Server) (s : Server) (d : Durable) (w v : ChunkWorld) (reached : IsReached w) (leads : Leads w v)
    (shows : ShowsPlace (setting config bytes born) w.known s.kept.epoch (place_of chunk s) (w.members id)) (kept : IsKept d) (durable : ShowsDurable chunk d v.entry) (upgrade : is_upgrade d.phase ≡ true) (later : w.entry.epoch < v.entry.epoch)
    (marks : Marks (whole_in d chunk servers) w v) (found : slice_get servers id ≡ Some s) (member : is_member v id ≡ true) (whole : is_whole chunk (Some s) ≡ true) where
  last : IsReached v
  last = reached_then w reached v leads

  marked_so : v.members id ≡ marked (w.members id) (whole_in d chunk servers id)
  marked_so = marks v.entry.epoch (later, omega arith, durable.upgrade upgrade) id

  epoch_is : (v.members id).epoch ≡ s.kept.epoch
  epoch_is =
      let live : is_some (slot_in chunk s).live ≡ true = (sound_undamaged (slot_in chunk s).live whole).1 in
      ap (λ (m : Member). m.epoch) marked_so ∙ shows.epoch_is (shown_late (setting config bytes born) w.known s.kept.epoch (place_of chunk s) (w.members id) shows live)

  -- the prepare is of a later epoch than the server's
  before : s.kept.epoch < v.entry.epoch
  before =
      let ahead = none_ahead w (reached_world w reached) id in
      let same : (v.members id).epoch ≡ (w.members id).epoch = ap (λ (m : Member). m.epoch) marked_so in
      let at = epoch_is in
      omega arith

  -- which is over, and wasn't rolled back: else the server had learned of that
  over : is_over d s.kept.epoch ≡ true
  over = by_end end.0 end.1
    where
      ended : length d.ends ≡ d.epoch
      ended = same_number (length d.ends) d.epoch (both (length d.ends == d.epoch) (alternate true d.ends && is_phase_behind (slice_get d.ends (length d.ends - 1)) d.phase) kept.ends).0

      end : (e : EpochEnd) × (slice_get d.ends s.kept.epoch ≡ Some e)
      end = there d.ends s.kept.epoch (let a = ended in let b = durable.epoch in let c = before in omega arith)

      still : v.entry.is_rolling ≡ false
      still = durable.rolling ∙ not_rolling d.phase upgrade

      by_end : (e : EpochEnd) → slice_get d.ends s.kept.epoch ≡ Some e → is_over d s.kept.epoch ≡ true
      by_end ends.Prepare is = ap is_no_rollback is
      by_end ends.Finalize is = ap is_no_rollback is
      by_end ends.Rollback is =
          let h = durable.how s.kept.epoch ends.Rollback is in
          let learned = members_learned v (reached_world v last) still id (s.kept.epoch + 1) member h.0 (how_is v last (s.kept.epoch + 1) ∙ h.1) in
          absurd (let at = epoch_is in omega arith)

  pub whole_marked : (v.members id).intact ≡ true
  whole_marked =
      ap (λ (m : Member). m.intact) marked_so ∙ ap (is_whole_there d chunk) found
      ∙ either_whole (is_live_whole (slot_in chunk s).live) (is_seal_whole (sealed_of (slot_in chunk s))) (is_over d s.kept.epoch) (whole_live (slot_in chunk s).live whole) over
