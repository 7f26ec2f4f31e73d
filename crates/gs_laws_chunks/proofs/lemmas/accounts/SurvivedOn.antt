-- Who can give a chunk back where a rollback goes on could do so since it has learned of that.
use Rattle.std.proofs.Common.{◌≡◌, ◌∙◌, ◌≤◌, inl, inr, ℕ, true, false, sym, ap, arith}
use Rattle.std.proofs.lemmas.Bool.{false≢true}
use Rattle.gs_base.specs.declared.epoch.EpochEnd.TheVariants.{Prepare, Rollback}
use Rattle.gs_laws_chunk.proofs.lemmas.machine.Entries.{IsCurrent, Rolling}
use Rattle.gs_laws_chunk.proofs.lemmas.machine.Facts.{reached_world}
use Rattle.gs_laws_chunk.proofs.lemmas.machine.Known.{IsPrepared, Later}
use Rattle.gs_laws_chunk.proofs.lemmas.machine.Rolling.{rolled_are_held}
use Rattle.gs_laws_chunk.proofs.lemmas.machine.Worlds.{WorldOk, leads_later, leads_world}
use Rattle.gs_laws_chunk.specs.machine.Events.{Event, Raises, Rises, Promises, SendsCopy, TakesLease, Numbers, Forwards, Applies, Acknowledges, Hears, Closes, Answers, Spends, Drops, Loses, Damages, Learns, Names, Reports, Proposes, AsksFirst, Asks, AsksForCopy, GivesUp, Holds, Settles, Grants, Retires, SendsDrop, Prepares, Finalizes, BeginsRollback, CommitsRollback, TellsEpoch, IsFit, Can, happens, Leads, Rests, Goes}
use Rattle.gs_laws_chunk.specs.machine.Laws.{IsReached, IsSurvivor}
use Rattle.gs_laws_chunk.specs.machine.Machine.{ChunkWorld}
use Rattle.gs_laws_chunk.specs.machine.Rolling.{IsHeld, IsStillRolling}

-- ---- holders are written down while the upgrade stands, not behind it

two_ends : Prepare ≡ Rollback → ⊥
two_ends e = absurd (cc)

held_step : (w : ChunkWorld) (e : Event) → Can w e → w.entry.how w.entry.epoch ≡ Rollback → (j : ℕ) → (happens w e).entry.holders j ≡ true → w.entry.holders j ≡ true
held_step w (Raises me stamp edits image) can how j is = is
held_step w (Rises me stamp edits) can how j is = is
held_step w (Promises me edits) can how j is = is
held_step w (SendsCopy me stamp target edits image) can how j is = is
held_step w (TakesLease me stamp members) can how j is = is
held_step w (Numbers me lease edits edit) can how j is = is
held_step w (Forwards me lease to place edit) can how j is = is
held_step w (Applies me edits edit) can how j is = is
held_step w (Acknowledges me edits) can how j is = is
held_step w (Hears me lease from count) can how j is = is
held_step w (Closes me lease place) can how j is = is
held_step w (Answers me lease place edit) can how j is = is
held_step w (Spends me) can how j is = is
held_step w (Drops me) can how j is = is
held_step w (Loses me) can how j is = is
held_step w (Damages me) can how j is = is
held_step w (Learns me end fails) can how j is = is
held_step w (Names me edits) can how j is = is
held_step w (Reports me) can how j is = is
held_step w (Proposes stamp asked) can how j is = is
held_step w (AsksFirst to false) can how j is = is
held_step w (AsksFirst to true) can how j is = is
held_step w (Asks to) can how j is = is
held_step w (AsksForCopy source target with_image) can how j is = is
held_step w GivesUp can how j is = is
held_step w (Holds server) can how j is = absurd (two_ends (sym can.0 ∙ how))
held_step w (Settles members count holder) can how j is = is
held_step w (Grants to) can how j is = is
held_step w Retires can how j is = is
held_step w (SendsDrop to promise) can how j is = is
held_step w (Prepares whole) can how j is = absurd (false≢true is)
held_step w Finalizes can how j is = is
held_step w BeginsRollback can how j is = is
held_step w (CommitsRollback members true) can how j is = is
held_step w (CommitsRollback members false) can how j is = is
held_step w (TellsEpoch to epoch) can how j is = is

-- over a run of the machine within an epoch that is a rollback
held_through : (w last : ChunkWorld) → WorldOk w → w.known.how w.known.current ≡ Rollback → Leads w last → last.known.current ≡ w.known.current → (j : ℕ) → last.entry.holders j ≡ true → w.entry.holders j ≡ true
held_through w last ok how (Rests) same j is = is
held_through w last ok how (Goes v e before can) same j is =
    let okv = leads_world w v before ok in
    let up = leads_later w v before ok in
    let low = up.current in
    let more = (leads_later v (happens v e) (Goes v e Rests can) okv).current in
    let at : v.known.current ≡ w.known.current = omega arith in
    let epoch : v.entry.epoch ≡ w.known.current = (okv.entry).epoch ∙ at in
    let end : v.entry.how v.entry.epoch ≡ Rollback = (okv.entry).how v.entry.epoch ∙ ap v.known.how epoch ∙ up.how w.known.current (omega arith) ∙ how in
    held_through w v ok how before at j (held_step v e can end j is)

-- ---- who can give it back

module _ (w last : ChunkWorld) (reached : IsReached w) (leads : Leads w last) (still : IsStillRolling w last) (known : last.entry.was_known ≡ true) where
  ok : WorldOk w
  ok = reached_world w reached

  behind : WorldOk last
  behind = leads_world w last leads ok

  was : Rolling w.known
  was = (ok.entry).rolling still.first

  later : Later w.known last.known
  later = leads_later w last leads ok

  at : last.known.current ≡ w.known.current
  at = sym (behind.entry).epoch ∙ still.same ∙ (ok.entry).epoch

  low : was.e ≤ w.known.current
  low = let n = was.next in omega arith

  c : IsCurrent w.known w.entry.is_rolling was.e
  c = inr ((let n = was.next in omega arith), still.first)

  cl : IsCurrent last.known last.entry.is_rolling was.e
  cl = inr ((let n = was.next in let same = at in omega arith), still.still)

  known_was : w.entry.was_known ≡ true
  known_was = (ok.entry).was_known was.e c ∙ sym (later.kept was.e low) ∙ sym ((behind.entry).was_known was.e cl) ∙ known

  prepared_was : IsPrepared w.known was.e
  prepared_was = (low, was.was, sym ((ok.entry).was_known was.e c) ∙ known_was)

  prepared_last : IsPrepared last.known was.e
  prepared_last = ((let n = low in let same = at in omega arith), later.how was.e low ∙ was.was, later.kept was.e low ∙ prepared_was.2)

  pub fit_was : (j : ℕ) → IsFit last.entry j → IsFit w.entry j
  fit_was j fit = elim fit [
    | inl member ↦ inl (
        sym (((ok.entry).prepared was.e c prepared_was).members j)
        ∙ sym (later.members (w.known.prepared was.e) j ((ok.known).before was.e prepared_was))
        ∙ ap (λ t. last.known.members t j) (sym (later.prepared was.e low))
        ∙ ((behind.entry).prepared was.e cl prepared_last).members j ∙ member)
    | inr holder ↦ inr (held_through w last ok (ap w.known.how was.next ∙ was.how) leads at j holder)
  ]

  pub survived : (me : ℕ) → (w.members me).epoch ≡ w.entry.epoch → IsSurvivor last me → IsSurvivor w me
  survived me now survives =
      let held : IsHeld (w.members me) (last.members me) = rolled_are_held w last reached leads still me now in
      record { known = known_was; fit = fit_was me survives.fit; intact = (held.intact survives.intact).0 }
