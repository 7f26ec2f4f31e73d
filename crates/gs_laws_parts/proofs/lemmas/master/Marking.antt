-- Who is marked behind some events of the master, and who stays.
use Rattle.std.proofs.Common.{◌≡◌, ◌⊎◌, inl, inr, ℕ, ◌+◌, ◌<◌, ◌≤◌, Bool, true, false, cond, None, refl, sym, ap, ◌∙◌, subst, arith}
use Rattle.std.specs.Prelude.{nat_eq, is_some}
use Rattle.std.proofs.lemmas.Bool.Decides.{nat_tests}
use Rattle.std.proofs.lemmas.Bool.{cases_lt, false≢true}
use Rattle.gs_base.specs.declared.epoch.EpochEnd.{EpochEnd}
use Rattle.gs_base.specs.declared.epoch.EpochEnd.TheVariants.{Prepare, Finalize, Rollback}
use Rattle.gs_laws_chunk.specs.machine.Acting.{actor}
use Rattle.gs_laws_chunk.specs.machine.Machine.{Entry, Member, ChunkWorld}
use Rattle.gs_laws_chunk.specs.machine.Events.{Event, Raises, Rises, Promises, SendsCopy, TakesLease, Numbers, Forwards, Applies, Acknowledges, Hears, Closes, Answers, Spends, Drops, Loses, Damages, Learns, Names, Reports, Proposes, AsksFirst, Asks, AsksForCopy, GivesUp, Holds, Settles, Grants, Retires, SendsDrop, Prepares, Finalizes, BeginsRollback, CommitsRollback, TellsEpoch, happens, marked, with_end, Leads, Rests, Goes}
use Rattle.gs_laws_chunk.specs.machine.Mastering.{AreOfMaster}
use Rattle.gs_laws_parts.specs.master.Telling.{IsSameMember, Marks, Spares}

-- the epoch only rises, and it stays how each has begun
record HowStays (a b : Entry) : Type 0 where
  rises : a.epoch ≤ b.epoch
  how : (e : ℕ) → e ≤ a.epoch → b.how e ≡ a.how e

how_itself : (a : Entry) → HowStays a a
how_itself a = record { rises = omega arith; how = λ e low. refl }

how_then : (a b d : Entry) → HowStays a b → HowStays b d → HowStays a d
how_then a b d x y = record { rises = (let p = x.rises in let q = y.rises in omega arith); how = λ e low. y.how e (let p = x.rises in omega arith) ∙ x.how e low }

other_epoch : (how : ℕ → EpochEnd) (n : ℕ) (end : EpochEnd) (e : ℕ) → e ≤ n → with_end how (n + 1) end e ≡ how e
other_epoch how n end e low = ap (λ b. cond b end (how e)) (let x : nat_eq e (n + 1) ≡ false = grind (arith, nat_tests) in x)

this_epoch : (how : ℕ → EpochEnd) (n : ℕ) (end : EpochEnd) (e : ℕ) → e ≡ n → with_end how n end e ≡ end
this_epoch how n end e is = ap (λ b. cond b end (how e)) (let x : nat_eq e n ≡ true = grind (arith, nat_tests) in x)

event_how : (w : ChunkWorld) (e : Event) → HowStays w.entry (happens w e).entry
event_how w (Raises me stamp edits image) = record { rises = omega arith; how = λ e low. refl }
event_how w (Rises me stamp edits) = record { rises = omega arith; how = λ e low. refl }
event_how w (Promises me edits) = record { rises = omega arith; how = λ e low. refl }
event_how w (SendsCopy me stamp target edits image) = record { rises = omega arith; how = λ e low. refl }
event_how w (TakesLease me stamp members) = record { rises = omega arith; how = λ e low. refl }
event_how w (Numbers me lease edits edit) = record { rises = omega arith; how = λ e low. refl }
event_how w (Forwards me lease to place edit) = record { rises = omega arith; how = λ e low. refl }
event_how w (Applies me edits edit) = record { rises = omega arith; how = λ e low. refl }
event_how w (Acknowledges me edits) = record { rises = omega arith; how = λ e low. refl }
event_how w (Hears me lease from count) = record { rises = omega arith; how = λ e low. refl }
event_how w (Closes me lease place) = record { rises = omega arith; how = λ e low. refl }
event_how w (Answers me lease place edit) = record { rises = omega arith; how = λ e low. refl }
event_how w (Spends me) = record { rises = omega arith; how = λ e low. refl }
event_how w (Drops me) = record { rises = omega arith; how = λ e low. refl }
event_how w (Loses me) = record { rises = omega arith; how = λ e low. refl }
event_how w (Damages me) = record { rises = omega arith; how = λ e low. refl }
event_how w (Learns me end fails) = record { rises = omega arith; how = λ e low. refl }
event_how w (Names me edits) = record { rises = omega arith; how = λ e low. refl }
event_how w (Reports me) = record { rises = omega arith; how = λ e low. refl }
event_how w (Proposes stamp asked) = record { rises = omega arith; how = λ e low. refl }
event_how w (AsksFirst to false) = record { rises = omega arith; how = λ e low. refl }
event_how w (AsksFirst to true) = record { rises = omega arith; how = λ e low. refl }
event_how w (Asks to) = record { rises = omega arith; how = λ e low. refl }
event_how w (AsksForCopy source target with_image) = record { rises = omega arith; how = λ e low. refl }
event_how w GivesUp = record { rises = omega arith; how = λ e low. refl }
event_how w (Holds server) = record { rises = omega arith; how = λ e low. refl }
event_how w (Settles members count holder) = record { rises = omega arith; how = λ e low. refl }
event_how w (Grants to) = record { rises = omega arith; how = λ e low. refl }
event_how w Retires = record { rises = omega arith; how = λ e low. refl }
event_how w (SendsDrop to promise) = record { rises = omega arith; how = λ e low. refl }
event_how w (Prepares whole) = record { rises = omega arith; how = λ e low. other_epoch w.entry.how w.entry.epoch Prepare e low }
event_how w Finalizes = record { rises = omega arith; how = λ e low. other_epoch w.entry.how w.entry.epoch Finalize e low }
event_how w BeginsRollback = record { rises = omega arith; how = λ e low. other_epoch w.entry.how w.entry.epoch Rollback e low }
event_how w (CommitsRollback members true) = record { rises = omega arith; how = λ e low. refl }
event_how w (CommitsRollback members false) = record { rises = omega arith; how = λ e low. refl }
event_how w (TellsEpoch to epoch) = record { rises = omega arith; how = λ e low. refl }

how_on : (w v : ChunkWorld) → Leads w v → HowStays w.entry v.entry
how_on w v Rests = how_itself w.entry
how_on w v (Goes u e before can) = how_then w.entry u.entry (happens u e).entry (how_on w u before) (event_how u e)

-- ---- who is marked

pub same_epoch : (whole : ℕ → Bool) (w v : ChunkWorld) → v.entry.epoch ≡ w.entry.epoch → Marks whole w v
same_epoch whole w v same e since = absurd (let x = since.0 in let y = since.1 in omega arith)

pub ends_otherwise : (whole : ℕ → Bool) (w v : ChunkWorld) (end : EpochEnd) → v.entry.epoch ≡ w.entry.epoch + 1 → v.entry.how ≡ with_end w.entry.how (w.entry.epoch + 1) end → (end ≡ Prepare → ⊥) → Marks whole w v
ends_otherwise whole w v end next how other e since = absurd (other (sym (this_epoch w.entry.how (w.entry.epoch + 1) end e (let x = since.0 in let y = since.1 in omega arith)) ∙ ap (λ f. f e) (sym how) ∙ since.2))

-- behind what changes no server and no epoch
pub marks_on_sent : (whole : ℕ → Bool) (w v last : ChunkWorld) → last.entry ≡ v.entry → last.members ≡ v.members → Marks whole w v → Marks whole w last
marks_on_sent whole w v last entry members marks e since j = ap (λ ms. ms j) members ∙ marks e (since.0, subst (λ (x : Entry). e ≤ x.epoch) entry since.1, sym (ap (λ (x : Entry). x.how e) entry) ∙ since.2) j

pub marks_on_still : (whole : ℕ → Bool) (w v last : ChunkWorld) → Leads v last → last.entry.epoch ≡ v.entry.epoch → last.members ≡ v.members → Marks whole w v → Marks whole w last
marks_on_still whole w v last leads same members marks e since j = let h = how_on v last leads in let low : e ≤ v.entry.epoch = (let x = since.1 in omega arith) in ap (λ ms. ms j) members ∙ marks e (since.0, low, sym (h.how e low) ∙ since.2) j

-- marked twice as the same
marked_on : (m n o : Member) (b : Bool) → n ≡ marked m b → IsSameMember n b o → o ≡ marked m b
marked_on m n o b is (inl same) = same ∙ is
marked_on m n o b is (inr again) = again ∙ ap (λ x. marked x b) is

marked_now : (m n o : Member) (b : Bool) → IsSameMember m b n → o ≡ marked n b → o ≡ marked m b
marked_now m n o b (inl same) is = is ∙ ap (λ x. marked x b) same
marked_now m n o b (inr before) is = is ∙ ap (λ x. marked x b) before

pub marks_both : (whole : ℕ → Bool) (w v last : ChunkWorld) → Leads v last → ((j : ℕ) → IsSameMember (w.members j) (whole j) (v.members j)) → ((j : ℕ) → IsSameMember (v.members j) (whole j) (last.members j)) → Marks whole w v → Marks whole v last → Marks whole w last
marks_both whole w v last leads first next before after e since j = by_epoch (cases_lt v.entry.epoch e)
  where
    h : HowStays v.entry last.entry
    h = how_on v last leads

    by_epoch : (v.entry.epoch < e) ⊎ (e ≤ v.entry.epoch) → last.members j ≡ marked (w.members j) (whole j)
    by_epoch (inr low) = marked_on (w.members j) (v.members j) (last.members j) (whole j) (before e (since.0, low, sym (h.how e low) ∙ since.2) j) (next j)
    by_epoch (inl high) = marked_now (w.members j) (v.members j) (last.members j) (whole j) (first j) (after e (high, since.1, since.2) j)

-- ---- who stays

event_spares : (w : ChunkWorld) (e : Event) → actor e ≡ None → Spares w (happens w e)
event_spares w (Proposes stamp asked) none unprepared j = refl
event_spares w (AsksFirst to false) none unprepared j = refl
event_spares w (AsksFirst to true) none unprepared j = refl
event_spares w (Asks to) none unprepared j = refl
event_spares w (AsksForCopy source target with_image) none unprepared j = refl
event_spares w GivesUp none unprepared j = refl
event_spares w (Holds server) none unprepared j = refl
event_spares w (Settles members count holder) none unprepared j = refl
event_spares w (Grants to) none unprepared j = refl
event_spares w Retires none unprepared j = refl
event_spares w (SendsDrop to promise) none unprepared j = refl
event_spares w (Prepares whole) none unprepared j = absurd (unprepared (w.entry.epoch + 1) ((omega arith), (omega arith), this_epoch w.entry.how (w.entry.epoch + 1) Prepare (w.entry.epoch + 1) refl))
event_spares w Finalizes none unprepared j = refl
event_spares w BeginsRollback none unprepared j = refl
event_spares w (CommitsRollback members true) none unprepared j = refl
event_spares w (CommitsRollback members false) none unprepared j = refl
event_spares w (TellsEpoch to epoch) none unprepared j = refl
event_spares w e none unprepared j = absurd (false≢true (sym (ap is_some none)))

pub masters_spare : (w v : ChunkWorld) (leads : Leads w v) → AreOfMaster w v leads → Spares w v
masters_spare w v Rests masters unprepared j = refl
masters_spare w v (Goes u e before can) masters unprepared j =
    let old = how_on w u before in
    let new = event_how u e in
    event_spares u e masters.1 (λ x since. unprepared x ((let p = since.0 in let q = old.rises in omega arith), since.1, since.2)) j
    ∙ masters_spare w u before masters.0 (λ x since. unprepared x (since.0, (let p = since.1 in let q = new.rises in omega arith), new.how x since.1 ∙ since.2)) j
