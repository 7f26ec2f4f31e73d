-- Only a prepare prepares.
use Rattle.std.proofs.Common.{◌≡◌, ℕ, ◌+◌, ◌<◌, ◌≤◌, Bool, true, false, cond, refl, sym, ap, ◌∙◌, arith}
use Rattle.std.proofs.lemmas.Bool.{eq-eqb}
use Rattle.gs_base.specs.declared.epoch.EpochEnd.{EpochEnd}
use Rattle.gs_base.specs.declared.epoch.EpochEnd.TheVariants.{Prepare, Finalize, Rollback}
use Rattle.gs_laws_chunk.specs.machine.Machine.{ChunkWorld}
use Rattle.gs_laws_chunk.specs.machine.Events.{Event, happens, with_end, Raises, Rises, Promises, SendsCopy, TakesLease, Numbers, Forwards, Applies, Acknowledges, Hears, Closes, Answers, Spends, Drops, Loses, Damages, Learns, Names, Reports, Proposes, AsksFirst, Asks, AsksForCopy, GivesUp, Holds, Settles, Grants, Retires, SendsDrop, Prepares, Finalizes, BeginsRollback, CommitsRollback, TellsEpoch}
use Rattle.gs_laws_parts.specs.server.Beside.{HasPrepared}

pub none_prepared : (w last : ChunkWorld) → last.entry.epoch ≡ w.entry.epoch → HasPrepared w last → ⊥
none_prepared w last same x = (let a = x.1 in let b = x.2 in omega arith)

next_end : (how : ℕ → EpochEnd) (n : ℕ) (end : EpochEnd) (x : ℕ) → n < x → x ≤ n + 1 → with_end how (n + 1) end x ≡ end
next_end how n end x late within =
    let is : x ≡ n + 1 = omega arith in
    ap (λ (b : Bool). cond b end (how x)) (eq-eqb x (n + 1) is)

other_end : (w : ChunkWorld) (end : EpochEnd) → w.known.current ≡ w.entry.epoch → (x : ℕ) → w.entry.epoch < x → x ≤ w.entry.epoch + 1 → with_end w.known.how (w.known.current + 1) end x ≡ Prepare → end ≡ Prepare
other_end w end now x late within is = sym (next_end w.known.how w.known.current end x (omega arith) (omega arith)) ∙ is

pub only_prepares : (w : ChunkWorld) (e : Event) → w.known.current ≡ w.entry.epoch → HasPrepared w (happens w e) → (whole : ℕ → Bool) × (e ≡ Prepares whole)
only_prepares w (Raises me stamp edits image) now x = absurd (none_prepared w (happens w (Raises me stamp edits image)) refl x)
only_prepares w (Rises me stamp edits) now x = absurd (none_prepared w (happens w (Rises me stamp edits)) refl x)
only_prepares w (Promises me edits) now x = absurd (none_prepared w (happens w (Promises me edits)) refl x)
only_prepares w (SendsCopy me stamp target edits image) now x = absurd (none_prepared w (happens w (SendsCopy me stamp target edits image)) refl x)
only_prepares w (TakesLease me stamp members) now x = absurd (none_prepared w (happens w (TakesLease me stamp members)) refl x)
only_prepares w (Numbers me lease edits edit) now x = absurd (none_prepared w (happens w (Numbers me lease edits edit)) refl x)
only_prepares w (Forwards me lease to place edit) now x = absurd (none_prepared w (happens w (Forwards me lease to place edit)) refl x)
only_prepares w (Applies me edits edit) now x = absurd (none_prepared w (happens w (Applies me edits edit)) refl x)
only_prepares w (Acknowledges me edits) now x = absurd (none_prepared w (happens w (Acknowledges me edits)) refl x)
only_prepares w (Hears me lease from count) now x = absurd (none_prepared w (happens w (Hears me lease from count)) refl x)
only_prepares w (Closes me lease place) now x = absurd (none_prepared w (happens w (Closes me lease place)) refl x)
only_prepares w (Answers me lease place edit) now x = absurd (none_prepared w (happens w (Answers me lease place edit)) refl x)
only_prepares w (Spends me) now x = absurd (none_prepared w (happens w (Spends me)) refl x)
only_prepares w (Drops me) now x = absurd (none_prepared w (happens w (Drops me)) refl x)
only_prepares w (Loses me) now x = absurd (none_prepared w (happens w (Loses me)) refl x)
only_prepares w (Damages me) now x = absurd (none_prepared w (happens w (Damages me)) refl x)
only_prepares w (Learns me end fails) now x = absurd (none_prepared w (happens w (Learns me end fails)) refl x)
only_prepares w (Names me edits) now x = absurd (none_prepared w (happens w (Names me edits)) refl x)
only_prepares w (Reports me) now x = absurd (none_prepared w (happens w (Reports me)) refl x)
only_prepares w (Proposes stamp asked) now x = absurd (none_prepared w (happens w (Proposes stamp asked)) refl x)
only_prepares w (AsksFirst to false) now x = absurd (none_prepared w (happens w (AsksFirst to false)) refl x)
only_prepares w (AsksFirst to true) now x = absurd (none_prepared w (happens w (AsksFirst to true)) refl x)
only_prepares w (Asks to) now x = absurd (none_prepared w (happens w (Asks to)) refl x)
only_prepares w (AsksForCopy source target with_image) now x = absurd (none_prepared w (happens w (AsksForCopy source target with_image)) refl x)
only_prepares w GivesUp now x = absurd (none_prepared w (happens w GivesUp) refl x)
only_prepares w (Holds server) now x = absurd (none_prepared w (happens w (Holds server)) refl x)
only_prepares w (Settles members count holder) now x = absurd (none_prepared w (happens w (Settles members count holder)) refl x)
only_prepares w (Grants to) now x = absurd (none_prepared w (happens w (Grants to)) refl x)
only_prepares w Retires now x = absurd (none_prepared w (happens w Retires) refl x)
only_prepares w (SendsDrop to promise) now x = absurd (none_prepared w (happens w (SendsDrop to promise)) refl x)
only_prepares w (Prepares whole) now x = (whole, refl)
only_prepares w Finalizes now x = absurd (let is = other_end w Finalize now x.0 x.1 x.2 x.3 in (cc))
only_prepares w BeginsRollback now x = absurd (let is = other_end w Rollback now x.0 x.1 x.2 x.3 in (cc))
only_prepares w (CommitsRollback members true) now x = absurd (none_prepared w (happens w (CommitsRollback members true)) refl x)
only_prepares w (CommitsRollback members false) now x = absurd (none_prepared w (happens w (CommitsRollback members false)) refl x)
only_prepares w (TellsEpoch to epoch) now x = absurd (none_prepared w (happens w (TellsEpoch to epoch)) refl x)
