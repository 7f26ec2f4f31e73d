-- What servers reach they have promised.
use Rattle.std.proofs.Common.{◌≡◌, ℕ, ◌<◌, ◌&&◌, ◌⊎◌, inl, inr, Bool, true, false, cond, refl, sym, ◌∙◌, arith}
use Rattle.std.specs.Prelude.{nat_eq}
use Rattle.std.proofs.lemmas.Bool.{eqb-true}
use Rattle.gs_laws_chunk.specs.machine.Machine.{ChunkWorld}
use Rattle.gs_laws_chunk.specs.machine.Events.{Event, Raises, Rises, Promises, SendsCopy, TakesLease, Numbers, Forwards, Applies, Acknowledges, Hears, Closes, Answers, Spends, Drops, Loses, Damages, Learns, Names, Reports, Proposes, AsksFirst, Asks, AsksForCopy, GivesUp, Holds, Settles, Grants, Retires, SendsDrop, Prepares, Finalizes, BeginsRollback, CommitsRollback, TellsEpoch, happens, Leads, Rests, Goes}
use Rattle.gs_laws_chunk.specs.machine.Laws.{Birth, IsReached, ReachedWithin, world_of}
use Rattle.gs_laws_chunk.proofs.lemmas.machine.Facts.{reached_world}
use Rattle.gs_laws_chunk.proofs.lemmas.machine.Lasting.{agrees}
use Rattle.gs_laws_chunk.proofs.lemmas.machine.Worlds.{happens_world}

-- at a server's step
step_reached : (me j t p n old promise : ℕ) → (cond (nat_eq j me && nat_eq t p) n old ≡ old) ⊎ (cond (nat_eq j me) p promise ≡ t)
step_reached me j t p n old promise = by_case (nat_eq j me) (nat_eq t p) refl
  where
    by_case : (a b : Bool) → nat_eq t p ≡ b → (cond (a && b) n old ≡ old) ⊎ (cond a p promise ≡ t)
    by_case true true is = inr (sym (eqb-true t p is))
    by_case true false is = inl refl
    by_case false b is = inl refl

-- what is reached under a stamp stays, but under the promise
event_reached : (w : ChunkWorld) (e : Event) (j t : ℕ) → ((happens w e).known.reached j t ≡ w.known.reached j t) ⊎ ((happens w e).known.promise j ≡ t)
event_reached w (Raises me stamp edits image) j t = step_reached me j t _ _ _ _
event_reached w (Rises me stamp edits) j t = step_reached me j t _ _ _ _
event_reached w (Promises me edits) j t = step_reached me j t _ _ _ _
event_reached w (SendsCopy me stamp target edits image) j t = step_reached me j t _ _ _ _
event_reached w (TakesLease me stamp members) j t = step_reached me j t _ _ _ _
event_reached w (Numbers me lease edits edit) j t = step_reached me j t _ _ _ _
event_reached w (Forwards me lease to place edit) j t = step_reached me j t _ _ _ _
event_reached w (Applies me edits edit) j t = step_reached me j t _ _ _ _
event_reached w (Acknowledges me edits) j t = step_reached me j t _ _ _ _
event_reached w (Hears me lease from count) j t = step_reached me j t _ _ _ _
event_reached w (Closes me lease place) j t = step_reached me j t _ _ _ _
event_reached w (Answers me lease place edit) j t = step_reached me j t _ _ _ _
event_reached w (Spends me) j t = step_reached me j t _ _ _ _
event_reached w (Drops me) j t = step_reached me j t _ _ _ _
event_reached w (Loses me) j t = step_reached me j t _ _ _ _
event_reached w (Damages me) j t = step_reached me j t _ _ _ _
event_reached w (Learns me end fails) j t = step_reached me j t _ _ _ _
event_reached w (Names me edits) j t = step_reached me j t _ _ _ _
event_reached w (Reports me) j t = step_reached me j t _ _ _ _
event_reached w (Proposes stamp asked) j t = inl refl
event_reached w (AsksFirst to false) j t = inl refl
event_reached w (AsksFirst to true) j t = inl refl
event_reached w (Asks to) j t = inl refl
event_reached w (AsksForCopy source target with_image) j t = inl refl
event_reached w GivesUp j t = inl refl
event_reached w (Holds server) j t = inl refl
event_reached w (Settles members count holder) j t = inl refl
event_reached w (Grants to) j t = inl refl
event_reached w Retires j t = inl refl
event_reached w (SendsDrop to promise) j t = inl refl
event_reached w (Prepares whole) j t = inl refl
event_reached w Finalizes j t = inl refl
event_reached w BeginsRollback j t = inl refl
event_reached w (CommitsRollback members true) j t = inl refl
event_reached w (CommitsRollback members false) j t = inl refl
event_reached w (TellsEpoch to epoch) j t = inl refl

known_within : (b : Birth) (w : ChunkWorld) → Leads (world_of b) w → (j t : ℕ) → w.known.promise j < t → w.known.reached j t ≡ 0
known_within b w Rests j t above = refl
known_within b w (Goes u e before can) j t above =
    let rises = (happens_world u (reached_world u (b, before)) e can).grows.promise j in
    elim (event_reached u e j t) [
      | inl same ↦ same ∙ known_within b u before j t (omega arith)
      | inr at ↦ absurd (omega arith)
    ]

pub reached_within : (w : ChunkWorld) → IsReached w → ReachedWithin w
reached_within w reached j t above = let same = (agrees w (reached_world w reached)).promises j in known_within reached.0 w reached.1 j t (omega arith)
