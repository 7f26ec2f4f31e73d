-- An event leaves the others as they are.
use Rattle.std.proofs.Common.{◌≡◌, ◌≢◌, ℕ, inl, inr, Bool, true, false, cond, Some, refl, sym, ap}
use Rattle.std.specs.Prelude.{nat_eq}
use Rattle.std.proofs.lemmas.Bool.{eqb-true}
use Rattle.gs_laws_chunk.specs.machine.Machine.{Member, ChunkWorld}
use Rattle.gs_laws_chunk.specs.machine.Events.{Event, Raises, Rises, Promises, SendsCopy, TakesLease, Numbers, Forwards, Applies, Acknowledges, Hears, Closes, Answers, Spends, Drops, Loses, Damages, Learns, Names, Reports, Proposes, AsksFirst, Asks, AsksForCopy, GivesUp, Holds, Settles, Grants, Retires, SendsDrop, Prepares, Finalizes, BeginsRollback, CommitsRollback, TellsEpoch}
use Rattle.gs_laws_chunk.specs.machine.Acting.{OthersStay}

-- at a server's step
other_stays : (w : ChunkWorld) (me : ℕ) (m : Member) (j : ℕ) → Some me ≢ Some j → cond (nat_eq j me) m (w.members j) ≡ w.members j
other_stays w me m j apart = by_case (nat_eq j me) refl
  where
    by_case : (b : Bool) → nat_eq j me ≡ b → cond b m (w.members j) ≡ w.members j
    by_case true is = absurd (apart (ap Some (sym (eqb-true j me is))))
    by_case false is = refl

pub others_stay : (w : ChunkWorld) (e : Event) → OthersStay w e
others_stay w (Raises me stamp edits image) j apart = inl (other_stays w me _ j apart)
others_stay w (Rises me stamp edits) j apart = inl (other_stays w me _ j apart)
others_stay w (Promises me edits) j apart = inl (other_stays w me _ j apart)
others_stay w (SendsCopy me stamp target edits image) j apart = inl (other_stays w me _ j apart)
others_stay w (TakesLease me stamp members) j apart = inl (other_stays w me _ j apart)
others_stay w (Numbers me lease edits edit) j apart = inl (other_stays w me _ j apart)
others_stay w (Forwards me lease to place edit) j apart = inl (other_stays w me _ j apart)
others_stay w (Applies me edits edit) j apart = inl (other_stays w me _ j apart)
others_stay w (Acknowledges me edits) j apart = inl (other_stays w me _ j apart)
others_stay w (Hears me lease from count) j apart = inl (other_stays w me _ j apart)
others_stay w (Closes me lease place) j apart = inl (other_stays w me _ j apart)
others_stay w (Answers me lease place edit) j apart = inl (other_stays w me _ j apart)
others_stay w (Spends me) j apart = inl (other_stays w me _ j apart)
others_stay w (Drops me) j apart = inl (other_stays w me _ j apart)
others_stay w (Loses me) j apart = inl (other_stays w me _ j apart)
others_stay w (Damages me) j apart = inl (other_stays w me _ j apart)
others_stay w (Learns me end fails) j apart = inl (other_stays w me _ j apart)
others_stay w (Names me edits) j apart = inl (other_stays w me _ j apart)
others_stay w (Reports me) j apart = inl (other_stays w me _ j apart)
others_stay w (Proposes stamp asked) j apart = inl refl
others_stay w (AsksFirst to false) j apart = inl refl
others_stay w (AsksFirst to true) j apart = inl refl
others_stay w (Asks to) j apart = inl refl
others_stay w (AsksForCopy source target with_image) j apart = inl refl
others_stay w GivesUp j apart = inl refl
others_stay w (Holds server) j apart = inl refl
others_stay w (Settles members count holder) j apart = inl refl
others_stay w (Grants to) j apart = inl refl
others_stay w Retires j apart = inl refl
others_stay w (SendsDrop to promise) j apart = inl refl
others_stay w (Prepares whole) j apart = inr (whole, refl)
others_stay w Finalizes j apart = inl refl
others_stay w BeginsRollback j apart = inl refl
others_stay w (CommitsRollback members true) j apart = inl refl
others_stay w (CommitsRollback members false) j apart = inl refl
others_stay w (TellsEpoch to epoch) j apart = inl refl
