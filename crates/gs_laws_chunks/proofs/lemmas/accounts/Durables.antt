-- What the records tell is what the master has.
use Rattle.std.proofs.Common.{◌≡◌, ◌∙◌, ℕ, Bool, true, false, List, sym}
use Rattle.std.specs.Prelude.{MatchBool}
use Rattle.gs_laws_chunks.proofs.lemmas.accounts.Once.{told_once}
use Rattle.gs_laws_chunks.specs.accounts.Durables.{ToldIsHad}
use Rattle.gs_journal.specs.Records.{standing}
use Rattle.gs_master.specs.Journaled.{text_seen}
use Rattle.gs_laws_world.specs.lasting.Lasting.{IsToldIn}
use Rattle.gs_master_spec.specs.State.{is_failed}
use Rattle.gs_nodes.specs.declared.place.MasterPlace.TheVariants.{Standing, Closed, Away}

pub told_is_had : {D : Type 0} (seen : D → List ℕ) → ToldIsHad seen
told_is_had seen (Standing m) d e lasts told has = by_fault (is_failed m.state.fault) lasts.sound told
  where
    by_fault : (failed : Bool) → failed ≡ false → MatchBool failed (IsToldIn (text_seen seen m.journal) d) (d ≡ m.state.durable) → e ≡ d
    by_fault true sound is = absurd (cc)
    by_fault false sound is = sym has ∙ sym is
told_is_had seen (Closed first second) d e lasts told has = told_once (standing (seen first) (seen second)) e d has told
told_is_had seen Away d e lasts told has = absurd lasts
