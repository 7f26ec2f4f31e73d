use Rattle.std.proofs.Common.{[], ◌∷◌, subst}
use Rattle.gs_store.specs.Slots.{first_of, unless_live}
use Rattle.gs_store.specs.Serving.{unless_reached}
use Rattle.gs_store.specs.Standing.{LiveStandsFor, LiveToldFrom}
use Rattle.gs_store.proofs.Standing.{read_stands, intact_stands, length_stands, digest_stands, done_stands, count_stands}
use Rattle.gs_store.proofs.edit_promises.slots_give_what_their_edits_give.Goals as goal

pub returns-clause-read : goal.returns-clause-read
returns-clause-read c block chunk stamp offset many part s edits stands told is = read_stands block chunk stamp offset many part s s.live edits stands told is

pub returns-clause-intact : goal.returns-clause-intact
returns-clause-intact c block chunk index l s edits is stands told below intact =
    intact_stands block chunk index l edits (subst (λ o. LiveStandsFor block chunk o edits) is stands) (subst (λ o. LiveToldFrom block chunk o edits) is told) below intact

pub returns-clause-length : goal.returns-clause-length
returns-clause-length c block chunk stamp many s edits stands is = length_stands block chunk many (first_of (unless_live s.live ∷ unless_reached stamp s ∷ [])) s.live edits stands is

pub returns-clause-digest : goal.returns-clause-digest
returns-clause-digest c block chunk stamp index found s edits stands is = digest_stands block chunk index found (first_of (unless_live s.live ∷ unless_reached stamp s ∷ [])) s.live edits stands is

pub returns-clause-done : goal.returns-clause-done
returns-clause-done c block chunk client s edits stands = done_stands block chunk client s.live edits stands

pub returns-clause-count : goal.returns-clause-count
returns-clause-count c block chunk s edits stands = count_stands block chunk s.live edits stands
