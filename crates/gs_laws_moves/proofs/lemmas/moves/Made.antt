-- Each event of a firm master is a chain of moves that are made under their guards, whose records fit, and which send what is right.
use Rattle.std.proofs.Common.{refl}
use Rattle.gs_base.specs.declared.config.Config.{Config}
use Rattle.std.specs.Prelude.{None}
use Rattle.gs_master_spec.specs.Handling.{granted, pressed, proposals}
use Rattle.gs_master_spec.specs.State.{State, and_then, for_each}
use Rattle.gs_laws_master.specs.Promises.{AllFit}
use Rattle.gs_laws_master.specs.Standing.{Event, Comes, Ticks, Renews, Restarts, turn_of}
use Rattle.gs_laws_master.proofs.lemmas.standing.StandingRuns.{events_fit}
use Rattle.gs_laws_moves.proofs.lemmas.moves.Events.{events_chain, ticks_turned}
use Rattle.gs_laws_moves.proofs.lemmas.moves.Fitting.{once_chain, once_fitted, once_mapped}
use Rattle.gs_laws_moves.proofs.lemmas.moves.Right.{right_of}
use Rattle.gs_laws_moves.specs.moves.Epochs.{EventsEndOnce, TicksEndOnce}
use Rattle.gs_laws_moves.specs.moves.ForCalls.{EventsAreFor, IsFor, IsMadeFor, TicksAreFor}
use Rattle.gs_laws_moves.specs.moves.Guards.{Heard, IsMade, May}
use Rattle.gs_laws_moves.specs.moves.Laws.{EventsAreChains, TicksAreChains, heard_in, met_in}
use Rattle.gs_laws_moves.specs.moves.Moves.{Move, move_turn}

met_fits : (config : Config) (s : State) (event : Event) → AllFit s (turn_of config s event) → AllFit (met_in s event) (turn_of config s event)
met_fits config s (Comes message moment) fit = fit
met_fits config s (Ticks moment) fit = fit
met_fits config s Renews fit = fit
met_fits config s Restarts fit = refl

made : (config : Config) (heard : Heard) (s : State) (move : Move) → (May config heard s move × IsFor heard s move) × AllFit s (move_turn config s move) → IsMadeFor config heard s move
made config heard s move both = (record { may = both.0.0; fits = both.1; right = right_of config heard s move both.0.0 both.1 }, both.0.1)

-- each is made for a call
pub events_are_for : EventsAreFor
events_are_for config s event named firm =
    let heard = heard_in event in
    let fit = met_fits config s event (events_fit config s event named firm).fits in
    once_fitted config heard (λ u move. May config heard u move × IsFor heard u move) (IsMadeFor config heard) (λ u move both. both.0) (made config heard) (met_in s event) (turn_of config s event) (events_chain config s event named firm) fit

pub events_end_once : EventsEndOnce
events_end_once config s event named firm = once_mapped config (IsMadeFor config (heard_in event)) (IsMade config (heard_in event)) (λ u move both. both.0) (met_in s event) (turn_of config s event) (events_are_for config s event named firm)

pub events_are_chains : EventsAreChains
events_are_chains config s event named firm = once_chain config (IsMade config (heard_in event)) (met_in s event) (turn_of config s event) (events_end_once config s event named firm)

-- so is what a tick does before it writes a checkpoint, where memory is wanting for that
pub ticks_are_for : TicksAreFor
ticks_are_for config s moment firm fit = once_fitted config None (λ u move. May config None u move × IsFor None u move) (IsMadeFor config None) (λ u move both. both.0) (made config None) s (and_then (for_each s (proposals s) (pressed moment)) granted) (ticks_turned config s moment firm) fit

pub ticks_end_once : TicksEndOnce
ticks_end_once config s moment firm fit = once_mapped config (IsMadeFor config None) (IsMade config None) (λ u move both. both.0) s (and_then (for_each s (proposals s) (pressed moment)) granted) (ticks_are_for config s moment firm fit)

pub ticks_are_chains : TicksAreChains
ticks_are_chains config s moment firm fit = once_chain config (IsMade config None) s (and_then (for_each s (proposals s) (pressed moment)) granted) (ticks_end_once config s moment firm fit)
