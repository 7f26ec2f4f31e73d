-- What an event adds to a node's history.
use Rattle.std.specs.Prelude.{List, map, Result, Ok, Err}
use Rattle.gs_base.specs.declared.refusal.Refusal.{Refusal}
use Rattle.gs_cluster_history.specs.declared.turn.Deed.{Deed}
use Rattle.gs_cluster_history.specs.declared.turn.Turn.{Turn}
use Rattle.gs_cluster_history.specs.Histories.{Entry, Listed, Upshot, listed, moment_of, out_of}

abbrev pub told : Result Turn Refusal → Upshot
told (Ok turn) = Ok (turn.sent.items, turn.said)
told (Err refusal) = Err refusal

abbrev pub entry_of : Deed → Entry
entry_of d = record { clock = d.clock; took = d.note.took; outcome = told d.done }

-- what is sent at an event, as its node's list keeps it
abbrev pub sent_at : Entry → List Listed
sent_at e = map (listed e.clock (moment_of e.took)) (out_of e.outcome)

-- what is sent before any event: at clock 0 and moment 0
abbrev pub first_sent : Turn → List Listed
first_sent turn = map (listed 0 (record { 0 = 0 })) turn.sent.items
