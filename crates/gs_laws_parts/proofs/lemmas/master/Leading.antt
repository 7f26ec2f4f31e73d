-- What events of the master leave of what is known.
use Rattle.std.proofs.Common.{◌≡◌, ◌∙◌, true, false, None, refl, sym, ap}
use Rattle.std.proofs.lemmas.Bool.{false≢true}
use Rattle.std.specs.Prelude.{is_some}
use Rattle.gs_laws_chunk.specs.machine.Acting.{actor}
use Rattle.gs_laws_chunk.specs.machine.Machine.{ChunkWorld}
use Rattle.gs_laws_chunk.specs.machine.Events.{Event, Rests, Goes, Proposes, AsksFirst, Asks, AsksForCopy, GivesUp, Holds, Settles, Grants, Retires, SendsDrop, Prepares, Finalizes, BeginsRollback, CommitsRollback, TellsEpoch, happens}
use Rattle.gs_laws_chunk.specs.machine.Lists.{ListsAreOld}
use Rattle.gs_laws_chunk.proofs.lemmas.machine.Origins.{masters_lists_old}
use Rattle.gs_laws_parts.specs.master.Chains.{LeavesKnown, MastersLeave}

lists_then : (a b d : ChunkWorld) → ListsAreOld a b → ListsAreOld b d → ListsAreOld a d
lists_then a b d first next stamp many =
    let n = next stamp many in
    let f = first n.0 n.1 in (f.0, f.1, n.2 ∙ f.2)

event_leaves : (w : ChunkWorld) (e : Event) → actor e ≡ None → ListsAreOld w (happens w e) → LeavesKnown w (happens w e)
event_leaves w (Proposes stamp asked) none lists = record { reached = refl; promise = refl; epoch = refl; lists = lists }
event_leaves w (AsksFirst to false) none lists = record { reached = refl; promise = refl; epoch = refl; lists = lists }
event_leaves w (AsksFirst to true) none lists = record { reached = refl; promise = refl; epoch = refl; lists = lists }
event_leaves w (Asks to) none lists = record { reached = refl; promise = refl; epoch = refl; lists = lists }
event_leaves w (AsksForCopy source target with_image) none lists = record { reached = refl; promise = refl; epoch = refl; lists = lists }
event_leaves w GivesUp none lists = record { reached = refl; promise = refl; epoch = refl; lists = lists }
event_leaves w (Holds server) none lists = record { reached = refl; promise = refl; epoch = refl; lists = lists }
event_leaves w (Settles members count holder) none lists = record { reached = refl; promise = refl; epoch = refl; lists = lists }
event_leaves w (Grants to) none lists = record { reached = refl; promise = refl; epoch = refl; lists = lists }
event_leaves w Retires none lists = record { reached = refl; promise = refl; epoch = refl; lists = lists }
event_leaves w (SendsDrop to promise) none lists = record { reached = refl; promise = refl; epoch = refl; lists = lists }
event_leaves w (Prepares whole) none lists = record { reached = refl; promise = refl; epoch = refl; lists = lists }
event_leaves w Finalizes none lists = record { reached = refl; promise = refl; epoch = refl; lists = lists }
event_leaves w BeginsRollback none lists = record { reached = refl; promise = refl; epoch = refl; lists = lists }
event_leaves w (CommitsRollback members true) none lists = record { reached = refl; promise = refl; epoch = refl; lists = lists }
event_leaves w (CommitsRollback members false) none lists = record { reached = refl; promise = refl; epoch = refl; lists = lists }
event_leaves w (TellsEpoch to epoch) none lists = record { reached = refl; promise = refl; epoch = refl; lists = lists }
event_leaves w e none lists = absurd (false≢true (sym (ap is_some none)))

pub masters_leave : MastersLeave
masters_leave w v Rests masters = record { reached = refl; promise = refl; epoch = refl; lists = λ stamp many. (stamp, many, refl) }
masters_leave w v (Goes u e before can) masters =
    let old = masters_leave w u before masters.0 in
    let next = event_leaves u e masters.1 (masters_lists_old u e masters.1) in
    record { reached = next.reached ∙ old.reached; promise = next.promise ∙ old.promise; epoch = next.epoch ∙ old.epoch; lists = lists_then w u (happens u e) old.lists next.lists }
