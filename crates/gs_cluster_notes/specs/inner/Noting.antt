-- What noting one event does, and what the events of several histories are in one order.
use Rattle.std.specs.Prelude.{◌≡◌, ◌++◌, ◌∷◌, [], Bool, IsTrue, List, map}
use Rattle.gs_base.specs.declared.numbers.Moment.{Moment}
use Rattle.gs_msg.specs.Posts.{posted}
use Rattle.gs_msg.specs.declared.event.Event.{Event}
use Rattle.gs_msg.specs.declared.message.Message.{Message}
use Rattle.gs_msg.specs.declared.outbox.Post.{Post}
use Rattle.gs_cluster_history.specs.Histories.{Entry}
use Rattle.gs_cluster_history.specs.Merging.{Place, event_of, merged}
use Rattle.gs_cluster_notes.specs.declared.notes.Dated.{Dated}
use Rattle.gs_cluster_notes.specs.declared.notes.Notes.{Notes}
use Rattle.gs_cluster_notes.specs.Notes.{dated_all}

-- where all were sent, they stand behind what was
abbrev pub Posts : Moment → List Message → Bool → List Post → List Post → Type 0
Posts moment messages all old new = IsTrue all → new ≡ old ++ map (posted moment) messages

abbrev pub Adds : Dated → List Message → Bool → Notes → Notes → Type 0
Adds dated messages all old new =
    (new.is_whole ≡ old.is_whole) × (IsTrue all → (new.events.items ≡ old.events.items ++ dated ∷ []) × (new.sent.posts ≡ old.sent.posts ++ map (posted dated.event.moment) messages))

-- where each list is a history with its clocks, these are the events of all by (clock, history)
abbrev pub AreMerged : List (List Dated) → List Event → Type 0
AreMerged lists events = (histories : List (List Entry)) → lists ≡ dated_all histories → events ≡ map (λ (p : Place). event_of p.entry.took) (merged histories)
