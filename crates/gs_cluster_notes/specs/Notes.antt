-- What is noted of a node's history.
use Rattle.std.specs.Prelude.{◌≡◌, ◌++◌, List, [], ◌∷◌, Option, None, Ok, IfSome, IsTrue, map, refl, ⊤}
use Rattle.gs_msg.specs.Posts.{posted}
use Rattle.gs_msg.specs.declared.event.Event.{Event}
use Rattle.gs_msg.specs.declared.event.Happening.TheVariants as happenings
use Rattle.gs_msg.specs.declared.message.Message.{Message}
use Rattle.gs_msg.specs.declared.node.StoreNode.TheVariants as keepers
use Rattle.gs_msg.specs.declared.outbox.Post.{Post}
use Rattle.gs_msg.specs.declared.sent.Sent.{Sent}
use Rattle.gs_cluster_history.specs.Histories.{Entry, Listed, out_of}
use Rattle.gs_cluster_history.specs.Logs.{sent_at}
use Rattle.gs_cluster_history.specs.Merging.{Place, event_of, merged}
use Rattle.gs_cluster_history.specs.declared.took.Took.TheVariants.{Heard, Did}
use Rattle.gs_cluster_notes.specs.declared.notes.Dated.{Dated}
use Rattle.gs_cluster_notes.specs.declared.notes.Notes.{Notes}

abbrev pub dated_of : Entry → Dated
dated_of e = record { clock = e.clock; event = event_of e.took }

-- as it stands among what was sent
abbrev pub post_of : Listed → Post
post_of l = posted l.moment l.message

-- Notes that are whole tell all of a history, and all that was sent.
abbrev pub Keeps : Notes → List Entry → List Listed → Type 0
Keeps notes entries sent = IsTrue notes.is_whole → (notes.events.items ≡ map dated_of entries) × (notes.sent.posts ≡ map post_of sent)

-- of several histories
abbrev pub dated_all : List (List Entry) → List (List Dated)
dated_all histories = map (λ es. map dated_of es) histories

abbrev pub posts_all : List (List Listed) → List (List Post)
posts_all sent = map (λ ls. map post_of ls) sent

-- Each keeps the history in its place, and what was sent there.
abbrev pub AllKeep : List Notes → List (List Entry) → List (List Listed) → Type 0
AllKeep [] [] [] = ⊤
AllKeep (n ∷ notes) (es ∷ histories) (ls ∷ sent) = Keeps n es ls × AllKeep notes histories sent
AllKeep notes histories sent = ⊥

-- Notes that keep a history keep it with one entry more, if what is noted is that entry, and what was sent at it.
abbrev pub KeepsOneMore : Option Dated → List Message → Notes → Notes → Type 0
KeepsOneMore dated sent old new = (e : Entry) (entries : List Entry) (before : List Listed) → IfSome dated (λ d. d ≡ dated_of e) → out_of e.outcome ≡ sent
    → Keeps old entries before → Keeps new (entries ++ e ∷ []) (before ++ sent_at e)

-- Of notes that keep histories, these are all events by (clock, node).
abbrev pub TellsEvents : List Notes → List Event → Type 0
TellsEvents notes events = (histories : List (List Entry)) (sent : List (List Listed)) → AllKeep notes histories sent → events ≡ map (λ (p : Place). event_of p.entry.took) (merged histories)

-- And this is what each node has sent.
abbrev pub TellsSent : List Notes → List (List Post) → Type 0
TellsSent notes posts = (histories : List (List Entry)) (sent : List (List Listed)) → AllKeep notes histories sent → posts ≡ posts_all sent

-- Worked: the master hears a message at clock 9, and sends one on it; it ticks at clock 10, and sends nothing.
module _ (heard : Sent) (reply : Message) where
  abbrev hears : Entry
  hears = record { clock = 9; took = Heard heard; outcome = Ok (reply ∷ [], None) }

  abbrev ticks : Entry
  ticks = record { clock = 10; took = Did (record { moment = record { 0 = 6 }; happening = happenings.Tick keepers.Master }); outcome = Ok ([], None) }

  its_events : map dated_of (hears ∷ ticks ∷ []) ≡
      record { clock = 9; event = record { moment = heard.moment; happening = happenings.Deliver (record { sender = heard.from; place = heard.place }) } }
      ∷ record { clock = 10; event = record { moment = record { 0 = 6 }; happening = happenings.Tick keepers.Master } } ∷ []
  its_events = refl

  its_posts : map post_of (sent_at hears ++ sent_at ticks) ≡ posted heard.moment reply ∷ []
  its_posts = refl
