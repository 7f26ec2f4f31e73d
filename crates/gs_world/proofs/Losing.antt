-- A message that is lost is told.
use Rattle.std.proofs.Common.{◌≡◌, ◌∙◌, ◌++◌, ℕ, Bool, true, false, List, [], ◌∷◌, Option, Some, None, MatchOption, Result, Ok, Err, map, refl, sym, ap, subst, inl, inr, append-nil, append_assoc}
use Rattle.gs_base.specs.declared.numbers.Moment.{Moment}
use Rattle.gs_base.specs.declared.refusal.Refusal.{Refusal}
use Rattle.gs_msg.specs.Posts.{posted}
use Rattle.gs_msg.specs.declared.event.DiskId.{DiskId}
use Rattle.gs_msg.specs.declared.message.Message.{Message}
use Rattle.gs_msg.specs.declared.node.NodeId.{NodeId}
use Rattle.gs_msg.specs.declared.node.NodeId.TheVariants as nodes
use Rattle.gs_msg.specs.declared.outbox.Post.{Post}
use Rattle.gs_nodes.specs.declared.place.MasterPlace.{MasterPlace}
use Rattle.gs_world.specs.Histories.{History, Upshot, Tells}
use Rattle.gs_world.specs.Runs.{Goes, RunsTo, Step, Comes, Takes}
use Rattle.gs_world.specs.Sent.{AllPosted, Appends, IsPosted, Line, Sent, lost_all, posts_of, with_line, with_posts}

abbrev pub line : List Post → Bool → Line
line posts has_lost = (posts, has_lost)

-- ---- it stays told

pub appended_lost : (moment : Moment) (messages : List Message) (old new : Line) → Appends moment messages old new → old.1 ≡ true → new.1 ≡ true
appended_lost moment [] old new is lost = subst (λ (l : Line). l.1 ≡ true) (sym is) lost
appended_lost moment (one ∷ messages) old new (mid, first, rest) lost = appended_lost moment messages mid new rest (elim first [
  | inl is ↦ subst (λ (l : Line). l.1 ≡ true) (sym is) lost
  | inr is ↦ subst (λ (l : Line). l.1 ≡ true) (sym is) refl
])

all_lost : (messages : List Message) (has_lost : Bool) → has_lost ≡ true → lost_all messages has_lost ≡ true
all_lost [] has_lost lost = lost
all_lost (message ∷ messages) has_lost lost = refl

pub told_by : (by : NodeId) (l : Line) (s : Sent) → (with_line by l s).has_lost ≡ l.1
told_by nodes.Master l s = refl
told_by (nodes.Server id) l s = refl
told_by (nodes.Client id) l s = refl

posts_lost : (found : Option (List Post)) (moment : Moment) (by : NodeId) (messages : List Message) (old new : Sent)
    → MatchOption found (new ≡ record old { has_lost = lost_all messages old.has_lost }) (λ posts. (after : Line) × Appends moment messages (posts, old.has_lost) after × (new ≡ with_line by after old))
    → old.has_lost ≡ true → new.has_lost ≡ true
posts_lost None moment by messages old new same lost = ap (λ (s : Sent). s.has_lost) same ∙ all_lost messages old.has_lost lost
posts_lost (Some posts) moment by messages old new (after, appends, same) lost =
    ap (λ (s : Sent). s.has_lost) same ∙ told_by by after old ∙ appended_lost moment messages (line posts old.has_lost) after appends lost

module _ {D : Type 0} (seen : D → List ℕ) (failures : D → ℕ) (armed : DiskId → ℕ → MasterPlace D → MasterPlace D) where
  telling_lost : (moment : Moment) (by : NodeId) (outcome : Upshot) (old : Sent) (said : Result (Unit {0}) Refusal) (new : Sent)
      → Tells seen failures armed moment by outcome old said new → old.has_lost ≡ true → new.has_lost ≡ true
  telling_lost moment by (Ok (messages, what)) old said new (posts, is) lost = posts_lost (posts_of old by) moment by messages old new posts lost
  telling_lost moment by (Err refusal) old said new (same, is) lost = ap (λ (s : Sent). s.has_lost) same ∙ lost

  step_lost : (step : Step) (old new : History D) → Goes seen failures armed step old new → old.sent.has_lost ≡ true → new.sent.has_lost ≡ true
  step_lost (Comes event) old new (said, h) lost = telling_lost event.moment h.by h.outcome old.sent said new.sent h.tells lost
  step_lost (Takes client) old new (found, takes, same) lost = ap (λ (s : Sent). s.has_lost) same ∙ lost

  pub run_lost : (steps : List Step) (old new : History D) → RunsTo seen failures armed steps old new → old.sent.has_lost ≡ true → new.sent.has_lost ≡ true
  run_lost [] old new same lost = ap (λ (h : History D). h.sent.has_lost) same ∙ lost
  run_lost (step ∷ steps) old new (mid, first, rest) lost = run_lost steps mid new rest (step_lost step old mid first lost)

-- ---- where none is lost, all stand in order

not_both : (has_lost : Bool) → has_lost ≡ true → has_lost ≡ false → ⊥
not_both has_lost lost none = cc

appended_all : (moment : Moment) (messages : List Message) (old new : Line) → Appends moment messages old new → new.1 ≡ false
    → new ≡ line (old.0 ++ map (posted moment) messages) old.1
appended_all moment [] old new is none = is ∙ ap (λ (posts : List Post). line posts old.1) (sym (append-nil old.0))
appended_all moment (one ∷ messages) old new (mid, first, rest) none = elim first [
  | inl is ↦
      appended_all moment messages mid new rest none
      ∙ (ap (λ (l : Line). line (l.0 ++ map (posted moment) messages) l.1) is
      ∙ ap (λ (posts : List Post). line posts old.1) (append_assoc old.0 (posted moment one ∷ []) (map (posted moment) messages)))
  | inr is ↦ absurd (not_both new.1 (appended_lost moment messages mid new rest (ap (λ (l : Line). l.1) is)) none)
]

as_posts : (by : NodeId) (posts : List Post) (s : Sent) → with_line by (line posts s.has_lost) s ≡ with_posts by posts s
as_posts nodes.Master posts s = refl
as_posts (nodes.Server id) posts s = refl
as_posts (nodes.Client id) posts s = refl

nothing_sent : (messages : List Message) (old new : Sent) → new ≡ record old { has_lost = lost_all messages old.has_lost } → new.has_lost ≡ false → (messages ≡ []) × (new ≡ old)
nothing_sent [] old new same none = (refl, same)
nothing_sent (message ∷ messages) old new same none = absurd (not_both new.has_lost (ap (λ (s : Sent). s.has_lost) same) none)

posts_all : (found : Option (List Post)) (moment : Moment) (by : NodeId) (messages : List Message) (old new : Sent)
    → MatchOption found (new ≡ record old { has_lost = lost_all messages old.has_lost }) (λ posts. (after : Line) × Appends moment messages (posts, old.has_lost) after × (new ≡ with_line by after old))
    → new.has_lost ≡ false
    → MatchOption found ((messages ≡ []) × (new ≡ old)) (λ posts. new ≡ with_posts by (posts ++ map (posted moment) messages) old)
posts_all None moment by messages old new same none = nothing_sent messages old new same none
posts_all (Some posts) moment by messages old new (after, appends, same) none =
    let open_end : after.1 ≡ false = sym (told_by by after old) ∙ (sym (ap (λ (s : Sent). s.has_lost) same) ∙ none) in
    same
    ∙ (ap (λ (l : Line). with_line by l old) (appended_all moment messages (line posts old.has_lost) after appends open_end)
    ∙ as_posts by (posts ++ map (posted moment) messages) old)

pub all_posted : (moment : Moment) (by : NodeId) (messages : List Message) (old new : Sent) → IsPosted moment by messages old new → new.has_lost ≡ false → AllPosted moment by messages old new
all_posted moment by messages old new posts none = posts_all (posts_of old by) moment by messages old new posts none
