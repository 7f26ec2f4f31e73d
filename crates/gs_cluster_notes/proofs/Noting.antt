-- What is noted stands behind what was.
use Rattle.std.proofs.Common.{◌≡◌, List, [], ◌∷◌, ◌++◌, map, Bool, append-nil, append_assoc, refl, sym, ap, ◌∙◌, subst}
use Rattle.std.specs.Prelude.{IsTrue}
use Rattle.std.proofs.lemmas.List.{map-append}
use Rattle.gs_base.specs.declared.numbers.Moment.{Moment}
use Rattle.gs_msg.specs.Posts.{posted}
use Rattle.gs_msg.specs.declared.message.Message.{Message}
use Rattle.gs_msg.specs.declared.outbox.Post.{Post}
use Rattle.gs_cluster_history.specs.Histories.{Entry, Listed, listed, moment_of, out_of}
use Rattle.gs_cluster_history.specs.Logs.{sent_at}
use Rattle.gs_cluster_history.specs.declared.took.Took.{Took}
use Rattle.gs_cluster_history.specs.declared.took.Took.TheVariants.{Heard, Did}
use Rattle.gs_cluster_history.specs.Merging.{event_of}
use Rattle.gs_cluster_notes.specs.declared.notes.Dated.{Dated}
use Rattle.gs_cluster_notes.specs.declared.notes.Notes.{Notes}
use Rattle.gs_cluster_notes.specs.Notes.{AllKeep, Keeps, dated_all, dated_of, post_of, posts_all}
use Rattle.gs_cluster_notes.specs.inner.Noting.{Adds}

pub posts_listed : (clock : _) (moment : Moment) (messages : List Message) → map post_of (map (listed clock moment) messages) ≡ map (posted moment) messages
posts_listed clock moment [] = refl
posts_listed clock moment (m ∷ messages) = ap (λ (l : List Post). posted moment m ∷ l) (posts_listed clock moment messages)

same_moment : (took : Took) → (event_of took).moment ≡ moment_of took
same_moment (Heard sent) = refl
same_moment (Did event) = refl

-- notes of one event more
pub noted : (dated : Dated) (messages : List Message) (all : Bool) (old new : Notes) (e : Entry) (entries : List Entry) (before : List Listed) → Adds dated messages all old new → IsTrue all
    → dated ≡ dated_of e → out_of e.outcome ≡ messages → Keeps old entries before → Keeps new (entries ++ e ∷ []) (before ++ sent_at e)
noted dated messages all old new e entries before a is_all is out keeps whole =
    let k = keeps (subst IsTrue a.0 whole) in
    let b = a.1 is_all in
    let moment : dated.event.moment ≡ moment_of e.took = ap (λ (d : Dated). d.event.moment) is ∙ same_moment e.took in (
      b.0 ∙ ap (λ (l : List Dated). l ++ dated ∷ []) k.0 ∙ ap (λ (d : Dated). map dated_of entries ++ d ∷ []) is ∙ sym (map-append dated_of entries (e ∷ [])),
      b.1 ∙ ap (λ (l : List Post). l ++ map (posted dated.event.moment) messages) k.1
          ∙ ap (λ (m : Moment). map post_of before ++ map (posted m) messages) moment
          ∙ ap (λ (ms : List Message). map post_of before ++ map (posted (moment_of e.took)) ms) (sym out)
          ∙ ap (λ (l : List Post). map post_of before ++ l) (sym (posts_listed e.clock (moment_of e.took) (out_of e.outcome)))
          ∙ sym (map-append post_of before (sent_at e)),
    )

-- Notes that are whole, taken apart one after the other: this is done, and those are left.
pub record Parting (given rest : List Notes) (lists : List (List Dated)) (boxes : List (List Post)) (histories : List (List Entry)) (sent : List (List Listed)) : Type 0 where
  pub left : List (List Entry)
  pub unsent : List (List Listed)
  pub keep : AllKeep rest left unsent
  pub events : lists ++ dated_all left ≡ dated_all histories
  pub posts : boxes ++ posts_all unsent ≡ posts_all sent

-- of all histories that the given notes keep
abbrev pub Parted : List Notes → List Notes → List (List Dated) → List (List Post) → Type 0
Parted given rest lists boxes = (histories : List (List Entry)) (sent : List (List Listed)) → AllKeep given histories sent → Parting given rest lists boxes histories sent

pub none_parted : (given rest : List Notes) (lists : List (List Dated)) (boxes : List (List Post)) → rest ≡ given → lists ≡ [] → boxes ≡ [] → Parted given rest lists boxes
none_parted given rest lists boxes same none nothing histories sent keep = record {
  left = histories;
  unsent = sent;
  keep = subst (λ (ns : List Notes). AllKeep ns histories sent) (sym same) keep;
  events = ap (λ (l : List (List Dated)). l ++ dated_all histories) none;
  posts = ap (λ (l : List (List Post)). l ++ posts_all sent) nothing;
}

record First (n : Notes) (rest : List Notes) (left : List (List Entry)) (unsent : List (List Listed)) : Type 0 where
  pub es : List Entry
  pub ls : List Listed
  pub later : List (List Entry)
  pub others : List (List Listed)
  pub left_is : left ≡ es ∷ later
  pub unsent_is : unsent ≡ ls ∷ others
  pub keeps : Keeps n es ls
  pub keep : AllKeep rest later others

first_of : (n : Notes) (rest : List Notes) (left : List (List Entry)) (unsent : List (List Listed)) → AllKeep (n ∷ rest) left unsent → First n rest left unsent
first_of n rest [] unsent k = absurd k
first_of n rest (es ∷ left) [] k = absurd k
first_of n rest (es ∷ left) (ls ∷ unsent) k = record { es = es; ls = ls; later = left; others = unsent; left_is = refl; unsent_is = refl; keeps = k.0; keep = k.1 }

pub one_parted : (given rest : List Notes) (n : Notes) (lists more : List (List Dated)) (boxes others : List (List Post)) → Parted given (n ∷ rest) lists boxes → IsTrue n.is_whole
    → more ≡ lists ++ n.events.items ∷ [] → others ≡ boxes ++ n.sent.posts ∷ [] → Parted given rest more others
one_parted given rest n lists more boxes others p whole longer fuller histories sent keep =
    let q = p histories sent keep in
    let f = first_of n rest q.left q.unsent q.keep in
    let k = f.keeps whole in
    record {
      left = f.later;
      unsent = f.others;
      keep = f.keep;
      events = ap (λ (l : List (List Dated)). l ++ dated_all f.later) longer ∙ append_assoc lists (n.events.items ∷ []) (dated_all f.later)
          ∙ ap (λ (l : List Dated). lists ++ l ∷ dated_all f.later) k.0 ∙ ap (λ (hs : List (List Entry)). lists ++ dated_all hs) (sym f.left_is) ∙ q.events;
      posts = ap (λ (l : List (List Post)). l ++ posts_all f.others) fuller ∙ append_assoc boxes (n.sent.posts ∷ []) (posts_all f.others)
          ∙ ap (λ (l : List Post). boxes ++ l ∷ posts_all f.others) k.1 ∙ ap (λ (ss : List (List Listed)). boxes ++ posts_all ss) (sym f.unsent_is) ∙ q.posts;
    }

no_more : (rest : List Notes) (left : List (List Entry)) (unsent : List (List Listed)) → rest ≡ [] → AllKeep rest left unsent → (left ≡ []) × (unsent ≡ [])
no_more [] [] [] none k = (refl, refl)
no_more [] [] (ls ∷ unsent) none k = absurd k
no_more [] (es ∷ left) unsent none k = absurd k
no_more (n ∷ rest) left unsent none k = absurd cc

pub all_parted : (given rest : List Notes) (lists : List (List Dated)) (boxes : List (List Post)) → Parted given rest lists boxes → rest ≡ [] → (histories : List (List Entry)) (sent : List (List Listed)) → AllKeep given histories sent
    → (lists ≡ dated_all histories) × (boxes ≡ posts_all sent)
all_parted given rest lists boxes p none histories sent keep =
    let q = p histories sent keep in
    let over = no_more rest q.left q.unsent none q.keep in (
      sym (append-nil lists) ∙ ap (λ (hs : List (List Entry)). lists ++ dated_all hs) (sym over.0) ∙ q.events,
      sym (append-nil boxes) ∙ ap (λ (ss : List (List Listed)). boxes ++ posts_all ss) (sym over.1) ∙ q.posts,
    )
