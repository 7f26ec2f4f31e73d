-- Where the master has told a server to make a chunk as a copy, that is found.
use Rattle.std.proofs.Common.{◌≡◌, ◌∙◌, ◌==◌, ◌++◌, ℕ, zero, suc, MatchOption, inl, inr, Bool, true, false, List, [], ◌∷◌, Option, Some, None, refl, sym, ap, arith, slice_get}
use Rattle.std.specs.Prelude.{filter_map, if◌then◌else◌, is_some}
use Rattle.std.proofs.lemmas.Bool.{eqb-true, false≢true}
use Rattle.std.proofs.lemmas.Bool.Decides.{nat_tests}
use Rattle.gs_base.specs.declared.numbers.Stamp.{Stamp}
use Rattle.gs_msg.specs.Posts.{message_at}
use Rattle.gs_msg.specs.declared.body.Body.{Body}
use Rattle.gs_msg.specs.declared.body.Body.TheVariants as bodies
use Rattle.gs_msg.specs.declared.message.Message.{Message}
use Rattle.gs_msg.specs.declared.outbox.Post.{Post}
use Rattle.gs_world.specs.Sent.{Sent}
use Rattle.gs_laws_moves.specs.moves.Rows.{CopiesNew}
use Rattle.gs_master_spec.specs.Durable.{is_given, start}
use Rattle.std.specs.List.{AllByRecursion}
use Rattle.gs_base.specs.declared.numbers.Moment.{Moment}
use Rattle.gs_msg.specs.Posts.{posted}
use Rattle.gs_msg.specs.declared.node.NodeId.{NodeId}
use Rattle.gs_msg.specs.declared.node.NodeId.TheVariants as nodes
use Rattle.gs_world.specs.Sent.{Appends, Line, lost_all, posts_of, with_line}
use Rattle.gs_laws_lift.specs.stores.Going.{Posts}
use Rattle.gs_laws_lift.specs.stores.Copying.{MakesOther, copied_by, copied_from, is_copied}
use Rattle.gs_laws_lift.proofs.lemmas.stores.Posting.{HasSaid}

-- a list of which one is kept has a first that is
first_kept : {A B : Type 0} (f : A → Option B) (xs : List A) (place : ℕ) (x : A) (y : B) → slice_get xs place ≡ Some x → f x ≡ Some y → is_some (slice_get (filter_map f xs) 0) ≡ true
first_kept f [] place x y at is = absurd (false≢true (ap is_some at))
first_kept f (a ∷ xs) zero x y at is = by_head (f a) (ap f (let same : a ≡ x = cc in same) ∙ is)
  where
    by_head : (o : Option _) → o ≡ Some y → is_some (slice_get (filter_map f (a ∷ xs)) 0) ≡ true
    by_head o found = rw (ap f (let same : a ≡ x = cc in same) ∙ is) refl
first_kept f (a ∷ xs) (suc place) x y at is = by_head (f a) refl (first_kept f xs place x y at is)
  where
    by_head : (o : Option _) → f a ≡ o → is_some (slice_get (filter_map f xs) 0) ≡ true → is_some (slice_get (filter_map f (a ∷ xs)) 0) ≡ true
    by_head None none rest = rw none rest
    by_head (Some b) some rest = rw some refl

-- the message at a place is that of the post there
post_there : (posts : List Post) (place : ℕ) (message : Message) → message_at posts place ≡ Some message → (post : Post) × (slice_get posts place ≡ Some post) × (post.message ≡ Some message)
post_there posts place message at = by_post (slice_get posts place) refl at
  where
    by_post : (o : Option Post) → slice_get posts place ≡ o → message_at posts place ≡ Some message → (post : Post) × (slice_get posts place ≡ Some post) × (post.message ≡ Some message)
    by_post None none is = absurd (false≢true (sym (rw none refl) ∙ ap is_some is))
    by_post (Some post) some is = (post, some, sym (rw some refl) ∙ is)

pub copied_there : (sent : Sent) (message : Message) (me old chunk : ℕ) (at stamp : Stamp) → HasSaid sent message → message.to ≡ nodes.Server me → message.body ≡ bodies.MakeCopy old at chunk stamp → is_copied sent chunk ≡ true
copied_there sent message me old chunk at stamp (place, there) to is =
    let p = post_there sent.master place message there in first_kept (copied_by chunk) sent.master place p.0 (old, at) p.1 (found p.0 p.2)
  where
    itself : (n : ℕ) → (n == n) ≡ true
    itself n = grind (arith, nat_tests)

    found : (post : Post) → post.message ≡ Some message → copied_by chunk post ≡ Some (old, at)
    found post has = rw (has, to, is) (ap (λ b. if b then Some (old, at) else None) (itself chunk))

-- what is found first of those that are kept is there
first_there : {A B : Type 0} (f : A → Option B) (xs : List A) (y : B) → slice_get (filter_map f xs) 0 ≡ Some y → (place : ℕ) × (x : A) × (slice_get xs place ≡ Some x) × (f x ≡ Some y)
first_there f [] y is = absurd (false≢true (ap is_some is))
first_there {A} {B} f (a ∷ xs) y is = by_head (f a) refl (first_there f xs y)
  where
    Found : List A → Type 0
    Found zs = (place : ℕ) × (x : A) × (slice_get zs place ≡ Some x) × (f x ≡ Some y)

    by_head : (o : Option B) → f a ≡ o → (slice_get (filter_map f xs) 0 ≡ Some y → Found xs) → Found (a ∷ xs)
    by_head None none rest =
        let found = rest (sym (rw none refl) ∙ is) in
        (suc found.0, found.1, found.2, found.3)
    by_head (Some b) some rest = (0, a, refl, some ∙ sym (rw some refl) ∙ is)

-- a server was told to make this chunk as a copy of that one
pub record IsToldToCopy (sent : Sent) (old chunk : ℕ) (at : Stamp) : Type 0 where
  pub message : Message
  pub there : HasSaid sent message
  pub me : ℕ
  pub to : message.to ≡ nodes.Server me
  pub stamp : Stamp
  pub is : message.body ≡ bodies.MakeCopy old at chunk stamp

-- Where a chunk is a copy, a server was told to make it.
pub copied_is_told : (sent : Sent) (old chunk : ℕ) (at : Stamp) → copied_from sent chunk ≡ Some (old, at) → IsToldToCopy sent old chunk at
copied_is_told sent old chunk at is =
    let found = first_there (copied_by chunk) sent.master (old, at) is in
    by_message found.0 found.1 found.2 found.1.message refl found.3
  where
    by_body : (moment : Moment) (message : Message) (to : NodeId) (body : Body) → copied_by chunk (record { moment = moment; message = Some (record message { to = to; body = body }) }) ≡ Some (old, at)
        → (me : ℕ) × (stamp : Stamp) × (to ≡ nodes.Server me) × (body ≡ bodies.MakeCopy old at chunk stamp)
    by_body moment message (nodes.Server me) (bodies.MakeCopy from under new stamp) found = by_test (new == chunk) refl found
      where
        source : ℕ → Stamp → ℕ × Stamp
        source handle stamp_of = (handle, stamp_of)

        by_test : (b : Bool) → (new == chunk) ≡ b → (if b then Some (source from under) else None) ≡ Some (source old at) → (me_of : ℕ) × (stamp_of : Stamp) × (nodes.Server me ≡ nodes.Server me_of) × (bodies.MakeCopy from under new stamp ≡ bodies.MakeCopy old at chunk stamp_of)
        by_test false other none = absurd (cc)
        by_test true same some =
            let handle : new ≡ chunk = eqb-true new chunk same in
            let both : source from under ≡ source old at = cc in
            let first : from ≡ old = ap (λ (p : ℕ × Stamp). p.0) both in
            let second : under ≡ at = ap (λ (p : ℕ × Stamp). p.1) both in
            (me, stamp, refl, λ i. bodies.MakeCopy (first i) (second i) (handle i) stamp)
    by_body moment message to body found = absurd (cc)

    by_message : (place : ℕ) (post : Post) → slice_get sent.master place ≡ Some post → (o : Option Message) → post.message ≡ o → copied_by chunk (record post { message = o }) ≡ Some (old, at) → IsToldToCopy sent old chunk at
    by_message place post there None none found = absurd (cc)
    by_message place post there (Some message) some found =
        let x = by_body post.moment message message.to message.body found in
        record { message = message; there = (place, rw there some); me = x.0; to = x.2; stamp = x.1; is = x.3 }

-- a chunk of which the handle was given is made no more
pub makes_others : (chunk next : ℕ) → is_given next chunk ≡ true → (messages : List Message) → AllByRecursion (λ (m : Message). CopiesNew (record start { next_handle = next }) m.body) messages → AllByRecursion (λ (m : Message). MakesOther chunk m.body) messages
makes_others chunk next given [] all = tt
makes_others chunk next given (m ∷ messages) all = (by_body m.body all.0, makes_others chunk next given messages all.1)
  where
    by_body : (body : Body) → CopiesNew (record start { next_handle = next }) body → MakesOther chunk body
    by_body (bodies.MakeCopy old at new stamp) k = λ same. absurd (false≢true (sym k ∙ ap (is_given next) same ∙ given))
    by_body body k = tt

-- and where the master makes no copy that is this chunk, it is the copy that it was
pub copied_still : (chunk : ℕ) (moment : Moment) (messages : List Message) (old new : Sent) → Posts moment nodes.Master messages old new → AllByRecursion (λ (m : Message). MakesOther chunk m.body) messages → copied_from new chunk ≡ copied_from old chunk
copied_still chunk moment messages old new (inl (after, appends, is)) others = ap (λ (s : Sent). copied_from s chunk) is ∙ appended messages (old.master, old.has_lost) after appends others
  where
    none_more : (posts : List Post) (one : Message) → MakesOther chunk one.body → slice_get (filter_map (copied_by chunk) (posts ++ posted moment one ∷ [])) 0 ≡ slice_get (filter_map (copied_by chunk) posts) 0
    none_more [] one other = rw (not_copied one.to one.body other) refl
      where
        not_copied : (to : NodeId) (body : Body) → MakesOther chunk body → copied_by chunk (posted moment (record one { to = to; body = body })) ≡ None
        not_copied (nodes.Server me) (bodies.MakeCopy from at other_chunk stamp) k = ap (λ b. if b then Some (from, at) else None) (differs other_chunk k)
          where
            differs : (n : ℕ) → (n ≡ chunk → ⊥) → (n == chunk) ≡ false
            differs n k = by_test (n == chunk) refl
              where
                by_test : (b : Bool) → (n == chunk) ≡ b → b ≡ false
                by_test false is = refl
                by_test true is = absurd (k (eqb-true n chunk is))
        not_copied to body k = refl
    none_more (post ∷ posts) one other = by_head (copied_by chunk post) refl (none_more posts one other)
      where
        by_head : (o : Option (ℕ × Stamp)) → copied_by chunk post ≡ o → slice_get (filter_map (copied_by chunk) (posts ++ posted moment one ∷ [])) 0 ≡ slice_get (filter_map (copied_by chunk) posts) 0
            → slice_get (filter_map (copied_by chunk) (post ∷ (posts ++ posted moment one ∷ []))) 0 ≡ slice_get (filter_map (copied_by chunk) (post ∷ posts)) 0
        by_head None is rest = rw is rest
        by_head (Some found) is rest = rw is refl

    appended : (ms : List Message) (before after : Line) → Appends moment ms before after → AllByRecursion (λ (m : Message). MakesOther chunk m.body) ms → slice_get (filter_map (copied_by chunk) after.0) 0 ≡ slice_get (filter_map (copied_by chunk) before.0) 0
    appended [] before after is all = ap (λ (l : Line). slice_get (filter_map (copied_by chunk) l.0) 0) is
    appended (one ∷ ms) before after (mid, first, rest) all = appended ms mid after rest all.1 ∙ elim first [
      | inl is ↦ ap (λ (l : Line). slice_get (filter_map (copied_by chunk) l.0) 0) is ∙ none_more before.0 one all.0
      | inr is ↦ ap (λ (l : Line). slice_get (filter_map (copied_by chunk) l.0) 0) is
    ]
copied_still chunk moment messages old new (inr is) others = ap (λ (s : Sent). copied_from s chunk) is

-- Where others send, or the master makes no copy that is this chunk, it is the copy that it was.
pub copied_beside : (chunk : ℕ) (moment : Moment) (by : NodeId) (messages : List Message) (old new : Sent) → Posts moment by messages old new → AllByRecursion (λ (m : Message). MakesOther chunk m.body) messages → copied_from new chunk ≡ copied_from old chunk
copied_beside chunk moment by messages old new (inr is) others = ap (λ (s : Sent). copied_from s chunk) is
copied_beside chunk moment nodes.Master messages old new posts others = copied_still chunk moment messages old new posts others
copied_beside chunk moment (nodes.Server id) messages old new (inl posts) others = by_posts (slice_get old.servers id) posts
  where
    by_posts : (found : Option (List Post)) → MatchOption found (new ≡ record old { has_lost = lost_all messages old.has_lost }) (λ posts. (after : Line) × Appends moment messages (posts, old.has_lost) after × (new ≡ with_line (nodes.Server id) after old)) → copied_from new chunk ≡ copied_from old chunk
    by_posts None is = ap (λ (s : Sent). copied_from s chunk) is
    by_posts (Some posts) (after, appends, is) = ap (λ (s : Sent). copied_from s chunk) is
copied_beside chunk moment (nodes.Client id) messages old new (inl posts) others = by_posts (posts_of old (nodes.Client id)) posts
  where
    by_posts : (found : Option (List Post)) → MatchOption found (new ≡ record old { has_lost = lost_all messages old.has_lost }) (λ posts. (after : Line) × Appends moment messages (posts, old.has_lost) after × (new ≡ with_line (nodes.Client id) after old)) → copied_from new chunk ≡ copied_from old chunk
    by_posts None is = ap (λ (s : Sent). copied_from s chunk) is
    by_posts (Some posts) (after, appends, is) = ap (λ (s : Sent). copied_from s chunk) is
