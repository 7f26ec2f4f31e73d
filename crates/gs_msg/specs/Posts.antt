-- What a node has sent, and how many more it can send without memory.
use Rattle.std.specs.Prelude.{◌≡◌, ℕ, List, [], ◌∷◌, Option, Some, None, slice_get, slice_set, refl}
use Rattle.std.specs.Coded.{Coded, code_by, coded×, coded_ℕ, coded_list}
use Rattle.gs_base.specs.declared.numbers.Moment.{Moment}
use Rattle.gs_msg.specs.declared.message.Message.{Message}
use Rattle.gs_msg.specs.declared.outbox.Post.{Post}
use Rattle.gs_msg.specs.contracts.outbox.Post as post_code

pub record Posted : Type 0 where
  pub posts : List Post
  pub room : ℕ

abbrev pub coded_posted : Coded Posted
coded_posted =
    code_by (List Post × ℕ) (coded× (coded_list post_code.the_row.coded) coded_ℕ)
    (λ p. (p.posts, p.room)) (λ t. record { posts = t.0; room = t.1 }) (λ _. refl)

abbrev pub posted : Moment → Message → Post
posted moment message = record { moment = moment; message = Some message }

-- the message of a post, if there is a post and its message stands there still
abbrev pub message_of : Option Post → Option Message
message_of None = None
message_of (Some post) = post.message

abbrev pub message_at : List Post → ℕ → Option Message
message_at posts place = message_of (slice_get posts place)

abbrev pub given_up : Post → Post
given_up post = record post { message = None }

-- the posts with this one's message given up
abbrev pub without : Option Post → List Post → ℕ → List Post
without None posts place = posts
without (Some post) posts place = slice_set posts place (given_up post)

abbrev pub without_message : List Post → ℕ → List Post
without_message posts place = without (slice_get posts place) posts place

given_up_between : (m n : Moment) (a b : Message) → without_message (posted m a ∷ posted n b ∷ []) 1 ≡ posted m a ∷ record { moment = n; message = None } ∷ []
given_up_between m n a b = refl

given_up_nowhere : (m : Moment) (a : Message) → without_message (posted m a ∷ []) 1 ≡ posted m a ∷ []
given_up_nowhere m a = refl
